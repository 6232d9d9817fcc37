-- What the writer writes is read: its commands, and then what opening it leaves.
use mathlib.Core.Path.{◌≡◌, refl, sym, ap, ◌∙◌}
use mathlib.Core.Bool.{Bool, true, false, cond, ◌||◌}
use mathlib.Core.Logic.{◌⊎◌, inl, inr, ⊎_elim}
use mathlib.Core.List.{List, [], ◌∷◌, ◌++◌, append_assoc, append-nil}
use Prim.Native.Nat.{ℕ, ◌+◌, ◌*◌, ◌/◌, ◌%◌, ◌≤◌, ◌<◌}
use native.Mathlib.Nat.{zero-add, add-zero, mul-one}
use native.Mathlib.Omega.{arith}
use lib.Dec.{eqb, lit<, lit≤}
use lib.ListN.{length}
use borrow.Author.Tests.{le-ltb, ne_eqb}
use Rattle.std.specs.Prelude.{Ok}
use Rattle.field_base.specs.Words.{all_below}
use Rattle.field_montgomery.specs.Form.{in_form}
use Rattle.air.specs.MainColumn.{MAIN-WIDTH}
use Rattle.air.specs.ChallengeId.{SAMPLED-WORDS, DIGEST-WORDS}
use Rattle.table_rows.specs.Rows.{rows}
use Rattle.batch_words.specs.Words.{words, little_endian}
use Rattle.batch_words.proofs.Writing.{length-little_endian, number_little_endian}
use Rattle.batch_commands.specs.Format.{END, TRACE-ROWS, ROW, OP-STACK, RAM, JUMP-STACK, SAMPLED, DIGEST, INPUT, OUTPUT, MONTGOMERY-ROW, HEIGHT, COMMANDS, MAX-LOG-2-HEIGHT, width, limit, key_width, key, rank, Command, laid_out}
use Rattle.field_montgomery.specs.declared.Form.{Form}
use Rattle.field_montgomery.specs.declared.Form.TheVariants.{Plain, Montgomery}
use Rattle.batch_commands.specs.Form.{row_command, other_form}
use Rattle.batch_commands.proofs.Tables.{of_each, of_any, row_known, row_limit, row_rank}
use Rattle.batch_commands.proofs.Laid.{laid_append}
use Rattle.batch_reader.specs.Commands.{count, counts, contents, form_of, slice_from, announced, height_of}
use Rattle.batch_reader.specs.Reading.{read, reading}
use Rattle.batch_reader.specs.Answers.{counts_in}
use Rattle.batch_reader.proofs.Commands.{count-append, contents_append, length-contents}
use Rattle.batch_reader.proofs.Forms.{rows_counted}
use Rattle.batch_reader.proofs.Rows.{length-rows}
use Rattle.batch_reader.proofs.Ordered.{OrderedFrom, Every, every_append}
use Rattle.batch_reader.proofs.LaidOut.{end, is_read}
use Rattle.batch.specs.Open.{MAX-BYTES, open_answer}
use Rattle.batch_sorted.specs.Sorted.{sorted}
use Rattle.batch_sorted.proofs.Lengths.{length-sorted}
use Rattle.batch_lengths.proofs.Tests.{height_few}
use Rattle.batch_writer.specs.Contents.{Contents}
use Rattle.batch_writer.specs.Layout.{commands_of_height, batch_of}
use Rattle.batch_writer.proofs.Answers.{the_batch}
use Rattle.batch_writer.proofs.Parts.{length-batch_of}
use Rattle.batch_writer.proofs.Heights.{small}
use Rattle.terms_batches.specs.Opening.{opened, slices_after, up_to, counts_of}
use Rattle.terms_batches.specs.Written.{RightSlices, with_sorted_lists, WrittenOpens, WrittenForm, WrittenAgain}
use Rattle.terms_batches.proofs.Canonical.{contents_in, announced_rows, canonical}
use Rattle.terms_batches.proofs.Heights.{not_refused, count-height, counted_height, contents_height, proper_height, ordered_height, height_there, height_set_there}
use Rattle.terms_batches.proofs.Joined.{Fits, unkeyed, keyed, each_joined, counted, count-joined, held, contents_joined, ordered_joined}
use Rattle.terms_batches.proofs.Opened.{opening, left_in_slices}
use Rattle.terms_batches.proofs.Sections.{section, joined, sections_of, announcing, commands_of_lem}
use Rattle.terms_batches.proofs.Sorted.{below_sorted, sorted_ascends}
use Rattle.terms_batches.proofs.Sound.{Proper, contents_below, Sound, sound, form_of_lem, rows_of, faultless, complete}
use Rattle.field_montgomery.proofs.Many.{plain_in_form, below_in_form, below_plain, length-in_form}
use Rattle.terms_batches.proofs.Filled.{Filled}
use Rattle.terms_batches.proofs.Writable.{Writable, writable, done}

-- words in their order
unsorted : (n code : ℕ) (ws : List ℕ) → code < COMMANDS → (code ≡ END → ⊥) → 8 * (width code / 8) ≡ width code → key_width code ≡ 0 → n * (width code / 8) ≡ length ws → all_below ws ≡ true → Fits (section n code ws)
unsorted n code ws known more even unkey exact below = record { known = known; more = more; even = even; filled = record { exact = exact; below = below }; chained = unkeyed n code ws unkey }

-- differences, sorted
differences : (code : ℕ) (ws : List ℕ) → code < COMMANDS → (code ≡ END → ⊥) → width code ≡ 8 → key_width code ≡ 8 → all_below ws ≡ true → Fits (section (length ws) code (sorted ws))
differences code ws known more wide keys below =
    let filled : Filled (length ws) code (sorted ws) = record { exact = rw (wide, length-sorted ws) (mul-one (length ws)); below = below_sorted ws ∙ below } in
    record { known = known; more = more; even = rw wide; filled = filled; chained = keyed 0 (length ws) code (sorted ws) wide keys filled (sorted_ascends ws) }

-- rows, in either form
rows_fit : (form : Form) (n : ℕ) (ws : List ℕ) → n * (width ROW / 8) ≡ length ws → all_below ws ≡ true → Fits (section n (row_command form) (in_form form ws))
rows_fit Plain n ws exact below = unsorted n ROW ws (lit< tt) (λ e. omega arith) refl refl exact below
rows_fit Montgomery n ws exact below = unsorted n MONTGOMERY-ROW (in_form Montgomery ws) (lit< tt) (λ e. omega arith) refl refl (exact ∙ sym (length-in_form Montgomery ws)) (below_in_form Montgomery ws below)

module _ (c : Contents) where
  -- a command that is no row: the form changes neither how often it stands nor what it brings
  module _ (code : ℕ) (no_row : (eqb code ROW || eqb code MONTGOMERY-ROW) ≡ false) where
    other : (form : Form) → eqb (row_command form) code ≡ false
    other Plain = ne_eqb ROW code (λ e. of_any Montgomery code no_row (sym e))
    other Montgomery = ne_eqb MONTGOMERY-ROW code (λ e. of_any Plain code no_row (sym e))

    counted_alike : (form : Form) → counted code (sections_of form c) ≡ counted code (sections_of Plain c)
    counted_alike form = rw (other form, other Plain)

    held_alike : (form : Form) → held code (sections_of form c) ≡ held code (sections_of Plain c)
    held_alike form = rw (other form, other Plain)

  counted_rows : (form : Form) → counted (row_command form) (sections_of form c) ≡ rows c.trace
  counted_rows Plain = omega arith
  counted_rows Montgomery = omega arith

  counted_others : (form : Form) → counted (row_command (other_form form)) (sections_of form c) ≡ 0
  counted_others Plain = refl
  counted_others Montgomery = refl

  held_rows : (form : Form) → held (row_command form) (sections_of form c) ≡ in_form form c.trace ++ []
  held_rows Plain = refl
  held_rows Montgomery = refl

abbrev commands_in : Form → Contents → List Command
commands_in form c = announcing (rows c.trace) ∷ (commands_of_height c.log2_height ++ joined (sections_of form c))

either : (form row : Form) → (row ≡ form) ⊎ (row ≡ other_form form)
either Plain Plain = inl refl
either Plain Montgomery = inr refl
either Montgomery Plain = inr refl
either Montgomery Montgomery = inl refl

no_first : (form : Form) → eqb TRACE-ROWS (row_command form) ≡ false
no_first Plain = refl
no_first Montgomery = refl

no_height : (form : Form) → eqb HEIGHT (row_command form) ≡ false
no_height Plain = refl
no_height Montgomery = refl

module _ (form : Form) (c : Contents) (n : ℕ) (w : Writable c n) where
  fits : Every Fits (sections_of form c)
  fits =
      let digest = unsorted 1 DIGEST c.digest (lit< tt) (λ e. omega arith) refl refl (omega (arith, w.lengths.digest)) w.digest in
      let input = unsorted (length c.input) INPUT c.input (lit< tt) (λ e. omega arith) refl refl (omega arith) w.input in
      let output = unsorted (length c.output) OUTPUT c.output (lit< tt) (λ e. omega arith) refl refl (omega arith) w.output in
      let sampled = unsorted 1 SAMPLED c.sampled (lit< tt) (λ e. omega arith) refl refl (omega (arith, w.lengths.sampled)) w.sampled in
      let trace = rows_fit form (rows c.trace) c.trace (omega (arith, w.lengths.whole)) w.trace in
      let op_stack = differences OP-STACK c.op_stack (lit< tt) (λ e. omega arith) refl refl w.op_stack in
      let ram = differences RAM c.ram (lit< tt) (λ e. omega arith) refl refl w.ram in
      let jump_stack = differences JUMP-STACK c.jump_stack (lit< tt) (λ e. omega arith) refl refl w.jump_stack in
      (digest, (input, (output, (sampled, (trace, (op_stack, (ram, (jump_stack, tt))))))))

  announces : announced (commands_in form c) ≡ rows c.trace
  announces = number_little_endian 4 (rows c.trace) (omega (arith, w.few_rows))

  abbrev k : ℕ
  k = c.log2_height

  -- how many of a kind
  counts_all : (code : ℕ) → count code (commands_in form c) ≡ cond (eqb TRACE-ROWS code) 1 0 + (count code (commands_of_height k) + counted code (sections_of form c))
  unfolding count
  counts_all code = ap (◌+◌ (cond (eqb TRACE-ROWS code) 1 0)) (count-append code (commands_of_height k) (joined (sections_of form c)) ∙ ap (◌+◌ (count code (commands_of_height k))) (count-joined code (sections_of form c)))

  -- of one that is not 0B
  counts_are : (code : ℕ) → eqb HEIGHT code ≡ false → count code (commands_in form c) ≡ cond (eqb TRACE-ROWS code) 1 0 + counted code (sections_of form c)
  counts_are code other = counts_all code ∙ ap (λ m. cond (eqb TRACE-ROWS code) 1 0 + (m + counted code (sections_of form c))) (count-height k code other) ∙ ap (◌+◌ (cond (eqb TRACE-ROWS code) 1 0)) (zero-add (counted code (sections_of form c)))

  -- and no row
  counts_alike : (code : ℕ) → eqb HEIGHT code ≡ false → (eqb code ROW || eqb code MONTGOMERY-ROW) ≡ false → count code (commands_in form c) ≡ cond (eqb TRACE-ROWS code) 1 0 + counted code (sections_of Plain c)
  counts_alike code other no_row = counts_are code other ∙ ap (◌+◌ (cond (eqb TRACE-ROWS code) 1 0)) (counted_alike c code no_row form)

  -- of 0B
  none_joined : counted HEIGHT (sections_of form c) ≡ 0
  none_joined = counted_alike c HEIGHT refl form

  count-heights : count HEIGHT (commands_in form c) ≡ cond (eqb k 0) 0 1
  count-heights = counts_all HEIGHT ∙ rw (none_joined, counted_height k) (zero-add (cond (eqb k 0) 0 1 + 0) ∙ add-zero (cond (eqb k 0) 0 1))

  count-rows : count (row_command form) (commands_in form c) ≡ rows c.trace
  count-rows = counts_are (row_command form) (no_height form) ∙ rw (no_first form) (zero-add (counted (row_command form) (sections_of form c)) ∙ counted_rows c form)

  count-others : count (row_command (other_form form)) (commands_in form c) ≡ 0
  count-others = counts_are (row_command (other_form form)) (no_height (other_form form)) ∙ rw (no_first (other_form form)) (zero-add (counted (row_command (other_form form)) (sections_of form c)) ∙ counted_others c form)

  under : (code : ℕ) → eqb HEIGHT code ≡ false → (eqb code ROW || eqb code MONTGOMERY-ROW) ≡ false → cond (eqb TRACE-ROWS code) 1 0 + counted code (sections_of Plain c) ≤ limit (rows c.trace) code → count code (commands_in form c) ≤ limit (announced (commands_in form c)) code
  under code other no_row h = rw (counts_alike code other no_row, announces) h

  under_rows : (row : Form) → count (row_command row) (commands_in form c) ≤ rows c.trace → count (row_command row) (commands_in form c) ≤ limit (announced (commands_in form c)) (row_command row)
  under_rows row h = rw (announces, row_limit (rows c.trace) row) h

  at_most : (row : Form) → count (row_command row) (commands_in form c) ≤ rows c.trace
  at_most row = ⊎_elim (λ e. rw e (omega (arith, count-rows))) (λ e. rw e (omega (arith, count-others))) (either form row)

  one_by : (none : Bool) → cond none 0 1 ≤ 1
  one_by true = lit≤ tt
  one_by false = lit≤ tt

  one_height : count HEIGHT (commands_in form c) ≤ limit (announced (commands_in form c)) HEIGHT
  one_height = rw count-heights (one_by (eqb k 0))

  -- k is as it was told
  small_k : k ≤ MAX-LOG-2-HEIGHT
  small_k = small (rows c.trace) k w.height

  height_so : height_of (commands_in form c) ≡ k
  unfolding height_of
  height_so = height_there k (omega (arith, small_k)) (joined (sections_of form c)) (count-joined HEIGHT (sections_of form c) ∙ none_joined)

  under_limits : (code : ℕ) → code < COMMANDS → count code (commands_in form c) ≤ limit (announced (commands_in form c)) code
  under_limits =
      let op_stack = under OP-STACK refl refl (omega (arith, w.lengths.op_stack)) in
      let ram = under RAM refl refl (omega (arith, w.lengths.ram)) in
      let jump_stack = under JUMP-STACK refl refl (omega (arith, w.lengths.jump_stack)) in
      let input = under INPUT refl refl (omega (arith, w.lengths.input)) in
      let output = under OUTPUT refl refl (omega (arith, w.lengths.output)) in
      of_each (λ code. count code (commands_in form c) ≤ limit (announced (commands_in form c)) code)
      (under END refl refl (lit≤ tt), (under TRACE-ROWS refl refl (lit≤ tt), (under_rows Plain (at_most Plain), (op_stack, (ram, (jump_stack, (under SAMPLED refl refl (lit≤ tt), (under DIGEST refl refl (lit≤ tt), (input, (output, (under_rows Montgomery (at_most Montgomery), (one_height, tt))))))))))))

  behind_01 : ((r a : ℕ) → r < rank DIGEST → OrderedFrom r a (joined (sections_of form c) ++ (end ∷ []))) → OrderedFrom 0 (key TRACE-ROWS (little_endian 4 (rows c.trace))) ((commands_of_height k ++ joined (sections_of form c)) ++ (end ∷ []))
  behind_01 h = rw append_assoc (ordered_height k (key TRACE-ROWS (little_endian 4 (rows c.trace))) (joined (sections_of form c) ++ (end ∷ [])) h)

  sound_so : Sound form (commands_in form c)
  unfolding all_below words
  sound_so =
      record {
        starts = refl;
        some_rows = rw announces w.some_rows;
        few_rows = rw announces w.few_rows;
        each = (record { known = lit< tt; more = λ e. omega arith; whole = length-little_endian 4 (rows c.trace); below = refl }, every_append Proper (commands_of_height k) (joined (sections_of form c)) (proper_height k) (each_joined (sections_of form c) fits));
        in_order = ((omega arith, λ e. omega arith), behind_01 (λ r a l. ordered_joined r a (sections_of form c) (l, (lit< tt, (lit< tt, (lit< tt, (rw (row_rank form) (lit< tt), (rw (row_rank form) (lit< tt), (lit< tt, (lit< tt, lit< tt)))))))) fits));
        within = under_limits;
        all_rows = rw (announces, count-rows) (omega arith);
        one_form = count-others;
        sampled = rw (counts_alike SAMPLED refl refl) (lit≤ tt);
        digest = rw (counts_alike DIGEST refl refl) (lit≤ tt);
        height = height_set_there k (commands_in form c) (rows c.trace) count-heights height_so announces w.height;
      }

  batch_is : batch_of form c ≡ laid_out (commands_in form c) ++ (END ∷ [])
  unfolding batch_of laid_out
  batch_is = ap laid_out (commands_of_lem form c) ∙ laid_append (commands_in form c) (end ∷ [])

  reads : reading (batch_of form c) ≡ read (commands_in form c)
  reads = is_read (batch_of form c) (commands_in form c) (record { is = batch_is; faultless = faultless form (commands_in form c) sound_so; complete = complete form (commands_in form c) sound_so })

  short : length (batch_of form c) ≤ MAX-BYTES
  short = omega (arith, height_few k, length-batch_of form c w.lengths.whole w.lengths.sampled w.lengths.digest, w.few_rows, w.lengths.op_stack, w.lengths.ram, w.lengths.jump_stack, w.lengths.input, w.lengths.output)

  counts_so : counts_in (counts (commands_in form c)) (height_of (commands_in form c)) ≡ counts_of c
  counts_so = rw (rows_of form (commands_in form c) sound_so, count-rows, counts_alike OP-STACK refl refl, counts_alike RAM refl refl, counts_alike JUMP-STACK refl refl, counts_alike INPUT refl refl, counts_alike OUTPUT refl refl, height_so) (simp (zero-add, add-zero))

  opens : (lent : Contents) → RightSlices lent → opened (batch_of form c) lent ≡ Ok (counts_of c)
  unfolding open_answer
  opens lent right = rw (le-ltb MAX-BYTES (length (batch_of form c)) short, right, reads) (ap Ok counts_so)

  -- what a kind brings
  brings : (code : ℕ) (ws : List ℕ) → eqb TRACE-ROWS code ≡ false → held code (sections_of form c) ≡ ws ++ [] → contents code (commands_in form c) ≡ ws
  unfolding contents
  brings code ws other e = rw (other, contents_append code (commands_of_height k) (joined (sections_of form c)), contents_height k code, contents_joined code (sections_of form c) fits, e) (append-nil ws)

  list_brings : (code : ℕ) (ws : List ℕ) → eqb TRACE-ROWS code ≡ false → (eqb code ROW || eqb code MONTGOMERY-ROW) ≡ false → held code (sections_of Plain c) ≡ ws ++ [] → contents code (commands_in form c) ≡ ws
  list_brings code ws first no_row e = brings code ws first (held_alike c code no_row form ∙ e)

  rows_bring : slice_from ROW (commands_in form c) ≡ c.trace
  rows_bring = rw (form_of_lem form (commands_in form c) sound_so, brings (row_command form) (in_form form c.trace) (no_first form) (held_rows c form)) (plain_in_form form c.trace w.trace)

  contents_so : contents_in (commands_in form c) ≡ with_sorted_lists c
  contents_so =
      λ i. record {
        trace = rows_bring i;
        op_stack = list_brings OP-STACK (sorted c.op_stack) refl refl refl i;
        ram = list_brings RAM (sorted c.ram) refl refl refl i;
        jump_stack = list_brings JUMP-STACK (sorted c.jump_stack) refl refl refl i;
        sampled = list_brings SAMPLED c.sampled refl refl refl i;
        digest = list_brings DIGEST c.digest refl refl refl i;
        input = list_brings INPUT c.input refl refl refl i;
        output = list_brings OUTPUT c.output refl refl refl i;
        log2_height = height_so i;
      }

  leaves : (lent : Contents) → RightSlices lent → up_to (counts_of c) (slices_after (batch_of form c) lent) ≡ with_sorted_lists c
  leaves lent right =
      let e = opens lent right in
      let o = opening (batch_of form c) lent (counts_of c) e in
      let same : read o.ks ≡ read (commands_in form c) = sym o.is_read ∙ reads in
      let commands : o.ks ≡ commands_in form c = cc in
      left_in_slices (batch_of form c) lent (counts_of c) e ∙ ap contents_in commands ∙ contents_so

pub written_opens : WrittenOpens
written_opens form c batch e lent right =
    let w = writable form c (length batch) e in
    rw (sym (the_batch form c batch (sym e))) (opens form c (length batch) w lent right, leaves form c (length batch) w lent right)

pub written_form : WrittenForm
written_form form c batch e =
    let w = writable form c (length batch) e in
    rw (sym (the_batch form c batch (sym e)), reads form c (length batch) w) (form_of_lem form (commands_in form c) (sound_so form c (length batch) w))

-- what commands bring, the writer takes
takes : (ks : List Command) → Sound (form_of ks) ks → (n : ℕ) → n ≡ length (batch_of (form_of ks) (contents_in ks)) → Writable (contents_in ks) n
takes ks s n size =
    let c = contents_in ks in
    let some = s.some_rows in
    let few = s.few_rows in
    let all = s.all_rows in
    let form = form_of ks in
    let whole : length c.trace % MAIN-WIDTH ≡ 0 = omega (arith, length-rows ks) in
    let sampled : length c.sampled ≡ SAMPLED-WORDS = omega (arith, length-contents SAMPLED ks, s.sampled, s.within SAMPLED (lit< tt)) in
    let digest : length c.digest ≡ DIGEST-WORDS = omega (arith, length-contents DIGEST ks, s.digest, s.within DIGEST (lit< tt)) in
    record {
      lengths = record {
        whole = whole;
        op_stack = omega (arith, length-contents OP-STACK ks, s.within OP-STACK (lit< tt));
        ram = omega (arith, length-contents RAM ks, s.within RAM (lit< tt));
        jump_stack = omega (arith, length-contents JUMP-STACK ks, s.within JUMP-STACK (lit< tt));
        sampled = sampled;
        digest = digest;
        input = omega (arith, length-contents INPUT ks, s.within INPUT (lit< tt));
        output = omega (arith, length-contents OUTPUT ks, s.within OUTPUT (lit< tt));
        batch_length = size ∙ length-batch_of form c whole sampled digest;
      };
      some_rows = omega (arith, length-rows ks, rows_counted ks);
      few_rows = omega (arith, length-rows ks, rows_counted ks, s.within (row_command form) (row_known form), row_limit (announced ks) form);
      height = rw (sym (announced_rows ks s)) (not_refused ks s.height);
      trace = below_plain form (contents (row_command form) ks) (contents_below (row_command form) ks s.each);
      op_stack = contents_below OP-STACK ks s.each;
      ram = contents_below RAM ks s.each;
      jump_stack = contents_below JUMP-STACK ks s.each;
      sampled = contents_below SAMPLED ks s.each;
      digest = contents_below DIGEST ks s.each;
      input = contents_below INPUT ks s.each;
      output = contents_below OUTPUT ks s.each;
    }

pub written_again : WrittenAgain
written_again batch bytes lent counts e slice l =
    let o = opening batch lent counts e in
    let is = canonical batch o.ks o.is_read bytes in
    let w = takes o.ks (sound batch o.ks o.is_read) (length slice) (l ∙ ap length is) in
    let answer = done (form_of o.ks) (contents_in o.ks) (length slice) w in
    rw (left_in_slices batch lent counts e, o.is_read) (answer, sym (the_batch (form_of o.ks) (contents_in o.ks) slice (sym answer)) ∙ sym is)
