-- What holds of the commands of a batch that is read, and that a batch of such commands is read.
use mathlib.Core.Path.{◌≡◌, refl, ap, ◌∙◌}
use mathlib.Core.Bool.{Bool, true, false, cond, not, ◌&&◌, ◌||◌}
use mathlib.Core.Logic.{inl, inr}
use mathlib.Core.List.{List, [], ◌∷◌, ◌++◌, append_assoc}
use Prim.Native.Nat.{ℕ, ◌+◌, ◌≤◌, ◌<◌}
use native.Mathlib.Omega.{arith}
use lib.Dec.{eqb, leb, ltb, lit<, lit≤}
use lib.ListN.{length, take}
use lib.Seq.{take_all}
use borrow.Author.Tests.{ltb-false, le-ltb, leb-true, le-leb, eqb-true, eqb-false, eq-eqb, ne_eqb, not-false}
use Rattle.std.proofs.lemmas.Bool.{and_parts, or_parts}
use Rattle.field_base.specs.Words.{all_below}
use Rattle.field_base.proofs.Below.{below_append}
use Rattle.batch_words.specs.Words.{number, words}
use Rattle.batch_commands.specs.Format.{END, TRACE-ROWS, SAMPLED, DIGEST, HEIGHT, MAX-ROWS, COMMANDS, width, words_in, words_for, limit, rank, key, Command}
use Rattle.field_montgomery.specs.declared.Form.{Form}
use Rattle.batch_commands.specs.Form.{row_command, other_form, OfForm}
use Rattle.batch_commands.specs.Fault.{rows_in, missing, wrong_row_count, wrong_height, height_out_of_range}
use Rattle.batch_reader.specs.Commands.{count, counts, contents, form_of, announced, height_of, highest_rank, last_key, seen_in}
use Rattle.batch_reader.specs.Reading.{read, reading}
use Rattle.batch_reader.proofs.Commands.{count-append, count_at, count_past}
use Rattle.batch_reader.proofs.Forms.{one_form, form_is, rows_counted, no_mixture}
use Rattle.batch_reader.proofs.Bounds.{bounded, HeightSet, height_set}
use Rattle.batch_reader.proofs.Passing.{Passes}
use Rattle.batch_reader.proofs.Ordered.{Ordered, Every, every_at, highest, ordered, ordered_append, ordered_parts, not_before, not_before_test}
use Rattle.batch_reader.proofs.LaidOut.{Next, end, Faultless, laid}

pub record Proper (k : Command) : Type 0 where
  pub known : k.code < COMMANDS
  pub more : k.code ≡ END → ⊥
  pub whole : length k.operand ≡ width k.code
  pub below : all_below (words_in k.code k.operand) ≡ true

pub contents_below : (code : ℕ) (ks : List Command) → Every Proper ks → all_below (contents code ks) ≡ true
unfolding contents all_below
contents_below code [] h = refl
contents_below code (k ∷ ks) h = below_append (words_for code k.code k.operand) (contents code ks) (kind_below (eqb k.code code)) (contents_below code ks h.1)
  where
    kind_below : (same : Bool) → all_below (cond same (words_in k.code k.operand) []) ≡ true
    kind_below true = h.0.below
    kind_below false = refl

-- 01 stands first
abbrev pub Starts : List Command → Type 0
Starts [] = ⊥
Starts (k ∷ ks) = k.code ≡ TRACE-ROWS

-- with rows in the form
pub record Sound (form : Form) (ks : List Command) : Type 0 where
  pub starts : Starts ks
  pub some_rows : 1 ≤ announced ks
  pub few_rows : announced ks ≤ 32
  pub each : Every Proper ks
  pub in_order : Ordered (ks ++ (end ∷ []))
  pub within : (code : ℕ) → code < COMMANDS → count code ks ≤ limit (announced ks) code
  pub all_rows : announced ks ≤ count (row_command form) ks
  pub one_form : count (row_command (other_form form)) ks ≡ 0
  pub sampled : 1 ≤ count SAMPLED ks
  pub digest : 1 ≤ count DIGEST ks
  pub height : HeightSet ks

each_proper : (before ks : List Command) → Faultless before ks → Every Proper ks
each_proper before [] h = tt
each_proper before (k ∷ ks) h =
    (record { known = h.0.passes.known; more = h.0.more; whole = h.0.whole; below = h.0.passes.below }, each_proper (before ++ (k ∷ [])) ks h.1)

-- the first command, or 00 without one
first_is : (code : ℕ) (operand : List ℕ) → Passes (seen_in []) code operand → code ≡ TRACE-ROWS
unfolding count
first_is code operand p = eqb-true code TRACE-ROWS (not-false (eqb code TRACE-ROWS) p.after_first)

starts_by : (ks : List Command) → Faultless [] ks → Passes (seen_in ks) END [] → Starts ks
starts_by [] h p = absurd (omega (arith, first_is END [] p))
starts_by (k ∷ ks) h p = first_is k.code k.operand h.0.passes

row_count_right : (code : ℕ) (operand : List ℕ) → code ≡ TRACE-ROWS → wrong_row_count code operand ≡ false → not (leb 1 (number operand) && leb (number operand) MAX-ROWS) ≡ false
row_count_right code operand s h = rw (eq-eqb code TRACE-ROWS s) at h

some_by : (ks : List Command) → Faultless [] ks → Starts ks → 1 ≤ announced ks
some_by [] h s = absurd s
some_by (k ∷ ks) h s =
    let n = number (take (width k.code) k.operand) in
    let t : not (leb 1 n && leb n MAX-ROWS) ≡ false = row_count_right k.code (take (width k.code) k.operand) s h.0.passes.row_count in
    let v = and_parts (leb 1 n) (leb n MAX-ROWS) (not-false (leb 1 n && leb n MAX-ROWS) t) in
    rw (take_all (width k.code) k.operand (omega (arith, h.0.whole))) at (leb-true 1 n v.0)

pub sound : (batch : List ℕ) (ks : List Command) → reading batch ≡ read ks → Sound (form_of ks) ks
unfolding key number
sound batch ks e =
    let l = laid batch ks e in
    let c = l.complete in
    let s = starts_by ks l.faultless c in
    let b = bounded batch ks e in
    let none = (or_parts (missing (announced ks) (counts ks)) false c.at_end).0 in
    let f = or_parts (ltb (rows_in (counts ks)) (announced ks) || eqb (count SAMPLED ks) 0) (eqb (count DIGEST ks) 0) none in
    let g = or_parts (ltb (rows_in (counts ks)) (announced ks)) (eqb (count SAMPLED ks) 0) f.0 in
    record {
      starts = s;
      some_rows = some_by ks l.faultless s;
      few_rows = b.few_rows;
      each = each_proper [] ks l.faultless;
      in_order = let o = ordered batch ks e in ordered_append 0 0 ks (end ∷ []) o (rw (highest ks o) at (not_before (highest_rank ks) (last_key 0 ks) (rank END) 0 c.in_order), tt);
      within = b.within;
      all_rows = rw (rows_counted ks) at (ltb-false (rows_in (counts ks)) (announced ks) g.0);
      one_form = one_form batch ks e;
      sampled = let z = eqb-false (count SAMPLED ks) 0 g.1 in omega arith;
      digest = let z = eqb-false (count DIGEST ks) 0 f.1 in omega arith;
      height = height_set batch ks e;
    }

module _ (form : Form) (before : List Command) (k : Command) (after : List Command) (s : Sound form (before ++ k ∷ after)) where
  proper : Proper k
  proper = every_at Proper before k after s.each

  none_before : count (row_command (other_form form)) before ≡ 0
  none_before = omega (arith, s.one_form, count-append (row_command (other_form form)) before (k ∷ after))

  of_form : OfForm form k.code
  of_form e = omega (arith, s.one_form, count_past (row_command (other_form form)) before k after e)

  -- once its place, its rows and its height are right
  next_by : (eqb (count TRACE-ROWS before) 0 && not (eqb k.code TRACE-ROWS)) ≡ false → count k.code before < limit (announced before) k.code
      → wrong_row_count k.code (take (width k.code) k.operand) ≡ false → height_out_of_range (announced before) k.code (take (width k.code) k.operand) ≡ false → Next before k
  next_by first under row_count height =
      let o = ordered_parts 0 0 before (k ∷ (after ++ (end ∷ []))) (rw append_assoc at s.in_order) in
      record {
        more = proper.more;
        whole = proper.whole;
        passes = record {
          known = proper.known;
          whole = omega (arith, proper.whole);
          after_first = first;
          under = rw (count_at before k.code proper.known) under;
          unmixed = no_mixture form before k.code none_before of_form;
          at_end = rw (ne_eqb k.code END proper.more);
          in_order = not_before_test (highest_rank before) (last_key 0 before) (rank k.code) (key k.code k.operand) (rw (highest before o.0) o.1.0);
          row_count = row_count;
          height = height;
          below = proper.below;
        };
      }

next_first : (form : Form) (k : Command) (ks : List Command) → Sound form (k ∷ ks) → Next [] k
unfolding count
next_first form k ks s = next_by form [] k ks s (rw (eq-eqb k.code TRACE-ROWS s.starts)) (rw s.starts (lit< tt))
    (rw (take_all (width k.code) k.operand (omega (arith, (every_at Proper [] k ks s.each).whole)), eq-eqb k.code TRACE-ROWS s.starts, le-leb 1 (number k.operand) s.some_rows, le-leb (number k.operand) MAX-ROWS s.few_rows))
    (rw s.starts)

one_first : (ks : List Command) → Starts ks → 1 ≤ count TRACE-ROWS ks
unfolding count
one_first [] s = absurd s
one_first (k ∷ ks) s = rw (eq-eqb k.code TRACE-ROWS s) (omega arith)

-- the k of the first 0B
height_at : (before : List Command) (k : Command) (after : List Command) → count HEIGHT before ≡ 0 → k.code ≡ HEIGHT → height_of (before ++ k ∷ after) ≡ number k.operand
unfolding count height_of
height_at [] k after z e = rw (eq-eqb k.code HEIGHT e)
height_at (j ∷ before) k after z e = by_test (eqb j.code HEIGHT) z (λ z₁. height_at before k after z₁ e)
  where
    by_test : (same : Bool) → cond same 1 0 + count HEIGHT before ≡ 0 → (count HEIGHT before ≡ 0 → height_of (before ++ k ∷ after) ≡ number k.operand) → cond same (number j.operand) (height_of (before ++ k ∷ after)) ≡ number k.operand
    by_test true z h = absurd (omega arith)
    by_test false z h = h (omega arith)

module _ (form : Form) (j : Command) (before : List Command) (k : Command) (after : List Command) (s : Sound form (j ∷ before ++ k ∷ after)) where
  in_range : k.code ≡ HEIGHT → HeightSet (j ∷ before ++ k ∷ after) → wrong_height (number j.operand) (number k.operand) ≡ false
  in_range e (inl h) = absurd (omega (arith, h.0, count_past HEIGHT (j ∷ before) k after e))
  in_range e (inr h) = rw (height_at (j ∷ before) k after (omega (arith, s.within HEIGHT (lit< tt), count_past HEIGHT (j ∷ before) k after e)) e) at h.1

  height_by : (same : Bool) → eqb k.code HEIGHT ≡ same → (same && wrong_height (number j.operand) (number k.operand)) ≡ false
  height_by true e = in_range (eqb-true k.code HEIGHT e) s.height
  height_by false e = refl

  height_later : height_out_of_range (announced (j ∷ before)) k.code (take (width k.code) k.operand) ≡ false
  height_later = rw (take_all (width k.code) k.operand (omega (arith, (proper form (j ∷ before) k after s).whole))) (height_by (eqb k.code HEIGHT) refl)

next_later : (form : Form) (j : Command) (before : List Command) (k : Command) (after : List Command) → Sound form (j ∷ before ++ k ∷ after) → Next (j ∷ before) k
next_later form j before k after s =
    let one = one_first (j ∷ before) s.starts in
    let other : k.code ≡ TRACE-ROWS → ⊥ = λ e. omega (arith, s.within TRACE-ROWS (lit< tt), count_past TRACE-ROWS (j ∷ before) k after e) in
    next_by form (j ∷ before) k after s (rw (ne_eqb (count TRACE-ROWS (j ∷ before)) 0 (λ e. omega arith)))
    (omega (arith, s.within k.code (proper form (j ∷ before) k after s).known, count_past k.code (j ∷ before) k after refl)) (rw (ne_eqb k.code TRACE-ROWS other))
    (height_later form j before k after s)

nexts : (form : Form) (j : Command) (before ks : List Command) → Sound form (j ∷ before ++ ks) → Faultless (j ∷ before) ks
nexts form j before [] s = tt
nexts form j before (k ∷ ks) s = (next_later form j before k ks s, nexts form j (before ++ (k ∷ [])) ks (rw append_assoc s))

pub faultless : (form : Form) (ks : List Command) → Sound form ks → Faultless [] ks
faultless form [] s = tt
faultless form (k ∷ ks) s = (next_first form k ks s, nexts form k [] ks s)

-- 00 stands nowhere before the end
no_end : (ks : List Command) → Every Proper ks → count END ks ≡ 0
unfolding count
no_end [] h = refl
no_end (k ∷ ks) h = rw (ne_eqb k.code END h.0.more, no_end ks h.1)

-- the form is that of the rows
pub form_of_lem : (form : Form) (ks : List Command) → Sound form ks → form_of ks ≡ form
form_of_lem form ks s = form_is form ks (omega (arith, s.some_rows, s.all_rows)) s.one_form

pub rows_of : (form : Form) (ks : List Command) → Sound form ks → rows_in (counts ks) ≡ count (row_command form) ks
rows_of form ks s = rows_counted ks ∙ ap (λ f. count (row_command f) ks) (form_of_lem form ks s)

pub complete : (form : Form) (ks : List Command) → Sound form ks → Passes (seen_in ks) END []
unfolding key number words all_below
complete form ks s =
    let one = one_first ks s.starts in
    record {
      known = lit< tt;
      whole = lit≤ tt;
      after_first = rw (ne_eqb (count TRACE-ROWS ks) 0 (λ e. omega arith));
      under = rw (no_end ks s.each) (lit< tt);
      unmixed = refl;
      at_end = let n = s.sampled in let m = s.digest in rw (le-ltb (rows_in (counts ks)) (announced ks) (omega (arith, rows_of form ks s, s.all_rows)), ne_eqb (count SAMPLED ks) 0 (λ e. omega arith), ne_eqb (count DIGEST ks) 0 (λ e. omega arith));
      in_order = let o = ordered_parts 0 0 ks (end ∷ []) s.in_order in not_before_test (highest_rank ks) (last_key 0 ks) (rank END) 0 (rw (highest ks o.0) o.1.0);
      row_count = refl;
      height = refl;
      below = refl;
    }
