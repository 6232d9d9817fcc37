-- A batch that is read is the one that the writer lays out for what it brings.
use mathlib.Core.Path.{◌≡◌, refl, sym, ap, ap₂, ◌∙◌}
use mathlib.Core.List.{List, [], ◌∷◌, ◌++◌, append_assoc, map}
use Prim.Native.Nat.{ℕ, suc, ◌+◌, ◌*◌, ◌/◌, ◌≤◌}
use native.Mathlib.Omega.{arith}
use lib.Dec.{lit<}
use lib.ListN.{length, length-append, get_or-append}
use lib.Seq.{get_or-append-add}
use borrow.Author.Tests.{eq-eqb}
use Rattle.table_rows.specs.Rows.{rows}
use Rattle.batch_words.specs.Words.{number, little_endian}
use Rattle.batch_words.proofs.Writing.{little_endian-number}
use Rattle.batch_commands.specs.Format.{END, TRACE-ROWS, ROW, OP-STACK, RAM, JUMP-STACK, SAMPLED, DIGEST, INPUT, OUTPUT, HEIGHT, width, Command, laid_out}
use Rattle.batch_commands.proofs.Laid.{laid_append}
use Rattle.field_montgomery.specs.declared.Form.{Form}
use Rattle.field_montgomery.specs.declared.Form.TheVariants.{Plain, Montgomery}
use Rattle.field_montgomery.specs.Form.{in_form}
use Rattle.batch_commands.specs.Form.{row_command, other_form, OfForm}
use Rattle.batch_commands.proofs.Tables.{row_known, row_limit}
use Rattle.batch_reader.specs.Commands.{count, contents, form_of, slice_from, announced, height_of}
use Rattle.batch_reader.specs.Reading.{read, reading}
use Rattle.batch_reader.proofs.Commands.{length-contents}
use Rattle.batch_reader.proofs.Forms.{none_there, rows_counted}
use Rattle.batch_reader.proofs.Rows.{length-rows}
use Rattle.batch_reader.proofs.Ordered.{Ordered, Every, every_map, every_both, ordered_parts}
use Rattle.batch_reader.proofs.LaidOut.{end, laid}
use Rattle.batch_writer.specs.Contents.{Contents, contents_of}
use Rattle.batch_writer.specs.Layout.{commands_for, batch_of}
use Rattle.terms_batches.specs.Opening.{Bytes}
use Rattle.terms_batches.proofs.ByKind.{Known, only, kinds, behind, in_kinds}
use Rattle.terms_batches.proofs.OneKind.{Sized, none_of, kind_is}
use Rattle.terms_batches.proofs.Heights.{only_height}
use Rattle.terms_batches.proofs.Sections.{Section, section, joined, sections_of, announcing, commands_of_lem}
use Rattle.terms_batches.proofs.Sound.{Proper, contents_below, Starts, Sound, sound}
use Rattle.field_montgomery.proofs.Many.{in_form_plain}
use Rattle.terms_batches.proofs.Differences.{sorted_already}

-- what commands bring
abbrev pub contents_in : List Command → Contents
contents_in ks =
    contents_of (slice_from ROW ks) (contents OP-STACK ks) (contents RAM ks) (contents JUMP-STACK ks) (contents SAMPLED ks) (contents DIGEST ks) (contents INPUT ks) (contents OUTPUT ks) (height_of ks)

bytes_parts : (bs cs : List ℕ) → Bytes (bs ++ cs) → Bytes bs × Bytes cs
bytes_parts bs cs h = (
  (λ i l. rw (get_or-append bs cs 0 i l) at (h i (omega (arith, length-append bs cs)))),
  λ i l. rw (get_or-append-add bs cs i 0) at (h (length bs + i) (omega (arith, length-append bs cs))),
)

each_sized : (ks : List Command) (rest : List ℕ) → Bytes (laid_out ks ++ rest) → Every Proper ks → Every Sized ks
unfolding laid_out
each_sized [] rest b h = tt
each_sized (k ∷ ks) rest b h =
    let p = bytes_parts k.operand (laid_out ks ++ rest) (λ i l. rw append_assoc at (b (suc i) (omega (arith, ap length (append_assoc k.operand (laid_out ks) rest))))) in
    ((h.0.whole, p.0), each_sized ks rest p.1 h.1)

-- 01 is known by the rows that it announces
first_is : (ks : List Command) → Starts ks → count TRACE-ROWS ks ≤ 1 → Every Sized ks → only TRACE-ROWS ks ≡ record { code = TRACE-ROWS; operand = little_endian 4 (announced ks) } ∷ []
unfolding count
first_is [] s l h = absurd s
first_is (k ∷ ks) s l h =
    let e = eq-eqb k.code TRACE-ROWS s in
    let l₁ : 1 + count TRACE-ROWS ks ≤ 1 = rw e at l in
    let operand : little_endian 4 (number k.operand) ≡ k.operand = little_endian-number 4 k.operand (h.0.0 ∙ ap width s) h.0.1 in
    rw (e, none_of TRACE-ROWS ks (omega arith), operand) (ap (λ c. record { code = c; operand = k.operand } ∷ []) s)

-- the section of a kind
abbrev section_in : List Command → ℕ → Section
section_in ks code = section (count code ks) code (contents code ks)

abbrev Even : ℕ → Type 0
Even code = 8 * (width code / 8) ≡ width code

even_row : (form : Form) → Even (row_command form)
even_row Plain = refl
even_row Montgomery = refl

module _ (ks : List Command) (s : Sound (form_of ks) ks) where
  abbrev form : Form
  form = form_of ks

  in_order : Ordered ks
  in_order = (ordered_parts 0 0 ks (end ∷ []) s.in_order).0

  all_rows : rows (slice_from ROW ks) ≡ count (row_command form) ks
  all_rows = omega (arith, length-rows ks, rows_counted ks)

  pub announced_rows : announced ks ≡ rows (slice_from ROW ks)
  announced_rows = omega (arith, all_rows, s.all_rows, s.within (row_command form) (row_known form), row_limit (announced ks) form)

  -- the rows' words are sent as they came
  as_sent : in_form form (slice_from ROW ks) ≡ contents (row_command form) ks
  as_sent = in_form_plain form (contents (row_command form) ks) (contents_below (row_command form) ks s.each)

  -- a kind of one word each
  length_is : (code : ℕ) → width code / 8 ≡ 1 → length (contents code ks) ≡ count code ks
  length_is code e = length-contents code ks ∙ rw e (omega arith)

  sections_are : map (section_in ks) (behind form) ≡ sections_of form (contents_in ks)
  sections_are =
      let digests : count DIGEST ks ≡ 1 = omega (arith, s.digest, s.within DIGEST (lit< tt)) in
      let sampled : count SAMPLED ks ≡ 1 = omega (arith, s.sampled, s.within SAMPLED (lit< tt)) in
      rw (
        digests,
        sampled,
        all_rows,
        as_sent,
        length_is INPUT refl,
        length_is OUTPUT refl,
        length_is OP-STACK refl,
        length_is RAM refl,
        length_is JUMP-STACK refl,
        sorted_already OP-STACK refl refl ks in_order,
        sorted_already RAM refl refl ks in_order,
        sorted_already JUMP-STACK refl refl ks in_order,
      )

  module _ (sized : Every Sized ks) where
    kinds_joined : (codes : List ℕ) → Every Even codes → kinds codes ks ≡ joined (map (section_in ks) codes)
    kinds_joined [] h = refl
    kinds_joined (code ∷ codes) h = rw (kind_is code h.0 ks sized, kinds_joined codes h.1)

    commands_are : ks ++ (end ∷ []) ≡ commands_for form (contents_in ks)
    commands_are =
        let in-form = every_both Proper (λ k. OfForm form k.code) ks s.each (none_there (row_command (other_form form)) ks s.one_form) in
        let known = every_map _ (Known form) (λ k p. (p.0.known, p.0.more, p.1)) ks in-form in
        let first : only TRACE-ROWS ks ≡ announcing (rows (slice_from ROW ks)) ∷ [] = first_is ks s.starts (s.within TRACE-ROWS (lit< tt)) sized ∙ ap (λ n. announcing n ∷ []) announced_rows in
        let rest : kinds (behind form) ks ≡ joined (sections_of form (contents_in ks)) = kinds_joined (behind form) (refl, (refl, (refl, (refl, (even_row form, (refl, (refl, (refl, tt)))))))) ∙ ap joined sections_are in
        ap (λ l. l ++ (end ∷ [])) (in_kinds form ks known 0 0 in_order) ∙ ap₂ (λ us vs. (us ++ (only HEIGHT ks ++ vs)) ++ (end ∷ [])) first rest ∙ ap (λ hs. announcing (rows (slice_from ROW ks)) ∷ (hs ++ joined (sections_of form (contents_in ks))) ++ (end ∷ [])) (only_height ks s.height sized) ∙ sym (commands_of_lem form (contents_in ks))

pub canonical : (batch : List ℕ) (ks : List Command) → reading batch ≡ read ks → Bytes batch → batch ≡ batch_of (form_of ks) (contents_in ks)
unfolding batch_of
canonical batch ks e b =
    let l = laid batch ks e in
    let s = sound batch ks e in
    l.is ∙ sym (laid_append ks (end ∷ [])) ∙ ap laid_out (commands_are ks s (each_sized ks (END ∷ []) (rw l.is at b) s.each))
