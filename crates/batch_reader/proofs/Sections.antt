-- The commands of one kind stand together: a section, which begins behind the commands of a lower rank.
use mathlib.Core.Path.{◌≡◌, refl, sym, ap, subst, ◌∙◌}
use mathlib.Core.Bool.{Bool, true, false, cond, ◌&&◌}
use mathlib.Core.Logic.{inl, inr}
use mathlib.Core.List.{List, [], ◌∷◌, ◌++◌, append_assoc, append-nil}
use Prim.Native.Nat.{ℕ, ◌+◌, ◌*◌, ◌/◌, ◌≤◌, ◌<◌}
use native.Mathlib.Nat.{add_assoc, zero-add, add-zero}
use native.Mathlib.Omega.{arith}
use lib.Dec.{eqb, ltb, lit<}
use lib.ListN.{length, take, drop, get_or, length-append, length-drop}
use lib.Seq.{get_or-drop, drop-drop, drop-append_seam, take_at, take-append_seam, drop-append-add}
use borrow.Author.Tests.{lt-ltb, le-ltb, eq-eqb, ne_eqb, eqb-true, eqb-false}
use Rattle.batch_words.specs.Words.{words}
use Rattle.field_montgomery.specs.declared.Form.{Form}
use Rattle.field_montgomery.specs.declared.Form.TheVariants.{Plain, Montgomery}
use Rattle.field_montgomery.specs.Form.{plain}
use Rattle.field_montgomery.proofs.Many.{length-plain, plain_append}
use Rattle.batch_commands.specs.Format.{END, TRACE-ROWS, DIGEST, MONTGOMERY-ROW, HEIGHT, COMMANDS, width, words_in, rank, key, Command, laid_out}
use Rattle.batch_commands.specs.Form.{OfForm}
use Rattle.batch_commands.specs.Fault.{wrong_height}
use Rattle.batch_commands.proofs.Tables.{rank_injective, of_test, words_within_operand, all_words, length-words_in}
use Rattle.batch_commands.proofs.Laid.{laid_append}
use Rattle.batch_reader.specs.Commands.{count, counts, contents, form_of, announced, height_of}
use Rattle.batch_reader.specs.Reading.{read, reading, commands_of}
use Rattle.batch_reader.specs.Answers.{written}
use Rattle.batch_reader.specs.Steps.{bytes_below}
use Rattle.batch_reader.proofs.Commands.{count_at, count_past, contents_append, length-contents}
use Rattle.batch_reader.proofs.Bounds.{bounded, HeightSet, height_set}
use Rattle.batch_reader.proofs.Ordered.{Every, every_append, every_map, every_at, ordered, ordered_parts, ranks_from, split}
use Rattle.batch_reader.proofs.Forms.{of_form}
use Rattle.batch_reader.proofs.LaidOut.{Next, Faultless, faultless_parts, Laid, laid}

nothing_plain : (form : Form) → [] ≡ plain form []
nothing_plain Plain = refl
nothing_plain Montgomery = refl

-- words behind words
pub written_on : (cs ws slice₀ slice : List ℕ) (to : ℕ) → slice ≡ written cs slice₀ → to ≡ length cs → take to slice ++ ws ++ drop (to + length ws) slice ≡ written (cs ++ ws) slice₀
written_on cs ws slice₀ slice to e q = rw (e, q, take-append_seam, drop-append-add, drop-drop, length-append)

abbrev Whole : Command → Type 0
Whole k = length k.operand ≡ width k.code

all_whole : (before ks : List Command) → Faultless before ks → Every Whole ks
all_whole before [] h = tt
all_whole before (k ∷ ks) h = (h.0.whole, all_whole (before ++ (k ∷ [])) ks h.1)

below_append : (r : ℕ) (ks js : List Command) → bytes_below r (ks ++ js) ≡ bytes_below r ks + bytes_below r js
unfolding bytes_below
below_append r [] js = sym (zero-add (bytes_below r js))
below_append r (k ∷ ks) js = rw (below_append r ks js, add_assoc (cond (ltb (rank k.code) r) (1 + width k.code) 0) (bytes_below r ks) (bytes_below r js))

below_all : (r : ℕ) (ks : List Command) → Every Whole ks → Every (λ k. rank k.code < r) ks → bytes_below r ks ≡ length (laid_out ks)
unfolding bytes_below laid_out
below_all r [] w h = refl
below_all r (k ∷ ks) w h = rw (lt-ltb (rank k.code) r h.0, below_all r ks w.1 h.1, length-append k.operand (laid_out ks), w.0) (omega arith)

below_none : (r : ℕ) (ks : List Command) → Every (λ k. r ≤ rank k.code) ks → bytes_below r ks ≡ 0
unfolding bytes_below
below_none r [] h = refl
below_none r (k ∷ ks) h = rw (le-ltb (rank k.code) r h.0, below_none r ks h.1)

none_brought : (wanted : ℕ) (ks : List Command) → Every (λ k. k.code ≡ wanted → ⊥) ks → contents wanted ks ≡ []
unfolding contents
none_brought wanted [] h = refl
none_brought wanted (k ∷ ks) h = rw (ne_eqb k.code wanted h.0, none_brought wanted ks h.1)

one_brought : (wanted : ℕ) (k : Command) → k.code ≡ wanted → contents wanted (k ∷ []) ≡ words_in wanted k.operand
unfolding contents
one_brought wanted k e = rw (eq-eqb k.code wanted e, append-nil, e)

lt_of_ne : (a b : ℕ) → a ≤ b → (a ≡ b → ⊥) → a + 1 ≤ b
lt_of_ne a b l n = omega arith

-- a slice that begins with what the commands of the wanted kind up to a place have brought, as plain words
pub record Section (batch : List ℕ) (wanted : ℕ) (form : Form) (slice₀ slice : List ℕ) (to at : ℕ) : Type 0 where
  before : List Command
  after : List Command
  parts : commands_of (reading batch) ≡ before ++ after
  place : at ≡ length (laid_out before)
  low : Every (λ k. rank k.code < rank wanted + 1) before
  high : Every (λ k. rank wanted ≤ rank k.code) after
  pub same_length : length slice ≡ length slice₀
  filled : slice ≡ written (plain form (contents wanted before)) slice₀
  reached : to ≡ length (contents wanted before)

module _ (batch : List ℕ) (wanted : ℕ) (opened : reading batch ≡ read (commands_of (reading batch))) (some : 0 < wanted) (known : wanted < COMMANDS) where
  abbrev ks : List Command
  ks = commands_of (reading batch)

  is_laid : Laid batch ks
  is_laid = laid batch ks opened

  pub begins : (form : Form) (slice : List ℕ) (at : ℕ) → at ≡ bytes_below (rank wanted) ks → Section batch wanted form slice slice 0 at
  begins form slice at e =
      let s = split (rank wanted) 0 0 ks (ordered batch ks opened) in
      let whole = all_whole [] s.low (faultless_parts [] s.low s.high (rw s.parts at is_laid.faultless)).0 in
      let none = none_brought wanted s.low (every_map _ _ (λ k l q. let z = ap rank q in omega arith) s.low s.low_ranks) in
      record {
        before = s.low;
        after = s.high;
        parts = s.parts;
        place = e ∙ ap (bytes_below (rank wanted)) s.parts ∙ below_append (rank wanted) s.low s.high ∙ rw (below_none (rank wanted) s.high s.high_ranks, add-zero) (below_all (rank wanted) s.low whole s.low_ranks);
        low = every_map _ _ (λ k l. omega arith) s.low s.low_ranks;
        high = s.high_ranks;
        same_length = refl;
        filled = rw none (ap (λ l. written l slice) (nothing_plain form));
        reached = rw none;
      }

  -- the bytes from a place on
  bytes_there : (before after : List Command) → ks ≡ before ++ after → drop (length (laid_out before)) batch ≡ laid_out after ++ (END ∷ [])
  bytes_there before after e =
      let b : batch ≡ laid_out before ++ (laid_out after ++ (END ∷ [])) = is_laid.is ∙ rw (e, laid_append before after, append_assoc) in
      ap (drop (length (laid_out before))) b ∙ drop-append_seam (laid_out before) (laid_out after ++ (END ∷ []))

  module _ (form : Form) (slice₀ slice : List ℕ) (to at : ℕ) (s : Section batch wanted form slice₀ slice to at) where
    there : (after : List Command) → s.after ≡ after → drop at batch ≡ laid_out after ++ (END ∷ [])
    there after e = rw (s.place, sym e) (bytes_there s.before s.after s.parts)

    code_there : (b : ℕ) (rest : List ℕ) → drop at batch ≡ b ∷ rest → get_or batch at 0 ≡ b
    code_there b rest e = ap (λ n. get_or batch n 0) (sym (add-zero at)) ∙ sym (get_or-drop at batch 0 0) ∙ ap (λ l. get_or l 0 0) e

    -- the command of the wanted kind that stands there, and what follows it
    record Here : Type 0 where
      k : Command
      rest : List Command
      is : s.after ≡ k ∷ rest
      of_kind : k.code ≡ wanted

    here_by : (after : List Command) → s.after ≡ after → get_or batch at 0 ≡ wanted → Here
    unfolding laid_out
    here_by [] e q =
        let z = code_there END [] (there [] e) in
        let none : ⊥ = omega arith in
        absurd none
    here_by (k ∷ rest) e q = record { k = k; rest = rest; is = e; of_kind = sym (code_there k.code (k.operand ++ laid_out rest ++ (END ∷ [])) (there (k ∷ rest) e ∙ rw append_assoc)) ∙ q }

    module _ (q : get_or batch at 0 ≡ wanted) where
      here : Here
      here = here_by s.after refl q

      parts-on : ks ≡ (s.before ++ (here.k ∷ [])) ++ here.rest
      parts-on = s.parts ∙ ap (◌++◌ s.before) here.is ∙ sym (append_assoc s.before (here.k ∷ []) here.rest)

      k-next : Next s.before here.k
      k-next = (faultless_parts [] s.before (here.k ∷ here.rest) (rw here.is at (rw s.parts at is_laid.faultless))).1.0

      k-whole : length here.k.operand ≡ width wanted
      k-whole = rw here.of_kind at k-next.whole

      operand-there : drop (at + 1) batch ≡ here.k.operand ++ (laid_out here.rest ++ (END ∷ []))
      unfolding laid_out
      operand-there = sym (drop-drop 1 at batch) ∙ ap (drop 1) (there (here.k ∷ here.rest) here.is) ∙ rw append_assoc

      pub fits : at + 1 + width wanted ≤ length batch
      fits =
          let n = ap length operand-there ∙ length-append here.k.operand (laid_out here.rest ++ (END ∷ [])) in
          omega (arith, n, k-whole, length-drop (at + 1) batch, length-append (laid_out here.rest) (END ∷ []))

      brought-there : words_in wanted (drop (at + 1) batch) ≡ contents wanted (here.k ∷ [])
      brought-there =
          let t : take (width wanted) (drop (at + 1) batch) ≡ here.k.operand = rw operand-there (take_at here.k.operand _ (width wanted) k-whole) in
          sym (words_within_operand wanted (drop (at + 1) batch) known) ∙ ap (words_in wanted) t ∙ sym (one_brought wanted here.k here.of_kind)

      brought-on : contents wanted (s.before ++ (here.k ∷ [])) ≡ contents wanted s.before ++ words_in wanted (drop (at + 1) batch)
      brought-on = contents_append wanted s.before (here.k ∷ []) ∙ ap (◌++◌ (contents wanted s.before)) (sym brought-there)

      pub room : length (contents wanted ks) ≤ length slice₀ → to + width wanted / 8 ≤ length slice
      room h =
          let e = ap (contents wanted) parts-on ∙ contents_append wanted (s.before ++ (here.k ∷ [])) here.rest ∙ ap (λ l. l ++ contents wanted here.rest) brought-on in
          let n = ap length e ∙ length-append (contents wanted s.before ++ words_in wanted (drop (at + 1) batch)) (contents wanted here.rest) in
          omega (arith, n, length-append (contents wanted s.before) (words_in wanted (drop (at + 1) batch)), length-words_in wanted (drop (at + 1) batch), s.same_length, s.reached)

      laid_one : length (laid_out (here.k ∷ [])) ≡ 1 + width wanted
      unfolding laid_out
      laid_one = let n = length-append here.k.operand [] in let w = k-whole in omega arith

      pub goes_on : (slice' : List ℕ) → length slice' ≡ length slice → slice' ≡ take to slice ++ plain form (words (width wanted / 8) (drop (at + 1) batch)) ++ drop (to + width wanted / 8) slice
          → Section batch wanted form slice₀ slice' (to + width wanted / 8) (at + 1 + width wanted)
      goes_on slice' l e =
          let ws = words_in wanted (drop (at + 1) batch) in
          let n = length-words_in wanted (drop (at + 1) batch) in
          record {
            before = s.before ++ (here.k ∷ []);
            after = here.rest;
            parts = parts-on;
            place = rw (laid_append, length-append) (omega (arith, s.place, laid_one));
            low = every_append _ s.before (here.k ∷ []) s.low (let z = ap rank here.of_kind in omega arith, tt);
            high = (rw here.is at s.high).1;
            same_length = l ∙ s.same_length;
            filled = e ∙ ap (λ l. take to slice ++ plain form l ++ drop (to + width wanted / 8) slice) (sym (all_words wanted (drop (at + 1) batch))) ∙ ap (λ m. take to slice ++ plain form ws ++ drop (to + m) slice) (sym (length-plain form ws ∙ n))
                ∙ written_on (plain form (contents wanted s.before)) (plain form ws) slice₀ slice to s.filled (s.reached ∙ sym (length-plain form (contents wanted s.before)))
                ∙ ap (λ l. written l slice₀) (sym (plain_append form (contents wanted s.before) ws) ∙ ap (plain form) (sym brought-on));
            reached = ap (λ m. m + width wanted / 8) s.reached ∙ sym (ap length brought-on ∙ length-append (contents wanted s.before) ws ∙ ap (◌+◌ (length (contents wanted s.before))) n);
          }

    -- no command of the kind is left
    past_by : OfForm (form_of ks) wanted → (after : List Command) → s.after ≡ after → (get_or batch at 0 ≡ wanted → ⊥) → Every (λ k. rank wanted + 1 ≤ rank k.code) after
    unfolding laid_out
    past_by used [] e q = tt
    past_by used (k ∷ rest) e q =
        let code : get_or batch at 0 ≡ k.code = code_there k.code (k.operand ++ laid_out rest ++ (END ∷ [])) (there (k ∷ rest) e ∙ rw append_assoc) in
        let ps : ks ≡ s.before ++ (k ∷ rest) = rw e at s.parts in
        let next = (faultless_parts [] s.before (k ∷ rest) (rw ps at is_laid.faultless)).1.0 in
        let from = (rw e at s.high).0 in
        let in-form = every_at _ s.before k rest (subst (Every (λ j. OfForm (form_of ks) j.code)) ps (of_form batch ks opened)) in
        let other : rank wanted ≡ rank k.code → ⊥ = λ z. q (code ∙ sym (rank_injective (form_of ks) wanted k.code known next.passes.known used in-form z)) in
        let more : rank wanted + 1 ≤ rank k.code = lt_of_ne (rank wanted) (rank k.code) from other in
        let o = (ordered_parts 0 0 s.before (k ∷ rest) (rw ps at (ordered batch ks opened))).1.1 in
        (more, ranks_from (rank k.code) (key k.code k.operand) (rank wanted + 1) rest more o)

    pub ends : OfForm (form_of ks) wanted → (get_or batch at 0 ≡ wanted → ⊥) → (at ≡ bytes_below (rank wanted + 1) ks) × (slice ≡ written (plain form (contents wanted ks)) slice₀)
    ends used q =
        let past = past_by used s.after refl q in
        let whole = all_whole [] s.before (faultless_parts [] s.before s.after (rw s.parts at is_laid.faultless)).0 in
        let none = none_brought wanted s.after (every_map _ _ (λ k l z. let r = ap rank z in omega arith) s.after past) in
        let bytes : bytes_below (rank wanted + 1) ks ≡ length (laid_out s.before) = ap (bytes_below (rank wanted + 1)) s.parts ∙ below_append (rank wanted + 1) s.before s.after ∙ rw (below_none (rank wanted + 1) s.after past, add-zero) (below_all (rank wanted + 1) s.before whole s.low) in
        let all : contents wanted ks ≡ contents wanted s.before = ap (contents wanted) s.parts ∙ contents_append wanted s.before s.after ∙ rw (none, append-nil) in
        (s.place ∙ sym bytes, s.filled ∙ ap (λ l. written (plain form l) slice₀) (sym all))

    pub not_at_end : length batch ≤ at → ⊥
    not_at_end h =
        let n = ap length (there s.after refl) ∙ length-append (laid_out s.after) (END ∷ []) in
        omega (arith, n, length-drop at batch)

-- the rows' first byte says their form
module _ (batch : List ℕ) (opened : reading batch ≡ read (commands_of (reading batch))) (at : ℕ) (place : at ≡ bytes_below (rank MONTGOMERY-ROW) (commands_of (reading batch))) where
  abbrev all : List Command
  all = commands_of (reading batch)

  abbrev section : Section batch MONTGOMERY-ROW Plain [] [] 0 at
  section = begins batch MONTGOMERY-ROW opened (lit< tt) (lit< tt) Plain [] at place

  pub rows_there : length batch ≤ at → ⊥
  rows_there = not_at_end batch MONTGOMERY-ROW opened (lit< tt) (lit< tt) Plain [] [] 0 at section

  form_by : (none : Bool) → eqb (count MONTGOMERY-ROW all) 0 ≡ none → (get_or batch at 0 ≡ MONTGOMERY-ROW → ⊥) → cond none Plain Montgomery ≡ Plain
  form_by true e q = refl
  form_by false e q =
      let is : form_of all ≡ Montgomery = rw e in
      let done = ends batch MONTGOMERY-ROW opened (lit< tt) (lit< tt) Plain [] [] 0 at section (rw is (λ z. omega arith)) q in
      let none = ap length done.1 ∙ length-append (contents MONTGOMERY-ROW all) (drop (length (contents MONTGOMERY-ROW all)) []) in
      absurd (eqb-false (count MONTGOMERY-ROW all) 0 e (omega (arith, none, length-contents MONTGOMERY-ROW all)))

  pub plain_there : (get_or batch at 0 ≡ MONTGOMERY-ROW → ⊥) → form_of all ≡ Plain
  plain_there q = form_by (eqb (count MONTGOMERY-ROW all) 0) refl q

  pub montgomery_there : get_or batch at 0 ≡ MONTGOMERY-ROW → form_of all ≡ Montgomery
  montgomery_there q =
      let h = here batch MONTGOMERY-ROW opened (lit< tt) (lit< tt) Plain [] [] 0 at section q in
      let some = count_past MONTGOMERY-ROW section.before h.k h.rest h.of_kind in
      let parts : all ≡ section.before ++ (h.k ∷ h.rest) = section.parts ∙ ap (◌++◌ section.before) h.is in
      rw (ne_eqb (count MONTGOMERY-ROW all) 0 (λ z. omega (arith, some, ap (count MONTGOMERY-ROW) parts)))

-- before 07 stand 01, which has five bytes, once, and 0B, which has two, at most once
abbrev in_front : ℕ → ℕ
in_front code = cond (ltb (rank code) (rank DIGEST)) (1 + width code) 0

abbrev of_front : ℕ → ℕ
of_front code = cond (eqb code TRACE-ROWS) 1 0 * 5 + cond (eqb code HEIGHT) 1 0 * 2

in_front_lem : (ks : List Command) → Every (λ k. k.code < COMMANDS) ks → bytes_below (rank DIGEST) ks ≡ count TRACE-ROWS ks * 5 + count HEIGHT ks * 2
unfolding bytes_below count
in_front_lem [] h = omega arith
in_front_lem (k ∷ ks) h =
    rw (eqb-true (in_front k.code) (of_front k.code) (of_test (λ code. eqb (in_front code) (of_front code)) refl k.code h.0), in_front_lem ks h.1) (omega arith)

all_known : (before ks : List Command) → Faultless before ks → Every (λ k. k.code < COMMANDS) ks
all_known before [] h = tt
all_known before (k ∷ ks) h = (h.0.passes.known, all_known (before ++ (k ∷ [])) ks h.1)

came : (n : ℕ) (none : Bool) → eqb n 0 ≡ none → (none && true) ≡ false → n ≡ 0 → ⊥
came n true e h = λ z. let q : ◌≡◌ {A = ℕ} 0 1 = cc in omega arith
came n false e h = eqb-false n 0 e

-- k 0 is not sent
height_bytes_lem : (ks : List Command) → HeightSet ks → 5 + count HEIGHT ks * 2 ≡ cond (eqb (height_of ks) 0) 5 7
height_bytes_lem ks (inl s) = rw (s.0, s.1)
height_bytes_lem ks (inr s) = rw (s.0, ne_eqb (height_of ks) 0 (λ z. in_range (height_of ks) s.1 z))
  where
    in_range : (k : ℕ) → wrong_height (announced ks) k ≡ false → k ≡ 0 → ⊥
    in_range k e z = let q : ◌≡◌ {A = Bool} true false = rw z at e in let n : ◌≡◌ {A = ℕ} 0 1 = cc in omega arith

pub behind_first : (batch : List ℕ) (ks : List Command) → reading batch ≡ read ks → bytes_below (rank DIGEST) ks ≡ cond (eqb (height_of ks) 0) 5 7
behind_first batch ks e =
    let l = laid batch ks e in
    let n = in_front_lem ks (all_known [] ks l.faultless) in
    let one = (bounded batch ks e).within TRACE-ROWS (lit< tt) in
    let some = came (get_or (counts ks) TRACE-ROWS 0) (eqb (get_or (counts ks) TRACE-ROWS 0) 0) refl l.complete.after_first in
    let first : count TRACE-ROWS ks ≡ 1 = omega (arith, count_at ks TRACE-ROWS (lit< tt)) in
    n ∙ rw first (height_bytes_lem ks (height_set batch ks e))
