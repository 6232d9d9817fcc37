-- 0B, or nothing for k 0: in a batch that is read, and as the writer lays it out.
use mathlib.Core.Path.{◌≡◌, refl, sym, ap, ◌∙◌}
use mathlib.Core.Bool.{Bool, true, false, cond, not, ◌&&◌, and-false}
use mathlib.Core.Logic.{inl, inr}
use mathlib.Core.List.{List, [], ◌∷◌, ◌++◌}
use Prim.Native.Nat.{ℕ, ◌+◌, ◌<◌}
use native.Mathlib.Omega.{arith}
use lib.Dec.{eqb, lit<}
use borrow.Author.Tests.{eqb-true, ne_eqb}
use Rattle.field_base.specs.Words.{all_below}
use Rattle.batch_words.specs.Words.{number, words, little_endian}
use Rattle.batch_words.proofs.Writing.{length-little_endian, number_little_endian, little_endian-number}
use Rattle.batch_commands.specs.Format.{DIGEST, HEIGHT, width, rank, key, Command}
use Rattle.batch_commands.specs.Fault.{wrong_height}
use Rattle.batch_reader.specs.Commands.{count, contents, announced, height_of}
use Rattle.batch_reader.proofs.Commands.{no_height}
use Rattle.batch_reader.proofs.Ordered.{OrderedFrom, Every}
use Rattle.batch_reader.proofs.Bounds.{HeightSet}
use Rattle.batch_writer.specs.Layout.{commands_of_height}
use Rattle.batch_writer.specs.Write.{refused_height}
use Rattle.terms_batches.proofs.ByKind.{only}
use Rattle.terms_batches.proofs.OneKind.{Sized, none_of}
use Rattle.terms_batches.proofs.Sound.{Proper}

-- what is read, the writer takes
pub not_refused : (ks : List Command) → HeightSet ks → refused_height (announced ks) (height_of ks) ≡ false
not_refused ks (inl s) = rw s.1
not_refused ks (inr s) = rw s.1 (and-false (not (eqb (height_of ks) 0)))

abbrev setting : ℕ → Command
setting k = record { code = HEIGHT; operand = little_endian 1 k }

only_one : (ks : List Command) → count HEIGHT ks ≡ 1 → Every Sized ks → only HEIGHT ks ≡ setting (height_of ks) ∷ []
unfolding count height_of
only_one [] n h = absurd (omega arith)
only_one (k ∷ ks) n h = by_test (eqb k.code HEIGHT) refl n (λ m. only_one ks m h.1)
  where
    by_test : (same : Bool) → eqb k.code HEIGHT ≡ same → cond same 1 0 + count HEIGHT ks ≡ 1 → (count HEIGHT ks ≡ 1 → only HEIGHT ks ≡ setting (height_of ks) ∷ []) → cond same (k ∷ only HEIGHT ks) (only HEIGHT ks) ≡ setting (cond same (number k.operand) (height_of ks)) ∷ []
    by_test true e n rest =
        let is = eqb-true k.code HEIGHT e in
        let operand : little_endian 1 (number k.operand) ≡ k.operand = little_endian-number 1 k.operand (h.0.0 ∙ ap width is) h.0.1 in
        rw (none_of HEIGHT ks (omega arith), operand) (ap (λ c. record { code = c; operand = k.operand } ∷ []) is)
    by_test false e n rest = rest (omega arith)

-- 0B is known by its k
pub only_height : (ks : List Command) → HeightSet ks → Every Sized ks → only HEIGHT ks ≡ commands_of_height (height_of ks)
unfolding commands_of_height
only_height ks (inl s) h = rw s.1 (none_of HEIGHT ks s.0)
only_height ks (inr s) h = rw (ne_eqb (height_of ks) 0 (sent (height_of ks) s.1)) (only_one ks s.0 h)
  where
    sent : (k : ℕ) → wrong_height (announced ks) k ≡ false → k ≡ 0 → ⊥
    sent k e z = let q : true ≡ false = rw z at e in cc

module _ (k : ℕ) where
  pub count-height : (code : ℕ) → eqb HEIGHT code ≡ false → count code (commands_of_height k) ≡ 0
  unfolding commands_of_height count
  count-height code e = by_test (eqb k 0)
    where
      by_test : (none : Bool) → count code (cond none [] (setting k ∷ [])) ≡ 0
      by_test true = refl
      by_test false = rw e

  pub counted_height : count HEIGHT (commands_of_height k) ≡ cond (eqb k 0) 0 1
  unfolding commands_of_height count
  counted_height = by_test (eqb k 0)
    where
      by_test : (none : Bool) → count HEIGHT (cond none [] (setting k ∷ [])) ≡ cond none 0 1
      by_test true = refl
      by_test false = refl

  pub contents_height : (code : ℕ) → contents code (commands_of_height k) ≡ []
  unfolding commands_of_height contents words
  contents_height code = by_test (eqb k 0) (eqb HEIGHT code) refl
    where
      by_test : (none same : Bool) → eqb HEIGHT code ≡ same → contents code (cond none [] (setting k ∷ [])) ≡ []
      by_test true same e = refl
      by_test false true e = rw e
      by_test false false e = rw e

  pub proper_height : Every Proper (commands_of_height k)
  unfolding commands_of_height all_below words
  proper_height = by_test (eqb k 0)
    where
      by_test : (none : Bool) → Every Proper (cond none [] (setting k ∷ []))
      by_test true = tt
      by_test false = (record { known = lit< tt; more = λ e. omega arith; whole = length-little_endian 1 k; below = refl }, tt)

  pub ordered_height : (m : ℕ) (js : List Command) → ((r a : ℕ) → r < rank DIGEST → OrderedFrom r a js) → OrderedFrom 0 m (commands_of_height k ++ js)
  unfolding commands_of_height
  ordered_height m js h = by_test (eqb k 0)
    where
      by_test : (none : Bool) → OrderedFrom 0 m (cond none [] (setting k ∷ []) ++ js)
      by_test true = h 0 m (lit< tt)
      by_test false = ((omega arith, λ e. absurd (omega arith)), h 1 (key HEIGHT (little_endian 1 k)) (lit< tt))

  -- where no other 0B follows
  pub height_there : k < 256 → (js : List Command) → count HEIGHT js ≡ 0 → height_of (commands_of_height k ++ js) ≡ k
  unfolding commands_of_height height_of
  height_there small js z = by_test (eqb k 0) refl
    where
      by_test : (none : Bool) → eqb k 0 ≡ none → height_of (cond none [] (setting k ∷ []) ++ js) ≡ k
      by_test true e = no_height js z ∙ sym (eqb-true k 0 e)
      by_test false e = number_little_endian 1 k small

  -- and its height is in the range that the writer asks for
  set_there : (ks : List Command) (rows : ℕ) (none : Bool) → eqb k 0 ≡ none → count HEIGHT ks ≡ cond none 0 1 → height_of ks ≡ k → announced ks ≡ rows → (not none && wrong_height rows k) ≡ false → HeightSet ks
  set_there ks rows true e n h a r = inl (n, h ∙ eqb-true k 0 e)
  set_there ks rows false e n h a r = inr (n, rw (h, a) r)

  pub height_set_there : (ks : List Command) (rows : ℕ) → count HEIGHT ks ≡ cond (eqb k 0) 0 1 → height_of ks ≡ k → announced ks ≡ rows → refused_height rows k ≡ false → HeightSet ks
  height_set_there ks rows n h a r = set_there ks rows (eqb k 0) refl n h a r
