-- The differences of a list in order do not descend.
use mathlib.Core.Path.{◌≡◌, refl, sym, ap, ◌∙◌}
use mathlib.Core.Bool.{Bool, true, false, cond}
use mathlib.Core.List.{List, [], ◌∷◌, ◌++◌}
use Prim.Native.Nat.{ℕ, ◌≤◌}
use native.Mathlib.Omega.{arith}
use lib.Dec.{eqb}
use borrow.Author.Tests.{eqb-true}
use Rattle.batch_words.specs.Words.{words}
use Rattle.batch_commands.specs.Format.{width, key_width, key, rank, words_in, Command}
use Rattle.batch_commands.proofs.Tables.{all_words}
use Rattle.batch_reader.specs.Commands.{contents}
use Rattle.batch_reader.proofs.Ordered.{NotBefore, OrderedFrom, Ordered, not_before_past}
use Rattle.batch_sorted.specs.Sorted.{sorted}
use Rattle.terms_batches.proofs.Sorted.{Ascending, sorted_is}

-- behind rank r and key m, commands of a kind have a key of b or more
abbrev Follows : ℕ → ℕ → ℕ → ℕ → Type 0
Follows code r m b = (n : ℕ) → NotBefore r m (rank code) n → b ≤ n

-- of a difference the key is its word
module _ (code : ℕ) (wide : width code ≡ 8) (keyed : key_width code ≡ 8) where
  pub word_is : (operand : List ℕ) → words_in code operand ≡ key code operand ∷ []
  unfolding words key
  word_is operand = all_words code operand ∙ rw (wide, keyed)

  ascends_by : (k : Command) (ks : List Command) (r m b : ℕ) (same : Bool) → eqb k.code code ≡ same → NotBefore r m (rank k.code) (key k.code k.operand) → Follows code r m b
      → ((a : ℕ) → Follows code (rank k.code) (key k.code k.operand) a → Ascending a (contents code ks)) → Ascending b (cond same (words_in k.code k.operand) [] ++ contents code ks)
  ascends_by k ks r m b true e o h rest =
      let q = eqb-true k.code code e in
      let z : rank k.code ≡ rank code = ap rank q in
      let w : words_in k.code k.operand ≡ key k.code k.operand ∷ [] = rw q (word_is k.operand) in
      rw w (h (key k.code k.operand) (omega arith, λ y. o.1 (y ∙ sym z)), rest (key k.code k.operand) (λ n g. g.1 z))
  ascends_by k ks r m b false e o h rest = rest b (λ n q. h n (not_before_past r m (rank k.code) (key k.code k.operand) (rank code) n o q))

  ascends : (r m b : ℕ) (ks : List Command) → OrderedFrom r m ks → Follows code r m b → Ascending b (contents code ks)
  unfolding contents
  ascends r m b [] o h = tt
  ascends r m b (k ∷ ks) o h = ascends_by k ks r m b (eqb k.code code) refl o.0 h (λ a g. ascends (rank k.code) (key k.code k.operand) a ks o.1 g)

  -- so sorting changes nothing
  pub sorted_already : (ks : List Command) → Ordered ks → sorted (contents code ks) ≡ contents code ks
  sorted_already ks o = sorted_is 0 (contents code ks) (ascends 0 0 0 ks o (λ n g. omega arith))
