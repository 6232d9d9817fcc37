-- The commands of a kind are known by how many they are and what they bring.
use mathlib.Core.Path.{◌≡◌, refl, ap, ◌∙◌}
use mathlib.Core.Bool.{Bool, true, false, cond}
use mathlib.Core.List.{List, [], ◌∷◌, ◌++◌}
use Prim.Native.Nat.{ℕ, suc, ◌+◌, ◌*◌, ◌/◌}
use native.Mathlib.Nat.{zero-add}
use native.Mathlib.Omega.{arith}
use lib.Dec.{eqb}
use lib.ListN.{length}
use lib.Seq.{take_at, drop_at, take_all}
use borrow.Author.Tests.{eqb-true}
use Rattle.batch_words.specs.Words.{bytes_of}
use Rattle.batch_words.proofs.Writing.{bytes_of-words}
use Rattle.batch_commands.specs.Format.{width, words_in, Command}
use Rattle.batch_commands.proofs.Tables.{all_words, length-words_in}
use Rattle.batch_reader.specs.Commands.{count, contents}
use Rattle.batch_reader.proofs.Ordered.{Every}
use Rattle.batch_writer.specs.Layout.{commands_with}
use Rattle.terms_batches.specs.Opening.{Bytes}
use Rattle.terms_batches.proofs.ByKind.{only}

-- a whole operand of bytes
abbrev pub Sized : Command → Type 0
Sized k = (length k.operand ≡ width k.code) × Bytes k.operand

-- the operand is written again from its words
same_operand : (code : ℕ) (operand : List ℕ) → 8 * (width code / 8) ≡ width code → length operand ≡ width code → Bytes operand → bytes_of (words_in code operand) ≡ operand
same_operand code operand even l b = ap bytes_of (all_words code operand) ∙ bytes_of-words (width code / 8) operand (omega arith) b ∙ take_all (8 * (width code / 8)) operand (omega arith)

module _ (code : ℕ) (even : 8 * (width code / 8) ≡ width code) where
  first_is : (k : Command) (ks : List Command) → Sized k → k.code ≡ code → k ∷ commands_with (count code ks) code (contents code ks) ≡ commands_with (suc (count code ks)) code (words_in k.code k.operand ++ contents code ks)
  unfolding commands_with
  first_is k ks sized e =
      let ws = words_in k.code k.operand in
      let n : length ws ≡ width code / 8 = length-words_in k.code k.operand ∙ ap (λ c. width c / 8) e in
      let bytes : bytes_of ws ≡ k.operand = same_operand k.code k.operand (rw e even) sized.0 sized.1 in
      rw (take_at ws (contents code ks) (width code / 8) n, drop_at ws (contents code ks) (width code / 8) n, bytes)
      (ap (λ c. record { code = c; operand = k.operand } ∷ commands_with (count code ks) code (contents code ks)) e)

  kind_by : (k : Command) (ks : List Command) (same : Bool) → eqb k.code code ≡ same → Sized k → only code ks ≡ commands_with (count code ks) code (contents code ks)
      → cond same (k ∷ only code ks) (only code ks) ≡ commands_with (cond same 1 0 + count code ks) code (cond same (words_in k.code k.operand) [] ++ contents code ks)
  kind_by k ks true e sized h =
      let one : 1 + count code ks ≡ suc (count code ks) = omega arith in
      rw (h, one) (first_is k ks sized (eqb-true k.code code e))
  kind_by k ks false e sized h = rw zero-add h

  pub kind_is : (ks : List Command) → Every Sized ks → only code ks ≡ commands_with (count code ks) code (contents code ks)
  unfolding commands_with count contents
  kind_is [] h = refl
  kind_is (k ∷ ks) h = kind_by k ks (eqb k.code code) refl h.0 (kind_is ks h.1)

pub none_of : (code : ℕ) (ks : List Command) → count code ks ≡ 0 → only code ks ≡ []
unfolding count
none_of code [] e = refl
none_of code (k ∷ ks) e = none_by (eqb k.code code) e (none_of code ks)
  where
    none_by : (same : Bool) → cond same 1 0 + count code ks ≡ 0 → (count code ks ≡ 0 → only code ks ≡ []) → cond same (k ∷ only code ks) (only code ks) ≡ []
    none_by true e h = absurd (omega arith)
    none_by false e h = h (omega arith)
