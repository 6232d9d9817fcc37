-- A batch that begins with the bytes so far, up to a place.
use mathlib.Core.Path.{◌≡◌, refl, sym, ap, ◌∙◌}
use mathlib.Core.List.{List, [], ◌∷◌, ◌++◌}
use Prim.Native.Nat.{ℕ, ◌+◌, ◌*◌, ◌/◌, ◌%◌, ◌≤◌}
use native.Mathlib.Omega.{arith}
use lib.ListN.{length, take, set, length-append, length-set}
use lib.Seq.{take_at, take_all}
use Rattle.batch_words.specs.Pasted.{pasted}
use Rattle.batch_words.proofs.Pasting.{stored}
use Rattle.batch_commands.specs.Format.{width, laid_out}
use Rattle.batch_writer.specs.Layout.{commands_with}
use Rattle.batch_writer.proofs.Laying.{length-laid}

-- the place `at` is past the bytes
pub record Begins (batch : List ℕ) (at : ℕ) (bytes : List ℕ) : Type 0 where
  pub long : length bytes ≡ at
  pub holds : take at batch ≡ bytes

pub nothing : (batch : List ℕ) → Begins batch 0 []
nothing batch = record { long = refl; holds = refl }

module _ {batch : List ℕ} {at : ℕ} {bytes : List ℕ} (b : Begins batch at bytes) where
  pub on : (more batch' : List ℕ) (at' : ℕ) → at' ≡ at + length more → batch' ≡ pasted batch at more → Begins batch' at' (bytes ++ more)
  on more batch' at' place is =
      let long : length (bytes ++ more) ≡ at' = omega (arith, length-append bytes more, b.long) in
      record { long = long; holds = rw (is, b.holds) (take_at (bytes ++ more) _ at' long) }

  -- n commands of one kind, which are k
  pub on_kind : (k n code : ℕ) (ws batch' : List ℕ) (at' : ℕ) → n ≡ k → width code % 8 ≡ 0 → k * (width code / 8) ≤ length ws
      → at' ≡ at + n * (1 + width code) → batch' ≡ pasted batch at (laid_out (commands_with n code ws)) → Begins batch' at' (bytes ++ laid_out (commands_with k code ws))
  on_kind k n code ws batch' at' e whole enough place is =
      on (laid_out (commands_with k code ws)) batch' at' (place ∙ ap (λ j. at + j * (1 + width code)) e ∙ sym (ap (◌+◌ at) (length-laid k code ws whole enough))) (is ∙ ap (λ j. pasted batch at (laid_out (commands_with j code ws))) e)

  -- the last byte
  pub ends : (last : ℕ) → length batch ≡ at + 1 → set batch at last ≡ bytes ++ (last ∷ [])
  ends last whole =
      let last_on = on (last ∷ []) (set batch at last) (at + 1) refl (stored batch at last [] (omega arith)) in
      sym (take_all (at + 1) (set batch at last) (omega (arith, length-set batch at last))) ∙ last_on.holds
