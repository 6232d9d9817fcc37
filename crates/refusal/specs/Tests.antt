-- An operation's line of refusals: tests in their order, each with its refusal. "A refusal holds only under its condition, first in order."
use Rattle.std.specs.Prelude.{◌≡◌, ◌⊎◌, Bool, true, false, cond, not, List, [], ◌∷◌, Result, Err}
-- passed on, for the files of answers
pub use Rattle.refusal.specs.Number.{number_of, Done, answer_number_of, on_done}
pub use Rattle.refusal.specs.Long.{MAX-LEN, is_long}
use Rattle.refusal.specs.declared.Refusal.{Refusal}

pub record Test : Type 0 where
  pub refusal : Refusal
  pub holds : Bool

abbrev pub Tests : Type 0
Tests = List Test

infix 5 ◌when◌ ◌unless◌
abbrev pub ◌when◌ : Refusal → Bool → Test
r when condition = record { refusal = r; holds = condition }

abbrev pub ◌unless◌ : Refusal → Bool → Test
r unless condition = record { refusal = r; holds = not condition }

-- the refusal of the first test that holds, or, where none does, what the operation answers then
abbrev pub first_or : {A : Type 0} → (Refusal → A) → Tests → A → A
first_or refused [] done = done
first_or refused (test ∷ tests) done = cond test.holds (refused test.refusal) (first_or refused tests done)

abbrev pub first : Tests → Result (Unit {0}) Refusal
first tests = first_or Err tests Done

abbrev pub NoneHolds : Tests → Type 0
NoneHolds [] = Unit {0}
NoneHolds (test ∷ tests) = (test.holds ≡ false) × NoneHolds tests

-- a test of r holds, and none before it
abbrev pub HoldsFirst : Refusal → Tests → Type 0
HoldsFirst r [] = ⊥
HoldsFirst r (test ∷ tests) = ((test.holds ≡ true) × (test.refusal ≡ r)) ⊎ ((test.holds ≡ false) × HoldsFirst r tests)
