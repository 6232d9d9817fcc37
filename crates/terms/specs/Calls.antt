-- Terms 2 and 3 over calls of `extend`: what the function's own contract says of its slices.
use Rattle.std.specs.Prelude.{◌≡◌, List, ℕ, suc, ◌-◌, ◌≤◌, ◌<◌, length}
use contract.Lifetimes.{Lfts}
use borrow.Fn.World.{ArgsD, ResD}
use borrow.Fn.Kinds.{ended_of}
use denote.Triple.Clauses.{AtExit}
use Rattle.refusal.specs.Number.{Done}
use Rattle.algebra.specs.Polynomial.{All, Distinct}
use Rattle.field.specs.declared.XFieldElement.{XFieldElement}
use Rattle.air.specs.ChallengeId.{SAMPLE-COUNT}
use Rattle.challenges.specs.Derived.{challenge_at}
use Rattle.table_rows.specs.Rows.{rows}
use Rattle.column_entries.specs.Columns.{Column, kind_of, indeterminate_of, weights, entries, argument}
use Rattle.column_entries.specs.AuxRow.{cell_at}
use Rattle.extend.specs.contracts.extend.{signature}
use Rattle.extend.proofs.extend.Kinds as kinds
use Rattle.extend.proofs.extend.Reads.{Learnt}
use Rattle.terms.specs.Term3.{put, entries_of, Differ, bound}

-- A call that answers Done, under the contract, and leaves v in the column's last cell, with x as the column's own indeterminate.
-- Its arguments are main, challenges, chunk, aux and work, in this order.
pub record Call (c : Column) (sampled : ℕ → XFieldElement) (x : XFieldElement) (main : List ℕ) (v : XFieldElement) : Type 0 where
  pub lifetimes : Lfts 4
  pub arguments : ArgsD signature lifetimes
  pub answer : ResD signature lifetimes
  pub left : AtExit (ended_of 4 kinds.ps kinds.r) lifetimes
  pub contract : Learnt lifetimes arguments answer left
  pub main_lent : arguments.0.now ≡ main
  pub given : (j : ℕ) → j < SAMPLE-COUNT → challenge_at arguments.1.0.now j ≡ put (indeterminate_of c) x sampled j
  pub accepted : answer ≡ Done
  pub last : cell_at c left.1.1.1.0.now (rows main - 1) ≡ v

-- the bound of term 3, for calls
abbrev pub Term3OfCalls : Type 0
Term3OfCalls =
    (c : Column) (sampled : ℕ → XFieldElement) (main₁ main₂ : List ℕ)
    → Differ (kind_of c) (entries_of c sampled main₁) (entries_of c sampled main₂)
    → (xs : List XFieldElement) → Distinct xs
    → All (λ x. (v : XFieldElement) × Call c sampled x main₁ v × Call c sampled x main₂ v) xs
    → length xs ≤ bound (kind_of c) (length (entries_of c sampled main₁)) (length (entries_of c sampled main₂))

-- term 2, for calls: where one answers Done, each cell that it leaves
abbrev pub Term2OfCalls : Type 0
Term2OfCalls =
    (lifetimes : Lfts 4) (arguments : ArgsD signature lifetimes) (answer : ResD signature lifetimes) (left : AtExit (ended_of 4 kinds.ps kinds.r) lifetimes)
    → Learnt lifetimes arguments answer left → answer ≡ Done
    → (c : Column) (r : ℕ) → r < rows arguments.0.now
    → cell_at c left.1.1.1.0.now r
    ≡ argument (kind_of c) (challenge_at arguments.1.0.now (indeterminate_of c)) (entries c (weights c arguments.1.0.now) arguments.0.now (suc r))
