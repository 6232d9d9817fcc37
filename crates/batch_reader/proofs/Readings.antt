-- Reading one command at a place of the batch, and what holds of the commands that are read.
use mathlib.Core.Path.{◌≡◌, refl, ◌∙◌}
use mathlib.Core.Bool.{Bool, true, false, cond}
use mathlib.Core.List.{List, [], ◌∷◌, ◌++◌}
use Prim.Native.Nat.{ℕ, zero, suc, ◌+◌, ◌-◌, ◌≤◌, ◌<◌}
use native.Mathlib.Numerals.{add-one}
use native.Mathlib.Omega.{arith}
use lib.Dec.{eqb}
use lib.ListN.{length, take, drop, get_or}
use lib.Seq.{drop-cons, drop-drop}
use borrow.Author.Tests.{ne_eqb}
use Rattle.refusal.specs.declared.Refusal.TheVariants.{BatchCutOff}
use Rattle.batch_commands.specs.Format.{END, width, Command}
use Rattle.batch_commands.specs.Fault.{fault}
use Rattle.batch_reader.specs.Commands.{seen_in}
use Rattle.batch_reader.specs.Reading.{Reading, read, refused, unless, read_from, reading}
use Rattle.std.specs.Prelude.{Result, Ok, Err}
use Rattle.refusal.specs.declared.Refusal.{Refusal}
use Rattle.refusal.specs.Number.{Done}

-- the command that stands at a place
abbrev pub command_at : List ℕ → ℕ → Command
command_at batch at = record { code = get_or batch at 0; operand = take (width (get_or batch at 0)) (drop (at + 1) batch) }

abbrev pub fault_at : List ℕ → ℕ → List Command → Result (Unit {0}) Refusal
fault_at batch at before = fault (seen_in before) (get_or batch at 0) (drop (at + 1) batch)

abbrev pub past_at : List ℕ → ℕ → ℕ
past_at batch at = at + 1 + width (get_or batch at 0)

-- the commands before a place are read, and what follows decides
pub record Along (batch : List ℕ) (at : ℕ) (before : List Command) : Type 0 where
  pub fuel : ℕ
  pub enough : length batch - at ≤ fuel
  pub rest : reading batch ≡ read_from fuel before (drop at batch)

pub at_start : (batch : List ℕ) → Along batch 0 []
unfolding reading
at_start batch = record { fuel = length batch; enough = omega arith; rest = refl }

pub nothing_left : (fuel : ℕ) (before : List Command) → read_from fuel before [] ≡ refused BatchCutOff
unfolding read_from
nothing_left zero before = refl
nothing_left (suc n) before = refl

step : (fuel : ℕ) (batch : List ℕ) (at : ℕ) (before : List Command) → length batch - at ≤ fuel → at < length batch
    → read_from fuel before (drop at batch)
    ≡ unless (fault_at batch at before) (cond (eqb (get_or batch at 0) END) (read before) (read_from (fuel - 1) (before ++ (command_at batch at ∷ [])) (drop (past_at batch at) batch)))
unfolding read_from
step zero batch at before e here =
    let none : ⊥ = omega arith in
    absurd none
step (suc n) batch at before e here =
    let e₁ : suc n - 1 ≡ n = omega arith in
    rw (drop-cons batch at 0 here, e₁, add-one, drop-drop (width (get_or batch at 0)) (suc at) batch)

-- what is read was not refused
pub of_unless : (answer : Result (Unit {0}) Refusal) (next : Reading) (ks : List Command) → unless answer next ≡ read ks → (answer ≡ Done) × (next ≡ read ks)
of_unless (Ok u) next ks e = (refl, e)
of_unless (Err r) next ks e = (cc, cc)

module _ (batch : List ℕ) (at : ℕ) (before : List Command) (a : Along batch at before) where
  module _ (here : at < length batch) where
    decides : reading batch ≡ unless (fault_at batch at before) (cond (eqb (get_or batch at 0) END) (read before) (read_from (a.fuel - 1) (before ++ (command_at batch at ∷ [])) (drop (past_at batch at) batch)))
    decides = a.rest ∙ step a.fuel batch at before a.enough here

    pub goes_on : fault_at batch at before ≡ Done → (get_or batch at 0 ≡ END → ⊥) → Along batch (past_at batch at) (before ++ (command_at batch at ∷ []))
    goes_on e q =
        record {
          fuel = a.fuel - 1;
          enough = let h = a.enough in omega arith;
          rest = decides ∙ rw (e, ne_eqb (get_or batch at 0) END q);
        }

-- what holds before the commands and is kept by each holds of all
module _ (P : List Command → Type 0)
    (keep : (before : List Command) (code : ℕ) (bytes : List ℕ) → fault (seen_in before) code bytes ≡ Done → P before → P (before ++ (record { code = code; operand = take (width code) bytes } ∷ []))) where
  read_or : (last : Bool) (before ks : List Command) (next : Reading) → cond last (read before) next ≡ read ks → P before → (next ≡ read ks → P ks) → P ks
  read_or true before ks next e p h = let q : before ≡ ks = cc in rw q at p
  read_or false before ks next e p h = h e

  pub kept : (n : ℕ) (before : List Command) (bytes : List ℕ) (ks : List Command) → P before → read_from n before bytes ≡ read ks → P ks
  unfolding read_from
  kept zero before bytes ks p e = let z : ◌≡◌ {A = ℕ} 0 1 = cc in let none : ⊥ = omega arith in absurd none
  kept (suc n) before [] ks p e = let z : ◌≡◌ {A = ℕ} 0 1 = cc in let none : ⊥ = omega arith in absurd none
  kept (suc n) before (code ∷ bytes) ks p e =
      let passed = of_unless (fault (seen_in before) code bytes) _ ks e in
      read_or (eqb code END) before ks _ passed.1 p (kept n (before ++ (record { code = code; operand = take (width code) bytes } ∷ [])) (drop (width code) bytes) ks (keep before code bytes passed.0 p))
