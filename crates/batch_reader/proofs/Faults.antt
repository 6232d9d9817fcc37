-- What the tests of a command say, in their order, and what a step makes of them.
use mathlib.Core.Path.{◌≡◌, refl, sym}
use mathlib.Core.Bool.{Bool, true, false, cond, not}
use mathlib.Core.List.{List, [], ◌∷◌}
use Prim.Native.Nat.{ℕ, ◌+◌, ◌≤◌}
use native.Mathlib.Omega.{arith}
use lib.Dec.{eqb, ltb}
use lib.ListN.{length, drop}
use lib.Seq.{drop-drop}
use borrow.Author.Tests.{ltb-false, eqb-false}
use Rattle.refusal.specs.declared.Refusal.TheVariants.{UnknownCommand, BatchCutOff}
use Rattle.batch_commands.specs.Format.{END, known, width, Command}
use Rattle.batch_commands.specs.Fault.{judged, fault, head_of}
use Rattle.batch_commands.specs.declared.Seen.{Seen}
use Rattle.batch_reader.specs.Commands.{counts, height_of}
use Rattle.batch_reader.specs.Reading.{Reading, read, unless}
use Rattle.batch_reader.specs.Answers.{counts_in, answer_of}
use Rattle.batch_reader.specs.Steps.{step_by, step_of}
use Rattle.std.specs.Prelude.{Option, Some, None, Result, Ok, Err}
use Rattle.refusal.specs.declared.Refusal.{Refusal}
use Rattle.refusal.specs.Number.{Done}

module _ (code : ℕ) where
  refused_by : (unknown short : Bool) (judged : Result (Unit {0}) Refusal) (r : Refusal) → cond unknown (Err UnknownCommand) (cond short (Err BatchCutOff) (Ok code)) ≡ Err r
      → step_by (cond unknown (Err UnknownCommand) (cond short (Err BatchCutOff) judged)) code ≡ Err r
  refused_by true short judged r e = let z : UnknownCommand ≡ r = cc in rw z
  refused_by false true judged r e = let z : BatchCutOff ≡ r = cc in rw z
  refused_by false false judged r e = cc

  whole_by : (unknown short : Bool) (k : ℕ) → ◌≡◌ {A = Result ℕ Refusal} (cond unknown (Err UnknownCommand) (cond short (Err BatchCutOff) (Ok code))) (Ok k) → (unknown ≡ false) × (short ≡ false) × (k ≡ code)
  whole_by true short k e = (cc, cc, cc)
  whole_by false true k e = (cc, cc, cc)
  whole_by false false k e = (refl, refl, cc)

-- what a head says of the step
module _ (seen : Seen) where
  pub refused_step : (bytes : List ℕ) (r : Refusal) → head_of bytes ≡ Err r → Err r ≡ step_of seen bytes
  unfolding fault
  refused_step [] r e = let z : BatchCutOff ≡ r = cc in rw z
  refused_step (code ∷ bytes) r e = sym (refused_by code (not (known code)) (ltb (length bytes) (width code)) _ r e)

  step_on : (bytes : List ℕ) (k : ℕ) → head_of bytes ≡ Ok k → step_of seen bytes ≡ step_by (judged seen k (drop 1 bytes)) k
  unfolding fault judged
  step_on [] k e = cc
  step_on (code ∷ bytes) k e = let h = whole_by code (not (known code)) (ltb (length bytes) (width code)) k e in rw (h.2, h.0, h.1)

pub step_there : (seen : Seen) (batch : List ℕ) (at k : ℕ) (rest : List ℕ) {answer : Result (Unit {0}) Refusal} → head_of (drop at batch) ≡ Ok k → rest ≡ drop (at + 1) batch → answer ≡ judged seen k rest
    → step_of seen (drop at batch) ≡ step_by answer k
step_there seen batch at k rest e q a = rw (a, q) (rw drop-drop at (step_on seen (drop at batch) k e))

whole : (bytes : List ℕ) (k : ℕ) → head_of bytes ≡ Ok k → width k ≤ length (drop 1 bytes)
whole [] k e = let z : ◌≡◌ {A = ℕ} 0 1 = cc in omega arith
whole (code ∷ bytes) k e = let h = whole_by code (not (known code)) (ltb (length bytes) (width code)) k e in rw h.2 (ltb-false (length bytes) (width code) h.1)

-- an operand is whole
pub whole_there : (batch : List ℕ) (at k : ℕ) → head_of (drop at batch) ≡ Ok k → width k ≤ length (drop (at + 1) batch)
whole_there batch at k e = rw drop-drop at (whole (drop at batch) k e)

-- a step that refuses answers what the definition does
pub stopped : (answer : Result (Unit {0}) Refusal) (code : ℕ) (next : Reading) (r : Refusal) → step_by answer code ≡ Err r → Err r ≡ answer_of (unless answer next)
stopped (Err s) code next r e = let z : s ≡ r = cc in rw z
stopped (Ok u) code next r e = cc

ends : (answer : Result (Unit {0}) Refusal) (code : ℕ) (last : Bool) (before : List Command) (next : Reading) → eqb code END ≡ last → step_by answer code ≡ Ok None
    → Ok (counts_in (counts before) (height_of before)) ≡ answer_of (unless answer (cond last (read before) next))
ends (Err s) code last before next q e = cc
ends (Ok u) code true before next q e = refl
ends (Ok u) code false before next q e = let z : ◌≡◌ {A = Result (Option ℕ) Refusal} (Ok (Some code)) (Ok None) = rw q at e in cc

-- and so does the last
pub ended : (answer : Result (Unit {0}) Refusal) (code : ℕ) (before : List Command) (next : Reading) → step_by answer code ≡ Ok None
    → Ok (counts_in (counts before) (height_of before)) ≡ answer_of (unless answer (cond (eqb code END) (read before) next))
ended answer code before next e = ends answer code (eqb code END) before next refl e

goes : (answer : Result (Unit {0}) Refusal) (code k : ℕ) (last : Bool) → eqb code END ≡ last → step_by answer code ≡ Ok (Some k) → (answer ≡ Done) × (code ≡ k) × (code ≡ END → ⊥)
goes (Err r) code k last q e = let z : ◌≡◌ {A = ℕ} 0 1 = cc in (cc, omega arith, λ _. omega arith)
goes (Ok u) code k true q e = let y : ◌≡◌ {A = Result (Option ℕ) Refusal} (Ok None) (Ok (Some k)) = rw q at e in let z : ◌≡◌ {A = ℕ} 0 1 = cc in (refl, omega arith, λ _. omega arith)
goes (Ok u) code k false q e = let y : ◌≡◌ {A = Result (Option ℕ) Refusal} (Ok (Some code)) (Ok (Some k)) = rw q at e in (refl, cc, eqb-false code END q)

pub went : (answer : Result (Unit {0}) Refusal) (code k : ℕ) → step_by answer code ≡ Ok (Some k) → (answer ≡ Done) × (code ≡ k) × (code ≡ END → ⊥)
went answer code k e = goes answer code k (eqb code END) refl e
