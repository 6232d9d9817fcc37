-- The counts of an opened batch lie within the slices.
use mathlib.Core.Path.{◌≡◌, refl, sym}
use mathlib.Core.Bool.{Bool, true, false, cond, not, ◌&&◌, ◌||◌}
use mathlib.Core.List.{List}
use mathlib.Core.Logic.{inl, inr}
use Prim.Native.Nat.{ℕ, ◌^◌, ◌≤◌}
use native.Mathlib.Omega.{arith}
use lib.Dec.{leb, ltb, lit<}
use lib.ListN.{length}
use borrow.Author.Tests.{leb-true, not-false}
use Rattle.refusal.proofs.Answers.{or-false}
use Rattle.field_base.proofs.Below.{and-true}
use Rattle.refusal.specs.declared.Refusal.TheVariants.{SliceLength}
use Rattle.batch_reader.specs.declared.Counts.{Counts}
use Rattle.batch_commands.specs.Format.{OP-STACK, RAM, JUMP-STACK, INPUT, OUTPUT, Command}
use Rattle.batch_reader.specs.Commands.{counts, announced, height_of}
use Rattle.batch_reader.specs.Reading.{Reading, read, refused, reading}
use Rattle.batch_reader.specs.Answers.{counts_in, answer_of}
use Rattle.batch.specs.Open.{open_answer}
use Rattle.batch.specs.Lent.{Within}
use Rattle.batch_reader.proofs.Bounds.{Bounded, bounded, HeightSet, height_set}
use Rattle.batch_reader.proofs.Rows.{few_rows}
use Rattle.std.specs.Prelude.{Result, Ok, Err}
use Rattle.refusal.specs.declared.Refusal.{Refusal}

in_range : (ks : List Command) → HeightSet ks → height_of ks ≤ 22
in_range ks (inl none) = omega (arith, none.1)
in_range ks (inr set) =
    let k = height_of ks in
    let range = (or-false (not (leb 1 k && leb k 22)) (ltb (2 ^ k) (announced ks)) set.1).0 in
    leb-true k 22 (and-true (leb 1 k) (leb k 22) (not-false (leb 1 k && leb k 22) range)).1

of_commands : (ks : List Command) → Bounded ks → HeightSet ks → Within (counts_in (counts ks) (height_of ks)) 1248 128 128 128 64 64
of_commands ks b set =
    record {
      in_trace = omega (arith, b.few_rows, few_rows ks b);
      in_op_stack = b.within OP-STACK (lit< tt);
      in_ram = b.within RAM (lit< tt);
      in_jump_stack = b.within JUMP-STACK (lit< tt);
      in_input = b.within INPUT (lit< tt);
      in_output = b.within OUTPUT (lit< tt);
      height = in_range ks set;
    }

by_reading : (batch : List ℕ) (r : Reading) (counts : Counts) → reading batch ≡ r → answer_of r ≡ Ok counts → Within counts 1248 128 128 128 64 64
by_reading batch (read ks) counted e a = let same : counts_in (counts ks) (height_of ks) ≡ counted = cc in rw (sym same) (of_commands ks (bounded batch ks e) (height_set batch ks e))
by_reading batch (refused refusal) counted e a = let z : ◌≡◌ {A = ℕ} 0 1 = cc in absurd (omega arith)

not_long : (long : Bool) (answer : Result Counts Refusal) (counts : Counts) → cond (long || false) (Err SliceLength) answer ≡ Ok counts → answer ≡ Ok counts
not_long true answer counts e = let z : ◌≡◌ {A = ℕ} 0 1 = cc in absurd (omega arith)
not_long false answer counts e = e

pub within_opened : (batch : List ℕ) (counts : Counts) → open_answer batch 1248 128 128 128 177 5 64 64 ≡ Ok counts → Within counts 1248 128 128 128 64 64
unfolding open_answer
within_opened batch counts e = by_reading batch (reading batch) counts refl (not_long (ltb 16384 (length batch)) (answer_of (reading batch)) counts e)
