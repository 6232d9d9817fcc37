-- What a batch brings fits into the slices that are lent for it.
use mathlib.Core.Path.{◌≡◌, refl, sym, ap, ◌∙◌}
use mathlib.Core.Bool.{true, cond, ◌&&◌}
use mathlib.Core.List.{List}
use Prim.Native.Nat.{ℕ, ◌≤◌}
use native.Mathlib.Omega.{arith}
use lib.Dec.{eqb, lit<}
use lib.ListN.{length}
use borrow.Author.Tests.{eqb-true}
use Rattle.field_base.proofs.Below.{and-true}
use Rattle.batch_reader.specs.declared.Counts.{Counts}
use Rattle.batch_commands.specs.Format.{ROW, OP-STACK, RAM, JUMP-STACK, SAMPLED, DIGEST, INPUT, OUTPUT, rank}
use Rattle.batch_reader.specs.Commands.{counts, height_of}
use Rattle.batch_reader.specs.Reading.{Reading, read, refused, reading, commands_of}
use Rattle.batch_reader.specs.Answers.{counts_in, answer_of, brought}
use Rattle.batch_reader.specs.Steps.{bytes_below}
use Rattle.batch_reader.proofs.Sections.{behind_first}
use Rattle.batch.specs.Open.{right_lengths}
use Rattle.batch_reader.proofs.Commands.{length-contents}
use Rattle.batch_reader.proofs.Bounds.{bounded}
use Rattle.batch_reader.proofs.Rows.{length-rows, few_rows}
use Rattle.std.specs.Prelude.{Ok}

read_by : (r : Reading) (counts : Counts) → answer_of r ≡ Ok counts → r ≡ read (commands_of r)
read_by (read commands) counts e = refl
read_by (refused refusal) counts e = cc

is_read : (batch : List ℕ) (counts : Counts) → answer_of (reading batch) ≡ Ok counts → reading batch ≡ read (commands_of (reading batch))
is_read batch counts e = read_by (reading batch) counts e

-- the seventh count is the k of the commands
height_by : (r : Reading) (came : Counts) → answer_of r ≡ Ok came → came.log2_height ≡ height_of (commands_of r)
height_by (read ks) came e = let same : counts_in (counts ks) (height_of ks) ≡ came = cc in ap (λ c. c.log2_height) (sym same)
height_by (refused refusal) came e = let z : ◌≡◌ {A = ℕ} 0 1 = cc in absurd (omega arith)

-- and where 07 stands in what is read
pub digest_there : (batch : List ℕ) (came : Counts) (at : ℕ) → answer_of (reading batch) ≡ Ok came → at ≡ cond (eqb came.log2_height 0) 5 7 → at ≡ bytes_below (rank DIGEST) (commands_of (reading batch))
digest_there batch came at e p = p ∙ ap (λ n. cond (eqb n 0) 5 7) (height_by (reading batch) came e) ∙ sym (behind_first batch (commands_of (reading batch)) (is_read batch came e))

pub record Room (batch : List ℕ) (trace op_stack ram jump_stack sampled digest input output : ℕ) : Type 0 where
  pub for_trace : length (brought ROW batch) ≤ trace
  pub for_op_stack : length (brought OP-STACK batch) ≤ op_stack
  pub for_ram : length (brought RAM batch) ≤ ram
  pub for_jump_stack : length (brought JUMP-STACK batch) ≤ jump_stack
  pub for_sampled : length (brought SAMPLED batch) ≤ sampled
  pub for_digest : length (brought DIGEST batch) ≤ digest
  pub for_input : length (brought INPUT batch) ≤ input
  pub for_output : length (brought OUTPUT batch) ≤ output

module _ (batch : List ℕ) (came : Counts) (trace op_stack ram jump_stack sampled digest input output : ℕ) where
  pub room : answer_of (reading batch) ≡ Ok came → right_lengths trace op_stack ram jump_stack sampled digest input output ≡ true → Room batch trace op_stack ram jump_stack sampled digest input output
  unfolding brought
  room opened right =
      let ks = commands_of (reading batch) in
      let b = bounded batch ks (is_read batch came opened) in
      let few = b.few_rows in
      let e7 = and-true (eqb trace 1248 && eqb op_stack 128 && eqb ram 128 && eqb jump_stack 128 && eqb sampled 177 && eqb digest 5 && eqb input 64) (eqb output 64) right in
      let e6 = and-true (eqb trace 1248 && eqb op_stack 128 && eqb ram 128 && eqb jump_stack 128 && eqb sampled 177 && eqb digest 5) (eqb input 64) e7.0 in
      let e5 = and-true (eqb trace 1248 && eqb op_stack 128 && eqb ram 128 && eqb jump_stack 128 && eqb sampled 177) (eqb digest 5) e6.0 in
      let e4 = and-true (eqb trace 1248 && eqb op_stack 128 && eqb ram 128 && eqb jump_stack 128) (eqb sampled 177) e5.0 in
      let e3 = and-true (eqb trace 1248 && eqb op_stack 128 && eqb ram 128) (eqb jump_stack 128) e4.0 in
      let e2 = and-true (eqb trace 1248 && eqb op_stack 128) (eqb ram 128) e3.0 in
      let e1 = and-true (eqb trace 1248) (eqb op_stack 128) e2.0 in
      record {
        for_trace = let n = eqb-true trace 1248 e1.0 in omega (arith, length-rows ks, few_rows ks b);
        for_op_stack = let n = eqb-true op_stack 128 e1.1 in omega (arith, length-contents OP-STACK ks, b.within OP-STACK (lit< tt));
        for_ram = let n = eqb-true ram 128 e2.1 in omega (arith, length-contents RAM ks, b.within RAM (lit< tt));
        for_jump_stack = let n = eqb-true jump_stack 128 e3.1 in omega (arith, length-contents JUMP-STACK ks, b.within JUMP-STACK (lit< tt));
        for_sampled = let n = eqb-true sampled 177 e4.1 in omega (arith, length-contents SAMPLED ks, b.within SAMPLED (lit< tt));
        for_digest = let n = eqb-true digest 5 e5.1 in omega (arith, length-contents DIGEST ks, b.within DIGEST (lit< tt));
        for_input = let n = eqb-true input 64 e6.1 in omega (arith, length-contents INPUT ks, b.within INPUT (lit< tt));
        for_output = let n = eqb-true output 64 e7.1 in omega (arith, length-contents OUTPUT ks, b.within OUTPUT (lit< tt));
      }
