-- Nothing is written on a refusal; else the batch of these contents.
use mathlib.Core.Path.{◌≡◌, sym, ◌∙◌}
use mathlib.Core.Bool.{◌&&◌}
use Prim.Native.Nat.{◌/◌}
use lib.Dec.{leb}
use lib.ListN.{length}
use native.Mathlib.Omega.{arith}
use Rattle.std.proofs.lemmas.Grind.{common_steps}
use Rattle.std.proofs.lemmas.Bool.Decides.{nat_tests}
use borrow.Author.Tests.{leb-true}
use Rattle.field_base.proofs.Below.{and-true}
use Rattle.batch_writer.specs.Contents.{contents_of}
use Rattle.batch_writer.specs.Write.{right_lengths}
use Rattle.batch_writer.proofs.Lengths.{by_numbers}
use Rattle.batch_writer.proofs.Heights.{small}
use Rattle.batch_writer.proofs.Answers.{wrong_lengths, wrong_rows, wrong-height, wrong-words, done_in_range, as_it_was, the_batch}
use Rattle.batch_writer.proofs.write.Goals as goal
use Rattle.batch_writer.proofs.write.Goals.{After-right_lengths, After-contains}

right : (c : After-right_lengths) → let args = c.args in right_lengths args.form (contents_of args.trace.now args.op_stack.now args.ram.now args.jump_stack.now args.sampled.now args.digest.now args.input.now args.output.now args.log2_height) (length args.batch.now) ≡ c.right_lengths.result
right c = let args = c.args in by_numbers _ args.form (length args.batch.now) ∙ sym c.right_lengths.ensures

ranged : (c : After-contains) → (leb 1 (length c.args.trace.now / 39) && leb (length c.args.trace.now / 39) 32) ≡ c.contains.result
ranged c = grind (arith, common_steps, nat_tests)

pub returns-then-not-right_lengths : goal.returns-then-not-right_lengths
returns-then-not-right_lengths c =
    let at = goal.at.returns-then-not-right_lengths c in
    let e = wrong_lengths c.args.form _ _ (right at.After-right_lengths ∙ c.if-not-right_lengths.true) in
    record { answer = e; batch = as_it_was c.args.form _ c.args.batch.now e }

pub returns-then-not-contains : goal.returns-then-not-contains
returns-then-not-contains c =
    let at = goal.at.returns-then-not-contains c in
    let e = wrong_rows c.args.form _ _ (right at.After-right_lengths ∙ c.if-not-right_lengths.false) (ranged at.After-contains ∙ c.if-not-contains.true) in
    record { answer = e; batch = as_it_was c.args.form _ c.args.batch.now e }

pub returns-then-refused_height : goal.returns-then-refused_height
returns-then-refused_height c =
    let at = goal.at.returns-then-refused_height c in
    let e = wrong-height c.args.form _ _ (right at.After-right_lengths ∙ c.if-not-right_lengths.false) (ranged at.After-contains ∙ c.if-not-contains.false) (sym c.refused_height.ensures ∙ c.if-refused_height.true) in
    record { answer = e; batch = as_it_was c.args.form _ c.args.batch.now e }

pub returns-then-not-all_words_below : goal.returns-then-not-all_words_below
returns-then-not-all_words_below c =
    let at = goal.at.returns-then-not-all_words_below c in
    let e = wrong-words c.args.form _ _ (right at.After-right_lengths ∙ c.if-not-right_lengths.false) (ranged at.After-contains ∙ c.if-not-contains.false) (sym c.refused_height.ensures ∙ c.if-refused_height.false) (sym c.all_words_below.ensures ∙ c.if-not-all_words_below.true) in
    record { answer = e; batch = as_it_was c.args.form _ c.args.batch.now e }

pub put_batch-requires : goal.put_batch-requires
put_batch-requires c =
    let at = goal.at.put_batch-requires c in
    let n = length c.args.trace.now / 39 in
    let few = leb-true n 32 (and-true (leb 1 n) (leb n 32) (ranged at.After-contains ∙ c.if-not-contains.false)).1 in
    record {
      trace_bound = (few, small n c.args.log2_height (sym c.refused_height.ensures ∙ c.if-refused_height.false));
      batch_value = right at.After-right_lengths ∙ c.if-not-right_lengths.false;
    }

pub returns : goal.returns
returns c =
    let at = goal.at.returns c in
    let e = done_in_range c.args.form _ _ (right at.After-right_lengths ∙ c.if-not-right_lengths.false) (ranged at.After-contains ∙ c.if-not-contains.false) (sym c.refused_height.ensures ∙ c.if-refused_height.false) (sym c.all_words_below.ensures ∙ c.if-not-all_words_below.false) in
    record { answer = e; batch = c.put_batch.ensures ∙ the_batch c.args.form _ c.args.batch.now e }
