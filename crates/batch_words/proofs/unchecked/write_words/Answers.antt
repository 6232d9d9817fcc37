-- The bytes of the first i words are in the batch, which is as it was elsewhere.
use mathlib.Core.Path.{◌≡◌, sym, ap, ap₂, ◌∙◌}
use Prim.Native.Nat.{◌+◌, ◌*◌}
use native.Mathlib.Omega.{arith}
use lib.ListN.{get_or}
use lib.Seq.{take_all}
use Rattle.field_montgomery.specs.Form.{in_form}
use Rattle.field_montgomery.proofs.Many.{in_form_at, length-in_form}
use Rattle.batch_words.specs.Words.{little_endian, bytes_of}
use Rattle.batch_words.specs.Pasted.{pasted}
use Rattle.batch_words.proofs.Writing.{eight_written, word_on}
use Rattle.batch_words.proofs.Pasting.{pasted_none}
use Rattle.batch_words.proofs.unchecked.write_words.Goals as goal

pub loop-i-init : goal.loop-i-init
unfolding bytes_of
loop-i-init c = pasted_none c.args.batch.now c.args.at

pub loop-i-preserved : goal.loop-i-preserved
loop-i-preserved c =
    let args = c.args in
    let i = c.loop-i.i in
    let ws = in_form args.form args.words.now in
    let long = length-in_form args.form args.words.now in
    let word : c.word_in.result ≡ get_or ws i 0 = c.word_in.ensures ∙ sym (in_form_at args.form args.words.now i) in
    let bytes : c.to_le_bytes.result ≡ little_endian 8 (get_or ws i 0) = c.to_le_bytes.ensures ∙ eight_written c.word_in.result ∙ ap (little_endian 8) word in
    c.put_bytes.ensures ∙ ap₂ (λ l bs. pasted l (args.at + 8 * i) bs) c.loop-i.invariant bytes ∙ word_on args.batch.now args.at ws i (omega arith) (omega arith)

pub returns : goal.returns
returns c =
    let args = c.args in
    let ws = in_form args.form args.words.now in
    c.loop-i.invariant ∙ rw (take_all c.loop-i.i ws (omega (arith, length-in_form args.form args.words.now, c.loop-i-test.false)))
