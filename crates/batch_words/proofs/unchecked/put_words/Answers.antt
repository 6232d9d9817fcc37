-- The first i words are in the slice, which is as it was elsewhere.
use mathlib.Core.Path.{◌≡◌, sym, ap, ◌∙◌}
use Prim.Native.Nat.{◌+◌, ◌<◌}
use native.Mathlib.Omega.{arith}
use lib.ListN.{length, drop, get_or, set}
use lib.Seq.{take_all, paste}
use Rattle.std.proofs.lemmas.List.Edits.{paste_none, paste_more}
use Rattle.field_montgomery.specs.Form.{plain_word, plain}
use Rattle.field_montgomery.proofs.Many.{plain_at, length-plain}
use Rattle.batch_words.specs.Words.{words}
use Rattle.batch_words.proofs.Bytes.{length-words, within_words, word_of}
use Rattle.batch_words.proofs.unchecked.put_words.Goals as goal

pub loop-i-init : goal.loop-i-init
loop-i-init c = let args = c.args in paste_none args.slice.now args.to (plain args.form (words args.n (drop args.at args.batch.now)))

pub loop-i-preserved : goal.loop-i-preserved
loop-i-preserved c =
    let args = c.args in
    let i = c.loop-i.i in
    let sent = words args.n (drop args.at args.batch.now) in
    let ws = plain args.form sent in
    let taken = c.loop-i-test.true in
    let w : c.word_at.result ≡ get_or sent i 0 = c.word_at.ensures ∙ sym (word_of args.batch.now args.at args.n i taken) in
    let e : c.plain_word.result ≡ get_or ws i 0 = c.plain_word.ensures ∙ ap (plain_word args.form) w ∙ sym (plain_at args.form sent i) in
    let within : i < length ws = rw (length-plain args.form sent) (within_words args.n _ i taken) in
    let room : args.to + i < length args.slice.now = omega arith in
    ap (λ l. set l (args.to + i) c.plain_word.result) c.loop-i.invariant ∙ ap (set (paste args.slice.now args.to ws i) (args.to + i)) e
    ∙ paste_more args.slice.now args.to ws i 0 room within

pub returns : goal.returns
returns c =
    let args = c.args in
    let sent = words args.n (drop args.at args.batch.now) in
    let ws = plain args.form sent in
    let all : c.loop-i.i ≡ args.n = omega arith in
    c.loop-i.invariant ∙ rw (all, take_all args.n ws (omega (arith, length-plain args.form sent, length-words args.n (drop args.at args.batch.now))))
