-- What is below p so far leaves the words from i on to decide.
use mathlib.Core.Path.{◌≡◌, sym, ◌∙◌}
use lib.ListN.{drop, get_or}
use Rattle.field_base.proofs.Below.{fails_at, holds_at, holds_past}
use Rattle.batch_words.specs.Words.{words}
use Rattle.batch_words.proofs.Bytes.{length-words, within_words, word_of}
use Rattle.batch_words.proofs.unchecked.words_below.Goals as goal

pub returns-then-word_at-ge-P : goal.returns-then-word_at-ge-P
returns-then-word_at-ge-P c =
    let args = c.args in
    let i = c.loop-i.i in
    let ws = words args.n (drop args.at args.batch.now) in
    let taken = c.loop-i-test.true in
    let e : c.word_at.result ≡ get_or ws i 0 = c.word_at.ensures ∙ sym (word_of args.batch.now args.at args.n i taken) in
    sym (c.loop-i.invariant ∙ fails_at ws i (within_words args.n _ i taken) (rw e at c.if-word_at-ge-P.true))

pub loop-i-preserved : goal.loop-i-preserved
loop-i-preserved c =
    let args = c.args in
    let i = c.loop-i.i in
    let ws = words args.n (drop args.at args.batch.now) in
    let taken = c.loop-i-test.true in
    let e : c.word_at.result ≡ get_or ws i 0 = c.word_at.ensures ∙ sym (word_of args.batch.now args.at args.n i taken) in
    c.loop-i.invariant ∙ holds_at ws i (within_words args.n _ i taken) (rw e at c.if-word_at-ge-P.false)

pub returns : goal.returns
returns c =
    let args = c.args in
    let ws = words args.n (drop args.at args.batch.now) in
    sym (c.loop-i.invariant ∙ holds_past ws c.loop-i.i (rw length-words c.loop-i-test.false))
