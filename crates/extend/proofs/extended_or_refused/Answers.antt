-- Nothing is written on a refusal; else the cells are written chunk by chunk, and `work` is cleared.
use mathlib.Core.Path.{◌≡◌, sym}
use mathlib.Core.Bool.{Bool}
use mathlib.Core.List.{List}
use Prim.Native.Nat.{ℕ}
use Rattle.refusal.specs.Number.{Done}
use Rattle.refusal.proofs.First.{done_exactly}
use Rattle.extend_answer.specs.Answer.{extend_tests, extend_answer}
use Rattle.extend_answer.specs.Strict.{tests_in, answer_in}
use Rattle.extend_answer.proofs.Accepted.{passed, ready}
use Rattle.extend.proofs.extended_or_refused.Goals as goal

-- where strict extension is done, none of extension's tests holds
plainly : (strict : Bool) (main challenges : List ℕ) (chunk : ℕ) (aux work : List ℕ) → answer_in strict main challenges chunk aux work ≡ Done → extend_answer main challenges chunk aux work ≡ Done
unfolding extend_answer
plainly strict main challenges chunk aux work e =
    let none = (done_exactly (tests_in strict main challenges chunk aux work)).0 e in
    let later = none.1.1 in
    (done_exactly (extend_tests main challenges chunk aux work)).1 (none.0, (none.1.0, (later.0, (later.1.0, (later.1.1.0, later.1.1.1.1)))))

pub new-requires : goal.new-requires
new-requires c =
    let args = c.args in
    let done = plainly args.strict args.main.now args.challenges.now args.chunk args.aux.now args.work.now (sym c.in_ok-extend_answer.ensures) in
    record {
      whole = (passed args.main.now args.challenges.now args.chunk args.aux.now args.work.now done).fitting.whole;
      ready = ready args.main.now args.challenges.now args.chunk args.aux.now args.work.now done;
    }

pub extend_by_chunks-requires : goal.extend_by_chunks-requires
extend_by_chunks-requires c =
    let args = c.args in
    let done = plainly args.strict args.main.now args.challenges.now args.chunk args.aux.now args.work.now (sym c.in_ok-extend_answer.ensures) in
    let a = passed args.main.now args.challenges.now args.chunk args.aux.now args.work.now done in
    let made = c.new.ensures in
    record {
      chunk_nonzero = a.chunk_positive;
      challenges_value = rw (made.main, made.challenges) a.no_zero;
      aux_len = rw made.main a.fitting.aux_length;
      work_len = rw made.main a.work_length;
    }
