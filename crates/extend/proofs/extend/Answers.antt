-- The answer that is not strict is extension's.
use Rattle.extend_answer.specs.Answer.{extend_answer}
use Rattle.extend.specs.Extend.{extend_aux, extend_work}
use Rattle.extend.proofs.extend.Goals as goal

pub returns : goal.returns
unfolding extend_answer extend_aux extend_work
returns c = record { answer = c.extended_or_refused.ensures.answer; extended = rw (← c.extended_or_refused.ensures.answer) c.extended_or_refused.ensures.extended; cleared = rw (← c.extended_or_refused.ensures.answer) c.extended_or_refused.ensures.cleared }
