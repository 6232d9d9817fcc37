-- The strict answer.
use Rattle.extend_answer.specs.Strict.{strict_answer}
use Rattle.extend.specs.Extend.{strict_aux, strict_work}
use Rattle.extend.proofs.extend_strict.Goals as goal

pub returns : goal.returns
unfolding strict_answer strict_aux strict_work
returns c = record { answer = c.extended_or_refused.ensures.answer; extended = rw (← c.extended_or_refused.ensures.answer) c.extended_or_refused.ensures.extended; cleared = rw (← c.extended_or_refused.ensures.answer) c.extended_or_refused.ensures.cleared }
