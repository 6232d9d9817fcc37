-- The last arm's byte has no instruction.
use mathlib.Core.Path.{ap}
use Rattle.isa_decoding.specs.Candidate.{candidate}
use Rattle.isa_decoding.proofs.Bytes.{no_instruction}
use Rattle.isa_decoding.proofs.candidate_of.Goals as goal

pub returns-in_default : goal.returns-in_default
returns-in_default c = ap (λ k. candidate k c.args.argument) (no_instruction c.args.opcode c.in_default.in_default-own.rest)
