-- A step inside the decoder: a byte's instruction before its argument is tested.
use Rattle.std.specs.Prelude.{ℕ}
use Rattle.isa.specs.declared.Instruction.TheVariants.{Halt}
use Rattle.isa_decoding.specs.Byte.{ByteKind, none, alone, word, element, words}
use Rattle.isa_decoding.specs.declared.Candidate.{Candidate}
use Rattle.isa_decoding.specs.declared.Test.TheVariants.{Any, StackElement, NumberOfWords, NoOpcode}

-- which of its four tests the argument must pass, and the instruction
abbrev pub candidate : ByteKind → ℕ → Candidate
candidate none n = (NoOpcode, Halt)
candidate (alone i) n = (Any, i)
candidate (word f) n = (Any, f n)
candidate (element f) n = (StackElement, f n)
candidate (words f) n = (NumberOfWords, f n)
