-- What a byte stands for as an opcode, and what is decided on it. Document 02: "Past the point where the word is known to be at most 88, hold one byte inside."
use Rattle.std.specs.Prelude.{List, [], ◌∷◌, ℕ, get_or, Result, Ok, Err}
use Rattle.isa.specs.Instruction.{any_word, stack_element, number_of_words}
use Rattle.isa.specs.declared.Instruction.{Instruction}
use Rattle.isa.specs.declared.Instruction.TheVariants.{Push, Pop, Divine, Pick, Place, Dup, Swap, Halt, Nop, Skiz, Call, Return, Recurse, RecurseOrReturn, Assert, ReadMem, WriteMem, Hash, AssertVector, SpongeInit, SpongeAbsorb, SpongeAbsorbMem, SpongeSqueeze, Add, AddI, Mul, Invert, Eq, Split, Lt, And, Xor, Log2Floor, Pow, DivMod, PopCount, XxAdd, XxMul, XInvert, XbMul, ReadIo, WriteIo, MerkleStep, MerkleStepMem, XxDotStep, XbDotStep}
use Rattle.isa_decoding.specs.Decode.{checked}
use Rattle.isa_decoding.specs.declared.Undecodable.TheVariants.{Unknown}
use Rattle.isa_decoding.specs.declared.Undecodable.{Undecodable}

-- no instruction; one without an argument; one that waits for its argument, any word, a stack element or a number of words
pub data ByteKind : Type 0 where
  none : ByteKind
  alone : Instruction → ByteKind
  word element words : (ℕ → Instruction) → ByteKind

-- the bytes 0 to 88, eight to a line
abbrev pub bytes : List ByteKind
bytes =
    alone Halt ∷ word Push ∷ alone Skiz ∷ words Pop ∷ alone Split ∷ none ∷ alone Lt ∷ none ∷
    alone Nop ∷ words Divine ∷ alone Assert ∷ words WriteMem ∷ alone Log2Floor ∷ none ∷ alone And ∷ none ∷
    alone Return ∷ element Pick ∷ alone Hash ∷ words WriteIo ∷ alone DivMod ∷ none ∷ alone Xor ∷ none ∷
    alone Recurse ∷ element Place ∷ alone AssertVector ∷ none ∷ alone PopCount ∷ none ∷ alone Pow ∷ none ∷
    alone RecurseOrReturn ∷ element Dup ∷ alone SpongeAbsorb ∷ none ∷ alone MerkleStep ∷ none ∷ none ∷ none ∷
    alone SpongeInit ∷ element Swap ∷ alone Add ∷ none ∷ alone MerkleStepMem ∷ none ∷ none ∷ none ∷
    alone SpongeAbsorbMem ∷ word Call ∷ alone Mul ∷ none ∷ none ∷ none ∷ none ∷ none ∷
    alone SpongeSqueeze ∷ words ReadMem ∷ alone Eq ∷ none ∷ none ∷ none ∷ none ∷ none ∷
    alone Invert ∷ word AddI ∷ alone XxAdd ∷ none ∷ none ∷ none ∷ none ∷ none ∷
    alone XInvert ∷ words ReadIo ∷ alone XxMul ∷ none ∷ none ∷ none ∷ none ∷ none ∷
    alone XxDotStep ∷ none ∷ alone XbMul ∷ none ∷ none ∷ none ∷ none ∷ none ∷
    alone XbDotStep ∷ []

unfoldable pub kind_at : ℕ → ByteKind
kind_at b = get_or bytes b none

-- what is decided on a kind, with n as the argument
abbrev pub decided_on : ByteKind → ℕ → Result Instruction Undecodable
decided_on none n = Err Unknown
decided_on (alone i) n = Ok i
decided_on (word f) n = checked (any_word n) (f n)
decided_on (element f) n = checked (stack_element n) (f n)
decided_on (words f) n = checked (number_of_words n) (f n)
