-- The instruction that the words CI and NIA stand for.
use Rattle.std.specs.Prelude.{cond, List, [], ◌∷◌, ℕ, eqb, Result, Ok, Err}
use Rattle.isa.specs.Instruction.{Argument, none, any_word, stack_element, number_of_words, allowed, kind, opcode_of}
use Rattle.isa.specs.declared.Instruction.{Instruction}
use Rattle.isa.specs.declared.Instruction.TheVariants.{Push, Pop, Divine, Pick, Place, Dup, Swap, Halt, Nop, Skiz, Call, Return, Recurse, RecurseOrReturn, Assert, ReadMem, WriteMem, Hash, AssertVector, SpongeInit, SpongeAbsorb, SpongeAbsorbMem, SpongeSqueeze, Add, AddI, Mul, Invert, Eq, Split, Lt, And, Xor, Log2Floor, Pow, DivMod, PopCount, XxAdd, XxMul, XInvert, XbMul, ReadIo, WriteIo, MerkleStep, MerkleStepMem, XxDotStep, XbDotStep}
use Rattle.isa_decoding.specs.declared.Class.TheVariants.{StackElement, NumberOfWords}
use Rattle.isa_decoding.specs.declared.Undecodable.TheVariants.{Unknown, Outside}
use Rattle.isa_decoding.specs.declared.Undecodable.{Undecodable}

-- every instruction, with n as its argument if it takes one
abbrev pub instructions : ℕ → List Instruction
instructions n =
    Push n ∷ Pop n ∷ Divine n ∷ Pick n ∷ Place n ∷ Dup n ∷ Swap n ∷
    Halt ∷ Nop ∷ Skiz ∷ Call n ∷ Return ∷ Recurse ∷ RecurseOrReturn ∷ Assert ∷
    ReadMem n ∷ WriteMem n ∷
    Hash ∷ AssertVector ∷ SpongeInit ∷ SpongeAbsorb ∷ SpongeAbsorbMem ∷ SpongeSqueeze ∷
    Add ∷ AddI n ∷ Mul ∷ Invert ∷ Eq ∷
    Split ∷ Lt ∷ And ∷ Xor ∷ Log2Floor ∷ Pow ∷ DivMod ∷ PopCount ∷
    XxAdd ∷ XxMul ∷ XInvert ∷ XbMul ∷
    ReadIo n ∷ WriteIo n ∷
    MerkleStep ∷ MerkleStepMem ∷ XxDotStep ∷ XbDotStep ∷
    []

-- the instruction, if its argument is allowed; else the class that the argument is outside of
abbrev pub checked : Argument → Instruction → Result Instruction Undecodable
checked none i = Ok i
checked (any_word n) i = Ok i
checked (stack_element n) i = cond (allowed (stack_element n)) (Ok i) (Err (Outside StackElement i))
checked (number_of_words n) i = cond (allowed (number_of_words n)) (Ok i) (Err (Outside NumberOfWords i))

-- the first instruction of a list with the opcode k
abbrev pub find : ℕ → List Instruction → Result Instruction Undecodable
find k [] = Err Unknown
find k (i ∷ is) = cond (eqb k (opcode_of i)) (checked (kind i).argument i) (find k is)

unfoldable pub decoded : ℕ → ℕ → Result Instruction Undecodable
decoded ci nia = find ci (instructions nia)
