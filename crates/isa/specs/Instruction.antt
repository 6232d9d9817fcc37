-- Triton VM's 46 instructions: opcode, argument, and what they do to the height of the stack.
use Rattle.std.specs.Prelude.{Bool, true, ◌&&◌, ℕ, leb}
use Rattle.isa.specs.Opcode.{PUSH, POP, DIVINE, PICK, PLACE, DUP, SWAP, HALT, NOP, SKIZ, CALL, RETURN, RECURSE, RECURSE-OR-RETURN, ASSERT, READ-MEM, WRITE-MEM, HASH, ASSERT-VECTOR, SPONGE-INIT, SPONGE-ABSORB, SPONGE-ABSORB-MEM, SPONGE-SQUEEZE, ADD, ADD-I, MUL, INVERT, EQ, SPLIT, LT, AND, XOR, LOG-2-FLOOR, POW, DIV-MOD, POP-COUNT, XX-ADD, XX-MUL, X-INVERT, XB-MUL, READ-IO, WRITE-IO, MERKLE-STEP, MERKLE-STEP-MEM, XX-DOT-STEP, XB-DOT-STEP}
use Rattle.isa.specs.declared.Instruction.{Instruction}
use Rattle.isa.specs.declared.Instruction.TheVariants.{Push, Pop, Divine, Pick, Place, Dup, Swap, Halt, Nop, Skiz, Call, Return, Recurse, RecurseOrReturn, Assert, ReadMem, WriteMem, Hash, AssertVector, SpongeInit, SpongeAbsorb, SpongeAbsorbMem, SpongeSqueeze, Add, AddI, Mul, Invert, Eq, Split, Lt, And, Xor, Log2Floor, Pow, DivMod, PopCount, XxAdd, XxMul, XInvert, XbMul, ReadIo, WriteIo, MerkleStep, MerkleStepMem, XxDotStep, XbDotStep}
use Rattle.isa.specs.declared.Influence.{Influence}
use Rattle.isa.specs.declared.Influence.TheVariants.{Grows, Shrinks, Keeps}

-- what an argument may be
pub data Argument : Type 0 where
  none : Argument
  any_word stack_element number_of_words : ℕ → Argument

abbrev pub allowed : Argument → Bool
allowed none = true
allowed (any_word n) = true
allowed (stack_element n) = leb n 15
allowed (number_of_words n) = leb 1 n && leb n 5

-- its value, and 0 where there is none
abbrev pub value : Argument → ℕ
value none = 0
value (any_word n) = n
value (stack_element n) = n
value (number_of_words n) = n

pub record Kind : Type 0 where
  pub opcode : ℕ
  pub argument : Argument
  pub influence : Influence

abbrev pub has : ℕ → Argument → Influence → Kind
has k a f = record { opcode = k; argument = a; influence = f }

abbrev pub kind : Instruction → Kind
kind (Push n) = has PUSH (any_word n) (Grows 1)
kind (Pop n) = has POP (number_of_words n) (Shrinks n)
kind (Divine n) = has DIVINE (number_of_words n) (Grows n)
kind (Pick n) = has PICK (stack_element n) Keeps
kind (Place n) = has PLACE (stack_element n) Keeps
kind (Dup n) = has DUP (stack_element n) (Grows 1)
kind (Swap n) = has SWAP (stack_element n) Keeps
kind Halt = has HALT none Keeps
kind Nop = has NOP none Keeps
kind Skiz = has SKIZ none (Shrinks 1)
kind (Call n) = has CALL (any_word n) Keeps
kind Return = has RETURN none Keeps
kind Recurse = has RECURSE none Keeps
kind RecurseOrReturn = has RECURSE-OR-RETURN none Keeps
kind Assert = has ASSERT none (Shrinks 1)
kind (ReadMem n) = has READ-MEM (number_of_words n) (Grows n)
kind (WriteMem n) = has WRITE-MEM (number_of_words n) (Shrinks n)
kind Hash = has HASH none (Shrinks 5)
kind AssertVector = has ASSERT-VECTOR none (Shrinks 5)
kind SpongeInit = has SPONGE-INIT none Keeps
kind SpongeAbsorb = has SPONGE-ABSORB none (Shrinks 10)
kind SpongeAbsorbMem = has SPONGE-ABSORB-MEM none Keeps
kind SpongeSqueeze = has SPONGE-SQUEEZE none (Grows 10)
kind Add = has ADD none (Shrinks 1)
kind (AddI n) = has ADD-I (any_word n) Keeps
kind Mul = has MUL none (Shrinks 1)
kind Invert = has INVERT none Keeps
kind Eq = has EQ none (Shrinks 1)
kind Split = has SPLIT none (Grows 1)
kind Lt = has LT none (Shrinks 1)
kind And = has AND none (Shrinks 1)
kind Xor = has XOR none (Shrinks 1)
kind Log2Floor = has LOG-2-FLOOR none Keeps
kind Pow = has POW none (Shrinks 1)
kind DivMod = has DIV-MOD none Keeps
kind PopCount = has POP-COUNT none Keeps
kind XxAdd = has XX-ADD none (Shrinks 3)
kind XxMul = has XX-MUL none (Shrinks 3)
kind XInvert = has X-INVERT none Keeps
kind XbMul = has XB-MUL none (Shrinks 1)
kind (ReadIo n) = has READ-IO (number_of_words n) (Grows n)
kind (WriteIo n) = has WRITE-IO (number_of_words n) (Shrinks n)
kind MerkleStep = has MERKLE-STEP none Keeps
kind MerkleStepMem = has MERKLE-STEP-MEM none Keeps
kind XxDotStep = has XX-DOT-STEP none Keeps
kind XbDotStep = has XB-DOT-STEP none Keeps

abbrev pub opcode_of : Instruction → ℕ
opcode_of i = (kind i).opcode

abbrev pub argument_of : Instruction → ℕ
argument_of i = value (kind i).argument

abbrev pub influence_of : Instruction → Influence
influence_of i = (kind i).influence
