-- What decoding a row answers. Document 01: "Decode: 1 unless 39 words; 2."
use Rattle.std.specs.Prelude.{List, [], ◌∷◌, ℕ, eqb, length, get_or, Result, Ok, Err}
use Rattle.air.specs.MainColumn.{MAIN-WIDTH, CI, NIA}
use Rattle.field_base.specs.Words.{all_below}
use Rattle.refusal.specs.Tests.{Tests, ◌unless◌, first_or}
use Rattle.refusal.specs.declared.Refusal.TheVariants.{SliceLength, WordNotBelowP}
use Rattle.isa.specs.Instruction.{opcode_of}
use Rattle.isa_decoding.specs.Decode.{decoded}
use Rattle.isa_decoding.specs.declared.Class.{Class}
use Rattle.isa_decoding.specs.declared.Class.TheVariants.{StackElement, NumberOfWords}
use Rattle.isa_decoding.specs.declared.Undecodable.TheVariants.{Unknown, Outside}
use Rattle.refusal.specs.declared.Refusal.{Refusal}
use Rattle.isa.specs.declared.Instruction.{Instruction}
use Rattle.isa_decoding.specs.declared.Undecodable.{Undecodable}

abbrev pub decode_tests : List ℕ → Tests
decode_tests row = (SliceLength unless eqb (length row) MAIN-WIDTH) ∷ (WordNotBelowP unless all_below row) ∷ []

unfoldable pub decode_answer : List ℕ → Result (Result Instruction Undecodable) Refusal
decode_answer row = first_or Err (decode_tests row) (Ok (decoded (get_or row CI 0) (get_or row NIA 0)))

-- the first word where the argument is outside of the class
abbrev pub class_word : Class → ℕ
class_word StackElement = 2
class_word NumberOfWords = 3

-- its two words: 1 and the opcode; 0 and 0 for an opcode that is none; 2 or 3 and the opcode for an argument outside 0 to 15 or 1 to 5
abbrev pub decoded_words : Result Instruction Undecodable → List ℕ
decoded_words (Ok i) = 1 ∷ opcode_of i ∷ []
decoded_words (Err Unknown) = 0 ∷ 0 ∷ []
decoded_words (Err (Outside c i)) = class_word c ∷ opcode_of i ∷ []

-- what the slice for them holds afterwards: on a refusal, what it held
abbrev pub answer_words : Result (Result Instruction Undecodable) Refusal → List ℕ → List ℕ
answer_words (Err r) out = out
answer_words (Ok d) out = decoded_words d
