-- Decoding into a slice of two words.
use Rattle.std.specs.Prelude.{List, ℕ, Result}
use Rattle.isa_decoding.specs.Answer.{decoded_words}
use Rattle.tealbobbin_answers.specs.Into.{written, number_into, into}
use Rattle.refusal.specs.declared.Refusal.{Refusal}
use Rattle.isa.specs.declared.Instruction.{Instruction}
use Rattle.isa_decoding.specs.declared.Undecodable.{Undecodable}

-- its two words, in the place of what `out` held
abbrev pub answer_words : Result (Result Instruction Undecodable) Refusal → List ℕ → List ℕ
answer_words answer out = written decoded_words out answer

abbrev pub decode_number_into : List ℕ → Result (Result Instruction Undecodable) Refusal → ℕ
decode_number_into out answer = number_into 2 out answer

abbrev pub decode_into : List ℕ → Result (Result Instruction Undecodable) Refusal → List ℕ
decode_into out answer = into 2 decoded_words out answer
