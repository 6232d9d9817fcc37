-- What the public operations on words in the form answer: 2; inverse then 6 on zero.
use Rattle.std.specs.Prelude.{ℕ, Result, Ok, Err}
use Rattle.refusal.specs.Tests.{first_or}
use Rattle.field_base.specs.Answers.{word_tests, words_tests, inverse_tests}
use Rattle.field_montgomery.specs.Form.{to_montgomery, from_montgomery, montgomery_sum, montgomery_product, montgomery_inverse}
use Rattle.refusal.specs.declared.Refusal.{Refusal}

abbrev pub to_answer : ℕ → Result ℕ Refusal
to_answer a = first_or Err (word_tests a) (Ok (to_montgomery a))

abbrev pub from_answer : ℕ → Result ℕ Refusal
from_answer a = first_or Err (word_tests a) (Ok (from_montgomery a))

abbrev pub montgomery_add : ℕ → ℕ → Result ℕ Refusal
montgomery_add a b = first_or Err (words_tests a b) (Ok (montgomery_sum a b))

abbrev pub montgomery_mul : ℕ → ℕ → Result ℕ Refusal
montgomery_mul a b = first_or Err (words_tests a b) (Ok (montgomery_product a b))

abbrev pub montgomery_inverted : ℕ → Result ℕ Refusal
montgomery_inverted a = first_or Err (inverse_tests a) (Ok (montgomery_inverse a))
