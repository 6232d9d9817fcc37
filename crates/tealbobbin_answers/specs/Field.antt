-- The field's operations over slices: 1 if a slice has another length than an element or a word, then the operation's answer.
use Rattle.std.specs.Prelude.{Bool, cond, List, [], ◌∷◌, ℕ, eqb, length, Result, Ok, Err}
use Rattle.field.specs.Element.{element_at, words_of}
use Rattle.field.specs.declared.XFieldElement.{XFieldElement}
use Rattle.refusal.specs.declared.Refusal.{Refusal}
use Rattle.refusal.specs.declared.Refusal.TheVariants.{SliceLength}
use Rattle.tealbobbin_answers.specs.Into.{written, number_into, into}

-- a word alone
abbrev pub word_alone : ℕ → List ℕ
word_alone w = w ∷ []

-- the word of an answer, in the place of what `out` held
abbrev pub base_written : List ℕ → Result ℕ Refusal → List ℕ
base_written out answer = written word_alone out answer

abbrev pub element_written : List ℕ → Result XFieldElement Refusal → List ℕ
element_written out answer = written words_of out answer

abbrev pub is_word : List ℕ → Bool
is_word l = eqb (length l) 1

abbrev pub is_element : List ℕ → Bool
is_element l = eqb (length l) 3

-- an element in a slice, and one in each of two
abbrev pub element_in : List ℕ → Result XFieldElement Refusal
element_in l = cond (is_element l) (Ok (element_at l 0)) (Err SliceLength)

abbrev pub elements_in : List ℕ → List ℕ → Result (XFieldElement × XFieldElement) Refusal
elements_in a b = cond (is_element a) (cond (is_element b) (Ok (element_at a 0, element_at b 0)) (Err SliceLength)) (Err SliceLength)

abbrev pub base_number_into : List ℕ → Result ℕ Refusal → ℕ
base_number_into out answer = number_into 1 out answer

abbrev pub base_into : List ℕ → Result ℕ Refusal → List ℕ
base_into out answer = into 1 word_alone out answer

abbrev pub element_number_into : List ℕ → Result XFieldElement Refusal → ℕ
element_number_into out answer = number_into 3 out answer

abbrev pub element_into : List ℕ → Result XFieldElement Refusal → List ℕ
element_into out answer = into 3 words_of out answer

-- an operation on one element and on two
abbrev pub unary_number : (XFieldElement → Result XFieldElement Refusal) → List ℕ → List ℕ → ℕ
unary_number f a out = cond (is_element a) (element_number_into out (f (element_at a 0))) 1

abbrev pub unary_out : (XFieldElement → Result XFieldElement Refusal) → List ℕ → List ℕ → List ℕ
unary_out f a out = cond (is_element a) (element_into out (f (element_at a 0))) out

abbrev pub binary_number : (XFieldElement → XFieldElement → Result XFieldElement Refusal) → List ℕ → List ℕ → List ℕ → ℕ
binary_number f a b out = cond (is_element a) (unary_number (f (element_at a 0)) b out) 1

abbrev pub binary_out : (XFieldElement → XFieldElement → Result XFieldElement Refusal) → List ℕ → List ℕ → List ℕ → List ℕ
binary_out f a b out = cond (is_element a) (unary_out (f (element_at a 0)) b out) out
