-- What strict extension answers. Document 02, Two: "11, strict extension only, some row undecodable, after 2 and before 6."
use Rattle.std.specs.Prelude.{Bool, true, false, not, ◌&&◌, ◌||◌, List, [], ◌∷◌, ◌++◌, ℕ, zero, suc, Result, Ok, Err}
use Rattle.refusal.specs.Tests.{Test, Tests, ◌when◌, first}
use Rattle.refusal.specs.declared.Refusal.TheVariants.{UndecodableRow}
use Rattle.table_rows.specs.Rows.{rows, row_at}
use Rattle.column_entries.specs.Row.{instruction_of}
use Rattle.column_entries.specs.Denominators.{zero_up_to}
use Rattle.extend_answer.specs.Answer.{tests_through_two, denominator_test}
use Rattle.refusal.specs.declared.Refusal.{Refusal}
use Rattle.isa.specs.declared.Instruction.{Instruction}
use Rattle.isa_decoding.specs.declared.Undecodable.{Undecodable}

abbrev pub is_read : Result Instruction Undecodable → Bool
is_read (Ok i) = true
is_read (Err why) = false

-- one of n rows from row c on does not decode
unfoldable pub undecodable_from : List ℕ → ℕ → ℕ → Bool
undecodable_from main c zero = false
undecodable_from main c (suc n) = not (is_read (instruction_of (row_at main c))) || undecodable_from main (suc c) n

-- a row does not decode, be it row 0, the last, or a padding row
abbrev pub undecodable : List ℕ → Bool
undecodable main = undecodable_from main 0 (rows main)

-- extension's tests with one put in, which only strict extension makes
abbrev pub decoding_test : Bool → List ℕ → Test
decoding_test strict main = UndecodableRow when strict && undecodable main

abbrev pub tests_in : Bool → List ℕ → List ℕ → ℕ → List ℕ → List ℕ → Tests
tests_in strict main challenges chunk aux work =
    tests_through_two main challenges chunk aux work ++ decoding_test strict main ∷ denominator_test main challenges ∷ []

-- strict or not
abbrev pub answer_in : Bool → List ℕ → List ℕ → ℕ → List ℕ → List ℕ → Result (Unit {0}) Refusal
answer_in strict main challenges chunk aux work = first (tests_in strict main challenges chunk aux work)

unfoldable pub strict_answer : List ℕ → List ℕ → ℕ → List ℕ → List ℕ → Result (Unit {0}) Refusal
unfolding undecodable_from zero_up_to
strict_answer main challenges chunk aux work = answer_in true main challenges chunk aux work
