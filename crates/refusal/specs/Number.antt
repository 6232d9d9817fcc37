-- The number that documents 01 and 02 give each refusal.
use Rattle.std.specs.Prelude.{ℕ, Result, Ok, Err}
use Rattle.refusal.specs.declared.Refusal.{Refusal}
use Rattle.refusal.specs.declared.Refusal.TheVariants.{SliceLength, WordNotBelowP, RowCount, DifferenceTooLarge, ChunkLengthZero, ZeroDenominator, UnknownCommand, BatchCutOff, CommandOutOfPlace, CommandOutOfOrder, UndecodableRow, HeightOutOfRange}

abbrev pub number_of : Refusal → ℕ
number_of SliceLength = 1
number_of WordNotBelowP = 2
number_of RowCount = 3
number_of DifferenceTooLarge = 4
number_of ChunkLengthZero = 5
number_of ZeroDenominator = 6
number_of UnknownCommand = 7
number_of BatchCutOff = 8
number_of CommandOutOfPlace = 9
number_of CommandOutOfOrder = 10
number_of UndecodableRow = 11
number_of HeightOutOfRange = 12

-- the answer of an operation that has no value of its own
abbrev pub Done : Result (Unit {0}) Refusal
Done = Ok tt

-- an answer's number: 0, or the refusal's
abbrev pub answer_number_of : {A : Type 0} → Result A Refusal → ℕ
answer_number_of (Ok a) = 0
answer_number_of (Err r) = number_of r

-- what a lent slice holds afterwards: itself after a refusal
abbrev pub on_done : {A B : Type 0} → Result B Refusal → A → A → A
on_done (Ok b) result kept = result
on_done (Err r) result kept = kept
