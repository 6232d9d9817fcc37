-- The auxiliary columns' places in a row; each is one element, of three words.
use Rattle.std.specs.Prelude.{◌≡◌, List, [], ◌∷◌, ℕ, ◌*◌}
use Rattle.air.specs.Count.{up_to}

abbrev pub AUX-WIDTH : ℕ
AUX-WIDTH = 11

-- of a row: three a column
abbrev pub AUX-WORDS : ℕ
AUX-WORDS = AUX-WIDTH * 3

abbrev pub INPUT-TABLE-EVAL-ARG : ℕ
INPUT-TABLE-EVAL-ARG = 0

abbrev pub OUTPUT-TABLE-EVAL-ARG : ℕ
OUTPUT-TABLE-EVAL-ARG = 1

abbrev pub INSTRUCTION-LOOKUP-CLIENT-LOG-DERIVATIVE : ℕ
INSTRUCTION-LOOKUP-CLIENT-LOG-DERIVATIVE = 2

abbrev pub OP-STACK-TABLE-PERM-ARG : ℕ
OP-STACK-TABLE-PERM-ARG = 3

abbrev pub RAM-TABLE-PERM-ARG : ℕ
RAM-TABLE-PERM-ARG = 4

abbrev pub JUMP-STACK-TABLE-PERM-ARG : ℕ
JUMP-STACK-TABLE-PERM-ARG = 5

abbrev pub HASH-INPUT-EVAL-ARG : ℕ
HASH-INPUT-EVAL-ARG = 6

abbrev pub HASH-DIGEST-EVAL-ARG : ℕ
HASH-DIGEST-EVAL-ARG = 7

abbrev pub SPONGE-EVAL-ARG : ℕ
SPONGE-EVAL-ARG = 8

abbrev pub U32-LOOKUP-CLIENT-LOG-DERIVATIVE : ℕ
U32-LOOKUP-CLIENT-LOG-DERIVATIVE = 9

abbrev pub CLOCK-JUMP-DIFFERENCE-LOOKUP-SERVER-LOG-DERIVATIVE : ℕ
CLOCK-JUMP-DIFFERENCE-LOOKUP-SERVER-LOG-DERIVATIVE = 10

-- in the order of `ProcessorAuxColumn`
abbrev pub columns : List ℕ
columns =
    INPUT-TABLE-EVAL-ARG ∷
    OUTPUT-TABLE-EVAL-ARG ∷
    INSTRUCTION-LOOKUP-CLIENT-LOG-DERIVATIVE ∷
    OP-STACK-TABLE-PERM-ARG ∷
    RAM-TABLE-PERM-ARG ∷
    JUMP-STACK-TABLE-PERM-ARG ∷
    HASH-INPUT-EVAL-ARG ∷
    HASH-DIGEST-EVAL-ARG ∷
    SPONGE-EVAL-ARG ∷
    U32-LOOKUP-CLIENT-LOG-DERIVATIVE ∷
    CLOCK-JUMP-DIFFERENCE-LOOKUP-SERVER-LOG-DERIVATIVE ∷
    []

-- they count from 0, without a gap
abbrev pub Counted : Type 0
Counted = columns ≡ up_to AUX-WIDTH
