-- The main columns' places in a row of the processor table.
use Rattle.std.specs.Prelude.{◌≡◌, List, [], ◌∷◌, ℕ}
use Rattle.air.specs.Count.{up_to}

abbrev pub MAIN-WIDTH : ℕ
MAIN-WIDTH = 39

abbrev pub CLK : ℕ
CLK = 0

abbrev pub IS-PADDING : ℕ
IS-PADDING = 1

abbrev pub IP : ℕ
IP = 2

abbrev pub CI : ℕ
CI = 3

abbrev pub NIA : ℕ
NIA = 4

abbrev pub IB0 : ℕ
IB0 = 5

abbrev pub IB1 : ℕ
IB1 = 6

abbrev pub IB2 : ℕ
IB2 = 7

abbrev pub IB3 : ℕ
IB3 = 8

abbrev pub IB4 : ℕ
IB4 = 9

abbrev pub IB5 : ℕ
IB5 = 10

abbrev pub IB6 : ℕ
IB6 = 11

abbrev pub JSP : ℕ
JSP = 12

abbrev pub JSO : ℕ
JSO = 13

abbrev pub JSD : ℕ
JSD = 14

abbrev pub ST0 : ℕ
ST0 = 15

abbrev pub ST1 : ℕ
ST1 = 16

abbrev pub ST2 : ℕ
ST2 = 17

abbrev pub ST3 : ℕ
ST3 = 18

abbrev pub ST4 : ℕ
ST4 = 19

abbrev pub ST5 : ℕ
ST5 = 20

abbrev pub ST6 : ℕ
ST6 = 21

abbrev pub ST7 : ℕ
ST7 = 22

abbrev pub ST8 : ℕ
ST8 = 23

abbrev pub ST9 : ℕ
ST9 = 24

abbrev pub ST10 : ℕ
ST10 = 25

abbrev pub ST11 : ℕ
ST11 = 26

abbrev pub ST12 : ℕ
ST12 = 27

abbrev pub ST13 : ℕ
ST13 = 28

abbrev pub ST14 : ℕ
ST14 = 29

abbrev pub ST15 : ℕ
ST15 = 30

abbrev pub OP-STACK-POINTER : ℕ
OP-STACK-POINTER = 31

abbrev pub HV0 : ℕ
HV0 = 32

abbrev pub HV1 : ℕ
HV1 = 33

abbrev pub HV2 : ℕ
HV2 = 34

abbrev pub HV3 : ℕ
HV3 = 35

abbrev pub HV4 : ℕ
HV4 = 36

abbrev pub HV5 : ℕ
HV5 = 37

abbrev pub CLOCK-JUMP-DIFFERENCE-LOOKUP-MULTIPLICITY : ℕ
CLOCK-JUMP-DIFFERENCE-LOOKUP-MULTIPLICITY = 38

-- in the order of `ProcessorMainColumn`
abbrev pub columns : List ℕ
columns =
    CLK ∷ IS-PADDING ∷ IP ∷ CI ∷ NIA ∷
    IB0 ∷ IB1 ∷ IB2 ∷ IB3 ∷ IB4 ∷ IB5 ∷ IB6 ∷
    JSP ∷ JSO ∷ JSD ∷
    ST0 ∷ ST1 ∷ ST2 ∷ ST3 ∷ ST4 ∷ ST5 ∷ ST6 ∷ ST7 ∷ ST8 ∷ ST9 ∷ ST10 ∷ ST11 ∷ ST12 ∷ ST13 ∷ ST14 ∷ ST15 ∷
    OP-STACK-POINTER ∷
    HV0 ∷ HV1 ∷ HV2 ∷ HV3 ∷ HV4 ∷ HV5 ∷
    CLOCK-JUMP-DIFFERENCE-LOOKUP-MULTIPLICITY ∷
    []

-- they count from 0, without a gap
abbrev pub Counted : Type 0
Counted = columns ≡ up_to MAIN-WIDTH
