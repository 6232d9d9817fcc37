-- Opcodes by the names of the instructions.
use Rattle.std.specs.Prelude.{ℕ}

abbrev pub PUSH : ℕ
PUSH = 1

abbrev pub POP : ℕ
POP = 3

abbrev pub DIVINE : ℕ
DIVINE = 9

abbrev pub PICK : ℕ
PICK = 17

abbrev pub PLACE : ℕ
PLACE = 25

abbrev pub DUP : ℕ
DUP = 33

abbrev pub SWAP : ℕ
SWAP = 41

abbrev pub HALT : ℕ
HALT = 0

abbrev pub NOP : ℕ
NOP = 8

abbrev pub SKIZ : ℕ
SKIZ = 2

abbrev pub CALL : ℕ
CALL = 49

abbrev pub RETURN : ℕ
RETURN = 16

abbrev pub RECURSE : ℕ
RECURSE = 24

abbrev pub RECURSE-OR-RETURN : ℕ
RECURSE-OR-RETURN = 32

abbrev pub ASSERT : ℕ
ASSERT = 10

abbrev pub READ-MEM : ℕ
READ-MEM = 57

abbrev pub WRITE-MEM : ℕ
WRITE-MEM = 11

abbrev pub HASH : ℕ
HASH = 18

abbrev pub ASSERT-VECTOR : ℕ
ASSERT-VECTOR = 26

abbrev pub SPONGE-INIT : ℕ
SPONGE-INIT = 40

abbrev pub SPONGE-ABSORB : ℕ
SPONGE-ABSORB = 34

abbrev pub SPONGE-ABSORB-MEM : ℕ
SPONGE-ABSORB-MEM = 48

abbrev pub SPONGE-SQUEEZE : ℕ
SPONGE-SQUEEZE = 56

abbrev pub ADD : ℕ
ADD = 42

abbrev pub ADD-I : ℕ
ADD-I = 65

abbrev pub MUL : ℕ
MUL = 50

abbrev pub INVERT : ℕ
INVERT = 64

abbrev pub EQ : ℕ
EQ = 58

abbrev pub SPLIT : ℕ
SPLIT = 4

abbrev pub LT : ℕ
LT = 6

abbrev pub AND : ℕ
AND = 14

abbrev pub XOR : ℕ
XOR = 22

abbrev pub LOG-2-FLOOR : ℕ
LOG-2-FLOOR = 12

abbrev pub POW : ℕ
POW = 30

abbrev pub DIV-MOD : ℕ
DIV-MOD = 20

abbrev pub POP-COUNT : ℕ
POP-COUNT = 28

abbrev pub XX-ADD : ℕ
XX-ADD = 66

abbrev pub XX-MUL : ℕ
XX-MUL = 74

abbrev pub X-INVERT : ℕ
X-INVERT = 72

abbrev pub XB-MUL : ℕ
XB-MUL = 82

abbrev pub READ-IO : ℕ
READ-IO = 73

abbrev pub WRITE-IO : ℕ
WRITE-IO = 19

abbrev pub MERKLE-STEP : ℕ
MERKLE-STEP = 36

abbrev pub MERKLE-STEP-MEM : ℕ
MERKLE-STEP-MEM = 44

abbrev pub XX-DOT-STEP : ℕ
XX-DOT-STEP = 80

abbrev pub XB-DOT-STEP : ℕ
XB-DOT-STEP = 88
