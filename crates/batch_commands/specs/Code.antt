-- A command of the code by its byte.
use Rattle.std.specs.Prelude.{◌≡◌, ℕ, ◌≤◌, Result, Ok, Err, MatchResult}
use Rattle.refusal.specs.declared.Refusal.{Refusal}
use Rattle.refusal.specs.declared.Refusal.TheVariants.{UnknownCommand}
use Rattle.batch_commands.specs.declared.Code.{Code}
use Rattle.batch_commands.specs.declared.Code.TheVariants.{End, TraceRows, Row, OpStack, Ram, JumpStack, Sampled, Digest, Input, Output, MontgomeryRow, Height}
use Rattle.batch_commands.specs.Format.{END, TRACE-ROWS, ROW, OP-STACK, RAM, JUMP-STACK, SAMPLED, DIGEST, INPUT, OUTPUT, MONTGOMERY-ROW, HEIGHT, COMMANDS}

abbrev pub byte_of : Code → ℕ
byte_of End = END
byte_of TraceRows = TRACE-ROWS
byte_of Row = ROW
byte_of OpStack = OP-STACK
byte_of Ram = RAM
byte_of JumpStack = JUMP-STACK
byte_of Sampled = SAMPLED
byte_of Digest = DIGEST
byte_of Input = INPUT
byte_of Output = OUTPUT
byte_of MontgomeryRow = MONTGOMERY-ROW
byte_of Height = HEIGHT

-- the command with this byte, or 7 for a byte that no command has
abbrev pub Decodes : ℕ → Result Code Refusal → Type 0
Decodes byte r = MatchResult r (λ code. byte_of code ≡ byte) (λ refusal. (refusal ≡ UnknownCommand) × (COMMANDS ≤ byte))

-- a command that may be refused, by its byte
abbrev pub byte_in : Result Code Refusal → Result ℕ Refusal
byte_in (Ok code) = Ok (byte_of code)
byte_in (Err refusal) = Err refusal
