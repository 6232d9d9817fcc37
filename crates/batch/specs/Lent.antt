-- What a program lends for opening, and what lies up to the counts.
use Rattle.std.specs.Prelude.{List, ℕ, ◌*◌, ◌≤◌, replicate}
use Rattle.air.specs.MainColumn.{MAIN-WIDTH}
use Rattle.batch_commands.specs.Format.{MAX-LOG-2-HEIGHT}
use Rattle.batch_reader.specs.declared.Counts.{Counts}

-- a slice as it is lent
unfoldable pub zeros : ℕ → List ℕ
zeros n = replicate n 0

-- the counts lie within slices of these lengths, and k in its range, or it is 0
pub record Within (counts : Counts) (trace op_stack ram jump_stack input output : ℕ) : Type 0 where
  pub in_trace : counts.rows * MAIN-WIDTH ≤ trace
  pub in_op_stack : counts.op_stack ≤ op_stack
  pub in_ram : counts.ram ≤ ram
  pub in_jump_stack : counts.jump_stack ≤ jump_stack
  pub in_input : counts.input ≤ input
  pub in_output : counts.output ≤ output
  pub height : counts.log2_height ≤ MAX-LOG-2-HEIGHT
