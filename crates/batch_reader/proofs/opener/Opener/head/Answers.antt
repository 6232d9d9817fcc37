-- The head's operand is whole.
use mathlib.Core.Path.{sym}
use Rattle.std.proofs.lemmas.List.{take_rest}
use Rattle.batch_commands.specs.Code.{byte_of}
use Rattle.batch_reader.proofs.Faults.{whole_there}
use Rattle.batch_reader.proofs.opener.Opener.head.Goals as goal

pub invariant_of-result : goal.invariant_of-result
invariant_of-result c =
    let batch = c.args.self.batch.now in
    let at = c.args.self.at in
    record { whole = rw take_rest (whole_there batch at (byte_of c.in_ok-code.code) (sym c.in_ok-code.ensures)) }
