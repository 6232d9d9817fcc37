-- The next power of two is the first that holds the rows.
use Rattle.table_pad.proofs.Height.{height_is}
use Rattle.table_pad.proofs.table_height.Goals as goal

pub returns : goal.returns
returns c =
    let next = c.next_power_of_two.ensures in
    height_is c.args.rows _ next.power (rw c.clamp.ensures at next.lower_bound) (rw c.clamp.ensures at next.upper_bound)
