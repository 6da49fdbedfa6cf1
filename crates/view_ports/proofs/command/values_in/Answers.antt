use Rattle.view_ports.proofs.Counted.{values_in-some}
use Rattle.view_ports.proofs.command.values_in.Goals as goal

pub returns : goal.returns
returns c = rw c.in-Array.is (values_in-some c.in-Array.values c.is_empty.result c.is_empty.ensures.1 c.if-is_empty.false)
