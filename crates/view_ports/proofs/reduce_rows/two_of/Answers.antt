use Rattle.view_ports.proofs.Counted.{two_in-other}
use Rattle.view_ports.proofs.reduce_rows.two_of.Goals as goal

pub returns-then-terms-ne2 : goal.returns-then-terms-ne2
returns-then-terms-ne2 c =
    rw (c.in-Array.is, ← c.as_slice-terms.ensures) (two_in-other c.as_slice-terms.result.now c.if-terms-ne2.true)
