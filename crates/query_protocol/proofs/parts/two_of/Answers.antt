use Rattle.view_ports.proofs.Counted.{two_in-other}
use Rattle.query_protocol.proofs.parts.two_of.Goals as goal

pub returns-then-terms-ne2 : goal.returns-then-terms-ne2
returns-then-terms-ne2 c = rw (← c.in-Some.ensures) (two_in-other c.in-Some.terms.now c.if-terms-ne2.true)
