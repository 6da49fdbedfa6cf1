use Rattle.view_ports.proofs.Counted.{one_in-other}
use Rattle.query_protocol.proofs.parts.one_of.Goals as goal

pub returns-then-terms-ne1 : goal.returns-then-terms-ne1
returns-then-terms-ne1 c = rw (← c.in-Some.ensures) (one_in-other c.in-Some.terms.now c.if-terms-ne1.true)
