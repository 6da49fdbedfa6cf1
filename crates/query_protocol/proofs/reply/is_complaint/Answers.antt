use Rattle.query_protocol.proofs.Read.{is_complaint_in-other}
use Rattle.query_protocol.proofs.reply.is_complaint.Goals as goal

pub returns-then-terms-ne3 : goal.returns-then-terms-ne3
returns-then-terms-ne3 c = rw (← c.in-Some.ensures) (is_complaint_in-other c.in-Some.terms.now c.if-terms-ne3.true)
