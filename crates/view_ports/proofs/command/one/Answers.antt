-- No other number of elements has one.
use Rattle.std.proofs.Common.{arith}
use Rattle.view_ports.proofs.Counted.{one_in-other}
use Rattle.view_ports.proofs.command.one.Goals as goal

pub returns-then-len-ne1 : goal.returns-then-len-ne1
returns-then-len-ne1 c = one_in-other c.args.terms.items (λ e. c.if-len-ne1.true (omega (arith, c.args.terms.ok)))
