-- No other number of elements has two.
use Rattle.std.proofs.Common.{arith}
use Rattle.view_ports.proofs.Counted.{two_in-other}
use Rattle.view_ports.proofs.command.two.Goals as goal

pub returns-then-len-ne2 : goal.returns-then-len-ne2
returns-then-len-ne2 c = two_in-other c.args.terms.items (λ e. c.if-len-ne2.true (omega (arith, c.args.terms.ok)))
