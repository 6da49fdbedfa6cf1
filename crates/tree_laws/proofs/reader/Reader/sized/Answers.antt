use Rattle.std.proofs.Common.{◌≡◌, length, ap, arith}
use Rattle.tree_laws.proofs.Taking.{past_end}
use Rattle.tree_laws.proofs.reader.Reader.sized.Goals as goal

pub returns-then-count-self : goal.returns-then-count-self
returns-then-count-self c =
    let seen : c.self.inside.left.now ≡ c.number.new.self = c.self.view_is in
    past_end c.args.self.now c.number.new.self c.in_ok-count.count c.in_ok-count.ensures.0 c.in_ok-count.ensures.1 (omega (arith, ap length seen))
