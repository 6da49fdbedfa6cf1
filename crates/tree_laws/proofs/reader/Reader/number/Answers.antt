use Rattle.std.proofs.Common.{◌≡◌, length, ap, arith}
use Rattle.tree_laws.proofs.Taking.{too_short}
use Rattle.tree_laws.proofs.reader.Reader.number.Goals as goal

pub returns-in-None : goal.returns-in-None
returns-in-None c =
    let seen : c.self.inside.left.now ≡ c.args.self.now = c.self.view_is in
    too_short c.args.self.now (omega (arith, c.in-None.ensures.cases, ap length seen))
