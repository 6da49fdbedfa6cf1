use Rattle.std.proofs.Common.{◌<◌, length, arith}
use Rattle.tree_query.proofs.Lists.{first_taken}
use Rattle.tree_query.proofs.walk.take_first.Goals as goal

pub returns : goal.returns
returns g c =
    let some : 0 < length c.args.list.now.items = omega arith in
    first_taken c.args.list.now.items c.remove.new.self.items c.remove.result some c.remove.ensures.value c.remove.ensures.items
