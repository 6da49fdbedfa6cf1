use Rattle.std.proofs.Common.{◌≡◌, ◌-◌, suc, length, arith}
use Rattle.reduce_tree.proofs.Lists.{last_taken}
use Rattle.reduce_tree.proofs.parts.take_last.Goals as goal

pub returns : goal.returns
returns g c =
    let place : suc (c.len-last.result - 1) ≡ length c.args.list.now.items = omega arith in
    last_taken c.args.list.now.items c.remove.new.self.items c.remove.result (c.len-last.result - 1) place c.remove.ensures.value c.remove.ensures.items
