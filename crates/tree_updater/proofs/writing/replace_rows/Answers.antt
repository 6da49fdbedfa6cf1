use Rattle.std.proofs.Common.{refl, rules}
use Rattle.tree_updater.proofs.writing.replace_rows.Goals as goal

pub returns : goal.returns
returns g c = record {
  first = record { slot = c.over.result; design = c.args.design; view = 0 };
  last = c.replace.new.summers;
  idle = c.over.ensures.idle;
  same = refl;
  lent = record { servers_are = c.over.ensures.served; pool_is = c.over.ensures.lent };
  left = record { servers_are = search rules; pool_is = search rules };
  replaces = c.replace.ensures.rows;
  causes = c.replace.ensures.causes;
  costs = c.replace.ensures.costs;
}
