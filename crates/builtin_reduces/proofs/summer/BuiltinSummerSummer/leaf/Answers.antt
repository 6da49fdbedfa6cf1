use Rattle.std.proofs.Common.{refl}
use Rattle.builtin_reduces.proofs.Caused.{caused}
use Rattle.builtin_reduces.proofs.summer.BuiltinSummerSummer.leaf.Goals as goal

pub returns-clause-cause : goal.returns-clause-cause
returns-clause-cause c = caused c.args.self.now _ c.args.self.now.kind c.leaf_of_items.result refl c.leaf_of_items.ensures.free
