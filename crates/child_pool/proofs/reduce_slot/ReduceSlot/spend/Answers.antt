-- All children are stopped, unless they were.
use Rattle.std.proofs.Common.{refl}
use Rattle.child_pool.specs.declared.reduce_slot.Stage.TheVariants.{GivenUp}
use Rattle.child_pool.specs.TalkLaws.{fails_none}
use Rattle.child_pool.proofs.Spent.{fails_spent}
use Rattle.child_pool.proofs.Tried.{apart_from}
use Rattle.child_pool.proofs.reduce_slot.ReduceSlot.spend.Goals as goal

pub returns-then-eq-clause-fails : goal.returns-then-eq-clause-fails
returns-then-eq-clause-fails g c = λ language reduces. fails_none g.C.Servers language reduces c.args.self.now

pub returns-clause-fails : goal.returns-clause-fails
returns-clause-fails g c = λ language reduces.
    fails_spent g.C.Servers language reduces c.args.self.now _ (apart_from c.args.self.now.stage GivenUp c.if-eq.ensures) (record {
      pool = refl;
      servers = refl;
      stage = refl;
      keeps = c.stop_all.ensures.keeps;
      stops = c.stop_all.ensures.went;
      faults = c.stop_all.ensures.faults;
    })
