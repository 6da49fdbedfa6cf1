-- A command is asked, and a refusal stops all children.
use Rattle.std.proofs.Common.{refl}
use Rattle.child_pool.specs.declared.reduce_slot.Stage.TheVariants.{GivenUp}
use Rattle.child_pool.proofs.Talks.{ask_err, ask_none, ask_ok}
use Rattle.child_pool.proofs.Tried.{apart_from}
use Rattle.child_pool.proofs.reduce_slot.ReduceSlot.ask.Goals as goal

pub returns-then-eq-clause-asks : goal.returns-then-eq-clause-asks
returns-then-eq-clause-asks g c = λ source asked spells by. ask_none g.C.Servers c.args.language.now c.args.line.now source asked spells by c.args.self.now

pub returns-in-Ok-clause-asks : goal.returns-in-Ok-clause-asks
returns-in-Ok-clause-asks g c = λ source asked spells by.
    ask_ok g.C.Servers c.args.language.now c.args.line.now source asked spells by c.args.self.now c.try_ask.new.self c.in-Ok.value (apart_from c.args.self.now.stage GivenUp c.if-eq.ensures) c.in-Ok.ensures

pub returns-in-Err-clause-asks : goal.returns-in-Err-clause-asks
returns-in-Err-clause-asks g c = λ source asked spells by.
    ask_err g.C.Servers c.args.language.now c.args.line.now source asked spells by c.args.self.now c.try_ask.new.self _ c.in-Err.fault (apart_from c.args.self.now.stage GivenUp c.if-eq.ensures) c.in-Err.ensures (record {
      pool = refl;
      servers = refl;
      stage = refl;
      keeps = c.stop_all.ensures.keeps;
      stops = c.stop_all.ensures.went;
      faults = c.stop_all.ensures.faults;
    })
