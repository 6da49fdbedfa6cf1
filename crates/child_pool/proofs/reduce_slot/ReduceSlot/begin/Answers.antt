-- The child is reset where nothing was asked yet.
use Rattle.std.proofs.Common.{◌≢◌, refl}
use Rattle.child_pool.specs.declared.reduce_slot.Stage.TheVariants.{Begun}
use Rattle.child_pool.proofs.Tried.{apart_from, begins_already, begins_err, begins_ok, begun_same, idle_left}
use Rattle.child_pool.proofs.reduce_slot.ReduceSlot.begin.Goals as goal

pub returns-then-eq : goal.returns-then-eq
returns-then-eq g c = begins_already g.C.Servers c.args.path.now c.args.self.now (begun_same c.args.self.now.stage c.if-eq.ensures)

pub returns-in-Ok : goal.returns-in-Ok
returns-in-Ok g c =
    let apart : c.args.self.now.stage ≢ Begun = apart_from c.args.self.now.stage Begun c.if-eq.ensures in
    begins_ok g.C.Servers c.args.path.now c.args.self.now _ (idle_left c.args.self.now.stage c.requires.going apart) refl
    (record { pool = refl; servers = refl; keeps = c.reset_reducer.ensures.keeps; later = c.reset_reducer.ensures.ends.later }) c.reset_reducer.ensures.mapping c.in-Ok.ensures.ends c.in-Ok.ensures.went

pub returns-in-Err : goal.returns-in-Err
returns-in-Err g c =
    let apart : c.args.self.now.stage ≢ Begun = apart_from c.args.self.now.stage Begun c.if-eq.ensures in
    begins_err g.C.Servers c.args.path.now c.args.self.now _ c.in-Err.fault (idle_left c.args.self.now.stage c.requires.going apart)
    (record { pool = refl; servers = refl; keeps = c.reset_reducer.ensures.keeps; later = c.reset_reducer.ensures.ends.later }) c.reset_reducer.ensures.mapping c.in-Err.ensures.ends c.in-Err.ensures.went
