-- All stages were gone: the slot is ready.
use Rattle.view_ports.specs.Faults.{Rose}
use Rattle.child_pool.specs.Jobs.{job_of}
use Rattle.child_pool.specs.Prompts.{slot_prompts}
use Rattle.child_pool.proofs.Prepared.{prepared}
use Rattle.child_pool.proofs.preparing.prepare_slot.Goals as goal

pub returns-clause-went : goal.returns-clause-went
returns-clause-went g c = λ documents calls follows told.
    prepared g.C.Servers.functions g.C.Servers.honest (job_of c.args.path.now c.args.sources.now documents) c.args.slot (slot_prompts c.args.slot c.args.sources.now c.args.fresh) (Rose (g.C.Servers.faults c.args.servers.now) (g.C.Servers.faults c.tell_all.new.servers)) c.tell_all.result (c.tell_all.ensures.went documents calls follows told)
