-- The lines were served by a run from a source in memory to a sink in memory.
use Rattle.std.proofs.Common.{◌≡◌, ◌∙◌, Some, inl, ap, subst}
use Rattle.view_ports.specs.Memory.{SinkState, SourceState}
use Rattle.view_ports.specs.declared.run_end.RunEnd.TheVariants.{InputEnded}
use Rattle.line_loop.specs.declared.loop_end.LoopEnd.TheVariants.{Run}
use Rattle.view_engine.specs.Calls.{scene}
use Rattle.couchview_cli.specs.Loading.{HasWant}
use Rattle.couchview_cli.specs.Showing.{HasComeTo, NoneIsWant}
use Rattle.couchview_cli.proofs.LoadServing.{come_to, ran_out, wanted}
use Rattle.couchview_cli.proofs.load.serve_lines.Goals as goal

pub returns-then-has_want-clause-serves : goal.returns-then-has_want-clause-serves
returns-then-has_want-clause-serves g c =
    let before = scene c.args.engine.now c.args.folder.now c.args.servers.now in
    let after = scene c.run-end.new.engine c.run-end.new.folder c.run-end.new.servers in
    let come = come_to g.F.Folder g.C.Servers before after c.args.text.now (Some c.in_ok-source.source.left) (Some c.in_ok-sink.sink.held) (Some c.run-end.new.source.left) c.run-end.new.sink.held c.run-end.result
    (ap (λ (x : SourceState). Some x.left) c.in_ok-source.ensures) (ap (λ (x : SinkState). Some x.held) c.in_ok-sink.ensures) c.run-end.ensures.comes c.run-end.ensures.replies c.run-end.ensures.ended c.run-end.ensures.disk_count c.run-end.ensures.disk_failed c.run-end.ensures.disk_spared in
    wanted g.F.Folder g.C.Servers before after c.args.text.now c.run-end.new.sink.held c.run-end.result come (subst HasWant c.held.ensures (c.has_want.ensures.some c.if-has_want.true))

pub returns-in-Run-InputEnded-clause-serves : goal.returns-in-Run-InputEnded-clause-serves
returns-in-Run-InputEnded-clause-serves g c =
    let before = scene c.args.engine.now c.args.folder.now c.args.servers.now in
    let after = scene c.run-end.new.engine c.run-end.new.folder c.run-end.new.servers in
    let come = come_to g.F.Folder g.C.Servers before after c.args.text.now (Some c.in_ok-source.source.left) (Some c.in_ok-sink.sink.held) (Some c.run-end.new.source.left) c.run-end.new.sink.held c.run-end.result
    (ap (λ (x : SourceState). Some x.left) c.in_ok-source.ensures) (ap (λ (x : SinkState). Some x.held) c.in_ok-sink.ensures) c.run-end.ensures.comes c.run-end.ensures.replies c.run-end.ensures.ended c.run-end.ensures.disk_count c.run-end.ensures.disk_failed c.run-end.ensures.disk_spared in
    let none = subst NoneIsWant c.held.ensures (c.has_want.ensures.none c.if-has_want.false) in
    let end : c.in-Run-InputEnded.field-0 ≡ InputEnded = rw c.in-Run-InputEnded.is at c.in-Run-InputEnded.field-0-is in
    (subst (HasComeTo g.F.Folder g.C.Servers before c.args.text.now after c.run-end.new.sink.held) (c.in-Run-InputEnded.is ∙ ap Run end) come, none)

-- memory ran out
pub returns-in-Run-clause-serves : goal.returns-in-Run-clause-serves
returns-in-Run-clause-serves g c =
    let before = scene c.args.engine.now c.args.folder.now c.args.servers.now in
    let after = scene c.run-end.new.engine c.run-end.new.folder c.run-end.new.servers in
    let come = come_to g.F.Folder g.C.Servers before after c.args.text.now (Some c.in_ok-source.source.left) (Some c.in_ok-sink.sink.held) (Some c.run-end.new.source.left) c.run-end.new.sink.held c.run-end.result
    (ap (λ (x : SourceState). Some x.left) c.in_ok-source.ensures) (ap (λ (x : SinkState). Some x.held) c.in_ok-sink.ensures) c.run-end.ensures.comes c.run-end.ensures.replies c.run-end.ensures.ended c.run-end.ensures.disk_count c.run-end.ensures.disk_failed c.run-end.ensures.disk_spared in
    ran_out g.F.Folder g.C.Servers before after c.args.text.now c.run-end.new.sink.held c.in-Run.field-0 (subst (HasComeTo g.F.Folder g.C.Servers before c.args.text.now after c.run-end.new.sink.held) c.in-Run.is come)

-- a line was not answered
pub returns-clause-serves : goal.returns-clause-serves
returns-clause-serves g c =
    let before = scene c.args.engine.now c.args.folder.now c.args.servers.now in
    let after = scene c.run-end.new.engine c.run-end.new.folder c.run-end.new.servers in
    let come = come_to g.F.Folder g.C.Servers before after c.args.text.now (Some c.in_ok-source.source.left) (Some c.in_ok-sink.sink.held) (Some c.run-end.new.source.left) c.run-end.new.sink.held c.run-end.result
    (ap (λ (x : SourceState). Some x.left) c.in_ok-source.ensures) (ap (λ (x : SinkState). Some x.held) c.in_ok-sink.ensures) c.run-end.ensures.comes c.run-end.ensures.replies c.run-end.ensures.ended c.run-end.ensures.disk_count c.run-end.ensures.disk_failed c.run-end.ensures.disk_spared in
    let none = subst NoneIsWant c.held.ensures (c.has_want.ensures.none c.if-has_want.false) in
    inl (c.run-end.new.sink.held, subst (HasComeTo g.F.Folder g.C.Servers before c.args.text.now after c.run-end.new.sink.held) c.in-Stopped.is come, none)
