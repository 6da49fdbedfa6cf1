use Rattle.std.proofs.Common.{◌≡◌, ◌+◌, ◌≤◌, ◌^◌, length, ap, ◌∙◌, subst, arith, rules}
use Rattle.std.specs.Prelude.{OnOk}
use Rattle.view_ports.proofs.Told.{told_given}
use Rattle.view_ports.proofs.ToldFiles.{told_file_none}
use Rattle.gate_file.specs.Calls.{Appends, KeepsIn}
use Rattle.gate_file.specs.GateFile.{appended, start_of, IsAppended, Keeps}
use Rattle.gate_file.specs.Shown.{Shows}
use Rattle.gate_file.proofs.Appends.{still_shows}
use Rattle.gate_file.proofs.Stepped.{ended_err}
use Rattle.tree_laws.specs.Nodes.{sized}
use Rattle.node_file.specs.Puts.{Puts}
use Rattle.node_file.specs.RecordLaws.{sized_long}
use Rattle.node_file.proofs.Putting.{puts_of}
use Rattle.node_file.proofs.nodes.put_node.Goals as goal

pub returns-then-not-has_room-clause-disk : goal.returns-then-not-has_room-clause-disk
returns-then-not-has_room-clause-disk g c =
    let gate = c.args.file.now in
    told_file_none gate.name (Keeps gate) (g.F.Folder.disk c.args.folder.now) (λ file image. Shows gate.root file.durable image) (λ file now. Unit {0})
    (λ file image keeps is. still_shows gate file keeps image is) (λ file keeps. tt) c.requires

pub returns-in_err-record-clause-disk : goal.returns-in_err-record-clause-disk
returns-in_err-record-clause-disk g c =
    let gate = c.args.file.now in
    let bytes = sized c.args.bytes.now in
    told_file_none gate.name (Keeps gate) (g.F.Folder.disk c.args.folder.now) (λ file image. Shows gate.root file.durable image) (λ file now. OnOk c.from_residual.result (IsAppended (appended gate (length bytes)) bytes file now))
    (λ file image keeps is. still_shows gate file keeps image is)
    (λ file keeps. ended_err c.from_residual.result (IsAppended (appended gate (length bytes)) bytes file file) c.from_residual.ensures.0) c.requires

pub returns-clause-done : goal.returns-clause-done
returns-clause-done g c =
    let written : c.as_slice.result.now ≡ sized c.args.bytes.now = c.as_slice.ensures.value ∙ c.in_ok-record.ensures in
    subst (λ n. OnOk c.append.result (c.append.new.self ≡ appended c.args.file.now n)) (ap length written ∙ sized_long c.args.bytes.now) c.append.ensures.done

pub returns-clause-nodes : goal.returns-clause-nodes
returns-clause-nodes g c =
    let gate = c.args.file.now in
    let written : c.as_slice.result.now ≡ sized c.args.bytes.now = c.as_slice.ensures.value ∙ c.in_ok-record.ensures in
    let room : start_of gate + (length c.args.bytes.now + 8) ≤ 2 ^ 40 = search rules in
    told_given (g.F.Folder.disk c.args.folder.now) (g.F.Folder.disk c.append.new.folder) (KeepsIn gate) (Appends gate c.as_slice.result.now c.append.result) (Puts gate c.args.bytes.now c.append.result)
    (λ a b keeps moved. puts_of c.append.result gate c.args.bytes.now c.as_slice.result.now a b written (omega (arith, room)) keeps moved) c.requires c.append.ensures.disk

pub returns-clause-full : goal.returns-clause-full
returns-clause-full g c =
    let written : c.as_slice.result.now ≡ sized c.args.bytes.now = c.as_slice.ensures.value ∙ c.in_ok-record.ensures in
    let long : length c.as_slice.result.now ≡ length c.args.bytes.now + 8 = ap length written ∙ sized_long c.args.bytes.now in
    (λ over. c.append.ensures.full.0 (omega (arith, long)), λ is. (let over = c.append.ensures.full.1 is in omega (arith, long)))
