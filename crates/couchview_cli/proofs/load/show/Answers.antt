-- What a load shows, from how its lines were served and its documents read.
use Rattle.std.specs.List.{flat_map}
use Rattle.std.proofs.Common.{◌≡◌, ◌∙◌, ℕ, List, inl, inr, sym, subst, refl}
use Rattle.view_ports.specs.Lines.{ended}
use Rattle.view_ports.specs.declared.run_end.RunEnd.TheVariants.{InputEnded}
use Rattle.line_loop.specs.declared.loop_end.LoopEnd.TheVariants.{Run}
use Rattle.view_engine.specs.declared.halt.StepFault.TheVariants.{DiskFault, NoMemory}
use Rattle.view_engine.specs.Calls.{scene}
use Rattle.couchview_cli.specs.Loading.{load_lines, second_view}
use Rattle.couchview_cli.specs.Showing.{HasComeTo, StopsEarly, IsShown, Shows}
use Rattle.couchview_cli.proofs.Pieces.{failed_as}
use Rattle.couchview_cli.proofs.load.show.Goals as goal

pub returns-in_err-written-clause-shows : goal.returns-in_err-written-clause-shows
returns-in_err-written-clause-shows g c =
    let before = scene c.args.engine.now c.args.folder.now c.args.servers.now in
    let lines = flat_map ended (load_lines c.args.docs c.args.number) in
    let served = scene c.serve_lines.new.engine c.serve_lines.new.folder c.serve_lines.new.servers in
    let same : c.deref.result.now ≡ lines = c.deref.ensures.value ∙ c.in_ok-requests.ensures.text in
    subst (Shows g.F.Folder g.C.Servers before lines c.args.docs c.args.number served) (sym (failed_as c.from_residual-in_err-written.result c.in_err-written.field-0.0 c.from_residual-in_err-written.ensures))
    (subst (λ (t : List ℕ). StopsEarly g.F.Folder g.C.Servers before t served c.in_err-written.field-0.0) same c.in_err-written.ensures.serves)

pub returns-in_err-fresh-clause-shows : goal.returns-in_err-fresh-clause-shows
returns-in_err-fresh-clause-shows g c =
    let before = scene c.args.engine.now c.args.folder.now c.args.servers.now in
    let lines = flat_map ended (load_lines c.args.docs c.args.number) in
    let served = scene c.serve_lines.new.engine c.serve_lines.new.folder c.serve_lines.new.servers in
    let same : c.deref.result.now ≡ lines = c.deref.ensures.value ∙ c.in_ok-requests.ensures.text in
    let held = c.in_ok-written.written.held in
    let fault = c.in_err-fresh.field-0.0 in
    let come = subst (λ (t : List ℕ). HasComeTo g.F.Folder g.C.Servers before t served held (Run InputEnded)) same c.in_ok-written.ensures.serves.0 in
    subst (Shows g.F.Folder g.C.Servers before lines c.args.docs c.args.number (scene c.serve_lines.new.engine c.fresh_answer.new.folder c.serve_lines.new.servers)) (sym (failed_as c.from_residual-in_err-fresh.result fault c.from_residual-in_err-fresh.ensures))
    (inr (inl (record {
      gained = held;
      ran = record { mid = c.serve_lines.new.folder; come = come; read = c.in_err-fresh.ensures.disk };
      done = c.in_ok-written.ensures.serves.1;
      is_open = c.in_ok-written.ensures.ready;
      why = c.in_err-fresh.ensures.why;
      spared = λ other. c.in_err-fresh.ensures.counted.still (λ is. other (let same : fault ≡ DiskFault = cc in same));
    })))

-- memory ran out behind all of them
pub returns-in_err-compose-clause-shows : goal.returns-in_err-compose-clause-shows
returns-in_err-compose-clause-shows g c =
    let before = scene c.args.engine.now c.args.folder.now c.args.servers.now in
    let lines = flat_map ended (load_lines c.args.docs c.args.number) in
    let served = scene c.serve_lines.new.engine c.serve_lines.new.folder c.serve_lines.new.servers in
    let same : c.deref.result.now ≡ lines = c.deref.ensures.value ∙ c.in_ok-requests.ensures.text in
    let held = c.in_ok-written.written.held in
    let come = subst (λ (t : List ℕ). HasComeTo g.F.Folder g.C.Servers before t served held (Run InputEnded)) same c.in_ok-written.ensures.serves.0 in
    subst (Shows g.F.Folder g.C.Servers before lines c.args.docs c.args.number (scene c.serve_lines.new.engine c.fresh_answer.new.folder c.serve_lines.new.servers)) (sym (failed_as c.from_residual-in_err-compose.result NoMemory c.from_residual-in_err-compose.ensures))
    (inr (inr (refl, inr (inl (held, InputEnded, record { mid = c.serve_lines.new.folder; come = come; read = c.in_ok-fresh.ensures.disk }, c.in_ok-fresh.ensures.counted.still (λ is. let no : ⊥ = cc in no))))))

pub returns-clause-shows : goal.returns-clause-shows
returns-clause-shows g c =
    let before = scene c.args.engine.now c.args.folder.now c.args.servers.now in
    let lines = flat_map ended (load_lines c.args.docs c.args.number) in
    let served = scene c.serve_lines.new.engine c.serve_lines.new.folder c.serve_lines.new.servers in
    let same : c.deref.result.now ≡ lines = c.deref.ensures.value ∙ c.in_ok-requests.ensures.text in
    let held = c.in_ok-written.written.held in
    let fresh = c.in_ok-fresh.fresh.items in
    let text = c.in_ok-compose.field-0.items in
    let first = c.in_ok-requests.requests.first_view in
    let second = c.in_ok-requests.requests.second_view in
    let come = subst (λ (t : List ℕ). HasComeTo g.F.Folder g.C.Servers before t served held (Run InputEnded)) same c.in_ok-written.ensures.serves.0 in
    record {
      gained = held;
      ran = record { mid = c.serve_lines.new.folder; come = come; read = c.in_ok-fresh.ensures.disk };
      done = c.in_ok-written.ensures.serves.1;
      fresh = fresh;
      afresh = c.in_ok-fresh.ensures.answer;
      is = subst (λ (n : ℕ). IsShown n (second_view c.args.docs c.args.number) held fresh text) c.in_ok-requests.ensures.first
          (subst (λ (n : ℕ). IsShown first n held fresh text) c.in_ok-requests.ensures.second
          (subst (λ (t : List ℕ). IsShown first second t fresh text) c.held.ensures
          (subst (λ (t : List ℕ). IsShown first second c.held.result.now t text) c.deref-2.ensures.value c.in_ok-compose.ensures)));
    }
