-- An empty line asks for nothing, and each other one for a request, or is told why not.
use Rattle.std.proofs.Common.{◌≢◌, ◌∙◌, List, ℕ, [], length, Result, Ok, Err, refl, sym, ap, subst}
use Rattle.std.proofs.lemmas.Bool.{eqb-true, eqb-false}
use Rattle.std.proofs.lemmas.List.{nil_from_length}
use Rattle.view_engine.specs.declared.refusal.Refusal.{Refusal}
use Rattle.view_engine.specs.declared.request.Request.{Request}
use Rattle.view_engine.specs.Calls.{scene, IsStep}
use Rattle.view_engine.specs.Refusals.{request_of}
use Rattle.view_engine.specs.Viewed.{ViewsFor}
use Rattle.view_engine.proofs.ServerFaults.{request_unblamed}
use Rattle.view_engine.proofs.Stepping.{for_request, step_done, step_nothing, step_told, unread}
use Rattle.view_engine.proofs.Sparing.{told_spared}
use Rattle.view_engine.proofs.Stages.{views_unread}
use Rattle.view_engine.proofs.StayOpen.{stays_for}
use Rattle.view_engine.proofs.engine.Engine.step.Goals as goal

pub returns-then-is_empty-clause-does : goal.returns-then-is_empty-clause-does
returns-then-is_empty-clause-does g c =
    let now = scene c.args.self.now c.args.folder.now c.args.servers.now in
    let out = c.args.out.now.items in
    subst (λ (line : List ℕ). IsStep g.F.Folder g.C.Servers now now line out out (Ok tt)) (sym (nil_from_length _ (eqb-true _ _ (sym c.is_empty.ensures ∙ c.if-is_empty.true)))) (step_nothing c.requires.open)

pub returns-in-Ok-perform-clause-does : goal.returns-in-Ok-perform-clause-does
returns-in-Ok-perform-clause-does g c =
    let some : c.args.line.now ≢ [] = λ none. eqb-false _ _ (sym c.is_empty.ensures ∙ c.if-is_empty.false) (ap length none) in
    step_done some (for_request c.in-Ok.ensures.ok c.in-Ok-perform.ensures.does)

pub returns-in-Err-perform-clause-does : goal.returns-in-Err-perform-clause-does
returns-in-Err-perform-clause-does g c =
    let some : c.args.line.now ≢ [] = λ none. eqb-false _ _ (sym c.is_empty.ensures ∙ c.if-is_empty.false) (ap length none) in
    step_told some c.in-Err-perform.halt c.tell.result (for_request c.in-Ok.ensures.ok c.in-Err-perform.ensures.does) c.tell.ensures

pub returns-in-Err-clause-does : goal.returns-in-Err-clause-does
returns-in-Err-clause-does g c =
    let some : c.args.line.now ≢ [] = λ none. eqb-false _ _ (sym c.is_empty.ensures ∙ c.if-is_empty.false) (ap length none) in
    step_told some c.from.result c.tell-in-Err.result (rw c.from.ensures (unread c.in-Err.refusal (request_unblamed c.args.line.now) c.in-Err.ensures.err c.requires.open)) c.tell-in-Err.ensures

-- ---- no fault of the folder was counted, unless it ended the step

pub returns-in-Ok-perform-clause-spares : goal.returns-in-Ok-perform-clause-spares
returns-in-Ok-perform-clause-spares g c = λ other. c.in-Ok-perform.ensures.spares (λ is. let no : ⊥ = cc in no)

pub returns-in-Err-perform-clause-spares : goal.returns-in-Err-perform-clause-spares
returns-in-Err-perform-clause-spares g c =
    told_spared g.F.Folder c.args.folder.now c.perform.new.folder c.in-Err-perform.halt _ _ c.tell.result c.tell.ensures c.in-Err-perform.ensures.spares

pub returns-in-Err-clause-spares : goal.returns-in-Err-clause-spares
returns-in-Err-clause-spares g c = λ other. refl

-- ---- a view's stages

pub returns-then-is_empty-clause-views : goal.returns-then-is_empty-clause-views
returns-then-is_empty-clause-views g c = λ some. absurd (some (nil_from_length _ (eqb-true _ _ (sym c.is_empty.ensures ∙ c.if-is_empty.true))))

pub returns-in-Ok-perform-clause-views : goal.returns-in-Ok-perform-clause-views
returns-in-Ok-perform-clause-views g c = λ some. record {
  printed = c.perform.new.out.items;
  ended = Ok tt;
  views = subst (λ (r : Result Request Refusal). ViewsFor g.F.Folder g.C.Servers (scene c.args.self.now c.args.folder.now c.args.servers.now) (scene c.perform.new.self c.perform.new.folder c.perform.new.servers) c.args.out.now.items c.perform.new.out.items r (Ok tt))
      (sym c.in-Ok.ensures.ok) c.in-Ok-perform.ensures.views;
  told = (refl, refl);
}

pub returns-in-Err-perform-clause-views : goal.returns-in-Err-perform-clause-views
returns-in-Err-perform-clause-views g c = λ some. record {
  printed = c.perform.new.out.items;
  ended = Err c.in-Err-perform.halt;
  views = subst (λ (r : Result Request Refusal). ViewsFor g.F.Folder g.C.Servers (scene c.args.self.now c.args.folder.now c.args.servers.now) (scene c.perform.new.self c.perform.new.folder c.perform.new.servers) c.args.out.now.items c.perform.new.out.items r (Err c.in-Err-perform.halt))
      (sym c.in-Ok.ensures.ok) c.in-Err-perform.ensures.views;
  told = c.tell.ensures;
}

pub returns-in-Err-clause-views : goal.returns-in-Err-clause-views
returns-in-Err-clause-views g c = λ some. record {
  printed = c.args.out.now.items;
  ended = Err c.from.result;
  views = rw c.from.ensures (views_unread g.F.Folder g.C.Servers (scene c.args.self.now c.args.folder.now c.args.servers.now) c.args.out.now.items (request_of c.args.line.now) c.in-Err.refusal c.in-Err.ensures.err);
  told = c.tell-in-Err.ensures;
}

-- ---- open indexes stay open

pub returns-then-is_empty-clause-stay : goal.returns-then-is_empty-clause-stay
returns-then-is_empty-clause-stay g c = stays_for g.F.Folder c.args.self.now.docs c.args.self.now.groups c.args.folder.now (request_of c.args.line.now)

pub returns-in-Ok-perform-clause-stay : goal.returns-in-Ok-perform-clause-stay
returns-in-Ok-perform-clause-stay g c = rw c.in-Ok.ensures.ok c.in-Ok-perform.ensures.stay

pub returns-in-Err-perform-clause-stay : goal.returns-in-Err-perform-clause-stay
returns-in-Err-perform-clause-stay g c = rw c.in-Ok.ensures.ok c.in-Err-perform.ensures.stay

pub returns-in-Err-clause-stay : goal.returns-in-Err-clause-stay
returns-in-Err-clause-stay g c = stays_for g.F.Folder c.args.self.now.docs c.args.self.now.groups c.args.folder.now (request_of c.args.line.now)
