-- A write that was answered `ok` passes no limit of the documents' file.
use Rattle.std.proofs.Common.{◌≡◌, ◌∙◌, ◌++◌, ℕ, List, [], true, Ok, sym, ap, append-nil}
use Rattle.std.proofs.lemmas.Bool.{false≢true}
use Rattle.std.proofs.lemmas.List.{append_cancel_left}
use Rattle.view_ports.specs.Disk.{IfTold}
use Rattle.view_ports.specs.Lines.{ended}
use Rattle.view_ports.specs.declared.folder.Folder.{Ghosts as Folders}
use Rattle.view_ports.specs.declared.servers.Servers.{Ghosts as Servers}
use Rattle.view_ports.proofs.Told.{told_now}
use Rattle.doc_file.specs.Docs.{IsAt as AreAt}
use Rattle.view_engine.specs.declared.refusal.Refusal.{Refusal}
use Rattle.view_engine.specs.declared.refusal.Refusal.TheVariants.{NoMemory}
use Rattle.view_engine.specs.Accepted.{is_ok}
use Rattle.view_engine.specs.Calls.{AppendsOk, IsStep, Scene, StandsAt}
use Rattle.view_engine.specs.Moments.{Moment}
use Rattle.view_engine.specs.Refusals.{refusal_text, request_of}
use Rattle.view_engine.specs.Worlds.{HasRoomAt}
use Rattle.view_engine.proofs.Whole.{documents_at}

-- a refusal isn't `ok`
pub refused_no_ok : (refusal : Refusal) (out out' : List ℕ) → out' ≡ out ++ ended (refusal_text refusal) → AppendsOk out out' → ⊥
refused_no_ok refusal out out' told appends =
    let same : ended (refusal_text refusal) ≡ appends.0 = append_cancel_left out (ended (refusal_text refusal)) appends.0 (sym told ∙ appends.1) in
    false≢true (ap is_ok same ∙ appends.2)

-- nor is what is appended to an empty line
pub nothing_no_ok : (out : List ℕ) → AppendsOk out out → ⊥
nothing_no_ok out appends =
    let same : [] ≡ appends.0 = append_cancel_left out [] appends.0 (append-nil out ∙ appends.1) in
    false≢true (ap is_ok same ∙ appends.2)

-- the constant for want of memory isn't `ok`
pub constant_no_ok : is_ok (ended (refusal_text NoMemory)) ≡ true → ⊥
constant_no_ok ok = false≢true ok

module _ {F C : Type 0} {f : Folders F} {s : Servers C} {old new : Scene F C} {line out out' : List ℕ} where
  -- a step that was answered `ok` had room for what it wrote
  pub step_room : IsStep f s old new line out out' (Ok tt) → out ≡ [] → (before : Moment) → StandsAt f s old before
      → IfTold (f.disk old.folder) (λ d. is_ok out' ≡ true → HasRoomAt d.now before.world (request_of line))
  step_room step empty before at =
      told_now (f.disk old.folder) (λ d. AreAt old.engine.docs d.now before.world.history) (λ d. is_ok out' ≡ true → HasRoomAt d.now before.world (request_of line))
      (λ d here ok. record { docs = old.engine.docs; at = here; fits = step.fits (out', ap (λ (front : List ℕ). front ++ out') (sym empty), ok) }) (documents_at _ _ before.world at.documents)
