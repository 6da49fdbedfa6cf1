-- What is known of worlds that go on from one another, and of an engine at a world.
use Rattle.std.specs.Prelude.{Bool, true, false, if◌then◌else◌}
use Rattle.std.proofs.Common.{◌≡◌, ◌≤◌, ℕ, MatchOption, List, [], ◌∷◌, ◌++◌, Option, Result, Ok, Err, refl, sym, ap, ◌∙◌, subst, append_assoc}
use Rattle.view_ports.specs.Calls.{Call}
use Rattle.view_ports.specs.Disk.{Disk, IfTold, IsImageOf, MovesNone, Tells}
use Rattle.view_ports.specs.Exchanges.{Exchange}
use Rattle.view_ports.specs.File.{File}
use Rattle.view_ports.specs.Functions.{Functions}
use Rattle.view_ports.specs.declared.file_name.FileName.{FileName}
use Rattle.view_ports.proofs.DiskRuns.{none_refl}
use Rattle.view_ports.proofs.Told.{told_now, told_refl}
use Rattle.gate_file.proofs.Looks.{told_none_then}
use Rattle.child_pool.specs.declared.pool.Started.{Started}
use Rattle.child_pool.specs.Pools.{AreThere}
use Rattle.child_pool.specs.Sessions.{IsThere}
use Rattle.design_docs.specs.History.{Write}
use Rattle.doc_file.proofs.Stores.{at_holds}
use Rattle.view_engine.specs.declared.engine.Engine.{Engine}
use Rattle.view_engine.specs.declared.refusal.Refusal.{Refusal}
use Rattle.view_engine.specs.declared.request.Request.{Request}
use Rattle.view_engine.specs.declared.request.Request.TheVariants.{Cleanup, Delete, Put, View}
use Rattle.view_engine.specs.Accepted.{after_exchange, after_request, is_ok}
use Rattle.view_engine.specs.Engine.{IsAt}
use Rattle.view_engine.specs.Moments.{Moment}
use Rattle.view_engine.specs.Refusals.{request_of}
use Rattle.view_engine.specs.Steps.{Answers, Makes}
use Rattle.view_engine.specs.World.{World}
use Rattle.view_engine.specs.Worlds.{at_start, languages, GoesOnFrom, Holds, IsAtWorld, IsChildless, KnowsPaths, StandsFor, width}
use Rattle.view_engine.proofs.AcceptedWrites.{Answers-accepted}
use Rattle.view_engine.proofs.Known.{answers_know}
use Rattle.view_engine.proofs.Whole.{image_stands}

-- ---- worlds

pub same_world : (world : World) → GoesOnFrom world world
same_world world = record { newer = []; history = refl; known = refl }

pub goes_on : (a b c : World) → GoesOnFrom a b → GoesOnFrom b c → GoesOnFrom a c
goes_on a b c first second = record {
  newer = second.newer ++ first.newer;
  history = second.history ∙ ap (λ (h : List Write). second.newer ++ h) first.history ∙ sym (append_assoc second.newer first.newer a.history);
  known = second.known ∙ first.known;
}

-- a world of another's history and functions goes on from what that goes on from
pub grown_as : (before here after : World) → after.history ≡ here.history → after.functions ≡ here.functions → GoesOnFrom before here → GoesOnFrom before after
grown_as before here after same known grown = record { newer = grown.newer; history = same ∙ grown.history; known = known ∙ grown.known }

-- and what goes on from a world goes on from one of its history and functions
pub grows_as : (before here after : World) → here.history ≡ before.history → here.functions ≡ before.functions → GoesOnFrom before after → GoesOnFrom here after
grows_as before here after same known grown = record { newer = grown.newer; history = grown.history ∙ ap (λ (h : List Write). grown.newer ++ h) (sym same); known = grown.known ∙ sym known }

-- a step adds a write at most
request_grows : (world : World) (request : Result Request Refusal) → GoesOnFrom world (after_request world request)
request_grows world (Ok (Put document)) = record { newer = _ ∷ []; history = refl; known = refl }
request_grows world (Ok (Delete id given)) = record { newer = _ ∷ []; history = refl; known = refl }
request_grows world other = same_world world

exchange_grows : (world : World) (b : Bool) (request : Result Request Refusal) → GoesOnFrom world (if b then after_request world request else world)
exchange_grows world true request = request_grows world request
exchange_grows world false request = same_world world

module _ (functions : List ℕ → Functions) (honest : List ℕ → Type 0) (languages : List (List ℕ × List ℕ)) where
  pub answers_grow : (before : Moment) (e : Exchange) (after : Moment) → Answers functions honest languages before e after → GoesOnFrom before.world after.world
  answers_grow before e after answers =
      let grown = exchange_grows before.world (is_ok e.text) (request_of e.line) in
      grown_as before.world (after_exchange before.world e) after.world (Answers-accepted functions honest languages before e after answers) (answers_know functions honest languages before e after answers ∙ sym grown.known) grown

  -- and so does what a request makes
  pub made_grows : (world : World) (request : Result Request Refusal) (made : World) → Makes functions honest languages world request made → GoesOnFrom world made
  made_grows world (Ok (View view query)) made makes = record { newer = []; history = (makes.5).history; known = (makes.5).known }
  made_grows world (Ok Cleanup) made makes = record { newer = []; history = makes.history; known = makes.known }
  made_grows world (Ok (Put document)) made makes = record { newer = makes.0 ∷ []; history = ap (λ (w : World). w.history) makes.2; known = ap (λ (w : World). w.functions) makes.2 }
  made_grows world (Ok (Delete id given)) made makes = record { newer = makes.0 ∷ []; history = ap (λ (w : World). w.history) makes.2; known = ap (λ (w : World). w.functions) makes.2 }
  made_grows world (Ok other) made makes = absurd makes.1
  made_grows world (Err refusal) made makes = absurd makes.1

-- ---- an engine at a world

-- each image that a crash may leave now stands for the world
pub image_at : (engine : Engine) (files : FileName → File) (world : World) → IsAtWorld engine files world → (image : FileName → List ℕ) → IsImageOf files image → StandsFor image world
image_at = image_stands

-- nothing is pending in its files, and they hold the world
pub world_held : (engine : Engine) (files : FileName → File) (world : World) → IsAtWorld engine files world → Holds files world
world_held engine files world at = record { documents = at_holds engine.docs files at.documents.is_open world.history at.documents; indexes = at.indexes.held; within = at.within; owned = at.owned }

module _ (functions : List ℕ → Functions) (honest : List ℕ → Type 0) (disk : Option (Disk FileName)) (may_follow : List Call → Type 0) (faults : ℕ) (engine : Engine) where
  -- an engine without a child is at the start of its world, where no call was made on the servers
  pub starts_at : (world : World) {wide : ℕ} → width engine ≡ wide → IfTold disk (λ d. IsAtWorld engine d.now world) → IsChildless engine → may_follow [] → IfTold disk (λ d. KnowsPaths functions honest (languages engine) world) → IsAt functions honest disk may_follow faults engine (at_start world wide faults)
  starts_at world is at childless follows knows = record {
    documents = at;
    known = knows;
    child = record {
      width = is;
      started = childless.0;
      reducer = childless.1;
      child = record {
        mapping = subst (λ (started : Option Started). MatchOption started (Unit {0}) (λ kept. (kept.count ≤ engine.pool.width) × AreThere kept.path kept.count [])) (sym childless.0) tt;
        reducing = subst (λ (reducer : Option (List ℕ)). MatchOption reducer (Unit {0}) (λ path. IsThere path engine.pool.width [])) (sym childless.1) tt;
      };
      follows = follows;
      counts = refl;
    };
  }

  pub images_at : (moment : Moment) → IsAt functions honest disk may_follow faults engine moment → IfTold disk (λ d. (image : FileName → List ℕ) → IsImageOf d.now image → StandsFor image moment.world)
  images_at moment at =
      told_now disk (λ d. IsAtWorld engine d.now moment.world) (λ d. (image : FileName → List ℕ) → IsImageOf d.now image → StandsFor image moment.world)
      (λ d here. image_at engine d.now moment.world here) at.documents

  pub holds_at : (moment : Moment) → IsAt functions honest disk may_follow faults engine moment → IfTold disk (λ d. Holds d.now moment.world)
  holds_at moment at =
      told_now disk (λ d. IsAtWorld engine d.now moment.world) (λ d. Holds d.now moment.world)
      (λ d here. world_held engine d.now moment.world here) at.documents

-- ---- files that don't change

pub stays_still : (disk : Option (Disk FileName)) → Tells disk disk MovesNone
stays_still disk = told_refl disk MovesNone none_refl

pub stays_still_then : (a b c : Option (Disk FileName)) → Tells a b MovesNone → Tells b c MovesNone → Tells a c MovesNone
stays_still_then = told_none_then
