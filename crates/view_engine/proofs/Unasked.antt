-- A view request that is halted before any server is asked.
use Rattle.std.proofs.Common.{◌≡◌, ℕ, List, Option, None, Some, Ok, refl, inl, inr}
use Rattle.view_ports.specs.Calls.{Call}
use Rattle.view_ports.specs.Disk.{Disk, IfTold, LeavesOnly, MovesNone, Tells}
use Rattle.view_ports.specs.Functions.{Functions}
use Rattle.view_ports.specs.declared.file_name.FileName.{FileName}
use Rattle.view_ports.proofs.Told.{told_given}
use Rattle.child_pool.specs.Pools.{languages_of}
use Rattle.design_docs.specs.History.{Write}
use Rattle.view_engine.specs.declared.engine.Engine.{Engine}
use Rattle.view_engine.specs.declared.halt.Halt.{Halt}
use Rattle.view_engine.specs.declared.halt.Halt.TheVariants.{Refused}
use Rattle.view_engine.specs.declared.refusal.Refusal.{Refusal}
use Rattle.view_engine.specs.Engine.{IsAt, Leaves}
use Rattle.view_engine.specs.Moments.{Moment}
use Rattle.view_engine.specs.Refusals.{refusal_text}
use Rattle.view_engine.specs.Steps.{DoesRequest, MayHaveCalled}
use Rattle.view_engine.specs.View.{view_refusal}
use Rattle.view_engine.specs.Worlds.{IsAtWorld, StandsEither}
use Rattle.view_engine.proofs.Known.{still_known}
use Rattle.view_engine.proofs.Whole.{leaves_none, world_none}
use Rattle.view_engine.specs.World.{of_history}
use Rattle.view_engine.specs.ViewQuery.{ViewQuery, view_request}

-- the refusal is that of the definition
abbrev pub IsRefusedThere : List (List ℕ × List ℕ) → List Write → ViewQuery → Halt → Type 0
IsRefusedThere languages history name halt = (r : Refusal) → halt ≡ Refused r → view_refusal languages (of_history history) name ≡ Some r

-- each refusal is said of the same disk
pub told_refused : (x : Option (Disk FileName)) (docs_at : Disk FileName → Type 0) (languages : List (List ℕ × List ℕ)) (history : List Write) (name : ViewQuery) (halt : Halt) → IfTold x docs_at
    → ((r : Refusal) → halt ≡ Refused r → IfTold x (λ d. docs_at d → view_refusal languages (of_history history) name ≡ Some r)) → IfTold x (λ d. IsRefusedThere languages history name halt)
told_refused None docs_at languages history name halt at refused = tt
told_refused (Some a) docs_at languages history name halt at refused = λ r is. refused r is at

module _ (functions : List ℕ → Functions) (honest : List ℕ → Type 0) (languages : List (List ℕ × List ℕ)) (before : Moment) (name : ViewQuery) (halt : Halt)
    (x y : Option (Disk FileName)) (may_follow : List Call → Type 0) (faults : ℕ) (engine : Engine) (at : IsAt functions honest x may_follow faults engine before) (moves : Tells x y MovesNone) where
  abbrev Halts : Moment → Type 0
  Halts left = ((r : Refusal) → halt ≡ Refused r → DoesRequest functions honest languages before (Ok (view_request name)) (refusal_text r) left) × MayHaveCalled functions honest languages before (Ok (view_request name)) left

  halts : IsRefusedThere languages before.world.history name halt → Halts before
  halts refused = (λ r is. inr (r, refused r is, (refl, refl)), inl refl)

  pub unasked : IfTold x (λ d. IsRefusedThere languages before.world.history name halt) → Leaves functions honest x y may_follow faults engine before Halts
  unasked refused = record {
    after = before;
    is_at = record {
      documents = world_none engine engine x y refl refl moves before.world at.documents;
      child = at.child;
      known = still_known functions honest x y MovesNone (languages_of engine.pool) (languages_of engine.pool) before.world moves refl at.known;
    };
    moments = told_given x y (λ d. IsAtWorld engine d.now before.world) MovesNone (LeavesOnly (StandsEither before.world before.world)) (λ a b here none. leaves_none engine before.world a b none here) at.documents moves;
    allowed = told_halts x refused;
  }
    where
      told_halts : (w : Option (Disk FileName)) → IfTold w (λ d. IsRefusedThere languages before.world.history name halt) → IfTold w (λ d. Halts before)
      told_halts None is = tt
      told_halts (Some a) is = halts is
