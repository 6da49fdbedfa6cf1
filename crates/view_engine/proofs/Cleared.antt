-- What is said of the files of a cleanup, where a request is another one, or changes no file.
use Rattle.std.proofs.Common.{◌≡◌, Result, Ok, refl}
use Rattle.view_ports.specs.Disk.{MovesNone, Tells}
use Rattle.view_ports.specs.declared.folder.Folder.{Ghosts as Folders}
use Rattle.view_ports.proofs.DiskRuns.{none_wider}
use Rattle.view_ports.proofs.Told.{told_map}
use Rattle.doc_file.specs.declared.docs.Docs.{Docs}
use Rattle.view_engine.specs.declared.refusal.Refusal.{Refusal}
use Rattle.view_engine.specs.declared.request.Request.{Request}
use Rattle.view_engine.specs.declared.request.Request.TheVariants.{Cleanup}
use Rattle.view_engine.specs.Disks.{Clears, IsOfNone}
use Rattle.view_engine.specs.HeldDesigns.{IsUnheld}

module _ {F : Type 0} (f : Folders F) (docs : Docs) (old new : F) where
  -- no file changed, and it wasn't done
  pub clears_none : (request : Result Request Refusal) (Done Wants : Type 0) → Tells (f.disk old) (f.disk new) MovesNone → (Done → ⊥) → Clears f docs old new request Done Wants
  clears_none (Ok Cleanup) Done Wants none never = record {
    held = record {
      alone = told_map (f.disk old) (f.disk new) MovesNone _ (λ a b same. none_wider (IsUnheld docs a.now) (λ image. Unit {0}) (λ files. Unit {0}) a b (λ image is. tt) (λ kept. tt) same) none;
      gone = λ done. absurd (never done);
      whole = λ done. absurd (never done);
    };
    spared = λ history at. told_map (f.disk old) (f.disk new) MovesNone _ (λ a b same. none_wider (IsOfNone history) (λ image. Unit {0}) (λ files. Unit {0}) a b (λ image is. tt) (λ kept. tt) same) none;
    empty = λ done. absurd (never done);
    unmoved = λ wants. none;
  }
  clears_none other Done Wants none never = tt

  -- the request is another one
  pub clears_other : (request : Result Request Refusal) (Done Wants : Type 0) → (request ≡ Ok Cleanup → ⊥) → Clears f docs old new request Done Wants
  clears_other (Ok Cleanup) Done Wants not = absurd (not refl)
  clears_other other Done Wants not = tt

  -- less is asked
  pub clears_ends : (request : Result Request Refusal) {Done Wants Done' Wants' : Type 0} → (Done' → Done) → (Wants' → Wants) → Clears f docs old new request Done Wants → Clears f docs old new request Done' Wants'
  clears_ends (Ok Cleanup) done wants clears = record { held = record { alone = clears.held.alone; gone = λ is. clears.held.gone (done is); whole = λ is. clears.held.whole (done is) }; spared = clears.spared; empty = λ is. clears.empty (done is); unmoved = λ is. clears.unmoved (wants is) }
  clears_ends other done wants clears = tt
