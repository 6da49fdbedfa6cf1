-- What two runs are, one after the other.
use Rattle.std.specs.Prelude.{◌≡◌, ℕ, List, Some}
use Rattle.view_ports.specs.Calls.{Call}
use Rattle.view_ports.specs.Disk.{Disk, IfTold}
use Rattle.view_ports.specs.File.{settled}
use Rattle.view_ports.specs.Functions.{Functions}
use Rattle.view_ports.specs.declared.file_name.FileName.{FileName}
use Rattle.view_engine.specs.World.{World}
use Rattle.view_engine.specs.Worlds.{KnowsPaths, StandsFor}
use Rattle.couchview_cli.specs.Serving.{Begins, Finishes, Outside, Serves}

-- a run over each world that its folder holds, where what that knows are functions of its honest paths
abbrev pub ServesEach : (List ℕ → Functions) → (List ℕ → Type 0) → List (List ℕ × List ℕ) → Outside → Outside → (List Call → Type 0) → ℕ → Type 0
ServesEach functions honest languages before after AtEnd status =
    (world : World) → Begins functions honest languages before.disk world → Serves functions honest languages world before after AtEnd status

module _ (functions functions' : List ℕ → Functions) (honest honest' : List ℕ → Type 0) (AtEnd AtEnd' : List Call → Type 0) where
  -- A run that begins with the disk that a finished run left begins with that run's world, where what this run's opening knew are functions of
  -- paths that are honest in the next one.
  abbrev pub RunsGoOn : Type 0
  RunsGoOn = (languages languages' : List (List ℕ × List ℕ)) (opening : World) (before middle again after : Outside) (status status' : ℕ)
      (first : Finishes functions honest languages opening before middle AtEnd status)
      → again.disk ≡ middle.disk → IfTold before.disk (λ d. KnowsPaths functions' honest' languages' opening) → ServesEach functions' honest' languages' again after AtEnd' status'
      → Serves functions' honest' languages' (first.moment).world again after AtEnd' status'

module _ (functions : List ℕ → Functions) (honest : List ℕ → Type 0) (AtEnd : List Call → Type 0) where
  -- a run over what a crash left of a folder begins with a world that this stands for
  abbrev pub RunsGoOnBehindStops : Type 0
  RunsGoOnBehindStops = (languages : List (List ℕ × List ℕ)) (image : FileName → List ℕ) (world : World) (again after : Outside) (status : ℕ) (told : Disk FileName)
      → again.disk ≡ Some told → told.now ≡ (λ name. settled (image name)) → StandsFor image world → KnowsPaths functions honest languages world
      → ServesEach functions honest languages again after AtEnd status → Serves functions honest languages world again after AtEnd status
