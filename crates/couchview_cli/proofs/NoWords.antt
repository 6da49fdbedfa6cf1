-- A run without memory for its words.
use Rattle.std.specs.Prelude.{ℕ, List, [], Option}
use Rattle.std.proofs.Common.{refl, inl, inr}
use Rattle.std.proofs.KnownBytes.{Appends-nil}
use Rattle.view_ports.specs.Calls.{Call}
use Rattle.view_ports.specs.Disk.{IfTold}
use Rattle.view_ports.specs.Functions.{Functions}
use Rattle.view_ports.proofs.Told.{told_all}
use Rattle.view_engine.specs.declared.halt.StepFault.TheVariants.{NoMemory}
use Rattle.view_engine.specs.World.{World}
use Rattle.view_engine.specs.Worlds.{Holds}
use Rattle.view_engine.proofs.Unopened.{still_stands, unmoved}
use Rattle.couchview_cli.specs.Closing.{Closes}
use Rattle.couchview_cli.specs.Reading.{AnswersLines, ReadsNothing}
use Rattle.couchview_cli.specs.Serving.{AreLeft, IsUnopened, Outside}
use Rattle.couchview_cli.proofs.Served.{unopened}

-- nothing is written
silent : (held : Option (List ℕ)) → Closes held held [] NoMemory 6
silent held = inl (refl, Appends-nil held)

-- the folder isn't opened
pub unread_folder : (functions : List ℕ → Functions) (honest : List ℕ → Type 0) (languages : List (List ℕ × List ℕ)) (opening : World) (before : Outside) (may_follow : List Call → Type 0) → may_follow []
    → IfTold before.disk (λ d. Holds d.now opening) → IsUnopened functions honest languages opening before before (AreLeft may_follow) 6
unread_folder functions honest languages opening before may_follow follows holds =
    unopened functions honest languages opening before before.held before.disk before.disk_faults may_follow follows (still_stands before.disk opening holds) NoMemory 6 (silent before.held) (λ is. let never : ⊥ = cc in absurd never)
    (told_all before.disk _ (λ d name at is. let never : ⊥ = cc in never)) (λ name length is. let never : ⊥ = cc in never)

pub unread_nothing : (before : Outside) → ReadsNothing before before 6
unread_nothing before = record {
  fault = NoMemory;
  unread = refl;
  closes = silent before.held;
  moved = unmoved before.disk;
  spared = λ other. refl;
  damaged = told_all before.disk _ (λ d name at is. let never : ⊥ = cc in absurd never);
  room = λ name length is. let never : ⊥ = cc in never;
}

pub unread_lines : (before : Outside) → AnswersLines before before 6
unread_lines before = inr (inr (unread_nothing before))
