-- What a load has done before anything is printed: lines were served from a source in memory to a sink in memory.
use Rattle.std.specs.Prelude.{◌≡◌, ◌≢◌, ◌⊎◌, ◌≤◌, ℕ, ◌+◌, List, [], ◌++◌, map, slice_index_or, Option, Some, Result, Ok, Err, Vec}
use Rattle.std.specs.declared.alloc.Global.{Global}
use Rattle.std.specs.List.{AllByRecursion}
use Rattle.std.specs.Io.KnownBytes.{IsAtEnd}
use Rattle.view_ports.specs.Disk.{IfTold, MovesNone, Tells}
use Rattle.view_ports.specs.Faults.{Rose}
use Rattle.view_ports.specs.Lines.{IsCut, ended}
use Rattle.view_ports.specs.Memory.{SinkState}
use Rattle.view_ports.specs.declared.folder.Folder.{Ghosts as Folders}
use Rattle.view_ports.specs.declared.run_end.RunEnd.{RunEnd}
use Rattle.view_ports.specs.declared.run_end.RunEnd.TheVariants.{InputEnded}
use Rattle.view_ports.specs.declared.servers.Servers.{Ghosts as Servers}
use Rattle.line_loop.specs.declared.loop_end.LoopEnd.{LoopEnd}
use Rattle.line_loop.specs.declared.loop_end.LoopEnd.TheVariants.{Run, Stopped}
use Rattle.line_loop.specs.Loops.{HasEnded}
use Rattle.view_engine.specs.declared.halt.StepFault.{StepFault}
use Rattle.view_engine.specs.declared.halt.StepFault.TheVariants.{DiskFault, NoMemory}
use Rattle.view_engine.specs.declared.refusal.Refusal.TheVariants.{NoMemory as OutOfMemory}
use Rattle.view_engine.specs.Calls.{Scene, scene}
use Rattle.view_engine.specs.Disks.{IsReadReasonOf, LiesOpen}
use Rattle.view_engine.specs.Refusals.{refusal_text}
use Rattle.view_engine.specs.World.{World}
use Rattle.view_engine.specs.Worlds.{update_seq, IsAtWorld}
use Rattle.couchview_cli.specs.Ends.{Comes}
use Rattle.couchview_cli.specs.Loading.{first_view, fresh_answer, second_view, HasWant}
use Rattle.couchview_cli.specs.Reading.{HasReplied}
use Rattle.couchview_cli.specs.Session.{IsAtOrigin, Origin}

-- the reply line in this place
abbrev pub reply_at : List (List ℕ) → ℕ → List ℕ
reply_at replies place = slice_index_or (map ended replies) place []

-- none of these reply lines is the refusal for want of memory
abbrev pub NoLineWants : List (List ℕ) → Type 0
NoLineWants replies = AllByRecursion (λ reply. reply ≢ refusal_text OutOfMemory) replies

-- none of the lines that were written is
abbrev pub NoneIsWant : List ℕ → Type 0
NoneIsWant written = (replies : List (List ℕ)) (rest : List ℕ) → IsCut written replies rest → NoLineWants replies

-- the text is two of the lines that were written, another one, and the line behind the second
pub record IsShown (first second : ℕ) (written fresh text : List ℕ) : Type 0 where
  pub replies : List (List ℕ)
  pub rest : List ℕ
  pub cut : IsCut written replies rest
  pub is : text ≡ reply_at replies first ++ (reply_at replies second ++ (ended fresh ++ reply_at replies (second + 1)))

module _ {F C : Type 0} (f : Folders F) (s : Servers C) (before : Scene F C) (text : List ℕ) where
  -- this text was read from a source that has it and no more, and its lines served, to this end
  pub record HasComeTo (after : Scene F C) (gained : List ℕ) (end : LoopEnd StepFault) : Type 0 where
    pub left : Option (List ℕ)
    pub come : (origin : Origin) → IsAtOrigin f s origin before → Comes f s origin after (Some text) left (Some []) (Some gained) end
    pub replied : HasReplied (Some text) left (Some []) (Some gained) (f.disk before.folder) (f.disk after.folder) (update_seq before.engine) (s.faults before.servers) (s.faults after.servers) end
    pub over : HasEnded end → IsAtEnd left
    pub count : f.faults before.folder ≤ f.faults after.folder
    pub cause : end ≡ Stopped DiskFault → Rose (f.faults before.folder) (f.faults after.folder)
    pub spared : end ≢ Stopped DiskFault → f.faults after.folder ≡ f.faults before.folder

  -- the same, and behind it the folder was only read
  pub record HasRunTo (after : Scene F C) (gained : List ℕ) (end : RunEnd) : Type 0 where
    pub mid : F
    pub come : HasComeTo (scene after.engine mid after.servers) gained (Run end)
    pub read : Tells (f.disk mid) (f.disk after.folder) MovesNone

  -- all lines were served, and none was refused for want of memory, but the documents could not be read
  pub record HasNotRead (after : Scene F C) (fault : StepFault) : Type 0 where
    pub gained : List ℕ
    pub ran : HasRunTo after gained InputEnded
    pub done : NoneIsWant gained
    pub is_open : LiesOpen f after.engine ran.mid
    pub why : IsReadReasonOf f after.engine ran.mid after.folder fault
    pub spared : fault ≢ DiskFault → f.faults after.folder ≡ f.faults ran.mid

  -- memory ran out: before any line; or behind a run that no line stopped, and the folder counted no fault there; or in a line before the one
  -- that stopped it
  abbrev pub RunsOut : Scene F C → Type 0
  RunsOut after = (after ≡ before)
      ⊎ (((gained : List ℕ) × (end : RunEnd) × (ran : HasRunTo after gained end) × (f.faults after.folder ≡ f.faults ran.mid))
      ⊎ ((gained : List ℕ) × (met : StepFault) × HasComeTo after gained (Stopped met) × HasWant gained))

  -- not all was done: a line was not answered, and none before it was refused for want of memory; or the documents could not be read behind
  -- all lines; or memory ran out
  abbrev pub StopsEarly : Scene F C → StepFault → Type 0
  StopsEarly after fault = ((gained : List ℕ) × HasComeTo after gained (Stopped fault) × NoneIsWant gained)
      ⊎ (HasNotRead after fault ⊎ ((fault ≡ NoMemory) × RunsOut after))

  -- lines were served to the end of the text, or not
  abbrev pub ServesText : Scene F C → Result SinkState StepFault → Type 0
  ServesText after (Ok sink) = HasComeTo after sink.held (Run InputEnded) × NoneIsWant sink.held
  ServesText after (Err fault) = StopsEarly after fault

  -- all lines were served, and this is what a load of them prints
  pub record HasShown (docs seed : ℕ) (after : Scene F C) (shown : List ℕ) : Type 0 where
    pub gained : List ℕ
    pub ran : HasRunTo after gained InputEnded
    pub done : NoneIsWant gained
    pub fresh : List ℕ
    pub afresh : (world : World) → IfTold (f.disk ran.mid) (λ d. IsAtWorld after.engine d.now world → fresh ≡ fresh_answer world.history)
    pub is : IsShown (first_view docs seed) (second_view docs seed) gained fresh shown

  -- a load was shown, or not
  abbrev pub Shows : ℕ → ℕ → Scene F C → Result (Vec ℕ Global) StepFault → Type 0
  Shows docs seed after (Ok shown) = HasShown docs seed after shown.items
  Shows docs seed after (Err fault) = StopsEarly after fault
