-- What a session, which is an engine between its ports, does with a line, and how far it has come since the opening.
use Rattle.std.specs.Prelude.{◌≡◌, ◌≢◌, ◌⊎◌, ◌+◌, ℕ, List, true, Option, cond, if◌then◌else◌}
use Rattle.view_ports.specs.declared.file_name.FileName.{FileName}
use Rattle.view_ports.specs.declared.folder.Folder.{Ghosts as Folders}
use Rattle.view_ports.specs.declared.servers.Servers.{Ghosts as Servers}
use Rattle.view_ports.specs.Disk.{Disk, IfTold, LeavesOnly, MovesNone, Tells}
use Rattle.view_ports.specs.Exchanges.{Exchange}
use Rattle.view_ports.specs.Faults.{Rose, RoseBy}
use Rattle.view_ports.specs.Functions.{Functions}
use Rattle.view_engine.specs.declared.halt.StepFault.{StepFault}
use Rattle.view_engine.specs.declared.halt.StepFault.TheVariants.{Damaged, DiskFault, Full}
use Rattle.view_ports.specs.Lines.{ended}
use Rattle.view_engine.specs.declared.refusal.Refusal.TheVariants as refusal
use Rattle.view_engine.specs.Accepted.{is_ok}
use Rattle.view_engine.specs.Calls.{KeepsChild, Scene, StandsAt, Stays, scene}
use Rattle.view_engine.specs.Refusals.{refusal_text, request_of}
use Rattle.view_engine.specs.Moments.{Moment}
use Rattle.view_engine.specs.ServerFaults.{is_server_fault}
use Rattle.view_engine.specs.Disks.{ChangesFiles, IsFitFor, IsOfIndex, IsOnIndexes, IsView, LiesOpen}
use Rattle.view_engine.specs.FullIndex.{IsIndexFullOf}
use Rattle.view_engine.specs.Steps.{Answers, MayHaveCalled}
use Rattle.view_engine.specs.Updating.{IsSound}
use Rattle.view_engine.specs.World.{World}
use Rattle.view_engine.specs.Worlds.{at_start, languages as languages_of, update_seq, GoesOnFrom, HasRoomAt, IsFullAt, StandsAround, StandsEither}
use Rattle.couchview_cli.specs.declared.session.Session.{Session}
use Rattle.couchview_cli.specs.Reading.{says_written, ComesTo, IsFoundOn, MovesIndexFiles, MovesOwn}
use Rattle.couchview_cli.specs.Replied.{IsReplied}
use Rattle.couchview_cli.specs.Serving.{StandsSince, Steps, width}

-- where a session began: its languages, the world at the opening, the disk, and how many faults the query servers had
pub record Origin : Type 0 where
  pub languages : List (List ℕ × List ℕ)
  pub opening : World
  pub disk : Option (Disk FileName)
  pub faults : ℕ

module _ (functions : List ℕ → Functions) (honest : List ℕ → Type 0) where
  -- From the disk at the opening to the disk now, each image stands for a first part of the world now, whose pictures stand where
  -- those of the opening did.
  pub record HasMoved (origin : Origin) (disk : Option (Disk FileName)) (world : World) : Type 0 where
    pub grew : IfTold origin.disk (λ d. GoesOnFrom origin.opening world)
    pub sound : IfTold origin.disk (λ d. IsSound functions honest origin.languages origin.opening → IsSound functions honest origin.languages world)
    pub moments : Tells origin.disk disk (LeavesOnly (StandsSince functions honest origin.languages origin.opening world))

  -- a line was answered with a text, and `Stands` holds of the moment after it; each image stands for the world before or after it
  pub record Answered (languages : List (List ℕ × List ℕ)) (old new : Option (Disk FileName)) (before : Moment) (line text : List ℕ) (Stands : Moment → Type 0) : Type 0 where
    pub after : Moment
    pub answers : IfTold old (λ d. Answers functions honest languages before (record { line = line; text = text }) after)
    pub moments : Tells old new (LeavesOnly (StandsEither before.world after.world))
    pub stands : Stands after

  abbrev pub StepsOf : Origin → Moment → Exchange → Moment → Type 0
  StepsOf origin = Steps functions honest origin.languages origin.opening origin.disk

  -- a line was not answered, since the folder failed or a file is full: the request took effect wholly or not at all, and may have
  -- called query servers. No file is damaged, where the files hold a world.
  pub record IsHalted (languages : List (List ℕ × List ℕ)) (fault : StepFault) (old new : Option (Disk FileName)) (before : Moment) (line : List ℕ) (HasLeft : Moment → Type 0) : Type 0 where
    pub moments : Tells old new (LeavesOnly (StandsAround functions honest languages before.world (request_of line)))
    pub whole : IfTold old (λ d. (name : FileName) (at : ℕ) → fault ≡ Damaged name at → ⊥)
    pub full : IfTold old (λ d. (name : FileName) (length : Option ℕ) → fault ≡ Full name length → IsFullAt d.now before.world (request_of line) name length ⊎ IsOfIndex d.now (request_of line) name)
    pub filled : IfTold new (λ d. (name : FileName) (length : Option ℕ) → fault ≡ Full name length → IsView (request_of line) → IsIndexFullOf functions honest languages d.now before.world (request_of line) name length)
    pub room : IfTold old (λ d. fault ≡ DiskFault → HasRoomAt d.now before.world (request_of line))
    pub last : Moment
    pub called : IfTold old (λ d. MayHaveCalled functions honest languages before (request_of line) last)
    pub left : HasLeft last

module _ {F C : Type 0} (f : Folders F) (s : Servers C) where
  -- a line was answered with this text, whatever the moment was
  pub record IsAnswered (old new : Scene F C) (line text : List ℕ) : Type 0 where
    pub answers : (before : Moment) → StandsAt f s old before → IfTold (f.disk old.folder) (λ d. IsFitFor (request_of line) before.world)
        → Answered s.functions s.honest (languages_of old.engine) (f.disk old.folder) (f.disk new.folder) before line text (StandsAt f s new)
    pub room : (before : Moment) → StandsAt f s old before → IfTold (f.disk old.folder) (λ d. is_ok text ≡ true → HasRoomAt d.now before.world (request_of line))
    pub prints : IsReplied line text
    -- the update sequence rose by one where it was a write that is accepted, and else not
    pub counts : update_seq new.engine ≡ update_seq old.engine + cond (says_written (request_of line) text) 1 0
    pub blames : is_server_fault (record { line = line; text = text }) ≡ true → RoseBy 2 (s.faults old.servers) (s.faults new.servers)
    pub still : (ChangesFiles (request_of line) → ⊥) → Tells (f.disk old.folder) (f.disk new.folder) MovesNone
    -- but for a view and a cleanup, only files of the documents changed
    pub own : (IsOnIndexes (request_of line) → ⊥) → Tells (f.disk old.folder) (f.disk new.folder) MovesOwn
    pub on : ComesTo (f.disk old.folder) (f.disk new.folder)
    pub is_open : LiesOpen f new.engine new.folder
    -- no fault of the folder was counted
    pub spares : f.faults new.folder ≡ f.faults old.folder
    pub stays : Stays f s old new

  -- a line was not answered, for this fault
  pub record IsUnanswered (old new : Scene F C) (line : List ℕ) (fault : StepFault) : Type 0 where
    pub halts : (before : Moment) → StandsAt f s old before → IfTold (f.disk old.folder) (λ d. IsFitFor (request_of line) before.world) → IsHalted s.functions s.honest (languages_of old.engine) fault (f.disk old.folder) (f.disk new.folder) before line (KeepsChild f s new)
    pub cause : fault ≡ DiskFault → Rose (f.faults old.folder) (f.faults new.folder)
    pub spares : fault ≢ DiskFault → f.faults new.folder ≡ f.faults old.folder
    pub found : IsFoundOn (f.disk old.folder) (f.disk new.folder) line fault
    pub on : ComesTo (f.disk old.folder) (f.disk new.folder)
    pub still : (ChangesFiles (request_of line) → ⊥) → Tells (f.disk old.folder) (f.disk new.folder) MovesNone
    pub own : (IsOnIndexes (request_of line) → ⊥) → Tells (f.disk old.folder) (f.disk new.folder) MovesOwn
    pub kept : fault ≢ DiskFault → (IsOnIndexes (request_of line) → ⊥) → Tells (f.disk old.folder) (f.disk new.folder) MovesNone
    pub indexed : IsOnIndexes (request_of line) → Tells (f.disk old.folder) (f.disk new.folder) MovesIndexFiles
    pub stays : Stays f s old new

  -- since the origin a session has come to this moment
  pub record HasCome (origin : Origin) (now : Scene F C) (moment : Moment) : Type 0 where
    pub languages : languages_of now.engine ≡ origin.languages
    pub stands : StandsAt f s now moment
    pub moved : HasMoved s.functions s.honest origin (f.disk now.folder) moment.world

  -- it has come to none yet but the opening
  abbrev pub IsAtOrigin : Origin → Scene F C → Type 0
  IsAtOrigin origin now = HasCome origin now (at_start origin.opening width origin.faults)

-- a session between its ports
abbrev pub scene_of : {F C : Type 0} → Session F C → Scene F C
scene_of session = scene session.engine.now session.folder.now session.servers.now

-- it still has the same engine and the same ports
abbrev pub KeepsPorts : {F C : Type 0} → Session F C → Session F C → Type 0
KeepsPorts old new = (new.engine.ghost_name ≡ old.engine.ghost_name) × (new.folder.ghost_name ≡ old.folder.ghost_name) × (new.servers.ghost_name ≡ old.servers.ghost_name)

-- what the last line is answered with: the reply, or a constant where there was no memory for it
abbrev pub reply_of : {F C : Type 0} → Session F C → List ℕ
reply_of session = if session.ran_out then ended (refusal_text refusal.NoMemory) else session.reply.now.items
