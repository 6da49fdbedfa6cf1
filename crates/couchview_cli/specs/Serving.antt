-- What serving does, in terms of what the ports tell.
use Rattle.std.specs.Prelude.{◌≡◌, ◌≢◌, ◌<◌, ◌≤◌, ◌⊎◌, ℕ, List, [], ◌∷◌, ◌++◌, Option, Some, None, length, Result}
use Rattle.std.specs.Io.KnownBytes.{Consumes, Appends, IsAtEnd}
use Rattle.view_ports.specs.declared.run_end.RunEnd.{RunEnd}
use Rattle.view_ports.specs.declared.file_name.FileName.{FileName}
use Rattle.view_ports.specs.declared.folder.Folder.{Ghosts as Folders}
use Rattle.view_ports.specs.declared.ports.Sink.{Ghosts as Sinks}
use Rattle.view_ports.specs.declared.ports.Source.{Ghosts as Sources}
use Rattle.view_ports.specs.declared.servers.Servers.{Ghosts as Servers}
use Rattle.view_ports.specs.Calls.{Call, child}
use Rattle.view_ports.specs.Disk.{Disk, IfTold, IsImageOf, LeavesOnly, MovesNone, Tells}
use Rattle.view_ports.specs.Faults.{Rose}
use Rattle.view_ports.specs.Exchanges.{Exchange, IsPrefixOf, LeadsTo, lines_of, text_of}
use Rattle.view_ports.specs.Functions.{Functions}
use Rattle.child_pool.specs.Histories.{AllStops}
use Rattle.view_ports.specs.Lines.{last_line, IsCut}
use Rattle.view_ports.specs.Runs.{AreFirst, AreLines, Run, HasRead, status_of, input_limit}
use Rattle.view_engine.specs.declared.halt.StepFault.{StepFault}
use Rattle.view_engine.specs.declared.halt.StepFault.TheVariants.{Damaged, DiskFault, Full, NoMemory}
use Rattle.view_engine.specs.declared.refusal.Refusal.{Refusal}
use Rattle.view_engine.specs.declared.request.Request.{Request}
use Rattle.view_engine.specs.World.{World}
use Rattle.view_engine.specs.Moments.{Moment}
use Rattle.view_engine.specs.Disks.{IsOfIndex, IsOnIndexes, IsView}
use Rattle.view_engine.specs.Fresh.{IsFreshStep}
use Rattle.view_engine.specs.FullIndex.{IsIndexFullOf}
use Rattle.view_engine.specs.Updating.{HasClash, IsSound}
use Rattle.view_engine.specs.Worlds.{at_start, GoesOnFrom, HasRoomAt, Holds, IsFullAt, KnowsPaths, StandsAround, StandsFor}
use Rattle.view_engine.specs.Refusals.{request_of}
use Rattle.view_engine.specs.Steps.{Answers, Makes, MayHaveCalled}
use Rattle.view_engine.specs.Accepted.{accepted, EachOk}
use Rattle.couchview_cli.specs.Closing.{Closes, IsOfFull}
use Rattle.couchview_cli.specs.Replied.{IsReplied}

-- what the ports tell at one moment: the bytes that the source has left, those that the sink holds, the disk, and how many
-- faults the folder had, and the query servers
pub record Outside : Type 0 where
  pub left : Option (List ℕ)
  pub held : Option (List ℕ)
  pub disk : Option (Disk FileName)
  pub disk_faults : ℕ
  pub faults : ℕ

-- the same of these ports
abbrev pub outside : {S K F C : Type 0} → Sources S → Sinks K → Folders F → Servers C → S → K → F → C → Outside
outside s k f c source sink folder servers =
    record { left = s.left source; held = k.held sink; disk = f.disk folder; disk_faults = f.faults folder; faults = c.faults servers }

-- how many children map documents
abbrev pub width : ℕ
width = 1

-- the children were stopped at the end, and nothing else was called: no slot has a child, those that map nor that which reduces
pub record AreLeft (may_follow : List Call → Type 0) (calls : List Call) : Type 0 where
  pub added : List Call
  pub only : AllStops added
  pub follows : may_follow (added ++ calls)
  pub stopped : (slot : ℕ) → slot ≤ width → child slot (added ++ calls) ≡ None

module _ (functions : List ℕ → Functions) (honest : List ℕ → Type 0) (languages : List (List ℕ × List ℕ)) where
  abbrev Sound : World → Type 0
  Sound = IsSound functions honest languages

  -- an image stands for some first part of the world, which has all that was there at the opening, and whose pictures stand where
  -- those of the opening did
  abbrev pub StandsSince : World → World → (FileName → List ℕ) → Type 0
  StandsSince opening world image = (first : World) × (GoesOnFrom opening first × GoesOnFrom first world × StandsFor image first × (Sound opening → Sound first))

  -- the same, or the image stands for the world that the request in hand makes
  abbrev pub StandsSinceWith : World → World → List ℕ → (FileName → List ℕ) → Type 0
  StandsSinceWith opening world line image =
      StandsSince opening world image ⊎ ((after : World) × Makes functions honest languages world (request_of line) after × StandsFor image after × (Sound opening → Sound after))

  -- Before a line in a run the disk was `mid`: nothing of the documents was pending there, its files held a world of this history, and what the line's
  -- request writes passes neither limit of the documents' file among them.
  pub record HadRoom (opening last : World) (old new : Option (Disk FileName)) (world : World) (request : Result Request Refusal) : Type 0 where
    pub mid : Option (Disk FileName)
    pub held : World
    pub history : held.history ≡ world.history
    pub until : Tells old mid (LeavesOnly (StandsSince opening held))
    pub holds : IfTold mid (λ d. Holds d.now held)
    pub room : IfTold mid (λ d. HasRoomAt d.now held request)
    pub since : Tells mid new (LeavesOnly (StandsSince held last))

  -- from the one disk to the other, each line that was answered `ok` had room for what it wrote
  abbrev pub HaveRoom : World → World → Option (Disk FileName) → Option (Disk FileName) → List Exchange → Type 0
  HaveRoom opening last old new exchanges = IfTold old (λ d. EachOk (HadRoom opening last old new) opening exchanges)

  -- A step of a run: the line is answered with a line. Where the disk is told the answer is one of the definition, and the pictures before it
  -- stand where those of the opening did. The last part is of a line that asks for a view on an honest path, where the pictures stand and
  -- designs that differ have different signatures. It is answered by what mapping all documents afresh gives, or, for a view that is read as
  -- it stands, mapping them as they were at its picture; or by `server_fault`, where the servers' count of faults rose by two in the request;
  -- or by the refusal that it meets before any server is asked; or by `no_memory`.
  abbrev pub Steps : World → Option (Disk FileName) → Moment → Exchange → Moment → Type 0
  Steps opening disk before exchange after = IsReplied exchange.line exchange.text
      × IfTold disk (λ d. Answers functions honest languages before exchange after × (Sound opening → Sound before.world) × IsFreshStep functions honest languages before exchange after)

-- a run begins so: the files hold the world, and what it knows are functions of honest paths
pub record Begins (functions : List ℕ → Functions) (honest : List ℕ → Type 0) (languages : List (List ℕ × List ℕ)) (disk : Option (Disk FileName)) (opening : World) : Type 0 where
  pub holds : IfTold disk (λ d. Holds d.now opening)
  pub knows : IfTold disk (λ d. KnowsPaths functions honest languages opening)

module _ (functions : List ℕ → Functions) (honest : List ℕ → Type 0) (languages : List (List ℕ × List ℕ)) (opening : World) where
  -- A run that read the bytes that the source lost, that wrote what the sink gained, and that ended with this status. The
  -- world at its end has the writes of the opening and exactly those that were answered `ok`, it knows the functions that the opening
  -- knew, and its pictures stand where those of the opening did. Each image since the start stands for a first part of it, and each
  -- image now for the whole of it. Nothing of the documents is pending, and the files hold that world, so a later run begins with it.
  pub record Finishes (before after : Outside) (AtEnd : List Call → Type 0) (status : ℕ) : Type 0 where
    pub bytes : List ℕ
    pub gained : List ℕ
    pub end : RunEnd
    pub moment : Moment
    pub ends : status ≡ status_of end
    pub reads : Consumes before.left after.left bytes
    pub counts : HasRead end (length bytes)
    pub writes : Appends before.held after.held gained
    pub runs : Run (Steps functions honest languages opening before.disk) (IsAtEnd after.left) (at_start opening width before.faults) bytes gained end moment
    pub keeps : IfTold before.disk (λ d. (moment.world).history ≡ (accepted opening runs.exchanges).history)
    pub goes : IfTold before.disk (λ d. GoesOnFrom opening moment.world)
    pub sound : IfTold before.disk (λ d. IsSound functions honest languages opening → IsSound functions honest languages moment.world)
    pub fits : HaveRoom functions honest languages opening moment.world before.disk after.disk runs.exchanges
    pub moments : Tells before.disk after.disk (LeavesOnly (StandsSince functions honest languages opening moment.world))
    pub images : IfTold after.disk (λ d. (image : FileName → List ℕ) → IsImageOf d.now image → StandsFor image moment.world)
    pub holds : IfTold after.disk (λ d. Holds d.now moment.world)
    pub faulted : after.faults ≡ moment.faults
    pub at_end : AtEnd moment.calls

  -- A run that a fault of the folder cut short: some first lines were answered, each wholly, and then the line in hand was
  -- not. Its request took effect wholly or not at all. The last line that is written names the fault, unless the sink fails.
  -- Want of memory doesn't cut a run short: such a line is answered. `mid` is the disk before the line in hand: nothing of
  -- the documents is pending there, its files hold the world, and a file that is full is one of them. No file changes since but in a
  -- view or a cleanup, or where the disk failed, and there the line's write would have passed no limit. A file of an index is full only
  -- in a view that brings this index up to date, by a node that its pictures may have or its root record. No file is damaged. `last` is how the
  -- query servers were left.
  pub record IsCutShort (before after : Outside) (AtEnd : List Call → Type 0) (status : ℕ) : Type 0 where
    pub bytes : List ℕ
    pub exchanges : List Exchange
    pub lines : List (List ℕ)
    pub rest : List ℕ
    pub line : List ℕ
    pub more : List (List ℕ)
    pub moment : Moment
    pub fault : StepFault
    pub reads : Consumes before.left after.left bytes
    pub counts : length bytes ≤ input_limit
    pub cut : IsCut bytes lines rest
    pub answered : AreLines (IsAtEnd after.left) lines rest (lines_of exchanges ++ line ∷ more)
    pub leads : LeadsTo (Steps functions honest languages opening before.disk) (at_start opening width before.faults) exchanges moment
    pub keeps : IfTold before.disk (λ d. (moment.world).history ≡ (accepted opening exchanges).history)
    pub goes : IfTold before.disk (λ d. GoesOnFrom opening moment.world)
    pub sound : IfTold before.disk (λ d. IsSound functions honest languages opening → IsSound functions honest languages moment.world)
    pub closes : Closes before.held after.held (text_of exchanges) fault status
    pub halts : fault ≢ NoMemory
    pub cause : fault ≡ DiskFault → Rose before.disk_faults after.disk_faults
    pub whole : IfTold before.disk (λ d. (name : FileName) (at : ℕ) → fault ≡ Damaged name at → ⊥)
    pub mid : Option (Disk FileName)
    pub until : Tells before.disk mid (LeavesOnly (StandsSince functions honest languages opening moment.world))
    pub holds : IfTold mid (λ d. Holds d.now moment.world)
    pub fits : HaveRoom functions honest languages opening moment.world before.disk mid exchanges
    pub full : IfTold mid (λ d. (name : FileName) (length : Option ℕ) → fault ≡ Full name length → IsFullAt d.now moment.world (request_of line) name length ⊎ IsOfIndex d.now (request_of line) name)
    pub filled : IfTold after.disk (λ d. (name : FileName) (length : Option ℕ) → fault ≡ Full name length → IsView (request_of line) → IsIndexFullOf functions honest languages d.now moment.world (request_of line) name length)
    pub room : IfTold mid (λ d. fault ≡ DiskFault → HasRoomAt d.now moment.world (request_of line))
    pub kept : fault ≢ DiskFault → (IsOnIndexes (request_of line) → ⊥) → Tells mid after.disk MovesNone
    pub since : Tells mid after.disk (LeavesOnly (StandsAround functions honest languages moment.world (request_of line)))
    pub moments : Tells before.disk after.disk (LeavesOnly (StandsSinceWith functions honest languages opening moment.world line))
    pub images : IfTold after.disk (λ d. (image : FileName → List ℕ) → IsImageOf d.now image → StandsAround functions honest languages moment.world (request_of line) image)
    pub last : Moment
    pub called : IfTold before.disk (λ d. MayHaveCalled functions honest languages moment (request_of line) last)
    pub faulted : after.faults ≡ last.faults
    pub at_end : AtEnd last.calls

  -- a file that is full cuts it short
  abbrev pub EndsAtFile : Outside → Outside → (List Call → Type 0) → ℕ → Type 0
  EndsAtFile before after AtEnd status = (cut : IsCutShort before after AtEnd status) × IsOfFull cut.fault

  -- the folder could not be opened: nothing was read, and each image stands for the opening
  pub record IsUnopened (before after : Outside) (AtEnd : List Call → Type 0) (status : ℕ) : Type 0 where
    pub fault : StepFault
    pub unread : after.left ≡ before.left
    pub closes : Closes before.held after.held [] fault status
    pub cause : fault ≡ DiskFault → Rose before.disk_faults after.disk_faults
    pub whole : IfTold before.disk (λ d. (name : FileName) (at : ℕ) → fault ≡ Damaged name at → ⊥)
    pub room : (name : FileName) (length : Option ℕ) → fault ≡ Full name length → ⊥
    pub moments : Tells before.disk after.disk (LeavesOnly (λ image. StandsFor image opening))
    pub faulted : after.faults ≡ before.faults
    pub at_end : AtEnd []

  -- Of the lines of these bytes some first ones were answered, from this disk on, and then a line asks for a view where two designs
  -- that differ have one signature, so that one index would be of both. `mid` is the disk before that line: each image until then stands
  -- for a first part of the world, which its files hold.
  pub record MeetsClash (disk : Option (Disk FileName)) (faults : ℕ) (bytes : List ℕ) : Type 0 where
    pub told : Disk FileName
    pub is_told : disk ≡ Some told
    pub exchanges : List Exchange
    pub lines : List (List ℕ)
    pub rest : List ℕ
    pub line : List ℕ
    pub moment : Moment
    pub cut : IsCut bytes lines rest
    pub first : IsPrefixOf (lines_of exchanges ++ line ∷ []) (lines ++ last_line rest)
    pub leads : LeadsTo (Steps functions honest languages opening disk) (at_start opening width faults) exchanges moment
    pub asks : IsView (request_of line)
    pub clash : HasClash (moment.world).history
    pub goes : GoesOnFrom opening moment.world
    pub mid : Option (Disk FileName)
    pub until : Tells disk mid (LeavesOnly (StandsSince functions honest languages opening moment.world))
    pub holds : IfTold mid (λ d. Holds d.now moment.world)
    pub fits : HaveRoom functions honest languages opening moment.world disk mid exchanges

  -- A run that read the bytes that the source lost, and met that. What it wrote begins with the replies to the lines before; or the sink
  -- failed, in one of these. The line behind them ended in what was read, or the input did. The disk comes behind the one before that line, and
  -- of what is done from there on only that is said which is said of any folder.
  pub record Clashes (before after : Outside) (status : ℕ) : Type 0 where
    pub bytes : List ℕ
    pub gained : List ℕ
    pub reads : Consumes before.left after.left bytes
    pub counts : length bytes ≤ input_limit
    pub writes : Appends before.held after.held gained
    pub meets : MeetsClash before.disk before.faults bytes
    pub replies : IsPrefixOf (text_of meets.exchanges) gained ⊎ ((status ≡ 4) × IsPrefixOf gained (text_of meets.exchanges))
    pub whole : status ≢ 0 → AreFirst (IsAtEnd after.left) meets.lines meets.rest (lines_of meets.exchanges ++ meets.line ∷ [])
    pub since : Tells meets.mid after.disk (LeavesOnly (λ image. Unit {0}))

  abbrev pub Serves : Outside → Outside → (List Call → Type 0) → ℕ → Type 0
  Serves before after AtEnd status =
      Finishes before after AtEnd status ⊎ (IsCutShort before after AtEnd status ⊎ (IsUnopened before after AtEnd status ⊎ Clashes before after status))

-- the status is 8 exactly where as many bytes were read as a run reads at most, unless the run ended in a line of them:
-- since the folder or the sink failed, a file is damaged or full, or memory ran out
pub record StopsAtLimit (before after : Option (List ℕ)) (status : ℕ) : Type 0 where
  pub bytes : List ℕ
  pub reads : Consumes before after bytes
  pub limited : status ≡ 8 → length bytes ≡ input_limit
  pub stopped : length bytes ≡ input_limit → (status ≡ 8) ⊎ ((status ≡ 3) ⊎ ((status ≡ 4) ⊎ ((status ≡ 6) ⊎ ((status ≡ 7) ⊎ (status ≡ 9)))))

-- the source tells its bytes, and they are fewer than a run reads at most
abbrev pub IsShort : Option (List ℕ) → Type 0
IsShort None = ⊥
IsShort (Some bytes) = length bytes < input_limit
