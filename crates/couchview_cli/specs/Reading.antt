-- What serving does with lines, whatever the folder holds.
use Rattle.std.specs.Prelude.{◌≡◌, ◌≢◌, ◌⊎◌, ◌≤◌, ◌*◌, ◌+◌, ◌&&◌, ℕ, List, [], ◌∷◌, ◌++◌, Bool, true, false, Option, Result, Ok, IfErr, length}
use Rattle.std.specs.Io.KnownBytes.{Appends, Consumes, IsAtEnd}
use Rattle.std.specs.List.{AllByRecursion, count_by}
use Rattle.view_ports.specs.declared.run_end.RunEnd.{RunEnd}
use Rattle.view_ports.specs.declared.file_name.FileName.{FileName}
use Rattle.view_ports.specs.Disk.{Disk, IfTold, LeavesOnly, Moves, MovesNone, Tells}
use Rattle.view_ports.specs.Exchanges.{Exchange, LeadsTo, lines_of, text_of}
use Rattle.view_ports.specs.Faults.{RoseBy}
use Rattle.view_ports.specs.Lines.{IsCut}
use Rattle.view_ports.specs.Runs.{AreLines, HasRead, Run, input_limit, status_of}
use Rattle.line_loop.specs.declared.loop_end.LoopEnd.{LoopEnd}
use Rattle.line_loop.specs.declared.loop_end.LoopEnd.TheVariants as loop_end
use Rattle.line_loop.specs.Loops.{HasReadBy}
use Rattle.tree_groups.specs.Cleans.{IsIndexFile}
use Rattle.view_engine.specs.declared.engine.Engine.{Engine}
use Rattle.view_engine.specs.declared.halt.StepFault.{StepFault}
use Rattle.view_engine.specs.declared.halt.StepFault.TheVariants.{Damaged, DiskFault, Full, NoMemory}
use Rattle.view_engine.specs.declared.refusal.Refusal.{Refusal}
use Rattle.view_engine.specs.declared.request.Request.{Request}
use Rattle.view_engine.specs.declared.request.Request.TheVariants.{Delete, Put}
use Rattle.view_engine.specs.Accepted.{is_ok}
use Rattle.view_engine.specs.Disks.{ChangesFiles, IsOfSomeIndex, IsOnIndexes, MeetsFullIndexIn, MeetsIndexDamageIn, ReadsDocuments}
use Rattle.view_engine.specs.Halts.{MovesDocuments, Writes}
use Rattle.view_engine.specs.Openings.{IsMovedByOpening}
use Rattle.view_engine.specs.Refusals.{request_of}
use Rattle.view_engine.specs.ServerFaults.{server_faults}
use Rattle.view_engine.specs.Worlds.{update_seq, HasBodyDamage, HasDamage, IsFullIn, IsOpen}
use Rattle.couchview_cli.specs.Closing.{Closes}
use Rattle.couchview_cli.specs.Replied.{IsReplied}
use Rattle.couchview_cli.specs.Serving.{Outside}

-- a step of a run of which only that is told
abbrev pub Replies : Unit {0} → Exchange → Unit {0} → Type 0
Replies before exchange after = IsReplied exchange.line exchange.text

-- A line isn't answered, for this fault, between these disks: it is a request, and memory didn't run out; one that reads documents met
-- a body that is damaged; one that writes a document met a full file; a view met either in a file of an index, and a cleanup a damaged
-- one.
pub record IsFoundOn (before now : Option (Disk FileName)) (line : List ℕ) (fault : StepFault) : Type 0 where
  pub halts : fault ≢ NoMemory
  pub asks : IfErr (request_of line) (λ refusal. ⊥)
  pub damaged : (name : FileName) (at : ℕ) → fault ≡ Damaged name at → (ReadsDocuments (request_of line) × IfTold now (λ d. HasBodyDamage d.now name at)) ⊎ (IsOnIndexes (request_of line) × Tells before now (λ a b. MeetsIndexDamageIn a.now b.now (request_of line) name at))
  pub full : (name : FileName) (length : Option ℕ) → fault ≡ Full name length → (Writes (request_of line) × IfTold now (λ d. IsFullIn d.now (request_of line) name length)) ⊎ (IsOfSomeIndex (request_of line) name × Tells before now (λ a b. MeetsFullIndexIn a.now b.now (request_of line) name length))

-- none of these lines is a request that may change files
abbrev pub NoneChanges : List Exchange → Type 0
NoneChanges exchanges = AllByRecursion (λ e. ChangesFiles (request_of e.line) → ⊥) exchanges

abbrev pub Told : Type 0
Told = Option (Disk FileName)

-- an engine lies open over this disk, and this is its update sequence
abbrev pub IsOpenAt : Told → ℕ → Type 0
IsOpenAt disk seq = (engine : Engine) × IfTold disk (λ d. IsOpen engine d.now) × (update_seq engine ≡ seq)

-- the one disk came behind the other
abbrev pub ComesTo : Told → Told → Type 0
ComesTo old new = Tells old new (LeavesOnly (λ image. Unit {0}))

-- none of them is a view or a cleanup
abbrev pub NoneOnIndexes : List Exchange → Type 0
NoneOnIndexes exchanges = AllByRecursion (λ e. IsOnIndexes (request_of e.line) → ⊥) exchanges

-- only files of the documents changed
abbrev pub MovesOwn : Disk FileName → Disk FileName → Type 0
MovesOwn = MovesDocuments (λ image. Unit {0})

-- only files of indexes changed
abbrev pub MovesIndexFiles : Disk FileName → Disk FileName → Type 0
MovesIndexFiles = Moves IsIndexFile (λ image. Unit {0}) (λ files. Unit {0})

-- a put or a deletion
abbrev pub is_write : Result Request Refusal → Bool
is_write (Ok (Put document)) = true
is_write (Ok (Delete id given)) = true
is_write other = false

-- a request was answered as a write that is accepted
abbrev pub says_written : Result Request Refusal → List ℕ → Bool
says_written request text = is_write request && is_ok text

-- how many lines were
abbrev pub writes_in : List Exchange → ℕ
writes_in exchanges = count_by (λ e. says_written (request_of e.line) e.text) exchanges

-- An engine lay open over the first disk, and `seq` was its update sequence.
module _ (IsOver : Type 0) (held now : Option (List ℕ)) (bytes : List ℕ) (old new : Told) (seq faults faults' : ℕ) where
  -- The lines of these bytes were answered, as a run that came to this end answers them. Behind them an engine lies open, whose update
  -- sequence rose by one for each write that was accepted. Where none of the lines writes a document, asks for a view or cleans up, no
  -- file changed, and where none asks for a view or cleans up, only files of the documents did. The count of the query servers' faults
  -- rose by two for each line that was answered `server_fault`.
  pub record AreReplied (end : RunEnd) : Type 0 where
    pub gained : List ℕ
    pub run : Run Replies IsOver tt bytes gained end tt
    pub wrote : Appends held now gained
    pub opens : IsOpenAt new (seq + writes_in run.exchanges)
    pub still : NoneChanges run.exchanges → Tells old new MovesNone
    pub own : NoneOnIndexes run.exchanges → Tells old new MovesOwn
    pub twice : RoseBy (2 * server_faults run.exchanges) faults faults'

  -- The first lines of them were answered, and the one behind them was not, for this fault, which it met as the disk was `mid`. There an
  -- engine lay open, whose update sequence had risen by one for each write that was accepted. From there on only the files changed that the
  -- line's request may change: those of indexes for a view or a cleanup, those of the documents for a write, and these only where the disk
  -- failed, and none for others.
  pub record AreRepliedUpTo (fault : StepFault) : Type 0 where
    pub exchanges : List Exchange
    pub lines : List (List ℕ)
    pub rest : List ℕ
    pub line : List ℕ
    pub more : List (List ℕ)
    pub cut : IsCut bytes lines rest
    pub answered : AreLines IsOver lines rest (lines_of exchanges ++ line ∷ more)
    pub leads : LeadsTo Replies tt exchanges tt
    pub wrote : Appends held now (text_of exchanges)
    pub mid : Told
    pub opens : IsOpenAt mid (seq + writes_in exchanges)
    pub until : ComesTo old mid
    pub since : ComesTo mid new
    pub found : IsFoundOn mid new line fault
    pub still : NoneChanges exchanges → Tells old mid MovesNone
    pub kept : (ChangesFiles (request_of line) → ⊥) → Tells mid new MovesNone
    pub own : NoneOnIndexes exchanges → Tells old mid MovesOwn
    pub own_kept : (IsOnIndexes (request_of line) → ⊥) → Tells mid new MovesOwn
    pub unmoved : fault ≢ DiskFault → (IsOnIndexes (request_of line) → ⊥) → Tells mid new MovesNone
    pub index_kept : IsOnIndexes (request_of line) → Tells mid new MovesIndexFiles
    pub twice : RoseBy (2 * server_faults exchanges) faults faults'

  abbrev pub AreRepliedBy : LoopEnd StepFault → Type 0
  AreRepliedBy (loop_end.Run end) = AreReplied end
  AreRepliedBy (loop_end.Stopped fault) = AreRepliedUpTo fault

-- a session whose engine had this update sequence read the bytes that the source lost, answered their lines, and came to this end, from
-- the one disk to the other, and from the one count of the query servers' faults to the other
pub record HasReplied (left left' held held' : Option (List ℕ)) (old new : Told) (seq faults faults' : ℕ) (end : LoopEnd StepFault) : Type 0 where
  pub bytes : List ℕ
  pub reads : Consumes left left' bytes
  pub counts : HasReadBy end (length bytes)
  pub ends : AreRepliedBy (IsAtEnd left') held held' bytes old new seq faults faults' end

-- ---- the whole run, from the disk behind the opening of the folder on, which changed files only as it may, and where an engine lay open

-- it read the bytes that the source lost, answered their lines, and ended with this status
pub record ReadsOn (before after : Outside) (status : ℕ) : Type 0 where
  pub bytes : List ℕ
  pub end : RunEnd
  pub ends : status ≡ status_of end
  pub reads : Consumes before.left after.left bytes
  pub counts : HasRead end (length bytes)
  pub opened : Told
  pub moved : Tells before.disk opened IsMovedByOpening
  pub seq : ℕ
  pub opens : IsOpenAt opened seq
  pub replies : AreReplied (IsAtEnd after.left) before.held after.held bytes opened after.disk seq before.faults after.faults end

-- it was cut short in a line, and behind the replies to those before it stands the last line, which names the fault, unless the sink failed
pub record IsCutOff (before after : Outside) (status : ℕ) : Type 0 where
  pub bytes : List ℕ
  pub fault : StepFault
  pub held : Option (List ℕ)
  pub reads : Consumes before.left after.left bytes
  pub counts : length bytes ≤ input_limit
  pub opened : Told
  pub moved : Tells before.disk opened IsMovedByOpening
  pub seq : ℕ
  pub opens : IsOpenAt opened seq
  pub replies : AreRepliedUpTo (IsAtEnd after.left) before.held held bytes opened after.disk seq before.faults after.faults fault
  pub closes : Closes held after.held [] fault status

-- the folder wasn't opened, and nothing was read: no file changed but as opening changes it, no fault of the folder was counted unless this is
-- one, what is named as damaged is, and no file is full
pub record ReadsNothing (before after : Outside) (status : ℕ) : Type 0 where
  pub fault : StepFault
  pub unread : after.left ≡ before.left
  pub closes : Closes before.held after.held [] fault status
  pub moved : Tells before.disk after.disk IsMovedByOpening
  pub spared : fault ≢ DiskFault → after.disk_faults ≡ before.disk_faults
  pub damaged : IfTold before.disk (λ d. (name : FileName) (at : ℕ) → fault ≡ Damaged name at → HasDamage d.now name at)
  pub room : (name : FileName) (length : Option ℕ) → fault ≡ Full name length → ⊥

abbrev pub AnswersLines : Outside → Outside → ℕ → Type 0
AnswersLines before after status = ReadsOn before after status ⊎ (IsCutOff before after status ⊎ ReadsNothing before after status)
