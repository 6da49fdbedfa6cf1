-- What `load` does: it serves lines from a source in memory to a sink in memory, and prints some of the replies.
use Rattle.std.specs.Prelude.{◌≡◌, ◌≢◌, ◌⊎◌, ℕ, ◌+◌, List, [], ◌∷◌, ◌++◌, true, codes, length, map, pos, slice_index_or, Option, Some}
use Rattle.std.specs.List.{AllByRecursion, flat_map}
use Rattle.std.specs.Io.KnownBytes.{Appends}
use Rattle.json_terms.specs.Json.{member, no_members, number, object}
use Rattle.design_docs.specs.declared.design.Builtin.TheVariants.{Stats}
use Rattle.view_ports.specs.Calls.{Call}
use Rattle.view_ports.specs.Disk.{Disk, IfTold, LeavesOnly, MovesNone, Tells}
use Rattle.view_ports.specs.Exchanges.{Exchange, IsPrefixOf, lines_of, text_of}
use Rattle.view_ports.specs.Faults.{Rose}
use Rattle.view_ports.specs.Functions.{Functions}
use Rattle.view_ports.specs.Lines.{ended}
use Rattle.view_ports.specs.declared.file_name.FileName.{FileName}
use Rattle.view_ports.specs.declared.run_end.RunEnd.TheVariants.{InputEnded}
use Rattle.view_ports.specs.declared.folder.Folder.{Ghosts as Folders}
use Rattle.view_ports.specs.declared.ports.Sink.{Ghosts as Sinks}
use Rattle.view_ports.specs.declared.servers.Servers.{Ghosts as Servers}
use Rattle.line_loop.specs.declared.loop_end.LoopEnd.{LoopEnd}
use Rattle.line_loop.specs.declared.loop_end.LoopEnd.TheVariants as loop_end
use Rattle.map_server.specs.Pick.{pick}
use Rattle.query_args.specs.Query.{query_of}
use Rattle.query_args.specs.declared.query.Query.{Query}
use Rattle.query_args.specs.declared.query.Target.TheVariants.{View}
use Rattle.design_docs.specs.History.{Write}
use Rattle.view_model.specs.Answer.{answer}
use Rattle.view_model.specs.Rows.{view_rows}
use Rattle.view_model.specs.Values.{builtin_text}
use Rattle.view_engine.specs.declared.halt.StepFault.{StepFault}
use Rattle.view_engine.specs.declared.halt.StepFault.TheVariants.{Damaged, DiskFault, Full, NoMemory}
use Rattle.view_engine.specs.declared.refusal.Refusal.TheVariants.{NoMemory as OutOfMemory}
use Rattle.view_engine.specs.Openings.{IsMovedByOpening}
use Rattle.view_engine.specs.Refusals.{refusal_text}
use Rattle.view_engine.specs.Updating.{IsSound}
use Rattle.view_engine.specs.World.{World}
use Rattle.view_engine.specs.Worlds.{HasBodyDamage, Holds, StandsFor}
use Rattle.load_lines.specs.Documents.{load_map}
use Rattle.load_lines.specs.Lines.{first_lines, info_line, second_lines, view_line}
use Rattle.couchview_cli.specs.Closing.{Closes, fault_status, IsOfFull}
use Rattle.couchview_cli.specs.Reading.{HasReplied, IsOpenAt, ReadsNothing, Told}
use Rattle.couchview_cli.specs.Serving.{Finishes, IsCutShort, IsUnopened, Outside}

-- the request lines: puts of the design document and of each document, the view, puts of every third document again, the view, and `info`
abbrev pub load_lines : ℕ → ℕ → List (List ℕ)
load_lines docs seed = first_lines docs seed ++ view_line ∷ (second_lines docs seed ++ view_line ∷ info_line ∷ [])

-- where those to the two views stand among them, and that to `info`
abbrev pub first_view : ℕ → ℕ → ℕ
first_view docs seed = length (first_lines docs seed)

abbrev pub second_view : ℕ → ℕ → ℕ
second_view docs seed = first_view docs seed + 1 + length (second_lines docs seed)

abbrev pub info_place : ℕ → ℕ → ℕ
info_place docs seed = second_view docs seed + 1

abbrev pub load_query : Query
load_query = query_of (View true) (object (member (codes "group_level") (number (pos 1)) no_members))

-- the answer to the view's query from mapping all documents
abbrev pub fresh_answer : List Write → List ℕ
fresh_answer history = answer (builtin_text Stats) load_query (length history) (view_rows pick load_map history)

-- what was written for the line in this place
abbrev pub reply_to : List Exchange → ℕ → List ℕ
reply_to exchanges place = slice_index_or (map (λ e. e.text) exchanges) place []

-- what a load prints: the replies to its two views, the answer to the second afresh, and the reply to `info`
abbrev pub load_text : ℕ → ℕ → List Exchange → List ℕ → List ℕ
load_text docs seed exchanges fresh =
    reply_to exchanges (first_view docs seed) ++ (reply_to exchanges (second_view docs seed) ++ (ended fresh ++ reply_to exchanges (info_place docs seed)))

-- what the ports tell, of which the source has this left
abbrev pub beside : {K F C : Type 0} → Option (List ℕ) → Sinks K → Folders F → Servers C → K → F → C → Outside
beside left k f c sink folder servers = record { left = left; held = k.held sink; disk = f.disk folder; disk_faults = f.faults folder; faults = c.faults servers }

-- the sink gained the text, and the status is 0, or it failed in it, and the status is 4
abbrev pub IsPrinted : Option (List ℕ) → Option (List ℕ) → List ℕ → ℕ → Type 0
IsPrinted before after text status =
    ((status ≡ 0) × Appends before after text) ⊎ ((status ≡ 4) × ((part : List ℕ) × IsPrefixOf part text × Appends before after part))

-- none of these lines was refused for want of memory
abbrev pub NoneWants : List Exchange → Type 0
NoneWants exchanges = AllByRecursion (λ e. e.text ≢ ended (refusal_text OutOfMemory)) exchanges

-- one of the lines of this text is the refusal for want of memory
pub record HasWant (text : List ℕ) : Type 0 where
  pub lines : List (List ℕ)
  pub behind : List ℕ
  pub is : text ≡ flat_map ended lines ++ (ended (refusal_text OutOfMemory) ++ behind)

module _ (functions : List ℕ → Functions) (honest : List ℕ → Type 0) (docs seed : ℕ) (opening : World) (before after : Outside) (AtEnd : List Call → Type 0) where
  -- what the ports tell of which the source has the lines of the load, and the sink nothing
  abbrev pub at_first : Outside
  at_first = record before { left = Some (flat_map ended (load_lines docs seed)); held = Some [] }

  -- Lines of the load were served as `serve` does it, to this end; what was written for them is `gained`. Then the documents were only
  -- read.
  pub record HasBegun (end : ℕ) : Type 0 where
    pub left : Option (List ℕ)
    pub gained : Option (List ℕ)
    pub disk : Option (Disk FileName)
    pub disk_faults : ℕ
    pub served : Finishes functions honest [] opening at_first (record after { left = left; held = gained; disk = disk; disk_faults = disk_faults }) AtEnd end
    pub read : Tells disk after.disk MovesNone

  -- all lines were, and none was refused for want of memory
  pub record HasServed : Type 0 where
    pub begun : HasBegun 0
    pub lines : lines_of ((begun.served).runs).exchanges ≡ load_lines docs seed
    pub done : NoneWants ((begun.served).runs).exchanges

  -- Then the history has a write for each put: each was accepted, so the revision that each of the second puts names was the present one. What
  -- a load prints was written, or the sink failed in it. Where the pictures of the opening stand, `builtin:pick` is honest and no fault of the
  -- servers is counted, the reply to the second view is the answer afresh.
  pub record LoadsAll (status : ℕ) : Type 0 where
    pub ran : HasServed
    pub fresh : List ℕ
    pub afresh : IfTold before.disk (λ d. fresh ≡ fresh_answer (((ran.begun).served).moment.world).history)
    pub puts : IfTold before.disk (λ d. length (((ran.begun).served).moment.world).history ≡ length (first_lines docs seed ++ second_lines docs seed))
    pub prints : IsPrinted before.held after.held (load_text docs seed (((ran.begun).served).runs).exchanges fresh) status
    pub same : IfTold before.disk (λ d. IsSound functions honest [] opening → honest (codes "builtin:pick") → functions (codes "builtin:pick") ≡ pick → (Rose before.faults after.faults → ⊥)
        → reply_to (((ran.begun).served).runs).exchanges (second_view docs seed) ≡ ended fresh)

  -- a fault of the folder came in a line, and none before it was refused for want of memory; the last line names the fault
  pub record IsLoadCut (status : ℕ) : Type 0 where
    pub fault : StepFault
    pub left : Option (List ℕ)
    pub gained : Option (List ℕ)
    pub cut : IsCutShort functions honest [] opening at_first (record after { left = left; held = gained }) AtEnd (fault_status fault)
    pub is : cut.fault ≡ fault
    pub done : NoneWants cut.exchanges
    pub closes : Closes before.held after.held [] fault status

  -- all lines were served, and then the documents could not be read: where the disk is told, since it failed
  pub record IsUnread (status : ℕ) : Type 0 where
    pub fault : StepFault
    pub ran : HasServed
    pub halts : fault ≢ NoMemory
    pub room : (name : FileName) (length : Option ℕ) → fault ≡ Full name length → ⊥
    pub whole : IfTold before.disk (λ d. fault ≡ DiskFault)
    pub cause : fault ≡ DiskFault → Rose before.disk_faults after.disk_faults
    pub closes : Closes before.held after.held [] fault status

  -- nothing was done but the opening
  pub record IsIdle : Type 0 where
    pub moments : Tells before.disk after.disk (LeavesOnly (λ image. StandsFor image opening))
    pub holds : IfTold after.disk (λ d. Holds d.now opening)
    pub faulted : after.faults ≡ before.faults
    pub at_end : AtEnd []

  -- some lines were served, one of which was refused for want of memory, and then a fault of the folder came in another one
  pub record IsCut : Type 0 where
    pub left : Option (List ℕ)
    pub gained : Option (List ℕ)
    pub status : ℕ
    pub cut : IsCutShort functions honest [] opening at_first (record after { left = left; held = gained }) AtEnd status
    pub wants : HasWant (text_of cut.exchanges)

  -- memory ran out, also for one line, and nothing is printed: no line was served, or some were
  pub record IsGivenUp (status : ℕ) : Type 0 where
    pub closes : Closes before.held after.held [] NoMemory status
    pub served : IsIdle ⊎ (((end : ℕ) × HasBegun end) ⊎ IsCut)

  -- the folder has writes, and nothing is done
  pub record HasWrites (status : ℕ) : Type 0 where
    pub is_10 : status ≡ 10
    pub silent : after.held ≡ before.held
    pub some : IfTold before.disk (λ d. opening.history ≢ [])
    pub idle : IsIdle

  -- a load; each but one of a folder with writes began without any
  abbrev pub Loads : ℕ → Type 0
  Loads status = (IfTold before.disk (λ d. opening.history ≡ []) × (LoadsAll status ⊎ (IsLoadCut status ⊎ (IsUnread status ⊎ IsGivenUp status))))
      ⊎ (HasWrites status ⊎ IsUnopened functions honest [] opening before after AtEnd status)

  -- a file that is full cuts it short
  abbrev pub LoadEndsAtFile : ℕ → Type 0
  LoadEndsAtFile status = (cut : IsLoadCut status) × IsOfFull cut.fault

-- ---- whatever the folder holds

-- the documents could not be read on this disk: what is named as damaged is, and no file is full
pub record IsOfReading (disk : Told) (fault : StepFault) : Type 0 where
  pub damaged : IfTold disk (λ d. (name : FileName) (at : ℕ) → fault ≡ Damaged name at → HasBodyDamage d.now name at)
  pub room : (name : FileName) (length : Option ℕ) → fault ≡ Full name length → ⊥

-- A run that wrote this text and came to this end is closed by this fault: by the one that stopped it in a line, or by want of memory, where
-- a line before it was refused for that; or, where no line stopped it, memory ran out, or the documents could not be read behind all lines.
abbrev pub MayClose : Told → List ℕ → LoopEnd StepFault → StepFault → Type 0
MayClose disk gained (loop_end.Stopped met) fault = (fault ≡ met) ⊎ ((fault ≡ NoMemory) × HasWant gained)
MayClose disk gained (loop_end.Run end) fault = (fault ≡ NoMemory) ⊎ ((end ≡ InputEnded) × IsOfReading disk fault)

module _ (docs seed : ℕ) (before after : Outside) where
  -- Lines of the load were answered, from the folder as it was opened, whose update sequence was 0, and the run came to this end. Then
  -- the documents were only read.
  pub record HasRunOver (end : LoopEnd StepFault) : Type 0 where
    pub opened : Told
    pub seq : ℕ
    pub mid : Told
    pub left : Option (List ℕ)
    pub gained : List ℕ
    pub moved : Tells before.disk opened IsMovedByOpening
    pub opens : IsOpenAt opened seq
    pub new : seq ≡ 0
    pub faults : ℕ
    pub counted : after.faults ≡ faults
    pub replied : HasReplied (Some (flat_map ended (load_lines docs seed))) left (Some []) (Some gained) opened mid seq before.faults faults end
    pub read : Tells mid after.disk MovesNone

  -- what it prints is made of replies and another line
  abbrev pub PrintsReplies : ℕ → Type 0
  PrintsReplies status = (ran : HasRunOver (loop_end.Run InputEnded)) × (fresh : List ℕ) × IsPrinted before.held after.held (load_text docs seed ((ran.replied).ends.run).exchanges fresh) status

  -- What it prints is the last line, which names the fault that closes it, or nothing. The folder counted no fault where none stopped it in
  -- a line and this is none.
  pub record IsClosed (status : ℕ) : Type 0 where
    pub end : LoopEnd StepFault
    pub fault : StepFault
    pub ran : HasRunOver end
    pub why : MayClose ran.mid ran.gained end fault
    pub spared : end ≢ loop_end.Stopped DiskFault → fault ≢ DiskFault → after.disk_faults ≡ before.disk_faults
    pub closes : Closes before.held after.held [] fault status

  -- the folder was opened, and no line was served: its update sequence isn't 0, or it is, and memory ran out
  pub record IsOpened (status : ℕ) : Type 0 where
    pub moved : Tells before.disk after.disk IsMovedByOpening
    pub seq : ℕ
    pub opens : IsOpenAt after.disk seq
    pub spared : after.disk_faults ≡ before.disk_faults
    pub ends : ((seq ≢ 0) × (status ≡ 10) × (after.held ≡ before.held)) ⊎ ((seq ≡ 0) × Closes before.held after.held [] NoMemory status)

  abbrev pub AnswersLoad : ℕ → Type 0
  AnswersLoad status = PrintsReplies status ⊎ (IsClosed status ⊎ (IsOpened status ⊎ ReadsNothing before after status))
