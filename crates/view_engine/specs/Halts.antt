-- What a refusal or a fault of the documents is to a request, and what faults leave.
use Rattle.std.specs.Prelude.{◌≡◌, ◌⊎◌, ℕ, false, ◌∷◌, ◌^◌, ◌<◌, ◌≤◌, List, Option, Some, None, Result, Ok, Err}
use Rattle.json_terms.specs.Json.{Json, object, members_of}
use Rattle.design_docs.specs.Documents.{id_of}
use Rattle.view_ports.specs.Disk.{Disk, IfTold, Moves, MovesNone, Tells}
use Rattle.view_ports.specs.File.{File}
use Rattle.view_ports.specs.declared.file_name.FileName.{FileName}
use Rattle.gate_file.specs.declared.fault.GateFault.TheVariants as gate
use Rattle.gate_file.specs.GateFile.{commits_of, length_of, name_of}
use Rattle.doc_file.specs.declared.docs.Docs.{Docs}
use Rattle.doc_file.specs.declared.fault.DocFault.{DocFault}
use Rattle.doc_file.specs.declared.fault.DocFault.TheVariants as doc
use Rattle.doc_file.specs.Calls.{length_with}
use Rattle.doc_file.specs.Docs.{bytes_in, file_of, is_deleted, last_of, IsAt, IsDocsFile, IsSpoiled}
use Rattle.doc_file.specs.Held.{Stands}
use Rattle.design_docs.specs.History.{Write}
use Rattle.doc_file.specs.Writes.{content_of}
use Rattle.view_engine.specs.declared.halt.Halt.{Halt}
use Rattle.view_engine.specs.declared.halt.Halt.TheVariants.{Refused, Stopped}
use Rattle.view_engine.specs.declared.halt.StepFault.{StepFault}
use Rattle.view_engine.specs.declared.halt.StepFault.TheVariants.{DiskFault, Damaged, Full, NoMemory}
use Rattle.view_engine.specs.declared.refusal.Refusal.{Refusal}
use Rattle.view_engine.specs.declared.refusal.Refusal.TheVariants as refusal
use Rattle.view_engine.specs.declared.request.Request.{Request}
use Rattle.view_engine.specs.declared.request.Request.TheVariants.{Put, Delete}
use Rattle.view_engine.specs.Steps.{IsWrite}
use Rattle.view_engine.specs.World.{World}

abbrev pub halted_as : DocFault → Halt
halted_as doc.BadId = Refused refusal.BadId
halted_as (doc.BadMember name) = Refused (refusal.BadMember name)
halted_as doc.BadRev = Refused refusal.BadRev
halted_as doc.TooLarge = Refused refusal.DocumentTooLarge
halted_as doc.TooDeep = Refused refusal.DocumentTooDeep
halted_as (doc.BadDesign fault) = Refused (refusal.InvalidDesign fault)
halted_as doc.Conflict = Refused refusal.Conflict
halted_as doc.Missing = Refused refusal.Missing
halted_as doc.Deleted = Refused refusal.Deleted
halted_as (doc.Gate gate.DiskFault) = Stopped DiskFault
halted_as (doc.Gate (gate.Damaged name offset)) = Stopped (Damaged name offset)
halted_as (doc.Gate (gate.Full name length)) = Stopped (Full name length)
halted_as (doc.Gate gate.NoMemory) = Stopped NoMemory
halted_as doc.NoMemory = Stopped NoMemory

-- want of memory has one name
abbrev pub halted_by : Refusal → Halt
halted_by refusal.NoMemory = Stopped NoMemory
halted_by other = Refused other

-- what is no refusal
abbrev pub fault_of : Halt → StepFault
fault_of (Stopped fault) = fault
fault_of (Refused refusal) = NoMemory

-- it leaves the files as they were: all but a fault of the disk does
abbrev pub LeavesFiles : Halt → Type 0
LeavesFiles (Refused refusal) = Unit {0}
LeavesFiles (Stopped NoMemory) = Unit {0}
LeavesFiles (Stopped DiskFault) = ⊥
LeavesFiles (Stopped (Damaged name offset)) = Unit {0}
LeavesFiles (Stopped (Full name length)) = Unit {0}

-- the same of a step
abbrev pub HasLeftFiles : Result (Unit {0}) StepFault → Type 0
HasLeftFiles (Ok done) = ⊥
HasLeftFiles (Err fault) = LeavesFiles (Stopped fault)

-- the engine may go on after it
abbrev pub GoesOn : Halt → Type 0
GoesOn (Refused refusal) = Unit {0}
GoesOn (Stopped NoMemory) = Unit {0}
GoesOn (Stopped DiskFault) = ⊥
GoesOn (Stopped (Damaged name offset)) = ⊥
GoesOn (Stopped (Full name length)) = ⊥

-- the same of a step
abbrev pub HasGoneOn : Result (Unit {0}) StepFault → Type 0
HasGoneOn (Ok done) = Unit {0}
HasGoneOn (Err fault) = GoesOn (Stopped fault)

-- at this place of the documents' file the last write of some id, which is no deletion, has no body
pub record IsDamage (docs : Docs) (files : FileName → File) (name : FileName) (at : ℕ) : Type 0 where
  pub own : name ≡ name_of (file_of docs)
  pub id : List ℕ
  pub live : is_deleted (last_of docs id) ≡ false
  pub spoiled : IsSpoiled id (bytes_in docs files) (last_of docs id) at

-- the next write of an id with this content would make the file of the documents too long, or else is one commit too many
abbrev pub IsFull : Docs → List ℕ → Option Json → FileName → Option ℕ → Type 0
IsFull docs id content name None =
    (name ≡ name_of (file_of docs)) × (2 ^ 50 ≤ commits_of (file_of docs)) × (length_with docs id content ≤ 2 ^ 40)
IsFull docs id content name (Some length) =
    (name ≡ name_of (file_of docs)) × (length ≡ length_of (file_of docs)) × (2 ^ 40 < length_with docs id content)

-- what a request would write
abbrev pub IsFullFor : Docs → Result Request Refusal → FileName → Option ℕ → Type 0
IsFullFor docs (Ok (Put document)) name length = IsFull docs (id_of (object (members_of document))) (content_of (object (members_of document))) name length
IsFullFor docs (Ok (Delete id given)) name length = IsFull docs id None name length
IsFullFor docs other name length = ⊥

-- the next write of an id with this content passes neither limit of the documents' file
pub record Fits (docs : Docs) (id : List ℕ) (content : Option Json) : Type 0 where
  pub short : length_with docs id content ≤ 2 ^ 40
  pub few : commits_of (file_of docs) < 2 ^ 50

-- the same of what a request would write
abbrev pub FitsFor : Docs → Result Request Refusal → Type 0
FitsFor docs (Ok (Put document)) = Fits docs (id_of (object (members_of document))) (content_of (object (members_of document)))
FitsFor docs (Ok (Delete id given)) = Fits docs id None
FitsFor docs other = Unit {0}

-- the request is a write that is accepted in the world
abbrev pub WouldWrite : Docs → Option (Disk FileName) → Result Request Refusal → Type 0
WouldWrite docs disk request = (world : World) → IfTold disk (λ d. IsAt docs d.now world.history → (write : Write) × IsWrite world request write)

-- ---- what is written

-- a request that writes a document
abbrev pub Writes : Result Request Refusal → Type 0
Writes (Ok (Put document)) = Unit {0}
Writes (Ok (Delete id given)) = Unit {0}
Writes other = ⊥

-- an image stands for the documents of the world before a request, or for those with the write that the request makes
abbrev pub DocumentsStandAround : World → Result Request Refusal → (FileName → List ℕ) → Type 0
DocumentsStandAround world request image = Stands image world.history ⊎ ((write : Write) × IsWrite world request write × Stands image (write ∷ world.history))

-- only files of the documents change, of which a crash leaves at each moment what has P, and of each other file what it might have
-- left before
abbrev pub MovesDocuments : ((FileName → List ℕ) → Type 0) → Disk FileName → Disk FileName → Type 0
MovesDocuments P = Moves IsDocsFile P (λ files. Unit {0})

-- where the request isn't a write that is accepted in the world, no file changes
abbrev pub IsStill : Docs → Option (Disk FileName) → Option (Disk FileName) → Result Request Refusal → Type 0
IsStill docs old new request =
    (world : World) → IfTold old (λ d. IsAt docs d.now world.history) → ((write : Write) → IsWrite world request write → ⊥) → Tells old new MovesNone
