-- What a cleanup promises, over the documents and the indexes.
use Rattle.std.specs.Prelude.{◌≡◌, ◌⊎◌, ◌≤◌, ◌++◌, ℕ, List, [], Result, Ok, Err, Some, IfErr, OnErr, OnOk, All, Contains}
use Rattle.json_terms.specs.Json.{Json}
use Rattle.view_signature.specs.Signature.{signature_of}
use Rattle.view_ports.specs.Disk.{IfTold, Moves, MovesNone, Tells}
use Rattle.view_ports.specs.File.{File}
use Rattle.view_ports.specs.Lines.{ended}
use Rattle.view_ports.specs.declared.file_name.FileName.{FileName}
use Rattle.view_ports.specs.declared.file_name.Stem.TheVariants.{View}
use Rattle.view_ports.specs.declared.folder.Folder.{Ghosts as Folders}
use Rattle.doc_file.specs.declared.docs.Docs.{Docs}
use Rattle.doc_file.specs.Docs.{bytes_in, IsAt as AreAt}
use Rattle.doc_file.specs.declared.fault.DocFault.TheVariants as doc
use Rattle.design_docs.specs.History.{Write, live_document}
use Rattle.gate_file.specs.declared.fault.GateFault.TheVariants as gate
use Rattle.tree_index.specs.declared.fault.IndexFault.{IndexFault}
use Rattle.tree_index.specs.declared.fault.IndexFault.TheVariants as index
use Rattle.tree_index.specs.Index.{stem_of}
use Rattle.tree_groups.specs.declared.groups.Groups.{Groups}
use Rattle.tree_groups.specs.Cleans.{IsIndexFile}
use Rattle.tree_groups.specs.Groups.{open_of, AreAt as AreIndexesAt, AreOpen as AreIndexesOpen}
use Rattle.tree_groups.specs.Pictures.{StandFor}
use Rattle.view_engine.specs.declared.halt.Halt.{Halt}
use Rattle.view_engine.specs.declared.halt.Halt.TheVariants.{Refused, Stopped}
use Rattle.view_engine.specs.declared.halt.StepFault.{StepFault}
use Rattle.view_engine.specs.declared.refusal.Refusal.{Refusal}
use Rattle.view_engine.specs.declared.request.Request.{Request}
use Rattle.view_engine.specs.declared.request.Request.TheVariants.{Cleanup}
use Rattle.view_engine.specs.declared.halt.StepFault.TheVariants.{Damaged, NoMemory}
use Rattle.view_engine.specs.Cleanup.{done_text, IsCleaned, IsLiveSignature, IsPartlyCleaned}
use Rattle.view_engine.specs.Disks.{ClearsUnheld, HasSlotDamage, IfStopped, IsOfNone, IsReadReason, MayGoOn}
use Rattle.view_engine.specs.Halts.{halted_as}
use Rattle.view_engine.specs.HeldDesigns.{IsHeldSignature}
use Rattle.view_engine.specs.Signatures.{kinds_of}
use Rattle.view_engine.specs.World.{World}

-- these are the signatures of the live designs of a history
abbrev pub AreLiveSignatures : List Write → List (List ℕ) → Type 0
AreLiveSignatures history sigs = (sig : List ℕ) → (Contains sigs sig → IsLiveSignature history sig) × (IsLiveSignature history sig → Contains sigs sig)

-- this is the signature of the design of the live document of an id
abbrev pub IsSignatureOf : List Write → List ℕ → List ℕ → Type 0
IsSignatureOf history id sig = (document : Json) × (live_document history id ≡ Some document) × (signature_of document ≡ sig)

-- how removing indexes may fail
abbrev pub IsCleanFault : IndexFault → Type 0
IsCleanFault fault = (fault ≡ index.Store gate.DiskFault) ⊎ (fault ≡ index.NoMemory) ⊎ ((name : FileName) × (at : ℕ) × (fault ≡ index.Store (gate.Damaged name at)))

-- and as what a request meets it
abbrev pub met_by_index : IndexFault → Halt
met_by_index (index.Store fault) = halted_as (doc.Gate fault)
met_by_index other = Stopped NoMemory

-- it isn't refused
abbrev pub IsStopped : Halt → Type 0
IsStopped (Refused refusal) = ⊥
IsStopped (Stopped fault) = Unit {0}

-- an image of the files of indexes stands for what is left of the pictures by a part of a cleanup
abbrev pub StandsCleaned : World → (FileName → List ℕ) → Type 0
StandsCleaned world image = (mid : World) × IsPartlyCleaned world mid × StandFor (kinds_of world) image mid.pictures

-- the indexes are left at the pictures of a cleaned world
abbrev pub EndsCleaned : Groups → World → Result (Unit {0}) Halt → (FileName → File) → Type 0
EndsCleaned groups world (Ok done) files = (after : World) × IsCleaned world after × AreIndexesAt (kinds_of world) groups files after.pictures
EndsCleaned groups world (Err halt) files = Unit {0}

-- each open index stays open whose signature is that of a live design document
abbrev pub LiveStayOpen : {F : Type 0} → Folders F → Docs → Groups → Groups → F → Type 0
LiveStayOpen f docs groups groups' old =
    IfTold (f.disk old) (λ d. All (λ index. (sig : List ℕ) → stem_of index ≡ View sig → IsHeldSignature docs (bytes_in docs d.now) sig → Contains (open_of groups') index) (open_of groups))

module _ {F : Type 0} (f : Folders F) (docs : Docs) (groups groups' : Groups) (old new : F) where
  -- why it is stopped: as reading documents is, or by a file of an index that is damaged, which there is in no world
  abbrev pub IsCleanupReason : StepFault → Type 0
  IsCleanupReason (Damaged name at) = IsReadReason f docs old new (Damaged name at)
      ⊎ (IfTold (f.disk old) (λ d. HasSlotDamage docs d.now name at) × ((world : World) → IfTold (f.disk old) (λ d. AreIndexesAt (kinds_of world) groups d.now world.pictures → ⊥)))
  IsCleanupReason fault = IsReadReason f docs old new fault

  pub record CleansUp (out out' : List ℕ) (result : Result (Unit {0}) Halt) : Type 0 where
    -- a crash leaves at each moment what a part of a cleanup leaves, and of each file of no index what it might have left before
    pub stands : (world : World) → IfTold (f.disk old) (λ d. AreAt docs d.now world.history × AreIndexesAt (kinds_of world) groups d.now world.pictures)
        → Tells (f.disk old) (f.disk new) (Moves IsIndexFile (StandsCleaned world) (EndsCleaned groups' world result))
    -- whatever the folder holds, only files of indexes change, and none for want of memory; where it may go on, the indexes are open
    pub others : Tells (f.disk old) (f.disk new) (Moves IsIndexFile (λ image. Unit {0}) (λ files. Unit {0}))
    pub unmoved : result ≡ Err (Stopped NoMemory) → (groups' ≡ groups) × Tells (f.disk old) (f.disk new) MovesNone
    pub is_open : MayGoOn result → IfTold (f.disk old) (λ d. AreIndexesOpen groups d.now) → IfTold (f.disk new) (λ d. AreIndexesOpen groups' d.now)
    -- over documents at a history only files of indexes change that no live design has, and in the end none of these has bytes
    pub spared : (history : List Write) → IfTold (f.disk old) (λ d. AreAt docs d.now history) → Tells (f.disk old) (f.disk new) (Moves (IsOfNone history) (λ image. Unit {0}) (λ files. Unit {0}))
    pub empty : OnOk result ((history : List Write) → IfTold (f.disk old) (λ d. AreAt docs d.now history) → IfTold (f.disk new) (λ d. (name : FileName) → IsOfNone history name → (d.now name).seen ≡ []))
    pub held : ClearsUnheld f docs old new (result ≡ Ok tt)
    -- nothing is opened
    pub closes : All (Contains (open_of groups)) (open_of groups')
    pub prints : OnOk result (out' ≡ out ++ ended done_text)
    pub silent : OnErr result (out' ≡ out)
    pub stopped : IfErr result IsStopped
    pub why : IfErr result (IfStopped IsCleanupReason)
    pub later : f.faults old ≤ f.faults new

-- the same of a request, where it is a cleanup
abbrev pub StaysOpenFor : {F : Type 0} → Folders F → Docs → Groups → Groups → F → Result Request Refusal → Type 0
StaysOpenFor f docs groups groups' old (Ok Cleanup) = LiveStayOpen f docs groups groups' old
StaysOpenFor f docs groups groups' old other = Unit {0}
