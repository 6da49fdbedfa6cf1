-- Words that the contracts of calls share that read the documents' file.
use Rattle.std.specs.Prelude.{◌≡◌, ◌⊎◌, ℕ, List, Result, Err, IfOk}
use Rattle.view_ports.specs.Faults.{CountsFor}
use Rattle.view_ports.specs.Disk.{Disk, IfTold, Moves}
use Rattle.view_ports.specs.declared.file_name.FileName.{FileName}
use Rattle.view_ports.specs.declared.file_name.Stem.TheVariants.{Docs as DocsStem}
use Rattle.view_ports.specs.declared.folder.Folder.{Ghosts as Folders}
use Rattle.gate_file.specs.declared.fault.GateFault.TheVariants.{DiskFault, Damaged}
use Rattle.gate_file.specs.Open.{IsOpened, WhileOpening}
use Rattle.doc_file.specs.declared.docs.Docs.{Docs}
use Rattle.doc_file.specs.declared.fault.DocFault.{DocFault}
use Rattle.doc_file.specs.declared.fault.DocFault.TheVariants.{Deleted, Gate, Missing, NoMemory}
use Rattle.doc_file.specs.Docs.{file_of, IsAt, IsDocsFile}
use Rattle.doc_file.specs.Held.{Stands}
use Rattle.design_docs.specs.History.{Write}

module _ {F : Type 0} (f : Folders F) where
  -- a fault of the disk comes only where the folder counted one, and it counted none for any other answer
  abbrev pub IsCounted : {T : Type 0} → F → F → Result T DocFault → Type 0
  IsCounted old new result = CountsFor (Gate DiskFault) (f.faults old) (f.faults new) result

  -- over each history that the documents and the folder are at
  abbrev pub AtHistory : Docs → F → (List Write → Type 0) → Type 0
  AtHistory docs folder P = (history : List Write) → IfTold (f.disk folder) (λ d. IsAt docs d.now history → P history)

-- the disk failed, memory ran out, or the file is damaged somewhere
abbrev pub IsReadFault : DocFault → Type 0
IsReadFault fault = (fault ≡ Gate DiskFault) ⊎ (fault ≡ NoMemory) ⊎ ((name : FileName) × (at : ℕ) × (fault ≡ Gate (Damaged name at)))

-- the id has no document, or it can't be read
abbrev pub IsGetFault : DocFault → Type 0
IsGetFault fault = (fault ≡ Missing) ⊎ (fault ≡ Deleted) ⊎ IsReadFault fault

-- damage that is found is of this kind
abbrev pub FindsDamage : {T : Type 0} → (FileName → ℕ → Type 0) → Result T DocFault → Type 0
FindsDamage IsThere result = (name : FileName) (at : ℕ) → result ≡ Err (Gate (Damaged name at)) → IsThere name at

-- no damage is found
abbrev pub FindsNoDamage : {T : Type 0} → Result T DocFault → Type 0
FindsNoDamage result = (name : FileName) (at : ℕ) → result ≡ Err (Gate (Damaged name at)) → ⊥

-- the pair is opened
abbrev pub Opens : {E : Type 0} → Result Docs E → Disk FileName → Disk FileName → Type 0
Opens result old new = Moves (λ name. name.stem ≡ DocsStem) (WhileOpening DocsStem old.now) (λ files. IfOk result (λ docs. IsOpened (file_of docs) old.now files)) old new

-- each image stands for the history, and so does the object in the end
abbrev pub StaysAt : {E : Type 0} → List Write → Result Docs E → Disk FileName → Disk FileName → Type 0
StaysAt history result = Moves IsDocsFile (λ image. Stands image history) (λ files. IfOk result (λ docs. IsAt docs files history))
