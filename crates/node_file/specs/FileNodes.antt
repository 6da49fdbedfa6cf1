-- A file as a store of nodes: what stands in it, and what its calls do.
use Rattle.std.specs.Prelude.{◌≡◌, ◌≤◌, ◌+◌, ℕ, List, ◌∷◌, ◌++◌, length, Option, None}
use Rattle.std.specs.Borrow.{MutBor}
use Rattle.view_ports.specs.Disk.{Disk, MovesFile}
use Rattle.view_ports.specs.Faults.{Rose}
use Rattle.view_ports.specs.File.{File}
use Rattle.view_ports.specs.declared.file_name.FileName.{FileName}
use Rattle.view_ports.specs.declared.folder.Folder.{Ghosts as Folders}
use Rattle.gate_file.specs.declared.gate.GateFile.{GateFile}
use Rattle.gate_file.specs.declared.fault.GateFault.{GateFault}
use Rattle.gate_file.specs.declared.fault.GateFault.TheVariants.{DiskFault, Damaged, Full, NoMemory}
use Rattle.gate_file.specs.Calls.{too_long, KeepsIn, Moved, Told}
use Rattle.gate_file.specs.GateFile.{length_of, name_of, root_of, start_of, Keeps}
use Rattle.gate_file.specs.Publish.{IsTooLong}
use Rattle.gate_file.specs.Shown.{HasAll, Shows}
use Rattle.tree_laws.specs.Stores.{Growing, Places}
use Rattle.node_file.specs.declared.cache.NodeCache.{NodeCache}
use Rattle.node_file.specs.Cache.{gets_of, puts_of}
use Rattle.node_file.specs.declared.file_nodes.FileNodes.{FileNodes}
use Rattle.node_file.specs.Reads.{GoesOn, nodes_in}
use Rattle.node_file.specs.Records.{node_at}

-- ---- what is added to a file

-- the object is as before but for the length, which hasn't fallen
pub record IsLonger (old new : GateFile) : Type 0 where
  pub same : new ≡ record old { length = length_of new }
  pub longer : length_of old ≤ length_of new

-- the object keeps what the file is, and of what was durable nothing was lost
pub record IsKept (old new : GateFile) (file now : File) : Type 0 where
  pub durable : Shows (root_of old) file.durable now.durable
  pub keeps : Keeps new now

-- all that stood behind the slots of the object's file stands there
abbrev pub Stays : GateFile → Disk FileName → Disk FileName → Type 0
Stays gate old new = HasAll (old.now (name_of gate)).seen (new.now (name_of gate)).seen

-- Where the object kept what its file was, only this file changed. At each moment a crash leaves the root and what was durable,
-- and in the end the file is as `ends` says.
abbrev pub MovesOn : GateFile → (File → File → Type 0) → Disk FileName → Disk FileName → Type 0
MovesOn gate ends old new = KeepsIn gate old → MovesFile (name_of gate) (λ file image. Shows (root_of gate) file.durable image) ends old new

module _ {F : Type 0} (f : Folders F) where
  -- records were added to the file of an object, the object keeps what the file is, and no fault was counted
  pub record Adds (gate gate' : GateFile) (old new : F) : Type 0 where
    pub file : IsLonger gate gate'
    pub stays : Moved f old new (Stays gate)
    pub disk : Moved f old new (MovesOn gate (IsKept gate gate'))
    pub still : f.faults new ≡ f.faults old

  -- so far as a fault let them
  pub record AddsSome (gate gate' : GateFile) (old new : F) : Type 0 where
    pub file : IsLonger gate gate'
    pub disk : Moved f old new (MovesOn gate (λ file now. Unit {0}))
    pub faults : f.faults old ≤ f.faults new

  -- why no more were added, or one wasn't got
  abbrev pub AddsNoMore : GateFile → GateFile → F → F → GateFault → Type 0
  AddsNoMore gate gate' old new DiskFault = Rose (f.faults old) (f.faults new)
  AddsNoMore gate gate' old new (Full name length) = Adds gate gate' old new × (Full name length ≡ too_long gate')
  AddsNoMore gate gate' old new (Damaged name at) = Adds gate gate' old new × (name ≡ name_of gate') × Told f new (λ d. node_at (d.now name).seen at ≡ None)
  AddsNoMore gate gate' old new NoMemory = Adds gate gate' old new

-- ---- the store

-- how many bytes the record of a piece takes
abbrev pub record_size : List ℕ → ℕ
record_size piece = length piece + 8

-- the references that the store was lent
pub record HasSame {F : Type 0} (old new : FileNodes F) : Type 0 where
  pub cache : new.cache.ghost_name ≡ old.cache.ghost_name
  pub folder : new.folder.ghost_name ≡ old.folder.ghost_name
  pub file : new.file.ghost_name ≡ old.file.ghost_name

-- the file got no longer than by the pieces that were put
abbrev pub Grows : {F : Type 0} → FileNodes F → FileNodes F → Type 0
Grows old new = Growing (puts_of old.cache.now) (puts_of new.cache.now) (start_of old.file.now) (start_of new.file.now)

-- the store was lent these, and nothing was done yet
pub record IsOver {F : Type 0} (cache : MutBor NodeCache) (folder : MutBor F) (file : MutBor GateFile) (nodes : FileNodes F) : Type 0 where
  pub lent_cache : nodes.cache.ghost_name ≡ cache.ghost_name
  pub same_cache : nodes.cache.now ≡ cache.now
  pub lent_folder : nodes.folder.ghost_name ≡ folder.ghost_name
  pub same_folder : nodes.folder.now ≡ folder.now
  pub lent_file : nodes.file.ghost_name ≡ file.ghost_name
  pub same_file : nodes.file.now ≡ file.now

-- what was asked for last where a call failed that way: the node that is damaged was got, or a piece was put that the file has no room
-- for
abbrev pub WasAsked : {F : Type 0} → FileNodes F → FileNodes F → GateFault → Type 0
WasAsked old new DiskFault = Unit {0}
WasAsked old new (Full name length) =
    (piece : List ℕ) × (more : List (List ℕ)) × (puts_of new.cache.now ≡ piece ∷ (more ++ puts_of old.cache.now)) × IsTooLong new.file.now (record_size piece)
WasAsked old new (Damaged name at) = (more : List ℕ) × (gets_of new.cache.now ≡ at ∷ (more ++ gets_of old.cache.now))
WasAsked old new NoMemory = Unit {0}

module _ {F : Type 0} (f : Folders F) where
  -- the nodes of the file, where the folder tells its disk
  abbrev pub nodes_of : FileNodes F → Option Places
  nodes_of nodes = nodes_in f (name_of nodes.file.now) nodes.folder.now

  -- what the object keeps is what the folder holds
  abbrev pub IsReady : FileNodes F → Type 0
  IsReady nodes = Told f nodes.folder.now (KeepsIn nodes.file.now)

  -- what calls that answer Ok do
  pub record FileGoes (old new : FileNodes F) : Type 0 where
    pub lent : HasSame old new
    pub adds : Adds f old.file.now new.file.now old.folder.now new.folder.now
    pub grows : Grows old new
    pub gets : GoesOn (gets_of old.cache.now) (gets_of new.cache.now)
    pub puts : GoesOn (puts_of old.cache.now) (puts_of new.cache.now)

  -- what calls do of which the last answered a fault, and why it did
  pub record FileFails (old new : FileNodes F) (fault : GateFault) : Type 0 where
    pub lent : HasSame old new
    pub adds : AddsSome f old.file.now new.file.now old.folder.now new.folder.now
    pub cause : AddsNoMore f old.file.now new.file.now old.folder.now new.folder.now fault
    pub asked : WasAsked old new fault
    pub grows : Grows old new
