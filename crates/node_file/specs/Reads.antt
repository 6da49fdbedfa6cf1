-- What reads of the nodes of a file do, and why one isn't got.
use Rattle.std.specs.Prelude.{◌≡◌, ◌≤◌, ℕ, List, ◌∷◌, ◌++◌, Option, None, option_map}
use Rattle.view_ports.specs.Disk.{MovesNone}
use Rattle.view_ports.specs.Faults.{Rose}
use Rattle.view_ports.specs.declared.file_name.FileName.{FileName}
use Rattle.view_ports.specs.declared.folder.Folder.{Ghosts as Folders}
use Rattle.gate_file.specs.declared.fault.GateFault.{GateFault}
use Rattle.gate_file.specs.declared.fault.GateFault.TheVariants.{DiskFault, Damaged, Full, NoMemory}
use Rattle.gate_file.specs.Calls.{Moved, Told}
use Rattle.tree_laws.specs.Stores.{Places}
use Rattle.node_file.specs.declared.cache.NodeCache.{NodeCache}
use Rattle.node_file.specs.Cache.{gets_of}
use Rattle.node_file.specs.Records.{node_at}

-- the one list is the other with more before it
abbrev pub GoesOn : {X : Type 0} → List X → List X → Type 0
GoesOn {X} old new = (more : List X) × (new ≡ more ++ old)

-- what was asked for last where nodes were got and the last call failed that way: the node that is damaged
abbrev pub WasGot : NodeCache → NodeCache → GateFault → Type 0
WasGot old new DiskFault = Unit {0}
WasGot old new (Full name length) = ⊥
WasGot old new (Damaged name at) = (more : List ℕ) × (gets_of new ≡ at ∷ (more ++ gets_of old))
WasGot old new NoMemory = Unit {0}

module _ {F : Type 0} (f : Folders F) where
  -- the nodes of the file of this name, where the folder tells its disk
  abbrev pub nodes_in : FileName → F → Option Places
  nodes_in name folder = option_map (λ disk. node_at (disk.now name).seen) (f.disk folder)

  -- only reads were made, and faults may have been counted
  pub record OnlyTried (old new : F) : Type 0 where
    pub disk : Moved f old new MovesNone
    pub faults : f.faults old ≤ f.faults new

  -- only reads were made, none of which failed
  pub record OnlyRead (old new : F) : Type 0 where
    pub disk : Moved f old new MovesNone
    pub still : f.faults new ≡ f.faults old

  -- why a node of the file isn't got: a fault is counted only where the disk failed
  abbrev pub GetsNone : FileName → F → F → GateFault → Type 0
  GetsNone own old new DiskFault = Rose (f.faults old) (f.faults new)
  GetsNone own old new (Full name length) = ⊥
  GetsNone own old new (Damaged name at) = (name ≡ own) × Told f new (λ d. node_at (d.now name).seen at ≡ None) × (f.faults new ≡ f.faults old)
  GetsNone own old new NoMemory = f.faults new ≡ f.faults old
