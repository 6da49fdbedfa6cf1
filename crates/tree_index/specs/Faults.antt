-- Faults of an index's files and trees as those of the index.
use Rattle.std.specs.Prelude.{◌≡◌, Result, Err}
use Rattle.gate_file.specs.declared.fault.GateFault.{GateFault}
use Rattle.gate_file.specs.declared.fault.GateFault.TheVariants.{DiskFault, Full, Damaged, NoMemory as GateNoMemory}
use Rattle.view_ports.specs.declared.file_name.FileName.{FileName}
use Rattle.view_ports.specs.declared.folder.FolderFault.{FolderFault}
use Rattle.view_ports.specs.declared.folder.FolderFault.TheVariants.{Failed, NoMemory as FolderNoMemory}
use Rattle.tree_laws.specs.declared.tree.TreeFault.{TreeFault}
use Rattle.tree_laws.specs.declared.tree.TreeFault.TheVariants as tree_fault
use Rattle.child_pool.specs.declared.pool_fault.PoolFault.{PoolFault}
use Rattle.child_pool.specs.declared.pool_fault.PoolFault.TheVariants as pool_fault
use Rattle.json_terms.specs.declared.fault.NoMemory.{NoMemory as Want}
use Rattle.tree_index.specs.declared.fault.IndexFault.{IndexFault}
use Rattle.tree_index.specs.declared.fault.IndexFault.TheVariants.{Store, Summer, NoMemory}

-- want of memory is named as that
abbrev pub index_fault : GateFault → IndexFault
index_fault DiskFault = Store DiskFault
index_fault (Full name length) = Store (Full name length)
index_fault (Damaged name at) = Store (Damaged name at)
index_fault GateNoMemory = NoMemory

-- a folder that could not be listed
abbrev pub folder_fault : FolderFault → IndexFault
folder_fault Failed = Store DiskFault
folder_fault FolderNoMemory = NoMemory

-- a reduce
abbrev pub reduce_fault : PoolFault → IndexFault
reduce_fault pool_fault.ServerFault = Summer pool_fault.ServerFault
reduce_fault (pool_fault.BadReply line) = Summer (pool_fault.BadReply line)
reduce_fault pool_fault.Compile = Summer pool_fault.Compile
reduce_fault pool_fault.UnknownLanguage = Summer pool_fault.UnknownLanguage
reduce_fault pool_fault.NoMemory = NoMemory

-- of trees in the file of this name: a bad node is damage at its place
abbrev pub trees_fault : FileName → TreeFault GateFault PoolFault → IndexFault
trees_fault name (tree_fault.Store fault) = index_fault fault
trees_fault name (tree_fault.BadNode at) = Store (Damaged name at)
trees_fault name (tree_fault.Summer fault) = reduce_fault fault
trees_fault name tree_fault.NoMemory = NoMemory

-- the same where no reduce is asked
abbrev pub walk_fault : FileName → TreeFault GateFault Want → IndexFault
walk_fault name (tree_fault.Store fault) = index_fault fault
walk_fault name (tree_fault.BadNode at) = Store (Damaged name at)
walk_fault name (tree_fault.Summer fault) = NoMemory
walk_fault name tree_fault.NoMemory = NoMemory

-- a fact, but for where the disk failed
abbrev pub UnlessDisk : {T : Type 0} → Result T IndexFault → Type 0 → Type 0
UnlessDisk result P = (result ≡ Err (Store DiskFault) → ⊥) → P
