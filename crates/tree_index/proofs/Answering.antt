-- What an exchange in the file of an index says of its folder and its file, and what the index answers.
use Rattle.std.proofs.Common.{◌≡◌, ◌⊎◌, inl, inr, Option, Some, None, Result, Ok, Err, ap, ◌∙◌, refl, subst}
use Rattle.view_ports.specs.Disk.{IfTold, Tells}
use Rattle.view_ports.specs.declared.file_name.FileName.{FileName}
use Rattle.view_ports.specs.declared.folder.Folder.{Ghosts as Folders}
use Rattle.gate_file.specs.declared.fault.GateFault.{GateFault}
use Rattle.gate_file.specs.declared.fault.GateFault.TheVariants.{DiskFault, Damaged, Full, NoMemory as GateNoMemory}
use Rattle.gate_file.specs.declared.gate.GateFile.{GateFile}
use Rattle.tree_laws.specs.declared.tree.TreeFault.{TreeFault}
use Rattle.tree_laws.specs.declared.tree.TreeFault.TheVariants as tree_fault
use Rattle.node_file.specs.declared.file_nodes.FileNodes.{FileNodes}
use Rattle.node_file.specs.FileNodes.{Adds, AddsNoMore, AddsSome}
use Rattle.child_pool.specs.declared.pool_fault.PoolFault.{PoolFault}
use Rattle.index_trees.specs.declared.trees.IndexTrees.{IndexTrees}
use Rattle.index_trees.specs.Exchanges.{StoreWent}
use Rattle.tree_index.specs.declared.fault.IndexFault.{IndexFault}
use Rattle.tree_index.specs.Faults.{trees_fault}
use Rattle.tree_index.specs.InFile.{in_file}

-- what is answered for what the trees answered
abbrev pub answered : FileName → Result IndexTrees (TreeFault GateFault PoolFault) → Result (Unit {0}) IndexFault
answered name (Ok after) = Ok tt
answered name (Err fault) = Err (trees_fault name fault)

pub answered_err : (own name : FileName) (fault : TreeFault GateFault PoolFault) (answer : IndexFault) → answer ≡ trees_fault name fault → name ≡ own → Err answer ≡ answered own (Err fault)
answered_err own name fault answer is named = ap Err (is ∙ ap (λ n. trees_fault n fault) named)

-- ---- what a folder tells, by what it is

module _ {D : Type 0} where
  pub told_as : (now : Option D) (P : D → Type 0) → ((d : D) → now ≡ Some d → P d) → IfTold now P
  told_as None P then = tt
  told_as (Some d) P then = then d refl

  pub tells_as : (old new : Option D) (P : D → Type 0) (R S : D → D → Type 0) → ((a b : D) → old ≡ Some a → new ≡ Some b → P a → R a b → S a b) → IfTold old P → Tells old new R → Tells old new S
  tells_as None None P R S then known told = tt
  tells_as None (Some b) P R S then known told = absurd told
  tells_as (Some a) None P R S then known told = absurd told
  tells_as (Some a) (Some b) P R S then known told = then a b refl refl known told

-- ---- what was done to the file

module _ {F : Type 0} (f : Folders F) where
  -- records were added, and after a fault of the store as that says
  abbrev pub FileWent : {X : Type 0} → GateFile → GateFile → F → F → Result X (TreeFault GateFault PoolFault) → Type 0
  FileWent gate gate' old new (Ok value) = Adds f gate gate' old new
  FileWent gate gate' old new (Err (tree_fault.Store fault)) = AddsSome f gate gate' old new × AddsNoMore f gate gate' old new fault
  FileWent gate gate' old new (Err (tree_fault.BadNode at)) = Adds f gate gate' old new
  FileWent gate gate' old new (Err (tree_fault.Summer fault)) = Adds f gate gate' old new
  FileWent gate gate' old new (Err tree_fault.NoMemory) = Adds f gate gate' old new

  store_went : {X : Type 0} (a b : FileNodes F) (found : Result X (TreeFault GateFault PoolFault)) → StoreWent (in_file f) a b found → FileWent a.file.now b.file.now a.folder.now b.folder.now found
  store_went a b (Ok value) goes = goes.adds
  store_went a b (Err (tree_fault.Store fault)) fails = (fails.adds, fails.cause)
  store_went a b (Err (tree_fault.BadNode at)) goes = goes.adds
  store_went a b (Err (tree_fault.Summer fault)) goes = goes.adds
  store_went a b (Err tree_fault.NoMemory) goes = goes.adds

  pub file_went : {X : Type 0} (a b : FileNodes F) (gate gate' : GateFile) (found : Result X (TreeFault GateFault PoolFault)) → a.file.now ≡ gate → b.file.now ≡ gate' → StoreWent (in_file f) a b found
      → FileWent gate gate' a.folder.now b.folder.now found
  file_went a b gate gate' found before after went =
      subst (λ (g : GateFile). FileWent gate g a.folder.now b.folder.now found) after
      (subst (λ (g : GateFile). FileWent g b.file.now a.folder.now b.folder.now found) before (store_went a b found went))

  -- the disk failed, or all was added
  pub disk_or : {X : Type 0} (gate gate' : GateFile) (old new : F) (found : Result X (TreeFault GateFault PoolFault)) → FileWent gate gate' old new found
      → Adds f gate gate' old new ⊎ ((found ≡ Err (tree_fault.Store DiskFault)) × AddsSome f gate gate' old new)
  disk_or gate gate' old new (Ok value) adds = inl adds
  disk_or gate gate' old new (Err (tree_fault.Store DiskFault)) went = inr (refl, went.0)
  disk_or gate gate' old new (Err (tree_fault.Store (Full name length))) went = inl (went.1).0
  disk_or gate gate' old new (Err (tree_fault.Store (Damaged name at))) went = inl (went.1).0
  disk_or gate gate' old new (Err (tree_fault.Store GateNoMemory)) went = inl went.1
  disk_or gate gate' old new (Err (tree_fault.BadNode at)) adds = inl adds
  disk_or gate gate' old new (Err (tree_fault.Summer fault)) adds = inl adds
  disk_or gate gate' old new (Err tree_fault.NoMemory) adds = inl adds
