-- The clauses of a replacement, of the folder and the file that were lent to it.
use Rattle.std.proofs.Common.{◌≡◌, ℕ, List, Result, sym, subst}
use Rattle.view_ports.specs.Disk.{IfTold}
use Rattle.view_ports.specs.declared.folder.Folder.{Ghosts as Folders}
use Rattle.view_ports.specs.declared.servers.Servers.{Ghosts as Servers}
use Rattle.gate_file.specs.declared.fault.GateFault.{GateFault}
use Rattle.gate_file.specs.GateFile.{name_of}
use Rattle.tree_laws.specs.declared.tree.TreeFault.{TreeFault}
use Rattle.node_file.specs.declared.cache.NodeCache.{NodeCache}
use Rattle.child_pool.specs.declared.pool_fault.PoolFault.{PoolFault}
use Rattle.child_pool.specs.declared.summers.Summers.{Summers}
use Rattle.row_exchange.specs.declared.doc_rows.DocRows.{DocRows}
use Rattle.index_trees.specs.declared.trees.IndexTrees.{IndexTrees}
use Rattle.tree_index.specs.declared.fault.IndexFault.{IndexFault}
use Rattle.tree_index.specs.declared.index.Index.{Index}
use Rattle.tree_index.specs.Calls.{IsOpen}
use Rattle.tree_index.specs.InFile.{ExchangesIn}
use Rattle.tree_index.specs.Index.{file_of, next_of}
use Rattle.tree_index.specs.Replaces.{HasItsCause, Replaces, TakesSteps}
use Rattle.tree_index.proofs.Answering.{answered}
use Rattle.tree_index.proofs.Causes.{causes}
use Rattle.tree_index.proofs.Costs.{costs}
use Rattle.tree_index.proofs.Replacing.{replaces, IsReplaced}

module _ {F C : Type 0} {f : Folders F} {s : Servers C} {changes : List DocRows} (index index' : Index) {cache cache' : NodeCache} {folder folder' : F} {summers summers' : Summers C} {before now : ℕ}
    {found : Result IndexTrees (TreeFault GateFault PoolFault)} (x : ExchangesIn f s (next_of index) changes cache cache' folder folder' (file_of index) (file_of index') summers summers' before now found)
    (is : IsReplaced changes index index' found) (result : Result (Unit {0}) IndexFault) (answer : result ≡ answered (name_of (file_of index)) found) where
  -- what is so of the cache and the folder that the store has, and of what is answered for the trees
  at_lent : (P : NodeCache → NodeCache → F → F → Result (Unit {0}) IndexFault → Type 0)
      → P x.old.cache.now x.new.cache.now x.old.folder.now x.new.folder.now (answered (name_of (file_of index)) found) → P cache cache' folder folder' result
  at_lent P so =
      subst (λ c. P c cache' folder folder' result) (x.lent).cache_is
      (subst (λ c. P x.old.cache.now c folder folder' result) (x.left).cache_is
      (subst (λ old. P x.old.cache.now x.new.cache.now old folder' result) (x.lent).folder_is
      (subst (λ new. P x.old.cache.now x.new.cache.now x.old.folder.now new result) (x.left).folder_is
      (subst (P x.old.cache.now x.new.cache.now x.old.folder.now x.new.folder.now) (sym answer) so))))

  pub replaces_in : IfTold (f.disk folder) (λ d. IsOpen index d.now) → Replaces f s changes index index' folder folder' summers summers' result
  replaces_in is_open =
      at_lent (λ c c' old new. Replaces f s changes index index' old new summers summers')
      (replaces f s changes index index' x.old x.new summers summers' before now found x.exchanges (x.lent).file_is (x.left).file_is is
      (subst (λ (old : F). IfTold (f.disk old) (λ d. IsOpen index d.now)) (sym (x.lent).folder_is) is_open))

  pub causes_in : HasItsCause f s changes index index' folder folder' summers summers' cache cache' result
  causes_in =
      at_lent (λ c c' old new. HasItsCause f s changes index index' old new summers summers' c c')
      (causes f s changes index index' x.old x.new summers summers' before now found x.exchanges (x.lent).file_is (x.left).file_is is)

  pub costs_in : TakesSteps f s changes index index' folder folder' summers summers' cache cache' before now result
  costs_in =
      at_lent (λ c c' old new. TakesSteps f s changes index index' old new summers summers' c c' before now)
      (costs f s changes index index' x.old x.new summers summers' before now found x.exchanges (x.lent).file_is (x.left).file_is is)
