-- An exchange in a file: what it does to the cache, the folder and the file that were lent to it.
use Rattle.std.specs.Prelude.{◌≡◌, ℕ, List, Result}
use Rattle.view_ports.specs.declared.folder.Folder.{Ghosts as Folders}
use Rattle.view_ports.specs.declared.servers.Servers.{Ghosts as Servers}
use Rattle.gate_file.specs.declared.fault.GateFault.{GateFault}
use Rattle.gate_file.specs.declared.gate.GateFile.{GateFile}
use Rattle.gate_file.specs.GateFile.{start_of}
use Rattle.tree_laws.specs.declared.store.NodeSource.{Ghosts as Sources}
use Rattle.tree_laws.specs.declared.tree.TreeFault.{TreeFault}
use Rattle.node_file.specs.declared.cache.NodeCache.{NodeCache}
use Rattle.node_file.specs.declared.file_nodes.FileNodes.{FileNodes}
use Rattle.node_file.specs.Cache.{gets_of, puts_of}
use Rattle.node_file.specs.FileNodes.{nodes_of, FileFails, FileGoes, IsReady}
use Rattle.child_pool.specs.declared.pool_fault.PoolFault.{PoolFault}
use Rattle.child_pool.specs.declared.summers.Summers.{Summers}
use Rattle.row_exchange.specs.declared.doc_rows.DocRows.{DocRows}
use Rattle.index_trees.specs.declared.trees.IndexTrees.{IndexTrees}
use Rattle.index_trees.specs.Exchanges.{Exchanges}

-- a file as a store of nodes, as `FileNodes` is one
abbrev pub in_file : {F : Type 0} → Folders F → Sources (FileNodes F) GateFault
in_file f = record {
  nodes = nodes_of f;
  is_ready = IsReady f;
  size = λ nodes. start_of nodes.file.now;
  puts = λ nodes. puts_of nodes.cache.now;
  gets = λ nodes. gets_of nodes.cache.now;
  reads = λ nodes. f.reads nodes.folder.now;
  goes = FileGoes f;
  fails = FileFails f;
}

-- what a store of nodes was lent
pub record Lends {F : Type 0} (nodes : FileNodes F) (cache : NodeCache) (folder : F) (file : GateFile) : Type 0 where
  pub cache_is : nodes.cache.now ≡ cache
  pub folder_is : nodes.folder.now ≡ folder
  pub file_is : nodes.file.now ≡ file

module _ {F C : Type 0} (f : Folders F) (s : Servers C) (trees : IndexTrees) (changes : List DocRows) (cache cache' : NodeCache) (folder folder' : F) (file file' : GateFile) (summers summers' : Summers C) (before now : ℕ) where
  -- the exchange of a store that was lent these, and left them so
  pub record ExchangesIn (result : Result IndexTrees (TreeFault GateFault PoolFault)) : Type 0 where
    pub old : FileNodes F
    pub new : FileNodes F
    pub lent : Lends old cache folder file
    pub left : Lends new cache' folder' file'
    pub exchanges : Exchanges (in_file f) s trees changes old new summers summers' before now result
