-- What was lent to the store is as the exchange left it.
use Rattle.std.specs.Prelude.{Result, Ok, Err}
use Rattle.std.proofs.Common.{rules}
use Rattle.view_ports.specs.declared.folder.Folder.{Ghosts as Folders}
use Rattle.gate_file.specs.declared.fault.GateFault.{GateFault}
use Rattle.tree_laws.specs.declared.tree.TreeFault.{TreeFault}
use Rattle.tree_laws.specs.declared.tree.TreeFault.TheVariants as tree_fault
use Rattle.node_file.specs.declared.file_nodes.FileNodes.{FileNodes}
use Rattle.node_file.specs.FileNodes.{HasSame}
use Rattle.child_pool.specs.declared.pool_fault.PoolFault.{PoolFault}
use Rattle.index_trees.specs.Exchanges.{StoreWent}
use Rattle.tree_index.specs.InFile.{in_file}
use Rattle.tree_index.proofs.index.replace.exchange_in.Goals as goal

-- the references are those that were lent, whatever was answered
same_lent : {F X : Type 0} (f : Folders F) (old new : FileNodes F) (result : Result X (TreeFault GateFault PoolFault)) → StoreWent (in_file f) old new result → HasSame old new
same_lent f old new (Ok value) goes = goes.lent
same_lent f old new (Err (tree_fault.Store fault)) fails = fails.lent
same_lent f old new (Err (tree_fault.BadNode at)) goes = goes.lent
same_lent f old new (Err (tree_fault.Summer fault)) goes = goes.lent
same_lent f old new (Err tree_fault.NoMemory) goes = goes.lent

pub returns : goal.returns
returns g c =
    let over = c.over-nodes.ensures in
    let same = same_lent g.F.Folder c.over-nodes.result c.exchange.new.store c.exchange.result c.exchange.ensures.store in
    record {
      old = c.over-nodes.result;
      new = c.exchange.new.store;
      lent = record { cache_is = over.same_cache; folder_is = over.same_folder; file_is = over.same_file };
      left = record { cache_is = search rules; folder_is = search rules; file_is = search rules };
      exchanges = c.exchange.ensures;
    }
