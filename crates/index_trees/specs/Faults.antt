-- Faults of calls without a query server as those of one with it, and answers with lists. For private clauses.
use Rattle.std.specs.Prelude.{List, Result, Ok, Err, Vec}
use Rattle.std.specs.declared.alloc.Global.{Global}
use Rattle.json_terms.specs.declared.fault.NoMemory.{NoMemory as Want}
use Rattle.tree_laws.specs.declared.tree.Tree.{Tree}
use Rattle.tree_laws.specs.declared.tree.TreeFault.{TreeFault}
use Rattle.tree_laws.specs.declared.tree.TreeFault.TheVariants as tree_fault
use Rattle.child_pool.specs.declared.pool_fault.PoolFault.{PoolFault}

-- want of memory in a summer is want of memory
abbrev pub by_pool : {F : Type 0} → TreeFault F Want → TreeFault F PoolFault
by_pool (tree_fault.Store fault) = tree_fault.Store fault
by_pool (tree_fault.BadNode at) = tree_fault.BadNode at
by_pool (tree_fault.Summer fault) = tree_fault.NoMemory
by_pool tree_fault.NoMemory = tree_fault.NoMemory

abbrev pub listed : {E : Type 0} → Result (Vec Tree Global) E → Result (List Tree) E
listed (Ok trees) = Ok trees.items
listed (Err fault) = Err fault
