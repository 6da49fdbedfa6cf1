-- Faults of the parts of an update as those of the update.
use Rattle.child_pool.specs.declared.pool_fault.PoolFault.{PoolFault}
use Rattle.child_pool.specs.declared.pool_fault.PoolFault.TheVariants as pool
use Rattle.change_mapper.specs.declared.fault.MappingFault.{MappingFault}
use Rattle.change_mapper.specs.declared.fault.MappingFault.TheVariants as mapping
use Rattle.tree_index.specs.declared.fault.IndexFault.{IndexFault}
use Rattle.tree_index.specs.declared.fault.IndexFault.TheVariants as index
use Rattle.tree_updater.specs.declared.fault.UpdateFault.{UpdateFault}
use Rattle.tree_updater.specs.declared.fault.UpdateFault.TheVariants.{Pool, Index, Docs, NoMemory}

-- want of memory is named as that, in each part
abbrev pub by_pool : PoolFault → UpdateFault
by_pool pool.NoMemory = NoMemory
by_pool pool.ServerFault = Pool pool.ServerFault
by_pool (pool.BadReply line) = Pool (pool.BadReply line)
by_pool pool.Compile = Pool pool.Compile
by_pool pool.UnknownLanguage = Pool pool.UnknownLanguage

-- mapping the documents that were written
abbrev pub by_mapping : MappingFault → UpdateFault
by_mapping (mapping.Pool fault) = by_pool fault
by_mapping (mapping.Docs fault) = Docs fault
by_mapping mapping.NoMemory = NoMemory

-- writing their rows, for which reduces are asked
abbrev pub by_index : IndexFault → UpdateFault
by_index (index.Store fault) = Index (index.Store fault)
by_index (index.Summer fault) = by_pool fault
by_index index.NoMemory = NoMemory
