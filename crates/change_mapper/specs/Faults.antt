-- Faults of the parts as those of mapping what was written.
use Rattle.child_pool.specs.declared.pool_fault.PoolFault.{PoolFault}
use Rattle.child_pool.specs.declared.pool_fault.PoolFault.TheVariants as pool
use Rattle.doc_file.specs.declared.fault.DocFault.{DocFault}
use Rattle.doc_file.specs.declared.fault.DocFault.TheVariants as doc
use Rattle.gate_file.specs.declared.fault.GateFault.TheVariants.{DiskFault, Damaged}
use Rattle.change_mapper.specs.declared.fault.MappingFault.{MappingFault}
use Rattle.change_mapper.specs.declared.fault.MappingFault.TheVariants.{Pool, Docs, NoMemory}

-- want of memory is named as that, in each part
abbrev pub by_pool : PoolFault → MappingFault
by_pool pool.NoMemory = NoMemory
by_pool pool.ServerFault = Pool pool.ServerFault
by_pool (pool.BadReply line) = Pool (pool.BadReply line)
by_pool pool.Compile = Pool pool.Compile
by_pool pool.UnknownLanguage = Pool pool.UnknownLanguage

-- reading documents meets a fault of their file, or want of memory
abbrev pub by_documents : DocFault → MappingFault
by_documents (doc.Gate fault) = Docs fault
by_documents other = NoMemory

-- a fault of the documents comes of a read: the disk failed, or their file is damaged
abbrev pub IsReadFault : MappingFault → Type 0
IsReadFault (Docs DiskFault) = Unit {0}
IsReadFault (Docs (Damaged name at)) = Unit {0}
IsReadFault (Docs other) = ⊥
IsReadFault other = Unit {0}
