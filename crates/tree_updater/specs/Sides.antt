-- What an update is lent and leaves.
use Rattle.std.specs.Prelude.{◌≡◌, ℕ}
use Rattle.child_pool.specs.declared.pool.Pool.{Pool}
use Rattle.node_file.specs.declared.cache.NodeCache.{NodeCache}
use Rattle.tree_index.specs.declared.index.Index.{Index}
use Rattle.tree_index.specs.Index.{file_of, IsSame, IsSettled}
use Rattle.change_mapper.specs.Mapped.{outer, Outer}

-- the folder, the query servers with their pool, the index, the nodes that are kept of its file, and how many steps were taken
pub record Side (F C : Type 0) : Type 0 where
  pub folder : F
  pub servers : C
  pub pool : Pool
  pub index : Index
  pub cache : NodeCache
  pub steps : ℕ

abbrev pub side : {F C : Type 0} → F → C → Pool → Index → NodeCache → ℕ → Side F C
side folder servers pool index cache steps = record { folder = folder; servers = servers; pool = pool; index = index; cache = cache; steps = steps }

-- what mapping documents has of it
abbrev pub outer_of : {F C : Type 0} → Side F C → Outer F C
outer_of this = outer this.folder this.servers this.pool

-- the same behind that, with this index
abbrev pub behind : {F C : Type 0} → Outer F C → Index → Side F C → Side F C
behind mapped index this = side mapped.folder mapped.servers mapped.pool index this.cache this.steps

-- what was exchanged since the last commit is taken back
pub record IsRolledBack (index now : Index) : Type 0 where
  pub same : IsSame index now
  pub file : file_of now ≡ file_of index
  pub settled : IsSettled now
