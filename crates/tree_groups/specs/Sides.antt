-- What an update of a design's index is lent and leaves.
use Rattle.std.specs.Prelude.{ℕ}
use Rattle.child_pool.specs.declared.pool.Pool.{Pool}
use Rattle.node_file.specs.declared.cache.NodeCache.{NodeCache}
use Rattle.tree_index.specs.declared.index.Index.{Index}
use Rattle.tree_updater.specs.Sides.{side as side_of_index, Side as IndexSide}
use Rattle.tree_groups.specs.declared.groups.Groups.{Groups}

pub record Side (F C : Type 0) : Type 0 where
  pub folder : F
  pub servers : C
  pub pool : Pool
  pub groups : Groups
  pub cache : NodeCache
  pub steps : ℕ

abbrev pub side : {F C : Type 0} → F → C → Pool → Groups → NodeCache → ℕ → Side F C
side folder servers pool groups cache steps = record { folder = folder; servers = servers; pool = pool; groups = groups; cache = cache; steps = steps }

-- the same of one of the indexes
abbrev pub of_index : {F C : Type 0} → Side F C → Index → IndexSide F C
of_index this index = side_of_index this.folder this.servers this.pool index this.cache this.steps
