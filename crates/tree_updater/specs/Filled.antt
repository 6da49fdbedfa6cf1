-- When the file of an index is full.
use Rattle.std.specs.Prelude.{◌≡◌, ◌≢◌, ◌⊎◌, ◌+◌, ◌*◌, ◌++◌, ℕ, List, ◌∷◌, length, Option}
use Rattle.view_ports.specs.declared.file_name.FileName.{FileName}
use Rattle.gate_file.specs.declared.fault.GateFault.TheVariants.{Full}
use Rattle.gate_file.specs.Calls.{too_long, used_up}
use Rattle.gate_file.specs.Publish.{IsTooLong, IsUsedUp}
use Rattle.node_file.specs.declared.cache.NodeCache.{NodeCache}
use Rattle.node_file.specs.Cache.{puts_of}
use Rattle.node_file.specs.FileNodes.{record_size}
use Rattle.design_docs.specs.History.{Write}
use Rattle.reduce_tree.specs.Counts.{node_size}
use Rattle.view_model.specs.Picture.{Picture}
use Rattle.index_trees.specs.Exchanges.{AreShort, PutsWithin}
use Rattle.tree_index.specs.declared.index.Index.{Index}
use Rattle.tree_index.specs.Index.{file_of}

-- how long the root record of so many views is
abbrev pub root_size : ℕ → ℕ
root_size views = 38 + 20 * views

module _ (views : ℕ) (index : Index) (cache cache' : NodeCache) (name : FileName) (size : Option ℕ) where
  -- the file would be too long with the node that was put last
  pub record IsFilledByNode : Type 0 where
    pub limit : Full name size ≡ too_long (file_of index)
    pub piece : List ℕ
    pub more : List (List ℕ)
    pub last : puts_of cache' ≡ piece ∷ (more ++ puts_of cache)
    pub long : IsTooLong (file_of index) (record_size piece)

  -- or with the root record; or it has all of its commits
  abbrev pub IsFilled : Type 0
  IsFilled =
      IsFilledByNode
      ⊎ ((Full name size ≡ too_long (file_of index)) × IsTooLong (file_of index) (root_size views))
      ⊎ ((Full name size ≡ used_up (file_of index)) × IsUsedUp (file_of index) (root_size views))

-- each node that was put between is no longer than one of 32 entries is, of which none has a longer item than the rows of these two pictures and
-- the entries of their back-indexes
abbrev pub AreNodesOf : NodeCache → NodeCache → Picture → Picture → Type 0
AreNodesOf cache cache' last next = (longest : ℕ) → AreShort longest last.rows → AreShort longest next.rows → PutsWithin (node_size longest) (puts_of cache) (puts_of cache')

-- something was written since a picture, which makes a next one, and no longer nodes were put than the two may have
pub record WasDue (IsMappedTo : Picture → Type 0) (cache cache' : NodeCache) (history : List Write) (picture : Picture) : Type 0 where
  pub next : Picture
  pub since : picture.seq ≢ length history
  pub mapped : IsMappedTo next
  pub nodes : AreNodesOf cache cache' picture next
