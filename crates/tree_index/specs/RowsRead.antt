-- What reading the rows of an index promises.
use Rattle.std.specs.Prelude.{◌≡◌, ◌⊎◌, ◌≤◌, ◌+◌, ◌*◌, ℕ, List, [], slice_index_or, length, None, Option, Result, IfErr, IfOk, IsSorted, OnOk}
use Rattle.std.specs.List.{AllByRecursion}
use Rattle.json_terms.specs.Seen.{json}
use Rattle.json_terms.specs.declared.term.Row.{Row}
use Rattle.view_ports.specs.Disk.{Disk, IfTold, MovesNone, Tells}
use Rattle.view_ports.specs.Functions.{Functions}
use Rattle.view_ports.specs.declared.file_name.FileName.{FileName}
use Rattle.view_ports.specs.declared.folder.Folder.{Ghosts as Folders}
use Rattle.gate_file.specs.declared.fault.GateFault.TheVariants.{Damaged, DiskFault}
use Rattle.gate_file.specs.GateFile.{name_of}
use Rattle.gate_file.specs.Pair.{own_bytes}
use Rattle.raw_collation.specs.Collation.{rows_cmp}
use Rattle.design_docs.specs.declared.design.View.{View}
use Rattle.tree_laws.specs.declared.tree.Tree.{Tree}
use Rattle.tree_laws.specs.Reaching.{HasNode, IsReached, IsUnfit}
use Rattle.tree_laws.specs.Stores.{EachSince}
use Rattle.node_file.specs.declared.cache.NodeCache.{NodeCache}
use Rattle.node_file.specs.Cache.{gets_of}
use Rattle.node_file.specs.Records.{node_at}
use Rattle.reduce_tree.specs.Counts.{ReadsFor}
use Rattle.view_model.specs.Picture.{Picture}
use Rattle.child_pool.specs.Mapping.{IsPart}
use Rattle.index_trees.specs.Laws.{no_tree}
use Rattle.index_trees.specs.Trees.{row_items}
use Rattle.tree_index.specs.declared.fault.IndexFault.{IndexFault}
use Rattle.tree_index.specs.declared.fault.IndexFault.TheVariants.{NoMemory, Store}
use Rattle.tree_index.specs.declared.index.Index.{Index}
use Rattle.tree_index.specs.Calls.{IsAt, IsCounted}
use Rattle.tree_index.specs.Index.{file_of, last_of, picture_of}
use Rattle.tree_index.specs.Opens.{FindsDamage}

-- the key and the value of the row are such as a reply of a query server may hold
abbrev pub HasParts : Row → Type 0
HasParts row = IsPart (json row.key) × IsPart (json row.value)

-- the disk failed, memory ran out, or the index's own file is damaged
abbrev pub IsReadFault : Index → IndexFault → Type 0
IsReadFault index fault = (fault ≡ Store DiskFault) ⊎ (fault ≡ NoMemory) ⊎ ((at : ℕ) × (fault ≡ Store (Damaged (name_of (file_of index)) at)))

-- the tree of a view as of the last commit
abbrev pub tree_of : Index → ℕ → Tree
tree_of index view = slice_index_or (last_of index).views.items view no_tree

-- at the place in the index's own file a node is to stand, and none does that fits the tree
pub record IsBadPlace (index : Index) (tree : Tree) (d : Disk FileName) (name : FileName) (at : ℕ) : Type 0 where
  pub own : name ≡ name_of (file_of index)
  pub bad : ((node_at (d.now name).seen at ≡ None) × IsReached row_items (node_at (d.now name).seen) tree at) ⊎ IsUnfit row_items (node_at (d.now name).seen) tree at

-- at each place that was got since stands a node of the tree that fits there
abbrev pub GotNodes : Index → Tree → NodeCache → NodeCache → Disk FileName → Type 0
GotNodes index tree cache cache' d = EachSince (HasNode row_items (node_at (own_bytes (file_of index) d.now)) tree) (gets_of cache) (gets_of cache')

module _ {F : Type 0} (f : Folders F) (index : Index) (view : ℕ) (old new : F) (cache cache' : NodeCache) (before now : ℕ) where
  -- the rows of a view as of the last commit are read, in order; what was got the cache notes
  pub record ReadsRows (result : Result (List Row) IndexFault) : Type 0 where
    pub sorted : IfOk result (IsSorted rows_cmp)
    pub number : IfOk result (λ rows. length rows ≡ (tree_of index view).count)
    pub got : IfTold (f.disk old) (λ d. OnOk result (GotNodes index (tree_of index view) cache cache' d))
    pub rows : (functions : Option Functions) (views : List View) (picture : Option Picture)
        → IfTold (f.disk old) (λ d. IsAt functions views index d.now picture → IfOk result (λ rows. rows ≡ slice_index_or (picture_of index).rows view []))
    pub parts : IfOk result (AllByRecursion HasParts)
    pub sound : (functions : Option Functions) (views : List View) (picture : Option Picture)
        → IfTold (f.disk old) (λ d. IsAt functions views index d.now picture → FindsDamage (λ name at. ⊥) result)
    pub damaged : IfTold (f.disk new) (λ d. FindsDamage (IsBadPlace index (tree_of index view) d) result)
    pub faults : IfErr result (IsReadFault index)
    pub disk : Tells (f.disk old) (f.disk new) MovesNone
    pub cause : IsCounted f old new result
    pub reads : ReadsFor (f.reads old) (f.reads new) before now
    pub steps : now ≤ before + ((tree_of index view).count + 1) * (tree_of index view).height
