-- What exchanging the rows of documents promises.
use Rattle.std.specs.Prelude.{◌≡◌, ◌≢◌, ◌⊎◌, ◌<◌, ◌≤◌, ◌+◌, ◌*◌, ◌++◌, ℕ, List, [], ◌∷◌, length, true, bytes_eq, None, Option, IfErr, Result, Ok, Err, OnErr, OnOk}
use Rattle.std.specs.List.{list_all, IsDistinct}
use Rattle.view_ports.specs.Disk.{Disk, IfTold, Moves, Tells}
use Rattle.view_ports.specs.Functions.{Functions}
use Rattle.view_ports.specs.declared.file_name.FileName.{FileName}
use Rattle.view_ports.specs.declared.folder.Folder.{Ghosts as Folders}
use Rattle.view_ports.specs.declared.servers.Servers.{Ghosts as Servers}
use Rattle.gate_file.specs.declared.fault.GateFault.TheVariants.{Full, NoMemory as GateNoMemory}
use Rattle.gate_file.specs.Calls.{too_long}
use Rattle.gate_file.specs.GateFile.{name_of, start_of}
use Rattle.gate_file.specs.Pair.{own_bytes}
use Rattle.gate_file.specs.Publish.{IsTooLong}
use Rattle.gate_file.specs.Shown.{HasAll}
use Rattle.design_docs.specs.declared.design.View.{View}
use Rattle.node_file.specs.declared.cache.NodeCache.{NodeCache}
use Rattle.node_file.specs.Cache.{gets_of, puts_of}
use Rattle.node_file.specs.FileNodes.{record_size, IsLonger}
use Rattle.node_file.specs.Records.{node_at}
use Rattle.reduce_tree.specs.Counts.{node_size, ReadsFor}
use Rattle.view_model.specs.Picture.{Picture}
use Rattle.child_pool.specs.declared.pool_fault.PoolFault.TheVariants as pool_fault
use Rattle.child_pool.specs.declared.summers.Summers.{Summers}
use Rattle.row_exchange.specs.declared.doc_rows.DocRows.{DocRows}
use Rattle.row_exchange.specs.Replaced.{ids_of, is_change, new_rows, replaced_views}
use Rattle.index_trees.specs.Edits.{edit_count, insert_count, old_places, view_edits}
use Rattle.index_trees.specs.Exchanges.{AreShort, AreWithin, Complains, GivesUp, GotNodesIn, IsFaultyIn, IsUsable, PutsWithin, Talks}
use Rattle.index_trees.specs.Trees.{AreLow}
use Rattle.index_trees.specs.ViewValues.{SumsBy}
use Rattle.tree_index.specs.declared.fault.IndexFault.{IndexFault}
use Rattle.tree_index.specs.declared.fault.IndexFault.TheVariants.{NoMemory, Store, Summer}
use Rattle.tree_index.specs.declared.index.Index.{Index}
use Rattle.tree_index.specs.Calls.{IsAt, IsCounted, IsOpen}
use Rattle.tree_index.specs.Faults.{UnlessDisk}
use Rattle.tree_index.specs.Held.{IsFileOf, Stands}
use Rattle.tree_index.specs.Index.{file_of, next_in, next_of, stem_of, views_of, GoesOn, IsSame}
use Rattle.tree_index.specs.Opens.{FindsDamage}

module _ {C : Type 0} (s : Servers C) where
  -- what became of the summers: a reduce gave up where its fault is answered, which may be want of memory, and else each value was had
  abbrev pub SummersWent : {T : Type 0} → Summers C → Summers C → Result T IndexFault → Type 0
  SummersWent old new (Ok value) = Talks s old new
  SummersWent old new (Err (Store fault)) = Talks s old new
  SummersWent old new (Err (Summer fault)) = GivesUp s old new fault
  SummersWent old new (Err NoMemory) = Talks s old new ⊎ GivesUp s old new pool_fault.NoMemory

  -- values are right by the functions of the query server where they are known; no document is named twice, and each has a list for each view
  pub record MayReplace (changes : List DocRows) (index : Index) (summers : Summers C) (functions : Option Functions) : Type 0 where
    pub by : SumsBy s summers functions
    pub apart : IsDistinct bytes_eq (ids_of changes)
    pub whole : list_all (is_change (views_of index)) changes ≡ true

module _ {F C : Type 0} (f : Folders F) (s : Servers C) (changes : List DocRows) (index index' : Index) (old new : F) (summers summers' : Summers C) where
  abbrev views : List View
  views = summers.design.now.views

  -- the index is at this picture, and its rows may be exchanged
  abbrev pub IsOver : Option Functions → Option Picture → Disk FileName → Type 0
  IsOver functions picture d = MayReplace s changes index summers functions × IsAt functions views index d.now picture

  -- The rows are exchanged. The picture stays, in the object and in each image that a crash may leave.
  pub record Replaces (result : Result (Unit {0}) IndexFault) : Type 0 where
    pub same : IsSame index index'
    -- no commit is made, and what stood in the file behind the slots stands there
    pub file : IsLonger (file_of index) (file_of index')
    pub stays : Tells (f.disk old) (f.disk new) (λ a b. UnlessDisk result (HasAll (own_bytes (file_of index) a.now) (own_bytes (file_of index) b.now)))
    pub replaced : OnOk result (next_in index' ≡ replaced_views changes (next_in index))
    -- a refusal leaves the next rows too
    pub refused : OnErr result (GoesOn index index')
    pub stands : (functions : Option Functions) (picture : Option Picture) → IfTold (f.disk old) (IsOver functions picture) → Tells (f.disk old) (f.disk new)
        (Moves (IsFileOf (stem_of index)) (λ image. Stands functions views (stem_of index) image picture)
        (λ files. UnlessDisk result (IsAt functions views index' files picture)))
    -- whatever the rows are, files of other names are as they were, and the object is of its files
    pub others : Tells (f.disk old) (f.disk new) (Moves (IsFileOf (stem_of index)) (λ image. Unit {0}) (λ files. UnlessDisk result (IsOpen index' files)))

  -- Why it is refused, and what the query servers are asked. What was got and put the cache notes.
  module _ (cache cache' : NodeCache) where
    -- no node that fits the trees stands at the place, which is the last that was got where none stands there at all
    pub record IsBadNode (d : Disk FileName) (name : FileName) (at : ℕ) : Type 0 where
      pub own : name ≡ name_of (file_of index')
      pub bad : ((node_at (d.now name).seen at ≡ None) × ((more : List ℕ) × (gets_of cache' ≡ at ∷ (more ++ gets_of cache))))
          ⊎ IsFaultyIn (node_at (d.now name).seen) views (next_of index) at

    -- the file would be too long with the piece that was put last
    pub record IsFilled (name : FileName) (size : Option ℕ) : Type 0 where
      pub limit : Full name size ≡ too_long (file_of index')
      pub piece : List ℕ
      pub more : List (List ℕ)
      pub last : puts_of cache' ≡ piece ∷ (more ++ puts_of cache)
      pub long : IsTooLong (file_of index') (record_size piece)

    -- at each place that was got stands a node that fits, of the rows of a view or of the back-index
    abbrev pub GotInFile : Disk FileName → Type 0
    GotInFile d = GotNodesIn views (node_at (own_bytes (file_of index') d.now)) (gets_of cache) (gets_of cache')

    pub record HasItsCause (result : Result (Unit {0}) IndexFault) : Type 0 where
      -- no damage is found over an index that is at a picture, and what is found is there
      pub sound : (functions : Option Functions) (picture : Option Picture) → IfTold (f.disk old) (λ d. IsOver functions picture d → FindsDamage (λ name at. ⊥) result)
      pub damaged : IfTold (f.disk new) (λ d. FindsDamage (IsBadNode d) result)
      -- and no bad node is passed over, whatever the files hold
      pub got : IfTold (f.disk new) (λ d. OnOk result (GotInFile d))
      pub full : (name : FileName) (size : Option ℕ) → result ≡ Err (Store (Full name size)) → IsFilled name size
      -- want of memory is named as that
      pub faults : IfErr result (λ fault. (fault ≢ Store GateNoMemory) × (fault ≢ Summer pool_fault.NoMemory))
      pub cause : IsCounted f old new result
      pub talk : SummersWent s summers summers' result
      -- the source of each view that gets a row compiles, and a complaint is of one whose rows change
      pub usable : (view : ℕ) → view < views_of index → new_rows changes view ≢ [] → OnOk result (IsUsable s summers view)
      pub complains : result ≡ Err (Summer pool_fault.Compile) → (view : ℕ) × (view < views_of index) × Complains s summers summers' view
          × ((functions : Option Functions) (picture : Option Picture) → IfTold (f.disk old) (λ d. IsOver functions picture d → view_edits view changes (old_places changes (next_in index)) ≢ []))

  -- how many steps are taken, nodes are put and bytes come, for each row and entry of the back-index that is removed, added or replaced,
  -- and for each document, where so many levels are enough
  abbrev pub StepsWithin : ℕ → ℕ → ℕ → Type 0
  StepsWithin h before now = now ≤ before + (edit_count changes (next_in index) * (8 * (h + 1)) + length changes * (2 * h))

  abbrev pub PutsUpTo : ℕ → NodeCache → NodeCache → Type 0
  PutsUpTo h cache cache' = length (puts_of cache') ≤ length (puts_of cache) + edit_count changes (next_in index) * (4 * (h + 1))

  abbrev pub BytesWithin : ℕ → ℕ → Type 0
  BytesWithin longest h = start_of (file_of index') ≤ start_of (file_of index) + (edit_count changes (next_in index) * (4 * (h + 1))) * node_size longest

  -- of so many bytes at most is each row and entry of the back-index, before and after
  abbrev pub AreShortBoth : ℕ → Type 0
  AreShortBoth longest = AreShort longest (next_in index) × AreShort longest (replaced_views changes (next_in index))

  -- How much is done: where so many levels are enough for the trees before and after, or, whatever is answered, for all items together. A
  -- step makes two reads at most.
  pub record TakesSteps (cache cache' : NodeCache) (before now : ℕ) (result : Result (Unit {0}) IndexFault) : Type 0 where
    pub reads : ReadsFor (f.reads old) (f.reads new) before now
    pub steps : (functions : Option Functions) (picture : Option Picture) (h : ℕ) → AreLow h (next_of index) → AreLow h (next_of index')
        → IfTold (f.disk old) (λ d. IsOver functions picture d → OnOk result (StepsWithin h before now × PutsUpTo h cache cache'))
    pub most_steps : (functions : Option Functions) (picture : Option Picture) (h : ℕ) → AreWithin h (insert_count changes (views_of index)) (next_of index)
        → IfTold (f.disk old) (λ d. IsOver functions picture d → StepsWithin h before now × PutsUpTo h cache cache')
    -- each node that is put has 32 entries of the longest item at most, and the file grows by no more
    pub pieces : (functions : Option Functions) (picture : Option Picture) (longest : ℕ) → AreShortBoth longest
        → IfTold (f.disk old) (λ d. IsOver functions picture d → PutsWithin (node_size longest) (puts_of cache) (puts_of cache'))
    pub bytes : (functions : Option Functions) (picture : Option Picture) (longest h : ℕ) → AreShortBoth longest
        → AreLow h (next_of index) → AreLow h (next_of index') → IfTold (f.disk old) (λ d. IsOver functions picture d → OnOk result (BytesWithin longest h))
    pub most_bytes : (functions : Option Functions) (picture : Option Picture) (longest h : ℕ) → AreShortBoth longest
        → AreWithin h (insert_count changes (views_of index)) (next_of index) → IfTold (f.disk old) (λ d. IsOver functions picture d → BytesWithin longest h)
