-- What writing the rows of documents to an index promises: they are exchanged in those of its last commit, by one commit.
use Rattle.std.specs.Prelude.{◌≡◌, ◌≢◌, ◌⊎◌, ◌≤◌, ◌+◌, ◌*◌, ◌++◌, ℕ, List, ◌∷◌, length, true, bytes_eq, Option, Some, None, Result, Ok, Err, IfErr, OnErr, OnOk}
use Rattle.std.specs.List.{list_all, IsDistinct}
use Rattle.view_ports.specs.Disk.{Disk, IfTold, Moves, Tells}
use Rattle.view_ports.specs.File.{File}
use Rattle.view_ports.specs.Functions.{Functions}
use Rattle.view_ports.specs.declared.file_name.FileName.{FileName}
use Rattle.view_ports.specs.declared.folder.Folder.{Ghosts as Folders}
use Rattle.view_ports.specs.declared.servers.Servers.{Ghosts as Servers}
use Rattle.gate_file.specs.declared.fault.GateFault.TheVariants.{Damaged, DiskFault, Full}
use Rattle.gate_file.specs.declared.gate.GateFile.{GateFile}
use Rattle.gate_file.specs.GateFile.{name_of, start_of}
use Rattle.gate_file.specs.Pair.{own_bytes}
use Rattle.gate_file.specs.Shown.{HasAll}
use Rattle.gate_file.specs.Publish.{published, IsFull}
use Rattle.design_docs.specs.declared.design.Design.{Design}
use Rattle.child_pool.specs.declared.pool_fault.PoolFault.{PoolFault}
use Rattle.child_pool.specs.declared.pool_fault.PoolFault.TheVariants as pool_fault
use Rattle.child_pool.specs.ReduceTalk.{reduce_sources}
use Rattle.child_pool.specs.Reductions.{FailsReducing, Reduces}
use Rattle.node_file.specs.Cache.{gets_of, puts_of}
use Rattle.node_file.specs.FileNodes.{IsLonger}
use Rattle.node_file.specs.Records.{node_at}
use Rattle.reduce_tree.specs.Counts.{node_size, ReadsFor}
use Rattle.view_model.specs.Picture.{Picture}
use Rattle.view_model.specs.Rows.{some_reduce_fails}
use Rattle.row_exchange.specs.declared.doc_rows.DocRows.{DocRows}
use Rattle.row_exchange.specs.Replaced.{ids_of, is_change, replaced_views}
use Rattle.index_trees.specs.Edits.{edit_count, insert_count}
use Rattle.index_trees.specs.Exchanges.{AreShort, AreWithin, IsFaultyIn, PutsWithin}
use Rattle.index_trees.specs.Trees.{AreLow}
use Rattle.tree_index.specs.declared.fault.IndexFault.{IndexFault}
use Rattle.tree_index.specs.declared.fault.IndexFault.TheVariants.{NoMemory, Store, Summer}
use Rattle.tree_index.specs.declared.index.Index.{Index}
use Rattle.tree_index.specs.Calls.{IsAt, IsCounted, IsOpen}
use Rattle.tree_index.specs.Faults.{reduce_fault, UnlessDisk}
use Rattle.tree_index.specs.Held.{IsFileOf, Stands}
use Rattle.tree_index.specs.Index.{file_of, last_of, picture_of, stem_of, views_of, IsSame, IsSettled}
use Rattle.tree_index.specs.Opens.{FindsDamage}
use Rattle.tree_updater.specs.Filled.{root_size, IsFilled}
use Rattle.tree_updater.specs.Paths.{AreFunctionsBy, OnHonest}
use Rattle.tree_updater.specs.Sides.{Side}

-- the disk failed, the index's own file is full, damage was found, a reduce gave up, or memory ran out, which is named as that
abbrev pub IsWriteFault : FileName → IndexFault → Type 0
IsWriteFault own (Store DiskFault) = Unit {0}
IsWriteFault own (Store (Full name size)) = name ≡ own
IsWriteFault own (Store (Damaged name at)) = Unit {0}
IsWriteFault own (Store other) = ⊥
IsWriteFault own (Summer fault) = fault ≢ pool_fault.NoMemory
IsWriteFault own NoMemory = Unit {0}

-- the picture that is made of the last one
abbrev pub made_of : List DocRows → ℕ → Index → Picture
made_of rows seq index = record { seq = seq; rows = replaced_views rows (picture_of index).rows }

module _ {F C : Type 0} (s : Servers C) (design : Design) (rows : List DocRows) (old : Side F C) where
  -- The index is at this picture of the design's views, by the functions of its path where they are known. No document is named twice, and
  -- each has a list for each view.
  pub record IsOver (functions : Option Functions) (picture : Option Picture) (d : Disk FileName) : Type 0 where
    pub by : AreFunctionsBy s old.servers old.pool design functions
    pub at : IsAt functions design.views old.index d.now picture
    pub apart : IsDistinct bytes_eq (ids_of rows)
    pub whole : list_all (is_change (length design.views)) rows ≡ true

-- by these functions a picture has rows of a view whose reduce's source doesn't compile
abbrev pub IsSpoiledBy : Design → Functions → Picture → Type 0
IsSpoiledBy design functions picture = some_reduce_fails functions design.views picture.rows ≡ true

module _ {F C : Type 0} (f : Folders F) (s : Servers C) (design : Design) (rows : List DocRows) (seq : ℕ) (old new : Side F C) where
  abbrev pub next : Picture
  next = made_of rows seq old.index

  abbrev pub Over : Option Functions → Option Picture → Disk FileName → Type 0
  Over = IsOver s design rows old

  -- on an honest path the next picture is spoiled only where the old one is
  abbrev pub IsUsable : Type 0
  IsUsable = OnHonest s old.servers old.pool design (λ functions. IsSpoiledBy design functions next → IsSpoiledBy design functions (picture_of old.index))

  module _ (functions : Option Functions) (picture : Option Picture) where
    abbrev pub StandsFor : (FileName → List ℕ) → Option Picture → Type 0
    StandsFor image of = Stands functions design.views (stem_of old.index) image of

    -- an image stands for the picture, or for the next one, and for this only where it is committed or the disk failed in that
    abbrev pub StandsAround : Result (Unit {0}) IndexFault → (FileName → List ℕ) → Type 0
    StandsAround result image = StandsFor image picture ⊎ (OnErr result (result ≡ Err (Store DiskFault)) × IsUsable × StandsFor image (Some next))

    -- the index is at the next picture, or at the old one after a refusal, unless the disk failed
    abbrev pub EndsAt : Result (Unit {0}) IndexFault → (FileName → File) → Type 0
    EndsAt (Ok done) files = IsAt functions design.views new.index files (Some next)
    EndsAt (Err fault) files = fault ≢ Store DiskFault → IsAt functions design.views new.index files picture

  -- ---- the file of the index

  -- so many levels are enough for the trees with all rows and entries that come, whatever goes
  abbrev pub IsEnough : ℕ → Type 0
  IsEnough h = AreWithin h (insert_count rows (views_of old.index)) (last_of old.index)

  -- each row and entry, before and after, is of so many bytes at most
  abbrev pub AreShortBoth : ℕ → Type 0
  AreShortBoth longest = AreShort longest (picture_of old.index).rows × AreShort longest next.rows

  -- by 4 nodes at most a level and one more, of 32 items each, for each row and entry of the back-index that is removed, added or replaced
  abbrev pub BytesWithin : ℕ → ℕ → GateFile → Type 0
  BytesWithin longest h put = start_of put ≤ start_of (file_of old.index) + (edit_count rows (picture_of old.index).rows * (4 * (h + 1))) * node_size longest

  -- so much longer a file is by what was put into it, whatever is answered
  pub record Grows (put : GateFile) : Type 0 where
    pub longer : IsLonger (file_of old.index) put
    pub bytes : (functions : Option Functions) (picture : Option Picture) (longest h : ℕ) → AreShortBoth longest → IsEnough h
        → IfTold (f.disk old.folder) (λ d. Over functions picture d → BytesWithin longest h put)

  -- and then one commit was made, for which there was room; then so many levels as the trees have are enough
  pub record CommitsOnce : Type 0 where
    pub put : GateFile
    pub grows : Grows put
    pub file : file_of new.index ≡ published put (root_size (length design.views)) 0
    pub room : IsFull put (root_size (length design.views)) → ⊥
    pub low : (functions : Option Functions) (picture : Option Picture) (longest h : ℕ) → AreShortBoth longest → AreLow h (last_of old.index) → AreLow h (last_of new.index)
        → IfTold (f.disk old.folder) (λ d. Over functions picture d → BytesWithin longest h put)

  -- after a refusal none was made, unless the disk failed
  abbrev pub GrowsBy : Result (Unit {0}) IndexFault → Type 0
  GrowsBy (Ok done) = CommitsOnce
  GrowsBy (Err fault) = fault ≢ Store DiskFault → Grows (file_of new.index)

  -- 8 steps at most a level and one more for each row and entry that is removed, added or replaced, and 2 a level for each document
  abbrev pub StepsWithin : ℕ → Type 0
  StepsWithin h = new.steps ≤ old.steps + (edit_count rows (picture_of old.index).rows * (8 * (h + 1)) + length rows * (2 * h))

  -- and 4 nodes a level and one more
  abbrev pub PutsWithinCount : ℕ → Type 0
  PutsWithinCount h = length (puts_of new.cache) ≤ length (puts_of old.cache) + edit_count rows (picture_of old.index).rows * (4 * (h + 1))

  -- ---- the reduces

  -- values by the reduces of the design's views were asked for, and had, or a fault was met
  abbrev pub HasReduced : Result (Unit {0}) PoolFault → Type 0
  HasReduced (Ok done) = Reduces s old.servers new.servers old.pool new.pool design.language (reduce_sources design.views)
  HasReduced (Err fault) = FailsReducing s old.servers new.servers old.pool new.pool design.language (reduce_sources design.views) fault

  -- which is told; and no other one is
  abbrev pub IsMetBy : Result (Unit {0}) PoolFault → Result (Unit {0}) IndexFault → Type 0
  IsMetBy (Ok done) result = (fault : PoolFault) → result ≢ Err (Summer fault)
  IsMetBy (Err fault) result = result ≡ Err (reduce_fault fault)

  pub record AsksReduces (result : Result (Unit {0}) IndexFault) : Type 0 where
    pub reduced : Result (Unit {0}) PoolFault
    pub asked : HasReduced reduced
    pub met : IsMetBy reduced result

  -- ---- what refuses it

  -- no node that fits the trees of the last commit stands at the place, which is the last that was got where none stands there at all
  pub record IsBadNode (d : Disk FileName) (name : FileName) (at : ℕ) : Type 0 where
    pub own : name ≡ name_of (file_of new.index)
    pub bad : ((node_at (d.now name).seen at ≡ None) × ((more : List ℕ) × (gets_of new.cache ≡ at ∷ (more ++ gets_of old.cache))))
        ⊎ IsFaultyIn (node_at (d.now name).seen) design.views (last_of old.index) at

  pub record Writes (result : Result (Unit {0}) IndexFault) : Type 0 where
    -- a crash leaves the picture or the next one, and in the end the index is at this or, refused, at that
    pub stands : (functions : Option Functions) (picture : Option Picture) → IfTold (f.disk old.folder) (Over functions picture)
        → Tells (f.disk old.folder) (f.disk new.folder) (Moves (IsFileOf (stem_of old.index)) (StandsAround functions picture result) (EndsAt functions picture result))
    -- whatever is held, files of other names are as they were, and the object is of its files
    pub others : Tells (f.disk old.folder) (f.disk new.folder) (Moves (IsFileOf (stem_of old.index)) (λ image. Unit {0}) (λ files. UnlessDisk result (IsOpen new.index files)))
    -- what stood in the file behind its slots stands there
    pub stays : Tells (f.disk old.folder) (f.disk new.folder) (λ a b. UnlessDisk result (HasAll (own_bytes (file_of old.index) a.now) (own_bytes (file_of old.index) b.now)))
    pub picture : OnOk result (picture_of new.index ≡ next)
    pub kept : OnErr result (IsSame old.index new.index)
    pub settled : IsSettled new.index
    pub name : name_of (file_of new.index) ≡ name_of (file_of old.index)
    pub number : views_of new.index ≡ views_of old.index
    pub grows : GrowsBy result
    pub asks : AsksReduces result
    pub usable : OnOk result IsUsable
    -- on an honest path a complaint comes only where one of the pictures is spoiled
    pub complains : result ≡ Err (Summer pool_fault.Compile) → (functions : Option Functions) (picture : Option Picture) → IfTold (f.disk old.folder) (λ d. Over functions picture d
        → OnHonest s old.servers old.pool design (λ functions. IsSpoiledBy design functions (picture_of old.index) ⊎ IsSpoiledBy design functions next))
    -- over an index that is at a picture no damage is found, and what is found is there
    pub sound : (functions : Option Functions) (picture : Option Picture) → IfTold (f.disk old.folder) (λ d. Over functions picture d → FindsDamage (λ name at. ⊥) result)
    pub damaged : IfTold (f.disk new.folder) (λ d. FindsDamage (IsBadNode d) result)
    pub full : (name : FileName) (size : Option ℕ) → result ≡ Err (Store (Full name size)) → IsFilled (length design.views) new.index old.cache new.cache name size
    pub faults : IfErr result (IsWriteFault (name_of (file_of new.index)))
    pub cause : IsCounted f old.folder new.folder result
    -- how much is done: where so many levels are enough for the trees before and after, or, whatever is answered, for all rows together
    pub steps : (functions : Option Functions) (picture : Option Picture) (h : ℕ) → AreLow h (last_of old.index) → AreLow h (last_of new.index)
        → IfTold (f.disk old.folder) (λ d. Over functions picture d → OnOk result (StepsWithin h))
    pub most_steps : (functions : Option Functions) (picture : Option Picture) (h : ℕ) → IsEnough h → IfTold (f.disk old.folder) (λ d. Over functions picture d → StepsWithin h × PutsWithinCount h)
    pub pieces : (functions : Option Functions) (picture : Option Picture) (longest : ℕ) → AreShortBoth longest
        → IfTold (f.disk old.folder) (λ d. Over functions picture d → PutsWithin (node_size longest) (puts_of old.cache) (puts_of new.cache))
    -- a step makes two reads at most
    pub reads : ReadsFor (f.reads old.folder) (f.reads new.folder) old.steps new.steps
