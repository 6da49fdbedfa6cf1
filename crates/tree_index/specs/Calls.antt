-- What an index keeps of its files, and what a commit promises.
use Rattle.std.specs.Prelude.{◌≡◌, ◌≢◌, ◌⊎◌, ℕ, List, [], length, Option, Result, Err, Some, IfErr, OnOk, OnErr}
use Rattle.json_terms.specs.declared.term.Row.{Row}
use Rattle.view_ports.specs.Disk.{IfTold, Moves, Tells}
use Rattle.view_ports.specs.Faults.{CountsFor}
use Rattle.view_ports.specs.File.{File, settled}
use Rattle.view_ports.specs.Functions.{Functions}
use Rattle.view_ports.specs.declared.file_name.FileName.{FileName}
use Rattle.view_ports.specs.declared.folder.Folder.{Ghosts as Folders}
use Rattle.gate_file.specs.declared.fault.GateFault.{GateFault}
use Rattle.gate_file.specs.declared.fault.GateFault.TheVariants.{DiskFault}
use Rattle.gate_file.specs.Calls.{too_long, used_up}
use Rattle.gate_file.specs.GateFile.{commits_in, commits_of, name_of, root_of, start_of, Keeps}
use Rattle.gate_file.specs.Pair.{own_bytes}
use Rattle.gate_file.specs.Publish.{published, IsFull, IsTooLong, IsUsedUp}
use Rattle.gate_file.specs.Shown.{HasAll}
use Rattle.design_docs.specs.declared.design.View.{View}
use Rattle.node_file.specs.Records.{node_at}
use Rattle.view_model.specs.Picture.{Picture}
use Rattle.index_items.specs.RootRecord.{root_bytes}
use Rattle.index_trees.specs.declared.trees.IndexTrees.{IndexTrees}
use Rattle.index_trees.specs.Trees.{HaveRoom, HoldRows}
use Rattle.tree_index.specs.declared.fault.IndexFault.{IndexFault}
use Rattle.tree_index.specs.declared.fault.IndexFault.TheVariants.{NoMemory, Store}
use Rattle.tree_index.specs.declared.index.Index.{Index}
use Rattle.tree_index.specs.Held.{or_empty, HoldsPicture, IsFileOf, Said, Says, Stands}
use Rattle.tree_index.specs.Trees.{seen}
use Rattle.tree_index.specs.Index.{file_of, last_of, next_in, next_of, picture_of, seq_of, stem_of, views_of, GoesOn, IsSame, IsSettled}

-- where the index stands: at the sequence and the trees of its last commit
abbrev pub said_of : Index → Said
said_of index = record { seq = seq_of index; views = (last_of index).views.items; back = (last_of index).back }

-- What the object keeps is what the folder holds: its own file, and beside it a side without bytes. As many commits were made as its root
-- says, and none where it has no root; its root record says where the index stands; and the file has room for the items of its trees.
pub record IsOpen (index : Index) (files : FileName → File) : Type 0 where
  pub keeps : Keeps (file_of index) (files (name_of (file_of index)))
  pub other : (name : FileName) → IsFileOf (stem_of index) name → name ≢ name_of (file_of index) → files name ≡ settled []
  pub commits : commits_of (file_of index) ≡ commits_in (root_of (file_of index))
  pub says : Says (views_of index) (root_of (file_of index)) (own_bytes (file_of index) files) (said_of index)
  pub last_room : HaveRoom (start_of (file_of index)) (last_of index)
  pub next_room : HaveRoom (start_of (file_of index)) (next_of index)

module _ (functions : Option Functions) (views : List View) (index : Index) (files : FileName → File) where
  -- these trees hold such rows in the file
  abbrev pub HasTrees : IndexTrees → List (List Row) → Type 0
  HasTrees trees rows = HoldRows functions views (node_at (own_bytes (file_of index) files)) trees rows

  -- The object and the folder are at this picture of these views, or at none: what is durable of the file holds it. Its trees hold its
  -- rows, and those of the next commit the rows that this makes.
  pub record IsAt (picture : Option Picture) : Type 0 where
    pub is_open : IsOpen index files
    pub number : views_of index ≡ length views
    pub holds : HoldsPicture functions views (root_of (file_of index)) (files (name_of (file_of index))).durable picture
    pub last : picture_of index ≡ or_empty (length views) picture
    pub trees : HasTrees (last_of index) (picture_of index).rows
    pub next : HasTrees (next_of index) (next_in index)

-- nothing of its file is pending
abbrev pub IsWhole : Index → (FileName → File) → Type 0
IsWhole index files = files (name_of (file_of index)) ≡ settled (own_bytes (file_of index) files)

-- the picture of the next commit
abbrev pub next_picture : ℕ → Index → Picture
next_picture seq index = record { seq = seq; rows = next_in index }

-- how long its root record is: 38 bytes, and 20 for each view
abbrev pub next_size : ℕ → Index → ℕ
next_size seq index = length (root_bytes seq (next_of index).views.items (next_of index).back)

-- a fault of the file comes exactly where it has its cause; only want of memory may come in its place
pub record IsExactly {T : Type 0} (fault : GateFault) (Cause : Type 0) (result : Result T IndexFault) : Type 0 where
  pub only : result ≡ Err (Store fault) → Cause
  pub always : Cause → (result ≡ Err (Store fault)) ⊎ (result ≡ Err NoMemory)

module _ {F : Type 0} (f : Folders F) where
  -- a fault of the disk comes only where the folder counted one, and it counted none for any other answer
  abbrev pub IsCounted : {T : Type 0} → F → F → Result T IndexFault → Type 0
  IsCounted old new result = CountsFor (Store DiskFault) (f.faults old) (f.faults new) result

  -- the exchanges are made, by one commit
  pub record Commits (index index' : Index) (old new : F) (seq : ℕ) (result : Result (Unit {0}) IndexFault) : Type 0 where
    pub file : OnOk result (file_of index' ≡ published (file_of index) (next_size seq index) 0)
    pub picture : OnOk result (picture_of index' ≡ next_picture seq index)
    pub trees : OnOk result (seen (last_of index') ≡ seen (next_of index))
    pub settled : OnOk result (IsSettled index')
    pub name : name_of (file_of index') ≡ name_of (file_of index)
    -- a refusal leaves the last picture, and the exchanges; want of memory leaves everything, and a full file is left as it was
    pub kept : OnErr result (IsSame index index' × GoesOn index index')
    pub untouched : result ≡ Err NoMemory → (index' ≡ index) × (new ≡ old)
    pub full : IsFull (file_of index) (next_size seq index) → (file_of index' ≡ file_of index) × (new ≡ old)
    -- what stood in the file behind the slots stands there
    pub stays : Tells (f.disk old) (f.disk new) (λ a b. OnOk result (HasAll (own_bytes (file_of index) a.now) (own_bytes (file_of index) b.now)))
    -- a crash leaves the last picture or the next, and once it is committed the next
    pub stands : (functions : Option Functions) (views : List View) (picture : Option Picture) → IfTold (f.disk old) (λ d. IsAt functions views index d.now picture) → Tells (f.disk old) (f.disk new)
        (Moves (IsFileOf (stem_of index))
        (λ image. Stands functions views (stem_of index) image picture ⊎ Stands functions views (stem_of index) image (Some (next_picture seq index)))
        (λ files. OnOk result (IsAt functions views index' files (Some (next_picture seq index)) × IsWhole index' files)))
    -- whatever the exchanges are, files of other names are as they were, and the object is of its files
    pub others : Tells (f.disk old) (f.disk new) (Moves (IsFileOf (stem_of index)) (λ image. Unit {0}) (λ files. OnOk result (IsOpen index' files)))
    -- the file is full exactly where it would be too long, and where it has all of its commits
    pub long : IsExactly (too_long (file_of index)) (IsTooLong (file_of index) (next_size seq index)) result
    pub spent : IsExactly (used_up (file_of index)) (IsUsedUp (file_of index) (next_size seq index)) result
    pub faults : IfErr result (λ e. (e ≡ Store DiskFault) ⊎ (e ≡ Store (too_long (file_of index))) ⊎ (e ≡ Store (used_up (file_of index))) ⊎ (e ≡ NoMemory))
    pub cause : IsCounted old new result
    pub reads : f.reads new ≡ f.reads old
