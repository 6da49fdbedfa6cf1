-- What opening an index promises.
use Rattle.std.specs.Prelude.{◌≡◌, ◌⊎◌, ◌<◌, ◌≤◌, ℕ, List, [], map, length, take, Result, Err, IfErr, IfOk, Option, None}
use Rattle.view_ports.specs.Causes.{RisesBy}
use Rattle.view_ports.specs.Disk.{IfTold, Moves, Tells}
use Rattle.view_ports.specs.File.{File, settled}
use Rattle.view_ports.specs.Functions.{Functions}
use Rattle.view_ports.specs.declared.file_name.FileName.{FileName}
use Rattle.view_ports.specs.declared.file_name.Stem.{Stem}
use Rattle.view_ports.specs.declared.folder.Folder.{Ghosts as Folders}
use Rattle.gate_file.specs.declared.fault.GateFault.TheVariants.{Damaged, DiskFault}
use Rattle.gate_file.specs.GateFile.{length_of, name_of, root_of}
use Rattle.gate_file.specs.Open.{opened, AreFitSlots}
use Rattle.gate_file.specs.Pair.{own_bytes}
use Rattle.design_docs.specs.declared.design.View.{View}
use Rattle.node_file.specs.Records.{node_at}
use Rattle.view_model.specs.Picture.{Picture}
use Rattle.index_items.specs.declared.root_record.IndexRoot.{IndexRoot}
use Rattle.index_trees.specs.Reading.{rows_in}
use Rattle.tree_index.specs.declared.fault.IndexFault.{IndexFault}
use Rattle.tree_index.specs.declared.fault.IndexFault.TheVariants.{NoMemory, Store}
use Rattle.tree_index.specs.declared.index.Index.{Index}
use Rattle.tree_index.specs.Calls.{said_of, IsAt, IsCounted, IsOpen}
use Rattle.tree_index.specs.Held.{up_to, HoldsIndex, HoldsPicture, IsDamagedAt, IsFileOf, OnlyOpens, Said, Says, Stands}
use Rattle.tree_index.specs.Index.{file_of, last_of, picture_of, stem_of, views_of, IsSettled}

-- damage that is found is of this kind
abbrev pub FindsDamage : {T : Type 0} → (FileName → ℕ → Type 0) → Result T IndexFault → Type 0
FindsDamage IsThere result = (name : FileName) (at : ℕ) → result ≡ Err (Store (Damaged name at)) → IsThere name at

-- the disk failed, memory ran out, or a file is damaged
abbrev pub IsOpenFault : IndexFault → Type 0
IsOpenFault fault = (fault ≡ Store DiskFault) ⊎ (fault ≡ NoMemory) ⊎ ((name : FileName) × (at : ℕ) × (fault ≡ Store (Damaged name at)))

-- an index of these files and of so many views, of which nothing is exchanged
pub record IsNew (stem : Stem) (count : ℕ) (index : Index) : Type 0 where
  pub named : stem_of index ≡ stem
  pub number : views_of index ≡ count
  pub settled : IsSettled index

-- what is read of a root record
abbrev pub said_in : IndexRoot → Said
said_in root = record { seq = root.seq; views = root.views.items; back = root.back }

-- the file of the last commit is as it was, of which nothing is pending now, and bytes that were added behind what is durable may be cut
abbrev pub IsLeft : Stem → (FileName → File) → (FileName → File) → Type 0
IsLeft stem old new = new (name_of (opened stem old)) ≡ settled (take (length_of (opened stem old)) (own_bytes (opened stem old) old))

-- What the files showed before the index was opened: no slot was damaged, and the root record says where the index stands. It has the
-- rows that are read of its trees; and where the files held a picture, of whatever views, the index is at it.
pub record IsLoaded (stem : Stem) (count : ℕ) (old new : FileName → File) (index : Index) : Type 0 where
  pub fit : AreFitSlots stem old
  pub file : file_of index ≡ opened stem old
  pub is_open : IsOpen index new
  pub whole : IsLeft stem old new
  pub says : Says count (root_of (opened stem old)) (own_bytes (opened stem old) old) (said_of index)
  pub rows : (picture_of index).rows ≡ map (rows_in (node_at (own_bytes (file_of index) new))) (last_of index).views.items
  pub at : (functions : Option Functions) (views : List View) (picture : Option Picture) → length views ≡ count
      → HoldsPicture functions views (root_of (opened stem old)) (own_bytes (opened stem old) old) picture → IsAt functions views index new picture

-- The index is opened.
module _ {F : Type 0} (f : Folders F) (stem : Stem) (count : ℕ) (old new : F) where
  pub record Loads (result : Result Index IndexFault) : Type 0 where
    pub fresh : IfOk result (IsNew stem count)
    pub found : Tells (f.disk old) (f.disk new) (λ a b. IfOk result (IsLoaded stem count a.now b.now))
    -- a crash and want of memory leave what the files stand for, of whatever views
    pub stands : (functions : Option Functions) (views : List View) (picture : Option Picture) → IfTold (f.disk old) (λ d. HoldsIndex functions views stem d.now picture)
        → Tells (f.disk old) (f.disk new)
        (Moves (IsFileOf stem) (λ image. Stands functions views stem image picture)
        (λ files. IfOk result (λ index. length views ≡ count → IsAt functions views index files picture)))
    pub wanting : (functions : Option Functions) (views : List View) (picture : Option Picture) → IfTold (f.disk old) (λ d. HoldsIndex functions views stem d.now picture)
        → result ≡ Err NoMemory → IfTold (f.disk new) (λ d. HoldsIndex functions views stem d.now picture)
    pub sound : (functions : Option Functions) (views : List View) (picture : Option Picture) → length views ≡ count
        → IfTold (f.disk old) (λ d. HoldsIndex functions views stem d.now picture → FindsDamage (λ name at. ⊥) result)
    pub damaged : IfTold (f.disk old) (λ d. FindsDamage (IsDamagedAt stem count d.now) result)
    pub files : Tells (f.disk old) (f.disk new) (OnlyOpens stem (λ files. ⊥))
    -- where no slot is damaged, neither is the file touched whose root record is
    pub left : Tells (f.disk old) (f.disk new) (λ a b. FindsDamage (λ name at. AreFitSlots stem a.now → IsLeft stem a.now b.now) result)
    pub faults : IfErr result IsOpenFault
    pub cause : IsCounted f old new result
    pub reads : RisesBy 5 (f.reads old) (f.reads new)

-- the root record says a sequence past the newest write
pub record IsPastWrite (stem : Stem) (count newest : ℕ) (files : FileName → File) : Type 0 where
  pub said : Said
  pub says : Says count (root_of (opened stem files)) (own_bytes (opened stem files) files) said
  pub past : newest < said.seq

-- an index of files without bytes, which is at no picture, of whatever views
pub record IsEmptied (stem : Stem) (count : ℕ) (new : FileName → File) (index : Index) : Type 0 where
  pub empty : (name : FileName) → IsFileOf stem name → new name ≡ settled []
  pub is_open : IsOpen index new
  pub at : (functions : Option Functions) (views : List View) → length views ≡ count → IsAt functions views index new None

-- The index is as it was loaded, as far as the files reached the newest write, and else it is emptied.
pub record IsFound (stem : Stem) (count newest : ℕ) (old new : FileName → File) (index : Index) : Type 0 where
  pub said : Said
  pub fit : AreFitSlots stem old
  pub says : Says count (root_of (opened stem old)) (own_bytes (opened stem old) old) said
  pub kept : said.seq ≤ newest → IsLoaded stem count old new index
  pub emptied : newest < said.seq → IsEmptied stem count new index
  pub at : (functions : Option Functions) (views : List View) (picture : Option Picture) → length views ≡ count
      → HoldsPicture functions views (root_of (opened stem old)) (own_bytes (opened stem old) old) picture → IsAt functions views index new (up_to newest picture)

module _ {F : Type 0} (f : Folders F) (stem : Stem) (count newest : ℕ) (old new : F) where
  -- the index is opened, and emptied where it is past the newest write
  pub record Opens (result : Result Index IndexFault) : Type 0 where
    pub fresh : IfOk result (IsNew stem count)
    pub found : Tells (f.disk old) (f.disk new) (λ a b. IfOk result (IsFound stem count newest a.now b.now))
    -- a crash leaves what the files stand for, of whatever views, or nothing of a picture past the newest write
    pub stands : (functions : Option Functions) (views : List View) (picture : Option Picture) → IfTold (f.disk old) (λ d. HoldsIndex functions views stem d.now picture)
        → Tells (f.disk old) (f.disk new)
        (Moves (IsFileOf stem) (λ image. Stands functions views stem image picture ⊎ Stands functions views stem image (up_to newest picture))
        (λ files. IfOk result (λ index. length views ≡ count → IsAt functions views index files (up_to newest picture))))
    -- want of memory leaves files of one of these pictures, so that they can be opened again
    pub wanting : (functions : Option Functions) (views : List View) (picture : Option Picture) → IfTold (f.disk old) (λ d. HoldsIndex functions views stem d.now picture)
        → result ≡ Err NoMemory → IfTold (f.disk new) (λ d. HoldsIndex functions views stem d.now picture ⊎ HoldsIndex functions views stem d.now (up_to newest picture))
    -- files that hold a picture of as many views as are asked for, or none, are never damaged
    pub sound : (functions : Option Functions) (views : List View) (picture : Option Picture) → length views ≡ count
        → IfTold (f.disk old) (λ d. HoldsIndex functions views stem d.now picture → FindsDamage (λ name at. ⊥) result)
    pub damaged : IfTold (f.disk old) (λ d. FindsDamage (IsDamagedAt stem count d.now) result)
    -- whatever they held, the files are emptied only where they say to be past the newest write
    pub files : Tells (f.disk old) (f.disk new) (OnlyOpens stem (IsPastWrite stem count newest))
    -- where no slot is damaged, neither is the file touched whose root record is
    pub left : Tells (f.disk old) (f.disk new) (λ a b. FindsDamage (λ name at. AreFitSlots stem a.now → IsLeft stem a.now b.now) result)
    pub faults : IfErr result IsOpenFault
    pub cause : IsCounted f old new result
    pub reads : RisesBy 10 (f.reads old) (f.reads new)
