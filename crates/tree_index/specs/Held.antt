-- What the files of an index hold, and the picture that they stand for.
use Rattle.std.specs.Prelude.{◌≡◌, ◌⊎◌, ℕ, List, [], length, replicate, Option, Some, None, nat_le, if◌then◌else◌}
use Rattle.view_ports.specs.Disk.{Disk, Moves}
use Rattle.view_ports.specs.File.{File}
use Rattle.view_ports.specs.Functions.{Functions}
use Rattle.view_ports.specs.declared.file_name.FileName.{FileName}
use Rattle.view_ports.specs.declared.file_name.Stem.{Stem}
use Rattle.gate_file.specs.declared.root.Root.{Root}
use Rattle.gate_file.specs.Open.{AreFitSlots, IsPart, WhileOpening}
use Rattle.gate_file.specs.Pair.{EachStands, StandsFor}
use Rattle.gate_file.specs.RootPlace.{IsPairDamage}
use Rattle.design_docs.specs.declared.design.View.{View}
use Rattle.tree_laws.specs.declared.tree.Tree.{Tree}
use Rattle.node_file.specs.Records.{node_at}
use Rattle.view_model.specs.Picture.{Picture}
use Rattle.index_items.specs.RootRecord.{root_bytes, IsContent}
use Rattle.index_trees.specs.Laws.{no_tree}
use Rattle.index_trees.specs.Trees.{HoldTrees}

-- what a root record says: the sequence that the index stands at, the tree of each view, and that of the back-index
pub record Said : Type 0 where
  pub seq : ℕ
  pub views : List Tree
  pub back : Tree

-- the bytes that a root names are the root record of these, for so many views
pub record Spells (count : ℕ) (root : Root) (bytes : List ℕ) (said : Said) : Type 0 where
  pub part : IsPart bytes root.offset root.length (root_bytes said.seq said.views said.back)
  pub content : IsContent count root.offset said.seq said.views said.back

abbrev pub SpellsRoot : ℕ → Option Root → List ℕ → Said → Type 0
SpellsRoot count None bytes said = ⊥
SpellsRoot count (Some root) bytes said = Spells count root bytes said

-- what is said without a root record: no write, and no rows
abbrev pub nothing_said : ℕ → Said
nothing_said count = record { seq = 0; views = replicate count no_tree; back = no_tree }

-- what the root of a file says, for so many views
abbrev pub Says : ℕ → Option Root → List ℕ → Said → Type 0
Says count None bytes said = said ≡ nothing_said count
Says count (Some root) bytes said = SpellsRoot count (Some root) bytes said

-- what is damaged of the files of an index of so many views as they are opened: their first damaged slot, or else their root record
abbrev pub IsDamagedAt : Stem → ℕ → (FileName → File) → FileName → ℕ → Type 0
IsDamagedAt stem count files name at = IsPairDamage stem (SpellsRoot count) files name at

-- By the views of a design, and by the functions of its query server where they are known.
module _ (functions : Option Functions) (views : List View) where
  -- the root record names trees that hold the rows of the picture
  pub record HoldsRows (root : Root) (bytes : List ℕ) (picture : Picture) : Type 0 where
    pub said : Said
    pub spells : Spells (length views) root bytes said
    pub seq : said.seq ≡ picture.seq
    pub rows : HoldTrees functions views (node_at bytes) said.views said.back picture.rows

  -- what a root holds; without a root there is no picture
  abbrev pub HoldsPicture : Option Root → List ℕ → Option Picture → Type 0
  HoldsPicture None bytes None = Unit {0}
  HoldsPicture None bytes (Some picture) = ⊥
  HoldsPicture (Some root) bytes None = ⊥
  HoldsPicture (Some root) bytes (Some picture) = HoldsRows root bytes picture

  module _ (stem : Stem) where
    -- an image of the disk stands for this picture, or for none, as far as the files of this index go
    abbrev pub Stands : (FileName → List ℕ) → Option Picture → Type 0
    Stands image picture = StandsFor stem HoldsPicture image picture

    -- each image that a crash may leave of these files stands for it, and so does what is read of them
    abbrev pub HoldsIndex : (FileName → File) → Option Picture → Type 0
    HoldsIndex files picture = EachStands stem HoldsPicture files picture

-- a file of this index
abbrev pub IsFileOf : Stem → FileName → Type 0
IsFileOf stem name = name.stem ≡ stem

-- a crash leaves no bytes of the files of this index
abbrev pub IsGone : Stem → (FileName → List ℕ) → Type 0
IsGone stem image = (name : FileName) → IsFileOf stem name → image name ≡ []

-- What becomes of the files, whatever they held and whatever is answered: a crash leaves of them what it may leave while a pair is opened,
-- or no bytes, but that only where no slot is damaged and they may be emptied. Files of other names are as they were.
abbrev pub OnlyOpens : Stem → ((FileName → File) → Type 0) → Disk FileName → Disk FileName → Type 0
OnlyOpens stem MayEmpty old new =
    Moves (IsFileOf stem) (λ image. WhileOpening stem old.now image ⊎ (IsGone stem image × AreFitSlots stem old.now × MayEmpty old.now)) (λ files. Unit {0}) old new

-- no picture counts as one of no write, with so many views without rows
abbrev pub or_empty : ℕ → Option Picture → Picture
or_empty count None = record { seq = 0; rows = replicate count [] }
or_empty count (Some picture) = picture

-- a picture past the newest write is none
abbrev pub up_to : ℕ → Option Picture → Option Picture
up_to newest None = None
up_to newest (Some picture) = if nat_le picture.seq newest then Some picture else None
