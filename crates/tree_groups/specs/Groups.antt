-- The indexes of a database that are open.
use Rattle.std.specs.Prelude.{◌≡◌, ◌≢◌, ℕ, List, Option, Some, None, All, Contains, slice_get}
use Rattle.view_ports.specs.File.{File}
use Rattle.view_ports.specs.declared.file_name.FileName.{FileName}
use Rattle.view_ports.specs.declared.file_name.Stem.{Stem}
use Rattle.view_ports.specs.declared.file_name.Stem.TheVariants.{View}
use Rattle.tree_index.specs.declared.index.Index.{Index}
use Rattle.tree_index.specs.Calls.{IsOpen}
use Rattle.tree_index.specs.Index.{stem_of, views_of}
use Rattle.tree_groups.specs.declared.groups.Groups.{Groups}
use Rattle.tree_groups.specs.Pictures.{AreHeld, IsAtOf, Kinds, Pictures}

-- the indexes that are open
abbrev pub open_of : Groups → List Index
open_of groups = groups.open.items

-- the index in this place is that of the signature, of so many views
pub record IsGroup (groups : Groups) (place : ℕ) (sig : List ℕ) (views : ℕ) (index : Index) : Type 0 where
  pub there : slice_get (open_of groups) place ≡ Some index
  pub named : stem_of index ≡ View sig
  pub number : views_of index ≡ views

-- the place of the open index of these files; without a place no open index is of them
abbrev pub IsPlaceOf : Groups → Stem → Option ℕ → Type 0
IsPlaceOf groups stem (Some place) = (index : Index) × (slice_get (open_of groups) place ≡ Some index) × (stem_of index ≡ stem)
IsPlaceOf groups stem None = All (λ index. stem_of index ≢ stem) (open_of groups)

-- the open indexes of other files than these stay open, as they are
abbrev pub StayOpen : Stem → Groups → Groups → Type 0
StayOpen stem old new = All (λ index. stem_of index ≢ stem → Contains (open_of new) index) (open_of old)

-- and no other was opened
abbrev pub OpensOnly : Stem → Groups → Groups → Type 0
OpensOnly stem old new = All (λ index. stem_of index ≢ stem → Contains (open_of old) index) (open_of new)

-- the index of these files is closed, and all others stay open, and nothing else was opened
pub record IsClosed (stem : Stem) (old new : Groups) : Type 0 where
  pub gone : All (λ index. stem_of index ≢ stem) (open_of new)
  pub others : All (Contains (open_of old)) (open_of new)
  pub stay : StayOpen stem old new

-- what each open index keeps is what the folder holds
abbrev pub AreOpen : Groups → (FileName → File) → Type 0
AreOpen groups files = All (λ index. IsOpen index files) (open_of groups)

-- the files hold these pictures, and each open index is at its own
pub record AreAt (kinds : Kinds) (groups : Groups) (files : FileName → File) (pictures : Pictures) : Type 0 where
  pub held : AreHeld kinds files pictures
  pub each : All (λ index. (sig : List ℕ) → stem_of index ≡ View sig → IsAtOf kinds sig index files (pictures sig)) (open_of groups)
