-- What a crash leaves while a file is cut and synced, and while bytes are added.
use Rattle.std.proofs.Common.{◌≡◌, ◌⊎◌, inl, inr, ⊎_elim, ℕ, List, [], length, Option, Result, Ok, OnOk, subst}
use Rattle.std.proofs.lemmas.List.{nil_from_length}
use Rattle.view_ports.specs.File.{File, IsImage, settled, wrote, grew, emptied, synced}
use Rattle.view_ports.specs.Disk.{Disk, MovesFile, Tells}
use Rattle.view_ports.specs.FolderCalls.{Changes}
use Rattle.view_ports.proofs.Images.{IsImage-settled, IsImage-emptied}
use Rattle.view_ports.proofs.Told.{told_map, told_then}
use Rattle.view_ports.proofs.DiskRuns.{file_then, file_changes, on_ok}
use Rattle.gate_file.proofs.Stepped.{unwritten, ungrown}

-- what a crash leaves of a file while it is cut
abbrev pub Cut : File → List ℕ → Type 0
Cut file image = IsImage file image ⊎ (image ≡ [])

cut_leaves : (file : File) (image : List ℕ) → IsImage (emptied file) image → Cut file image
cut_leaves file image is = ⊎_elim (λ old. inl old) (λ none. inr (nil_from_length image none)) (IsImage-emptied file image is)

module _ {Name T E U V : Type 0} (name : Name) (first : Result T E) (second : Result U V) where
  pub cut_once : (X : File → File → Type 0) (a b : Disk Name) → (OnOk first (b.now name ≡ emptied (a.now name)) → X (a.now name) (b.now name)) → Changes name emptied first a b → MovesFile name Cut X a b
  cut_once X a b endings changes = file_changes name emptied first Cut X a b (λ image is. inl is) (λ image is. cut_leaves (a.now name) image is) endings changes

  pub cut_twice : (X : File → File → Type 0) (a b c : Disk Name) (value : T) → first ≡ Ok value → (OnOk second (c.now name ≡ settled []) → X (a.now name) (c.now name))
      → Changes name emptied first a b → Changes name synced second b c → MovesFile name Cut X a c
  cut_twice X a b c value was endings changes last =
      let after : b.now name ≡ emptied (a.now name) → (image : List ℕ) → IsImage (b.now name) image → Cut (a.now name) image =
      λ same image is. cut_leaves (a.now name) image (subst (λ file. IsImage file image) same is) in
      let synced_leaves : b.now name ≡ emptied (a.now name) → (image : List ℕ) → IsImage (synced (b.now name)) image → Cut (a.now name) image =
      λ same image is. inr (IsImage-settled [] image (subst (λ file. IsImage (synced file) image) same is)) in
      file_then name Cut (λ file image. IsImage file image ⊎ IsImage (synced file) image) Cut (λ file now. now ≡ emptied file) (λ file now. OnOk second (now ≡ synced file)) X a b c
      (λ image is. is)
      (λ same image is. ⊎_elim (after same image) (synced_leaves same image) is)
      (λ same ok. endings (subst (λ file. OnOk second (c.now name ≡ synced file)) same ok))
      (cut_once (λ file now. now ≡ emptied file) a b (λ ok. on_ok first value (b.now name ≡ emptied (a.now name)) was ok) changes)
      (file_changes name synced second (λ file image. IsImage file image ⊎ IsImage (synced file) image) (λ file now. OnOk second (now ≡ synced file)) b c
      (λ image is. inl is) (λ image is. inr is) (λ ok. ok) last)

  module _ (before mid after : Option (Disk Name)) where
    pub told_cut_once : (X : File → File → Type 0) → ((file now : File) → OnOk first (now ≡ emptied file) → X file now) → Tells before mid (Changes name emptied first) → Tells before mid (MovesFile name Cut X)
    told_cut_once X endings told = told_map before mid (Changes name emptied first) (MovesFile name Cut X) (λ a b changes. cut_once X a b (endings (a.now name) (b.now name)) changes) told

    pub told_cut_twice : (X : File → File → Type 0) (value : T) → first ≡ Ok value → ((file now : File) → OnOk second (now ≡ settled []) → X file now)
        → Tells before mid (Changes name emptied first) → Tells mid after (Changes name synced second) → Tells before after (MovesFile name Cut X)
    told_cut_twice X value was endings told last =
        told_then before mid after (Changes name emptied first) (Changes name synced second) (MovesFile name Cut X)
        (λ a b c changes rest. cut_twice X a b c value was (endings (a.now name) (c.now name)) changes rest) told last

-- bytes are added: room is made, and then they are written there
abbrev pub adding : ℕ → List ℕ → File → File
adding at bytes file = wrote at bytes (grew (length bytes) file)

module _ {Name T E U V : Type 0} (name : Name) (at : ℕ) (bytes : List ℕ) (first : Result T E) (second : Result U V) where
  abbrev Leaves : File → List ℕ → Type 0
  Leaves file image = IsImage (adding at bytes file) image

  by_growth : (file : File) (image : List ℕ) → IsImage (grew (length bytes) file) image → Leaves file image
  by_growth file image is = unwritten at bytes (grew (length bytes) file) image is

  pub grow_once : (X : File → File → Type 0) (a b : Disk Name) → (OnOk first (b.now name ≡ grew (length bytes) (a.now name)) → X (a.now name) (b.now name)) → Changes name (grew (length bytes)) first a b
      → MovesFile name (λ file image. IsImage (adding at bytes file) image) X a b
  grow_once X a b endings changes = file_changes name (grew (length bytes)) first Leaves X a b
      (λ image is. by_growth (a.now name) image (ungrown (length bytes) (a.now name) image is)) (λ image is. by_growth (a.now name) image is) endings changes

  pub grow_write : (X : File → File → Type 0) (a b c : Disk Name) (value : T) → first ≡ Ok value → (OnOk second (c.now name ≡ adding at bytes (a.now name)) → X (a.now name) (c.now name))
      → Changes name (grew (length bytes)) first a b → Changes name (wrote at bytes) second b c → MovesFile name (λ file image. IsImage (adding at bytes file) image) X a c
  grow_write X a b c value was endings changes last =
      file_then name Leaves (λ file image. IsImage (wrote at bytes file) image) Leaves (λ file now. now ≡ grew (length bytes) file) (λ file now. OnOk second (now ≡ wrote at bytes file)) X a b c
      (λ image is. is)
      (λ same image is. subst (λ file. IsImage (wrote at bytes file) image) same is)
      (λ same ok. endings (subst (λ file. OnOk second (c.now name ≡ wrote at bytes file)) same ok))
      (grow_once (λ file now. now ≡ grew (length bytes) file) a b (λ ok. on_ok first value (b.now name ≡ grew (length bytes) (a.now name)) was ok) changes)
      (file_changes name (wrote at bytes) second (λ file image. IsImage (wrote at bytes file) image) (λ file now. OnOk second (now ≡ wrote at bytes file)) b c
      (λ image is. unwritten at bytes (b.now name) image is) (λ image is. is) (λ ok. ok) last)

  module _ (before mid after : Option (Disk Name)) where
    pub told_grow_once : (X : File → File → Type 0) → ((file now : File) → OnOk first (now ≡ grew (length bytes) file) → X file now)
        → Tells before mid (Changes name (grew (length bytes)) first) → Tells before mid (MovesFile name (λ file image. IsImage (adding at bytes file) image) X)
    told_grow_once X endings told =
        told_map before mid (Changes name (grew (length bytes)) first) (MovesFile name Leaves X) (λ a b changes. grow_once X a b (endings (a.now name) (b.now name)) changes) told

    pub told_grow_write : (X : File → File → Type 0) (value : T) → first ≡ Ok value → ((file now : File) → OnOk second (now ≡ adding at bytes file) → X file now)
        → Tells before mid (Changes name (grew (length bytes)) first) → Tells mid after (Changes name (wrote at bytes) second) → Tells before after (MovesFile name (λ file image. IsImage (adding at bytes file) image) X)
    told_grow_write X value was endings told last =
        told_then before mid after (Changes name (grew (length bytes)) first) (Changes name (wrote at bytes) second) (MovesFile name Leaves X)
        (λ a b c changes rest. grow_write X a b c value was (endings (a.now name) (c.now name)) changes rest) told last
