-- What a crash leaves over the calls of one step on a file.
use Rattle.std.proofs.Common.{◌≡◌, inl, inr, ⊎_elim, ℕ, List, Option, Result, Ok, Err, OnOk, IsErr, sym, subst}
use Rattle.view_ports.specs.File.{File, IsImage, wrote, grew, synced}
use Rattle.view_ports.specs.Disk.{Disk, MovesFile, SeenStays, IfTold, Tells}
use Rattle.view_ports.specs.FolderCalls.{Changes}
use Rattle.view_ports.proofs.Images.{IsImage-settled}
use Rattle.view_ports.proofs.Told.{told_map, told_then, told_given}
use Rattle.view_ports.proofs.DiskRuns.{file_then, file_changes, on_ok}

-- before a write a crash may leave what it may leave after it
pub unwritten : (at : ℕ) (bytes : List ℕ) (file : File) (image : List ℕ) → IsImage file image → IsImage (wrote at bytes file) image
unwritten at bytes file image is = record { long = is.long; kept = λ place within never. is.kept place within (λ there. never (inr there)) }

pub ungrown : (by : ℕ) (file : File) (image : List ℕ) → IsImage file image → IsImage (grew by file) image
ungrown by file image is = record {
  long = inr is.long;
  kept = λ place within never. ⊎_elim (λ same. inl same) (λ added. inr (inr added.0, added.1)) (is.kept place within never);
}

-- once a file is synced a crash leaves what a read gave, which it may have left before
pub unsynced : (file : File) (image : List ℕ) → IsImage file file.seen → IsImage (synced file) image → IsImage file image
unsynced file image stays is = subst (IsImage file) (sym (IsImage-settled file.seen image is)) stays

module _ {Name T E U V : Type 0} (name : Name) (step : File → File) (done : (file : File) (image : List ℕ) → IsImage file image → IsImage (step file) image)
    (first : Result T E) (second : Result U V) (old mid new : Disk Name) where
  -- a step that failed
  pub step_failed : Changes name step first old mid → MovesFile name (λ file image. IsImage (step file) image) (λ file now. Unit {0}) old mid
  step_failed changes =
      file_changes name step first (λ file image. IsImage (step file) image) (λ file now. Unit {0}) old mid (λ image is. done (old.now name) image is) (λ image is. is) (λ ok. tt) changes

  step_done : (value : T) → first ≡ Ok value → Changes name step first old mid → MovesFile name (λ file image. IsImage (step file) image) (λ file now. now ≡ step file) old mid
  step_done value was changes =
      file_changes name step first (λ file image. IsImage (step file) image) (λ file now. now ≡ step file) old mid (λ image is. done (old.now name) image is) (λ image is. is) (λ ok. on_ok first value (mid.now name ≡ step (old.now name)) was ok) changes

  -- a step, and then a sync, of which this is known
  pub step_synced : (value : T) (ends : File → Type 0) → first ≡ Ok value → ((file : File) → OnOk second (file ≡ synced (step (old.now name))) → ends file)
      → Changes name step first old mid → SeenStays mid → Changes name synced second mid new
      → MovesFile name (λ file image. IsImage (step file) image) (λ file now. ends now) old new
  step_synced value ends was endings first_changes stays second_changes =
      let after : (now : File) → now ≡ step (old.now name) → (image : List ℕ) → IsImage now image → IsImage (step (old.now name)) image =
      λ now same image is. subst (λ file. IsImage file image) same is in
      file_then name (λ file image. IsImage (step file) image) (λ file image. IsImage file image) (λ file image. IsImage (step file) image)
      (λ file now. now ≡ step file) (λ file now. OnOk second (now ≡ synced file)) (λ file now. ends now)
      old mid new
      (λ image is. is)
      (λ same image is. after (mid.now name) same image is)
      (λ same ok. endings (new.now name) (subst (λ file. OnOk second (new.now name ≡ synced file)) same ok))
      (step_done value was first_changes)
      (file_changes name synced second (λ file image. IsImage file image) (λ file now. OnOk second (now ≡ synced file)) mid new
      (λ image is. is) (λ image is. unsynced (mid.now name) image (stays name) is) (λ ok. ok) second_changes)

pub ended_err : {T E : Type 0} (result : Result T E) (P : Type 0) → IsErr result → OnOk result P
ended_err (Ok value) P failed = let never : ⊥ = cc in absurd never
ended_err (Err error) P failed = tt

-- The same as a folder tells it.
module _ {Name T E U V : Type 0} (name : Name) (step : File → File) (done : (file : File) (image : List ℕ) → IsImage file image → IsImage (step file) image) (before mid after : Option (Disk Name)) where
  pub told_failed : (first : Result T E) (result : Result U V) (X : File → File → Type 0) → IsErr result → Tells before mid (Changes name step first)
      → Tells before mid (MovesFile name (λ file image. IsImage (step file) image) (λ file now. OnOk result (X file now)))
  told_failed first result X failed told =
      told_map before mid (Changes name step first) (MovesFile name (λ file image. IsImage (step file) image) (λ file now. OnOk result (X file now)))
      (λ a b changes. file_changes name step first (λ file image. IsImage (step file) image) (λ file now. OnOk result (X file now)) a b
      (λ image is. done (a.now name) image is) (λ image is. is) (λ ok. ended_err result (X (a.now name) (b.now name)) failed) changes)
      told

  pub told_synced : (first : Result T E) (value : T) (second : Result U V) (X : File → File → Type 0) → first ≡ Ok value
      → ((file now : File) → OnOk second (now ≡ synced (step file)) → X file now)
      → Tells before mid (Changes name step first) → IfTold mid SeenStays → Tells mid after (Changes name synced second)
      → Tells before after (MovesFile name (λ file image. IsImage (step file) image) X)
  told_synced first value second X was endings told stays synced_told =
      told_then before mid after (Changes name step first) (λ b c. SeenStays b × Changes name synced second b c) (MovesFile name (λ file image. IsImage (step file) image) X)
      (λ a b c changes rest. synced_over first value second X was endings a b c changes rest.0 rest.1)
      told
      (told_given mid after SeenStays (Changes name synced second) (λ b c. SeenStays b × Changes name synced second b c) (λ b c here changes. (here, changes)) stays synced_told)
    where
      synced_over : (first : Result T E) (value : T) (second : Result U V) (X : File → File → Type 0) → first ≡ Ok value → ((file now : File) → OnOk second (now ≡ synced (step file)) → X file now)
          → (a b c : Disk Name) → Changes name step first a b → SeenStays b → Changes name synced second b c → MovesFile name (λ file image. IsImage (step file) image) X a c
      synced_over first value second X was endings a b c changes here last =
          step_synced name step done first second a b c value (X (a.now name)) was (endings (a.now name)) changes here last
