-- Stretches of calls on one file, as a folder tells them.
use Rattle.std.proofs.Common.{List, ℕ, Option}
use Rattle.view_ports.specs.File.{File, IsImage}
use Rattle.view_ports.specs.Disk.{Disk, MovesFile, IfTold, Tells}
use Rattle.view_ports.proofs.Told.{told_given, told_then, told_after, told_still}
use Rattle.view_ports.proofs.DiskRuns.{file_none, file_weaker, file_then}

module _ {Name : Type 0} (name : Name) (P : File → Type 0) where
  abbrev Known : Disk Name → Type 0
  Known disk = P (disk.now name)

  -- nothing was called
  pub told_file_none : (now : Option (Disk Name)) (leaves : File → List ℕ → Type 0) (ends : File → File → Type 0)
      → ((file : File) (image : List ℕ) → P file → IsImage file image → leaves file image) → ((file : File) → P file → ends file file)
      → IfTold now (λ disk. P (disk.now name)) → Tells now now (MovesFile name leaves ends)
  told_file_none now leaves ends images endings known =
      told_still now Known (MovesFile name leaves ends) (λ disk is. file_none name leaves ends disk (λ image left. images (disk.now name) image is left) (endings (disk.now name) is)) known

  -- less is said
  pub told_file_weaker : (old new : Option (Disk Name)) (leaves leaves' : File → List ℕ → Type 0) (ends ends' : File → File → Type 0)
      → ((file : File) (image : List ℕ) → P file → leaves file image → leaves' file image) → ((file now : File) → P file → ends file now → ends' file now)
      → IfTold old (λ disk. P (disk.now name)) → Tells old new (MovesFile name leaves ends) → Tells old new (MovesFile name leaves' ends')
  told_file_weaker old new leaves leaves' ends ends' images endings known told =
      told_given old new Known (MovesFile name leaves ends) (MovesFile name leaves' ends')
      (λ a b is moves. file_weaker name leaves leaves' ends ends' a b (λ image left. images (a.now name) image is left) (λ ended. endings (a.now name) (b.now name) is ended) moves)
      known told

  -- two stretches, one after the other
  pub told_file_then : (old mid new : Option (Disk Name)) (leaves1 leaves2 leaves : File → List ℕ → Type 0) (ends1 ends2 ends : File → File → Type 0)
      → ((file : File) (image : List ℕ) → P file → leaves1 file image → leaves file image)
      → ((file then : File) (image : List ℕ) → P file → ends1 file then → leaves2 then image → leaves file image)
      → ((file then now : File) → P file → ends1 file then → ends2 then now → ends file now)
      → IfTold old (λ disk. P (disk.now name)) → Tells old mid (MovesFile name leaves1 ends1) → Tells mid new (MovesFile name leaves2 ends2) → Tells old new (MovesFile name leaves ends)
  told_file_then old mid new leaves1 leaves2 leaves ends1 ends2 ends images1 images2 endings known first second =
      told_then old mid new (λ a b. Known a × MovesFile name leaves1 ends1 a b) (MovesFile name leaves2 ends2) (MovesFile name leaves ends)
      (λ a b c early late.
      file_then name leaves1 leaves2 leaves ends1 ends2 ends a b c
      (λ image left. images1 (a.now name) image early.0 left)
      (λ ended image left. images2 (a.now name) (b.now name) image early.0 ended left)
      (λ ended1 ended2. endings (a.now name) (b.now name) (c.now name) early.0 ended1 ended2)
      early.1 late)
      (told_given old mid Known (MovesFile name leaves1 ends1) (λ a b. Known a × MovesFile name leaves1 ends1 a b) (λ a b is moves. (is, moves)) known first)
      second

  -- what is known of the file afterwards
  pub told_file_after : (old new : Option (Disk Name)) (leaves : File → List ℕ → Type 0) (ends : File → File → Type 0) (Q : File → Type 0)
      → ((file now : File) → P file → ends file now → Q now)
      → IfTold old (λ disk. P (disk.now name)) → Tells old new (MovesFile name leaves ends) → IfTold new (λ disk. Q (disk.now name))
  told_file_after old new leaves ends Q endings known told =
      told_after old new Known (λ disk. Q (disk.now name)) (MovesFile name leaves ends) (λ a b is moves. endings (a.now name) (b.now name) is moves.ended) known told
