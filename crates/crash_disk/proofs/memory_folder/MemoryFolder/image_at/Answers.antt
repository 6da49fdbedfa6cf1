use Rattle.std.proofs.Common.{◌≡◌, ℕ, ◌<◌, List, Option, Some, length, sym, subst, arith}
use Rattle.std.specs.Result.{IfOk}
use Rattle.std.proofs.lemmas.Result.{IfOk-weaker}
use Rattle.view_ports.specs.Disk.{IfTold}
use Rattle.view_ports.specs.declared.file_name.FileName.{FileName}
use Rattle.crash_disk.specs.declared.did.Did.TheVariants.{Passed}
use Rattle.crash_disk.specs.declared.moments.Moments.{Moments}
use Rattle.crash_disk.specs.Chosen.{IsChosen, IsSound}
use Rattle.crash_disk.specs.HeldFiles.{bytes_in}
use Rattle.crash_disk.specs.Moments.{disk_at}
use Rattle.crash_disk.specs.State.{calls_told, told}
use Rattle.crash_disk.specs.Told.{disk_from, disk_of}
use Rattle.crash_disk.specs.Torn.{IsLeft}
use Rattle.crash_disk.proofs.Clock.{clock_after, torn, within_sound}
use Rattle.crash_disk.proofs.Sound.{settled_sound}
use Rattle.crash_disk.proofs.memory_folder.MemoryFolder.image_at.Goals as goal

made : (moments : Moments) (now : Option Moments) (call : ℕ) → now ≡ Some moments → call < calls_told (disk_of now) → call < length moments.log.items
made moments now call is was =
    let below : call < calls_told (Some (disk_from moments)) = subst (λ m. call < calls_told (disk_of m)) is was in
    omega (arith, below, clock_after (disk_at (bytes_in moments.start)) moments.log.items)

pub torn-requires : goal.torn-requires
torn-requires c = made c.in-Some.moments c.args.self.now.moments c.args.call c.in-Some.is c.requires

pub images-requires : goal.images-requires
images-requires c = λ name.
    let moments = c.in-Some.moments in
    let below : c.args.call < length moments.log.items = made moments c.args.self.now.moments c.args.call c.in-Some.is c.requires in
    subst IsSound (sym (c.in_ok-pending.ensures Passed name))
    (within_sound (disk_at (bytes_in moments.start)) moments.log.items c.args.call Passed moments.fit (λ n. settled_sound (bytes_in moments.start n)) below name)

pub returns-clause-image : goal.returns-clause-image
returns-clause-image c =
    let moments = c.in-Some.moments in
    let below : c.args.call < length moments.log.items = made moments c.args.self.now.moments c.args.call c.in-Some.is c.requires in
    let image : FileName → List ℕ = bytes_in c.in_ok-files.files in
    subst (λ m. IfTold (disk_of m) (λ disk. IfOk c.folder_of.result (λ folder. IsLeft disk c.args.call c.args.choice (told folder)))) (sym c.in-Some.is)
    (IfOk-weaker c.folder_of.result _ _
    (λ folder is. (
      image,
      is,
      torn (bytes_in moments.start) moments.log.items c.args.call c.args.choice Passed image below
          (λ name. subst (λ file. IsChosen c.args.choice file (image name)) (c.in_ok-pending.ensures Passed name) (c.in_ok-files.ensures name)),
    ))
    c.folder_of.ensures.told)
