-- What is read is one of the images that a crash may leave, at each moment.
use Rattle.std.proofs.Common.{List, [], ◌∷◌, Some, None, Option, subst}
use Rattle.view_ports.specs.declared.file_name.FileName.{FileName}
use Rattle.view_ports.specs.File.{File, IsImage}
use Rattle.view_ports.specs.Disk.{Disk, IfTold, SeenStays}
use Rattle.view_ports.proofs.Images.{settled_stays, stays_written, stays_grown, stays_emptied}
use Rattle.crash_disk.specs.declared.did.Change.{Change}
use Rattle.crash_disk.specs.declared.did.Change.TheVariants.{Wrote, Grew, Emptied, Synced}
use Rattle.crash_disk.specs.declared.did.Did.{Did}
use Rattle.crash_disk.specs.declared.did.Did.TheVariants.{Passed, Changed}
use Rattle.crash_disk.specs.declared.moments.Moments.{Moments}
use Rattle.crash_disk.specs.Names.{is_same}
use Rattle.crash_disk.specs.HeldFiles.{bytes_in}
use Rattle.crash_disk.specs.Moments.{stepped, noted, disk_after, disk_at, FitsIn, Fits, AllFit}
use Rattle.crash_disk.specs.Told.{disk_of}
use Rattle.crash_disk.specs.SameNames.{same_names}
use Rattle.std.proofs.lemmas.Bool.{cond_both}

pub change_stays : (change : Change) (file : File) → FitsIn change file → IsImage file file.seen → IsImage (stepped change file) (stepped change file).seen
change_stays (Wrote at bytes) file fits stays = stays_written at bytes.items file fits stays
change_stays (Grew by) file fits stays = stays_grown by file stays
change_stays Emptied file fits stays = stays_emptied file
change_stays Synced file fits stays = settled_stays file.seen

pub call_stays : (did : Did) (disk : Disk FileName) → Fits did disk.now → SeenStays disk → SeenStays (noted did disk)
call_stays Passed disk fits stays = stays
call_stays (Changed at change) disk fits stays = λ name.
    cond_both (is_same at name) (stepped change (disk.now name)) (disk.now name) (λ file. IsImage file file.seen)
    (λ is. change_stays change (disk.now name) (subst (λ n. FitsIn change (disk.now n)) (same_names at name is) fits) (stays name))
    (λ other. stays name)

pub log_stays : (disk : Disk FileName) (log : List Did) → AllFit disk.now log → SeenStays disk → SeenStays (disk_after disk log)
log_stays disk [] fit stays = stays
log_stays disk (did ∷ log) fit stays = log_stays (noted did disk) log fit.1 (call_stays did disk fit.0 stays)

pub moments_stay : (moments : Option Moments) → IfTold (disk_of moments) SeenStays
moments_stay None = tt
moments_stay (Some moments) = log_stays (disk_at (bytes_in moments.start)) moments.log.items moments.fit (λ name. settled_stays (bytes_in moments.start name))
