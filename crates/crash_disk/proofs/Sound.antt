-- Along a log each write fits, and each file is sound.
use Rattle.std.proofs.Common.{◌≡◌, inl, inr, ℕ, ◌<◌, List, [], ◌∷◌, zero, suc, cond, length, get_or, take, refl, sym, ap, subst, arith}
use Rattle.std.proofs.lemmas.Bool.{cond_both}
use Rattle.view_ports.specs.declared.file_name.FileName.{FileName}
use Rattle.view_ports.specs.File.{File, settled}
use Rattle.view_ports.specs.Disk.{Disk}
use Rattle.view_ports.proofs.Images.{settled_stays}
use Rattle.crash_disk.specs.declared.did.Change.{Change}
use Rattle.crash_disk.specs.declared.did.Change.TheVariants.{Wrote, Grew, Emptied, Synced}
use Rattle.crash_disk.specs.declared.did.Did.{Did}
use Rattle.crash_disk.specs.declared.did.Did.TheVariants.{Passed, Changed}
use Rattle.crash_disk.specs.Names.{is_same}
use Rattle.crash_disk.specs.SameNames.{same_names}
use Rattle.crash_disk.specs.Stays.{change_stays}
use Rattle.crash_disk.specs.Chosen.{IsSound}
use Rattle.crash_disk.specs.Moments.{stepped, after, noted, disk_after, FitsIn, Fits, AllFit}

pub settled_sound : (bytes : List ℕ) → IsSound (settled bytes)
settled_sound bytes = record { seen_stays = settled_stays bytes; durable_long = inl refl }

change_sound : (change : Change) (file : File) → FitsIn change file → IsSound file → IsSound (stepped change file)
change_sound (Wrote at bytes) file fits sound = record { seen_stays = change_stays (Wrote at bytes) file fits sound.seen_stays; durable_long = sound.durable_long }
change_sound (Grew by) file fits sound = record { seen_stays = change_stays (Grew by) file fits sound.seen_stays; durable_long = inr sound.durable_long }
change_sound Emptied file fits sound = record { seen_stays = change_stays Emptied file fits sound.seen_stays; durable_long = inr sound.durable_long }
change_sound Synced file fits sound = settled_sound file.seen

pub call_sound : (did : Did) (files : FileName → File) → Fits did files → ((name : FileName) → IsSound (files name)) → (name : FileName) → IsSound (after did files name)
call_sound Passed files fits sound name = sound name
call_sound (Changed at change) files fits sound name =
    cond_both (is_same at name) (stepped change (files name)) (files name) IsSound
    (λ is. change_sound change (files name) (subst (λ n. FitsIn change (files n)) (same_names at name is) fits) (sound name))
    (λ other. sound name)

pub log_sound : (disk : Disk FileName) (log : List Did) → AllFit disk.now log → ((name : FileName) → IsSound (disk.now name)) → (name : FileName) → IsSound ((disk_after disk log).now name)
log_sound disk [] fit sound = sound
log_sound disk (did ∷ log) fit sound = log_sound (noted did disk) log fit.1 (call_sound did disk.now fit.0 sound)

pub fit_take : (files : FileName → File) (log : List Did) (n : ℕ) → AllFit files log → AllFit files (take n log)
fit_take files [] zero fit = tt
fit_take files [] (suc n) fit = tt
fit_take files (did ∷ log) zero fit = tt
fit_take files (did ∷ log) (suc n) fit = (fit.0, fit_take (after did files) log n fit.1)

pub fit_at : (disk : Disk FileName) (log : List Did) (i : ℕ) (d : Did) → AllFit disk.now log → i < length log → Fits (get_or log i d) (disk_after disk (take i log)).now
fit_at disk [] i d fit below = absurd (omega arith)
fit_at disk (did ∷ log) zero d fit below = fit.0
fit_at disk (did ∷ log) (suc i) d fit below = fit_at (noted did disk) log i d fit.1 (omega arith)

-- files that are the same by name
pub fits_same : (did : Did) (a b : FileName → File) → ((name : FileName) → a name ≡ b name) → Fits did b → Fits did a
fits_same Passed a b same fits = tt
fits_same (Changed at change) a b same fits = subst (FitsIn change) (sym (same at)) fits

pub after_same : (did : Did) (a b : FileName → File) → ((name : FileName) → a name ≡ b name) → (name : FileName) → after did a name ≡ after did b name
after_same Passed a b same name = same name
after_same (Changed at change) a b same name = ap (λ file. cond (is_same at name) (stepped change file) file) (same name)
