-- The disk and the validity of a log after one more call.
use Rattle.std.proofs.Common.{◌≡◌, inl, inr, Bool, List, [], ◌∷◌, ◌++◌, cond, refl, sym, ◌∙◌, subst}
use Rattle.std.proofs.lemmas.Bool.{cases_Bool, cond-true, cond-false}
use Rattle.view_ports.specs.declared.file_name.FileName.{FileName}
use Rattle.view_ports.specs.Disk.{Disk}
use Rattle.crash_disk.specs.declared.did.Did.{Did}
use Rattle.crash_disk.specs.Moments.{Fits, AllFit, noted, disk_after}

pub disk_push : (disk : Disk FileName) (log : List Did) (did : Did) → disk_after disk (log ++ did ∷ []) ≡ noted did (disk_after disk log)
disk_push disk [] did = refl
disk_push disk (first ∷ log) did = disk_push (noted first disk) log did

pub fit_push : (disk : Disk FileName) (log : List Did) (did : Did) → AllFit disk.now log → Fits did (disk_after disk log).now → AllFit disk.now (log ++ did ∷ [])
fit_push disk [] did fit fits = (fits, tt)
fit_push disk (first ∷ log) did fit fits = (fit.0, fit_push (noted first disk) log did fit.1 fits)

-- a push that may have failed
pub fit_pushed : (disk : Disk FileName) (log new : List Did) (did : Did) (ok : Bool) → new ≡ cond ok (log ++ did ∷ []) log → AllFit disk.now log → Fits did (disk_after disk log).now → AllFit disk.now new
fit_pushed disk log new did ok is fit fits =
    elim (cases_Bool ok) [
      | inl yes' ↦ subst (AllFit disk.now) (sym (is ∙ cond-true ok (log ++ did ∷ []) log yes')) (fit_push disk log did fit fits)
      | inr no' ↦ subst (AllFit disk.now) (sym (is ∙ cond-false ok (log ++ did ∷ []) log no')) fit
    ]
