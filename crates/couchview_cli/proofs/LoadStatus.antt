-- A load is done, unless a port fails, memory runs out, a file is full, or the folder has writes.
use Rattle.std.specs.Prelude.{◌≡◌, ◌⊎◌, ℕ, List, [], Option}
use Rattle.std.proofs.Common.{sym, ◌∙◌, subst, inl, inr}
use Rattle.view_ports.specs.Calls.{Call}
use Rattle.view_ports.specs.Disk.{IfTold}
use Rattle.view_ports.specs.Functions.{Functions}
use Rattle.view_ports.specs.declared.file_name.FileName.{FileName}
use Rattle.view_ports.proofs.Told.{told_all, told_now}
use Rattle.view_engine.specs.declared.halt.StepFault.{StepFault}
use Rattle.view_engine.specs.declared.halt.StepFault.TheVariants.{Damaged, DiskFault, NoMemory}
use Rattle.view_engine.specs.World.{World}
use Rattle.couchview_cli.specs.Loading.{IsPrinted, LoadEndsAtFile, Loads}
use Rattle.couchview_cli.specs.Serving.{Outside}
use Rattle.couchview_cli.proofs.Statuses.{closed}

abbrev IsWhole : ℕ → Type 0
IsWhole status = (status ≡ 0) ⊎ ((status ≡ 6) ⊎ (status ≡ 10))

wider : (status : ℕ) → (status ≡ 0) ⊎ (status ≡ 6) → IsWhole status
wider status (inl is) = inl is
wider status (inr is) = inr (inl is)

printed : (before after : Option (List ℕ)) (text : List ℕ) (status : ℕ) → IsPrinted before after text status → (status ≡ 4 → ⊥) → IsWhole status
printed before after text status (inl whole) sink = inl whole.0
printed before after text status (inr failed) sink = absurd (sink failed.0)

module _ (functions : List ℕ → Functions) (honest : List ℕ → Type 0) (docs seed : ℕ) (opening : World) (before after : Outside) (AtEnd : List Call → Type 0) (status : ℕ) (disk : status ≡ 3 → ⊥) (sink : status ≡ 4 → ⊥)
    (file : LoadEndsAtFile functions honest docs seed opening before after AtEnd status → ⊥) where
  pub whole_load : Loads functions honest docs seed opening before after AtEnd status → IfTold before.disk (λ d. IsWhole status)
  whole_load (inl (none, inl all)) = told_all before.disk _ (λ d. printed before.held after.held _ status all.prints sink)
  whole_load (inl (none, inr (inl cut))) =
      told_now before.disk (λ d. (name : FileName) (at : ℕ) → cut.fault ≡ Damaged name at → ⊥) _
      (λ d whole. wider status (closed before.held after.held [] cut.fault status cut.closes whole (λ name size is. file (cut, (name, size, is))) disk sink))
      (subst (λ (fault : StepFault). IfTold before.disk (λ d. (name : FileName) (at : ℕ) → fault ≡ Damaged name at → ⊥)) cut.is cut.cut.whole)
  whole_load (inl (none, inr (inr (inl unread)))) =
      told_now before.disk (λ d. unread.fault ≡ DiskFault) _
      (λ d is. wider status (closed before.held after.held [] unread.fault status unread.closes (λ name at damaged. let never : ⊥ = not_damaged name at (sym is ∙ damaged) in never) unread.room disk sink)) unread.whole
    where
      not_damaged : (name : FileName) (at : ℕ) → DiskFault ≡ Damaged name at → ⊥
      not_damaged name at is = cc
  whole_load (inl (none, inr (inr (inr given_up)))) =
      told_all before.disk _ (λ d. wider status (closed before.held after.held [] NoMemory status given_up.closes (λ name at is. let never : ⊥ = cc in never) (λ name size is. let never : ⊥ = cc in never) disk sink))
  whole_load (inr (inl writes)) = told_all before.disk _ (λ d. inr (inr writes.is_10))
  whole_load (inr (inr unopened)) =
      told_now before.disk (λ d. (name : FileName) (at : ℕ) → unopened.fault ≡ Damaged name at → ⊥) _
      (λ d whole. wider status (closed before.held after.held [] unopened.fault status unopened.closes whole unopened.room disk sink)) unopened.whole
