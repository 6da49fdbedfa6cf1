-- A request that isn't ended by a fault of the disk counts none, since no call of it does.
use Rattle.std.proofs.Common.{◌≡◌, ◌∙◌, ℕ, List, Result, Err, inl, inr, ap}
use Rattle.view_ports.specs.Faults.{CountsFor}
use Rattle.view_ports.specs.declared.folder.Folder.{Ghosts as Folders}
use Rattle.gate_file.specs.declared.fault.GateFault.TheVariants as gate
use Rattle.doc_file.specs.declared.fault.DocFault.{DocFault}
use Rattle.doc_file.specs.declared.fault.DocFault.TheVariants as doc
use Rattle.tree_index.specs.declared.fault.IndexFault.{IndexFault}
use Rattle.tree_index.specs.declared.fault.IndexFault.TheVariants as index
use Rattle.tree_updater.specs.declared.fault.UpdateFault.{UpdateFault}
use Rattle.tree_updater.specs.Faults.{by_index}
use Rattle.tree_updater.specs.Follows.{IsOfDisk}
use Rattle.view_engine.specs.declared.halt.Halt.{Halt}
use Rattle.view_engine.specs.declared.halt.Halt.TheVariants.{Refused, Stopped}
use Rattle.view_engine.specs.declared.halt.StepFault.{StepFault}
use Rattle.view_engine.specs.declared.halt.StepFault.TheVariants.{DiskFault}
use Rattle.view_engine.specs.Calls.{IsToldAs}
use Rattle.view_engine.specs.Cleaning.{met_by_index}
use Rattle.view_engine.specs.Disks.{Spares, SparesStep}
use Rattle.view_engine.specs.Halts.{halted_as}
use Rattle.view_engine.specs.ViewPlan.{met_by}
use Rattle.view_engine.specs.Viewed.{IsTurnedAway}

-- a fault of the disk is told as that
pub disk_met_by : (id : List ℕ) (fault : UpdateFault) → IsOfDisk fault → met_by id fault ≡ Stopped DiskFault
disk_met_by id fault (inl is) = ap (met_by id) is
disk_met_by id fault (inr is) = ap (met_by id) is

pub disk_met_by_index : (id : List ℕ) (fault : IndexFault) → fault ≡ index.Store gate.DiskFault → met_by id (by_index fault) ≡ Stopped DiskFault
disk_met_by_index id fault is = ap (λ (f : IndexFault). met_by id (by_index f)) is

-- a fault of the documents never tells of the query servers
pub halted_turned : (fault : DocFault) → IsTurnedAway (Err (halted_as fault))
halted_turned doc.BadId = tt
halted_turned (doc.BadMember name) = tt
halted_turned doc.BadRev = tt
halted_turned doc.TooLarge = tt
halted_turned doc.TooDeep = tt
halted_turned (doc.BadDesign fault) = tt
halted_turned doc.Conflict = tt
halted_turned doc.Missing = tt
halted_turned doc.Deleted = tt
halted_turned (doc.Gate gate.DiskFault) = tt
halted_turned (doc.Gate (gate.Damaged name at)) = tt
halted_turned (doc.Gate (gate.Full name length)) = tt
halted_turned (doc.Gate gate.NoMemory) = tt
halted_turned doc.NoMemory = tt

module _ {F : Type 0} (f : Folders F) (old new : F) where
  -- a call of the documents that failed
  pub documents_spared : {R T : Type 0} (fault : DocFault) (halt : Halt) → CountsFor {T = R} (doc.Gate gate.DiskFault) (f.faults old) (f.faults new) (Err fault) → halt ≡ halted_as fault → Spares f {T = T} old new (Err halt)
  documents_spared fault halt counts is other = counts.still (λ failed. other (ap Err (is ∙ ap halted_as (let same : fault ≡ doc.Gate gate.DiskFault = cc in same))))

  -- removing indexes failed
  pub removing_spared : {R T : Type 0} (fault : IndexFault) (halt : Halt) → CountsFor {T = R} (index.Store gate.DiskFault) (f.faults old) (f.faults new) (Err fault) → halt ≡ met_by_index fault → Spares f {T = T} old new (Err halt)
  removing_spared fault halt counts is other = counts.still (λ failed. other (ap Err (is ∙ ap met_by_index (let same : fault ≡ index.Store gate.DiskFault = cc in same))))

  -- and what is told of a request is told of its line
  pub told_spared : (halt : Halt) (out out' : List ℕ) (result : Result (Unit {0}) StepFault) → IsToldAs halt out out' result → Spares f {T = Unit {0}} old new (Err halt) → SparesStep f old new result
  told_spared (Refused refusal) out out' result told spares other = spares (λ is. let no : ⊥ = cc in no)
  told_spared (Stopped fault) out out' result told spares other = spares (λ is. other (told.0 ∙ ap Err (let same : fault ≡ DiskFault = cc in same)))
