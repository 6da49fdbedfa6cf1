-- Faults of the documents, as a request meets them.
use Rattle.std.proofs.Common.{◌≡◌, ℕ}
use Rattle.view_ports.specs.declared.file_name.FileName.{FileName}
use Rattle.gate_file.specs.declared.fault.GateFault.TheVariants as gate
use Rattle.doc_file.specs.declared.fault.DocFault.{DocFault}
use Rattle.doc_file.specs.declared.fault.DocFault.TheVariants as doc
use Rattle.view_engine.specs.declared.halt.StepFault.TheVariants.{Damaged}
use Rattle.view_engine.specs.Halts.{fault_of, halted_as}

-- damage is that of the file
pub damage_is : (fault : DocFault) (name : FileName) (at : ℕ) → fault_of (halted_as fault) ≡ Damaged name at → fault ≡ doc.Gate (gate.Damaged name at)
damage_is (doc.Gate (gate.Damaged n a)) name at is = cc
damage_is (doc.Gate gate.DiskFault) name at is = absurd (cc)
damage_is (doc.Gate (gate.Full n length)) name at is = absurd (cc)
damage_is (doc.Gate gate.NoMemory) name at is = absurd (cc)
damage_is doc.BadId name at is = absurd (cc)
damage_is (doc.BadMember n) name at is = absurd (cc)
damage_is doc.BadRev name at is = absurd (cc)
damage_is doc.TooLarge name at is = absurd (cc)
damage_is doc.TooDeep name at is = absurd (cc)
damage_is (doc.BadDesign fault) name at is = absurd (cc)
damage_is doc.Conflict name at is = absurd (cc)
damage_is doc.Missing name at is = absurd (cc)
damage_is doc.Deleted name at is = absurd (cc)
damage_is doc.NoMemory name at is = absurd (cc)
