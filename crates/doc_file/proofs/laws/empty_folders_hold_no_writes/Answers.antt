use Rattle.std.proofs.Common.{[], refl}
use Rattle.view_ports.specs.declared.file_name.Stem.TheVariants.{Docs as DocsStem}
use Rattle.gate_file.proofs.Images.{empty_holds}
use Rattle.doc_file.specs.Held.{HoldsWrites}
use Rattle.doc_file.proofs.Carried.{writes_of_root}
use Rattle.doc_file.proofs.laws.empty_folders_hold_no_writes.Goals as goal

pub returns : goal.returns
returns c = λ files empty. empty_holds DocsStem HoldsWrites writes_of_root files empty [] (record { entries = []; holds = (refl, refl); each = λ id. tt; stored = tt })
