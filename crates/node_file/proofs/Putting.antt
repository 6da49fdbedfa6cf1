-- What a record that was appended puts.
use Rattle.std.proofs.Common.{◌≡◌, ℕ, List, Result, Ok, Err, subst}
use Rattle.view_ports.specs.Disk.{Disk}
use Rattle.view_ports.specs.declared.file_name.FileName.{FileName}
use Rattle.gate_file.specs.declared.gate.GateFile.{GateFile}
use Rattle.gate_file.specs.Calls.{Appends, KeepsIn}
use Rattle.gate_file.specs.GateFile.{appended, name_of, IsAppended}
use Rattle.std.specs.Prelude.{length}
use Rattle.tree_laws.specs.Nodes.{IsSized, sized}
use Rattle.node_file.specs.Puts.{Puts}
use Rattle.node_file.specs.RecordLaws.{appended_put}

pub puts_of : {T E : Type 0} (result : Result T E) (gate : GateFile) (piece written : List ℕ) (a b : Disk FileName) → written ≡ sized piece → IsSized piece → KeepsIn gate a → Appends gate written result a b → Puts gate piece result a b
puts_of (Err fault) gate piece written a b is small keeps moved = tt
puts_of (Ok value) gate piece written a b is small keeps moved =
    appended_put gate (appended gate (length written)) piece (a.now (name_of gate)) (b.now (name_of gate)) small keeps
    (subst (λ (bytes : List ℕ). IsAppended (appended gate (length written)) bytes (a.now (name_of gate)) (b.now (name_of gate))) is moved.ended)
