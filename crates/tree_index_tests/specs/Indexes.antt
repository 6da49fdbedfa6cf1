-- What the tests of indexes know of one that lies open.
use Rattle.std.specs.Prelude.{Option}
use Rattle.view_ports.specs.Disk.{Disk, IfTold}
use Rattle.view_ports.specs.declared.file_name.FileName.{FileName}
use Rattle.tree_index.specs.declared.index.Index.{Index}
use Rattle.tree_index.specs.Calls.{IsOpen}

-- it is at what its files hold
abbrev pub IsHeld : Index → Option (Disk FileName) → Type 0
IsHeld index disk = IfTold disk (λ d. IsOpen index d.now)
