-- The bytes of held files.
use Rattle.std.specs.Prelude.{ℕ, List}
use Rattle.view_ports.specs.declared.file_name.FileName.{FileName}
use Rattle.crash_disk.specs.declared.held_files.HeldFiles.{HeldFiles}
use Rattle.crash_disk.specs.Held.{bytes_of}

abbrev pub bytes_in : HeldFiles → FileName → List ℕ
bytes_in held name = bytes_of held.files.items name
