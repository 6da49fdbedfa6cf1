-- Where no file changes, the documents stand as they stood.
use Rattle.std.proofs.Common.{◌≡◌, List, sym, subst}
use Rattle.view_ports.specs.File.{File}
use Rattle.view_ports.specs.Disk.{Disk, MovesNone}
use Rattle.view_ports.specs.declared.file_name.FileName.{FileName}
use Rattle.view_ports.proofs.DiskRuns.{none_same}
use Rattle.doc_file.specs.declared.docs.Docs.{Docs}
use Rattle.doc_file.specs.Docs.{IsAt, IsOpen}
use Rattle.design_docs.specs.History.{Write}

-- the files as one value
pub files_same : (old new : FileName → File) → ((name : FileName) → new name ≡ old name) → old ≡ new
files_same old new same = sym (λ i. λ name. same name i)

pub IsOpen-none : (docs : Docs) (old new : Disk FileName) → IsOpen docs old.now → MovesNone old new → IsOpen docs new.now
IsOpen-none docs old new is_open moves = subst (IsOpen docs) (files_same old.now new.now (none_same old new moves)) is_open

pub IsAt-none : (docs : Docs) (history : List Write) (old new : Disk FileName) → IsAt docs old.now history → MovesNone old new → IsAt docs new.now history
IsAt-none docs history old new at moves = subst (λ files. IsAt docs files history) (files_same old.now new.now (none_same old new moves)) at
