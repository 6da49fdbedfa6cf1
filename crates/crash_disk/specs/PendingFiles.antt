-- Files with what is pending on them, as the disk has them.
use Rattle.view_ports.specs.declared.file_name.FileName.{FileName}
use Rattle.view_ports.specs.File.{File}
use Rattle.crash_disk.specs.declared.pending_files.PendingFiles.{PendingFiles}
use Rattle.crash_disk.specs.PendingList.{file_named}

abbrev pub file_in : PendingFiles → FileName → File
file_in pending name = file_named pending.files.items name
