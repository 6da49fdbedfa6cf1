use Rattle.std.proofs.Common.{◌≡◌, take}
use Rattle.view_ports.specs.declared.file_name.FileName.{FileName}
use Rattle.crash_disk.specs.HeldFiles.{bytes_in}
use Rattle.crash_disk.specs.Moments.{disk_after, disk_at}
use Rattle.crash_disk.specs.PendingFiles.{file_in}
use Rattle.crash_disk.proofs.moments.Moments.torn.Given as goal

-- the files after the calls so far
abbrev pub invariant-loop-did : goal.invariant-loop-did
invariant-loop-did l = (name : FileName) → file_in l.pending name ≡ (disk_after (disk_at (bytes_in l.self.start)) (take l.did-index l.earlier)).now name
