-- What a folder in memory tells: all, where it keeps its moments.
use Rattle.std.specs.Prelude.{◌≡◌, Option, Some, None}
use Rattle.std.specs.Coded.{Π_prop, Unit-prop, Coded-set, coded_list, coded_ℕ}
use Rattle.view_ports.specs.declared.file_name.FileName.{FileName}
use Rattle.view_ports.specs.Disk.{Disk, IfTold}
use Rattle.crash_disk.specs.declared.held_files.HeldFiles.{HeldFiles}
use Rattle.crash_disk.specs.declared.moments.Moments.{Moments}
use Rattle.crash_disk.specs.HeldFiles.{bytes_in}
use Rattle.crash_disk.specs.Moments.{disk_after, disk_at}

abbrev pub disk_from : Moments → Disk FileName
disk_from moments = disk_after (disk_at (bytes_in moments.start)) moments.log.items

abbrev pub disk_of : Option Moments → Option (Disk FileName)
disk_of None = None
disk_of (Some moments) = Some (disk_from moments)

-- the held bytes are what a read gives
abbrev pub AreSeen : HeldFiles → Disk FileName → Type 0
AreSeen held disk = (name : FileName) → bytes_in held name ≡ (disk.now name).seen

abbrev pub IsTied : Option Moments → HeldFiles → Type 0
IsTied moments held = IfTold (disk_of moments) (AreSeen held)

AreSeen-prop : (held : HeldFiles) (disk : Disk FileName) → IsProp (AreSeen held disk)
AreSeen-prop held disk = Π_prop (λ name. Coded-set (coded_list coded_ℕ) (bytes_in held name) (disk.now name).seen)

pub IsTied-prop : (moments : Option Moments) (held : HeldFiles) → IsProp (IsTied moments held)
IsTied-prop None held = Unit-prop
IsTied-prop (Some moments) held = AreSeen-prop held (disk_from moments)
