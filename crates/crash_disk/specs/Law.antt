-- What a folder in memory reads is one of the images that a crash may leave now.
use Rattle.view_ports.specs.Disk.{IfTold, SeenStays}
use Rattle.crash_disk.specs.declared.memory_folder.MemoryFolder.{MemoryFolder}
use Rattle.crash_disk.specs.State.{told}
use Rattle.crash_disk.specs.Stays.{moments_stay}

pub told_stays : (folder : MemoryFolder) → IfTold (told folder) SeenStays
told_stays folder = moments_stay folder.moments
