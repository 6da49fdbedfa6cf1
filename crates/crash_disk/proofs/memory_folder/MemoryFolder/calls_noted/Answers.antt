use Rattle.std.proofs.Common.{◌≡◌, Some, arith, ap, sym, ◌∙◌}
use Rattle.crash_disk.specs.HeldFiles.{bytes_in}
use Rattle.crash_disk.specs.Moments.{disk_at}
use Rattle.crash_disk.specs.State.{calls_told}
use Rattle.crash_disk.specs.Told.{disk_from, disk_of}
use Rattle.crash_disk.proofs.Clock.{clock_after}
use Rattle.crash_disk.proofs.memory_folder.MemoryFolder.calls_noted.Goals as goal

pub returns-in-Some : goal.returns-in-Some
returns-in-Some c =
    let moments = c.in-Some.moments in
    let here : c.len.result ≡ calls_told (Some (disk_from moments)) = omega (arith, clock_after (disk_at (bytes_in moments.start)) moments.log.items, moments.log.ok.0) in
    here ∙ ap (λ kept. calls_told (disk_of kept)) (sym c.in-Some.is)
