use Rattle.view_ports.proofs.Told.{told_now}
use Rattle.crash_disk.proofs.Listing.{listing}
use Rattle.crash_disk.specs.State.{told}
use Rattle.crash_disk.proofs.calls.MemoryFolderFolder.names.Goals as goal

pub returns-in-Ok-clause-names : goal.returns-in-Ok-clause-names
returns-in-Ok-clause-names c =
    let folder = c.args.self.now in
    told_now (told folder) _ _ (λ disk seen. listing folder.files.files.items disk.now c.in-Ok.names.items c.in-Ok.ensures folder.files.apart seen) folder.tied
