use Rattle.std.proofs.Common.{Some, ap, subst, ◌∙◌, sym}
use Rattle.std.specs.Option.{option_map}
use Rattle.view_ports.specs.Disk.{IfTold}
use Rattle.crash_disk.specs.HeldFiles.{bytes_in}
use Rattle.crash_disk.specs.Moments.{Fits, noted, disk_at, disk_after}
use Rattle.crash_disk.specs.Told.{disk_of}
use Rattle.crash_disk.proofs.Logs.{disk_push, fit_pushed}
use Rattle.crash_disk.proofs.noted.note.Goals as goal

pub invariant_of-moments : goal.invariant_of-moments
invariant_of-moments c =
    let moments = c.in-Some.moments in
    let fits = subst (λ m. IfTold (disk_of m) (λ disk. Fits c.args.did disk.now)) c.in-Some.is c.requires in
    record { fit = fit_pushed (disk_at (bytes_in moments.start)) moments.log.items _ c.args.did _ c.push.ensures.items moments.fit fits }

pub returns-in_ok-push-clause-ok : goal.returns-in_ok-push-clause-ok
returns-in_ok-push-clause-ok c =
    let moments = c.in-Some.moments in
    let start = disk_at (bytes_in moments.start) in
    ap (λ log. Some (disk_after start log)) c.in_ok-push.ensures.items
    ∙ ap Some (disk_push start moments.log.items c.args.did)
    ∙ ap (λ m. option_map (noted c.args.did) (disk_of m)) (sym c.in-Some.is)
