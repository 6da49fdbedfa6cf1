use Rattle.std.proofs.Common.{ap, subst}
use Rattle.view_ports.specs.Faults.{HasCause}
use Rattle.crash_disk.specs.declared.counters.Counters.{Counters}
use Rattle.crash_disk.proofs.Results.{cause_of}
use Rattle.crash_disk.proofs.calls.MemoryFolderFolder.read_at.Goals as goal

pub returns-in_err-pass-clause-cause : goal.returns-in_err-pass-clause-cause
returns-in_err-pass-clause-cause c =
    subst (λ before. HasCause before c.pass.new.self.counters.faults c.from_residual.result) (ap (λ (k : Counters). k.faults) c.read.ensures)
    (cause_of _ _ _ c.from_residual.result c.in_err-pass.ensures.cause)
