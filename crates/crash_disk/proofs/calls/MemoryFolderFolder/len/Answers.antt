use Rattle.crash_disk.proofs.Results.{cause_of}
use Rattle.crash_disk.proofs.calls.MemoryFolderFolder.len.Goals as goal

pub returns-in_err-pass-clause-cause : goal.returns-in_err-pass-clause-cause
returns-in_err-pass-clause-cause c = cause_of _ _ _ c.from_residual.result c.in_err-pass.ensures.cause
