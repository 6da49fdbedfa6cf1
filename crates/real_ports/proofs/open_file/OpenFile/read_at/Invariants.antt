use Rattle.std.proofs.Common.{◌≤◌, length}
use Rattle.real_ports.proofs.open_file.OpenFile.read_at.Given as goal

-- what was read fits
abbrev pub invariant-loop : goal.invariant-loop
invariant-loop l = l.filled ≤ length l.into
