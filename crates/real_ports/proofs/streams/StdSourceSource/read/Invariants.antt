use Rattle.std.proofs.Common.{◌≡◌}
use Rattle.std.specs.Io.KnownBytes.{Keeps}
use Rattle.real_ports.proofs.streams.StdSourceSource.read.Given as goal

-- what was interrupted took nothing, and is no fault
abbrev pub invariant-loop : goal.invariant-loop
invariant-loop g l = record {
  same_bytes : Keeps (g.R.Read.remaining l.initial.self.input) (g.R.Read.remaining l.self.input);
  same_count : l.self.faults ≡ l.initial.self.faults;
}
