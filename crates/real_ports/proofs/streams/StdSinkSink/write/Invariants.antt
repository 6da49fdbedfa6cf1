use Rattle.std.proofs.Common.{◌≡◌}
use Rattle.std.specs.Io.KnownBytes.{Keeps}
use Rattle.real_ports.proofs.streams.StdSinkSink.write.Given as goal

-- what was interrupted wrote nothing, and is no fault
abbrev pub invariant-loop : goal.invariant-loop
invariant-loop g l = record {
  same_bytes : Keeps (g.W.Write.contents l.initial.self.output) (g.W.Write.contents l.self.output);
  same_count : l.self.faults ≡ l.initial.self.faults;
}
