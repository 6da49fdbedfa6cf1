use Rattle.real_ports.specs.Printed.{Grows}
use Rattle.real_ports.specs.Unread.{unread}
use Rattle.real_ports.proofs.put.put.Given as goal

-- nothing of the output is lost
abbrev pub invariant-loop : goal.invariant-loop
invariant-loop l = Grows (unread l.initial.output) (unread l.output)
