use Rattle.std.proofs.Common.{◌≤◌, ◌+◌, vec_len}
use Rattle.real_ports.specs.Printed.{Grows, IsUnended}
use Rattle.real_ports.specs.Unread.{unread}
use Rattle.real_ports.proofs.child_lines.ChildLines.next_line.Given as goal

-- what was searched is kept, and no line ends in it; nothing of the output is lost
abbrev pub invariant-loop : goal.invariant-loop
invariant-loop l = record {
  within : l.self.taken + l.searched ≤ vec_len l.self.kept;
  unended : IsUnended l.self.kept.items l.self.taken l.searched;
  grows : Grows (unread l.initial.self) (unread l.self);
}
