-- What was read of the output of children, and isn't part of a line that was taken.
use Rattle.std.specs.Prelude.{ℕ, List, [], Option, Some, None, drop, slice_index_or}
use Rattle.real_ports.specs.declared.child_lines.ChildLines.{ChildLines}
use Rattle.real_ports.specs.declared.piped_child.PipedChild.{PipedChild}
use Rattle.real_ports.specs.declared.real_servers.RealServers.{RealServers}

abbrev pub unread : ChildLines → List ℕ
unread lines = drop lines.taken lines.kept.items

abbrev pub unread_of : Option PipedChild → List ℕ
unread_of None = []
unread_of (Some child) = unread child.output

abbrev pub unread_at : RealServers → ℕ → List ℕ
unread_at servers slot = unread_of (slice_index_or servers.children.items slot None)
