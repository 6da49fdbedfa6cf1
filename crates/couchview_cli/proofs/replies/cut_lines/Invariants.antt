use Rattle.std.specs.Prelude.{◌≡◌, ◌++◌, All, length, map}
use Rattle.std.specs.List.{flat_map}
use Rattle.view_ports.specs.Lines.{ended, IsLine}
use Rattle.couchview_cli.proofs.replies.cut_lines.Given as goal

-- the text is the lines so far and the rest
abbrev pub invariant-loop-line : goal.invariant-loop-line
invariant-loop-line l = (l.text ≡ flat_map ended (map (λ line. line.now) l.lines.items) ++ l.rest) × All IsLine (map (λ line. line.now) l.lines.items)

abbrev pub decreases-loop-line : goal.decreases-loop-line
decreases-loop-line l = length l.rest
