use Rattle.std.specs.Prelude.{◌≡◌, ◌++◌, map, take}
use Rattle.std.specs.List.{flat_map}
use Rattle.view_ports.specs.Lines.{ended}
use Rattle.couchview_cli.proofs.load.append_lines.Given as goal

-- the lines so far stand behind the text
abbrev pub invariant-loop-line : goal.invariant-loop-line
invariant-loop-line l = l.text.items ≡ l.initial.text.items ++ flat_map ended (map (λ line. line.items) (take l.line-index l.lines))
