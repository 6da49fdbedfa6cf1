use Rattle.std.proofs.Common.{◌≡◌, map}
use Rattle.load_lines.specs.Numbers.{draw}
use Rattle.load_lines.specs.Lines.{first_lines}
use Rattle.load_lines.proofs.lines.first_lines.Given as goal

-- the lines are those of so many documents, and the last number is that of the last of them
abbrev pub invariant-loop-index : goal.invariant-loop-index
invariant-loop-index l = record { number : l.numbers.last ≡ draw l.seed l.index; texts : map (λ line. line.items) l.lines.items ≡ first_lines l.index l.seed }
