use Rattle.std.proofs.Common.{◌≡◌, take}
use Rattle.std.specs.Prelude.{All}
use Rattle.builtin_reduces.specs.Kept.{IsKept}
use Rattle.range_query.proofs.parts.items_of.Given as goal

abbrev pub invariant-loop-row : goal.invariant-loop-row
invariant-loop-row l = record { same : l.items.items ≡ take l.row-index l.rows; kept : All IsKept (take l.row-index l.rows) }
