use Rattle.std.proofs.Common.{◌≡◌, ◌++◌, List, All, length}
use Rattle.json_terms.specs.declared.term.Row.{Row}
use Rattle.builtin_reduces.specs.Kept.{IsKept}
use Rattle.range_query.specs.Summed.{ArePartSums}
use Rattle.range_query.proofs.parts.part_sums.Given as goal

-- the rows that are done stand before those that are left, and the sums are those of their parts
abbrev pub invariant-loop-left : goal.invariant-loop-left
invariant-loop-left g l = record {
  done : List Row;
  both : done ++ l.left ≡ l.group;
  sums : ArePartSums (g.M.Summer.lawful l.initial.summer) (g.M.Summer.meaning l.initial.summer) done l.sums.items;
  fits : All (g.M.Summer.fits l.initial.summer) l.sums.items;
  kept : All IsKept done;
  goes : g.M.Summer.goes l.initial.summer l.summer;
}

abbrev pub decreases-loop-left : goal.decreases-loop-left
decreases-loop-left g l = length l.left
