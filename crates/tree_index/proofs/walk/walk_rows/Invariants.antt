use Rattle.std.proofs.Common.{◌≡◌, ◌+◌, ◌*◌, All, List, Some, drop, length, take}
use Rattle.json_terms.specs.declared.term.Row.{Row}
use Rattle.tree_laws.specs.Stores.{Places}
use Rattle.builtin_reduces.specs.Kept.{IsKept}
use Rattle.tree_query.specs.Bare.{HoldsItems}
use Rattle.tree_query.specs.Calls.{OnlyReads, WentOver}
use Rattle.tree_query.specs.Walking.{IsAt, IsOver, height_of, left_of}
use Rattle.index_trees.specs.Trees.{row_items}
use Rattle.tree_index.proofs.walk.walk_rows.Given as goal

abbrev pub invariant-loop-row : goal.invariant-loop-row
invariant-loop-row g l =
    record {
      rows : (there : Places) (items : List Row) → g.S.NodeSource.nodes l.fn.store ≡ Some there → HoldsItems row_items there l.fn.tree items → l.rows.items ≡ take l._row items;
      rest : (there : Places) (items : List Row) → g.S.NodeSource.nodes l.fn.store ≡ Some there → HoldsItems row_items there l.fn.tree items → IsAt row_items there l.walk (drop l._row items);
      left : left_of l.walk + l._row ≡ l.fn.tree.count;
      height : height_of l.walk ≡ l.fn.tree.height;
      kept : All IsKept l.rows.items;
      number : length l.rows.items ≡ l._row;
      over : (there : Places) → g.S.NodeSource.nodes l.fn.store ≡ Some there → IsOver row_items there l.fn.tree l.walk;
      reads : OnlyReads g.S.NodeSource ((l._row + 1) * l.fn.tree.height) l.fn.store l.store l.fn.steps l.steps;
      ran : WentOver row_items g.S.NodeSource l.fn.tree l.fn.store l.store;
      ready : g.S.NodeSource.is_ready l.store;
    }
