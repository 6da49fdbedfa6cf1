use Rattle.std.proofs.Common.{◌≡◌, ◌*◌, List, Some, length, take}
use Rattle.json_terms.specs.declared.term.Row.{Row}
use Rattle.tree_laws.specs.Stores.{Places}
use Rattle.tree_query.specs.Bare.{HoldsItems}
use Rattle.tree_query.specs.Calls.{OnlyReads, WentOver}
use Rattle.index_items.specs.BackIndex.{IsBackIndex}
use Rattle.index_items.specs.BackItem.{BackEntry}
use Rattle.index_trees.specs.Edits.{old_places}
use Rattle.index_trees.specs.Trees.{back_items}
use Rattle.index_trees.proofs.old_places.all_old_places.Given as goal

abbrev pub invariant-loop-change : goal.invariant-loop-change
invariant-loop-change g l =
    record {
      places : (there : Places) (entries : List BackEntry) (views : List (List Row)) → g.S.NodeSource.nodes l.fn.store ≡ Some there → HoldsItems back_items there l.back entries → IsBackIndex views entries
          → l.olds.items ≡ old_places (take l.change-index l.changes) views;
      number : length l.olds.items ≡ l.change-index;
      reads : OnlyReads g.S.NodeSource (l.change-index * (2 * l.back.height)) l.fn.store l.store l.fn.steps l.steps;
      ran : WentOver back_items g.S.NodeSource l.back l.fn.store l.store;
      ready : g.S.NodeSource.is_ready l.store;
    }
