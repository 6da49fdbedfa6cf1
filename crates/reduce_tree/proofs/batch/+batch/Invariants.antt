use Rattle.std.proofs.Common.{◌≡◌, ◌+◌, ◌*◌, ◌≤◌, ◌++◌, true, ℕ, All, List, length, vec_len}
use Rattle.std.specs.List.Sorted.{IsStrictlySortedBy}
use Rattle.tree_laws.specs.declared.node.Node.TheVariants.{Inner}
use Rattle.tree_laws.specs.Fitting.{AreLarge, item_count}
use Rattle.tree_laws.specs.Nodes.{entries}
use Rattle.tree_laws.specs.SummerTrees.{AreChildren, Stands}
use Rattle.reduce_tree.specs.Applied.{applied, insertions, RemoveNone}
use Rattle.reduce_tree.specs.Charges.{pending, rounding, ArePut}
use Rattle.reduce_tree.specs.Counts.{ReadsFor}
use Rattle.reduce_tree.specs.Given.{AllGiven, Given, IsTaken, IsUnderWay}
use Rattle.tree_laws.specs.declared.tree.Tree.{Tree}
use Rattle.tree_laws.specs.Stores.{EachSince}
use Rattle.reduce_tree.specs.Calls.{places, GoOn, IsKnown, PutNone}
use Rattle.reduce_tree.specs.Rows.{IsAtLevel, leaf_items}
use Rattle.reduce_tree.specs.Sums.{IsOnTheWay, KnowsNode, KnowsPieces, KnowsRow}
use Rattle.reduce_tree.specs.Pieces.{AreAmong, ArePieces, InsertAmong}
use Rattle.reduce_tree.proofs.Pieces.{Left}
use Rattle.reduce_tree.proofs.Quiet.{Still}
use Rattle.tree_laws.specs.declared.tree.Fill.TheVariants.{Below}
use Rattle.reduce_tree.proofs.Walk.{Held}
use Rattle.reduce_tree.proofs.batch.+batch.Given as goal

abbrev pub decreases-edit_child : goal.decreases-edit_child
decreases-edit_child g l = 3 * l.low + 3

abbrev pub decreases-edit_children : goal.decreases-edit_children
decreases-edit_children g l = 3 * l.low + 4

abbrev pub decreases-edit_row : goal.decreases-edit_row
decreases-edit_row g l = 3 * l.level + 2

abbrev pub invariant-edit_children-loop-left : goal.invariant-edit_children-loop-left
invariant-edit_children-loop-left g l =
    let nodes = g.S.NodeSource.nodes in
    let puts = g.S.NodeSource.puts in
    record {
      ran : GoOn g.M.Unit.Item g.S.NodeSource g.M.Summer l.fn.store l.store l.fn.summer l.summer;
      ready : g.S.NodeSource.is_ready l.store;
      carry : IsAtLevel l.carry.level l.carry.node;
      most : l.carry.level ≤ l.low;
      large : AreLarge l.carry.level l.carry.node;
      done : AreLarge (l.low + 1) (Inner l.done.items);
      rest : AreLarge (l.low + 1) (Inner l.rest.items);
      count : item_count (Inner l.done.items) + (item_count l.carry.node + (item_count (Inner l.rest.items) + insertions l.left)) ≤ item_count (Inner l.fn.children.items) + insertions l.edits;
      ended : vec_len l.rest ≡ 0 → length l.left ≡ 0;
      same : l.carry.same ≡ true → l.done.items ++ l.rest.items ≡ l.fn.children.items;
      still : l.carry.same ≡ true → entries l.carry.node ≡ 0;
      steps : 31 * l.steps + (vec_len l.done + (vec_len l.rest + (entries l.carry.node + (rounding (entries l.carry.node) + (93 * pending l.low l.carry.level (entries l.carry.node) + (length l.left + 186 * ((l.low + 1) * length l.left))))))) ≤ 31 * l.fn.steps + (vec_len l.fn.children + (length l.edits + 186 * ((l.low + 1) * length l.edits)));
      once : 93 * length (puts l.store) + (vec_len l.done + (vec_len l.rest + (entries l.carry.node + (rounding (entries l.carry.node) + (62 * l.fn.steps + length l.left))))) ≤ 93 * length (puts l.fn.store) + (62 * l.steps + (vec_len l.fn.children + length l.edits));
      reads : ReadsFor (g.S.NodeSource.reads l.fn.store) (g.S.NodeSource.reads l.store) l.fn.steps l.steps;
      leaf : ArePut (g.S.NodeSource.size l.fn.store) (g.S.NodeSource.size l.store) (g.M.Summer.usable l.fn.summer) (insertions l.edits) (leaf_items l.carry.node + insertions l.left);
      unput : l.carry.same ≡ true → PutNone g.S.NodeSource l.fn.store l.store;
      inserts : l.carry.same ≡ true → insertions l.edits ≡ insertions l.left;
      quiet : (first : g.row.M.Denot) (items : List g.row.M-Unit.Denot) → IsKnown g.M.Unit.Item g.S.NodeSource g.M.Summer first l.fn.summer l.fn.store
          → AreChildren g.M.Unit.Item g.M.Summer first (Stands g.M.Unit.Item g.M.Summer first (places (nodes l.fn.store)) l.low) l.fn.children.items items
          → RemoveNone g.M.Unit.Item.order l.edits items → (l.carry.same ≡ true) × Still g.M.Unit.Item g.M.Summer first (places (nodes l.store)) l.low l.rest.items l.left;
      met : (first : g.row.M.Denot) (tree : Tree) (pieces : List (List ℕ)) → IsUnderWay g.M.Unit.Item g.S.NodeSource g.M.Summer first pieces l.fn.summer l.fn.store → All (Given g.M.Unit.Item g.S.NodeSource g.M.Summer first tree pieces l.fn.store l.low) l.fn.children.items
          → EachSince (IsTaken g.M.Unit.Item g.M.Summer first (places (nodes l.store)) pieces (puts l.store) tree) (g.S.NodeSource.gets l.fn.store) (g.S.NodeSource.gets l.store)
          × All (Given g.M.Unit.Item g.S.NodeSource g.M.Summer first tree pieces l.store l.low) l.done.items
          × AllGiven g.M.Unit.Item g.S.NodeSource g.M.Summer first tree pieces l.store l.carry.level l.carry.node
          × All (Given g.M.Unit.Item g.S.NodeSource g.M.Summer first tree pieces l.store l.low) l.rest.items;
      known : (first : g.row.M.Denot) (begun : g.row.S.Denot) → IsOnTheWay g.S.NodeSource g.M.Summer first begun l.fn.summer l.fn.store → KnowsRow g.M.Unit.Item g.S.NodeSource g.M.Summer first begun l.fn.summer l.fn.store l.fn.children.items
          → KnowsPieces g.M.Unit.Item g.S.NodeSource g.M.Summer first begun l.summer l.store (puts l.fn.store)
          × KnowsRow g.M.Unit.Item g.S.NodeSource g.M.Summer first begun l.summer l.store l.done.items
          × KnowsNode g.M.Unit.Item g.S.NodeSource g.M.Summer first begun l.summer l.store l.carry.node
          × KnowsRow g.M.Unit.Item g.S.NodeSource g.M.Summer first begun l.summer l.store l.rest.items;
      pieces : (first : g.row.M.Denot) (items among : List g.row.M-Unit.Denot) → IsKnown g.M.Unit.Item g.S.NodeSource g.M.Summer first l.fn.summer l.fn.store → IsStrictlySortedBy g.M.Unit.Item.order items
          → AreChildren g.M.Unit.Item g.M.Summer first (Stands g.M.Unit.Item g.M.Summer first (places (nodes l.fn.store)) l.low) l.fn.children.items items → AreAmong among items → InsertAmong among l.edits
          → ArePieces g.M.Unit.Item g.M.Summer first among (places (nodes l.store)) Below (puts l.fn.store) (puts l.store) × Left g.M.Unit.Item g.M.Summer first among (places (nodes l.store)) l.low l.rest.items l.left;
      items : (first : g.row.M.Denot) (items : List g.row.M-Unit.Denot) → IsKnown g.M.Unit.Item g.S.NodeSource g.M.Summer first l.fn.summer l.fn.store → IsStrictlySortedBy g.M.Unit.Item.order items
          → AreChildren g.M.Unit.Item g.M.Summer first (Stands g.M.Unit.Item g.M.Summer first (places (nodes l.fn.store)) l.low) l.fn.children.items items
          → Held g.M.Unit.Item g.M.Summer first (places (nodes l.store)) l.low l.done.items l.carry.level l.carry.node l.rest.items l.left (applied g.M.Unit.Item.order l.edits items);
    }

abbrev pub decreases-edit_children-loop-left : goal.decreases-edit_children-loop-left
decreases-edit_children-loop-left g l = vec_len l.rest
