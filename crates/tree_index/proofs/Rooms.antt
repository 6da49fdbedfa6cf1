-- Facts of each tree of an index, by what is seen of the trees and of the size of their store.
use Rattle.std.proofs.Common.{◌≡◌, ◌*◌, ◌≤◌, ℕ, List, All, sym, subst, arith}
use Rattle.std.proofs.lemmas.List.Elements.{All-weaker}
use Rattle.tree_laws.specs.declared.tree.Tree.{Tree}
use Rattle.index_trees.specs.declared.trees.IndexTrees.{IndexTrees}
use Rattle.index_trees.specs.Trees.{EachTree, HaveRoom}
use Rattle.tree_index.specs.Trees.{seen}

pub each_seen : (P : Tree → Type 0) (one other : IndexTrees) → seen other ≡ seen one → EachTree P one → EachTree P other
each_seen P one other same each =
    let both = subst (λ (t : List Tree × Tree). All P t.0 × P t.1) (sym same) (each.views, each.back) in
    record { views = both.0; back = both.1 }

-- a greater store has room too
pub room_more : (less more : ℕ) (trees : IndexTrees) → less ≤ more → HaveRoom less trees → HaveRoom more trees
room_more less more trees within room = record {
  views = All-weaker (λ (tree : Tree). 8 * tree.count ≤ less) (λ (tree : Tree). 8 * tree.count ≤ more) (λ tree fits. omega (arith, fits, within)) trees.views.items room.views;
  back = omega (arith, room.back, within);
}
