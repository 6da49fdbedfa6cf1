-- Trees of an index without rows.
use Rattle.std.specs.Prelude.{◌≡◌, ◌*◌, ◌≤◌, ℕ, zero, suc, List, [], replicate, slice_index_or, refl, Option}
use Rattle.std.specs.List.Sorted.{IsStrictlySortedBy}
use Rattle.std.proofs.Common.{sym, ◌∙◌, subst, arith}
use Rattle.std.proofs.lemmas.List.{length-replicate}
use Rattle.std.proofs.lemmas.List.Elements.{All-replicate}
use Rattle.json_terms.specs.declared.term.Row.{Row}
use Rattle.design_docs.specs.declared.design.View.{View}
use Rattle.view_ports.specs.Functions.{Functions}
use Rattle.tree_laws.specs.declared.item.Item.{Ghosts as Items}
use Rattle.tree_laws.specs.declared.tree.Tree.{Tree}
use Rattle.tree_laws.specs.Meaning.{Values}
use Rattle.tree_laws.specs.Stores.{Places}
use Rattle.tree_laws.specs.Trees.{IsTree, IsTreeSize}
use Rattle.child_pool.specs.ReduceTalk.{reduce_in}
use Rattle.index_items.specs.BackIndex.{IsBackIndex, places_from}
use Rattle.index_items.proofs.Rising.{contains-none}
use Rattle.index_trees.specs.Laws.{EmptyTreesHaveRoom, EmptyTreesHaveSizes, EmptyTreesHoldNothing, no_tree}
use Rattle.index_trees.specs.Trees.{back_items, no_summaries, row_items, EachAt, HasRows}
use Rattle.index_trees.specs.ViewValues.{view_values}

-- it holds no items of any kind
is_empty : {T S : Type 0} (i : Items T) (v : Values T S) (there : Places) → IsTree i v there no_tree []
unfolding IsStrictlySortedBy
is_empty i v there = record { root = refl; count = refl; rises = tt }

abbrev no_rows : ℕ → List (List Row)
no_rows count = replicate count []

none_at : (count k : ℕ) → slice_index_or (no_rows count) k [] ≡ []
none_at zero k = refl
none_at (suc count) zero = refl
none_at (suc count) (suc k) = none_at count k

-- what is so at each number is so of each of so many
each_replicate : {X : Type 0} (P : ℕ → X → Type 0) (x : X) → ((k : ℕ) → P k x) → (number count : ℕ) → EachAt P number (replicate count x)
each_replicate P x all number zero = tt
each_replicate P x all number (suc count) = (all number, each_replicate P x all (suc number) count)

-- no document has a row in them
no_places : (first count : ℕ) (id : List ℕ) → places_from first (no_rows count) id ≡ []
no_places first zero id = refl
no_places first (suc count) id = no_places (suc first) count id

no_entries : (count : ℕ) → IsBackIndex (no_rows count) []
no_entries count entry = (λ there. absurd (contains-none entry there), λ of. absurd (of.some (of.all ∙ no_places 0 count entry.id)))

rows_of_none : (functions : Option Functions) (views : List View) (there : Places) (count view : ℕ) → HasRows functions views there (no_rows count) view no_tree
rows_of_none functions views there count view =
    let v = view_values functions (reduce_in views view) in
    subst (IsTree row_items v there no_tree) (sym (none_at count view)) (is_empty row_items v there)

pub empty_trees_hold_nothing : EmptyTreesHoldNothing
empty_trees_hold_nothing functions views there count = record {
  number = length-replicate count no_tree ∙ sym (length-replicate {A = List Row} count []);
  each = each_replicate (HasRows functions views there (no_rows count)) no_tree (rows_of_none functions views there count) 0 count;
  entries = [];
  are = no_entries count;
  listed = is_empty back_items no_summaries there;
}

is_size : IsTreeSize no_tree
is_size = record { most = omega arith; empty = (λ none. refl, λ none. refl); least = λ some. absurd (omega (arith, some)) }

pub empty_trees_have_sizes : EmptyTreesHaveSizes
empty_trees_have_sizes count = (All-replicate IsTreeSize count no_tree is_size, is_size)

pub empty_trees_have_room : EmptyTreesHaveRoom
empty_trees_have_room count size =
    let none : 8 * no_tree.count ≤ size = omega arith in
    (All-replicate (λ (tree : Tree). 8 * tree.count ≤ size) count no_tree none, none)
