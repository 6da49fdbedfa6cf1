-- What is so of trees that hold the rows of an index.
use Rattle.std.specs.Prelude.{◌≡◌, ◌<◌, ◌+◌, ◌^◌, ℕ, zero, suc, List, [], ◌∷◌, All, map, length, slice_index_or, true, refl, Option, None, Some}
use Rattle.std.specs.List.{list_all}
use Rattle.std.specs.List.Sorted.{IsStrictlySortedBy}
use Rattle.std.proofs.Common.{sym, subst, arith}
use Rattle.std.proofs.lemmas.Bool.{lt-ltb}
use Rattle.std.proofs.lemmas.List.Elements.{All-cons, All-from_get_or, All-head, All-nil, All-tail, All-weaker}
use Rattle.std.proofs.lemmas.List.Sums.{list_all-from_AllPass}
use Rattle.json_terms.specs.Seen.{json}
use Rattle.json_terms.specs.declared.term.Row.{Row}
use Rattle.raw_collation.specs.Sorting.{sorted_rows}
use Rattle.design_docs.specs.declared.design.Reduce.{Reduce}
use Rattle.design_docs.specs.declared.design.Reduce.TheVariants as reduce
use Rattle.design_docs.specs.declared.design.View.{View}
use Rattle.view_ports.specs.Functions.{Functions}
use Rattle.tree_laws.specs.declared.tree.Tree.{Tree}
use Rattle.tree_laws.specs.Meaning.{Values}
use Rattle.tree_laws.specs.Stores.{Places}
use Rattle.tree_laws.specs.Trees.{HasRoot, IsTree}
use Rattle.tree_laws.specs.Values.{PassFor}
use Rattle.tree_laws.proofs.Parts.{items_fit}
use Rattle.tree_laws.proofs.Sizes.{tree_size}
use Rattle.tree_laws.proofs.Structure.{other_sums, same_sums, tree_passes}
use Rattle.builtin_reduces.specs.Kept.{IsKept, item_cmp}
use Rattle.child_pool.specs.ReduceTalk.{reduce_in}
use Rattle.child_pool.proofs.Parts.{within}
use Rattle.row_exchange.specs.Rows.{is_row}
use Rattle.index_trees.specs.Laws.{HasSizeOfTree, TreesAreInOrder, TreesHaveSizes, TreesHoldWithout, TreesKeepRowsWithinBounds, TreesRise, TreesStay}
use Rattle.index_trees.specs.Trees.{back_items, no_summaries, row_items, EachAt, HasRows, HoldTrees}
use Rattle.index_trees.specs.ViewValues.{value_by, view_values, IsKnownBy}
use Rattle.index_trees.proofs.ItemOrder.{rising_stay}
use Rattle.index_trees.proofs.Sequences.{each_map, each_there, rows_stay}

-- ---- in a larger store

pub trees_stay : TreesStay
trees_stay functions views there later trees back rows extends holds = record {
  number = holds.number;
  each = each_map (HasRows functions views there rows) (HasRows functions views later rows) (λ view tree. rows_stay functions views there later rows view tree extends) 0 trees holds.each;
  entries = holds.entries;
  are = holds.are;
  listed = tree_passes back_items no_summaries no_summaries (same_sums no_summaries) there later extends back holds.entries holds.listed;
}

-- ---- without the functions

known_anyway : (functions : Option Functions) (r : Reduce) → IsKnownBy None r → IsKnownBy functions r
known_anyway functions reduce.Absent known = tt
known_anyway functions (reduce.Builtin kind) known = tt
known_anyway functions (reduce.Source source) known = absurd known

same_anyway : (functions : Option Functions) (r : Reduce) → IsKnownBy None r → (rows : List Row) → value_by None r rows ≡ value_by functions r rows
same_anyway None r known rows = refl
same_anyway (Some f) reduce.Absent known rows = refl
same_anyway (Some f) (reduce.Builtin kind) known rows = refl
same_anyway (Some f) (reduce.Source source) known rows = absurd known

pass_without : (functions : Option Functions) (r : Reduce) → PassFor (view_values functions r) (view_values None r)
pass_without functions r = record { spelled = λ sum. refl; fits = λ sum fits. fits; lawful = known_anyway functions r; value = same_anyway functions r }

rows_without : (functions : Option Functions) (views : List View) (there : Places) (rows : List (List Row)) (view : ℕ) (tree : Tree) → HasRows functions views there rows view tree → HasRows None views there rows view tree
rows_without functions views there rows view tree =
    let r = reduce_in views view in
    let v = view_values functions r in
    let w = view_values None r in
    tree_passes row_items v w (other_sums v w (pass_without functions r)) there there (λ at bytes is. is) tree _

pub trees_hold_without : TreesHoldWithout
trees_hold_without functions views there trees back rows holds = record {
  number = holds.number;
  each = each_map (HasRows functions views there rows) (HasRows None views there rows) (rows_without functions views there rows) 0 trees holds.each;
  entries = holds.entries;
  are = holds.are;
  listed = holds.listed;
}

-- ---- the rows of each view

module _ (functions : Option Functions) (views : List View) (there : Places) (trees : List Tree) (back : Tree) (rows : List (List Row)) (holds : HoldTrees functions views there trees back rows) where
  -- what is so of the rows of each tree
  all_rows : (P : List Row → Type 0) → ((view : ℕ) (tree : Tree) → HasRows functions views there rows view tree → P (slice_index_or rows view [])) → All P rows
  all_rows P each = All-from_get_or P rows [] at
    where
      at : (k : ℕ) → k < length rows → P (slice_index_or rows k [])
      at k within =
          let same = holds.number in
          let has = each_there (HasRows functions views there rows) 0 trees holds.each k (omega (arith, within, same)) in
          let number : 0 + k ≡ k = omega arith in
          subst (λ m. P (slice_index_or rows m [])) number (each (0 + k) has.0 has.1)

pub trees_rise : TreesRise
trees_rise functions views there trees back rows holds = all_rows functions views there trees back rows holds (IsStrictlySortedBy item_cmp) (λ view tree has. has.rises)

-- rows that rise in each view are in order
pub all_stay : (rows : List (List Row)) → All (IsStrictlySortedBy item_cmp) rows → map sorted_rows rows ≡ rows
all_stay [] rise = refl
all_stay (own ∷ rows) rise =
    let first : sorted_rows own ≡ own = rising_stay own (All-head (IsStrictlySortedBy item_cmp) own rows rise) in
    let others = all_stay rows (All-tail (IsStrictlySortedBy item_cmp) own rows rise) in
    λ i. first i ∷ others i

pub trees_are_in_order : TreesAreInOrder
trees_are_in_order functions views there trees back rows holds = all_stay rows (trees_rise functions views there trees back rows holds)

-- ---- rows within the bounds

module _ {S : Type 0} (v : Values Row S) (there : Places) where
  root_keeps : (height root : ℕ) (items : List Row) → HasRoot row_items v there root height items → All IsKept items
  root_keeps zero root items none = subst (All IsKept) (sym none) (All-nil IsKept)
  root_keeps (suc level) root items stands = items_fit row_items v there level stands.node items stands.fits stands.has

  pub tree_keeps : (tree : Tree) (items : List Row) → IsTree row_items v there tree items → All IsKept items
  tree_keeps tree items is = root_keeps tree.height tree.root items is.root

kept_row : (row : Row) → IsKept row → is_row row ≡ true
kept_row row kept = rw (lt-ltb (length row.id) (2 ^ 32) (omega (arith, kept.short)), within (json row.key) kept.key, within (json row.value) kept.value) refl

kept_rows : (items : List Row) → All IsKept items → list_all is_row items ≡ true
kept_rows items kept = list_all-from_AllPass is_row items (All-weaker IsKept (λ row. is_row row ≡ true) kept_row items kept)

-- the rows of each view are within the bounds of what a tree keeps
pub trees_keep : (functions : Option Functions) (views : List View) (there : Places) (trees : List Tree) (back : Tree) (rows : List (List Row)) → HoldTrees functions views there trees back rows → All (All IsKept) rows
trees_keep functions views there trees back rows holds =
    all_rows functions views there trees back rows holds (All IsKept) (λ view tree has. tree_keeps (view_values functions (reduce_in views view)) there tree (slice_index_or rows view []) has)

pub trees_keep_rows_within_bounds : TreesKeepRowsWithinBounds
trees_keep_rows_within_bounds functions views there trees back rows holds =
    list_all-from_AllPass (list_all is_row) rows (All-weaker (All IsKept) (λ own. list_all is_row own ≡ true) kept_rows rows (trees_keep functions views there trees back rows holds))

-- ---- numbers

-- what is so of each element by its number is so of all
all_from_each : {X : Type 0} (P : X → Type 0) (Q : ℕ → X → Type 0) → ((k : ℕ) (x : X) → Q k x → P x) → (number : ℕ) (xs : List X) → EachAt Q number xs → All P xs
all_from_each P Q f number [] each = All-nil P
all_from_each P Q f number (x ∷ xs) each = All-cons P x xs (f number x each.0) (all_from_each P Q f (suc number) xs each.1)

size_of_tree : (functions : Option Functions) (views : List View) (there : Places) (rows : List (List Row)) (view : ℕ) (tree : Tree) → HasRows functions views there rows view tree → HasSizeOfTree tree
size_of_tree functions views there rows view tree has few =
    let same = has.count in
    tree_size row_items (view_values functions (reduce_in views view)) there tree (slice_index_or rows view []) has (omega (arith, same, few))

pub trees_have_sizes : TreesHaveSizes
trees_have_sizes functions views there trees back rows holds = (
  all_from_each HasSizeOfTree (HasRows functions views there rows) (size_of_tree functions views there rows) 0 trees holds.each,
  λ few.
      let same = (holds.listed).count in
      tree_size back_items no_summaries there back holds.entries holds.listed (omega (arith, same, few)),
)
