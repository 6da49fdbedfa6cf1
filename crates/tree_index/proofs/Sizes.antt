-- The test of the numbers of trees is right.
use Rattle.std.proofs.Common.{◌≡◌, ◌≢◌, ◌⊎◌, inl, inr, ◌-◌, ◌^◌, ◌≤◌, ℕ, List, [], ◌∷◌, All, length, refl, sym, ap, ◌∙◌, arith}
use Rattle.std.specs.Prelude.{Bool, true, false, nat_eq, nat_le, replicate, if◌then◌else◌}
use Rattle.std.specs.Cmp.{first_so, second_so}
use Rattle.std.specs.List.{list_all}
use Rattle.std.proofs.lemmas.Bool.{cases_eq}
use Rattle.std.proofs.lemmas.Bool.Decides.{nat_tests}
use Rattle.std.proofs.lemmas.List.Elements.{All-cons, All-head, All-nil, All-tail, All-weaker}
use Rattle.tree_laws.specs.declared.tree.Tree.{Tree}
use Rattle.tree_laws.specs.Trees.{IsTreeSize}
use Rattle.reduce_tree.proofs.Nodes.{power_some}
use Rattle.row_exchange.proofs.NewRows.{both_so}
use Rattle.index_trees.specs.declared.trees.IndexTrees.{IndexTrees}
use Rattle.index_items.specs.RootRecord.{IsContent, IsTreeAt}
use Rattle.index_trees.specs.Laws.{no_tree}
use Rattle.index_trees.specs.Trees.{AreSizes}
use Rattle.index_trees.proofs.NoTrees.{empty_trees_have_sizes}
use Rattle.tree_index.specs.Sizes.{are_sizes, is_size}
use Rattle.tree_index.specs.Trees.{seen}

-- the part of the test that depends on the height
abbrev is_enough : Tree → Bool
is_enough tree = if nat_eq tree.height 0 then nat_eq tree.count 0 else nat_le (8 ^ (tree.height - 1)) tree.count

size_of : (tree : Tree) → is_size tree ≡ true → IsTreeSize tree
size_of tree is = by_height (cases_eq tree.height 0)
  where
    most : nat_le tree.count (2 ^ 40) ≡ true
    most = first_so (nat_le tree.count (2 ^ 40)) (is_enough tree) is

    enough : is_enough tree ≡ true
    enough = second_so (nat_le tree.count (2 ^ 40)) (is_enough tree) is

    few : tree.count ≤ 2 ^ 40
    few = grind (arith, nat_tests)

    by_height : (tree.height ≡ 0) ⊎ (tree.height ≢ 0) → IsTreeSize tree
    by_height (inl none) =
        let test : nat_eq tree.height 0 ≡ true = grind (arith, nat_tests) in
        let empty : nat_eq tree.count 0 ≡ true = sym (ap (λ b. if b then nat_eq tree.count 0 else nat_le (8 ^ (tree.height - 1)) tree.count) test) ∙ enough in
        let no_items : tree.count ≡ 0 = grind (arith, nat_tests) in
        record { most = few; empty = (λ same. no_items, λ same. none); least = λ some. absurd (omega (arith, none, some)) }
    by_height (inr some) =
        let test : nat_eq tree.height 0 ≡ false = grind (arith, nat_tests) in
        let filled : nat_le (8 ^ (tree.height - 1)) tree.count ≡ true = sym (ap (λ b. if b then nat_eq tree.count 0 else nat_le (8 ^ (tree.height - 1)) tree.count) test) ∙ enough in
        let least : 8 ^ (tree.height - 1) ≤ tree.count = grind (arith, nat_tests) in
        record { most = few; empty = (λ same. absurd (some same), λ same. (let one = power_some (tree.height - 1) in absurd (omega (arith, one, least, same)))); least = λ more. least }

size_is : (tree : Tree) → IsTreeSize tree → is_size tree ≡ true
size_is tree size = both_so (nat_le tree.count (2 ^ 40)) (is_enough tree) most (by_height (cases_eq tree.height 0))
  where
    most : nat_le tree.count (2 ^ 40) ≡ true
    most = (let few = size.most in grind (arith, nat_tests))

    by_height : (tree.height ≡ 0) ⊎ (tree.height ≢ 0) → is_enough tree ≡ true
    by_height (inl none) =
        let test : nat_eq tree.height 0 ≡ true = grind (arith, nat_tests) in
        let no_items : tree.count ≡ 0 = size.empty.0 none in
        let empty : nat_eq tree.count 0 ≡ true = grind (arith, nat_tests) in
        ap (λ b. if b then nat_eq tree.count 0 else nat_le (8 ^ (tree.height - 1)) tree.count) test ∙ empty
    by_height (inr some) =
        let test : nat_eq tree.height 0 ≡ false = grind (arith, nat_tests) in
        let least : 8 ^ (tree.height - 1) ≤ tree.count = size.least (omega (arith, some)) in
        let filled : nat_le (8 ^ (tree.height - 1)) tree.count ≡ true = grind (arith, nat_tests) in
        ap (λ b. if b then nat_eq tree.count 0 else nat_le (8 ^ (tree.height - 1)) tree.count) test ∙ filled

all_sizes : (trees : List Tree) → list_all is_size trees ≡ true → All IsTreeSize trees
all_sizes [] is = All-nil IsTreeSize
all_sizes (tree ∷ trees) is = All-cons IsTreeSize tree trees (size_of tree (first_so (is_size tree) (list_all is_size trees) is)) (all_sizes trees (second_so (is_size tree) (list_all is_size trees) is))

all_are : (trees : List Tree) → All IsTreeSize trees → list_all is_size trees ≡ true
all_are [] all = refl
all_are (tree ∷ trees) all = both_so (is_size tree) (list_all is_size trees) (size_is tree (All-head IsTreeSize tree trees all)) (all_are trees (All-tail IsTreeSize tree trees all))

pub sizes_of : (trees : IndexTrees) → are_sizes trees.views.items trees.back ≡ true → AreSizes trees
sizes_of trees is = record {
  views = all_sizes trees.views.items (first_so (list_all is_size trees.views.items) (is_size trees.back) is);
  back = size_of trees.back (second_so (list_all is_size trees.views.items) (is_size trees.back) is);
}

pub are_sizes_of : (trees : IndexTrees) → AreSizes trees → are_sizes trees.views.items trees.back ≡ true
are_sizes_of trees sizes = both_so (list_all is_size trees.views.items) (is_size trees.back) (all_are trees.views.items sizes.views) (size_is trees.back sizes.back)

pub sizes_of_lists : (views : List Tree) (back : Tree) → All IsTreeSize views → IsTreeSize back → are_sizes views back ≡ true
sizes_of_lists views back all last = both_so (list_all is_size views) (is_size back) (all_are views all) (size_is back last)

-- the same trees have the same numbers
pub same_sizes : (one other : IndexTrees) → seen other ≡ seen one → are_sizes one.views.items one.back ≡ true → are_sizes other.views.items other.back ≡ true
same_sizes one other same is = ap (λ (t : List Tree × Tree). are_sizes t.0 t.1) same ∙ is

pub same_number : (one other : IndexTrees) → seen other ≡ seen one → length other.views.items ≡ length one.views.items
same_number one other same = ap (λ (t : List Tree × Tree). length t.0) same

-- trees that a root record names have them
pub sizes_said : (count offset seq : ℕ) (views : List Tree) (back : Tree) → IsContent count offset seq views back → are_sizes views back ≡ true
sizes_said count offset seq views back content =
    sizes_of_lists views back (All-weaker (IsTreeAt offset) IsTreeSize (λ tree at. at.fit.size) views content.each) content.back_fits.fit.size

pub no_sizes : (count : ℕ) → are_sizes (replicate count no_tree) no_tree ≡ true
no_sizes count = let both = empty_trees_have_sizes count in sizes_of_lists (replicate count no_tree) no_tree both.0 both.1
