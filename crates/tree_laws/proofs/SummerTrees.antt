-- The lemmas on trees, for the values of a summer as it was at first.
use Rattle.std.proofs.Common.{◌≡◌, ◌≢◌, ◌<◌, ◌≤◌, ◌-◌, ◌^◌, ℕ, suc, Some, List, [], ◌∷◌, ◌++◌, All, length}
use Rattle.std.specs.List.{sum_by}
use Rattle.tree_laws.specs.declared.item.Item.{Ghosts as Items}
use Rattle.tree_laws.specs.declared.summer.Summer.{Ghosts as Summers}
use Rattle.tree_laws.specs.declared.node.Child.{Child}
use Rattle.tree_laws.specs.declared.node.Node.{Node}
use Rattle.tree_laws.specs.declared.tree.Fill.{Fill}
use Rattle.tree_laws.specs.declared.tree.Fill.TheVariants.{Root, Below}
use Rattle.tree_laws.specs.declared.tree.Tree.{Tree}
use Rattle.tree_laws.specs.Fetching.{IsBadAt}
use Rattle.tree_laws.specs.Fitting.{IsFilled, IsFitFor}
use Rattle.tree_laws.specs.Nodes.{FitsNode, spelled_node}
use Rattle.tree_laws.specs.Spelled.{IsSpelledOnce}
use Rattle.tree_laws.specs.Stores.{Extends, Places}
use Rattle.tree_laws.specs.SummerTrees.{AreChildren, Has, HasRoot, IsAt, IsChild, IsTree, IsTreeSize, Joins, Stands}
use Rattle.tree_laws.specs.Values.{values_of}
use Rattle.tree_laws.proofs.Parts as parts
use Rattle.tree_laws.proofs.Sizes as sizes
use Rattle.tree_laws.proofs.Structure as structure

module _ {T M Sum Fault : Type 0} (i : Items T) (m : Summers M T Sum Fault) (first : M) where
  -- ---- what stays where nodes are added

  module _ (P Q : ℕ → List T → Type 0) (f : (at : ℕ) (items : List T) → P at items → Q at items) where
    pub child_stays : (child : Child T) (items : List T) → IsChild i m first P child items → IsChild i m first Q child items
    child_stays = structure.child_passes (values_of m first) (values_of m first) (structure.same_sums (values_of m first)) P Q f

    pub children_stay : (children : List (Child T)) (items : List T) → AreChildren i m first P children items → AreChildren i m first Q children items
    children_stay = structure.children_pass (values_of m first) (values_of m first) (structure.same_sums (values_of m first)) P Q f

  module _ (old new : Places) (e : Extends old new) where
    pub has_stays : (level : ℕ) (node : Node T) (items : List T) → Has i m first old level node items → Has i m first new level node items
    has_stays = structure.has_passes i (values_of m first) (values_of m first) (structure.same_sums (values_of m first)) old new e

    pub stands_stays : (level at : ℕ) (items : List T) → Stands i m first old level at items → Stands i m first new level at items
    stands_stays = structure.stands_passes i (values_of m first) (values_of m first) (structure.same_sums (values_of m first)) old new e Below

    pub root_stays : (root height : ℕ) (items : List T) → HasRoot i m first old root height items → HasRoot i m first new root height items
    root_stays = structure.root_passes i (values_of m first) (values_of m first) (structure.same_sums (values_of m first)) old new e

    pub tree_stays : (tree : Tree) (items : List T) → IsTree i m first old tree items → IsTree i m first new tree items
    tree_stays = structure.tree_passes i (values_of m first) (values_of m first) (structure.same_sums (values_of m first)) old new e

  -- ---- rows of children

  module _ (P : ℕ → List T → Type 0) where
    pub children_append : (cs ds : List (Child T)) (xs ys : List T) → AreChildren i m first P cs xs → AreChildren i m first P ds ys → AreChildren i m first P (cs ++ ds) (xs ++ ys)
    children_append = parts.children_append i (values_of m first) P

    pub children_split : (cs ds : List (Child T)) (xs : List T) → AreChildren i m first P (cs ++ ds) xs → Joins (AreChildren i m first P cs) (AreChildren i m first P ds) xs
    children_split = parts.children_split i (values_of m first) P

    pub children_one : (c : Child T) (xs : List T) → IsChild i m first P c xs → AreChildren i m first P (c ∷ []) xs
    children_one = parts.children_one i (values_of m first) P

    pub child_some : (c : Child T) (xs : List T) → IsChild i m first P c xs → xs ≢ []
    child_some = parts.child_some i (values_of m first) P

    abbrev pub AreParts : List (Child T) → List T → Type 0
    AreParts = parts.AreParts i (values_of m first) P

    pub parts_of : (cs : List (Child T)) (xs : List T) → AreChildren i m first P cs xs → AreParts cs xs
    parts_of = parts.parts_of i (values_of m first) P

    pub counts_add : (children : List (Child T)) (items : List T) → AreChildren i m first P children items → sum_by (λ child. child.count) children ≡ length items
    counts_add = sizes.counts_add i (values_of m first) P

  -- ---- nodes

  module _ (there : Places) where
    pub items_fit : (level : ℕ) (node : Node T) (items : List T) → FitsNode i.fits i.spelled node → Has i m first there level node items → All i.fits items
    items_fit = parts.items_fit i (values_of m first) there

    pub same_node : IsSpelledOnce i.fits i.spelled → (P : Node T → List T → Type 0) (fill : Fill) (at : ℕ) (items : List T) (got : Node T) → FitsNode i.fits i.spelled got → there at ≡ Some (spelled_node i.spelled got) → IsAt i m first there P fill at items → P got items
    same_node = parts.same_node i (values_of m first) there

    pub stands_many : (level at : ℕ) (items : List T) → Stands i m first there level at items → 8 ^ suc level ≤ length items
    stands_many = sizes.stands_many i (values_of m first) there

    pub has_fits : (level : ℕ) (node : Node T) (items : List T) (fill : Fill) → IsFilled fill node → Has i m first there level node items → IsFitFor level (length items) fill node
    has_fits = sizes.has_fits i (values_of m first) there

    pub below_not_bad : (level at : ℕ) (items : List T) → Stands i m first there level at items → IsBadAt i level (length items) Below there at → ⊥
    below_not_bad = sizes.below_not_bad i (values_of m first) there

    pub root_not_bad : (tree : Tree) (items : List T) → IsTree i m first there tree items → 0 < tree.height → IsBadAt i (tree.height - 1) tree.count Root there tree.root → ⊥
    root_not_bad = sizes.root_not_bad i (values_of m first) there

    pub tree_size : (tree : Tree) (items : List T) → IsTree i m first there tree items → length items ≤ 2 ^ 40 → IsTreeSize tree
    tree_size = sizes.tree_size i (values_of m first) there
