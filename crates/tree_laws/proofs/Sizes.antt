-- How many items stand below the nodes of a tree, and that each node fits its place.
use Rattle.std.proofs.Common.{◌≡◌, ◌↔◌, ◌<◌, ◌≤◌, ◌*◌, ◌-◌, ◌^◌, ℕ, zero, suc, Some, List, [], ◌∷◌, All, length, length-append, refl, sym, ap, ◌∙◌, subst, arith}
use Rattle.std.specs.List.{sum_by}
use Rattle.std.proofs.Math.Dec.{eqb-suc-zero}
use Rattle.std.proofs.Math.Nat.{mul-le-mul_right, pow-succ'}
use Rattle.std.proofs.lemmas.List.Elements.{All-cons, All-nil}
use Rattle.std.proofs.lemmas.List.Sums.{sum_by-cons}
use Rattle.tree_laws.specs.declared.item.Item.{Ghosts as Items}
use Rattle.tree_laws.specs.declared.node.Child.{Child}
use Rattle.tree_laws.specs.declared.node.Node.{Node}
use Rattle.tree_laws.specs.declared.node.Node.TheVariants.{Leaf, Inner}
use Rattle.tree_laws.specs.declared.tree.Fill.{Fill}
use Rattle.tree_laws.specs.declared.tree.Fill.TheVariants.{Root, Below}
use Rattle.tree_laws.specs.declared.tree.Tree.{Tree}
use Rattle.tree_laws.specs.Fetching.{IsBadAt}
use Rattle.tree_laws.specs.Fitting.{IsFilled, IsFitFor}
use Rattle.tree_laws.specs.Meaning.{Values}
use Rattle.tree_laws.specs.Nodes.{entries}
use Rattle.tree_laws.specs.Stores.{Places}
use Rattle.tree_laws.specs.Trees.{AreChildren, Has, HasRoot, IsAt, IsTree, IsTreeSize, Stands}

power_some : (n : ℕ) → 1 ≤ 8 ^ n
power_some zero = omega arith
power_some (suc n) = let some = power_some n in omega (arith, some, pow-succ' 8 n)

module _ {T S : Type 0} (i : Items T) (v : Values T S) where
  -- the numbers of the children add up to that of all items
  pub counts_add : (P : ℕ → List T → Type 0) (children : List (Child T)) (items : List T) → AreChildren v P children items → sum_by (λ child. child.count) children ≡ length items
  counts_add P [] items h = sym (ap length h)
  counts_add P (child ∷ children) items h =
      let others = counts_add P children h.back h.at_back in
      omega (arith, sum_by-cons (λ (c : Child T). c.count) child children, others, h.at_front.count, ap length h.whole, length-append h.front h.back)

  all_large : (P : ℕ → List T → Type 0) (least : ℕ) → ((at : ℕ) (items : List T) → P at items → least ≤ length items) → (children : List (Child T)) (items : List T) → AreChildren v P children items → All (λ child. least ≤ child.count) children
  all_large P least large [] items h = All-nil (λ child. least ≤ child.count)
  all_large P least large (child ∷ children) items h =
      let own = large child.at h.front h.at_front.stands in
      All-cons (λ child. least ≤ child.count) child children (omega (arith, own, h.at_front.count)) (all_large P least large children h.back h.at_back)

  all_together : (P : ℕ → List T → Type 0) (least : ℕ) → ((at : ℕ) (items : List T) → P at items → least ≤ length items) → (children : List (Child T)) (items : List T) → AreChildren v P children items → length children * least ≤ length items
  all_together P least large [] items h = omega arith
  all_together P least large (child ∷ children) items h =
      let own = large child.at h.front h.at_front.stands in
      let others = all_together P least large children h.back h.at_back in
      omega (arith, own, others, ap length h.whole, length-append h.front h.back)

  module _ (there : Places) where
    -- a node below the root has 8 entries at least, and so has each below it
    has_many : (level : ℕ) (node : Node T) (items : List T) → 8 ≤ entries node → Has i v there level node items → 8 ^ suc level ≤ length items
    has_many zero (Leaf own) items many h = omega (arith, ap length h)
    has_many zero (Inner children) items many h = absurd h
    has_many (suc level) (Leaf own) items many h = absurd h
    has_many (suc level) (Inner children) items many h =
        let least = 8 ^ suc level in
        let all = all_together (Stands i v there level) least (λ at xs s. has_many level s.node xs s.filled.least s.has) children items h in
        let product = mul-le-mul_right {m = 8} {n = length children} least many in
        omega (arith, all, product, pow-succ' 8 (suc level))

    pub stands_many : (level at : ℕ) (items : List T) → Stands i v there level at items → 8 ^ suc level ≤ length items
    stands_many level at items s = has_many level s.node items s.filled.least s.has

    -- a node that has these items fits where they are to stand
    pub has_fits : (level : ℕ) (node : Node T) (items : List T) (fill : Fill) → IsFilled fill node → Has i v there level node items → IsFitFor level (length items) fill node
    has_fits zero (Leaf own) items fill filled h = record { kind = refl; filled = filled; large = tt; items = ap length (sym h) }
    has_fits zero (Inner children) items fill filled h = absurd h
    has_fits (suc level) (Leaf own) items fill filled h = absurd h
    has_fits (suc level) (Inner children) items fill filled h = record {
      kind = sym (eqb-suc-zero level);
      filled = filled;
      large = all_large (Stands i v there level) (8 ^ suc level) (stands_many level) children items h;
      items = counts_add (Stands i v there level) children items h;
    }

    -- a root has as many items at least as fit its height
    has_some : (level : ℕ) (node : Node T) (items : List T) → IsFilled Root node → Has i v there level node items → 8 ^ level ≤ length items
    has_some zero (Leaf own) items filled h = let least = filled.least in omega (arith, ap length h)
    has_some zero (Inner children) items filled h = absurd h
    has_some (suc level) (Leaf own) items filled h = absurd h
    has_some (suc level) (Inner children) items filled h =
        let least = 8 ^ suc level in
        let all = all_together (Stands i v there level) least (stands_many level) children items h in
        let product = mul-le-mul_right {m = 2} {n = length children} least filled.least in
        omega (arith, all, product)

    at_not_bad : (level at : ℕ) (items : List T) (fill : Fill) → IsAt i there (Has i v there level) fill at items → IsBadAt i level (length items) fill there at → ⊥
    at_not_bad level at items fill s b =
        let same : Some _ ≡ Some b.bytes = sym s.bytes ∙ b.stand in
        b.bad s.node s.fits (has_fits level s.node items fill s.filled s.has) (cc)

    pub below_not_bad : (level at : ℕ) (items : List T) → Stands i v there level at items → IsBadAt i level (length items) Below there at → ⊥
    below_not_bad level at items s b = at_not_bad level at items Below s b

    root_fits : (root height : ℕ) (items : List T) → 0 < height → HasRoot i v there root height items → IsBadAt i (height - 1) (length items) Root there root → ⊥
    root_fits root zero items some h b = absurd (omega arith)
    root_fits root (suc level) items some h b = at_not_bad level root items Root h (subst (λ l. IsBadAt i l (length items) Root there root) (omega arith) b)

    pub root_not_bad : (tree : Tree) (items : List T) → IsTree i v there tree items → 0 < tree.height → IsBadAt i (tree.height - 1) tree.count Root there tree.root → ⊥
    root_not_bad tree items h some b = root_fits tree.root tree.height items some h.root (subst (λ n. IsBadAt i (tree.height - 1) n Root there tree.root) h.count b)

    root_many : (root height : ℕ) (items : List T) → 0 < height → HasRoot i v there root height items → 8 ^ (height - 1) ≤ length items
    root_many root zero items some h = absurd (omega arith)
    root_many root (suc level) items some h = subst (λ l. 8 ^ l ≤ length items) (omega arith) (has_some level h.node items h.filled h.has)

    no_items : (root height : ℕ) (items : List T) → HasRoot i v there root height items → (height ≡ 0) ↔ (length items ≡ 0)
    no_items root zero items h = (λ e. ap length h, λ e. refl)
    no_items root (suc level) items h =
        let many = has_some level h.node items h.filled h.has in
        let some = power_some level in
        (λ e. absurd (omega arith), λ e. absurd (omega (arith, many, some)))

    pub tree_size : (tree : Tree) (items : List T) → IsTree i v there tree items → length items ≤ 2 ^ 40 → IsTreeSize tree
    tree_size tree items h few =
        let sizes = no_items tree.root tree.height items h.root in
        record {
          most = omega (arith, h.count);
          empty = (λ e. h.count ∙ sizes.0 e, λ e. sizes.1 (sym h.count ∙ e));
          least = λ some. let many = root_many tree.root tree.height items some h.root in omega (arith, many, h.count);
        }
