-- What stands at the places that a call on a tree reaches.
use Rattle.std.proofs.Common.{◌≡◌, ◌-◌, ◌<◌, ℕ, zero, suc, Option, List, [], ◌∷◌, ◌++◌, Contains, subst, arith}
use Rattle.std.proofs.lemmas.List.Elements.{All-contains_itself, All-head, All-tail, All-weaker}
use Rattle.tree_laws.specs.declared.item.Item.{Ghosts as Items}
use Rattle.tree_laws.specs.declared.node.Child.{Child}
use Rattle.tree_laws.specs.declared.node.Node.{Node}
use Rattle.tree_laws.specs.declared.node.Node.TheVariants.{Inner, Leaf}
use Rattle.tree_laws.specs.declared.tree.Fill.{Fill}
use Rattle.tree_laws.specs.declared.tree.Fill.TheVariants.{Root, Below}
use Rattle.tree_laws.specs.declared.tree.Tree.{Tree}
use Rattle.tree_laws.specs.Fetching.{IsBadAt}
use Rattle.tree_laws.specs.Meaning.{Values}
use Rattle.tree_laws.specs.Reaching.{IsMet, IsUnfit, Reaches, StandsFit, below, root}
use Rattle.tree_laws.specs.Spelled.{IsSpelledOnce}
use Rattle.tree_laws.specs.Stores.{Places, WhereTold}
use Rattle.tree_laws.specs.Trees.{Has, HasRoot, IsAt, IsTree}
use Rattle.tree_laws.proofs.Parts.{same_node}
use Rattle.tree_laws.proofs.Reached.{met_own, reached_there}
use Rattle.tree_laws.proofs.Sizes.{below_not_bad, root_not_bad}
use Rattle.tree_query.specs.Reaching.{AreReached}
use Rattle.tree_query.specs.Summaries.{IsRead}

module _ {T : Type 0} (i : Items T) (there : Places) (tree : Tree) where
  pub children_reached : (at level : ℕ) (children : List (Child T)) → IsMet i there tree at (suc level) (Inner children) → AreReached i there tree level children
  children_reached at level children h =
      All-weaker (Contains children) (λ child. Reaches i there tree child.at level child.count Below)
      (λ child inside. below at level h.count h.fill children child h.reached h.stands inside) children (All-contains_itself children)

  pub reached_back : (level : ℕ) (front back : List (Child T)) → AreReached i there tree level (front ++ back) → AreReached i there tree level back
  reached_back level [] back h = h
  reached_back level (c ∷ cs) back h = reached_back level cs back (All-tail (λ child. Reaches i there tree child.at level child.count Below) c (cs ++ back) h)

  pub reached_first : (level : ℕ) (c : Child T) (cs : List (Child T)) → AreReached i there tree level (c ∷ cs) → Reaches i there tree c.at level c.count Below
  reached_first level c cs h = All-head (λ child. Reaches i there tree child.at level child.count Below) c cs h

module _ {T S : Type 0} (i : Items T) (v : Values T S) (there : Places) where
  pub has_leaf : (level : ℕ) (xs items : List T) → Has i v there level (Leaf xs) items → items ≡ xs
  has_leaf zero xs items h = h
  has_leaf (suc level) xs items h = absurd h

module _ {T S : Type 0} (i : Items T) (v : Values T S) (once : IsSpelledOnce i.fits i.spelled) (there : Places) where
  -- a node that was got has the items of the one that stands there
  pub has_got : (P : Node T → List T → Type 0) (at level count : ℕ) (fill place : Fill) (items : List T) (node : Node T) → StandsFit i there at level count fill node → IsAt i there P place at items → P node items
  has_got P at level count fill place items node s h = same_node i v there once P place at items node s.fits s.bytes h

  pub root_at : (place height : ℕ) (items : List T) → 0 < height → HasRoot i v there place height items → IsAt i there (Has i v there (height - 1)) Root place items
  root_at place zero items some h = absurd (omega arith)
  root_at place (suc level) items some h = subst (λ l. IsAt i there (Has i v there l) Root place items) (omega arith) h

  module _ (tree : Tree) (items : List T) (is : IsTree i v there tree items) where
    reached_not_bad : (at level count : ℕ) (fill : Fill) → Reaches i there tree at level count fill → IsBadAt i level count fill there at → ⊥
    reached_not_bad at level count fill (root some) b = root_not_bad i v there tree items is some b
    reached_not_bad at level count fill (below up low n place children child r s inside) b =
        let own = met_own i v there once up low n place children child (reached_there i v there once tree items is up (suc low) n place r) s inside in
        below_not_bad i v there low child.at own.items own.is.stands (subst (λ k. IsBadAt i low k Below there child.at) own.is.count b)

    -- what a node that is met keeps of a child is the bytes of a value
    pub met_summary : (at level : ℕ) (children : List (Child T)) (child : Child T) → IsMet i there tree at level (Inner children) → Contains children child → IsRead v child.sum
    met_summary at zero children child h inside = let k = h.stands.place.kind in absurd (cc)
    met_summary at (suc level) children child h inside =
        let own = met_own i v there once at level h.count h.fill children child (reached_there i v there once tree items is at (suc level) h.count h.fill h.reached) h.stands inside in
        record { sum = own.is.sum.sum; fits = own.is.sum.fits; bytes_are = own.is.sum.bytes_are }

    -- no place that is reached over a tree is bad
    pub none_unfit : (at : ℕ) → IsUnfit i there tree at → ⊥
    none_unfit at u = reached_not_bad at u.level u.count u.fill u.reached u.bad

-- the first of the children left is reached
module _ {T : Type 0} (i : Items T) (tree : Tree) where
  pub first_reached : (told : Option Places) (at level low : ℕ) (node : Node T) (cs front rest : List (Child T)) (c : Child T) → WhereTold told (λ there. IsMet i there tree at level node) → node ≡ Inner cs → level ≡ suc low → cs ≡ front ++ (c ∷ rest)
      → WhereTold told (λ there. Reaches i there tree c.at low c.count Below)
  first_reached told at level low node cs front rest c met is up e there is-told =
      let met' : IsMet i there tree at (suc low) (Inner cs) = subst (λ l. IsMet i there tree at l (Inner cs)) up (subst (λ n. IsMet i there tree at level n) is (met there is-told)) in
      let all : AreReached i there tree low (front ++ (c ∷ rest)) = subst (AreReached i there tree low) e (children_reached i there tree at low cs met') in
      reached_first i there tree low c rest (reached_back i there tree low front (c ∷ rest) all)

  pub node_met : (told : Option Places) (at level count : ℕ) (fill : Fill) (node : Node T) → WhereTold told (λ there. Reaches i there tree at level count fill) → WhereTold told (λ there. StandsFit i there at level count fill node)
      → WhereTold told (λ there. IsMet i there tree at level node)
  node_met told at level count fill node r s there is-told = record { count = count; fill = fill; reached = r there is-told; stands = s there is-told }
