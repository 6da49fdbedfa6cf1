-- What stands at the places that are reached over a tree.
use Rattle.std.proofs.Common.{◌≡◌, ◌-◌, ◌<◌, ℕ, zero, suc, List, [], ◌∷◌, All, Contains, length, subst, sym, arith}
use Rattle.std.proofs.lemmas.List.Elements.{All-cons, All-contains, All-nil}
use Rattle.tree_laws.specs.declared.item.Item.{Ghosts as Items}
use Rattle.tree_laws.specs.declared.node.Child.{Child}
use Rattle.tree_laws.specs.declared.node.Node.{Node}
use Rattle.tree_laws.specs.declared.node.Node.TheVariants.{Inner}
use Rattle.tree_laws.specs.declared.tree.Fill.{Fill}
use Rattle.tree_laws.specs.declared.tree.Fill.TheVariants.{Root}
use Rattle.tree_laws.specs.declared.tree.Tree.{Tree}
use Rattle.tree_laws.specs.Fitting.{IsFitFor}
use Rattle.tree_laws.specs.Meaning.{Values}
use Rattle.tree_laws.specs.Reaching.{Reaches, StandsFit, below, root}
use Rattle.tree_laws.specs.Spelled.{IsSpelledOnce}
use Rattle.tree_laws.specs.Stores.{Places}
use Rattle.tree_laws.specs.Trees.{AreChildren, Has, HasRoot, IsChild, IsTree, Stands, StandsAs}
use Rattle.tree_laws.proofs.Parts.{same_node}
use Rattle.tree_laws.proofs.Sizes.{has_fits}

module _ {T S : Type 0} (i : Items T) (v : Values T S) where
  -- a child with the items below it
  pub record IsOwn (P : ℕ → List T → Type 0) (child : Child T) : Type 0 where
    pub items : List T
    pub is : IsChild v P child items

  all_own : (P : ℕ → List T → Type 0) (children : List (Child T)) (items : List T) → AreChildren v P children items → All (IsOwn P) children
  all_own P [] items h = All-nil (IsOwn P)
  all_own P (c ∷ cs) items h = All-cons (IsOwn P) c cs (record { items = h.front; is = h.at_front }) (all_own P cs h.back h.at_back)

  module _ (there : Places) where
    -- a node with the right items stands at the place
    pub record IsThere (at level count : ℕ) (fill : Fill) : Type 0 where
      pub items : List T
      pub stands : StandsAs i v there fill level at items
      pub counted : count ≡ length items

    root_at : (place height : ℕ) (items : List T) → 0 < height → HasRoot i v there place height items → StandsAs i v there Root (height - 1) place items
    root_at place zero items some h = absurd (omega arith)
    root_at place (suc level) items some h = subst (λ l. StandsAs i v there Root l place items) (omega arith) h

    -- a node that fits and has the right items is the one that is wanted
    there_fits : (at level count : ℕ) (fill : Fill) → IsThere at level count fill → (node : Node T) × StandsFit i there at level count fill node
    there_fits at level count fill k =
        let s = k.stands in
        (s.node, record { fits = s.fits; bytes = s.bytes; place = subst (λ n. IsFitFor level n fill s.node) (sym k.counted) (has_fits i v there level s.node k.items fill s.filled s.has) })

    -- each child of a node that stands there is there too, since no other node has the same bytes
    pub met_own : IsSpelledOnce i.fits i.spelled → (at level count : ℕ) (fill : Fill) (children : List (Child T)) (child : Child T) → IsThere at (suc level) count fill → StandsFit i there at (suc level) count fill (Inner children) → Contains children child → IsOwn (Stands i v there level) child
    met_own once at level count fill children child k s inside =
        let has : AreChildren v (Stands i v there level) children k.items = same_node i v there once (Has i v there (suc level)) fill at k.items (Inner children) s.fits s.bytes k.stands in
        All-contains (IsOwn (Stands i v there level)) children child (all_own (Stands i v there level) children k.items has) inside

    pub reached_there : IsSpelledOnce i.fits i.spelled → (tree : Tree) (items : List T) → IsTree i v there tree items → (at level count : ℕ) (fill : Fill) → Reaches i there tree at level count fill → IsThere at level count fill
    reached_there once tree items is at level count fill (root some) = record { items = items; stands = root_at tree.root tree.height items some is.root; counted = is.count }
    reached_there once tree items is at level count fill (below up low n place children child r s inside) =
        let own = met_own once up low n place children child (reached_there once tree items is up (suc low) n place r) s inside in
        record { items = own.items; stands = own.is.stands; counted = own.is.count }

    pub reached_fits : IsSpelledOnce i.fits i.spelled → (tree : Tree) (items : List T) → IsTree i v there tree items → (at level count : ℕ) (fill : Fill) → Reaches i there tree at level count fill → (node : Node T) × StandsFit i there at level count fill node
    reached_fits once tree items is at level count fill r = there_fits at level count fill (reached_there once tree items is at level count fill r)
