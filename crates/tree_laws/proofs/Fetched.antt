-- Bytes that spell no node that fits its place.
use Rattle.std.proofs.Common.{◌≡◌, ℕ, List, Option, Some, None, IfSome, sym, ◌∙◌, subst}
use Rattle.tree_laws.specs.declared.item.Item.{Ghosts as Items}
use Rattle.tree_laws.specs.declared.node.Node.{Node}
use Rattle.tree_laws.specs.declared.tree.Fill.{Fill}
use Rattle.tree_laws.specs.Fetching.{AreBad, IsBadAt}
use Rattle.tree_laws.specs.Fitting.{IsFitFor}
use Rattle.tree_laws.specs.Nodes.{FitsNode, spelled_node}
use Rattle.tree_laws.specs.Spelled.{IsSpelledOnce}
use Rattle.tree_laws.specs.Stores.{Places}
use Rattle.tree_laws.proofs.Prefixes.{node_once}

module _ {T : Type 0} (i : Items T) (level count : ℕ) (fill : Fill) where
  -- a node that doesn't fit
  pub unfit : IsSpelledOnce i.fits i.spelled → (node : Node T) (bytes : List ℕ) → FitsNode i.fits i.spelled node → spelled_node i.spelled node ≡ bytes → (IsFitFor level count fill node → ⊥) → AreBad i level count fill bytes
  unfit once node bytes fits is unfits other fits_other fit same = unfits (subst (IsFitFor level count fill) (node_once i.fits i.spelled once other node fits_other fits (same ∙ sym is)) fit)

  pub bad_at : (told : Option Places) (at : ℕ) (bytes : List ℕ) → IfSome told (λ there. there at ≡ Some bytes) → AreBad i level count fill bytes → IfSome told (λ there. IsBadAt i level count fill there at)
  bad_at None at bytes stand bad = tt
  bad_at (Some there) at bytes stand bad = record { bytes = bytes; stand = stand; bad = bad }
