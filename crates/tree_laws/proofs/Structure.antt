-- A tree stays where it is when nodes are added, and when its summaries are read as those of other values.
use Rattle.std.proofs.Common.{ℕ, zero, suc, List, [], ◌∷◌, refl, sym, ap, ◌∙◌}
use Rattle.tree_laws.specs.declared.item.Item.{Ghosts as Items}
use Rattle.tree_laws.specs.declared.node.Child.{Child}
use Rattle.tree_laws.specs.declared.node.Node.{Node}
use Rattle.tree_laws.specs.declared.node.Node.TheVariants.{Leaf, Inner}
use Rattle.tree_laws.specs.declared.tree.Fill.{Fill}
use Rattle.tree_laws.specs.declared.tree.Tree.{Tree}
use Rattle.tree_laws.specs.Meaning.{Values}
use Rattle.tree_laws.specs.Stores.{Extends, Places}
use Rattle.tree_laws.specs.Trees.{AreChildren, Has, HasRoot, IsAt, IsChild, IsSummary, IsTree, Stands, StandsAs}
use Rattle.tree_laws.specs.Values.{PassFor, no_values}

-- what are summaries of the one values are summaries of the others
abbrev pub SumsPass : {T S R : Type 0} → Values T S → Values T R → Type 0
SumsPass {T} v w = (items : List T) (bytes : List ℕ) → IsSummary v items bytes → IsSummary w items bytes

-- ---- what becomes of summaries

pub same_sums : {T S : Type 0} (v : Values T S) → SumsPass v v
same_sums v items bytes h = h

pub other_sums : {T S : Type 0} (v w : Values T S) → PassFor v w → SumsPass v w
other_sums {T} {S} v w p items bytes h = record {
  sum = h.sum;
  fits = p.fits h.sum h.fits;
  bytes_are = h.bytes_are ∙ sym (p.spelled h.sum);
  value = λ lawful. h.value (p.lawful lawful) ∙ sym (p.value lawful items);
}

pub no_sums : {T S : Type 0} (v : Values T S) → SumsPass v no_values
no_sums v items bytes h = record { sum = bytes; fits = tt; bytes_are = refl; value = λ lawful. absurd lawful }

-- ---- and of trees with them

module _ {T S R : Type 0} (v : Values T S) (w : Values T R) (pass : SumsPass v w) (P Q : ℕ → List T → Type 0) (f : (at : ℕ) (items : List T) → P at items → Q at items) where
  pub child_passes : (child : Child T) (items : List T) → IsChild v P child items → IsChild w Q child items
  child_passes child items h = record { stands = f child.at items h.stands; count = h.count; front = h.front; last = h.last; sum = pass items child.sum h.sum }

  pub children_pass : (children : List (Child T)) (items : List T) → AreChildren v P children items → AreChildren w Q children items
  children_pass [] items h = h
  children_pass (child ∷ children) items h = record {
    front = h.front;
    back = h.back;
    whole = h.whole;
    at_front = child_passes child h.front h.at_front;
    at_back = children_pass children h.back h.at_back;
  }

module _ {T S R : Type 0} (i : Items T) (v : Values T S) (w : Values T R) (pass : SumsPass v w) (old new : Places) (e : Extends old new) where
  at_passes : (P Q : Node T → List T → Type 0) → ((node : Node T) (items : List T) → P node items → Q node items) → (fill : Fill) (at : ℕ) (items : List T) → IsAt i old P fill at items → IsAt i new Q fill at items
  at_passes P Q f fill at items h = record { node = h.node; fits = h.fits; bytes = e at _ h.bytes; filled = h.filled; has = f h.node items h.has }

  pub has_passes : (level : ℕ) (node : Node T) (items : List T) → Has i v old level node items → Has i w new level node items
  has_passes zero (Leaf own) items h = h
  has_passes zero (Inner children) items h = h
  has_passes (suc level) (Leaf own) items h = h
  has_passes (suc level) (Inner children) items h =
      children_pass v w pass (Stands i v old level) (Stands i w new level)
      (λ at xs s. record { node = s.node; fits = s.fits; bytes = e at _ s.bytes; filled = s.filled; has = has_passes level s.node xs s.has }) children items h

  pub stands_passes : (fill : Fill) (level at : ℕ) (items : List T) → StandsAs i v old fill level at items → StandsAs i w new fill level at items
  stands_passes fill level = at_passes (Has i v old level) (Has i w new level) (has_passes level) fill

  pub root_passes : (root height : ℕ) (items : List T) → HasRoot i v old root height items → HasRoot i w new root height items
  root_passes root zero items h = h
  root_passes root (suc level) items h = stands_passes _ level root items h

  pub tree_passes : (tree : Tree) (items : List T) → IsTree i v old tree items → IsTree i w new tree items
  tree_passes tree items h = record { root = root_passes tree.root tree.height items h.root; count = h.count; rises = h.rises }
