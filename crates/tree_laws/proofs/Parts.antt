-- How the children of a node go together: rows that are joined and cut, and the items and the values of each child.
use Rattle.std.proofs.Common.{◌≡◌, ◌≢◌, ◌<◌, ℕ, zero, suc, Some, List, [], ◌∷◌, ◌++◌, All, Contains, map, length, length-append, refl, sym, ap, ◌∙◌, subst, append_assoc, arith}
use Rattle.std.proofs.lemmas.List.{append-nil}
use Rattle.std.proofs.lemmas.List.Elements.{All-append, All-cons, All-contains, All-nil, All-weaker}
use Rattle.tree_laws.specs.declared.item.Item.{Ghosts as Items}
use Rattle.tree_laws.specs.declared.node.Child.{Child}
use Rattle.tree_laws.specs.declared.node.Node.{Node}
use Rattle.tree_laws.specs.declared.node.Node.TheVariants.{Leaf, Inner}
use Rattle.tree_laws.specs.declared.tree.Fill.{Fill}
use Rattle.tree_laws.specs.declared.tree.Fill.TheVariants.{Root}
use Rattle.tree_laws.specs.declared.tree.Tree.{Tree}
use Rattle.tree_laws.specs.Fetching.{HasBadSum, IsUnread, KeepsBadSum}
use Rattle.tree_laws.specs.Fitting.{IsFilled}
use Rattle.tree_laws.specs.Meaning.{Values, joined}
use Rattle.tree_laws.specs.Nodes.{FitsItem, FitsNode, spelled_node}
use Rattle.tree_laws.specs.Spelled.{IsSpelledOnce}
use Rattle.tree_laws.specs.Stores.{Places}
use Rattle.tree_laws.specs.Trees.{AreChildren, Has, HasRoot, IsAt, IsChild, IsTree, Joins, Stands, StandsAs}
use Rattle.tree_laws.proofs.Prefixes.{node_once}

module _ {T S : Type 0} (i : Items T) (v : Values T S) where
  -- ---- rows of children

  module _ (P : ℕ → List T → Type 0) where
    pub children_append : (cs ds : List (Child T)) (xs ys : List T) → AreChildren v P cs xs → AreChildren v P ds ys → AreChildren v P (cs ++ ds) (xs ++ ys)
    children_append [] ds xs ys h k = rw h k
    children_append (c ∷ cs) ds xs ys h k = record {
      front = h.front;
      back = h.back ++ ys;
      whole = ap (λ t. t ++ ys) h.whole ∙ append_assoc h.front h.back ys;
      at_front = h.at_front;
      at_back = children_append cs ds h.back ys h.at_back k;
    }

    pub children_split : (cs ds : List (Child T)) (xs : List T) → AreChildren v P (cs ++ ds) xs → Joins (AreChildren v P cs) (AreChildren v P ds) xs
    children_split [] ds xs h = record { front = []; back = xs; whole = refl; at_front = refl; at_back = h }
    children_split (c ∷ cs) ds xs h =
        let k = children_split cs ds h.back h.at_back in
        record {
          front = h.front ++ k.front;
          back = k.back;
          whole = h.whole ∙ ap (λ t. h.front ++ t) k.whole ∙ sym (append_assoc h.front k.front k.back);
          at_front = record { front = h.front; back = k.front; whole = refl; at_front = h.at_front; at_back = k.at_front };
          at_back = k.at_back;
        }

    pub children_one : (c : Child T) (xs : List T) → IsChild v P c xs → AreChildren v P (c ∷ []) xs
    children_one c xs h = record { front = xs; back = []; whole = sym (append-nil xs); at_front = h; at_back = refl }

    pub child_some : (c : Child T) (xs : List T) → IsChild v P c xs → xs ≢ []
    child_some c xs h e =
        let none : length xs ≡ 0 = ap length e in
        omega (arith, none, ap length h.last, length-append h.front (c.last ∷ []))

    -- the items of each child, and the value that is kept of them
    pub record AreParts (cs : List (Child T)) (items : List T) : Type 0 where
      pub parts : List (List T)
      pub sums : List S
      pub whole : items ≡ joined parts
      pub some : All (λ part. part ≢ []) parts
      pub long : length parts ≡ length cs
      pub spelled : map (λ c. c.sum) cs ≡ map v.meaning.spelled sums
      pub fit : All v.fits sums
      pub values : v.lawful → sums ≡ map v.meaning.value parts

    pub parts_of : (cs : List (Child T)) (xs : List T) → AreChildren v P cs xs → AreParts cs xs
    parts_of [] xs h = record { parts = []; sums = []; whole = h; some = All-nil (λ part. part ≢ []); long = refl; spelled = refl; fit = All-nil v.fits; values = λ _. refl }
    parts_of (c ∷ cs) xs h =
        let k = parts_of cs h.back h.at_back in
        let own = h.at_front.sum in
        record {
          parts = h.front ∷ k.parts;
          sums = own.sum ∷ k.sums;
          whole = h.whole ∙ ap (λ t. h.front ++ t) k.whole;
          some = All-cons (λ part. part ≢ []) h.front k.parts (child_some c h.front h.at_front) k.some;
          long = ap suc k.long;
          spelled = (λ j. own.bytes_are j ∷ k.spelled j);
          fit = All-cons v.fits own.sum k.sums own.fits k.fit;
          values = λ lawful. (λ j. own.value lawful j ∷ k.values lawful j);
        }

    all_fit : ((at : ℕ) (xs : List T) → P at xs → All i.fits xs) → (cs : List (Child T)) (xs : List T) → AreChildren v P cs xs → All i.fits xs
    all_fit f [] xs h = subst (All i.fits) (sym h) (All-nil i.fits)
    all_fit f (c ∷ cs) xs h = subst (All i.fits) (sym h.whole) (All-append i.fits h.front h.back (f c.at h.front h.at_front.stands) (all_fit f cs h.back h.at_back))

    -- each summary has the bytes of a value
    all_read : (cs : List (Child T)) (xs : List T) → AreChildren v P cs xs → All (λ c. IsUnread v c.sum → ⊥) cs
    all_read [] xs h = All-nil (λ (c : Child T). IsUnread v c.sum → ⊥)
    all_read (c ∷ cs) xs h =
        let own = h.at_front.sum in
        All-cons (λ (d : Child T). IsUnread v d.sum → ⊥) c cs (λ unread. unread own.sum own.fits (sym own.bytes_are)) (all_read cs h.back h.at_back)

  -- ---- nodes

  module _ (there : Places) where
    -- the items in and below a node that can be spelled are within the bounds of their type
    pub items_fit : (level : ℕ) (node : Node T) (items : List T) → FitsNode i.fits i.spelled node → Has i v there level node items → All i.fits items
    items_fit zero (Leaf own) items fits h = subst (All i.fits) (sym h) (All-weaker (FitsItem i.fits i.spelled) i.fits (λ x fit. fit.fits) own fits.1)
    items_fit zero (Inner children) items fits h = absurd h
    items_fit (suc level) (Leaf own) items fits h = absurd h
    items_fit (suc level) (Inner children) items fits h = all_fit (Stands i v there level) (λ at xs s. items_fit level s.node xs s.fits s.has) children items h

    -- a node whose bytes stand where a node of the tree stands is this node
    node_is : IsSpelledOnce i.fits i.spelled → (P : Node T → List T → Type 0) (fill : Fill) (at : ℕ) (items : List T) (got : Node T) → FitsNode i.fits i.spelled got → there at ≡ Some (spelled_node i.spelled got) → (h : IsAt i there P fill at items) → h.node ≡ got
    node_is once P fill at items got fits stand h =
        let bytes : Some (spelled_node i.spelled h.node) ≡ Some (spelled_node i.spelled got) = sym h.bytes ∙ stand in
        let same : spelled_node i.spelled h.node ≡ spelled_node i.spelled got = cc in
        node_once i.fits i.spelled once h.node got h.fits fits same

    pub same_node : IsSpelledOnce i.fits i.spelled → (P : Node T → List T → Type 0) (fill : Fill) (at : ℕ) (items : List T) (got : Node T) → FitsNode i.fits i.spelled got → there at ≡ Some (spelled_node i.spelled got) → IsAt i there P fill at items → P got items
    same_node once P fill at items got fits stand h = subst (λ node. P node items) (node_is once P fill at items got fits stand h) h.has

    pub same_filled : IsSpelledOnce i.fits i.spelled → (P : Node T → List T → Type 0) (fill : Fill) (at : ℕ) (items : List T) (got : Node T) → FitsNode i.fits i.spelled got → there at ≡ Some (spelled_node i.spelled got) → IsAt i there P fill at items → IsFilled fill got
    same_filled once P fill at items got fits stand h = subst (IsFilled fill) (node_is once P fill at items got fits stand h) h.filled

    -- ---- summaries

    keeps_none : (level : ℕ) (node : Node T) (items : List T) → Has i v there level node items → KeepsBadSum v node → ⊥
    keeps_none zero (Leaf own) items h b = let inner = b.inner in absurd cc
    keeps_none zero (Inner children) items h b = absurd h
    keeps_none (suc level) (Leaf own) items h b = absurd h
    keeps_none (suc level) (Inner children) items h b =
        let inner = b.inner in
        let same : b.children ≡ children = cc in
        let inside = subst (λ cs. Contains cs b.child) same b.inside in
        All-contains (λ c. IsUnread v c.sum → ⊥) children b.child (all_read (Stands i v there level) children items h) inside b.unread

    pub no_bad_sum : IsSpelledOnce i.fits i.spelled → (fill : Fill) (level at : ℕ) (items : List T) → StandsAs i v there fill level at items → HasBadSum i v there at → ⊥
    no_bad_sum once fill level at items h b = keeps_none level b.node items (same_node once (Has i v there level) fill at items b.node b.fits b.stand h) b.keeps

    root_read : IsSpelledOnce i.fits i.spelled → (root height : ℕ) (items : List T) → 0 < height → HasRoot i v there root height items → HasBadSum i v there root → ⊥
    root_read once root zero items some h b = absurd (omega arith)
    root_read once root (suc level) items some h b = no_bad_sum once Root level root items h b

    pub no_bad_root_sum : IsSpelledOnce i.fits i.spelled → (tree : Tree) (items : List T) → IsTree i v there tree items → 0 < tree.height → HasBadSum i v there tree.root → ⊥
    no_bad_root_sum once tree items h some b = root_read once tree.root tree.height items some h.root b
