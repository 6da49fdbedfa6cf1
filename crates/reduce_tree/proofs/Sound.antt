-- Where no node is found to be bad.
use Rattle.std.proofs.Common.{◌≡◌, ℕ, zero, suc, List, [], ◌∷◌, ◌++◌, Some, Result, Err, IfErr, length, get_or, ◌<◌, sym, ap, ◌∙◌, subst, arith}
use Rattle.std.specs.List.Sorted.{IsStrictlySortedBy}
use Rattle.tree_laws.specs.declared.item.Item.{Ghosts as Items}
use Rattle.tree_laws.specs.declared.store.NodeSource.{Ghosts as Sources}
use Rattle.tree_laws.specs.declared.summer.Summer.{Ghosts as Summers}
use Rattle.tree_laws.specs.declared.node.Child.{Child}
use Rattle.tree_laws.specs.declared.node.Node.{Node}
use Rattle.tree_laws.specs.declared.node.Node.TheVariants.{Leaf, Inner}
use Rattle.tree_laws.specs.declared.tree.Fill.{Fill}
use Rattle.tree_laws.specs.declared.tree.TreeFault.{TreeFault}
use Rattle.tree_laws.specs.declared.tree.TreeFault.TheVariants as tree_fault
use Rattle.tree_laws.specs.Fetching.{FetchFails, IsBadAt}
use Rattle.tree_laws.specs.Meaning.{KeepsMeaning, Meaning}
use Rattle.tree_laws.specs.Stores.{Places}
use Rattle.tree_laws.specs.SummerTrees.{AreChildren, Has, IsAt, IsChild, Stands, KeepsBadSum}
use Rattle.tree_laws.proofs.SummerTrees.{children_split}
use Rattle.tree_laws.proofs.SummerTrees.{has_fits}
use Rattle.reduce_tree.specs.Calls.{places, BlamesNone, IfSound, IsKnown, Summed}
use Rattle.reduce_tree.proofs.Calls.{told_at}
use Rattle.reduce_tree.proofs.Order.{sorted_front}

module _ {F G : Type 0} where
  pub sound_err : {X : Type 0} (q : Result X (TreeFault F G)) (fault y : TreeFault F G) → y ≡ fault → q ≡ Err y → BlamesNone fault → IfErr q BlamesNone
  sound_err q fault y e is h = rw is (rw e h)

  pub if_sound : {X : Type 0} (P : X → Type 0) (q : Result X (TreeFault F G)) (fault y : TreeFault F G) → y ≡ fault → q ≡ Err y → BlamesNone fault → IfSound q P
  if_sound P q fault y e is h = rw is (rw e h)

  pub sound_of : {X : Type 0} (P : X → Type 0) (fault : TreeFault F G) → IfSound {X = X} (Err fault) P → BlamesNone fault
  sound_of P fault h = h

pub summed_sound : {T M Sum F G : Type 0} (X : Type 0) (m : Summers M T Sum G) (u v : M) (fault : TreeFault F G) → Summed m {X = X} {F = F} u v (Err fault) → BlamesNone fault
summed_sound X m u v (tree_fault.Store fault) h = absurd h
summed_sound X m u v (tree_fault.BadNode at) h = absurd h
summed_sound X m u v (tree_fault.Summer fault) h = tt
summed_sound X m u v tree_fault.NoMemory h = tt

module _ {T M Sum G : Type 0} (i : Items T) (m : Summers M T Sum G) (first : M) where
  -- a child of a list has the items that the list says
  child_in : (P : ℕ → List T → Type 0) (cs : List (Child T)) (xs : List T) (k : ℕ) (c : Child T) → k < length cs → get_or cs k c ≡ c → AreChildren i m first P cs xs → (mid : List T) × IsChild i m first P c mid
  child_in P [] xs k c h e a = absurd (omega (arith, h))
  child_in P (d ∷ cs) xs zero c h e a = (a.front, subst (λ x. IsChild i m first P x a.front) e a.at_front)
  child_in P (d ∷ cs) xs (suc k) c h e a = child_in P cs a.back k c (omega (arith, h)) e a.at_back

  -- the last child
  pub child_last : (P : ℕ → List T → Type 0) (cs : List (Child T)) (c : Child T) (xs : List T) → AreChildren i m first P (cs ++ c ∷ []) xs → (mid : List T) × IsChild i m first P c mid
  child_last P cs c xs a = let j = children_split i m first P cs (c ∷ []) xs a in (j.at_back.front, j.at_back.at_front)

  -- the first of the children left, whose items rise
  pub held_child : (there : Places) (low : ℕ) (c : Child T) (rest0 rest : List (Child T)) (back : List T) → rest0 ≡ c ∷ rest → IsStrictlySortedBy i.order back → AreChildren i m first (Stands i m first there low) rest0 back
      → (mid : List T) × IsStrictlySortedBy i.order mid × IsChild i m first (Stands i m first there low) c mid
  held_child there low c rest0 rest back e sorted a =
      let cs : AreChildren i m first (Stands i m first there low) (c ∷ rest) back = subst (λ ds. AreChildren i m first (Stands i m first there low) ds back) e a in
      (cs.front, sorted_front i.order cs.front cs.back (subst (IsStrictlySortedBy i.order) cs.whole sorted), cs.at_front)

  module _ (there : Places) where
    at_not_bad : (level at count : ℕ) (items : List T) (fill : Fill) → IsAt i m first there (Has i m first there level) fill at items → count ≡ length items → IsBadAt i level count fill there at → ⊥
    at_not_bad level at count items fill s e b =
        let same : Some _ ≡ Some b.bytes = sym s.bytes ∙ b.stand in
        let fit = has_fits i m first there level s.node items fill s.filled s.has in
        b.bad s.node s.fits (subst (λ n. Rattle.tree_laws.specs.Fitting.IsFitFor level n fill s.node) (sym e) fit) (cc)

    -- the summaries of a tree's nodes are read
    pub none_unread : KeepsMeaning m.goes m.meaning m.lawful m.usable m.fits → (u : M) → m.goes first u → (level : ℕ) (node : Node T) (items : List T) → Has i m first there level node items → KeepsBadSum i m u node → ⊥
    none_unread laws u goes zero (Leaf own) items h k = let e = k.inner in absurd (cc)
    none_unread laws u goes zero (Inner children) items h k = absurd h
    none_unread laws u goes (suc level) (Leaf own) items h k = absurd h
    none_unread laws u goes (suc level) (Inner children) items h k =
        let e : children ≡ k.children = let inner = k.inner in cc in
        let cs : AreChildren i m first (Stands i m first there level) k.children items = subst (λ ds. AreChildren i m first (Stands i m first there level) ds items) e h in
        let c = child_in (Stands i m first there level) k.children items k.inside.0 k.child k.inside.1 k.inside.2 cs in
        let sum = c.1.sum in
        k.unread sum.sum ((laws.fits first u sum.sum goes).0 sum.fits) (ap (λ (x : Meaning T Sum). x.spelled sum.sum) (laws.meaning first u goes) ∙ sym sum.bytes_are)

  module _ {S F : Type 0} (s : Sources S F) where
    -- a node of the tree is fetched, or the store failed, or memory ran out
    pub fetch_sound : (u : M) (a b : S) (level count : ℕ) (fill : Fill) (at : ℕ) (items : List T) (fault : TreeFault F G) → IsKnown i s m first u a
        → IsAt i m first (places (s.nodes a)) (Has i m first (places (s.nodes a)) level) fill at items → count ≡ length items → FetchFails i level count fill s a b at fault → BlamesNone fault
    fetch_sound u a b level count fill at items (tree_fault.Store fault) known st e h = tt
    fetch_sound u a b level count fill at items (tree_fault.BadNode place) known st e h =
        at_not_bad (places (s.nodes a)) level at count items fill st e (told_at (s.nodes a) (λ there. IsBadAt i level count fill there at) known.there h.1 known.told)
    fetch_sound u a b level count fill at items (tree_fault.Summer fault) known st e h = tt
    fetch_sound u a b level count fill at items tree_fault.NoMemory known st e h = tt
