-- Which pieces were put since, over calls one after another.
use Rattle.std.proofs.Common.{◌≡◌, ℕ, List, [], ◌∷◌, ◌++◌, All, map, sym, ap, ◌∙◌, append_assoc}
use Rattle.std.proofs.lemmas.List.Elements.{All-append, All-cons, All-head, All-nil, All-tail, All-weaker}
use Rattle.tree_laws.specs.declared.item.Item.{Ghosts as Items}
use Rattle.tree_laws.specs.declared.summer.Summer.{Ghosts as Summers}
use Rattle.tree_laws.specs.declared.node.Child.{Child}
use Rattle.tree_laws.specs.declared.node.Node.{Node}
use Rattle.tree_laws.specs.declared.node.Node.TheVariants.{Leaf, Inner}
use Rattle.tree_laws.specs.Meaning.{KeepsMeaning, Meaning, StaysNoted}
use Rattle.tree_laws.specs.Stores.{EachSince}
use Rattle.reduce_tree.specs.Pieces.{IsNodePiece, IsSummed, IsSumSpelled}

module _ {X : Type 0} where
  pub since_none : (P : X → Type 0) (old new : List X) → new ≡ old → EachSince P old new
  since_none P old new e = ([], e, All-nil P)

  pub since_one : (P : X → Type 0) (x : X) (old new : List X) → new ≡ x ∷ old → P x → EachSince P old new
  since_one P x old new e p = (x ∷ [], e, All-cons P x [] p (All-nil P))

  -- a is before, b between, and c after; what holds of the later entries and what holds of the earlier both say the same
  pub since_both : (P Q R : X → Type 0) → ((x : X) → P x → R x) → ((x : X) → Q x → R x) → (a b c : List X) → EachSince P a b → EachSince Q b c → EachSince R a c
  since_both P Q R first second a b c h k = (
    k.0 ++ h.0,
    k.1 ∙ ap (λ t. k.0 ++ t) h.1 ∙ sym (append_assoc k.0 h.0 a),
    All-append R k.0 h.0 (All-weaker Q R second k.0 k.2) (All-weaker P R first h.0 h.2),
  )

  -- what holds of the later entries also says what is said of the earlier
  pub since_on : (P Q : X → Type 0) → ((x : X) → P x → Q x) → (a b c : List X) → EachSince Q a b → EachSince P b c → EachSince Q a c
  since_on P Q back a b c h k = since_both Q P Q (λ x q. q) back a b c h k

  pub since_weaker : (P Q : X → Type 0) → ((x : X) → P x → Q x) → (old new : List X) → EachSince P old new → EachSince Q old new
  since_weaker P Q weaker old new h = (h.0, h.1, All-weaker P Q weaker h.0 h.2)

module _ {T M Sum Fault : Type 0} (i : Items T) (m : Summers M T Sum Fault) where
  pub sums_spelled : (u : M) (cs : List (Child T)) (sums : List Sum) → map (λ (c : Child T). c.sum) cs ≡ map (m.meaning u).spelled sums → All (m.fits u) sums → All (λ (c : Child T). IsSumSpelled i m u c.sum) cs
  sums_spelled u [] sums e h = All-nil (λ (c : Child T). IsSumSpelled i m u c.sum)
  sums_spelled u (c ∷ cs) [] e h = absurd (cc)
  sums_spelled u (c ∷ cs) (x ∷ xs) e h =
      let one : c.sum ≡ (m.meaning u).spelled x = cc in
      let rest : map (λ (d : Child T). d.sum) cs ≡ map (m.meaning u).spelled xs = cc in
      All-cons (λ (d : Child T). IsSumSpelled i m u d.sum) c cs (record { sum = x; fits = All-head (m.fits u) x xs h; bytes_are = one }) (sums_spelled u cs xs rest (All-tail (m.fits u) x xs h))

  -- v is the summer after steps from u
  module _ (keeps : KeepsMeaning m.goes m.meaning m.lawful m.usable m.fits) (u v : M) (g : m.goes u v) where
    spelled_back : (bytes : List ℕ) → IsSumSpelled i m v bytes → IsSumSpelled i m u bytes
    spelled_back bytes h = record { sum = h.sum; fits = (keeps.fits u v h.sum g).1 h.fits; bytes_are = h.bytes_are ∙ ap (λ (x : Meaning T Sum). x.spelled h.sum) (keeps.meaning u v g) }

    summed_back : (w : M) → StaysNoted m.goes m.fails m.asked → (node : Node T) → IsSummed i m v w node → IsSummed i m u w node
    summed_back w noted (Leaf items) h = (keeps.usable u v g h.0, noted.before u v w items g h.1)
    summed_back w noted (Inner children) h = All-weaker (λ (c : Child T). IsSumSpelled i m v c.sum) (λ (c : Child T). IsSumSpelled i m u c.sum) (λ c p. spelled_back c.sum p) children h

    pub node_back : (w : M) → StaysNoted m.goes m.fails m.asked → (bytes : List ℕ) → IsNodePiece i m v w bytes → IsNodePiece i m u w bytes
    node_back w noted bytes h = record { node = h.node; fits = h.fits; bytes_are = h.bytes_are; most = h.most; summed = summed_back w noted h.node h.summed }

  -- more was asked of the summer from v to w
  module _ (u v w : M) (later : (items : List T) → m.asked u v items → m.asked u w items) where
    summed_ahead : (node : Node T) → IsSummed i m u v node → IsSummed i m u w node
    summed_ahead (Leaf items) h = (h.0, later items h.1)
    summed_ahead (Inner children) h = h

    pub node_ahead : (bytes : List ℕ) → IsNodePiece i m u v bytes → IsNodePiece i m u w bytes
    node_ahead bytes h = record { node = h.node; fits = h.fits; bytes_are = h.bytes_are; most = h.most; summed = summed_ahead h.node h.summed }
