-- The way on which a call is led down a tree.
use Rattle.std.proofs.Common.{◌≡◌, inl, inr, ◌+◌, ◌<◌, ℕ, suc, Bool, true, false, Some, Result, Ok, Err, IfErr, List, [], ◌∷◌, ◌++◌, All, refl, sym, ap, ◌∙◌, subst, append_assoc, arith}
use Rattle.std.proofs.lemmas.Bool.{cases_lt}
use Rattle.std.proofs.lemmas.List.Elements.{All-head, All-tail}
use Rattle.tree_laws.specs.declared.item.Item.{Ghosts as Items}
use Rattle.tree_laws.specs.declared.node.Child.{Child}
use Rattle.tree_laws.specs.declared.node.Node.{Node}
use Rattle.tree_laws.specs.declared.node.Node.TheVariants.{Inner, Leaf}
use Rattle.tree_laws.specs.declared.tree.Fill.{Fill}
use Rattle.tree_laws.specs.declared.tree.Fill.TheVariants.{Below}
use Rattle.tree_laws.specs.declared.tree.Tree.{Tree}
use Rattle.tree_laws.specs.declared.tree.TreeFault.{TreeFault}
use Rattle.tree_laws.specs.declared.tree.TreeFault.TheVariants as tree_fault
use Rattle.tree_laws.specs.Fetching.{IsBadAt}
use Rattle.tree_laws.specs.Nodes.{spelled_node}
use Rattle.tree_laws.specs.Reaching.{StandsFit}
use Rattle.tree_laws.specs.Spelled.{IsSpelledOnce}
use Rattle.tree_laws.specs.Stores.{Places}
use Rattle.tree_laws.proofs.Prefixes.{node_once}
use Rattle.tree_query.specs.Bounds.{FirstNotBefore}
use Rattle.tree_query.specs.Leading.{AllStand, AreLedTo, Blames, GoesDown, IsGap, IsLedTo, Leads, count_in, to_child, to_root}
use Rattle.tree_query.proofs.Counts.{count_append}

-- one child at most is picked of a node
abbrev pub PicksOnce : {T : Type 0} → (ℕ → List (Child T) → Child T → Type 0) → Type 0
PicksOnce {T} Picks = (start : ℕ) (f b g d : List (Child T)) (c e : Child T) → Picks start f c → Picks start g e → f ++ c ∷ b ≡ g ++ e ∷ d → (f ≡ g) × (c ≡ e)

-- ---- faults

pub blames_as : {F M : Type 0} (P Q : ℕ → Type 0) (fault : TreeFault F M) → ((at : ℕ) → P at → Q at) → Blames P fault → Blames Q fault
blames_as P Q (tree_fault.Store fault) f h = tt
blames_as P Q (tree_fault.BadNode at) f h = f at h
blames_as P Q (tree_fault.Summer fault) f h = tt
blames_as P Q tree_fault.NoMemory f h = tt

pub result_blames_as : {X F M : Type 0} (P Q : ℕ → Type 0) (result : Result X (TreeFault F M)) → ((at : ℕ) → P at → Q at) → IfErr result (Blames P) → IfErr result (Blames Q)
result_blames_as P Q (Ok value) f h = tt
result_blames_as P Q (Err fault) f h = blames_as P Q fault f h

-- what the exit of a `?` blames
pub blames_err : {X F M : Type 0} (P : ℕ → Type 0) (q : Result X (TreeFault F M)) (fault y : TreeFault F M) → y ≡ fault → q ≡ Err y → Blames P fault → IfErr q (Blames P)
blames_err P q fault y e is h = rw is (rw e h)

module _ {T : Type 0} (i : Items T) (there : Places) (tree : Tree) (Picks : ℕ → List (Child T) → Child T → Type 0) where
  -- ---- on from a node

  pub led_child : (at level low start : ℕ) (node : Node T) (cs front back : List (Child T)) (child : Child T) → node ≡ Inner cs → level ≡ suc low → cs ≡ front ++ child ∷ back → Picks start front child → IsLedTo i there tree Picks at level start node
      → Leads i there tree Picks child.at low child.count (start + count_in front) Below
  led_child at level low start node cs front back child is up e picked led =
      let own : node ≡ Inner (front ++ child ∷ back) = is ∙ ap Inner e in
      let h : IsLedTo i there tree Picks at (suc low) start (Inner (front ++ child ∷ back)) = subst (λ l. IsLedTo i there tree Picks at l start (Inner (front ++ child ∷ back))) up (subst (IsLedTo i there tree Picks at level start) own led) in
      to_child at low h.count start h.fill front back child h.leads h.stands picked

  pub led_row : (at level low start : ℕ) (node : Node T) (cs front mine back : List (Child T)) → node ≡ Inner cs → level ≡ suc low → cs ≡ front ++ (mine ++ back) → IsLedTo i there tree Picks at level start node
      → AreLedTo i there tree Picks at low (start + count_in front) mine
  led_row at level low start node cs front mine back is up e led = record {
    begin = start;
    front = front;
    back = back;
    own =
        let own : node ≡ Inner (front ++ (mine ++ back)) = is ∙ ap Inner e in
        subst (λ l. IsLedTo i there tree Picks at l start (Inner (front ++ (mine ++ back)))) up (subst (IsLedTo i there tree Picks at level start) own led);
    number = refl;
  }

  pub row_front : (at low start : ℕ) (xs ys : List (Child T)) → AreLedTo i there tree Picks at low start (xs ++ ys) → AreLedTo i there tree Picks at low start xs
  row_front at low start xs ys h = record {
    begin = h.begin;
    front = h.front;
    back = ys ++ h.back;
    own = subst (λ cs. IsLedTo i there tree Picks at (suc low) h.begin (Inner (h.front ++ cs))) (append_assoc xs ys h.back) h.own;
    number = h.number;
  }

  pub row_back : (at low start : ℕ) (xs ys : List (Child T)) → AreLedTo i there tree Picks at low start (xs ++ ys) → AreLedTo i there tree Picks at low (start + count_in xs) ys
  row_back at low start xs ys h = record {
    begin = h.begin;
    front = h.front ++ xs;
    back = h.back;
    own =
        let e : h.front ++ ((xs ++ ys) ++ h.back) ≡ (h.front ++ xs) ++ (ys ++ h.back) = ap (λ t. h.front ++ t) (append_assoc xs ys h.back) ∙ sym (append_assoc h.front xs (ys ++ h.back)) in
        subst (λ cs. IsLedTo i there tree Picks at (suc low) h.begin (Inner cs)) e h.own;
    number = omega (arith, h.number, count_append h.front xs);
  }

  pub row_child : (at low start : ℕ) (cs rest : List (Child T)) (c : Child T) → cs ≡ c ∷ rest → ((begin : ℕ) (front : List (Child T)) → begin + count_in front ≡ start → Picks begin front c) → AreLedTo i there tree Picks at low start cs
      → Leads i there tree Picks c.at low c.count start Below
  row_child at low start cs rest c e picked h =
      let led : IsLedTo i there tree Picks at (suc low) h.begin (Inner (h.front ++ c ∷ (rest ++ h.back))) = subst (λ ds. IsLedTo i there tree Picks at (suc low) h.begin (Inner (h.front ++ (ds ++ h.back)))) e h.own in
      subst (λ n. Leads i there tree Picks c.at low c.count n Below) h.number
      (to_child at low led.count h.begin led.fill h.front (rest ++ h.back) c led.leads led.stands (picked h.begin h.front h.number))

  -- ---- where no node stands that fits

  pub gap_at : {F M : Type 0} (at level count start : ℕ) (fill : Fill) (fault : TreeFault F M) → Leads i there tree Picks at level count start fill → Blames (λ place. (place ≡ at) × IsBadAt i level count fill there at) fault
      → Blames (IsGap i there tree Picks) fault
  gap_at at level count start fill fault leads h = blames_as (λ place. (place ≡ at) × IsBadAt i level count fill there at) (IsGap i there tree Picks) fault
      (λ place k. subst (IsGap i there tree Picks) (sym k.0) (record { level = level; count = count; start = start; fill = fill; leads = leads; bad = k.1 })) h

  -- what the exit of a `?` returns
  pub down_err : {X F M : Type 0} (q : Result X (TreeFault F M)) (fault y : TreeFault F M) → y ≡ fault → q ≡ Err y → Blames (IsGap i there tree Picks) fault → GoesDown i there tree Picks q
  down_err q fault y e is h = rw is (rw e h)

  -- ---- where a node stands on the whole way

  pub level_within : (at level count start : ℕ) (fill : Fill) → Leads i there tree Picks at level count start fill → level < tree.height
  level_within at level count start fill (to_root some) = omega (arith, some)
  level_within at level count start fill (to_child up low n begin place f b c h s p) = omega (arith, level_within up (suc low) n begin place h)

  stands_same : (a b level low n m : ℕ) (fill place : Fill) (node : Node T) → a ≡ b → level ≡ low → n ≡ m → fill ≡ place → StandsFit i there a level n fill node → StandsFit i there b low m place node
  stands_same a b level low n m fill place node e k l f h =
      subst (λ x. StandsFit i there x low m place node) e (subst (λ x. StandsFit i there a x m place node) k (subst (λ x. StandsFit i there a level x place node) l (subst (λ x. StandsFit i there a level n x node) f h)))

  module _ (once : IsSpelledOnce i.fits i.spelled) (picks : PicksOnce Picks) where
    -- one place at most of each level is led to
    unique : (a level n start : ℕ) (fill : Fill) (b low m begin : ℕ) (place : Fill) → Leads i there tree Picks a level n start fill → Leads i there tree Picks b low m begin place → level ≡ low
        → (a ≡ b) × (n ≡ m) × (start ≡ begin) × (fill ≡ place)
    unique a level n start fill b low m begin place (to_root some) (to_root other) e = (refl, refl, refl, refl)
    unique a level n start fill b low m begin place (to_root some) (to_child up under k first full f g c h s p) e = absurd (omega (arith, e, some, level_within up (suc under) k first full h))
    unique a level n start fill b low m begin place (to_child up under k first full f g c h s p) (to_root some) e = absurd (omega (arith, e, some, level_within up (suc under) k first full h))
    unique a level n start fill b low m begin place (to_child up under k first full f g c h s p) (to_child up' under' k' first' full' f' g' c' h' s' p') e =
        let q = unique up (suc under) k first full up' (suc under') k' first' full' h h' (ap suc e) in
        let bytes : Some (spelled_node i.spelled (Inner (f ++ c ∷ g))) ≡ Some (spelled_node i.spelled (Inner (f' ++ c' ∷ g'))) = sym s.bytes ∙ ap there q.0 ∙ s'.bytes in
        let same : spelled_node i.spelled (Inner (f ++ c ∷ g)) ≡ spelled_node i.spelled (Inner (f' ++ c' ∷ g')) = cc in
        let nodes : Inner (f ++ c ∷ g) ≡ Inner (f' ++ c' ∷ g') = node_once i.fits i.spelled once (Inner (f ++ c ∷ g)) (Inner (f' ++ c' ∷ g')) s.fits s'.fits same in
        let lists : f ++ c ∷ g ≡ f' ++ c' ∷ g' = cc in
        let own = picks first f g f' g' c c' p (subst (λ x. Picks x f' c') (sym q.2) p') lists in
        (ap (λ (x : Child T). x.at) own.1, ap (λ (x : Child T). x.count) own.1, omega (arith, q.2, ap count_in own.0), refl)

    -- above a place that is led to a node stands on each level
    above : (a level n start : ℕ) (fill : Fill) (b low m begin : ℕ) (place : Fill) → Leads i there tree Picks a level n start fill → Leads i there tree Picks b low m begin place → level < low → (node : Node T) × StandsFit i there b low m place node
    above a level n start fill b low m begin place (to_root some) k less = absurd (omega (arith, less, some, level_within b low m begin place k))
    above a level n start fill b low m begin place (to_child up under u first full f g c h s p) k less = elim (cases_lt (suc under) low) [
      | inl more ↦ above up (suc under) u first full b low m begin place h k more
      | inr most ↦
          let e : suc under ≡ low = omega (arith, most, less) in
          let q = unique up (suc under) u first full b low m begin place h k e in
          (Inner (f ++ c ∷ g), stands_same up b (suc under) low u m full place (Inner (f ++ c ∷ g)) q.0 e q.1 q.3 s)
    ]

    -- below a node of which no child is picked no place is led to
    none_below : (a level n start : ℕ) (fill : Fill) (node : Node T) → Leads i there tree Picks a level n start fill → StandsFit i there a level n fill node
        → ((front back : List (Child T)) (child : Child T) → node ≡ Inner (front ++ child ∷ back) → Picks start front child → ⊥)
        → (b low m begin : ℕ) (place : Fill) → Leads i there tree Picks b low m begin place → low < level → ⊥
    none_below a level n start fill node led stands none b low m begin place (to_root some) less = omega (arith, less, some, level_within a level n start fill led)
    none_below a level n start fill node led stands none b low m begin place (to_child up under u first full f g c h s p) less = elim (cases_lt (suc under) level) [
      | inl more ↦ none_below a level n start fill node led stands none up (suc under) u first full h more
      | inr most ↦
          let e : level ≡ suc under = omega (arith, most, less) in
          let q = unique a level n start fill up (suc under) u first full led h e in
          let bytes : Some (spelled_node i.spelled node) ≡ Some (spelled_node i.spelled (Inner (f ++ c ∷ g))) = sym stands.bytes ∙ ap there q.0 ∙ s.bytes in
          let same : spelled_node i.spelled node ≡ spelled_node i.spelled (Inner (f ++ c ∷ g)) = cc in
          none f g c (node_once i.fits i.spelled once node (Inner (f ++ c ∷ g)) stands.fits s.fits same) (subst (λ x. Picks x f c) (sym q.2) p)
    ]

    -- a node that is led to, of which no child is picked, ends a way on which a node stands everywhere
    pub all_stand : (at level start : ℕ) (node : Node T) → IsLedTo i there tree Picks at level start node → ((front back : List (Child T)) (child : Child T) → node ≡ Inner (front ++ child ∷ back) → Picks start front child → ⊥)
        → AllStand i there tree Picks
    all_stand at level start node led none b low m begin place k = elim (cases_lt level low) [
      | inl more ↦ above at level led.count start led.fill b low m begin place led.leads k more
      | inr most ↦ elim (cases_lt low level) [
        | inl less ↦ absurd (none_below at level led.count start led.fill node led.leads led.stands none b low m begin place k less)
        | inr least ↦
            let e : level ≡ low = omega (arith, most, least) in
            let q = unique at level led.count start led.fill b low m begin place led.leads k e in
            (node, stands_same at b level low led.count m led.fill place node q.0 e q.1 q.3 led.stands)
      ]
    ]

    pub leaf_stands : (at level start : ℕ) (node : Node T) (xs : List T) → node ≡ Leaf xs → IsLedTo i there tree Picks at level start node → AllStand i there tree Picks
    leaf_stands at level start node xs is led = all_stand at level start node led (λ front back child e picked. let both : Leaf xs ≡ Inner (front ++ child ∷ back) = sym is ∙ e in absurd (cc))

-- ---- bounds

module _ {T : Type 0} (before : T → Bool) where
  passes_once : (f b g d : List (Child T)) (c e : Child T) → All (λ (x : Child T). before x.last ≡ true) f → before c.last ≡ false → All (λ (x : Child T). before x.last ≡ true) g → before e.last ≡ false → f ++ c ∷ b ≡ g ++ e ∷ d → (f ≡ g) × (c ≡ e)
  passes_once [] b [] d c e h n k m is = (refl, (let own : c ≡ e = cc in own))
  passes_once [] b (y ∷ g) d c e h n k m is =
      let own : c ≡ y = cc in
      let passed : before y.last ≡ true = All-head (λ (x : Child T). before x.last ≡ true) y g k in
      let both : false ≡ true = sym n ∙ ap (λ (x : Child T). before x.last) own ∙ passed in
      absurd (cc)
  passes_once (x ∷ f) b [] d c e h n k m is =
      let own : x ≡ e = cc in
      let passed : before x.last ≡ true = All-head (λ (x : Child T). before x.last ≡ true) x f h in
      let both : false ≡ true = sym m ∙ ap (λ (x : Child T). before x.last) (sym own) ∙ passed in
      absurd (cc)
  passes_once (x ∷ f) b (y ∷ g) d c e h n k m is =
      let first : x ≡ y = cc in
      let rest : f ++ c ∷ b ≡ g ++ e ∷ d = cc in
      let q = passes_once f b g d c e (All-tail (λ (x : Child T). before x.last ≡ true) x f h) n (All-tail (λ (x : Child T). before x.last ≡ true) y g k) m rest in
      let lists : x ∷ f ≡ y ∷ g = ap (λ t. x ∷ t) q.0 ∙ ap (λ z. z ∷ g) first in
      (lists, q.1)

  pub bound_once : PicksOnce (FirstNotBefore before)
  bound_once start f b g d c e p q is = passes_once f b g d c e p.passed p.stops q.passed q.stops is

  -- where all children end before the bound none is picked
  pub none_stops : (cs f b : List (Child T)) (c : Child T) → All (λ (x : Child T). before x.last ≡ true) cs → cs ≡ f ++ c ∷ b → before c.last ≡ false → ⊥
  none_stops [] [] b c h e n = absurd (cc)
  none_stops [] (y ∷ f) b c h e n = absurd (cc)
  none_stops (x ∷ cs) [] b c h e n =
      let own : x ≡ c = cc in
      let passed : before x.last ≡ true = All-head (λ (x : Child T). before x.last ≡ true) x cs h in
      let both : false ≡ true = sym n ∙ ap (λ (x : Child T). before x.last) (sym own) ∙ passed in
      absurd (cc)
  none_stops (x ∷ cs) (y ∷ f) b c h e n =
      let rest : cs ≡ f ++ c ∷ b = cc in
      none_stops cs f b c (All-tail (λ (x : Child T). before x.last ≡ true) x cs h) rest n
