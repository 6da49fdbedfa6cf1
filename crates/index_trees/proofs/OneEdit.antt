-- What one call gives that edits a tree, whatever the items and their values are.
use Rattle.std.proofs.Common.{◌≡◌, ◌<◌, ◌≤◌, ◌+◌, ◌*◌, ◌^◌, ℕ, max, List, [], ◌++◌, All, Contains, length, Option, Some, None, Result, Ok, Err, refl, ap, ◌∙◌, subst, arith}
use Rattle.std.specs.Prelude.{IfErr, IfOk, OnOk}
use Rattle.std.specs.declared.cmp.Ordering.{Ordering}
use Rattle.std.proofs.lemmas.List.Elements.{All-append, All-cons, All-nil, Contains-append_left, Contains-append_right}
use Rattle.std.proofs.Math.Nat.{mul-le-mul_left, mul-le-mul_right}
use Rattle.tree_laws.specs.declared.item.Item.{Ghosts as Items}
use Rattle.tree_laws.specs.declared.store.NodeSource.{Ghosts as Sources}
use Rattle.tree_laws.specs.declared.summer.Summer.{Ghosts as Summers}
use Rattle.tree_laws.specs.declared.tree.Tree.{Tree}
use Rattle.tree_laws.specs.declared.tree.TreeFault.{TreeFault}
use Rattle.tree_laws.specs.declared.tree.TreeFault.TheVariants as tree_fault
use Rattle.tree_laws.specs.Meaning.{Values}
use Rattle.tree_laws.specs.Reaching.{IsFaulty}
use Rattle.tree_laws.specs.Reaching.IsFaulty.{unfit, unread}
use Rattle.tree_laws.specs.Stores.{Extends, KeepsPlaces, Places, WhereTold}
use Rattle.tree_laws.specs.Trees.{IsTree, IsTreeSize}
use Rattle.tree_laws.specs.Values.{values_of}
use Rattle.tree_laws.proofs.Structure.{tree_passes, SumsPass}
use Rattle.reduce_tree.specs.declared.edit.Edit.{Edit}
use Rattle.reduce_tree.specs.declared.edit.Edit.TheVariants.{Insert, Remove}
use Rattle.reduce_tree.specs.Applied.{applied, insertions, placed_of, AreEdits, IsEdited}
use Rattle.reduce_tree.specs.Calls.{places, BlamesNone, FailsAt, Ran, UnlessStore}
use Rattle.reduce_tree.specs.Counts.{ReadsFor, node_size}
use Rattle.reduce_tree.specs.Given.{Takes}
use Rattle.reduce_tree.specs.Pieces.{AreAmong, InsertAmong}
use Rattle.reduce_tree.proofs.Applied.{insertions_most}
use Rattle.child_pool.specs.declared.pool_fault.PoolFault.{PoolFault}
use Rattle.index_trees.specs.Exchanges.{GotFound, PutsWithin, StoreWent}
use Rattle.index_trees.proofs.Members.{all_of}
use Rattle.index_trees.proofs.Sequences.{on_map, StoreLaws}

-- ---- numbers

-- more levels than the two heights are no fewer steps, no fewer pieces and no fewer bytes
pub steps_done : (edits before now low high h : ℕ) → low ≤ h → high ≤ h → now ≤ before + edits * (8 * (max low high + 1)) → now ≤ before + edits * (8 * (h + 1))
steps_done edits before now low high h l k within =
    let more : edits * (8 * (max low high + 1)) ≤ edits * (8 * (h + 1)) = mul-le-mul_left edits (omega (arith, l, k)) in
    omega (arith, within, more)

pub puts_done : (edits before now low high h : ℕ) → low ≤ h → high ≤ h → now ≤ before + edits * (4 * (max low high + 1)) → now ≤ before + edits * (4 * (h + 1))
puts_done edits before now low high h l k within =
    let more : edits * (4 * (max low high + 1)) ≤ edits * (4 * (h + 1)) = mul-le-mul_left edits (omega (arith, l, k)) in
    omega (arith, within, more)

pub bytes_done : (edits node before now low high h : ℕ) → low ≤ h → high ≤ h → now ≤ before + (edits * (4 * (max low high + 1))) * node → now ≤ before + (edits * (4 * (h + 1))) * node
bytes_done edits node before now low high h l k within =
    let puts : edits * (4 * (max low high + 1)) ≤ edits * (4 * (h + 1)) = mul-le-mul_left edits (omega (arith, l, k)) in
    let more : (edits * (4 * (max low high + 1))) * node ≤ (edits * (4 * (h + 1))) * node = mul-le-mul_right node puts in
    omega (arith, within, more)

-- ---- what edits insert

module _ {T : Type 0} where
  -- where there is room for all edits there is for what they insert
  pub few_inserted : (edits : List (Edit T)) (count most : ℕ) → count + length edits ≤ most → count + insertions edits ≤ most
  few_inserted edits count most few = omega (arith, few, insertions_most edits)

  module _ (items after : List T) where
    pub old_among : AreAmong (items ++ after) items
    old_among = all_of (Contains (items ++ after)) items (Contains-append_left items after)

    placed_among : (edits : List (Edit T)) → ((x : T) → Contains edits (Insert x) → Contains after x) → (e : Edit T) → Contains edits e → AreAmong (items ++ after) (placed_of e)
    placed_among edits comes (Remove key) there = All-nil (Contains (items ++ after))
    placed_among edits comes (Insert key) there = All-cons (Contains (items ++ after)) key [] (Contains-append_right items after key (comes key there)) (All-nil (Contains (items ++ after)))

    pub new_among : (order : T → T → Ordering) (edits : List (Edit T)) → IsEdited order edits items after → InsertAmong (items ++ after) edits
    new_among order edits edited = all_of (λ e. AreAmong (items ++ after) (placed_of e)) edits (placed_among edits edited.comes)

-- ---- what stands in the store

-- of what stands in a store now, where it told at first what stood in it
pub where_now : (a b : Option Places) (P : Places → Type 0) → KeepsPlaces a b → WhereTold a (λ there. P (places b)) → WhereTold b P
where_now None b P keeps so there is = absurd (let never : None ≡ Some there = let none : b ≡ None = keeps in cc in cc)
where_now (Some old) b P keeps so there is = subst P (ap places is) (so old refl)

-- which place is blamed
abbrev pub blamed : {X F G : Type 0} → Result X (TreeFault F G) → ℕ
blamed (Ok value) = 0
blamed (Err (tree_fault.Store fault)) = 0
blamed (Err (tree_fault.BadNode at)) = at
blamed (Err (tree_fault.Summer fault)) = 0
blamed (Err tree_fault.NoMemory) = 0

-- after a fault of the store it went on and failed then, and else it went on
abbrev pub StoreRan : {S F G X : Type 0} → Sources S F → S → S → Result X (TreeFault F G) → Type 0
StoreRan n old new (Ok value) = n.goes old new
StoreRan n old new (Err (tree_fault.Store fault)) = FailsAt n old new fault
StoreRan n old new (Err (tree_fault.BadNode at)) = n.goes old new
StoreRan n old new (Err (tree_fault.Summer fault)) = n.goes old new
StoreRan n old new (Err tree_fault.NoMemory) = n.goes old new

pub store_ran : {T S F M Sum G X : Type 0} (i : Items T) (n : Sources S F) (m : Summers M T Sum G) (old new : S) (u v : M) (result : Result X (TreeFault F G))
    → Ran i n m old new u v result → StoreRan n old new result
store_ran i n m old new u v (Ok value) h = h.store
store_ran i n m old new u v (Err (tree_fault.Store fault)) h = h.store
store_ran i n m old new u v (Err (tree_fault.BadNode at)) h = h.store
store_ran i n m old new u v (Err (tree_fault.Summer fault)) h = h.store
store_ran i n m old new u v (Err tree_fault.NoMemory) h = h.store

-- what a summer did: it went on, or failed
abbrev pub SumDid : {A F G X : Type 0} → (A → A → Type 0) → (A → A → G → Type 0) → A → A → Result X (TreeFault F G) → Type 0
SumDid Goes Fails u v (Ok value) = Goes u v
SumDid Goes Fails u v (Err (tree_fault.Store fault)) = Goes u v
SumDid Goes Fails u v (Err (tree_fault.BadNode at)) = Goes u v
SumDid Goes Fails u v (Err (tree_fault.Summer fault)) = Fails u v fault
SumDid Goes Fails u v (Err tree_fault.NoMemory) = Goes u v

pub sum_did : {T S F M Sum G X : Type 0} (i : Items T) (n : Sources S F) (m : Summers M T Sum G) (old new : S) (u v : M) (result : Result X (TreeFault F G))
    → Ran i n m old new u v result → SumDid m.goes m.fails u v result
sum_did i n m old new u v (Ok value) h = h.summer
sum_did i n m old new u v (Err (tree_fault.Store fault)) h = h.summer
sum_did i n m old new u v (Err (tree_fault.BadNode at)) h = h.summer
sum_did i n m old new u v (Err (tree_fault.Summer fault)) h = h.summer
sum_did i n m old new u v (Err tree_fault.NoMemory) h = h.summer

-- the bad node that is named is one of the tree, by what stands in the store now
abbrev pub FoundBad : {T Sum S F G X : Type 0} → Items T → Values T Sum → Sources S F → S → S → Tree → Result X (TreeFault F G) → Type 0
FoundBad i v n old new tree (Ok value) = Unit {0}
FoundBad i v n old new tree (Err (tree_fault.Store fault)) = Unit {0}
FoundBad i v n old new tree (Err (tree_fault.BadNode at)) = WhereTold (n.nodes old) (λ there. IsFaulty i v (places (n.nodes new)) tree at)
FoundBad i v n old new tree (Err (tree_fault.Summer fault)) = Unit {0}
FoundBad i v n old new tree (Err tree_fault.NoMemory) = Unit {0}

pub found_bad : {T S F M Sum G X : Type 0} (i : Items T) (n : Sources S F) (m : Summers M T Sum G) (first : M) (tree : Tree) (pieces : List (List ℕ)) (old new : S) (result : Result X (TreeFault F G))
    → WhereTold (n.nodes old) (λ _. Takes i n m first tree pieces old new result) → FoundBad i (values_of m first) n old new tree result
found_bad i n m first tree pieces old new (Ok value) met = tt
found_bad i n m first tree pieces old new (Err (tree_fault.Store fault)) met = tt
found_bad i n m first tree pieces old new (Err (tree_fault.BadNode at)) met = λ there told. (met there told).0
found_bad i n m first tree pieces old new (Err (tree_fault.Summer fault)) met = tt
found_bad i n m first tree pieces old new (Err tree_fault.NoMemory) met = tt

pub bad_now : {T Sum S F G X : Type 0} (i : Items T) (v : Values T Sum) (n : Sources S F) (old new : S) (tree : Tree) (result : Result X (TreeFault F G)) (at : ℕ)
    → UnlessStore result (KeepsPlaces (n.nodes old) (n.nodes new)) → FoundBad i v n old new tree result → result ≡ Err (tree_fault.BadNode at) → WhereTold (n.nodes new) (λ there. IsFaulty i v there tree at)
bad_now i v n old new tree (Ok value) at kept found is = absurd (cc)
bad_now i v n old new tree (Err (tree_fault.Store fault)) at kept found is = absurd (cc)
bad_now i v n old new tree (Err (tree_fault.BadNode other)) at kept found is =
    let same : other ≡ at = ap blamed is in
    where_now (n.nodes old) (n.nodes new) (λ there. IsFaulty i v there tree at) kept (λ there told. subst (IsFaulty i v (places (n.nodes new)) tree) same (found there told))
bad_now i v n old new tree (Err (tree_fault.Summer fault)) at kept found is = absurd (cc)
bad_now i v n old new tree (Err tree_fault.NoMemory) at kept found is = absurd (cc)

-- a node that is bad by the one values is so by others that no more bytes spell
pub faulty_others : {T Sum : Type 0} (i : Items T) (v w : Values T Sum) → ((sum : Sum) → w.fits sum → v.fits sum) → ((sum : Sum) → v.meaning.spelled sum ≡ w.meaning.spelled sum) → (there : Places) (tree : Tree) (at : ℕ) → IsFaulty i v there tree at → IsFaulty i w there tree at
faulty_others i v w fits spelled there tree at (unfit bad) = unfit bad
faulty_others i v w fits spelled there tree at (unread keeps) =
    let bad = keeps.bad in
    unread (record {
      level = keeps.level;
      node = keeps.node;
      met = keeps.met;
      bad = record { children = bad.children; inner = bad.inner; child = bad.child; inside = bad.inside; unread = λ sum fit is. bad.unread sum (fits sum fit) (spelled sum ∙ is) };
    })

module _ {S F : Type 0} (n : Sources S F) (laws : StoreLaws n) where
  pub failed_at : (old new : S) (fault : F) → FailsAt n old new fault → n.fails old new fault
  failed_at old new fault h = laws.caused old h.mid new fault h.went h.failed

  pub store_went : {X : Type 0} (old new : S) (result : Result X (TreeFault F PoolFault)) → StoreRan n old new result → StoreWent n old new result
  store_went old new (Ok value) h = h
  store_went old new (Err (tree_fault.Store fault)) h = failed_at old new fault h
  store_went old new (Err (tree_fault.BadNode at)) h = h
  store_went old new (Err (tree_fault.Summer fault)) h = h
  store_went old new (Err tree_fault.NoMemory) h = h

-- ---- the call

module _ {T S F G : Type 0} (n : Sources S F) (edits : List (Edit T)) (old new : S) (before now : ℕ) (tree : Tree) where
  -- what is so of a call that edits a tree, whatever stands in the store
  pub record Applies (result : Result Tree (TreeFault F G)) : Type 0 where
    pub kept : UnlessStore result (KeepsPlaces (n.nodes old) (n.nodes new))
    pub ready : UnlessStore result (n.is_ready new)
    pub reads : ReadsFor (n.reads old) (n.reads new) before now
    pub store : StoreRan n old new result
    pub size : IfOk result IsTreeSize
    pub count : IfOk result (λ after. after.count ≤ tree.count + insertions edits)
    pub grows : OnOk result (n.size old + 8 * insertions edits ≤ n.size new)
    pub steps : IfOk result (λ after. now ≤ before + length edits * (8 * (max tree.height after.height + 1)))
    pub most_steps : (h : ℕ) → tree.height ≤ h → tree.count + insertions edits < 8 ^ h → now ≤ before + length edits * (8 * (h + 1))
    pub puts : IfOk result (λ after. length (n.puts new) ≤ length (n.puts old) + length edits * (4 * (max tree.height after.height + 1)))
    pub most_puts : (h : ℕ) → tree.height ≤ h → tree.count + insertions edits < 8 ^ h → length (n.puts new) ≤ length (n.puts old) + length edits * (4 * (h + 1))

  -- and what is so of one over a tree with these values
  module _ {Sum : Type 0} (i : Items T) (v : Values T Sum) where
    pub record AppliesTo (result : Result Tree (TreeFault F G)) : Type 0 where
      pub tree_is : (there : Places) (items : List T) → n.nodes old ≡ Some there → AreEdits i.order edits → IsTree i v there tree items
          → IfOk result (λ after. IsTree i v (places (n.nodes new)) after (applied i.order edits items))
      pub bytes : (there : Places) (items among : List T) (longest h : ℕ) → n.nodes old ≡ Some there → IsTree i v there tree items → AreAmong among items → InsertAmong among edits
          → All (λ x. length (i.spelled x) ≤ longest) among → tree.height ≤ h → tree.count + insertions edits < 8 ^ h → n.size new ≤ n.size old + (length edits * (4 * (h + 1))) * node_size longest
      pub done_bytes : (there : Places) (items among : List T) (longest : ℕ) → n.nodes old ≡ Some there → IsTree i v there tree items → AreAmong among items → InsertAmong among edits
          → All (λ x. length (i.spelled x) ≤ longest) among → IfOk result (λ after. n.size new ≤ n.size old + (length edits * (4 * (max tree.height after.height + 1))) * node_size longest)
      pub pieces : (there : Places) (items among : List T) (longest : ℕ) → n.nodes old ≡ Some there → IsTree i v there tree items → AreAmong among items → InsertAmong among edits
          → All (λ x. length (i.spelled x) ≤ longest) among → PutsWithin (node_size longest) (n.puts old) (n.puts new)
      pub found : (there : Places) (items : List T) → n.nodes old ≡ Some there → IsTree i v there tree items → GotFound n old new result
      pub sound : (there : Places) (items : List T) → n.nodes old ≡ Some there → IsTree i v there tree items → IfErr result BlamesNone

module _ {X E : Type 0} where
  if_map : {P Q : X → Type 0} (result : Result X E) → ((x : X) → P x → Q x) → IfOk result P → IfOk result Q
  if_map (Ok value) f h = f value h
  if_map (Err fault) f h = tt

  if_both : {P : Type 0} {Q R : X → Type 0} (result : Result X E) → ((x : X) → P → Q x → R x) → OnOk result P → IfOk result Q → IfOk result R
  if_both (Ok value) f h k = f value h k
  if_both (Err fault) f h k = tt

-- a fault that blames no node names no place
pub blames_none : {X F G : Type 0} (result : Result X (TreeFault F G)) (at : ℕ) → IfErr result BlamesNone → result ≡ Err (tree_fault.BadNode at) → ⊥
blames_none (Ok value) at none is = cc
blames_none (Err (tree_fault.Store fault)) at none is = cc
blames_none (Err (tree_fault.BadNode other)) at none is = none
blames_none (Err (tree_fault.Summer fault)) at none is = cc
blames_none (Err tree_fault.NoMemory) at none is = cc

module _ {T S F G : Type 0} (n : Sources S F) (edits : List (Edit T)) (old new : S) (before now : ℕ) (tree : Tree) (result : Result Tree (TreeFault F G)) where
  -- summaries of the one values are those of the others, and the other way round
  pub applies_others : {Sum R : Type 0} (i : Items T) (v : Values T Sum) (w : Values T R) → SumsPass v w → SumsPass w v
      → AppliesTo n edits old new before now tree i v result → AppliesTo n edits old new before now tree i w result
  applies_others i v w there back a =
      let stay : (p : Places) → Extends p p = λ p at bytes stands. stands in
      let later = places (n.nodes new) in
      let in_v : (p : Places) (items : List T) → IsTree i w p tree items → IsTree i v p tree items = λ p. tree_passes i w v back p p (stay p) tree in
      record {
        tree_is = λ p items told are is. if_map result (λ after. tree_passes i v w there later later (stay later) after (applied i.order edits items)) (a.tree_is p items told are (in_v p items is));
        bytes = λ p items among longest h told is. a.bytes p items among longest h told (in_v p items is);
        done_bytes = λ p items among longest told is. a.done_bytes p items among longest told (in_v p items is);
        pieces = λ p items among longest told is. a.pieces p items among longest told (in_v p items is);
        found = λ p items told is. a.found p items told (in_v p items is);
        sound = λ p items told is. a.sound p items told (in_v p items is);
      }

  module _ (a : Applies n edits old new before now tree result) where
    pub no_smaller : OnOk result (n.size old ≤ n.size new)
    no_smaller = on_map result (λ grows. omega (arith, grows)) a.grows

    pub has_room : 8 * tree.count ≤ n.size old → IfOk result (λ after. 8 * after.count ≤ n.size new)
    has_room enough = if_both result (λ after grows count. omega (arith, grows, count, enough)) a.grows a.count

  -- where there are so many edits, and so many items are inserted at most
  module _ (all more : ℕ) (are : length edits ≡ all) (few : insertions edits ≤ more) where
    pub steps_by : Applies n edits old new before now tree result → (h : ℕ) → tree.height ≤ h → IfOk result (λ after. after.height ≤ h → now ≤ before + all * (8 * (h + 1)))
    steps_by a h low = if_map result (λ after within high. subst (λ k. now ≤ before + k * (8 * (h + 1))) are (steps_done (length edits) before now tree.height after.height h low high within)) a.steps

    pub puts_by : Applies n edits old new before now tree result → (h : ℕ) → tree.height ≤ h → IfOk result (λ after. after.height ≤ h → length (n.puts new) ≤ length (n.puts old) + all * (4 * (h + 1)))
    puts_by a h low =
        if_map result (λ after within high. subst (λ k. length (n.puts new) ≤ length (n.puts old) + k * (4 * (h + 1))) are (puts_done (length edits) (length (n.puts old)) (length (n.puts new)) tree.height after.height h low high within)) a.puts

    within_by : (most : ℕ) → tree.count + more < most → tree.count + insertions edits < most
    within_by most within = omega (arith, within, few)

    pub most_steps_by : Applies n edits old new before now tree result → (h : ℕ) → tree.height ≤ h → tree.count + more < 8 ^ h → now ≤ before + all * (8 * (h + 1))
    most_steps_by a h low within = subst (λ k. now ≤ before + k * (8 * (h + 1))) are (a.most_steps h low (within_by (8 ^ h) within))

    pub most_puts_by : Applies n edits old new before now tree result → (h : ℕ) → tree.height ≤ h → tree.count + more < 8 ^ h → length (n.puts new) ≤ length (n.puts old) + all * (4 * (h + 1))
    most_puts_by a h low within = subst (λ k. length (n.puts new) ≤ length (n.puts old) + k * (4 * (h + 1))) are (a.most_puts h low (within_by (8 ^ h) within))

    module _ {Sum : Type 0} (i : Items T) (v : Values T Sum) (a : AppliesTo n edits old new before now tree i v result) where
      abbrev Short : ℕ → List T → Type 0
      Short longest = All (λ x. length (i.spelled x) ≤ longest)

      -- the tree's items and those that the edits make of them are short
      module _ (there : Places) (items after : List T) (longest : ℕ) (told : n.nodes old ≡ Some there) (is : IsTree i v there tree items) (edited : IsEdited i.order edits items after) (low : Short longest items) (short : Short longest after) where
        short_all : Short longest (items ++ after)
        short_all = All-append (λ (x : T). length (i.spelled x) ≤ longest) items after low short

        pub bytes_by : (h : ℕ) → tree.height ≤ h → IfOk result (λ t. t.height ≤ h → n.size new ≤ n.size old + (all * (4 * (h + 1))) * node_size longest)
        bytes_by h lower =
            if_map result (λ t within high. subst (λ k. n.size new ≤ n.size old + (k * (4 * (h + 1))) * node_size longest) are (bytes_done (length edits) (node_size longest) (n.size old) (n.size new) tree.height t.height h lower high within))
            (a.done_bytes there items (items ++ after) longest told is (old_among items after) (new_among items after i.order edits edited) short_all)

        pub most_bytes_by : (h : ℕ) → tree.height ≤ h → tree.count + more < 8 ^ h → n.size new ≤ n.size old + (all * (4 * (h + 1))) * node_size longest
        most_bytes_by h lower within =
            subst (λ k. n.size new ≤ n.size old + (k * (4 * (h + 1))) * node_size longest) are
            (a.bytes there items (items ++ after) longest h told is (old_among items after) (new_among items after i.order edits edited) short_all lower (within_by (8 ^ h) within))

        pub pieces_by : PutsWithin (node_size longest) (n.puts old) (n.puts new)
        pieces_by = a.pieces there items (items ++ after) longest told is (old_among items after) (new_among items after i.order edits edited) short_all
