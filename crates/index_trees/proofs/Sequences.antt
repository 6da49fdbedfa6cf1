-- Trees that are edited one after another.
use Rattle.std.proofs.Common.{◌≡◌, ◌<◌, ◌≤◌, ◌+◌, ◌*◌, ℕ, zero, suc, List, [], ◌∷◌, ◌++◌, length, Option, Some, None, Result, Ok, Err, refl, ap, ◌∙◌, subst, arith}
use Rattle.std.specs.Prelude.{OnOk, slice_index_or}
use Rattle.std.proofs.Math.Nat.{add-mul}
use Rattle.json_terms.specs.declared.term.Row.{Row}
use Rattle.design_docs.specs.declared.design.View.{View}
use Rattle.view_ports.specs.declared.servers.Servers.{Ghosts as Servers}
use Rattle.view_ports.specs.Functions.{Functions}
use Rattle.tree_laws.specs.declared.store.NodeSource.{Ghosts as Sources}
use Rattle.tree_laws.specs.declared.tree.Tree.{Tree}
use Rattle.tree_laws.specs.declared.tree.TreeFault.{TreeFault}
use Rattle.tree_laws.specs.declared.tree.TreeFault.TheVariants as tree_fault
use Rattle.tree_laws.specs.Meaning.{AreSteps, StaysCaused}
use Rattle.tree_laws.specs.Stores.{Extends, KeepsPlaces, Places}
use Rattle.tree_laws.proofs.Structure.{same_sums, tree_passes}
use Rattle.reduce_tree.specs.Calls.{places, UnlessStore}
use Rattle.child_pool.specs.declared.pool_fault.PoolFault.{PoolFault}
use Rattle.child_pool.specs.declared.summers.Summers.{Summers}
use Rattle.child_pool.specs.ReduceTalk.{Fails, Goes, reduce_in, reduce_sources}
use Rattle.child_pool.specs.TalkLaws.{fails_behind, goes_both, goes_none}
use Rattle.row_exchange.specs.declared.doc_rows.DocRows.{DocRows}
use Rattle.row_exchange.specs.Replaced.{each_from}
use Rattle.index_items.specs.declared.back_row.BackRow.{BackRow}
use Rattle.index_trees.specs.Edited.{Went}
use Rattle.index_trees.specs.Exchanges.{GivesUp, StoreWent, SummersWent, Talks}
use Rattle.index_trees.specs.Trees.{row_items, EachAt, HasRows}
use Rattle.index_trees.specs.ViewValues.{view_values}

-- ---- facts of each element by its number

pub each_map : {X : Type 0} (P Q : ℕ → X → Type 0) → ((k : ℕ) (x : X) → P k x → Q k x) → (number : ℕ) (xs : List X) → EachAt P number xs → EachAt Q number xs
each_map P Q f number [] h = tt
each_map P Q f number (x ∷ xs) h = (f number x h.0, each_map P Q f (suc number) xs h.1)

pub each_append : {X : Type 0} (P : ℕ → X → Type 0) (number : ℕ) (xs : List X) (x : X) → EachAt P number xs → P (number + length xs) x → EachAt P number (xs ++ x ∷ [])
each_append P number [] x h last = (subst (λ k. P k x) (omega arith) last, tt)
each_append P number (y ∷ xs) x h last = (h.0, each_append P (suc number) xs x h.1 (subst (λ k. P k x) (omega arith) last))

pub each_front : {X : Type 0} (P : ℕ → X → Type 0) (number : ℕ) (xs ys : List X) → EachAt P number (xs ++ ys) → EachAt P number xs
each_front P number [] ys h = tt
each_front P number (x ∷ xs) ys h = (h.0, each_front P (suc number) xs ys h.1)

pub each_next : {X : Type 0} (P : ℕ → X → Type 0) (number : ℕ) (xs : List X) (x : X) (ys : List X) → EachAt P number (xs ++ x ∷ ys) → P (number + length xs) x
each_next P number [] x ys h = subst (λ k. P k x) (omega arith) h.0
each_next P number (y ∷ xs) x ys h = subst (λ k. P k x) (omega arith) (each_next P (suc number) xs x ys h.1)

pub each_there : {X : Type 0} (P : ℕ → X → Type 0) (number : ℕ) (xs : List X) → EachAt P number xs → (k : ℕ) → k < length xs → (x : X) × P (number + k) x
each_there P number [] h k within = absurd (omega (arith, within))
each_there P number (x ∷ xs) h zero within = let same : number ≡ number + 0 = omega arith in (x, subst (λ m. P m x) same h.0)
each_there P number (x ∷ xs) h (suc k) within =
    let same : suc number + k ≡ number + suc k = omega arith in
    let later = each_there P (suc number) xs h.1 k (omega (arith, within)) in
    (later.0, subst (λ m. P m later.0) same later.1)

-- ---- elements that are made by their numbers

pub length-each_from : {X : Type 0} (f : ℕ → X → X) (number : ℕ) (xs : List X) → length (each_from f number xs) ≡ length xs
length-each_from f number [] = refl
length-each_from f number (x ∷ xs) = ap suc (length-each_from f (suc number) xs)

pub each_from-at : {X : Type 0} (f : ℕ → X → X) (number : ℕ) (xs : List X) (k : ℕ) (d : X) → k < length xs → slice_index_or (each_from f number xs) k d ≡ f (number + k) (slice_index_or xs k d)
each_from-at f number [] k d within = absurd (omega (arith, within))
each_from-at f number (x ∷ xs) zero d within = let same : number ≡ number + 0 = omega arith in ap (λ m. f m x) same
each_from-at f number (x ∷ xs) (suc k) d within =
    let same : suc number + k ≡ number + suc k = omega arith in
    each_from-at f (suc number) xs k d (omega (arith, within)) ∙ ap (λ m. f m (slice_index_or xs k d)) same

-- ---- numbers

pub sum_bounds : (few more per i j k : ℕ) → j ≤ i + few * per → k ≤ j + more * per → k ≤ i + (few + more) * per
sum_bounds few more per i j k first second = omega (arith, first, second, add-mul few more per)

pub sum_products : (few more per size i j k : ℕ) → j ≤ i + (few * per) * size → k ≤ j + (more * per) * size → k ≤ i + ((few + more) * per) * size
sum_products few more per size i j k first second =
    omega (arith, first, second, ap (λ m. m * size) (add-mul few more per), add-mul (few * per) (more * per) size)

-- ---- answers

abbrev pub done : (X E : Type 0) → X → Result X E
done X E x = Ok x

abbrev pub refused : {E : Type 0} (X : Type 0) → E → Result X E
refused X fault = Err fault

pub err_same : {E : Type 0} (X : Type 0) (a b : E) → refused X a ≡ refused X b → a ≡ b
err_same X a b is = cc

-- ---- stores

pub record StoreLaws {S F : Type 0} (n : Sources S F) : Type 0 where
  pub steps : AreSteps n.goes
  pub caused : StaysCaused n.goes n.fails
  pub keeps : (a b : S) → n.goes a b → KeepsPlaces (n.nodes a) (n.nodes b)

pub keeps_both : (a b c : Option Places) → KeepsPlaces a b → KeepsPlaces b c → KeepsPlaces a c
keeps_both None b c h k = subst (λ (x : Option Places). KeepsPlaces x c) h k
keeps_both (Some a) None c h k = absurd h
keeps_both (Some a) (Some b) None h k = absurd k
keeps_both (Some a) (Some b) (Some c) h k = λ at bytes there. k at bytes (h at bytes there)

pub keeps_itself : (a : Option Places) → KeepsPlaces a a
keeps_itself None = refl
keeps_itself (Some there) = λ at bytes is. is

pub told_then : (a b : Option Places) (there : Places) → a ≡ Some there → KeepsPlaces a b → (b ≡ Some (places b)) × Extends there (places b)
told_then None b there is keeps = absurd (let never : None ≡ Some there = is in cc)
told_then (Some old) None there is keeps = absurd keeps
told_then (Some old) (Some new) there is keeps = (refl, subst (λ (p : Places). Extends p new) (ap places is) keeps)

pub extends_then : (a b : Option Places) → KeepsPlaces a b → Extends (places a) (places b)
extends_then None b keeps = λ at bytes there. absurd (let never : None ≡ Some bytes = there in cc)
extends_then (Some old) None keeps = absurd keeps
extends_then (Some old) (Some new) keeps = keeps

module _ {F X : Type 0} where
  pub unless_map : {P Q : Type 0} (result : Result X (TreeFault F PoolFault)) → (P → Q) → UnlessStore result P → UnlessStore result Q
  unless_map (Ok value) f h = f h
  unless_map (Err (tree_fault.Store fault)) f h = tt
  unless_map (Err (tree_fault.BadNode at)) f h = f h
  unless_map (Err (tree_fault.Summer fault)) f h = f h
  unless_map (Err tree_fault.NoMemory) f h = f h

pub on_map : {X E P Q : Type 0} (result : Result X E) → (P → Q) → OnOk result P → OnOk result Q
on_map (Ok value) f h = f h
on_map (Err fault) f h = tt

-- a tree of rows stays where more is put
pub rows_stay : (functions : Option Functions) (views : List View) (there now : Places) (rows : List (List Row)) (view : ℕ) (tree : Tree) → Extends there now → HasRows functions views there rows view tree → HasRows functions views now rows view tree
rows_stay functions views there now rows view tree e =
    let v = view_values functions (reduce_in views view) in
    tree_passes row_items v v (same_sums v) there now e tree _

-- ---- talks

module _ {C : Type 0} (s : Servers C) where
  pub talks_none : (u : Summers C) → Talks s u u
  talks_none u = record { design = refl; slot = goes_none s u.design.now.language (reduce_sources u.design.now.views) u.slot; idle = λ none. refl }

  pub talks_both : (u v w : Summers C) → Talks s u v → Talks s v w → Talks s u w
  talks_both u v w first second = record {
    design = second.design ∙ first.design;
    slot =
        goes_both s u.design.now.language (reduce_sources u.design.now.views) u.slot v.slot w.slot first.slot
        (subst (λ t. Goes s t.now.language (reduce_sources t.now.views) v.slot w.slot) first.design second.slot);
    idle = λ none. second.idle (ap (λ t. reduce_sources t.now.views) first.design ∙ none) ∙ first.idle none;
  }

  pub gives_up_then : (u v w : Summers C) (fault : PoolFault) → Talks s u v → GivesUp s v w fault → GivesUp s u w fault
  gives_up_then u v w fault first second = record {
    design = second.design ∙ first.design;
    slot =
        fails_behind s u.design.now.language (reduce_sources u.design.now.views) u.slot v.slot w.slot fault first.slot
        (subst (λ t. Fails s t.now.language (reduce_sources t.now.views) v.slot w.slot fault) first.design second.slot);
    idle = λ none.
        let still = second.idle (ap (λ t. reduce_sources t.now.views) first.design ∙ none) in
        (still.0, still.1 ∙ first.idle none);
  }

  pub summers_then : {F X : Type 0} (u v w : Summers C) (result : Result X (TreeFault F PoolFault)) → Talks s u v → SummersWent s v w result → SummersWent s u w result
  summers_then u v w (Ok value) first second = talks_both u v w first second
  summers_then u v w (Err (tree_fault.Store fault)) first second = talks_both u v w first second
  summers_then u v w (Err (tree_fault.BadNode at)) first second = talks_both u v w first second
  summers_then u v w (Err (tree_fault.Summer fault)) first second = gives_up_then u v w fault first second
  summers_then u v w (Err tree_fault.NoMemory) first second = talks_both u v w first second

-- ---- both

module _ {S F : Type 0} (n : Sources S F) (laws : StoreLaws n) where
  pub store_then : {X : Type 0} (a b c : S) (result : Result X (TreeFault F PoolFault)) → n.goes a b → StoreWent n b c result → StoreWent n a c result
  store_then a b c (Ok value) first second = laws.steps.both a b c first second
  store_then a b c (Err (tree_fault.Store fault)) first second = laws.caused a b c fault first second
  store_then a b c (Err (tree_fault.BadNode at)) first second = laws.steps.both a b c first second
  store_then a b c (Err (tree_fault.Summer fault)) first second = laws.steps.both a b c first second
  store_then a b c (Err tree_fault.NoMemory) first second = laws.steps.both a b c first second

  module _ {C : Type 0} (s : Servers C) (changes : List DocRows) (olds : List (List BackRow)) where
    pub went_then : {X Y : Type 0} (a b c : S) (u v w : Summers C) (i j k : ℕ) (x : X) (result : Result Y (TreeFault F PoolFault)) → Went n s changes olds a b u v i j (Ok x) → Went n s changes olds b c v w j k result → Went n s changes olds a c u w i k result
    went_then a b c u v w i j k x result first second = record {
      kept = unless_map result (keeps_both (n.nodes a) (n.nodes b) (n.nodes c) first.kept) second.kept;
      ready = second.ready;
      reads = (omega (arith, first.reads.0, second.reads.0), omega (arith, first.reads.1, second.reads.1));
      store = store_then a b c result first.store second.store;
      talk = summers_then s u v w result first.talk second.talk;
      more = on_map result (λ later. omega (arith, first.more, later)) second.more;
      by = λ functions by. second.by functions (first.by functions by);
    }
