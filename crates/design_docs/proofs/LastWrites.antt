-- The last writes rise by id, and setting one.
use Rattle.std.specs.Prelude.{◌≡◌, ℕ, List, [], ◌∷◌, false, bytes_eq}
use Rattle.std.proofs.Common.{refl, sym, ap, ◌∙◌}
use Rattle.std.specs.declared.cmp.Ordering.{Ordering}
use Rattle.std.specs.declared.cmp.Ordering.TheVariants.{Less, Equal, Greater}
use Rattle.std.specs.Ordering.{is_eq, nat_cmp, match_ordering, ordering_reverse}
use Rattle.std.specs.Cmp.Lexicographic.{slice_cmp, nat_list_cmp_total}
use Rattle.std.specs.BTreeMap.{insert_entry}
use Rattle.std.proofs.lemmas.Map.Text.{is_eq-slice_cmp}
use Rattle.design_docs.specs.History.{Write, last_writes}

abbrev pub order : List ℕ → List ℕ → Ordering
order = slice_cmp nat_cmp

-- the id is below each of these
abbrev pub IsBelow : {X : Type 0} → List ℕ → List (List ℕ × X) → Type 0
IsBelow id [] = Unit {0}
IsBelow id (e ∷ es) = (order id e.0 ≡ Less) × IsBelow id es

abbrev pub Rises : {X : Type 0} → List (List ℕ × X) → Type 0
Rises [] = Unit {0}
Rises (e ∷ es) = IsBelow e.0 es × Rises es

pub below_below : {X : Type 0} (low id : List ℕ) (es : List (List ℕ × X)) → order low id ≡ Less → IsBelow id es → IsBelow low es
below_below low id [] less below = tt
below_below low id (e ∷ es) less below = (nat_list_cmp_total.trans low id e.0 less below.0, below_below low id es less below.1)

IsBelow-insert : {X : Type 0} (low id : List ℕ) (x : X) (es : List (List ℕ × X)) → order low id ≡ Less → IsBelow low es → IsBelow low (insert_entry order es id x)
IsBelow-insert low id x [] less below = (less, tt)
IsBelow-insert low id x (e ∷ es) less below =
    elim (order id e.0) as (λ o. IsBelow low (match_ordering o ((id, x) ∷ e ∷ es) ((e.0, x) ∷ es) (e ∷ insert_entry order es id x))) [
      | Less ↦ (less, below)
      | Equal ↦ (below.0, below.1)
      | Greater ↦ (below.0, IsBelow-insert low id x es less below.1)
    ]

Rises-insert : {X : Type 0} (id : List ℕ) (x : X) (es : List (List ℕ × X)) → Rises es → Rises (insert_entry order es id x)
Rises-insert id x [] rises = (tt, tt)
Rises-insert id x (e ∷ es) rises =
    elim (order id e.0) as (λ o. order id e.0 ≡ o → Rises (match_ordering o ((id, x) ∷ e ∷ es) ((e.0, x) ∷ es) (e ∷ insert_entry order es id x))) [
      | Less ↦ λ is. ((is, below_below id e.0 es is rises.0), rises)
      | Equal ↦ λ is. rises
      | Greater ↦ λ is. (IsBelow-insert e.0 id x es (nat_list_cmp_total.antisymm e.0 id ∙ ap ordering_reverse is) rises.0, Rises-insert id x es rises.1)
    ] refl

pub last_writes_rise : (history : List Write) → Rises (last_writes history)
last_writes_rise [] = tt
last_writes_rise (write ∷ older) = Rises-insert write.id write (last_writes older) (last_writes_rise older)

-- an id that is below others is none of them
pub unlike : (id other : List ℕ) → order id other ≡ Less → bytes_eq id other ≡ false
unlike id other less = sym (is_eq-slice_cmp id other) ∙ ap is_eq less
