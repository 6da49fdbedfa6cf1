-- The live documents: each id once, in order, with what its last write stored.
use Rattle.std.specs.Prelude.{◌≡◌, ℕ, List, [], ◌∷◌, Bool, true, false, Option, Some, None, option_map, option_and_then, bytes_eq, if◌then◌else◌}
use Rattle.std.proofs.Common.{refl, sym, ap, ◌∙◌, subst}
use Rattle.std.specs.declared.cmp.Ordering.TheVariants.{Less}
use Rattle.std.specs.List.{filter_map, cons_option, AllByRecursion}
use Rattle.std.specs.List.Sorted.{IsStrictlySortedBy}
use Rattle.std.specs.Map.{lookup, keys_of}
use Rattle.std.proofs.lemmas.Slice.Eq.{bytes_eq-Decides}
use Rattle.std.proofs.lemmas.Map.Text.{is_eq-slice_cmp}
use Rattle.json_terms.specs.Json.{Json}
use Rattle.design_docs.specs.History.{Write, last_writes, stored, live}
use Rattle.design_docs.proofs.LastWrites.{IsBelow, Rises, last_writes_rise, order, unlike}
use Rattle.view_engine.specs.Laws.{HasLastWrites, HasLiveDocuments, IsInOrderOfId}
use Rattle.view_engine.proofs.LastWrites.{last_write-lookup}

-- ---- those that are stored

abbrev beside : List ℕ → Option Json → Option (List ℕ × Json)
beside id document = option_map (λ d. (id, d)) document

IsBelow-stored : (id : List ℕ) (ws : List (List ℕ × Write)) → IsBelow id ws → IsBelow id (filter_map stored ws)
IsBelow-stored id [] below = tt
IsBelow-stored id (w ∷ ws) below =
    elim ((w.1).document) as (λ d. IsBelow id (cons_option (beside w.0 d) (filter_map stored ws))) [
      | None ↦ IsBelow-stored id ws below.1
      | Some document ↦ (below.0, IsBelow-stored id ws below.1)
    ]

Rises-stored : (ws : List (List ℕ × Write)) → Rises ws → Rises (filter_map stored ws)
Rises-stored [] rises = tt
Rises-stored (w ∷ ws) rises =
    elim ((w.1).document) as (λ d. Rises (cons_option (beside w.0 d) (filter_map stored ws))) [
      | None ↦ Rises-stored ws rises.1
      | Some document ↦ (IsBelow-stored w.0 ws rises.0, Rises-stored ws rises.1)
    ]

-- an id that is below others is none of them
missing : {X : Type 0} (id : List ℕ) (es : List (List ℕ × X)) → IsBelow id es → lookup (bytes_eq id) es ≡ None
missing id [] below = refl
missing {X} id (e ∷ es) below =
    ap (λ (b : Bool). if b then Some e.1 else lookup (bytes_eq id) es) (unlike id e.0 below.0) ∙ missing id es below.1

abbrev document_of : Option Write → Option Json
document_of write = option_and_then (λ w. w.document) write

stored_here : (id : List ℕ) (w : List ℕ × Write) (ws : List (List ℕ × Write)) → IsBelow w.0 ws → bytes_eq id w.0 ≡ true → lookup (bytes_eq id) (filter_map stored (w ∷ ws)) ≡ (w.1).document
stored_here id w ws below same =
    let is : id ≡ w.0 = (bytes_eq-Decides id w.0).0 same in
    elim ((w.1).document) as (λ d. lookup (bytes_eq id) (cons_option (beside w.0 d) (filter_map stored ws)) ≡ d) [
      | None ↦ subst (λ (i : List ℕ). lookup (bytes_eq i) (filter_map stored ws) ≡ None) (sym is) (missing w.0 (filter_map stored ws) (IsBelow-stored w.0 ws below))
      | Some document ↦ ap (λ (b : Bool). if b then Some document else lookup (bytes_eq id) (filter_map stored ws)) same
    ]

stored_there : (id : List ℕ) (w : List ℕ × Write) (ws : List (List ℕ × Write)) (found : Option Json) → bytes_eq id w.0 ≡ false
    → lookup (bytes_eq id) (filter_map stored ws) ≡ found → lookup (bytes_eq id) (filter_map stored (w ∷ ws)) ≡ found
stored_there id w ws found other rest =
    elim ((w.1).document) as (λ d. lookup (bytes_eq id) (cons_option (beside w.0 d) (filter_map stored ws)) ≡ found) [
      | None ↦ rest
      | Some document ↦ ap (λ (b : Bool). if b then Some document else lookup (bytes_eq id) (filter_map stored ws)) other ∙ rest
    ]

lookup-stored : (id : List ℕ) (ws : List (List ℕ × Write)) → Rises ws → lookup (bytes_eq id) (filter_map stored ws) ≡ document_of (lookup (bytes_eq id) ws)
lookup-stored id [] rises = refl
lookup-stored id (w ∷ ws) rises =
    elim (bytes_eq id w.0) as (λ b. bytes_eq id w.0 ≡ b → lookup (bytes_eq id) (filter_map stored (w ∷ ws)) ≡ document_of (if b then Some w.1 else lookup (bytes_eq id) ws)) [
      | true ↦ λ same. stored_here id w ws rises.0 same
      | false ↦ λ other. stored_there id w ws (document_of (lookup (bytes_eq id) ws)) other (lookup-stored id ws rises.1)
    ] refl

-- ---- the laws

pub has_last_writes : (history : List Write) → HasLastWrites history
has_last_writes history id =
    sym (last_write-lookup history id ∙ (λ i. lookup (λ key. is_eq-slice_cmp id key i) (last_writes history)))

pub has_live_documents : (history : List Write) → HasLiveDocuments history
has_live_documents history id = lookup-stored id (last_writes history) (last_writes_rise history) ∙ ap document_of (has_last_writes history id)

below_sorted : (id : List ℕ) (es : List (List ℕ × Json)) → IsBelow id es → AllByRecursion (λ key. order id key ≡ Less) (keys_of es)
below_sorted id [] below = tt
below_sorted id (e ∷ es) below = (below.0, below_sorted id es below.1)

sorted : (es : List (List ℕ × Json)) → Rises es → IsStrictlySortedBy order (keys_of es)
unfolding IsStrictlySortedBy
sorted [] rises = tt
sorted (e ∷ es) rises = (below_sorted e.0 es rises.0, sorted es rises.1)

pub is_in_order_of_id : (history : List Write) → IsInOrderOfId history
is_in_order_of_id history = sorted (live history) (Rises-stored (last_writes history) (last_writes_rise history))
