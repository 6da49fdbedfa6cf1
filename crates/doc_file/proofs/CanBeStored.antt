-- The documents that are live in a history whose documents can be stored, and those that views map.
use Rattle.std.proofs.Common.{◌≡◌, ℕ, List, [], ◌∷◌, ◌++◌, length, Bool, true, false, not, bytes_eq, if◌then◌else◌, Option, Some, None, option_map, option_and_then, refl, sym, subst}
use Rattle.std.specs.Prelude.{filter, nat_lt, MatchOption}
use Rattle.std.specs.List.{AllByRecursion, cons_option, filter_map}
use Rattle.json_terms.specs.Json.{Json}
use Rattle.design_docs.specs.Documents.{is_design_id}
use Rattle.design_docs.specs.History.{AreStored, IsStoredAs, IsStoredIn, Write, changes_after, last_write, mapped_by, of_others}
use Rattle.doc_file.specs.Laws.{LiveAreStored, MappedAreStored}
use Rattle.design_docs.proofs.Ids.{same_id}

-- ---- lists

all_filtered : {X : Type 0} (P : X → Type 0) (p : X → Bool) (xs : List X) → AllByRecursion P xs → AllByRecursion P (filter p xs)
all_filtered P p [] all = tt
all_filtered P p (x ∷ xs) all =
    let rest = all_filtered P p xs all.1 in
    elim (p x) as (λ b. AllByRecursion P (if b then x ∷ filter p xs else filter p xs)) [ true ↦ (all.0, rest) | false ↦ rest ]

all_more : {X : Type 0} (P : X → Type 0) (xs : List X) (x : X) → AllByRecursion P xs → P x → AllByRecursion P (xs ++ x ∷ [])
all_more P [] x all p = (p, tt)
all_more P (y ∷ xs) x all p = (all.0, all_more P xs x all.1 p)

-- ---- the live documents

-- what a write stores is of this id
abbrev StoresUnder : List ℕ → Option Write → Type 0
StoresUnder id None = Unit {0}
StoresUnder id (Some write) = MatchOption write.document (Unit {0}) (IsStoredAs id)

last_stored : (history : List Write) → AreStored history → (id : List ℕ) → StoresUnder id (last_write history id)
last_stored [] all id = tt
last_stored (write ∷ older) all id =
    elim (bytes_eq id write.id) as (λ b. bytes_eq id write.id ≡ b → StoresUnder id (if b then Some write else last_write older id)) [
      | true ↦ λ is. subst (λ i. MatchOption write.document (Unit {0}) (IsStoredAs i)) (sym (same_id id write.id is)) all.0
      | false ↦ λ is. last_stored older all.1 id
    ] refl

of_last : (id : List ℕ) (document : Json) (write : Option Write) → StoresUnder id write → option_and_then (λ w. w.document) write ≡ Some document → IsStoredAs id document
of_last id document None stored is = absurd cc
of_last id document (Some w) stored is = subst (λ d. MatchOption d (Unit {0}) (IsStoredAs id)) is stored

pub live_are_stored : LiveAreStored
live_are_stored history all id document is = of_last id document (last_write history id) (last_stored history all id) is

-- ---- the documents that views map

changes_stored : (seq : ℕ) (history : List Write) → AreStored history → AllByRecursion (λ change. IsStoredIn change.1) (changes_after seq history)
changes_stored seq [] all = tt
changes_stored seq (write ∷ older) all =
    let others = all_filtered (λ (change : ℕ × Write). IsStoredIn change.1) (λ change. not (bytes_eq write.id (change.1).id)) (changes_after seq older) (changes_stored seq older all.1) in
    let more = all_more (λ (change : ℕ × Write). IsStoredIn change.1) (of_others write.id (changes_after seq older)) (length (write ∷ older), write) others all.0 in
    elim (nat_lt seq (length (write ∷ older))) as (λ b. AllByRecursion (λ (change : ℕ × Write). IsStoredIn change.1) (if b then of_others write.id (changes_after seq older) ++ (length (write ∷ older), write) ∷ [] else [])) [
      | true ↦ more
      | false ↦ tt
    ]

mapped_stored : (changes : List (ℕ × Write)) → AllByRecursion (λ change. IsStoredIn change.1) changes → AllByRecursion (λ entry. IsStoredAs entry.0 entry.1) (filter_map (λ change. mapped_by change.1) changes)
mapped_stored [] all = tt
mapped_stored (change ∷ changes) all =
    let rest = mapped_stored changes all.1 in
    let left = filter_map (λ (c : ℕ × Write). mapped_by c.1) changes in
    let id = (change.1).id in
    elim (is_design_id id) as (λ b. AllByRecursion (λ (entry : List ℕ × Json). IsStoredAs entry.0 entry.1) (cons_option (if b then None else option_map (λ document. (id, document)) (change.1).document) left)) [
      | true ↦ rest
      | false ↦ one (change.1).document all.0 left rest
    ]
  where
    one : (document : Option Json) → MatchOption document (Unit {0}) (IsStoredAs (change.1).id) → (left : List (List ℕ × Json)) → AllByRecursion (λ entry. IsStoredAs entry.0 entry.1) left
        → AllByRecursion (λ (entry : List ℕ × Json). IsStoredAs entry.0 entry.1) (cons_option (option_map (λ d. ((change.1).id, d)) document) left)
    one None is left rest = rest
    one (Some document) is left rest = (is, rest)

pub mapped_are_stored : MappedAreStored
mapped_are_stored history all seq = mapped_stored (changes_after seq history) (changes_stored seq history all)
