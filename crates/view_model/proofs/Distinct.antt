-- The writes since are of distinct ids, and so are the documents that are mapped.
use Rattle.std.specs.Prelude.{◌≡◌, ℕ, List, [], ◌∷◌, ◌++◌, length, map, filter, refl, Bool, true, false, not, ◌||◌, nat_lt, bytes_eq, Some, None, if◌then◌else◌}
use Rattle.std.specs.List.{cons_option, AllByRecursion, IsDistinct}
use Rattle.std.proofs.Common.{ap, sym, ◌∙◌, subst}
use Rattle.std.proofs.lemmas.List.{map-append}
use Rattle.std.proofs.lemmas.Bool.{or_right}
use Rattle.std.proofs.lemmas.Slice.Eq.{bytes_eq-Decides}
use Rattle.design_docs.specs.Documents.{is_design_id}
use Rattle.design_docs.specs.History.{Write, changes_after, of_others, mapped_after}
use Rattle.view_model.specs.Since.{is_among, mapped_of}
use Rattle.view_model.specs.Update.{ids_of}
use Rattle.view_model.proofs.Lists.{filter-map}
use Rattle.view_model.proofs.Histories.{bytes_eq-sym, left}

abbrev pub IsApart : List ℕ → List (List ℕ) → Type 0
IsApart id ids = AllByRecursion (λ other. bytes_eq id other ≡ false) ids

pub all_filter : {X : Type 0} (P : X → Type 0) (p : X → Bool) (xs : List X) → AllByRecursion P xs → AllByRecursion P (filter p xs)
all_filter P p [] all = tt
all_filter P p (x ∷ xs) all =
    let rest = all_filter P p xs all.1 in
    elim (p x) as (λ b. AllByRecursion P (if b then x ∷ filter p xs else filter p xs)) [
      | true ↦ (all.0, rest)
      | false ↦ rest
    ]

distinct_filter : (p : List ℕ → Bool) (ids : List (List ℕ)) → IsDistinct bytes_eq ids → IsDistinct bytes_eq (filter p ids)
unfolding IsDistinct
distinct_filter p [] apart = tt
distinct_filter p (id ∷ ids) apart =
    let rest = distinct_filter p ids apart.1 in
    let head = all_filter (λ other. bytes_eq id other ≡ false) p ids apart.0 in
    elim (p id) as (λ b. IsDistinct bytes_eq (if b then id ∷ filter p ids else filter p ids)) [
      | true ↦ (head, rest)
      | false ↦ rest
    ]

apart_push : (id last : List ℕ) (ids : List (List ℕ)) → IsApart id ids → bytes_eq id last ≡ false → IsApart id (ids ++ last ∷ [])
apart_push id last [] apart other = (other, tt)
apart_push id last (i ∷ ids) apart other = (apart.0, apart_push id last ids apart.1 other)

distinct_push : (last : List ℕ) (ids : List (List ℕ)) → IsDistinct bytes_eq ids → AllByRecursion (λ id. bytes_eq id last ≡ false) ids → IsDistinct bytes_eq (ids ++ last ∷ [])
unfolding IsDistinct
distinct_push last [] apart others = (tt, tt)
distinct_push last (id ∷ ids) apart others = (apart_push id last ids apart.0 others.0, distinct_push last ids apart.1 others.1)

others_apart : (id : List ℕ) (ids : List (List ℕ)) → AllByRecursion (λ other. bytes_eq other id ≡ false) (filter (λ other. not (bytes_eq id other)) ids)
others_apart id [] = tt
others_apart id (i ∷ ids) =
    let rest = others_apart id ids in
    let more : List (List ℕ) = filter (λ other. not (bytes_eq id other)) ids in
    elim (bytes_eq id i) as (λ b. bytes_eq id i ≡ b → AllByRecursion (λ other. bytes_eq other id ≡ false) (if not b then i ∷ more else more)) [
      | true ↦ λ is. rest
      | false ↦ λ is. (bytes_eq-sym i id ∙ is, rest)
    ] refl

abbrev pub change_ids : List (ℕ × Write) → List (List ℕ)
change_ids = map (λ change. (change.1).id)

pub changes_distinct : (seq : ℕ) (history : List Write) → IsDistinct bytes_eq (change_ids (changes_after seq history))
unfolding IsDistinct
changes_distinct seq [] = tt
changes_distinct seq (write ∷ older) =
    let changes : List (ℕ × Write) = changes_after seq older in
    let last : ℕ × Write = (length (write ∷ older), write) in
    let others : List (List ℕ) = filter (λ id. not (bytes_eq write.id id)) (change_ids changes) in
    let are : others ++ write.id ∷ [] ≡ change_ids (of_others write.id changes ++ last ∷ []) =
    ap (λ l. l ++ write.id ∷ []) (filter-map (λ id. not (bytes_eq write.id id)) (λ (change : ℕ × Write). (change.1).id) changes)
    ∙ sym (map-append (λ (change : ℕ × Write). (change.1).id) (of_others write.id changes) (last ∷ [])) in
    let apart : IsDistinct bytes_eq (others ++ write.id ∷ []) =
    distinct_push write.id others (distinct_filter (λ id. not (bytes_eq write.id id)) (change_ids changes) (changes_distinct seq older)) (others_apart write.id (change_ids changes)) in
    elim (nat_lt seq (length (write ∷ older))) as (λ b. IsDistinct bytes_eq (change_ids (if b then of_others write.id changes ++ last ∷ [] else []))) [
      | true ↦ subst (IsDistinct bytes_eq) are apart
      | false ↦ tt
    ]

-- ---- what is mapped of them

pub all_mapped : (P : List ℕ → Type 0) (changes : List (ℕ × Write)) → AllByRecursion P (change_ids changes) → AllByRecursion P (ids_of (mapped_of changes))
all_mapped P [] all = tt
all_mapped P (c ∷ changes) all =
    let rest = all_mapped P changes all.1 in
    elim (is_design_id (c.1).id) as (λ b. AllByRecursion P (ids_of (cons_option (left b (c.1).id (c.1).document) (mapped_of changes)))) [
      | true ↦ rest
      | false ↦ elim ((c.1).document) as (λ d. AllByRecursion P (ids_of (cons_option (left false (c.1).id d) (mapped_of changes)))) [
        | None ↦ rest
        | Some document ↦ (all.0, rest)
      ]
    ]

distinct_mapped : (changes : List (ℕ × Write)) → IsDistinct bytes_eq (change_ids changes) → IsDistinct bytes_eq (ids_of (mapped_of changes))
unfolding IsDistinct
distinct_mapped [] apart = tt
distinct_mapped (c ∷ changes) apart =
    let rest = distinct_mapped changes apart.1 in
    let head = all_mapped (λ other. bytes_eq (c.1).id other ≡ false) changes apart.0 in
    elim (is_design_id (c.1).id) as (λ b. IsDistinct bytes_eq (ids_of (cons_option (left b (c.1).id (c.1).document) (mapped_of changes)))) [
      | true ↦ rest
      | false ↦ elim ((c.1).document) as (λ d. IsDistinct bytes_eq (ids_of (cons_option (left false (c.1).id d) (mapped_of changes)))) [
        | None ↦ rest
        | Some document ↦ (head, rest)
      ]
    ]

pub mapped_distinct : (seq : ℕ) (history : List Write) → IsDistinct bytes_eq (ids_of (mapped_after seq history))
mapped_distinct seq history = distinct_mapped (changes_after seq history) (changes_distinct seq history)

-- ---- and each is among the changes

among_itself : (changes all : List (ℕ × Write)) → ((id : List ℕ) → is_among changes id ≡ true → is_among all id ≡ true) → AllByRecursion (λ id. is_among all id ≡ true) (change_ids changes)
among_itself [] all within = tt
among_itself (c ∷ changes) all within = (
  within (c.1).id (ap (λ b. b || is_among changes (c.1).id) ((bytes_eq-Decides (c.1).id (c.1).id).1 refl)),
  among_itself changes all (λ id is. within id (or_right (bytes_eq id (c.1).id) (is_among changes id) is)),
)

pub mapped_among : (seq : ℕ) (history : List Write) → AllByRecursion (λ id. is_among (changes_after seq history) id ≡ true) (ids_of (mapped_after seq history))
mapped_among seq history =
    let changes : List (ℕ × Write) = changes_after seq history in
    all_mapped (λ id. is_among changes id ≡ true) changes (among_itself changes changes (λ id is. is))
