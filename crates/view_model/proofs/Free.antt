-- What an update leaves as it was, and what it leaves free, whatever was emitted.
use Rattle.std.specs.Prelude.{◌≡◌, ◌≢◌, ℕ, List, [], ◌∷◌, ◌++◌, length, filter, refl, Bool, true, false, not, ◌&&◌, bytes_eq, Contains, IsSorted, if◌then◌else◌}
use Rattle.std.specs.List.{AllByRecursion, AllZip, IsDistinct}
use Rattle.std.proofs.Common.{ap, sym, ◌∙◌, subst, append-nil, arith}
use Rattle.std.specs.Ordering.{is_lt}
use Rattle.std.proofs.lemmas.List.Elements.{filter-append, filter_agree, Contains-append_right}
use Rattle.std.proofs.lemmas.List.Kept.{IsSortedBy-filter}
use Rattle.std.proofs.lemmas.List.Sorted.{ranks_by, Contains-permutation, IsPermutation-sym}
use Rattle.std.proofs.lemmas.Slice.Eq.{bytes_eq-Decides}
use Rattle.json_terms.specs.Json.{Json}
use Rattle.json_terms.specs.declared.term.Row.{Row}
use Rattle.raw_collation.specs.Collation.{rows_cmp}
use Rattle.raw_collation.specs.Sorting.{sorted_rows}
use Rattle.raw_collation.proofs.Totals.{rows_cmp_total}
use Rattle.raw_collation.proofs.SortedRows.{sorted_rows_is_sorted, sorted_rows-sorted}
use Rattle.view_ports.specs.Functions.{Functions}
use Rattle.design_docs.specs.History.{Write, changes_after, mapped, mapped_after}
use Rattle.view_model.specs.Since.{first, is_among}
use Rattle.view_model.specs.Rows.{emitted_rows, rows_from}
use Rattle.view_model.specs.Update.{ids_of, unchanged_rows, updated_rows, updated_views, AreOfOne, IsFreeUpdate}
use Rattle.view_model.specs.Laws.{UpdatesAreFree}
use Rattle.view_model.proofs.Lists.{filter_both}
use Rattle.view_model.proofs.Histories.{mapped_since}
use Rattle.design_docs.proofs.MappedOrder.{mapped_listed}
use Rattle.view_model.proofs.SortedRows.{filter-sorted_rows, rows_from_pass, rows_from_fail}
use Rattle.view_model.proofs.Distinct.{mapped_distinct, mapped_among}
use Rattle.design_docs.specs.declared.design.View.{View}

filter_never : {X : Type 0} (xs : List X) → filter (λ x. false) xs ≡ []
filter_never [] = refl
filter_never (x ∷ xs) = filter_never xs

-- ---- the emitted rows of some ids

module _ (test : List ℕ → Bool) where
  emitted_fail : (ids : List (List ℕ)) (emitted : List (List (Json × Json))) → AllByRecursion (λ id. test id ≡ false) ids → filter (λ (row : Row). test row.id) (emitted_rows ids emitted) ≡ []
  emitted_fail [] emitted none = refl
  emitted_fail (id ∷ ids) [] none = refl
  emitted_fail (id ∷ ids) (emissions ∷ emitted) none =
      filter-append (λ (row : Row). test row.id) (rows_from 0 id emissions) (emitted_rows ids emitted)
      ∙ ap (λ l. l ++ filter (λ (row : Row). test row.id) (emitted_rows ids emitted)) (rows_from_fail test 0 id emissions none.0)
      ∙ emitted_fail ids emitted none.1

-- what was emitted for an id
abbrev emissions_of : List ℕ → List (List ℕ) → List (List (Json × Json)) → List (Json × Json)
emissions_of id [] emitted = []
emissions_of id (i ∷ ids) [] = []
emissions_of id (i ∷ ids) (emissions ∷ emitted) = if bytes_eq id i then emissions else emissions_of id ids emitted

emitted_own : (id : List ℕ) (ids : List (List ℕ)) (emitted : List (List (Json × Json))) → IsDistinct bytes_eq ids
    → filter (λ (row : Row). bytes_eq id row.id) (emitted_rows ids emitted) ≡ rows_from 0 id (emissions_of id ids emitted)
unfolding IsDistinct
emitted_own id [] emitted apart = refl
emitted_own id (i ∷ ids) [] apart = refl
emitted_own id (i ∷ ids) (emissions ∷ emitted) apart =
    let rest : List Row = emitted_rows ids emitted in
    let parts = filter-append (λ (row : Row). bytes_eq id row.id) (rows_from 0 i emissions) rest in
    elim (bytes_eq id i) as (λ b. bytes_eq id i ≡ b → filter (λ (row : Row). bytes_eq id row.id) (rows_from 0 i emissions ++ rest) ≡ rows_from 0 id (if b then emissions else emissions_of id ids emitted)) [
      | true ↦ λ is.
          let own : id ≡ i = (bytes_eq-Decides id i).0 is in
          let others : AllByRecursion (λ other. bytes_eq id other ≡ false) ids = subst (λ (o : List ℕ). AllByRecursion (λ other. bytes_eq o other ≡ false) ids) (sym own) apart.0 in
          parts
          ∙ ap (λ l. l ++ filter (λ (row : Row). bytes_eq id row.id) rest) (rows_from_pass (bytes_eq id) 0 i emissions is)
          ∙ ap (λ l. rows_from 0 i emissions ++ l) (emitted_fail (bytes_eq id) ids emitted others)
          ∙ append-nil (rows_from 0 i emissions)
          ∙ ap (λ (o : List ℕ). rows_from 0 o emissions) (sym own)
      | false ↦ λ is.
          parts
          ∙ ap (λ l. l ++ filter (λ (row : Row). bytes_eq id row.id) rest) (rows_from_fail (bytes_eq id) 0 i emissions is)
          ∙ emitted_own id ids emitted apart.1
    ] refl

emitted_document : (id : List ℕ) (documents : List (List ℕ × Json)) (emitted : List (List (Json × Json))) → emissions_of id (ids_of documents) emitted ≢ []
    → (document : Json) × Contains documents (id, document)
emitted_document id [] emitted some = absurd (some refl)
emitted_document id (d ∷ documents) [] some = absurd (some refl)
emitted_document id (d ∷ documents) (emissions ∷ emitted) some =
    elim (bytes_eq id d.0) as (λ b. bytes_eq id d.0 ≡ b → (if b then emissions else emissions_of id (ids_of documents) emitted) ≢ [] → (document : Json) × Contains (d ∷ documents) (id, document)) [
      | true ↦ λ is there.
          let own : d.0 ≡ id = sym ((bytes_eq-Decides id d.0).0 is) in
          (d.1, (0, omega arith, λ i. (own i, d.1)))
      | false ↦ λ is there.
          let found = emitted_document id documents emitted there in
          (found.0, Contains-append_right (d ∷ []) documents (id, found.0) found.1)
    ] refl some

-- ---- one view

module _ (history : List Write) (seq : ℕ) where
  abbrev changes : List (ℕ × Write)
  changes = changes_after seq history

  abbrev ids : List (List ℕ)
  ids = ids_of (mapped_after seq history)

  abbrev unchanged : List Row → List Row
  unchanged = unchanged_rows changes

  not_each : (is : List (List ℕ)) → AllByRecursion (λ id. is_among changes id ≡ true) is → AllByRecursion (λ id. not (is_among changes id) ≡ false) is
  not_each [] all = tt
  not_each (id ∷ is) all = (ap not all.0, not_each is all.1)

  none_emitted : (emitted : List (List (Json × Json))) → unchanged (emitted_rows ids emitted) ≡ []
  none_emitted emitted = emitted_fail (λ id. not (is_among changes id)) ids emitted (not_each ids (mapped_among seq history))

  and_itself : (b : Bool) → (b && b) ≡ b
  and_itself true = refl
  and_itself false = refl

  unchanged_twice : (rows : List Row) → unchanged (unchanged rows) ≡ unchanged rows
  unchanged_twice rows =
      filter_both (λ (row : Row). not (is_among changes row.id)) (λ (row : Row). not (is_among changes row.id)) rows
      ∙ filter_agree (λ (row : Row). not (is_among changes row.id) && not (is_among changes row.id)) (λ (row : Row). not (is_among changes row.id)) (λ row. and_itself (not (is_among changes row.id))) rows

  unchanged_sorted : (rows : List Row) → IsSorted rows_cmp rows → IsSorted rows_cmp (unchanged rows)
  unchanged_sorted rows h = IsSortedBy-filter (λ x y. is_lt (rows_cmp x y)) (ranks_by rows_cmp_total (λ x. x)) (λ (row : Row). not (is_among changes row.id)) rows h

  stays : (old : List Row) (emitted : List (List (Json × Json))) → IsSorted rows_cmp old → unchanged (updated_rows changes ids old emitted) ≡ unchanged old
  stays old emitted h =
      let all : List Row = unchanged old ++ emitted_rows ids emitted in
      filter-sorted_rows (λ (row : Row). not (is_among changes row.id)) all
      ∙ ap sorted_rows (filter-append (λ (row : Row). not (is_among changes row.id)) (unchanged old) (emitted_rows ids emitted)
      ∙ ap (λ l. l ++ unchanged (emitted_rows ids emitted)) (unchanged_twice old)
      ∙ ap (λ l. unchanged old ++ l) (none_emitted emitted)
      ∙ append-nil (unchanged old))
      ∙ sorted_rows-sorted (unchanged old) (unchanged_sorted old h)

  neither : (id : List ℕ) (row : Row) → is_among changes id ≡ true → (not (is_among changes row.id) && bytes_eq id row.id) ≡ false
  neither id row is =
      elim (bytes_eq id row.id) as (λ b. bytes_eq id row.id ≡ b → (not (is_among changes row.id) && b) ≡ false) [
        | true ↦ λ same. ap (λ a. not a && true) (ap (is_among changes) (sym ((bytes_eq-Decides id row.id).0 same)) ∙ is)
        | false ↦ λ other. and_false (not (is_among changes row.id))
      ] refl
    where
      and_false : (b : Bool) → (b && false) ≡ false
      and_false true = refl
      and_false false = refl

  none_old : (id : List ℕ) (old : List Row) → is_among changes id ≡ true → filter (λ (row : Row). bytes_eq id row.id) (unchanged old) ≡ []
  none_old id old is =
      filter_both (λ (row : Row). bytes_eq id row.id) (λ (row : Row). not (is_among changes row.id)) old
      ∙ filter_agree (λ (row : Row). not (is_among changes row.id) && bytes_eq id row.id) (λ row. false) (λ row. neither id row is) old
      ∙ filter_never old

  of_one : (id : List ℕ) (old : List Row) (emitted : List (List (Json × Json))) → is_among changes id ≡ true → AreOfOne history id (updated_rows changes ids old emitted)
  of_one id old emitted is = record {
    emissions = emissions_of id ids emitted;
    is_mapped = λ some.
        let found = emitted_document id (mapped_after seq history) emitted some in
        let later = Contains-append_right (filter (λ (entry : List ℕ × Json). not (is_among changes entry.0)) (mapped_after 0 (first seq history))) (mapped_after seq history) (id, found.0) found.1 in
        let all : Contains (mapped_after 0 history) (id, found.0) = subst (λ l. Contains l (id, found.0)) (sym (mapped_since seq history)) later in
        (found.0, Contains-permutation (mapped_after 0 history) (mapped history) (id, found.0) (IsPermutation-sym (mapped history) (mapped_after 0 history) (mapped_listed history)) all);
    are =
        filter-sorted_rows (λ (row : Row). bytes_eq id row.id) (unchanged old ++ emitted_rows ids emitted)
        ∙ ap sorted_rows (filter-append (λ (row : Row). bytes_eq id row.id) (unchanged old) (emitted_rows ids emitted)
        ∙ ap (λ l. l ++ filter (λ (row : Row). bytes_eq id row.id) (emitted_rows ids emitted)) (none_old id old is)
        ∙ emitted_own id ids emitted (mapped_distinct seq history));
  }

  pub view_is_free : (old : List Row) (emitted : List (List (Json × Json))) → IsSorted rows_cmp old → IsFreeUpdate history seq old (updated_rows changes ids old emitted)
  view_is_free old emitted h = record {
    sorted = sorted_rows_is_sorted (unchanged old ++ emitted_rows ids emitted);
    stay = stays old emitted h;
    others = λ id is. of_one id old emitted is;
  }

  pub views_are_free : (old : List (List Row)) (emitted : List (List (List (Json × Json)))) → length old ≡ length emitted → AllByRecursion (IsSorted rows_cmp) old
      → AllZip (IsFreeUpdate history seq) old (updated_views changes ids old emitted)
  views_are_free [] emitted same all = tt
  views_are_free (rows ∷ old) [] same all = absurd (omega (arith, same))
  views_are_free (rows ∷ old) (lists ∷ emitted) same all = (view_is_free rows lists all.0, views_are_free old emitted (omega (arith, same)) all.1)

pub updates_are_free : (functions : Functions) (honest : Type 0) (views : List View) → UpdatesAreFree functions honest views
updates_are_free functions honest views history old new same all updated =
    subst (AllZip (IsFreeUpdate history old.seq) old.rows) (sym updated.rows)
    (views_are_free history old.seq old.rows updated.emitted (same ∙ sym updated.each_view) all)
