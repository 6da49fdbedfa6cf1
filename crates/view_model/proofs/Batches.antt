-- Two updates one after another are one of all their writes, where no id is in both.
use Rattle.std.specs.Prelude.{take, drop, ◌≡◌, ℕ, List, [], ◌∷◌, ◌++◌, length, filter, refl, Bool, true, false, not, ◌&&◌, ◌||◌, bytes_eq}
use Rattle.std.specs.List.{AllByRecursion, IsDistinct}
use Rattle.std.proofs.lemmas.List.{map-append, take-append-drop}
use Rattle.design_docs.specs.History.{changes_after, mapped_by}
use Rattle.view_model.proofs.Distinct.{all_mapped, change_ids, changes_distinct, IsApart}
use Rattle.view_model.proofs.Updates.{same_length}
use Rattle.std.proofs.Common.{subst, ap, sym, ◌∙◌, append_assoc, arith}
use Rattle.std.proofs.lemmas.List.Elements.{filter-append, filter_agree, filter_map-append}
use Rattle.json_terms.specs.Json.{Json}
use Rattle.json_terms.specs.declared.term.Row.{Row}
use Rattle.raw_collation.specs.Sorting.{sorted_rows}
use Rattle.design_docs.specs.History.{Write}
use Rattle.view_model.specs.Since.{is_among, mapped_of}
use Rattle.view_model.specs.Rows.{emitted_rows, rows_from}
use Rattle.view_model.specs.Update.{ids_of, unchanged_rows, updated_rows}
use Rattle.view_model.specs.Laws.{UpdatesGoInBatches, UpdatesGoInPages}
use Rattle.view_model.proofs.Lists.{filter_both}
use Rattle.view_model.proofs.SortedRows.{filter-sorted_rows, sorted_rows-sorted_front, rows_from_pass}

or_parts_in : (a b c : Bool) → (a || (b || c)) ≡ ((a || b) || c)
or_parts_in true b c = refl
or_parts_in false b c = refl

not_both : (a b : Bool) → (not a && not b) ≡ not (a || b)
not_both true b = refl
not_both false b = refl

is_among-append : (changes more : List (ℕ × Write)) (id : List ℕ) → is_among (changes ++ more) id ≡ (is_among changes id || is_among more id)
is_among-append [] more id = refl
is_among-append (c ∷ changes) more id =
    ap (λ b. bytes_eq id (c.1).id || b) (is_among-append changes more id) ∙ or_parts_in (bytes_eq id (c.1).id) (is_among changes id) (is_among more id)

unchanged_by_both : (changes more : List (ℕ × Write)) (rows : List Row) → unchanged_rows more (unchanged_rows changes rows) ≡ unchanged_rows (changes ++ more) rows
unchanged_by_both changes more rows =
    filter_both (λ (row : Row). not (is_among more row.id)) (λ (row : Row). not (is_among changes row.id)) rows
    ∙ filter_agree (λ (row : Row). not (is_among changes row.id) && not (is_among more row.id)) (λ (row : Row). not (is_among (changes ++ more) row.id))
    (λ row. not_both (is_among changes row.id) (is_among more row.id) ∙ ap not (sym (is_among-append changes more row.id))) rows

emitted_pass : (test : List ℕ → Bool) (ids : List (List ℕ)) (emitted : List (List (Json × Json))) → AllByRecursion (λ id. test id ≡ true) ids
    → filter (λ (row : Row). test row.id) (emitted_rows ids emitted) ≡ emitted_rows ids emitted
emitted_pass test [] emitted all = refl
emitted_pass test (id ∷ ids) [] all = refl
emitted_pass test (id ∷ ids) (emissions ∷ emitted) all =
    filter-append (λ (row : Row). test row.id) (rows_from 0 id emissions) (emitted_rows ids emitted)
    ∙ (λ i. rows_from_pass test 0 id emissions all.0 i ++ emitted_pass test ids emitted all.1 i)

emitted_rows-append : (ids others : List (List ℕ)) (emitted rest : List (List (Json × Json))) → length ids ≡ length emitted
    → emitted_rows (ids ++ others) (emitted ++ rest) ≡ emitted_rows ids emitted ++ emitted_rows others rest
emitted_rows-append [] others [] rest same = refl
emitted_rows-append [] others (e ∷ emitted) rest same = absurd (omega (arith, same))
emitted_rows-append (id ∷ ids) others [] rest same = absurd (omega (arith, same))
emitted_rows-append (id ∷ ids) others (e ∷ emitted) rest same =
    ap (λ l. rows_from 0 id e ++ l) (emitted_rows-append ids others emitted rest (omega (arith, same)))
    ∙ sym (append_assoc (rows_from 0 id e) (emitted_rows ids emitted) (emitted_rows others rest))

others_each : (more : List (ℕ × Write)) (ids : List (List ℕ)) → AllByRecursion (λ id. is_among more id ≡ false) ids → AllByRecursion (λ id. not (is_among more id) ≡ true) ids
others_each more [] all = tt
others_each more (id ∷ ids) all = (ap not all.0, others_each more ids all.1)

pub updates_go_in_batches : UpdatesGoInBatches
updates_go_in_batches changes more ids others old emitted rest same apart =
    let stay : List Row = unchanged_rows changes old in
    let first : List Row = emitted_rows ids emitted in
    let second : List Row = emitted_rows others rest in
    ap (λ l. sorted_rows (l ++ second)) (filter-sorted_rows (λ (row : Row). not (is_among more row.id)) (stay ++ first))
    ∙ sorted_rows-sorted_front (unchanged_rows more (stay ++ first)) second
    ∙ ap (λ l. sorted_rows (l ++ second)) (filter-append (λ (row : Row). not (is_among more row.id)) stay first
    ∙ (λ i. unchanged_by_both changes more old i ++ emitted_pass (λ id. not (is_among more id)) ids emitted (others_each more ids apart) i))
    ∙ ap sorted_rows (append_assoc (unchanged_rows (changes ++ more) old) first second
    ∙ ap (λ l. unchanged_rows (changes ++ more) old ++ l) (sym (emitted_rows-append ids others emitted rest same)))

-- ---- page by page

none_among : (id : List ℕ) (changes : List (ℕ × Write)) → IsApart id (change_ids changes) → is_among changes id ≡ false
none_among id [] apart = refl
none_among id (c ∷ changes) apart = ap (λ b. b || is_among changes id) apart.0 ∙ none_among id changes apart.1

apart_behind : (id : List ℕ) (changes more : List (ℕ × Write)) → IsApart id (change_ids (changes ++ more)) → IsApart id (change_ids more)
apart_behind id [] more apart = apart
apart_behind id (c ∷ changes) more apart = apart_behind id changes more apart.1

pages_apart : (changes more : List (ℕ × Write)) → IsDistinct bytes_eq (change_ids (changes ++ more)) → AllByRecursion (λ id. is_among more id ≡ false) (change_ids changes)
unfolding IsDistinct
pages_apart [] more apart = tt
pages_apart (c ∷ changes) more apart = (none_among (c.1).id more (apart_behind (c.1).id changes more apart.0), pages_apart changes more apart.1)

pub updates_go_in_pages : UpdatesGoInPages
updates_go_in_pages history seq count old emitted rest same =
    let all : List (ℕ × Write) = changes_after seq history in
    let page : List (ℕ × Write) = take count all in
    let more : List (ℕ × Write) = drop count all in
    let whole : page ++ more ≡ all = take-append-drop count all in
    let apart : AllByRecursion (λ id. is_among more id ≡ false) (change_ids page) =
    pages_apart page more (subst (λ (l : List (ℕ × Write)). IsDistinct bytes_eq (change_ids l)) (sym whole) (changes_distinct seq history)) in
    let ids : ids_of (mapped_of page) ++ ids_of (mapped_of more) ≡ ids_of (mapped_of all) =
    sym (map-append (λ (entry : List ℕ × Json). entry.0) (mapped_of page) (mapped_of more))
    ∙ ap ids_of (sym (filter_map-append (λ (change : ℕ × Write). mapped_by change.1) page more))
    ∙ ap (λ (l : List (ℕ × Write)). ids_of (mapped_of l)) whole in
    updates_go_in_batches page more (ids_of (mapped_of page)) (ids_of (mapped_of more)) old emitted rest
    (same_length (λ (entry : List ℕ × Json). entry.0) (mapped_of page) ∙ sym same) (all_mapped (λ id. is_among more id ≡ false) page apart)
    ∙ (λ i. updated_rows (whole i) (ids i) old (emitted ++ rest))
