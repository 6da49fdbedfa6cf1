-- The ends of a range cut the sorted rows.
use Rattle.std.specs.Prelude.{◌≡◌, ℕ, ◌+◌, ◌-◌, ◌≤◌, List, Bool, true, false, not, ◌&&◌, refl, filter, length, if◌then◌else◌, Option, Some, None}
use Rattle.std.proofs.Common.{ap, sym, ◌∙◌}
use Rattle.std.specs.declared.cmp.Ordering.{Ordering}
use Rattle.std.specs.declared.cmp.Ordering.TheVariants.{Less, Equal, Greater}
use Rattle.std.specs.Ordering.{nat_cmp, is_lt, is_le, is_eq, match_ordering, ordering_reverse}
use Rattle.std.specs.Cmp.Lexicographic.{slice_cmp}
use Rattle.std.proofs.lemmas.Cmp.{nat_list_cmp_total}
use Rattle.std.proofs.lemmas.List.Elements.{filter_agree}
use Rattle.json_terms.specs.Json.{Json}
use Rattle.json_terms.specs.Seen.{json}
use Rattle.json_terms.specs.declared.term.Row.{Row}
use Rattle.raw_collation.specs.Collation.{json_cmp, rows_cmp}
use Rattle.query_args.specs.declared.query.Edge.{Edge}
use Rattle.query_args.specs.declared.query.Query.{Query}
use Rattle.query_args.specs.Range.{is_from, is_up_to, is_before, is_past_start, is_short_of_end, passes_start, passes_end}
use Rattle.view_model.specs.Selection.{is_in_range, has_key, before_start}
use Rattle.view_model.specs.Ends.{is_below_range, is_up_to_range, is_below_key, is_up_to_key, IsPrefix}
use Rattle.view_model.proofs.Falling.{Falls, falls_same, falls_constant, falls_lt, falls_le, cut, falls_cut}
use Rattle.view_model.proofs.Prefixes.{count_passing, count_failing, both_fit}

abbrev bytes_cmp : List ℕ → List ℕ → Ordering
bytes_cmp = slice_cmp nat_cmp

abbrev FallsById : (List ℕ → Bool) → Type 0
FallsById test = Falls bytes_cmp test

-- ---- ids

not_le_back : (r : Ordering) → not (is_le (ordering_reverse r)) ≡ is_lt r
not_le_back Less = refl
not_le_back Equal = refl
not_le_back Greater = refl

not_lt_back : (r : Ordering) → not (is_lt (ordering_reverse r)) ≡ is_le r
not_lt_back Less = refl
not_lt_back Equal = refl
not_lt_back Greater = refl

le_back_back : (r : Ordering) → is_le (ordering_reverse (ordering_reverse r)) ≡ is_le r
le_back_back Less = refl
le_back_back Equal = refl
le_back_back Greater = refl

id_before_start : (first : Option (List ℕ)) → FallsById (λ id. not (is_from false first id))
id_before_start None = falls_constant bytes_cmp false
id_before_start (Some first) =
    falls_same bytes_cmp (λ id. not (is_le (bytes_cmp first id))) (λ id. is_lt (bytes_cmp id first))
    (λ id. ap (λ r. not (is_le r)) (nat_list_cmp_total.antisymm first id) ∙ not_le_back (bytes_cmp id first)) (falls_lt nat_list_cmp_total first)

id_from_start : (first : Option (List ℕ)) → FallsById (is_from true first)
id_from_start None = falls_constant bytes_cmp true
id_from_start (Some first) =
    falls_same bytes_cmp (λ id. is_le (ordering_reverse (bytes_cmp first id))) (λ id. is_le (bytes_cmp id first))
    (λ id. ap (λ r. is_le (ordering_reverse r)) (nat_list_cmp_total.antisymm first id) ∙ le_back_back (bytes_cmp id first)) (falls_le nat_list_cmp_total first)

abbrev ends_with : Bool → Bool → Option (List ℕ) → List ℕ → Bool
ends_with descending inclusive last id = if inclusive then is_up_to descending last id else is_before descending last id

id_up_to_end : (inclusive : Bool) (last : Option (List ℕ)) → FallsById (ends_with false inclusive last)
id_up_to_end true None = falls_constant bytes_cmp true
id_up_to_end true (Some last) = falls_le nat_list_cmp_total last
id_up_to_end false None = falls_constant bytes_cmp false
id_up_to_end false (Some last) = falls_lt nat_list_cmp_total last

id_behind_end : (inclusive : Bool) (last : Option (List ℕ)) → FallsById (λ id. not (ends_with true inclusive last id))
id_behind_end true None = falls_constant bytes_cmp false
id_behind_end true (Some last) =
    falls_same bytes_cmp (λ id. not (is_le (ordering_reverse (bytes_cmp id last)))) (λ id. is_lt (bytes_cmp id last))
    (λ id. not_le_back (bytes_cmp id last)) (falls_lt nat_list_cmp_total last)
id_behind_end false None = falls_constant bytes_cmp true
id_behind_end false (Some last) =
    falls_same bytes_cmp (λ id. not (is_lt (ordering_reverse (bytes_cmp id last)))) (λ id. is_le (bytes_cmp id last))
    (λ id. not_lt_back (bytes_cmp id last)) (falls_le nat_list_cmp_total last)

-- ---- rows

not_past : (r : Ordering) (b : Bool) → not (match_ordering r false b true) ≡ match_ordering r true (not b) false
not_past Less b = refl
not_past Equal b = refl
not_past Greater b = refl

past_back : (r : Ordering) (b : Bool) → match_ordering (ordering_reverse r) false b true ≡ match_ordering r true b false
past_back Less b = refl
past_back Equal b = refl
past_back Greater b = refl

not_short_back : (r : Ordering) (b : Bool) → not (match_ordering (ordering_reverse r) true b false) ≡ match_ordering r true (not b) false
not_short_back Less b = refl
not_short_back Equal b = refl
not_short_back Greater b = refl

before_it : (start : Option Edge) → Falls rows_cmp (λ row. not (is_past_start false start (json row.key) row.id))
before_it None = falls_constant rows_cmp false
before_it (Some start) =
    let key = json start.key in
    falls_same rows_cmp (λ row. not (is_past_start false (Some start) (json row.key) row.id)) (cut key (λ id. not (is_from false start.id id)))
    (λ row. not_past (json_cmp (json row.key) key) (is_from false start.id row.id))
    (falls_cut key (λ id. not (is_from false start.id id)) (id_before_start start.id))

from_start : (start : Option Edge) → Falls rows_cmp (λ row. is_past_start true start (json row.key) row.id)
from_start None = falls_constant rows_cmp true
from_start (Some start) =
    let key = json start.key in
    falls_same rows_cmp (λ row. is_past_start true (Some start) (json row.key) row.id) (cut key (is_from true start.id))
    (λ row. past_back (json_cmp (json row.key) key) (is_from true start.id row.id))
    (falls_cut key (is_from true start.id) (id_from_start start.id))

up_to_end : (end : Option Edge) → Falls rows_cmp (λ row. is_short_of_end false end (json row.key) row.id)
up_to_end None = falls_constant rows_cmp true
up_to_end (Some end) = falls_cut (json end.key) (ends_with false end.inclusive end.id) (id_up_to_end end.inclusive end.id)

behind_end : (end : Option Edge) → Falls rows_cmp (λ row. not (is_short_of_end true end (json row.key) row.id))
behind_end None = falls_constant rows_cmp false
behind_end (Some end) =
    let key = json end.key in
    falls_same rows_cmp (λ row. not (is_short_of_end true (Some end) (json row.key) row.id)) (cut key (λ id. not (ends_with true end.inclusive end.id id)))
    (λ row. not_short_back (json_cmp (json row.key) key) (ends_with true end.inclusive end.id row.id))
    (falls_cut key (λ id. not (ends_with true end.inclusive end.id id)) (id_behind_end end.inclusive end.id))

-- ---- a query's range

below : (descending : Bool) (start end : Option Edge)
    → Falls rows_cmp (λ row. if descending then not (is_short_of_end descending end (json row.key) row.id) else not (is_past_start descending start (json row.key) row.id))
below true start end = behind_end end
below false start end = before_it start

up_to : (descending : Bool) (start end : Option Edge)
    → Falls rows_cmp (λ row. if descending then is_past_start descending start (json row.key) row.id else is_short_of_end descending end (json row.key) row.id)
up_to true start end = from_start start
up_to false start end = up_to_end end

pub falls_below_range : (query : Query) → Falls rows_cmp (is_below_range query)
falls_below_range query = below query.descending query.start query.end

pub falls_up_to_range : (query : Query) → Falls rows_cmp (is_up_to_range query)
falls_up_to_range query = up_to query.descending query.start query.end

-- what is left between the ends is in range
between : (start end descending : Bool) → (start && end) ≡ (not (if descending then not end else not start) && (if descending then start else end))
between true true true = refl
between true true false = refl
between true false true = refl
between true false false = refl
between false true true = refl
between false true false = refl
between false false true = refl
between false false false = refl

pub in_range_between : (query : Query) (row : Row) → is_in_range query row ≡ (not (is_below_range query row) && is_up_to_range query row)
in_range_between query row = between (passes_start query (json row.key) row.id) (passes_end query (json row.key) row.id) query.descending

key_between : (r : Ordering) → is_eq r ≡ (not (is_lt r) && is_le r)
key_between Less = refl
key_between Equal = refl
key_between Greater = refl

pub has_key_between : (key : Json) (row : Row) → has_key key row ≡ (not (is_below_key key row) && is_up_to_key key row)
has_key_between key row = key_between (json_cmp (json row.key) key)

-- the rows before the start, walking forwards and backwards
pub before_start_up : (query : Query) (rows : List Row) (count : ℕ) → query.descending ≡ false → IsPrefix (is_below_range query) rows count → before_start query rows ≡ count
before_start_up query rows count up below =
    ap length (filter_agree (λ row. not (passes_start query (json row.key) row.id)) (is_below_range query)
    (λ row. sym (ap (λ (b : Bool). if b then not (passes_end query (json row.key) row.id) else not (passes_start query (json row.key) row.id)) up)) rows)
    ∙ count_passing (is_below_range query) rows count below

pub before_start_down : (query : Query) (rows : List Row) (count : ℕ) → query.descending ≡ true → IsPrefix (is_up_to_range query) rows count → before_start query rows ≡ length rows - count
before_start_down query rows count down above =
    ap length (filter_agree (λ row. not (passes_start query (json row.key) row.id)) (λ row. not (is_up_to_range query row))
    (λ row. sym (ap (λ (b : Bool). not (if b then passes_start query (json row.key) row.id else passes_end query (json row.key) row.id)) down)) rows)
    ∙ count_failing (is_up_to_range query) rows count above

-- these and those in range are rows of the list
pub range_fits : (query : Query) (rows : List Row) → before_start query rows + length (filter (is_in_range query) rows) ≤ length rows
range_fits query rows = both_fit (λ row. passes_start query (json row.key) row.id) (λ row. passes_end query (json row.key) row.id) rows
