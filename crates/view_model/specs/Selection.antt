-- Which rows of a view a query picks: a range of the sorted list, or the rows of listed keys, of which some are skipped and so
-- many are taken.
use Rattle.std.specs.Prelude.{ℕ, ◌+◌, min, List, Bool, not, filter, reverse, drop, take, length, if◌then◌else◌, Option, Some, None}
use Rattle.std.specs.List.{flat_map}
use Rattle.std.specs.Ordering.{is_eq}
use Rattle.json_terms.specs.Json.{Json}
use Rattle.json_terms.specs.Seen.{json}
use Rattle.json_terms.specs.declared.term.Row.{Row}
use Rattle.raw_collation.specs.Collation.{json_cmp}
use Rattle.query_args.specs.declared.query.Query.{Query}
use Rattle.query_args.specs.Range.{in_range, passes_start}

-- rows or groups of rows, as a query walks them
abbrev pub in_order : {A : Type 0} → Query → List A → List A
in_order query xs = if query.descending then reverse xs else xs

abbrev pub is_in_range : Query → Row → Bool
is_in_range query row = in_range query (json row.key) row.id

abbrev pub has_key : Json → Row → Bool
has_key key row = is_eq (json_cmp (json row.key) key)

-- the rows of one key
abbrev pub rows_of_key : Query → List Row → Json → List Row
rows_of_key query rows key = in_order query (filter (has_key key) rows)

-- the rows of each listed key, in the order of the list, or else those in range
abbrev pub listed_or_ranged : Option (List Json) → Query → List Row → List Row
listed_or_ranged (Some keys) query rows = flat_map (rows_of_key query rows) keys
listed_or_ranged None query rows = in_order query (filter (is_in_range query) rows)

abbrev pub range_of : Query → List Row → List Row
range_of query rows = listed_or_ranged query.keys query rows

-- so many at most, or all where there is no limit
abbrev pub limited : {A : Type 0} → Option ℕ → List A → List A
limited None xs = xs
limited (Some limit) xs = take limit xs

-- what is left after so many are skipped and so many are taken
abbrev pub page : {A : Type 0} → Query → List A → List A
page query xs = limited query.limit (drop query.skip xs)

abbrev pub picked : Query → List Row → List Row
picked query rows = page query (range_of query rows)

-- how many rows stand before the start
abbrev pub before_start : Query → List Row → ℕ
before_start query rows = length (filter (λ row. not (passes_start query (json row.key) row.id)) rows)

-- how many rows stand before the first that is picked: those before the start, and those that are skipped. It isn't told of listed keys.
abbrev pub offset_unless : Option (List Json) → Query → List Row → Option ℕ
offset_unless (Some keys) query rows = None
offset_unless None query rows = Some (before_start query rows + min query.skip (length (range_of query rows)))

abbrev pub offset : Query → List Row → Option ℕ
offset query rows = offset_unless query.keys query rows
