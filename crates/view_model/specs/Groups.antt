-- The groups of rows whose values a query asks for (CouchDB's view API, `group` and `group_level`).
use Rattle.std.specs.Prelude.{List, [], ◌∷◌, Bool, filter, if◌then◌else◌, Option, Some, None}
use Rattle.std.specs.List.{flat_map}
use Rattle.std.specs.Ordering.{is_eq}
use Rattle.json_terms.specs.Json.{Json}
use Rattle.json_terms.specs.Seen.{json}
use Rattle.json_terms.specs.declared.term.Row.{Row}
use Rattle.raw_collation.specs.declared.group.Level.{Level}
use Rattle.raw_collation.specs.Collation.{json_cmp}
use Rattle.raw_collation.specs.Groups.{group_of}
use Rattle.query_args.specs.declared.query.Query.{Query}
use Rattle.view_model.specs.Selection.{has_key, in_order, is_in_range, page}

-- the keys of two rows are of one group
abbrev pub is_same_group : Level → Row → Row → Bool
is_same_group level a b = is_eq (json_cmp (group_of level (json a.key)) (group_of level (json b.key)))

-- a row before some runs: it begins the first of them, where that is of its group, and else it is a run of its own
abbrev pub before_runs : Level → Row → List (List Row) → List (List Row)
before_runs level row [] = (row ∷ []) ∷ []
before_runs level row ([] ∷ runs) = (row ∷ []) ∷ runs
before_runs level row ((next ∷ run) ∷ runs) = if is_same_group level row next then (row ∷ next ∷ run) ∷ runs else (row ∷ []) ∷ (next ∷ run) ∷ runs

-- the longest runs of rows of one group, in their order
abbrev pub runs : Level → List Row → List (List Row)
runs level [] = []
runs level (row ∷ rows) = before_runs level row (runs level rows)

-- rows as one group, where there are some
abbrev pub one_group : List Row → List (List Row)
one_group [] = []
one_group (row ∷ rows) = (row ∷ rows) ∷ []

-- a group for each listed key that has rows, in the order of the list; or else the runs of the rows in range, as the query walks them.
-- The rows of a group stand in ascending order, also where the list is walked backwards.
abbrev pub listed_or_runs : Option (List Json) → Query → List Row → List (List Row)
listed_or_runs (Some keys) query rows = flat_map (λ key. one_group (filter (has_key key) rows)) keys
listed_or_runs None query rows = in_order query (runs query.level (filter (is_in_range query) rows))

abbrev pub groups_of : Query → List Row → List (List Row)
groups_of query rows = listed_or_runs query.keys query rows

abbrev pub picked_groups : Query → List Row → List (List Row)
picked_groups query rows = page query (groups_of query rows)

-- the groups of these keys, where they are listed
abbrev pub groups_of_keys : List Row → List Json → List (List Row)
groups_of_keys rows keys = flat_map (λ key. one_group (filter (has_key key) rows)) keys
