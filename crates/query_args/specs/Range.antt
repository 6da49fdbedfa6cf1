-- Which rows a range has. Its ends are met in the order in which the list is walked.
use Rattle.std.specs.Prelude.{ℕ, List, Bool, true, false, ◌&&◌, if◌then◌else◌, Option, Some, None}
use Rattle.std.specs.declared.cmp.Ordering.{Ordering}
use Rattle.std.specs.Ordering.{nat_cmp, is_lt, is_le, match_ordering, ordering_reverse}
use Rattle.std.specs.Cmp.Lexicographic.{slice_cmp}
use Rattle.json_terms.specs.Json.{Json}
use Rattle.json_terms.specs.Seen.{json}
use Rattle.raw_collation.specs.Collation.{json_cmp}
use Rattle.query_args.specs.declared.query.Edge.{Edge}
use Rattle.query_args.specs.declared.query.Query.{Query}

-- an order as it is met, walking backwards or not
abbrev pub walked : Bool → Ordering → Ordering
walked descending order = if descending then ordering_reverse order else order

-- among the rows of the start's key: those from its id on, or all where it has none
abbrev pub is_from : Bool → Option (List ℕ) → List ℕ → Bool
is_from descending None id = true
is_from descending (Some first) id = is_le (walked descending (slice_cmp nat_cmp first id))

-- among the rows of the end's key: those up to its id, or all where it has none
abbrev pub is_up_to : Bool → Option (List ℕ) → List ℕ → Bool
is_up_to descending None id = true
is_up_to descending (Some last) id = is_le (walked descending (slice_cmp nat_cmp id last))

-- and without the end itself: those before its id, or none where it has none
abbrev pub is_before : Bool → Option (List ℕ) → List ℕ → Bool
is_before descending None id = false
is_before descending (Some last) id = is_lt (walked descending (slice_cmp nat_cmp id last))

-- a key past the start's passes, and at the start's key some ids do
abbrev pub is_past_start : Bool → Option Edge → Json → List ℕ → Bool
is_past_start descending None key id = true
is_past_start descending (Some start) key id =
    match_ordering (walked descending (json_cmp key (json start.key))) false (is_from descending start.id id) true

-- a key before the end's passes, and at the end's key some ids do
abbrev pub is_short_of_end : Bool → Option Edge → Json → List ℕ → Bool
is_short_of_end descending None key id = true
is_short_of_end descending (Some end) key id =
    match_ordering (walked descending (json_cmp key (json end.key))) true
    (if end.inclusive then is_up_to descending end.id id else is_before descending end.id id) false

abbrev pub passes_start : Query → Json → List ℕ → Bool
passes_start query key id = is_past_start query.descending query.start key id

abbrev pub passes_end : Query → Json → List ℕ → Bool
passes_end query key id = is_short_of_end query.descending query.end key id

abbrev pub in_range : Query → Json → List ℕ → Bool
in_range query key id = passes_start query key id && passes_end query key id
