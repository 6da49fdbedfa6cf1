-- A row as a reduce function is given it.
use Rattle.std.specs.Prelude.{ℕ, List}
use Rattle.std.specs.Borrow.{Bor}
use Rattle.json_terms.specs.Json.{Json}
use Rattle.json_terms.specs.Seen.{json}
use Rattle.json_terms.specs.declared.term.Term.{Term}
use Rattle.json_terms.specs.declared.term.Row.{Row}

-- key and id, and the value
abbrev pub ReduceRow : Type 0
ReduceRow = (Json × List ℕ) × Json

abbrev pub reduce_row : Row → ReduceRow
reduce_row row = ((json row.key, row.id), json row.value)

abbrev pub json2 : Term × Term → Json × Json
json2 pair = (json pair.0, json pair.1)

abbrev pub json2_now : Bor Term × Bor Term → Json × Json
json2_now pair = (json pair.0.now, json pair.1.now)
