-- The values of rows, as JSON values.
use Rattle.std.specs.Prelude.{List, map}
use Rattle.json_terms.specs.Json.{Json}
use Rattle.json_terms.specs.Seen.{json}
use Rattle.json_terms.specs.declared.term.Row.{Row}

abbrev pub values : List Row → List Json
values rows = map (λ row. json row.value) rows
