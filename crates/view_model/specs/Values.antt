-- The text of the value of a group of rows (CouchDB's view API, reduce functions).
use Rattle.std.specs.Prelude.{◌≡◌, ℕ, List, map}
use Rattle.json_terms.specs.Json.{Json}
use Rattle.json_terms.specs.Text.{text_of}
use Rattle.json_terms.specs.declared.term.Row.{Row}
use Rattle.design_docs.specs.declared.design.Builtin.{Builtin as Kind}
use Rattle.design_docs.specs.declared.design.Reduce.{Reduce}
use Rattle.design_docs.specs.declared.design.Reduce.TheVariants.{Absent, Builtin, Source}
use Rattle.view_ports.specs.Functions.{Functions, IsWithinBounds}
use Rattle.view_ports.specs.ReduceRow.{reduce_row}
use Rattle.builtin_reduces.specs.Seen.{values}
use Rattle.builtin_reduces.specs.Text.{sum_text}
use Rattle.builtin_reduces.specs.Values.{value_of}

-- by a built-in reduce
abbrev pub builtin_text : Kind → List Row → List ℕ
builtin_text kind rows = sum_text (value_of kind (values rows))

-- The text may be that of the value of these rows, which are a group. By a built-in reduce it is its value's. By a source it is that of
-- a value within the bounds, which on an honest path is what the function of the path makes of the rows. Without a reduce a group has
-- no value.
abbrev pub IsValueText : Functions → Type 0 → Reduce → List Row → List ℕ → Type 0
IsValueText functions honest (Builtin kind) rows text = text ≡ builtin_text kind rows
IsValueText functions honest (Source source) rows text =
    (value : Json) × (text ≡ text_of value) × IsWithinBounds value × (honest → value ≡ functions.reduce_of source (map reduce_row rows))
IsValueText functions honest Absent rows text = ⊥
