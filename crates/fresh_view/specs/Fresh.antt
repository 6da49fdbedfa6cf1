-- The rows of a view whose map source is a program of `pick`, from the last writes of all ids.
use Rattle.std.specs.Prelude.{ℕ, List}
use Rattle.std.specs.List.{flat_map}
use Rattle.json_terms.specs.declared.term.Row.{Row}
use Rattle.raw_collation.specs.Sorting.{sorted_rows}
use Rattle.design_docs.specs.History.{Write}
use Rattle.map_server.specs.Pick.{pick}
use Rattle.view_model.specs.Rows.{document_rows}
use Rattle.view_model.specs.Since.{mapped_of}

-- The rows that the source gives of each document that these writes leave to be mapped, in order. Deletions and design documents
-- leave none.
abbrev pub fresh_rows : List ℕ → List (ℕ × Write) → List Row
fresh_rows source changes = sorted_rows (flat_map (document_rows pick source) (mapped_of changes))
