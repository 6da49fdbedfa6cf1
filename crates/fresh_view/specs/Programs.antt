-- The rows that a program gives of a document.
use Rattle.std.specs.Prelude.{ℕ, List}
use Rattle.json_terms.specs.Json.{Json, members_of, object}
use Rattle.json_terms.specs.declared.term.Row.{Row}
use Rattle.map_lang.specs.Meaning.{rows_of}
use Rattle.map_lang.specs.Syntax.{Stmts}
use Rattle.query_protocol.specs.CommandLines.{document_of}
use Rattle.view_model.specs.Rows.{rows_from}

-- what it emits for a document
abbrev pub emitted_by_program : Stmts → Json → List (Json × Json)
emitted_by_program program document = rows_of program (object (members_of (document_of document)))

-- that as rows of the document's id, numbered by place
abbrev pub program_rows : Stmts → List ℕ × Json → List Row
program_rows program entry = rows_from 0 entry.0 (emitted_by_program program entry.1)
