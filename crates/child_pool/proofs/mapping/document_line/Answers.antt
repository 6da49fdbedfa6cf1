-- The line is read as the command that maps the document.
use Rattle.std.proofs.Common.{◌∙◌, ◌++◌, ℕ, List, ap}
use Rattle.json_terms.specs.Seen.{json}
use Rattle.json_terms.specs.Json.{Json}
use Rattle.view_ports.specs.declared.command.Command.TheVariants.{MapDoc}
use Rattle.view_ports.specs.Commands.{command}
use Rattle.query_protocol.specs.CommandLines.{command_line, document_of}
use Rattle.child_pool.proofs.Mapped.{proper_document}
use Rattle.child_pool.proofs.mapping.document_line.Goals as goal

pub returns-clause-line : goal.returns-clause-line
returns-clause-line c =
    let asked = λ (document : List (List ℕ × Json)). command_line (MapDoc document) in
    c.in_ok-map_line.ensures.ok ∙ ap (λ bytes. bytes ++ asked (document_of (json c.term-term.result.now))) c.new-line.ensures.items ∙ ap asked c.term-term.ensures.members

pub returns-clause-reads : goal.returns-clause-reads
returns-clause-reads c =
    let line = command_line (MapDoc (document_of (json c.term-term.result.now))) in
    ap command (c.in_ok-map_line.ensures.ok ∙ ap (λ bytes. bytes ++ line) c.new-line.ensures.items)
    ∙ c.in_ok-map_line.ensures.reads (proper_document (json c.term-term.result.now) c.term-term.ensures.document)
    ∙ ap MapDoc c.term-term.ensures.members
