-- The line is the command's.
use Rattle.std.proofs.Common.{◌≤◌, ◌++◌, ◌∙◌, subst, sym, ap}
use Rattle.json_terms.specs.Json.{Json, depth}
use Rattle.json_terms.specs.Seen.{json}
use Rattle.json_terms.specs.Reading.{depth_limit}
use Rattle.json_terms.specs.Terms.{IsTerm}
use Rattle.json_terms.specs.Text.{text_of}
use Rattle.view_ports.specs.declared.command.Command.TheVariants.{MapDoc}
use Rattle.query_protocol.specs.CommandLines.{document_of}
use Rattle.query_protocol.proofs.Commanded.{line_of, whole, reads, mapped, mapped_is_term, mapped_depth}
use Rattle.query_protocol.proofs.document_line.map_line.Goals as goal

pub returns-clause-ok : goal.returns-clause-ok
returns-clause-ok c =
    let t = json c.args.doc.now in
    c.in_ok-extend_from_slice.ensures.items ∙ ap (λ line. c.args.out.now.items ++ line) (c.as_slice.ensures.value ∙ c.in_ok-line.ensures ∙ sym (line_of (MapDoc (document_of t)) ∙ ap text_of (mapped t c.requires)))

pub returns-clause-whole : goal.returns-clause-whole
returns-clause-whole c =
    let t = json c.args.doc.now in
    whole (MapDoc (document_of t)) (subst IsTerm (sym (mapped t c.requires)) (mapped_is_term t c.validity.ensures))

pub returns-clause-reads : goal.returns-clause-reads
returns-clause-reads c =
    let t = json c.args.doc.now in
    reads (MapDoc (document_of t)) (subst IsTerm (sym (mapped t c.requires)) (mapped_is_term t c.validity.ensures)) (let P : Json → Type 0 = λ u. depth u ≤ depth_limit in subst P (sym (mapped t c.requires)) (mapped_depth t c.requires))
