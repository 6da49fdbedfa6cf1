use Rattle.std.proofs.Common.{Some, sym, ap, ◌∙◌}
use Rattle.json_terms.specs.Seen.{json}
use Rattle.view_ports.proofs.Counted.{document_in-some}
use Rattle.view_ports.proofs.command.document_in.Goals as goal

pub returns-in-Object-clause-document : goal.returns-in-Object-clause-document
returns-in-Object-clause-document c =
    document_in-some (json c.args.term) c.in-Object.document (sym c.in_ok-document.ensures.term ∙ ap (λ t. Some (json t)) c.in-Object.is)
