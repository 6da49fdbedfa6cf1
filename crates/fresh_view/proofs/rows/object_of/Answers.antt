use Rattle.std.proofs.Common.{◌≡◌, ap, subst, sym}
use Rattle.json_terms.specs.Json.{members_of, object}
use Rattle.json_terms.specs.Seen.{json}
use Rattle.json_terms.specs.declared.term.Term.{Term}
use Rattle.json_terms.proofs.Sames.{members_of-list_of_members}
use Rattle.query_protocol.specs.CommandLines.{document_of}
use Rattle.fresh_view.proofs.rows.object_of.Goals as goal

pub returns-in-Object : goal.returns-in-Object
returns-in-Object c =
    subst (λ (t : Term). json t ≡ object (members_of (document_of (json t)))) (sym c.in-Object.is) (ap object (sym (members_of-list_of_members (members_of c.in-Object.field-0))))
