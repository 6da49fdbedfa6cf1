-- The names are none of the five pairs.
use Rattle.std.proofs.Common.{sym, ◌∙◌}
use Rattle.json_terms.specs.Seen.{json}
use Rattle.view_engine.proofs.OtherForms.{form_of_two-other}
use Rattle.view_engine.proofs.forms.recognize_two.Goals as goal

pub returns-else-are_named-5 : goal.returns-else-are_named-5
returns-else-are_named-5 c =
    form_of_two-other c.args.first.name (json c.args.first.value) c.args.second.name (json c.args.second.value)
    (sym c.are_named.ensures ∙ c.if-are_named.false)
    (sym c.are_named-else-are_named.ensures ∙ c.if-are_named-2.false)
    (sym c.are_named-else-are_named-2.ensures ∙ c.if-are_named-3.false)
    (sym c.are_named-else-are_named-3.ensures ∙ c.if-are_named-4.false)
    (sym c.are_named-else-are_named-4.ensures ∙ c.if-are_named-5.false)
