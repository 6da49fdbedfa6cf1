use Rattle.std.proofs.Common.{Some, option_map, sym, ap, ◌∙◌}
use Rattle.json_terms.specs.Seen.{json}
use Rattle.map_lang.specs.Meaning.{turns_of}
use Rattle.map_lang.proofs.Walking.{list_of_items-items_of}
use Rattle.map_lang.proofs.run.elements_of.Goals as goal

pub returns-in-Some-Array : goal.returns-in-Some-Array
returns-in-Some-Array c =
    c.into_vec.ensures ∙ sym (list_of_items-items_of c.in-Some-Array.terms) ∙ ap turns_of (sym (ap (option_map json) (c.in-Some-Array.is ∙ ap Some c.in-Some-Array.field-0-is)) ∙ c.in_ok-terms.ensures)
