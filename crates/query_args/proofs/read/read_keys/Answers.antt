-- All keys are copied.
use Rattle.std.proofs.Common.{◌≡◌, ◌∙◌, Some, sym, ap, option_map, rules}
use Rattle.std.specs.Prelude.{option_and_then, codes}
use Rattle.json_terms.specs.Seen.{json}
use Rattle.json_terms.specs.Json.{array, items_of, list_of_items}
use Rattle.json_terms.specs.Kinds.{items_in}
use Rattle.json_terms.specs.Find.{member_of}
use Rattle.query_args.proofs.Ends.{keys_of_array}
use Rattle.query_args.proofs.read.read_keys.Goals as goal

pub returns : goal.returns
returns c =
    let given : member_of (codes "keys") (json c.args.query.now) ≡ Some (array (items_of c.in-Some-Array.keys)) = search rules in
    let copied : c.in_ok-copy_keys.field-0 ≡ c.in-Some-Array.keys = search rules in
    ap (λ ts. Some ts) copied ∙ sym (keys_of_array c.in-Some-Array.keys) ∙ ap (λ v. option_map list_of_items (option_and_then items_in v)) (sym given)
