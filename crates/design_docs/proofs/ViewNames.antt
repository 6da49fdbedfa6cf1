-- The source of a view is the one that stands in the document under its name.
use Rattle.std.specs.Prelude.{◌≡◌, ℕ, suc, List, [], true, not, nat_lt, map, codes, bytes_eq, Option, Some, None, option_and_then, unwrap_or, if◌then◌else◌}
use Rattle.std.proofs.Common.{refl}
use Rattle.std.specs.Map.{lookup}
use Rattle.std.proofs.lemmas.Bool.{and_parts}
use Rattle.json_terms.specs.Json.{Json, number, is_false, is_null, is_true, object, array, string, Members, no_members, member}
use Rattle.json_terms.specs.Find.{find, member_of}
use Rattle.json_terms.specs.Kinds.{text_in, members_in}
use Rattle.design_docs.specs.Faults.{fault_from, is_text, is_view, view_limit, views_fault}
use Rattle.design_docs.specs.Design.{map_of, views_in}
use Rattle.design_docs.specs.Laws.{entry_of, HasViewsOfNames}
use Rattle.design_docs.proofs.Faultless.{faultless_rest, faultless_views, is_formed}

abbrev source_in : Json → Option (List ℕ)
source_in view = option_and_then text_in (member_of (codes "map") view)

abbrev source_at : List ℕ → Option Json → Option (List ℕ)
source_at name views = option_and_then text_in (option_and_then (member_of (codes "map")) (option_and_then (member_of name) views))

text_is_some : (source : Option Json) → is_text source ≡ true → Some (unwrap_or (option_and_then text_in source) []) ≡ option_and_then text_in source
text_is_some (Some (string s)) is = refl
text_is_some (Some (number n)) is = absurd (cc)
text_is_some (Some is_false) is = absurd (cc)
text_is_some (Some is_null) is = absurd (cc)
text_is_some (Some is_true) is = absurd (cc)
text_is_some (Some (object ms)) is = absurd (cc)
text_is_some (Some (array ts)) is = absurd (cc)
text_is_some None is = absurd (cc)

-- a view has a source
view_has_source : (name : List ℕ) (view : Json) → is_view name view ≡ true → Some (map_of view) ≡ source_in view
view_has_source name view is =
    let described = (and_parts (not (bytes_eq name (codes "lib"))) _ is).1 in
    text_is_some (member_of (codes "map") view) (and_parts (is_text (member_of (codes "map") view)) _ described).0

found_in : (place : ℕ) (name : List ℕ) (views : Members) → fault_from place views ≡ None
    → lookup (λ key. bytes_eq key name) (map entry_of (views_in views)) ≡ option_and_then text_in (option_and_then (member_of (codes "map")) (find name views))
found_in place name no_members is = refl
found_in place name (member n view rest) is =
    let here = view_has_source n view (and_parts (nat_lt place view_limit) (is_view n view) (is_formed place n view rest is)).1 in
    elim (bytes_eq n name) as (λ b. (if b then Some (map_of view) else lookup (λ key. bytes_eq key name) (map entry_of (views_in rest)))
    ≡ option_and_then text_in (option_and_then (member_of (codes "map")) (if b then Some view else find name rest))) [ true ↦ here | _ ↦ found_in (suc place) name rest (faultless_rest place n view rest is) ]

found_at : (name : List ℕ) (views : Option Json) → views_fault views ≡ None
    → lookup (λ key. bytes_eq key name) (map entry_of (views_in (unwrap_or (option_and_then members_in views) no_members))) ≡ source_at name views
found_at name None is = refl
found_at name (Some (object views)) is = found_in 0 name views is
found_at name (Some (number n)) is = refl
found_at name (Some is_false) is = refl
found_at name (Some is_null) is = refl
found_at name (Some is_true) is = refl
found_at name (Some (array ts)) is = refl
found_at name (Some (string s)) is = refl

pub has_views_of_names : (document : Json) → HasViewsOfNames document
has_views_of_names document is name = found_at name (member_of (codes "views") document) (faultless_views document is)
