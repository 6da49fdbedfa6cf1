-- A design's language and views stand in its term.
use Rattle.std.specs.Prelude.{◌≡◌, ℕ, List, [], codes, refl, Some, None, option_and_then, unwrap_or}
use Rattle.std.proofs.Common.{ap, sym, ◌∙◌}
use Rattle.json_terms.specs.Json.{Json, is_null, object, array, string, Items, no_items, item, no_members}
use Rattle.json_terms.specs.Find.{member_of}
use Rattle.json_terms.specs.Kinds.{members_in}
use Rattle.design_docs.specs.declared.design.View.{View}
use Rattle.design_docs.specs.Design.{design_term, language_of, views_in, views_object, views_of}
use Rattle.view_model.specs.Standing.{DigestsTellDesigns}

abbrev text_or_none : Json → List ℕ
text_or_none (string s) = s
text_or_none other = []

abbrev first_text : Items → List ℕ
first_text no_items = []
first_text (item t ts) = text_or_none t

abbrev second_item : Items → Json
second_item (item t (item u us)) = u
second_item other = is_null

abbrev language_in : Json → List ℕ
language_in (array ts) = first_text ts
language_in other = []

abbrev views_item : Json → Json
views_item (array ts) = second_item ts
views_item other = is_null

abbrev views_from : Json → List View
views_from views = views_in (unwrap_or (members_in views) no_members)

views_of-object : (document : Json) → views_of document ≡ views_from (views_object document)
views_of-object document =
    elim (member_of (codes "views") document) as (λ m. views_in (unwrap_or (option_and_then members_in m) no_members) ≡ views_from (unwrap_or m (object no_members))) [
      | None ↦ refl
      | Some views ↦ refl
    ]

same_language : (one other : Json) → design_term one ≡ design_term other → language_of one ≡ language_of other
same_language one other same = ap language_in same

same_views : (one other : Json) → design_term one ≡ design_term other → views_of one ≡ views_of other
same_views one other same = views_of-object one ∙ ap (λ term. views_from (views_item term)) same ∙ sym (views_of-object other)

pub digests_tell_designs : DigestsTellDesigns
digests_tell_designs digest path_of history tell one other is also same =
    let terms = tell one other is also same in
    (ap path_of (same_language one other terms), same_views one other terms)
