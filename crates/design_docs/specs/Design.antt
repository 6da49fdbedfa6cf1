-- The design of a document: the language of its sources, and its views.
use Rattle.std.specs.Prelude.{◌≡◌, ℕ, List, [], ◌∷◌, map, codes, Option, option_and_then, unwrap_or}
use Rattle.json_terms.specs.Json.{Json, object, array, string, no_items, item, Members, no_members, member}
use Rattle.json_terms.specs.Find.{member_of}
use Rattle.json_terms.specs.Seen.{json}
use Rattle.design_docs.specs.declared.design.Design.{Design}
use Rattle.design_docs.specs.declared.design.View.{View}
use Rattle.json_terms.specs.Kinds.{text_in, members_in}
use Rattle.design_docs.specs.Reduces.{reduce_of}

-- the language, which is `javascript` where none is given
abbrev pub language_of : Json → List ℕ
language_of document = unwrap_or (option_and_then text_in (member_of (codes "language") document)) (codes "javascript")

-- the views as they stand in the document, which are none where they are absent
abbrev pub views_object : Json → Json
views_object document = unwrap_or (member_of (codes "views") document) (object no_members)

-- the source of a view's map function
abbrev pub map_of : Json → List ℕ
map_of view = unwrap_or (option_and_then text_in (member_of (codes "map") view)) []

abbrev pub view_of : List ℕ → Json → View
view_of name view = record { name = name; map = map_of view; reduce = reduce_of view }

-- the views that members are, in their order
abbrev pub views_in : Members → List View
views_in no_members = []
views_in (member name view rest) = view_of name view ∷ views_in rest

-- the views of a document, in byte order of name, which is the order of the members
abbrev pub views_of : Json → List View
views_of document = views_in (unwrap_or (option_and_then members_in (member_of (codes "views") document)) no_members)

-- the sources of the views' map functions, view by view
abbrev pub map_sources : List View → List (List ℕ)
map_sources = map (λ view. view.map)

-- the source of the map function of the view with this name, looked up in the document
abbrev pub source_of : List ℕ → Json → Option (List ℕ)
source_of name document = option_and_then text_in (option_and_then (member_of (codes "map")) (option_and_then (member_of name) (member_of (codes "views") document)))

-- `[language, views]`
abbrev pub language_and_views : List ℕ → Json → Json
language_and_views language views = array (item (string language) (item views no_items))

abbrev pub design_term : Json → Json
design_term document = language_and_views (language_of document) (views_object document)

abbrev pub IsDesignOf : Json → Design → Type 0
IsDesignOf document design =
    (design.language ≡ language_of document) × (design.views ≡ views_of document) × (json design.term ≡ design_term document)
