-- The forms of requests: an object with exactly these members. The names of an object's members rise, so the members of
-- each form stand in one order.
use Rattle.std.specs.Prelude.{ℕ, List, Option, Some, None, option_map, option_and_then, bytes_eq, codes, ◌&&◌, if◌then◌else◌}
use Rattle.json_terms.specs.Json.{Json, is_true, object, array, no_items, item, no_members, member, list_of_members}
use Rattle.view_engine.specs.declared.request.Request.{Request}
use Rattle.view_engine.specs.declared.request.Request.TheVariants.{Put, Delete, Get, View, Cursor, Next, Close, Compact, CompactStep, CompactDocs, Cleanup, Info, AllDocs}
use Rattle.view_engine.specs.declared.request.ViewName.{ViewName}
use Rattle.json_terms.specs.Kinds.{text_in, members_in}
use Rattle.view_engine.specs.Kinds.{text_within, count_in}

-- a design document's name and a view's, in an array
abbrev pub view_name_in : Json → Option ViewName
view_name_in (array (item design (item view no_items))) =
    option_and_then (λ d. option_map (λ v. record { design = d; view = v }) (text_in view)) (text_in design)
view_name_in other = None

-- an object, as the list of its members
abbrev pub object_in : Json → Option (List (List ℕ × Json))
object_in value = option_map list_of_members (members_in value)

-- a cursor's name has 1 to 32 bytes
abbrev pub cursor_name_in : Json → Option (List ℕ)
cursor_name_in value = text_within 1 32 (text_in value)

-- the value `true` alone
abbrev pub on_true : Request → Json → Option Request
on_true request is_true = Some request
on_true request other = None

-- both values, or none
abbrev pub both : {A B : Type 0} → (A → B → Request) → Option A → Option B → Option Request
both form a b = option_and_then (λ x. option_map (form x) b) a

-- requests of one member
abbrev pub form_of_one : List ℕ → Json → Option Request
form_of_one name value =
    if bytes_eq name (codes "all_docs") then option_map AllDocs (object_in value)
    else if bytes_eq name (codes "cleanup") then on_true Cleanup value
    else if bytes_eq name (codes "close") then option_map Close (text_in value)
    else if bytes_eq name (codes "compact") then option_map Compact (text_in value)
    else if bytes_eq name (codes "compact_docs") then on_true CompactDocs value
    else if bytes_eq name (codes "delete") then option_map (λ id. Delete id None) (text_in value)
    else if bytes_eq name (codes "get") then option_map Get (text_in value)
    else if bytes_eq name (codes "info") then on_true Info value
    else if bytes_eq name (codes "put") then option_map Put (object_in value)
    else if bytes_eq name (codes "view") then option_map (λ view. View view None) (view_name_in value)
    else None

-- requests of two members
abbrev pub form_of_two : List ℕ → Json → List ℕ → Json → Option Request
form_of_two first x second y =
    if bytes_eq first (codes "compact_step") && bytes_eq second (codes "rows") then both CompactStep (text_in x) (count_in 10000 y)
    else if bytes_eq first (codes "count") && bytes_eq second (codes "next") then both (λ count name. Next name count) (count_in 1000 x) (text_in y)
    else if bytes_eq first (codes "cursor") && bytes_eq second (codes "view") then both (λ name view. Cursor name view None) (cursor_name_in x) (view_name_in y)
    else if bytes_eq first (codes "delete") && bytes_eq second (codes "rev") then both (λ id rev. Delete id (Some rev)) (text_in x) (text_in y)
    else if bytes_eq first (codes "query") && bytes_eq second (codes "view") then both (λ query view. View view (Some query)) (object_in x) (view_name_in y)
    else None

-- requests of three members
abbrev pub form_of_three : List ℕ → Json → List ℕ → Json → List ℕ → Json → Option Request
form_of_three first x second y third z =
    if bytes_eq first (codes "cursor") && bytes_eq second (codes "query") && bytes_eq third (codes "view")
    then option_and_then (λ name. both (λ query view. Cursor name view (Some query)) (object_in y) (view_name_in z)) (cursor_name_in x)
    else None

-- the request that a term is, if it has one of the forms
abbrev pub form_of : Json → Option Request
form_of (object (member a x no_members)) = form_of_one a x
form_of (object (member a x (member b y no_members))) = form_of_two a x b y
form_of (object (member a x (member b y (member c z no_members)))) = form_of_three a x b y c z
form_of other = None
