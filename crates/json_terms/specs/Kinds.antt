-- A value of the kind that is asked for, or none.
use Rattle.std.specs.Prelude.{ℕ, List, Option, Some, None}
use Rattle.json_terms.specs.Json.{Json, number, is_false, is_null, is_true, object, array, string, Items, no_items, item, Members}

-- a text
abbrev pub text_in : Json → Option (List ℕ)
text_in (string s) = Some s
text_in (number n) = None
text_in is_false = None
text_in is_null = None
text_in is_true = None
text_in (object ms) = None
text_in (array ts) = None

-- an object, as its members
abbrev pub members_in : Json → Option Members
members_in (object ms) = Some ms
members_in (number n) = None
members_in is_false = None
members_in is_null = None
members_in is_true = None
members_in (array ts) = None
members_in (string s) = None

-- an array, as its elements
abbrev pub items_in : Json → Option Items
items_in (array ts) = Some ts
items_in (number n) = None
items_in is_false = None
items_in is_null = None
items_in is_true = None
items_in (object ms) = None
items_in (string s) = None

-- the elements, where there is exactly one
abbrev pub one_in : Items → Option Json
one_in no_items = None
one_in (item t no_items) = Some t
one_in (item t (item u us)) = None

-- the elements, where there are exactly two
abbrev pub two_in : Items → Option (Json × Json)
two_in no_items = None
two_in (item t no_items) = None
two_in (item t (item u no_items)) = Some (t, u)
two_in (item t (item u (item v vs))) = None
