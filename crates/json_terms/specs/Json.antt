-- JSON values as data: whole numbers, `false`, `null`, `true`, objects, arrays and strings (RFC 8259, section 3).
use Rattle.std.specs.Prelude.{ℕ, suc, max, ℤ, List, [], ◌∷◌}

mutual
  pub data Json : Type 0 where
    number : ℤ → Json
    is_false : Json
    is_null : Json
    is_true : Json
    object : Members → Json
    array : Items → Json
    string : List ℕ → Json

  pub data Items : Type 0 where
    no_items : Items
    item : Json → Items → Items

  pub data Members : Type 0 where
    no_members : Members
    member : List ℕ → Json → Members → Members

-- the elements of an array, from their list
abbrev pub items_of : List Json → Items
items_of [] = no_items
items_of (t ∷ ts) = item t (items_of ts)

-- the members of an object, from the list of names and values
abbrev pub members_of : List (List ℕ × Json) → Members
members_of [] = no_members
members_of (m ∷ ms) = member m.0 m.1 (members_of ms)

abbrev pub list_of_items : Items → List Json
list_of_items no_items = []
list_of_items (item t ts) = t ∷ list_of_items ts

abbrev pub list_of_members : Members → List (List ℕ × Json)
list_of_members no_members = []
list_of_members (member n t ms) = (n, t) ∷ list_of_members ms

-- how deep objects and arrays nest: one more than their deepest part
abbrev mutual
  pub depth : Json → ℕ
  depth (number n) = 0
  depth is_false = 0
  depth is_null = 0
  depth is_true = 0
  depth (object ms) = suc (members_depth ms)
  depth (array ts) = suc (items_depth ts)
  depth (string s) = 0

  pub items_depth : Items → ℕ
  items_depth no_items = 0
  items_depth (item t ts) = max (depth t) (items_depth ts)

  pub members_depth : Members → ℕ
  members_depth no_members = 0
  members_depth (member n t ms) = max (depth t) (members_depth ms)
