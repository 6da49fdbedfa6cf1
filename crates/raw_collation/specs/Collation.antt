-- The raw collation of terms (CouchDB's documentation, view collation with `"collation": "raw"`): numbers, `false`,
-- `null`, `true`, objects, arrays and strings, in this order. The order of two objects is this project's own definition.
use Rattle.std.specs.Prelude.{ℕ}
use Rattle.std.specs.declared.cmp.Ordering.{Ordering}
use Rattle.std.specs.declared.cmp.Ordering.TheVariants.{Less, Equal, Greater}
use Rattle.std.specs.Ordering.{nat_cmp, int_cmp, ordering_then}
use Rattle.std.specs.Cmp.Lexicographic.{slice_cmp}
use Rattle.json_terms.specs.Json.{Json, number, is_false, is_null, is_true, object, array, string, Items, no_items, item, Members, no_members, member}
use Rattle.json_terms.specs.Seen.{json}
use Rattle.json_terms.specs.declared.term.Row.{Row}

-- where the kind of a term stands among the kinds
abbrev pub kind : Json → ℕ
kind (number n) = 0
kind is_false = 1
kind is_null = 2
kind is_true = 3
kind (object ms) = 4
kind (array ts) = 5
kind (string s) = 6

abbrev mutual
  -- numbers go by value, strings by their bytes, objects by their members and arrays by their elements; two terms
  -- of different kinds go by kind
  pub json_cmp : Json → Json → Ordering
  json_cmp (number x) (number y) = int_cmp x y
  json_cmp (object ms) (object ns) = members_cmp ms ns
  json_cmp (array ts) (array us) = items_cmp ts us
  json_cmp (string s) (string t) = slice_cmp nat_cmp s t
  json_cmp x y = nat_cmp (kind x) (kind y)

  -- the first elements that differ decide, and a proper prefix comes first
  pub items_cmp : Items → Items → Ordering
  items_cmp no_items no_items = Equal
  items_cmp no_items (item y ys) = Less
  items_cmp (item x xs) no_items = Greater
  items_cmp (item x xs) (item y ys) = ordering_then (json_cmp x y) (items_cmp xs ys)

  -- the first members that differ decide, by name and then by value, and a proper prefix comes first
  pub members_cmp : Members → Members → Ordering
  members_cmp no_members no_members = Equal
  members_cmp no_members (member n y ys) = Less
  members_cmp (member m x xs) no_members = Greater
  members_cmp (member m x xs) (member n y ys) = ordering_then (slice_cmp nat_cmp m n) (ordering_then (json_cmp x y) (members_cmp xs ys))

-- rows go by key, then by the id of their document, then by place, and by value last
abbrev pub rows_cmp : Row → Row → Ordering
rows_cmp a b =
    ordering_then (json_cmp (json a.key) (json b.key))
    (ordering_then (slice_cmp nat_cmp a.id b.id)
    (ordering_then (nat_cmp a.place b.place)
    (json_cmp (json a.value) (json b.value))))
