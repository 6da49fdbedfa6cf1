-- Looking up a member of an object, and setting one.
use Rattle.std.specs.Prelude.{ℕ, List, Option, Some, None, bytes_eq, if◌then◌else◌}
use Rattle.std.specs.Ordering.{nat_cmp, match_ordering}
use Rattle.std.specs.Cmp.Lexicographic.{slice_cmp}
use Rattle.json_terms.specs.Json.{Json, number, is_false, is_null, is_true, object, array, string, Members, no_members, member}

-- the value of the first member with this name
abbrev pub find : List ℕ → Members → Option Json
find name no_members = None
find name (member n t ms) = if bytes_eq n name then Some t else find name ms

-- the object's member with this name
abbrev pub member_of : List ℕ → Json → Option Json
member_of name (number n) = None
member_of name is_false = None
member_of name is_null = None
member_of name is_true = None
member_of name (object ms) = find name ms
member_of name (array ts) = None
member_of name (string s) = None

-- the members with this one set, in the order of names
abbrev pub with_member : List ℕ → Json → Members → Members
with_member name value no_members = member name value no_members
with_member name value (member n t ms) =
    match_ordering (slice_cmp nat_cmp name n) (member name value (member n t ms)) (member name value ms) (member n t (with_member name value ms))
