-- Terms: the JSON values of this project. Their numbers are `i64`s, their texts UTF-8, and the names of an object
-- rise strictly by bytes, so that each name stands once.
use Rattle.std.specs.Prelude.{◌≡◌, ℕ, List, FitsSigned, IsUtf8}
use Rattle.std.specs.Int.{w64}
use Rattle.std.specs.declared.cmp.Ordering.TheVariants.{Less}
use Rattle.std.specs.Ordering.{nat_cmp}
use Rattle.std.specs.Cmp.Lexicographic.{slice_cmp}
use Rattle.json_terms.specs.Json.{Json, number, is_false, is_null, is_true, object, array, string, Items, no_items, item, Members, no_members, member}

-- the name is less than the first of these names
abbrev pub ComesBefore : List ℕ → Members → Type 0
ComesBefore n no_members = Unit {0}
ComesBefore n (member m t ms) = slice_cmp nat_cmp n m ≡ Less

-- the name is greater than the last of these names
abbrev pub ComesAfter : List ℕ → Members → Type 0
ComesAfter n no_members = Unit {0}
ComesAfter n (member m t no_members) = slice_cmp nat_cmp m n ≡ Less
ComesAfter n (member m t (member l u ms)) = ComesAfter n (member l u ms)

abbrev mutual
  pub IsTerm : Json → Type 0
  IsTerm (number n) = FitsSigned w64 n
  IsTerm is_false = Unit {0}
  IsTerm is_null = Unit {0}
  IsTerm is_true = Unit {0}
  IsTerm (object ms) = AreMembers ms
  IsTerm (array ts) = AreTerms ts
  IsTerm (string s) = IsUtf8 s

  pub AreTerms : Items → Type 0
  AreTerms no_items = Unit {0}
  AreTerms (item t ts) = IsTerm t × AreTerms ts

  pub AreMembers : Members → Type 0
  AreMembers no_members = Unit {0}
  AreMembers (member n t ms) = IsUtf8 n × ComesBefore n ms × IsTerm t × AreMembers ms
