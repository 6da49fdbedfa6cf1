-- Which terms have a spelling, and where one stands in bytes.
use Rattle.std.specs.Prelude.{◌≡◌, ℕ, ◌^◌, ◌<◌, ◌≤◌, List, length, slice_range}
use Rattle.json_terms.specs.Json.{Json, number, is_false, is_null, is_true, object, array, string, Items, no_items, item, Members, no_members, member, depth}
use Rattle.json_terms.specs.Terms.{IsTerm}
use Rattle.term_codec.specs.Spelling.{spelling, items_count, members_count}

-- every count and every length fits 4 bytes
abbrev mutual
  pub CountsFit : Json → Type 0
  CountsFit (number n) = Unit {0}
  CountsFit is_false = Unit {0}
  CountsFit is_null = Unit {0}
  CountsFit is_true = Unit {0}
  CountsFit (object ms) = (members_count ms < 2 ^ 32) × MembersFit ms
  CountsFit (array ts) = (items_count ts < 2 ^ 32) × ItemsFit ts
  CountsFit (string s) = length s < 2 ^ 32

  pub ItemsFit : Items → Type 0
  ItemsFit no_items = Unit {0}
  ItemsFit (item t ts) = CountsFit t × ItemsFit ts

  pub MembersFit : Members → Type 0
  MembersFit no_members = Unit {0}
  MembersFit (member n t ms) = (length n < 2 ^ 32) × CountsFit t × MembersFit ms

-- the value is within the limits of a spelling
pub record IsWithin (t : Json) : Type 0 where
  pub depth : depth t ≤ 100
  pub counts : CountsFit t

-- the bytes from `at` to `end` are the spelling of this term
pub record IsSpelledAt (t : Json) (bytes : List ℕ) (at end : ℕ) : Type 0 where
  pub term : IsTerm t
  pub within : IsWithin t
  pub inside : end ≤ length bytes
  pub spelled : slice_range bytes at end ≡ spelling t
