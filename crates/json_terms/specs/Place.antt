-- Where a name stands among the members of an object. For private clauses.
use Rattle.std.specs.Prelude.{ℕ, ◌+◌, List, Result, Ok, Err}
use Rattle.std.specs.Ordering.{nat_cmp, match_ordering}
use Rattle.std.specs.Cmp.Lexicographic.{slice_cmp}
use Rattle.json_terms.specs.Json.{Members, no_members, member}

-- where `n` members stand before these
abbrev pub place_after : ℕ → List ℕ → Members → Result ℕ ℕ
place_after n name no_members = Err n
place_after n name (member m t ms) = match_ordering (slice_cmp nat_cmp name m) (Err n) (Ok n) (place_after (n + 1) name ms)

-- `Ok` of the place of the member with this name, or `Err` of the place at which it would stand
abbrev pub place_of : List ℕ → Members → Result ℕ ℕ
place_of = place_after 0
