-- The last of the members that are done, as a slice shows it.
use Rattle.std.proofs.Common.{◌≡◌, ◌-◌, ℕ, zero, suc, List, [], ◌∷◌, map, length, true, Some, slice_get, refl, ap, nat_cmp, arith}
use Rattle.std.specs.declared.cmp.Ordering.{Ordering}
use Rattle.std.specs.declared.cmp.Ordering.TheVariants.{Less, Equal, Greater}
use Rattle.std.specs.Ordering.{is_lt}
use Rattle.json_terms.specs.Json.{Json, members_of}
use Rattle.json_terms.specs.Terms.{ComesAfter}
use Rattle.std.specs.Cmp.Lexicographic.{slice_cmp}
use Rattle.json_terms.specs.declared.term.Member.{Member}
use Rattle.json_terms.specs.Seen.{pair_of}
use Rattle.term_codec.specs.Reading.{follows}

follows-at : (ms : List Member) (k : ℕ) (m : Member) (name : List ℕ) → length ms ≡ suc k → slice_get ms k ≡ Some m → follows name (map pair_of ms) ≡ is_lt (slice_cmp nat_cmp m.name name)
follows-at [] k m name long h = absurd (omega arith)
follows-at (x ∷ []) zero m name long h = let same : x ≡ m = cc in ap (λ y. is_lt (slice_cmp nat_cmp y.name name)) same
follows-at (x ∷ []) (suc k) m name long h = absurd (omega arith)
follows-at (x ∷ y ∷ ms) zero m name long h = absurd (omega arith)
follows-at (x ∷ y ∷ ms) (suc k) m name long h = follows-at (y ∷ ms) k m name (omega arith) h

pub follows-last : (ms : List Member) (m : Member) (name : List ℕ) → slice_get ms (length ms - 1) ≡ Some m → follows name (map pair_of ms) ≡ is_lt (slice_cmp nat_cmp m.name name)
follows-last [] m name h = absurd cc
follows-last (x ∷ ms) m name h = follows-at (x ∷ ms) (length (x ∷ ms) - 1) m name (omega arith) h

pub follows-none : (ms : List Member) (name : List ℕ) → length ms ≡ 0 → follows name (map pair_of ms) ≡ true
follows-none [] name h = refl
follows-none (x ∷ ms) name h = absurd (omega arith)

is_lt-Less : (o : Ordering) → is_lt o ≡ true → o ≡ Less
is_lt-Less Less h = refl
is_lt-Less Equal h = absurd cc
is_lt-Less Greater h = absurd cc

-- a name that follows the members comes after them
pub ComesAfter-follows : (done : List (List ℕ × Json)) (name : List ℕ) → follows name done ≡ true → ComesAfter name (members_of done)
ComesAfter-follows [] name h = tt
ComesAfter-follows (x ∷ []) name h = is_lt-Less (slice_cmp nat_cmp x.0 name) h
ComesAfter-follows (x ∷ y ∷ done) name h = ComesAfter-follows (y ∷ done) name h
