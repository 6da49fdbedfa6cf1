-- An element at the end of a list of terms, and a member at the end of an object, leave them terms.
use Rattle.std.specs.Prelude.{◌≡◌, ◌<◌, ℕ, zero, suc, List, [], ◌∷◌, ◌++◌, map, take, length, IsUtf8}
use Rattle.std.proofs.Common.{arith, get_or}
use Rattle.json_terms.specs.declared.term.Term.{Term}
use Rattle.json_terms.specs.declared.term.Member.{Member}
use Rattle.json_terms.specs.Json.{items_of, members_of, member}
use Rattle.json_terms.specs.Terms.{IsTerm, AreTerms, AreMembers, ComesAfter, ComesBefore}
use Rattle.json_terms.specs.Seen.{json, pair_of}

pub AreTerms-push : (ts : List Term) (t : Term) → AreTerms (items_of (map json ts)) → IsTerm (json t) → AreTerms (items_of (map json (ts ++ t ∷ [])))
AreTerms-push [] t all last = (last, tt)
AreTerms-push (x ∷ ts) t all last = (all.0, AreTerms-push ts t all.1 last)

-- the name of the first member is less than what comes behind it
pub ComesBefore-push : (m : Member) (ms : List Member) (last : Member) → ComesBefore m.name (members_of (map pair_of ms))
    → ComesAfter last.name (member m.name (json m.value) (members_of (map pair_of ms))) → ComesBefore m.name (members_of (map pair_of (ms ++ last ∷ [])))
ComesBefore-push m [] last before after = after
ComesBefore-push m (x ∷ ms) last before after = before

ComesAfter-rest : (name : List ℕ) (m : Member) (ms : List Member) → ComesAfter name (member m.name (json m.value) (members_of (map pair_of ms))) → ComesAfter name (members_of (map pair_of ms))
ComesAfter-rest name m [] after = tt
ComesAfter-rest name m (x ∷ ms) after = after

pub AreMembers-push : (ms : List Member) (last : Member) → AreMembers (members_of (map pair_of ms)) → ComesAfter last.name (members_of (map pair_of ms))
    → IsUtf8 last.name → IsTerm (json last.value) → AreMembers (members_of (map pair_of (ms ++ last ∷ [])))
AreMembers-push [] last all after utf8 value = (utf8, tt, value, tt)
AreMembers-push (m ∷ ms) last all after utf8 value =
    (all.0, ComesBefore-push m ms last all.1 after, all.2, AreMembers-push ms last all.3 (ComesAfter-rest last.name m ms after) utf8 value)

-- A member's name comes after those before it.
pub ComesAfter-at : (ms : List Member) (i : ℕ) (m : Member) → i < length ms → m ≡ get_or ms i m → AreMembers (members_of (map pair_of ms))
    → ComesAfter m.name (members_of (map pair_of (take i ms)))
ComesAfter-at ms zero m within is all = tt
ComesAfter-at [] (suc i) m within is all = absurd (omega arith)
ComesAfter-at (x ∷ []) (suc i) m within is all = absurd (omega arith)
ComesAfter-at (x ∷ y ∷ ms) (suc zero) m within is all = rw is all.1
ComesAfter-at (x ∷ y ∷ ms) (suc (suc i)) m within is all = ComesAfter-at (y ∷ ms) (suc i) m (omega arith) is all.3
