-- Setting a member of an object.
use Rattle.std.proofs.Common.{◌≡◌, ◌+◌, ◌<◌, ◌≤◌, ℕ, suc, List, [], ◌∷◌, map, length, get_or, slice_set, Ok, Err, IsUtf8, Ordering, Less, Equal, Greater, nat_cmp, is_eq, refl, sym, ap, ◌∙◌, subst, arith}
use Rattle.std.specs.List.{insert}
use Rattle.std.specs.Ordering.{match_ordering, ordering_reverse}
use Rattle.std.specs.Cmp.Lexicographic.{slice_cmp}
use Rattle.std.proofs.lemmas.Cmp.{nat_list_cmp_total}
use Rattle.std.proofs.lemmas.Map.Text.{is_eq-slice_cmp}
use Rattle.std.proofs.lemmas.Slice.Eq.{bytes_eq-Decides}
use Rattle.json_terms.specs.declared.term.Member.{Member}
use Rattle.json_terms.specs.Json.{Json, Members, no_members, member, members_of}
use Rattle.json_terms.specs.Terms.{IsTerm, AreMembers, ComesBefore}
use Rattle.json_terms.specs.Find.{with_member}
use Rattle.json_terms.specs.Place.{place_after}
use Rattle.json_terms.specs.Seen.{json, pair_of}

same_name : (n m : List ℕ) → slice_cmp nat_cmp n m ≡ Equal → n ≡ m
same_name n m equal = (bytes_eq-Decides n m).0 (sym (is_eq-slice_cmp n m) ∙ ap is_eq equal)

turned : (n m : List ℕ) → slice_cmp nat_cmp n m ≡ Greater → slice_cmp nat_cmp m n ≡ Less
turned n m greater = nat_list_cmp_total.antisymm m n ∙ ap ordering_reverse greater

-- ---- the names still rise

ComesBefore-match : (n : List ℕ) (o : Ordering) (a b c : Members) → ComesBefore n a → ComesBefore n b → ComesBefore n c → ComesBefore n (match_ordering o a b c)
ComesBefore-match n Less a b c p q r = p
ComesBefore-match n Equal a b c p q r = q
ComesBefore-match n Greater a b c p q r = r

ComesBefore-with_member : (m n : List ℕ) (v : Json) (ms : Members) → slice_cmp nat_cmp m n ≡ Less → ComesBefore m ms → ComesBefore m (with_member n v ms)
ComesBefore-with_member m n v no_members less before = less
ComesBefore-with_member m n v (member l u ms) less before =
    ComesBefore-match m (slice_cmp nat_cmp n l) (member n v (member l u ms)) (member n v ms) (member l u (with_member n v ms)) less less before

AreMembers-match : (o : Ordering) (n m : List ℕ) (v t : Json) (ms : Members) → slice_cmp nat_cmp n m ≡ o → IsUtf8 n → IsTerm v → AreMembers (member m t ms) → AreMembers (with_member n v ms)
    → AreMembers (match_ordering o (member n v (member m t ms)) (member n v ms) (member m t (with_member n v ms)))
AreMembers-match Less n m v t ms is utf8 value all rest = (utf8, is, value, all)
AreMembers-match Equal n m v t ms is utf8 value all rest = (utf8, subst (λ name. ComesBefore name ms) (sym (same_name n m is)) all.1, value, all.3)
AreMembers-match Greater n m v t ms is utf8 value all rest = (all.0, ComesBefore-with_member m n v ms (turned n m is) all.1, all.2, rest)

-- The members are still members of a term where one of them was set.
pub AreMembers-with_member : (n : List ℕ) (v : Json) (ms : Members) → IsUtf8 n → IsTerm v → AreMembers ms → AreMembers (with_member n v ms)
AreMembers-with_member n v no_members utf8 value all = (utf8, tt, value, tt)
AreMembers-with_member n v (member m t ms) utf8 value all =
    AreMembers-match (slice_cmp nat_cmp n m) n m v t ms refl utf8 value all (AreMembers-with_member n v ms utf8 value all.3)

-- ---- at a place where the name does not stand yet

-- k is the place for the new member in es, and i the same with n more before it
abbrev Inserts : ℕ → ℕ → List Member → Member → Type 0
Inserts n i es new =
    (k : ℕ) × (i ≡ n + k) × (k ≤ length es) × (members_of (map pair_of (insert es k new)) ≡ with_member new.name (json new.value) (members_of (map pair_of es)))

Inserts-match : (o : Ordering) (n i : ℕ) (x : Member) (es : List Member) (new : Member) → slice_cmp nat_cmp new.name x.name ≡ o
    → match_ordering o (Err n) (Ok n) (place_after (n + 1) new.name (members_of (map pair_of es))) ≡ Err i
    → (place_after (n + 1) new.name (members_of (map pair_of es)) ≡ Err i → Inserts (n + 1) i es new)
    → Inserts n i (x ∷ es) new
Inserts-match Less n i x es new is place rest = let here : n ≡ i = cc in (0, omega arith, omega arith, rw is refl)
Inserts-match Equal n i x es new is place rest = absurd (cc)
Inserts-match Greater n i x es new is place rest =
    let later = rest place in
    (suc later.0, omega (arith, later.1), omega (arith, later.2), rw is (ap (member x.name (json x.value)) later.3))

Inserts-from : (es : List Member) (n i : ℕ) (new : Member) → place_after n new.name (members_of (map pair_of es)) ≡ Err i → Inserts n i es new
Inserts-from [] n i new place = let here : n ≡ i = cc in (0, omega arith, omega arith, refl)
Inserts-from (x ∷ es) n i new place = Inserts-match (slice_cmp nat_cmp new.name x.name) n i x es new refl place (Inserts-from es (n + 1) i new)

pub members_of-insert : (es : List Member) (i : ℕ) (new : Member) → place_after 0 new.name (members_of (map pair_of es)) ≡ Err i
    → (i ≤ length es) × (members_of (map pair_of (insert es i new)) ≡ with_member new.name (json new.value) (members_of (map pair_of es)))
members_of-insert es i new place =
    let found = Inserts-from es 0 i new place in
    let same : found.0 ≡ i = omega (arith, found.1) in
    (omega (arith, found.2), subst (λ k. members_of (map pair_of (insert es k new)) ≡ with_member new.name (json new.value) (members_of (map pair_of es))) same found.3)

-- ---- at the place where the name stands

-- k is the place of the name in es, and i the same with n more before it
abbrev Replaces : ℕ → ℕ → List Member → Member → Type 0
Replaces n i es new =
    (k : ℕ) × (i ≡ n + k) × (k < length es) ×
    ((old : Member) → old ≡ get_or es k old → members_of (map pair_of (slice_set es k (record { name = old.name; value = new.value }))) ≡ with_member new.name (json new.value) (members_of (map pair_of es)))

Replaces-match : (o : Ordering) (n i : ℕ) (x : Member) (es : List Member) (new : Member) → slice_cmp nat_cmp new.name x.name ≡ o
    → match_ordering o (Err n) (Ok n) (place_after (n + 1) new.name (members_of (map pair_of es))) ≡ Ok i
    → (place_after (n + 1) new.name (members_of (map pair_of es)) ≡ Ok i → Replaces (n + 1) i es new)
    → Replaces n i (x ∷ es) new
Replaces-match Less n i x es new is place rest = absurd (cc)
Replaces-match Equal n i x es new is place rest =
    let here : n ≡ i = cc in (
      0,
      omega arith,
      omega arith,
      λ old at. rw is (ap (λ name. member name (json new.value) (members_of (map pair_of es))) (ap (λ m. m.name) at ∙ sym (same_name new.name x.name is))),
    )
Replaces-match Greater n i x es new is place rest =
    let later = rest place in
    (suc later.0, omega (arith, later.1), omega (arith, later.2), λ old at. rw is (ap (member x.name (json x.value)) (later.3 old at)))

Replaces-from : (es : List Member) (n i : ℕ) (new : Member) → place_after n new.name (members_of (map pair_of es)) ≡ Ok i → Replaces n i es new
Replaces-from [] n i new place = absurd (cc)
Replaces-from (x ∷ es) n i new place = Replaces-match (slice_cmp nat_cmp new.name x.name) n i x es new refl place (Replaces-from es (n + 1) i new)

pub members_of-replace : (es : List Member) (i : ℕ) (new : Member) → place_after 0 new.name (members_of (map pair_of es)) ≡ Ok i
    → (i < length es) × ((old : Member) → old ≡ get_or es i old
    → members_of (map pair_of (slice_set es i (record { name = old.name; value = new.value }))) ≡ with_member new.name (json new.value) (members_of (map pair_of es)))
members_of-replace es i new place =
    let found = Replaces-from es 0 i new place in
    let same : i ≡ found.0 = omega (arith, found.1) in
    (omega (arith, found.2), rw same found.3)
