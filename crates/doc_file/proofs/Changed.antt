-- Objects with a member left out, and with one set.
use Rattle.std.proofs.Common.{◌≡◌, ◌+◌, ◌<◌, ◌≤◌, ◌^◌, ℕ, suc, List, ◌++◌, length, true, false, bytes_eq, Some, max, if◌then◌else◌, refl, sym, ap, ◌∙◌, arith, length-append}
use Rattle.std.specs.declared.cmp.Ordering.TheVariants.{Less, Equal, Greater}
use Rattle.std.specs.Ordering.{nat_cmp, match_ordering}
use Rattle.std.specs.Cmp.Lexicographic.{slice_cmp}
use Rattle.std.proofs.lemmas.Cmp.{nat_list_cmp_total}
use Rattle.std.proofs.lemmas.Slice.Eq.{bytes_eq-Decides}
use Rattle.json_terms.specs.Json.{Json, Members, no_members, member, depth, members_depth}
use Rattle.json_terms.specs.Terms.{AreMembers, ComesBefore}
use Rattle.json_terms.specs.Find.{find, with_member}
use Rattle.term_codec.specs.Spelling.{spelling, members_spelling, members_count, text_bytes}
use Rattle.term_codec.specs.SpelledAt.{CountsFit, MembersFit}
use Rattle.view_ports.specs.Stored.{without}

-- ---- a member left out

-- what comes before a name comes before those after it
pub before : (n m : List ℕ) (ms : Members) → slice_cmp nat_cmp n m ≡ Less → ComesBefore m ms → ComesBefore n ms
before n m no_members less after = tt
before n m (member l t ms) less after = nat_list_cmp_total.trans n m l less after

ComesBefore-without : (name m : List ℕ) (ms : Members) → ComesBefore m ms → AreMembers ms → ComesBefore m (without name ms)
ComesBefore-without name m no_members first all = tt
ComesBefore-without name m (member n t ms) first all =
    elim (bytes_eq n name) as (λ same. ComesBefore m (if same then without name ms else member n t (without name ms))) [
      | true ↦ ComesBefore-without name m ms (before m n ms first all.1) all.3
      | false ↦ first
    ]

pub AreMembers-without : (name : List ℕ) (ms : Members) → AreMembers ms → AreMembers (without name ms)
AreMembers-without name no_members all = tt
AreMembers-without name (member n t ms) all =
    let rest = AreMembers-without name ms all.3 in
    elim (bytes_eq n name) as (λ same. AreMembers (if same then without name ms else member n t (without name ms))) [
      | true ↦ rest
      | false ↦ (all.0, ComesBefore-without name n ms all.1 all.3, all.2, rest)
    ]

pub depth-without : (name : List ℕ) (ms : Members) → members_depth (without name ms) ≤ members_depth ms
depth-without name no_members = omega arith
depth-without name (member n t ms) =
    let rest = depth-without name ms in
    elim (bytes_eq n name) as (λ same. members_depth (if same then without name ms else member n t (without name ms)) ≤ max (depth t) (members_depth ms)) [
      | true ↦ omega arith
      | false ↦ omega arith
    ]

-- the other members stay
pub find-without : (name other : List ℕ) (ms : Members) → bytes_eq other name ≡ false → find name (without other ms) ≡ find name ms
find-without name other no_members apart = refl
find-without name other (member n t ms) apart =
    let rest = find-without name other ms apart in
    elim (bytes_eq n other) as (λ same. bytes_eq n other ≡ same → find name (if same then without other ms else member n t (without other ms)) ≡ find name (member n t ms)) [
      | true ↦ λ is.
          let same : bytes_eq n name ≡ false = ap (λ m. bytes_eq m name) ((bytes_eq-Decides n other).0 is) ∙ apart in
          rest ∙ sym (ap (λ b. if b then Some t else find name ms) same)
      | false ↦ λ is. ap (λ found. if bytes_eq n name then Some t else found) rest
    ] refl

-- ---- a member set

pub members_count-with_member : (name : List ℕ) (value : Json) (ms : Members) → members_count (with_member name value ms) ≤ suc (members_count ms)
members_count-with_member name value no_members = omega arith
members_count-with_member name value (member n t ms) =
    let rest = members_count-with_member name value ms in
    elim (slice_cmp nat_cmp name n) as (λ o. members_count (match_ordering o (member name value (member n t ms)) (member name value ms) (member n t (with_member name value ms))) ≤ suc (suc (members_count ms))) [
      | Less ↦ omega arith
      | Equal ↦ omega arith
      | Greater ↦ omega arith
    ]

pub MembersFit-with_member : (name : List ℕ) (value : Json) (ms : Members) → length name < 2 ^ 32 → CountsFit value → MembersFit ms → MembersFit (with_member name value ms)
MembersFit-with_member name value no_members short fits all = (short, fits, tt)
MembersFit-with_member name value (member n t ms) short fits all =
    let rest = MembersFit-with_member name value ms short fits all.2 in
    elim (slice_cmp nat_cmp name n) as (λ o. MembersFit (match_ordering o (member name value (member n t ms)) (member name value ms) (member n t (with_member name value ms)))) [
      | Less ↦ (short, fits, all)
      | Equal ↦ (short, fits, all.2)
      | Greater ↦ (all.0, all.1, rest)
    ]

pub depth-with_member : (name : List ℕ) (value : Json) (ms : Members) → members_depth (with_member name value ms) ≤ max (depth value) (members_depth ms)
depth-with_member name value no_members = omega arith
depth-with_member name value (member n t ms) =
    let rest = depth-with_member name value ms in
    elim (slice_cmp nat_cmp name n) as (λ o. members_depth (match_ordering o (member name value (member n t ms)) (member name value ms) (member n t (with_member name value ms)))
    ≤ max (depth value) (max (depth t) (members_depth ms))) [
      | Less ↦ omega arith
      | Equal ↦ omega arith
      | Greater ↦ omega arith
    ]

length-member : (n : List ℕ) (t : Json) (ms : Members) → length (members_spelling (member n t ms)) ≡ length (text_bytes n) + (length (spelling t) + length (members_spelling ms))
length-member n t ms =
    let inner = length-append (spelling t) (members_spelling ms) in
    let whole = length-append (text_bytes n) (spelling t ++ members_spelling ms) in
    omega arith

-- the spelling grows by the member at most
pub length-with_member : (name : List ℕ) (value : Json) (ms : Members)
    → length (members_spelling (with_member name value ms)) ≤ length (text_bytes name) + (length (spelling value) + length (members_spelling ms))
length-with_member name value no_members = let one = length-member name value no_members in omega arith
length-with_member name value (member n t ms) =
    let rest = length-with_member name value ms in
    let one = length-member name value (member n t ms) in
    let other = length-member name value ms in
    let old = length-member n t ms in
    let new = length-member n t (with_member name value ms) in
    elim (slice_cmp nat_cmp name n) as (λ o. length (members_spelling (match_ordering o (member name value (member n t ms)) (member name value ms) (member n t (with_member name value ms))))
    ≤ length (text_bytes name) + (length (spelling value) + length (members_spelling (member n t ms)))) [
      | Less ↦ omega arith
      | Equal ↦ omega arith
      | Greater ↦ omega arith
    ]
