-- Leaving members out of an object one after another.
use Rattle.std.proofs.Common.{◌≡◌, ◌<◌, ◌&&◌, ℕ, zero, suc, List, [], ◌∷◌, ◌++◌, map, take, length, get_or, Bool, true, false, not, codes, bytes_eq, if◌then◌else◌, refl, sym, ap, ◌∙◌, arith}
use Rattle.std.specs.declared.cmp.Ordering.TheVariants.{Less}
use Rattle.std.specs.Ordering.{nat_cmp}
use Rattle.std.specs.Cmp.Lexicographic.{slice_cmp}
use Rattle.json_terms.specs.declared.term.Member.{Member}
use Rattle.json_terms.specs.Json.{Json, Members, no_members, member, members_of}
use Rattle.json_terms.specs.Terms.{AreMembers, ComesBefore, ComesAfter}
use Rattle.json_terms.specs.Seen.{json, pair_of}
use Rattle.view_ports.specs.Stored.{without}
use Rattle.doc_file.proofs.Changed.{before}

abbrev pub kept : Members → Members
kept members = without (codes "_deleted") (without (codes "_rev") members)

-- ---- the names still rise

abbrev pub AllBefore : List ℕ → Members → Type 0
AllBefore n no_members = Unit {0}
AllBefore n (member m t ms) = (slice_cmp nat_cmp m n ≡ Less) × AllBefore n ms

less_at : (n : List ℕ) (ms : List Member) (i : ℕ) (m : Member) → ComesBefore n (members_of (map pair_of ms)) → AreMembers (members_of (map pair_of ms)) → i < length ms → m ≡ get_or ms i m
    → slice_cmp nat_cmp n m.name ≡ Less
less_at n [] i m first all within is = absurd (omega arith)
less_at n (x ∷ ms) zero m first all within is = ap (λ y. slice_cmp nat_cmp n y.name) is ∙ first
less_at n (x ∷ ms) (suc i) m first all within is = less_at n ms i m (before n x.name (members_of (map pair_of ms)) first all.1) all.3 (omega arith) is

pub AllBefore-at : (ms : List Member) (i : ℕ) (m : Member) → AreMembers (members_of (map pair_of ms)) → i < length ms → m ≡ get_or ms i m → AllBefore m.name (members_of (map pair_of (take i ms)))
AllBefore-at ms zero m all within is = tt
AllBefore-at [] (suc i) m all within is = absurd (omega arith)
AllBefore-at (x ∷ ms) (suc i) m all within is = (less_at x.name ms i m all.1 all.3 (omega arith) is, AllBefore-at ms i m all.3 (omega arith) is)

pub AllBefore-without : (name n : List ℕ) (ms : Members) → AllBefore n ms → AllBefore n (without name ms)
AllBefore-without name n no_members all = tt
AllBefore-without name n (member m t ms) all =
    let rest = AllBefore-without name n ms all.1 in
    elim (bytes_eq m name) as (λ same. AllBefore n (if same then without name ms else member m t (without name ms))) [ true ↦ rest | false ↦ (all.0, rest) ]

pub ComesAfter-all : (n : List ℕ) (ms : Members) → AllBefore n ms → ComesAfter n ms
ComesAfter-all n no_members all = tt
ComesAfter-all n (member m t no_members) all = all.0
ComesAfter-all n (member m t (member l u ms)) all = ComesAfter-all n (member l u ms) all.1

-- a member's name comes after what is left of those before it
pub ComesAfter-kept : (ms : List Member) (i : ℕ) (m : Member) → AreMembers (members_of (map pair_of ms)) → i < length ms → m ≡ get_or ms i m → ComesAfter m.name (kept (members_of (map pair_of (take i ms))))
ComesAfter-kept ms i m all within is =
    let so_far : Members = members_of (map pair_of (take i ms)) in
    ComesAfter-all m.name (kept so_far)
    (AllBefore-without (codes "_deleted") m.name (without (codes "_rev") so_far) (AllBefore-without (codes "_rev") m.name so_far (AllBefore-at ms i m all within is)))

-- ---- one more member

abbrev pub behind : Members → Members → Members
behind no_members ns = ns
behind (member m t ms) ns = member m t (behind ms ns)

pub without-behind : (name : List ℕ) (ms ns : Members) → without name (behind ms ns) ≡ behind (without name ms) (without name ns)
without-behind name no_members ns = refl
without-behind name (member m t ms) ns =
    let rest = without-behind name ms ns in
    elim (bytes_eq m name) as (λ same. (if same then without name (behind ms ns) else member m t (without name (behind ms ns))) ≡ behind (if same then without name ms else member m t (without name ms)) (without name ns)) [
      | true ↦ rest
      | false ↦ ap (member m t) rest
    ]

kept-behind : (ms ns : Members) → kept (behind ms ns) ≡ behind (kept ms) (kept ns)
kept-behind ms ns = ap (without (codes "_deleted")) (without-behind (codes "_rev") ms ns) ∙ without-behind (codes "_deleted") (without (codes "_rev") ms) (without (codes "_rev") ns)

pub behind-nothing : (ms : Members) → behind ms no_members ≡ ms
behind-nothing no_members = refl
behind-nothing (member m t ms) = ap (member m t) (behind-nothing ms)

pub pairs-push : (ls : List (List ℕ × Json)) (n : List ℕ) (t : Json) → members_of (ls ++ (n, t) ∷ []) ≡ behind (members_of ls) (member n t no_members)
pairs-push [] n t = refl
pairs-push (l ∷ ls) n t = ap (member l.0 l.1) (pairs-push ls n t)

pub members-push : (ms : List Member) (m : Member) → members_of (map pair_of (ms ++ m ∷ [])) ≡ behind (members_of (map pair_of ms)) (member m.name (json m.value) no_members)
members-push [] m = refl
members-push (x ∷ ms) m = ap (member x.name (json x.value)) (members-push ms m)

-- of one member, that is kept or not
one_kept : (revision deleted : Bool) (n : List ℕ) (t : Json) → bytes_eq n (codes "_rev") ≡ revision → bytes_eq n (codes "_deleted") ≡ deleted
    → kept (member n t no_members) ≡ (if not revision && not deleted then member n t no_members else no_members)
one_kept true deleted n t is_revision is_deleted = ap (λ b. without (codes "_deleted") (if b then no_members else member n t no_members)) is_revision
one_kept false deleted n t is_revision is_deleted =
    ap (λ b. without (codes "_deleted") (if b then no_members else member n t no_members)) is_revision
    ∙ ap (λ b. if b then no_members else member n t no_members) is_deleted ∙ turned deleted n t
  where
    turned : (b : Bool) (n : List ℕ) (t : Json) → (if b then no_members else member n t no_members) ≡ (if not b then member n t no_members else no_members)
    turned true n t = refl
    turned false n t = refl

abbrev is_kept : List ℕ → Bool
is_kept n = not (bytes_eq n (codes "_rev")) && not (bytes_eq n (codes "_deleted"))

kept-push : (ms : List Member) (m : Member) → kept (members_of (map pair_of (ms ++ m ∷ []))) ≡ behind (kept (members_of (map pair_of ms))) (if is_kept m.name then member m.name (json m.value) no_members else no_members)
kept-push ms m =
    ap kept (members-push ms m) ∙ kept-behind (members_of (map pair_of ms)) (member m.name (json m.value) no_members)
    ∙ ap (behind (kept (members_of (map pair_of ms)))) (one_kept (bytes_eq m.name (codes "_rev")) (bytes_eq m.name (codes "_deleted")) m.name (json m.value) refl refl)

pub kept-taken : (ls : List (List ℕ × Json)) (ms : List Member) (m : Member) → members_of ls ≡ kept (members_of (map pair_of ms)) → is_kept m.name ≡ true
    → members_of (ls ++ (m.name, json m.value) ∷ []) ≡ kept (members_of (map pair_of (ms ++ m ∷ [])))
kept-taken ls ms m so_far stays =
    pairs-push ls m.name (json m.value) ∙ ap (λ ns. behind ns (member m.name (json m.value) no_members)) so_far
    ∙ sym (kept-push ms m ∙ ap (λ b. behind (kept (members_of (map pair_of ms))) (if b then member m.name (json m.value) no_members else no_members)) stays)

pub kept-left : (ls : List (List ℕ × Json)) (ms : List Member) (m : Member) → members_of ls ≡ kept (members_of (map pair_of ms)) → is_kept m.name ≡ false → members_of ls ≡ kept (members_of (map pair_of (ms ++ m ∷ [])))
kept-left ls ms m so_far goes =
    so_far
    ∙ sym (kept-push ms m ∙ ap (λ b. behind (kept (members_of (map pair_of ms))) (if b then member m.name (json m.value) no_members else no_members)) goes ∙ behind-nothing (kept (members_of (map pair_of ms))))

pub itself : (ms : List Member) → map (λ m. m) ms ≡ ms
itself [] = refl
itself (m ∷ ms) = ap (λ rest. m ∷ rest) (itself ms)

-- ---- leaving out one name

without-one : (name n : List ℕ) (t : Json) (b : Bool) → bytes_eq n name ≡ b → without name (member n t no_members) ≡ (if b then no_members else member n t no_members)
without-one name n t b is = ap (λ c. if c then no_members else member n t no_members) is

without-push : (name : List ℕ) (ms : List Member) (m : Member) (b : Bool) → bytes_eq m.name name ≡ b
    → without name (members_of (map pair_of (ms ++ m ∷ []))) ≡ behind (without name (members_of (map pair_of ms))) (if b then no_members else member m.name (json m.value) no_members)
without-push name ms m b is =
    ap (without name) (members-push ms m) ∙ without-behind name (members_of (map pair_of ms)) (member m.name (json m.value) no_members)
    ∙ ap (behind (without name (members_of (map pair_of ms)))) (without-one name m.name (json m.value) b is)

-- of the members so far, what is left without this one
pub without-left : (name : List ℕ) (ls : List (List ℕ × Json)) (ms : List Member) (m : Member) → members_of ls ≡ without name (members_of (map pair_of ms)) → bytes_eq m.name name ≡ true
    → members_of ls ≡ without name (members_of (map pair_of (ms ++ m ∷ [])))
without-left name ls ms m so_far goes = so_far ∙ sym (without-push name ms m true goes ∙ behind-nothing (without name (members_of (map pair_of ms))))

-- and with this one
pub without-taken : (name : List ℕ) (ls : List (List ℕ × Json)) (ms : List Member) (m : Member) (value : Json) → value ≡ json m.value → members_of ls ≡ without name (members_of (map pair_of ms)) → bytes_eq m.name name ≡ false
    → members_of (ls ++ (m.name, value) ∷ []) ≡ without name (members_of (map pair_of (ms ++ m ∷ [])))
without-taken name ls ms m value same so_far stays =
    pairs-push ls m.name value ∙ ap (λ v. behind (members_of ls) (member m.name v no_members)) same ∙ ap (λ ns. behind ns (member m.name (json m.value) no_members)) so_far
    ∙ sym (without-push name ms m false stays)

-- a member's name comes after what is left of those before it
pub ComesAfter-without : (name : List ℕ) (ms : List Member) (i : ℕ) (m : Member) → AreMembers (members_of (map pair_of ms)) → i < length ms → m ≡ get_or ms i m → ComesAfter m.name (without name (members_of (map pair_of (take i ms))))
ComesAfter-without name ms i m all within is =
    ComesAfter-all m.name (without name (members_of (map pair_of (take i ms)))) (AllBefore-without name m.name (members_of (map pair_of (take i ms))) (AllBefore-at ms i m all within is))
