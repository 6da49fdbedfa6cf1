-- What `_stats` tells of numbers, and of numbers behind others.
use Rattle.std.specs.Prelude.{◌≡◌, ℕ, suc, ◌+◌, ◌-◌, ◌^◌, ◌<◌, ◌≤◌, min, ℤ, nat_eq, List, [], ◌∷◌, ◌++◌, length, Bool, if◌then◌else◌, refl}
use Rattle.std.proofs.Common.{ap, sym, ◌∙◌, arith, inl, inr, length-append}
use Rattle.std.specs.Int.{int_min, int_max}
use Rattle.std.specs.List.{fold, sum_by}
use Rattle.std.proofs.Math.Dec.{eqb-suc-zero}
use Rattle.std.proofs.lemmas.Bool.{cases_lt, lt-ltb, le-ltb}
use Rattle.std.proofs.lemmas.Int.{ints, clamps}
use Rattle.std.proofs.lemmas.List.{append-nil}
use Rattle.std.proofs.lemmas.List.Sums.{fold-append, sum_by-append}
use Rattle.builtin_reduces.specs.declared.sum.BuiltinSum.TheVariants as value
use Rattle.builtin_reduces.specs.declared.sum.Stats.{Stats}
use Rattle.builtin_reduces.specs.Values.{total, least, greatest, square, stats_of}
use Rattle.builtin_reduces.specs.Added.{both, merged, checked, overflow_with, add_two}
use Rattle.builtin_reduces.proofs.Bounds.{AreSmall, near-total}

abbrev squares : List ℤ → ℕ
squares ns = sum_by square ns

abbrev pub told : List ℤ → Stats
told ns = record { sum = total ns; count = length ns; min = least ns; max = greatest ns; sumsqr = squares ns }

min_assoc : (x y z : ℤ) → int_min (int_min x y) z ≡ int_min x (int_min y z)
min_assoc x y z = omega (arith, ints, clamps)

max_assoc : (x y z : ℤ) → int_max (int_max x y) z ≡ int_max x (int_max y z)
max_assoc x y z = omega (arith, ints, clamps)

min_from : (x y : ℤ) (ns : List ℤ) → fold int_min (int_min x y) ns ≡ int_min x (fold int_min y ns)
min_from x y [] = refl
min_from x y (n ∷ ns) = ap (λ m. fold int_min m ns) (min_assoc x y n) ∙ min_from x (int_min y n) ns

max_from : (x y : ℤ) (ns : List ℤ) → fold int_max (int_max x y) ns ≡ int_max x (fold int_max y ns)
max_from x y [] = refl
max_from x y (n ∷ ns) = ap (λ m. fold int_max m ns) (max_assoc x y n) ∙ max_from x (int_max y n) ns

least-append : (x y : ℤ) (ms ns : List ℤ) → least ((x ∷ ms) ++ (y ∷ ns)) ≡ int_min (least (x ∷ ms)) (least (y ∷ ns))
least-append x y ms ns = fold-append int_min x ms (y ∷ ns) ∙ min_from (fold int_min x ms) y ns

greatest-append : (x y : ℤ) (ms ns : List ℤ) → greatest ((x ∷ ms) ++ (y ∷ ns)) ≡ int_max (greatest (x ∷ ms)) (greatest (y ∷ ns))
greatest-append x y ms ns = fold-append int_max x ms (y ∷ ns) ∙ max_from (fold int_max x ms) y ns

-- ---- the bound

fits : (ns : List ℤ) → suc (squares ns) < 2 ^ 128 → stats_of ns ≡ value.Stats (told ns)
fits ns h = ap (λ (b : Bool). if b then value.Stats (told ns) else value.Overflow) (lt-ltb _ _ h)

overflows : (ns : List ℤ) → 2 ^ 128 ≤ suc (squares ns) → stats_of ns ≡ value.Overflow
overflows ns h = ap (λ (b : Bool). if b then value.Stats (told ns) else value.Overflow) (le-ltb _ _ h)

checked_fits : (s : Stats) → s.sumsqr < 2 ^ 128 - 1 → checked s ≡ value.Stats s
checked_fits s h = ap (λ (b : Bool). if b then value.Stats s else value.Overflow) (lt-ltb _ _ h)

checked_overflows : (s : Stats) → 2 ^ 128 - 1 ≤ s.sumsqr → checked s ≡ value.Overflow
checked_overflows s h = ap (λ (b : Bool). if b then value.Stats s else value.Overflow) (le-ltb _ _ h)

is_checked : (ns : List ℤ) → stats_of ns ≡ checked (told ns)
is_checked ns = elim (cases_lt (suc (squares ns)) (2 ^ 128)) [
  | inl h ↦ fits ns h ∙ sym (checked_fits (told ns) (omega arith))
  | inr h ↦ overflows ns h ∙ sym (checked_overflows (told ns) (omega arith))
]

-- ---- two groups

both_told : (x y : ℤ) (ms ns : List ℤ) → AreSmall (x ∷ ms) → AreSmall (y ∷ ns) → length (x ∷ ms) + length (y ∷ ns) ≤ 2 ^ 63
    → squares ((x ∷ ms) ++ (y ∷ ns)) < 2 ^ 128 - 1 → both (told (x ∷ ms)) (told (y ∷ ns)) ≡ told ((x ∷ ms) ++ (y ∷ ns))
both_told x y ms ns s t h few =
    let ps = x ∷ ms in let qs = y ∷ ns in
    let p = near-total ps qs s t h in
    let e = length-append ps qs in
    let q : min (length ps + length qs) (2 ^ 64 - 1) ≡ length (ps ++ qs) = omega arith in
    let r = sym (least-append x y ms ns) in
    let u = sym (greatest-append x y ms ns) in
    let f = sum_by-append square ps qs in
    let v : min (squares ps + squares qs) (2 ^ 128 - 1) ≡ squares (ps ++ qs) = omega arith in
    λ i. record { sum = p i; count = q i; min = r i; max = u i; sumsqr = v i }

-- where neither is empty
merged_both : (x y : ℤ) (ms ns : List ℤ) → merged (told (x ∷ ms)) (told (y ∷ ns)) ≡ both (told (x ∷ ms)) (told (y ∷ ns))
merged_both x y ms ns =
    let a = told (x ∷ ms) in let b = told (y ∷ ns) in
    ap (λ (e : Bool). if e then b else (if nat_eq b.count 0 then a else both a b)) (eqb-suc-zero (length ms))
    ∙ ap (λ (e : Bool). if e then a else both a b) (eqb-suc-zero (length ns))

merged_first : (x : ℤ) (ms : List ℤ) → merged (told (x ∷ ms)) (told []) ≡ told (x ∷ ms)
merged_first x ms = let a = told (x ∷ ms) in ap (λ (e : Bool). if e then told [] else a) (eqb-suc-zero (length ms))

merged_told : (ps qs : List ℤ) → AreSmall ps → AreSmall qs → length ps + length qs ≤ 2 ^ 63 → stats_of (ps ++ qs) ≡ checked (merged (told ps) (told qs))
merged_told [] qs s t h = is_checked qs
merged_told (x ∷ ms) [] s t h = ap stats_of (append-nil (x ∷ ms)) ∙ is_checked (x ∷ ms) ∙ ap checked (sym (merged_first x ms))
merged_told (x ∷ ms) (y ∷ ns) s t h =
    let f = sum_by-append square (x ∷ ms) (y ∷ ns) in
    elim (cases_lt (squares ((x ∷ ms) ++ (y ∷ ns))) (2 ^ 128 - 1)) [
      | inl few ↦ is_checked ((x ∷ ms) ++ (y ∷ ns)) ∙ ap checked (sym (both_told x y ms ns s t h few)) ∙ ap checked (sym (merged_both x y ms ns))
      | inr many ↦ overflows ((x ∷ ms) ++ (y ∷ ns)) (omega arith) ∙ sym (checked_overflows (both (told (x ∷ ms)) (told (y ∷ ns))) (omega arith)) ∙ ap checked (sym (merged_both x y ms ns))
    ]

overflow_stays : (qs : List ℤ) → overflow_with (stats_of qs) ≡ value.Overflow
overflow_stays qs = elim (cases_lt (suc (squares qs)) (2 ^ 128)) [
  | inl h ↦ ap overflow_with (fits qs h)
  | inr h ↦ ap overflow_with (overflows qs h)
]

pub stats-append : (ps qs : List ℤ) → AreSmall ps → AreSmall qs → length ps + length qs ≤ 2 ^ 63 → stats_of (ps ++ qs) ≡ add_two (stats_of ps) (stats_of qs)
stats-append ps qs s t h =
    let e = sum_by-append square ps qs in
    elim (cases_lt (suc (squares ps)) (2 ^ 128)) [
      | inl few ↦ elim (cases_lt (suc (squares qs)) (2 ^ 128)) [
        | inl low ↦ merged_told ps qs s t h ∙ ap (λ v. add_two v (value.Stats (told qs))) (sym (fits ps few)) ∙ ap (add_two (stats_of ps)) (sym (fits qs low))
        | inr high ↦ overflows (ps ++ qs) (omega arith) ∙ ap (λ v. add_two v value.Overflow) (sym (fits ps few)) ∙ ap (add_two (stats_of ps)) (sym (overflows qs high))
      ]
      | inr many ↦ overflows (ps ++ qs) (omega arith) ∙ sym (overflow_stays qs) ∙ ap (λ v. add_two v (stats_of qs)) (sym (overflows ps many))
    ]

pub refused_behind : (ps : List ℤ) → add_two (stats_of ps) value.Refused ≡ value.Refused
refused_behind ps = elim (cases_lt (suc (squares ps)) (2 ^ 128)) [
  | inl h ↦ ap (λ v. add_two v value.Refused) (fits ps h)
  | inr h ↦ ap (λ v. add_two v value.Refused) (overflows ps h)
]
