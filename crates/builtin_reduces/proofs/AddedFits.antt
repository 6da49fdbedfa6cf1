-- Two values that a reduce gives, added, are one that it gives, within bounds.
use Rattle.std.proofs.Common.{◌≡◌, ◌≢◌, ℕ, ◌-◌, ◌^◌, ◌<◌, ℤ, pos, negsuc, ◌+ℤ◌, int_lt, nat_eq, nat_lt, List, [], ◌∷◌, length, Bool, true, false, cond, if◌then◌else◌, FitsSigned, w64, arith, All, get_or, refl, sym, subst, ltb-true}
use Rattle.std.specs.Int.{w128}
use Rattle.std.specs.List.{AllByRecursion}
use Rattle.design_docs.specs.declared.design.Builtin.{Builtin}
use Rattle.design_docs.specs.declared.design.Builtin.TheVariants.{Sum, Count, Stats}
use Rattle.builtin_reduces.specs.declared.sum.BuiltinSum.{BuiltinSum}
use Rattle.builtin_reduces.specs.declared.sum.BuiltinSum.TheVariants as value
use Rattle.builtin_reduces.specs.declared.sum.Stats.{Stats as Told}
use Rattle.builtin_reduces.specs.Added.{near, near_added, both, merged, add_two}
use Rattle.builtin_reduces.specs.SumBytes.{AreNumbers, AreStats, HasBytes}
use Rattle.builtin_reduces.specs.SumFits.{FitsUnder, IsUnder}
use Rattle.builtin_reduces.proofs.Near.{length-near_added}

-- ---- the kind

pub sum_isnt_count : (kind : Builtin) → kind ≡ Sum → kind ≢ Count
sum_isnt_count kind is = λ e. absurd cc

pub stats_isnt_count : (kind : Builtin) → kind ≡ Stats → kind ≢ Count
stats_isnt_count kind is = λ e. absurd cc

pub under_told : (kind : Builtin) (small : Bool) (s : Told) → kind ≡ Stats → IsUnder kind (if small then value.Stats s else value.Overflow)
under_told kind true s is = is
under_told kind false s is = is

under_added : (kind : Builtin) (a b : BuiltinSum) → IsUnder kind a → IsUnder kind b → IsUnder kind (add_two a b)
under_added kind (value.Count m) (value.Count n) u v = u
under_added kind (value.Count m) (value.Number z) u v = sum_isnt_count kind v
under_added kind (value.Count m) (value.Numbers ns) u v = sum_isnt_count kind v
under_added kind (value.Count m) (value.Stats s) u v = stats_isnt_count kind v
under_added kind (value.Count m) value.Refused u v = v
under_added kind (value.Count m) value.Overflow u v = stats_isnt_count kind v
under_added kind (value.Number y) (value.Count n) u v = sum_isnt_count kind u
under_added kind (value.Number y) (value.Number z) u v = u
under_added kind (value.Number y) (value.Numbers ns) u v = u
under_added kind (value.Number y) (value.Stats s) u v = sum_isnt_count kind u
under_added kind (value.Number y) value.Refused u v = v
under_added kind (value.Number y) value.Overflow u v = sum_isnt_count kind u
under_added kind (value.Numbers ms) (value.Count n) u v = sum_isnt_count kind u
under_added kind (value.Numbers ms) (value.Number z) u v = u
under_added kind (value.Numbers ms) (value.Numbers ns) u v = u
under_added kind (value.Numbers ms) (value.Stats s) u v = sum_isnt_count kind u
under_added kind (value.Numbers ms) value.Refused u v = v
under_added kind (value.Numbers ms) value.Overflow u v = sum_isnt_count kind u
under_added kind (value.Stats r) (value.Count n) u v = stats_isnt_count kind u
under_added kind (value.Stats r) (value.Number z) u v = stats_isnt_count kind u
under_added kind (value.Stats r) (value.Numbers ns) u v = stats_isnt_count kind u
under_added kind (value.Stats r) (value.Stats s) u v = let m = merged r s in under_told kind (nat_lt m.sumsqr (2 ^ 128 - 1)) m u
under_added kind (value.Stats r) value.Refused u v = v
under_added kind (value.Stats r) value.Overflow u v = u
under_added kind value.Refused b u v = u
under_added kind value.Overflow (value.Count n) u v = stats_isnt_count kind u
under_added kind value.Overflow (value.Number z) u v = stats_isnt_count kind u
under_added kind value.Overflow (value.Numbers ns) u v = stats_isnt_count kind u
under_added kind value.Overflow (value.Stats s) u v = u
under_added kind value.Overflow value.Refused u v = v
under_added kind value.Overflow value.Overflow u v = u

-- ---- the bounds

near_fits : (z : ℤ) → FitsSigned w128 (near z)
near_fits (pos n) = record { sfits = omega arith }
near_fits (negsuc n) = record { sfits = omega arith }

near_added_fits : (xs ys : List ℤ) → AllByRecursion (FitsSigned w128) xs → AllByRecursion (FitsSigned w128) ys → AllByRecursion (FitsSigned w128) (near_added xs ys)
near_added_fits [] ys f g = g
near_added_fits (x ∷ xs) [] f g = f
near_added_fits (x ∷ xs) (y ∷ ys) f g = (near_fits (x +ℤ y), near_added_fits xs ys f.1 g.1)

near_added_numbers : (xs ys : List ℤ) → AreNumbers xs → AreNumbers ys → AreNumbers (near_added xs ys)
near_added_numbers xs ys f g = let e = length-near_added xs ys in record { each = near_added_fits xs ys f.each g.each; some = omega (arith, f.some); few = omega (arith, f.few, g.few) }

pub one_number : (z : ℤ) → FitsSigned w128 z → AreNumbers (z ∷ [])
one_number z fits = record { each = (fits, tt); some = omega arith; few = omega arith }

one_fits_of : (first : Bool) (x y : ℤ) → FitsSigned w64 x → FitsSigned w64 y → FitsSigned w64 (cond first x y)
one_fits_of true x y f g = f
one_fits_of false x y f g = g

-- it has bytes, where the sum of its squares isn't too great
abbrev FitsChecked : Told → Type 0
FitsChecked s = nat_lt s.sumsqr (2 ^ 128 - 1) ≡ true → AreStats s

both_fit : (a b : Told) → AreStats a → AreStats b → FitsChecked (both a b)
both_fit a b f g small = record {
  sum = near_fits (a.sum +ℤ b.sum);
  count = omega arith;
  least = one_fits_of (int_lt b.min a.min) b.min a.min g.least f.least;
  greatest = one_fits_of (int_lt b.max a.max) a.max b.max f.greatest g.greatest;
  squares = omega (arith, ltb-true (both a b).sumsqr (2 ^ 128 - 1) small);
}

one_of_told : (first : Bool) (a b : Told) → FitsChecked a → FitsChecked b → FitsChecked (if first then a else b)
one_of_told true a b f g = f
one_of_told false a b f g = g

merged_fit : (a b : Told) → AreStats a → AreStats b → FitsChecked (merged a b)
merged_fit a b f g =
    let behind : Told = if nat_eq b.count 0 then a else both a b in
    one_of_told (nat_eq a.count 0) b behind (λ small. g) (one_of_told (nat_eq b.count 0) a (both a b) (λ small. f) (both_fit a b f g))

pub told_fits : (small : Bool) (s : Told) → (small ≡ true → AreStats s) → HasBytes (if small then value.Stats s else value.Overflow)
told_fits true s f = f refl
told_fits false s f = tt

bounds_added : (a b : BuiltinSum) → HasBytes a → HasBytes b → HasBytes (add_two a b)
bounds_added (value.Count m) (value.Count n) f g = omega arith
bounds_added (value.Count m) (value.Number z) f g = tt
bounds_added (value.Count m) (value.Numbers ns) f g = tt
bounds_added (value.Count m) (value.Stats s) f g = tt
bounds_added (value.Count m) value.Refused f g = tt
bounds_added (value.Count m) value.Overflow f g = tt
bounds_added (value.Number y) (value.Count n) f g = tt
bounds_added (value.Number y) (value.Number z) f g = near_fits (y +ℤ z)
bounds_added (value.Number y) (value.Numbers ns) f g = near_added_numbers (y ∷ []) ns (one_number y f) g
bounds_added (value.Number y) (value.Stats s) f g = tt
bounds_added (value.Number y) value.Refused f g = tt
bounds_added (value.Number y) value.Overflow f g = tt
bounds_added (value.Numbers ms) (value.Count n) f g = tt
bounds_added (value.Numbers ms) (value.Number z) f g = near_added_numbers ms (z ∷ []) f (one_number z g)
bounds_added (value.Numbers ms) (value.Numbers ns) f g = near_added_numbers ms ns f g
bounds_added (value.Numbers ms) (value.Stats s) f g = tt
bounds_added (value.Numbers ms) value.Refused f g = tt
bounds_added (value.Numbers ms) value.Overflow f g = tt
bounds_added (value.Stats r) (value.Count n) f g = tt
bounds_added (value.Stats r) (value.Number z) f g = tt
bounds_added (value.Stats r) (value.Numbers ns) f g = tt
bounds_added (value.Stats r) (value.Stats s) f g = let m = merged r s in told_fits (nat_lt m.sumsqr (2 ^ 128 - 1)) m (merged_fit r s f g)
bounds_added (value.Stats r) value.Refused f g = tt
bounds_added (value.Stats r) value.Overflow f g = tt
bounds_added value.Refused b f g = tt
bounds_added value.Overflow (value.Count n) f g = tt
bounds_added value.Overflow (value.Number z) f g = tt
bounds_added value.Overflow (value.Numbers ns) f g = tt
bounds_added value.Overflow (value.Stats s) f g = tt
bounds_added value.Overflow value.Refused f g = tt
bounds_added value.Overflow value.Overflow f g = tt

pub fits_added : (kind : Builtin) (a b : BuiltinSum) → FitsUnder kind a → FitsUnder kind b → FitsUnder kind (add_two a b)
fits_added kind a b f g = record { under = under_added kind a b f.under g.under; bounds = bounds_added a b f.bounds g.bounds }

-- ---- a step of the loop over parts

pub fits_with_part : (kind : Builtin) (parts : List BuiltinSum) (i : ℕ) (total part sum : BuiltinSum) → i < length parts → part ≡ get_or parts i part → sum ≡ add_two total part
    → (All (FitsUnder kind) parts → FitsUnder kind total) → All (FitsUnder kind) parts → FitsUnder kind sum
fits_with_part kind parts i total part sum below is added before all =
    let of_part : FitsUnder kind part = subst (FitsUnder kind) (sym is) (all i part below) in
    subst (FitsUnder kind) (sym added) (fits_added kind total part (before all) of_part)
