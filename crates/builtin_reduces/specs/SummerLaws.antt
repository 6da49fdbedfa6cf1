-- The laws of a built-in reduce as the values of lists of rows.
use Rattle.std.proofs.Common.{◌≡◌, ◌≤◌, ◌+◌, ◌*◌, ◌↔◌, List, ◌++◌, length, ℤ, refl, sym, ap, ◌∙◌, subst, arith, length-append}
use Rattle.std.specs.List.{flat_map}
use Rattle.design_docs.specs.declared.design.Builtin.{Builtin}
use Rattle.term_codec.specs.Spelling.{count_bytes}
use Rattle.term_codec.proofs.Words.{length-count_bytes}
use Rattle.tree_laws.specs.Meaning.{Meaning, AreSteps, KeepsMeaning, StaysCaused, sum_limit}
use Rattle.tree_laws.specs.Spelled.{IsSpelledOnce}
use Rattle.builtin_reduces.specs.declared.sum.BuiltinSum.{BuiltinSum}
use Rattle.builtin_reduces.specs.declared.sum.BuiltinSum.TheVariants as value
use Rattle.builtin_reduces.specs.declared.sum.Stats.{Stats}
use Rattle.builtin_reduces.specs.SumBytes.{u128_bytes, i128_bytes, numbers_bytes, stats_bytes, sum_bytes, HasBytes}
use Rattle.builtin_reduces.specs.SumFits.{FitsUnder}
use Rattle.builtin_reduces.specs.SumSpelled.{length-u128_bytes, length-i128_bytes, length-numbers, sums_spelled_once}

-- ---- calls that change nothing

abbrev pub Same : {A : Type 0} → A → A → Type 0
Same a b = b ≡ a

pub same_are_steps : {A : Type 0} → AreSteps {A = A} Same
same_are_steps = record { none = λ a. refl; both = λ a b c first second. second ∙ first }

pub same_keeps : {A T S : Type 0} (means : A → Meaning T S) (Lawful Usable : A → Type 0) (Fits : A → S → Type 0) → KeepsMeaning Same means Lawful Usable Fits
same_keeps {A} means Lawful Usable Fits = record {
  meaning = λ a b same. ap means same;
  lawful = λ a b same h. subst Lawful (sym same) h;
  usable = λ a b same h. subst Usable same h;
  fits = λ a b sum same. let P : A → Type 0 = λ x. Fits a sum ↔ Fits x sum in subst P (sym same) (λ h. h, λ h. h);
}

pub same_stays_caused : {A F : Type 0} (Fails : A → A → F → Type 0) → StaysCaused Same Fails
same_stays_caused Fails = λ a b c fault before cause. subst (λ x. Fails x c fault) before cause

-- ---- values

pub sums_spelled_once_under : (kind : Builtin) → IsSpelledOnce (FitsUnder kind) sum_bytes
sums_spelled_once_under kind = λ x y fit_x fit_y same. sums_spelled_once x y fit_x.bounds fit_y.bounds same

length-numbers_bytes : (ns : List ℤ) → length (numbers_bytes ns) ≡ 4 + length ns * 16
length-numbers_bytes ns =
    let whole = length-append (count_bytes (length ns)) (flat_map i128_bytes ns) in
    let head = length-count_bytes (length ns) in
    let each = length-numbers ns in
    omega arith

length-stats_bytes : (s : Stats) → length (stats_bytes s) ≡ 80
length-stats_bytes s =
    let sum = length-i128_bytes s.sum in
    let count = length-u128_bytes s.count in
    let least = length-i128_bytes s.min in
    let greatest = length-i128_bytes s.max in
    let squares = length-u128_bytes s.sumsqr in
    let two = length-append (i128_bytes s.max) (u128_bytes s.sumsqr) in
    let three = length-append (i128_bytes s.min) (i128_bytes s.max ++ u128_bytes s.sumsqr) in
    let four = length-append (u128_bytes s.count) (i128_bytes s.min ++ (i128_bytes s.max ++ u128_bytes s.sumsqr)) in
    let five = length-append (i128_bytes s.sum) (u128_bytes s.count ++ (i128_bytes s.min ++ (i128_bytes s.max ++ u128_bytes s.sumsqr))) in
    omega arith

short : (sum : BuiltinSum) → HasBytes sum → length (sum_bytes sum) ≤ sum_limit
short (value.Count n) fit = let one = length-u128_bytes n in omega arith
short (value.Number z) fit = let one = length-i128_bytes z in omega arith
short (value.Numbers ns) fit = let all = length-numbers_bytes ns in omega (arith, fit.few)
short (value.Stats s) fit = let all = length-stats_bytes s in omega arith
short value.Refused fit = omega arith
short value.Overflow fit = omega arith

pub sums_are_short : (kind : Builtin) (sum : BuiltinSum) → FitsUnder kind sum → length (sum_bytes sum) ≤ sum_limit
sums_are_short kind sum fit = short sum fit.bounds
