-- The laws of the values of rows by the reduces of views: no two that fit one reduce have the same bytes, and these are few.
use Rattle.std.proofs.Common.{◌≤◌, length, refl, ap, arith}
use Rattle.design_docs.specs.declared.design.Reduce.{Reduce}
use Rattle.design_docs.specs.declared.design.Reduce.TheVariants as reduce
use Rattle.tree_laws.specs.Meaning.{sum_limit}
use Rattle.tree_laws.specs.Spelled.{IsSpelledOnce}
use Rattle.builtin_reduces.specs.SummerLaws.{sums_spelled_once_under, sums_are_short}
use Rattle.child_pool.specs.declared.view_sum.ViewSum.{ViewSum}
use Rattle.child_pool.specs.declared.view_sum.ViewSum.TheVariants as value
use Rattle.child_pool.specs.ChildSumLaws.{child_sums_spelled_once, child_sums_are_short}
use Rattle.child_pool.specs.ViewSums.{FitsView, view_sum_bytes}

pub view_sums_spelled_once : (reduce : Reduce) → IsSpelledOnce (FitsView reduce) view_sum_bytes
view_sums_spelled_once (reduce.Builtin kind) (value.Builtin x) (value.Builtin y) fit_x fit_y same = ap value.Builtin (sums_spelled_once_under kind x y fit_x fit_y same)
view_sums_spelled_once (reduce.Builtin kind) (value.Builtin x) (value.Child y) fit_x fit_y same = absurd fit_y
view_sums_spelled_once (reduce.Builtin kind) (value.Builtin x) value.Nothing fit_x fit_y same = absurd fit_y
view_sums_spelled_once (reduce.Builtin kind) (value.Child x) y fit_x fit_y same = absurd fit_x
view_sums_spelled_once (reduce.Builtin kind) value.Nothing y fit_x fit_y same = absurd fit_x
view_sums_spelled_once (reduce.Source source) (value.Builtin x) y fit_x fit_y same = absurd fit_x
view_sums_spelled_once (reduce.Source source) (value.Child x) (value.Builtin y) fit_x fit_y same = absurd fit_y
view_sums_spelled_once (reduce.Source source) (value.Child x) (value.Child y) fit_x fit_y same = ap value.Child (child_sums_spelled_once x y fit_x fit_y same)
view_sums_spelled_once (reduce.Source source) (value.Child x) value.Nothing fit_x fit_y same = absurd fit_y
view_sums_spelled_once (reduce.Source source) value.Nothing y fit_x fit_y same = absurd fit_x
view_sums_spelled_once reduce.Absent (value.Builtin x) y fit_x fit_y same = absurd fit_x
view_sums_spelled_once reduce.Absent (value.Child x) y fit_x fit_y same = absurd fit_x
view_sums_spelled_once reduce.Absent value.Nothing (value.Builtin y) fit_x fit_y same = absurd fit_y
view_sums_spelled_once reduce.Absent value.Nothing (value.Child y) fit_x fit_y same = absurd fit_y
view_sums_spelled_once reduce.Absent value.Nothing value.Nothing fit_x fit_y same = refl

pub view_sums_are_short : (reduce : Reduce) (sum : ViewSum) → FitsView reduce sum → length (view_sum_bytes sum) ≤ sum_limit
view_sums_are_short (reduce.Builtin kind) (value.Builtin sum) fit = sums_are_short kind sum fit
view_sums_are_short (reduce.Builtin kind) (value.Child sum) fit = absurd fit
view_sums_are_short (reduce.Builtin kind) value.Nothing fit = absurd fit
view_sums_are_short (reduce.Source source) (value.Builtin sum) fit = absurd fit
view_sums_are_short (reduce.Source source) (value.Child sum) fit = child_sums_are_short sum fit
view_sums_are_short (reduce.Source source) value.Nothing fit = absurd fit
view_sums_are_short reduce.Absent (value.Builtin sum) fit = absurd fit
view_sums_are_short reduce.Absent (value.Child sum) fit = absurd fit
view_sums_are_short reduce.Absent value.Nothing fit = omega arith
