use Rattle.std.proofs.Common.{refl, sym, ◌∙◌}
use Rattle.builtin_reduces.proofs.SumReads.{sum_in-read, sum_in-none}
use Rattle.builtin_reduces.proofs.summer.BuiltinSummerSummer.decode_sum.Goals as goal

pub returns-in_default : goal.returns-in_default
returns-in_default c = λ sum fit. sum_in-none c.args.bytes.now sum (sym c.in_ok-sum.ensures ∙ c.in_default.is) fit.bounds

pub returns-then-is_under : goal.returns-then-is_under
returns-then-is_under c =
    let read = sum_in-read c.args.bytes.now c.in-Some.sum (sym c.in_ok-sum.ensures ∙ c.in-Some.is) in
    (record { under = c.if-is_under.ensures.0 refl; bounds = read.0 }, read.1)
