-- One more number, and what is left is one number less.
use Rattle.std.proofs.Common.{◌∙◌, ◌<◌, ◌+◌, arith, drop, get_or, length, rules, pos, FitsSigned}
use Rattle.std.specs.Int.{w128}
use Rattle.std.proofs.lemmas.Int.{to_z-of_z}
use Rattle.std.proofs.lemmas.List.{drop_more}
use Rattle.builtin_reduces.proofs.Printed.{one_more}
use Rattle.builtin_reduces.proofs.print.put_numbers.Goals as goal

pub loop-number-preserved : goal.loop-number-preserved
loop-number-preserved c =
    let ns = c.args.numbers.now in
    let i = c.loop-number.number-index in
    let below : i < length ns = omega arith in
    let fits : FitsSigned w128 (get_or ns i (pos 0)) = search rules in
    let step = c.in_ok-put_next.ensures in record {
      written = one_more c.loop-number.later (get_or ns i (pos 0)) (drop i ns) (drop (i + 1) ns) _ _ _ (drop_more ns i (pos 0) below) c.loop-number.invariant.written (simp to_z-of_z at step.ok);
      before = step.before ∙ c.loop-number.invariant.before;
    }
