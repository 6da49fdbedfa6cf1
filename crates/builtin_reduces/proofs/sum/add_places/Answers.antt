-- One more number is added to the sum of its place, or stands behind the sums.
use Rattle.std.proofs.Common.{◌∙◌, ◌<◌, ◌≤◌, pos, length, get_or, sym, ap, arith, rules, FitsSigned}
use Rattle.std.specs.Int.{w128}
use Rattle.builtin_reduces.proofs.Near.{near_added-nil, placed, pushed}
use Rattle.builtin_reduces.proofs.sum.add_places.Goals as goal
use Rattle.builtin_reduces.proofs.sum.add_places.Goals.{then-place-len, else-place-len+in_ok-push}

pub loop-place-init : goal.loop-place-init
loop-place-init c = sym (near_added-nil c.args.sums.now.items)

pub loop-place-preserved : goal.loop-place-preserved
loop-place-preserved c =
    let xs = c.args.sums.now.items in
    let ys = c.args.numbers.now in
    let sums = c.loop-place.sums.items in
    let i = c.loop-place.place in
    let below : i < length ys = omega arith in
    let number : FitsSigned w128 (get_or ys i (pos 0)) = search rules in
    elim c.if-place-len.branch [
      | then-place-len w ↦
          let within : i < length sums = omega arith in
          let old : FitsSigned w128 w.index.result.now = search rules in
          let sum : FitsSigned w128 w.saturating_add.result = search rules in
          ap (λ v. v.items) w.sums-is ∙ placed xs ys sums i w.index.result.now w.saturating_add.result c.loop-place.invariant within below w.index.ensures old number sum w.saturating_add.ensures
      | else-place-len+in_ok-push w ↦
          let past : length sums ≤ i = omega arith in
          ap (λ v. v.items) w.sums-is ∙ w.in_ok-push.ensures.items ∙ pushed xs ys sums i c.loop-place.invariant past below number
    ]
