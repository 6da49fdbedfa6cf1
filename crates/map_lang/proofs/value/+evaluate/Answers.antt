use Rattle.std.proofs.Common.{arith}
use Rattle.map_lang.proofs.Walking.{nesting_at}
use Rattle.map_lang.proofs.value.+evaluate.Goals as goal

pub evaluate_all-evaluate-requires : goal.evaluate_all-evaluate-requires
evaluate_all-evaluate-requires t c =
    let less = nesting_at c.args.parts.now c.loop-part.part-index c.part-item.result c.loop-part-test.true c.part-item.is in
    (omega (arith, less), tt)
