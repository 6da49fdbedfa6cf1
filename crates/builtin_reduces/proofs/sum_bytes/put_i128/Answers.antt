use Rattle.std.proofs.Common.{◌++◌, ap, ◌∙◌}
use Rattle.std.specs.Int.{cast_unsigned, to_le_bytes, w128}
use Rattle.std.proofs.lemmas.Int.{to_z-of_z}
use Rattle.builtin_reduces.specs.SumBytes.{i128_bytes}
use Rattle.builtin_reduces.proofs.sum_bytes.put_i128.Goals as goal

pub returns : goal.returns
unfolding i128_bytes
returns c = c.in_ok-extend_from_slice.ensures.items ∙ ap (λ bs. c.args.out.now.items ++ bs) (c.to_le_bytes.ensures ∙ ap (λ z. to_le_bytes w128 (cast_unsigned w128 z)) (to_z-of_z w128 c.args.number c.ranges.number))
