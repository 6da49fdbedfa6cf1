use Rattle.std.proofs.Common.{◌++◌, ap, ◌∙◌}
use Rattle.std.specs.Int.{cast_unsigned, to_le_bytes, w64}
use Rattle.std.proofs.lemmas.Int.{to_z-of_z}
use Rattle.term_codec.specs.Spelling.{number_bytes}
use Rattle.term_codec.proofs.encode.put_number.Goals as goal

pub returns : goal.returns
unfolding number_bytes
returns c = c.in_ok-extend_from_slice.ensures.items ∙ ap (λ bs. c.args.out.now.items ++ bs) (c.to_le_bytes.ensures ∙ ap (λ z. to_le_bytes w64 (cast_unsigned w64 z)) (to_z-of_z w64 c.args.n c.ranges.n))
