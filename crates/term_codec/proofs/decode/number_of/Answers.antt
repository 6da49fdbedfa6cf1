use Rattle.std.proofs.Common.{rules, ap, ◌∙◌}
use Rattle.std.specs.Int.{cast_signed, cast_unsigned, to_le_bytes, w64}
use Rattle.std.proofs.lemmas.Nat.{le_bytes_8}
use Rattle.std.proofs.lemmas.Int.{of_z-to_z}
use Rattle.term_codec.specs.Spelling.{number_bytes}
use Rattle.term_codec.proofs.decode.number_of.Goals as goal

pub returns : goal.returns
unfolding number_bytes
returns c =
    let n = c.from_le_bytes.result in
    let back = of_z-to_z w64 n c.from_le_bytes.type_inv in
    ap (λ z. to_le_bytes w64 (cast_unsigned w64 (cast_signed w64 (cast_unsigned w64 z)))) c.cast_signed.ensures ∙ ap (λ k. to_le_bytes w64 (cast_unsigned w64 (cast_signed w64 k))) back ∙ ap (to_le_bytes w64) back
    ∙ le_bytes_8 c.args.bytes n (search rules) (search rules) c.from_le_bytes.ensures
