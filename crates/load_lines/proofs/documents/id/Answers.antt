-- The hole of width six writes zeros in front.
use Rattle.std.proofs.Common.{◌≡◌, ◌-◌, ℕ, List, [], ◌++◌, length, replicate, codes, decimal, false, ap, ◌∙◌, arith, append-nil}
use Rattle.std.specs.Fmt.{format_spec, styled_decimal, padded_integral, char_count}
use Rattle.load_lines.specs.Documents.{document_id}
use Rattle.load_lines.proofs.documents.id.Goals as goal

zeros : (digits : List ℕ) → padded_integral (format_spec 32 0 4 6 18446744073709551615) false [] digits ≡ replicate (6 - length digits) 48 ++ digits
unfolding padded_integral char_count
zeros digits = let short : 6 - length digits - 0 - 0 ≡ 6 - length digits = omega arith in rw (short, append-nil digits)

pub returns : goal.returns
unfolding document_id
returns c =
    c.new.ensures ∙ c.in_ok-format.ensures.ok
    ∙ ap (λ s. codes "doc" ++ styled_decimal s c.args.k) c.laid_out.ensures
    ∙ ap (λ digits. codes "doc" ++ digits) (zeros (decimal c.args.k))
