use Rattle.std.specs.Prelude.{◌≡◌, ◌++◌, codes, decimal, string_bytes}
use Rattle.std.proofs.Common.{ap, ◌∙◌}
use Rattle.std.specs.Int.{w128, to_be_bytes}
use Rattle.hex.specs.Hex.{encode_lower}
use Rattle.design_docs.specs.Revision.{revision}
use Rattle.doc_file.proofs.rev.Rev.text.Goals as goal

pub returns : goal.returns
unfolding revision
returns c =
    let digits : string_bytes c.in_ok-digits.digits ≡ encode_lower (to_be_bytes w128 c.args.self.seq) =
    c.in_ok-digits.ensures ∙ ap encode_lower (c.to_be_bytes.ensures ∙ ap (to_be_bytes w128) c.from.ensures) in
    let generation : string_bytes c.push_str.new.self ≡ decimal c.args.self.generation =
    c.in_ok-push_str.ensures.bytes ∙ ap (λ x. x ++ c.format.result.now) c.in_ok-text.ensures.bytes ∙ c.format.ensures.text in
    let dashed : string_bytes c.push_str-2.new.self ≡ decimal c.args.self.generation ++ codes "-" = c.in_ok-push_str-2.ensures.bytes ∙ ap (λ x. x ++ codes "-") generation in
    c.in_ok-push_str-3.ensures.bytes ∙ ap (λ x. x ++ c.as_str.result.now) dashed ∙ ap (λ x. decimal c.args.self.generation ++ codes "-" ++ x) (c.as_str.ensures.value ∙ digits)
