use Rattle.std.proofs.Common.{Some, IsUtf8, sym, ◌∙◌, subst, arith}
use Rattle.term_codec.proofs.Texts.{text_of_length-short, text_of_length-bad, text_of_length-good}
use Rattle.term_codec.proofs.decode.text_of_length.Goals as goal

pub returns-then-count-bytes : goal.returns-then-count-bytes
returns-then-count-bytes c = sym (text_of_length-short c.args.count c.args.bytes.now (omega arith))

pub returns-in-Ok : goal.returns-in-Ok
returns-in-Ok c =
    let front = c.in-Ok.ensures.cases.0 ∙ c.split_at.ensures.front in
    let utf8 = subst IsUtf8 c.split_at.ensures.front c.in-Ok.ensures.cases.1 in
    (λ i. Some (front i, c.split_at.ensures.back i)) ∙ sym (text_of_length-good c.args.count c.args.bytes.now (omega arith) utf8)

pub returns-in-Err : goal.returns-in-Err
returns-in-Err c = sym (text_of_length-bad c.args.count c.args.bytes.now (λ utf8. c.in-Err.ensures.cases.0 (subst IsUtf8 (sym c.split_at.ensures.front) utf8)))
