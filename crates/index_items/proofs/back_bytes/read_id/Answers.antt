-- The one id whose bytes stand at the front behind their length.
use Rattle.std.proofs.Common.{◌≡◌, ◌++◌, IsUtf8, length, sym, ap, ◌∙◌, subst, arith}
use Rattle.term_codec.specs.Spelling.{text_bytes}
use Rattle.term_codec.specs.Reading.{text_in}
use Rattle.term_codec.proofs.Words.{some-pair}
use Rattle.term_codec.proofs.Texts.{text_in-read}
use Rattle.index_items.specs.BackLaws.{id_read}
use Rattle.index_items.proofs.back_bytes.read_id.Goals as goal

pub returns-in_default : goal.returns-in_default
returns-in_default c = λ id more kept is.
    let both = c.in_default.ensures ∙ ap text_in is ∙ id_read id more kept in
    absurd cc

pub returns-then-id-gt-ID_LIMIT : goal.returns-then-id-gt-ID_LIMIT
returns-then-id-gt-ID_LIMIT c = λ id more kept is.
    let read = some-pair (c.in-Some.id.now, c.in-Some.rest.now) (id, more) (c.in-Some.ensures ∙ ap text_in is ∙ id_read id more kept) in
    let long : length c.in-Some.id.now ≡ length id = ap length read.0 in
    absurd (omega (arith, long, kept.short, c.if-id-gt-ID_LIMIT.true))

pub returns : goal.returns
returns c =
    let text = text_in-read c.args.bytes.now c.in-Some.id.now c.in-Some.rest.now (sym c.in-Some.ensures) in
    let same : c.in-Some.id.now ≡ c.in_ok-from_text.field-0 = sym c.in_ok-from_text.ensures in
    let long : length c.in-Some.id.now ≡ length c.in_ok-from_text.field-0 = ap length same in (
      record { utf8 = subst IsUtf8 same text.utf8; short = omega (arith, long, c.if-id-gt-ID_LIMIT.false) },
      text.is ∙ ap (λ id. text_bytes id ++ c.in-Some.rest.now) same,
    )
