-- Where bytes are the spelling of a term within the bounds, it is the one that is read.
use Rattle.std.proofs.Common.{Err, ◌≡◌, Ok, ap, ◌∙◌, subst, length, arith}
use Rattle.term_codec.specs.declared.fault.CodecFault.TheVariants.{NotATerm}
use Rattle.view_ports.specs.Functions.{IsWithinBounds}
use Rattle.child_pool.proofs.ChildSums.{spelled_alone, told}
use Rattle.child_pool.proofs.child_sum.ChildSum.read.Goals as goal

pub returns-in-Ok-2 : goal.returns-in-Ok-2
returns-in-Ok-2 c = λ value within is.
    let read = c.in-Ok.ensures.only value (length c.args.bytes.now) (spelled_alone value c.args.bytes.now within is) in
    let other = c.if-end-bytes.false in
    let end = read.1 in
    absurd (omega arith)

pub returns-in-Err-NotATerm : goal.returns-in-Err-NotATerm
returns-in-Err-NotATerm c = λ value within is.
    let fault : c.in-Err-NotATerm.field-0 ≡ NotATerm 0 = told c.in-Err-NotATerm.field-0 c.in-Err-NotATerm.field-0-0 c.in-Err-NotATerm.field-0-is c.in-Err-NotATerm.ensures.err in
    absurd (c.decode_term.ensures.none (c.in-Err-NotATerm.is ∙ ap (λ e. Err e) fault) value (length c.args.bytes.now) (spelled_alone value c.args.bytes.now within is))

pub returns-in-None : goal.returns-in-None
returns-in-None c = λ value within is.
    let read = c.in-Ok.ensures.only value (length c.args.bytes.now) (spelled_alone value c.args.bytes.now within is) in
    absurd (c.new.ensures.none (c.in_ok-sum.was ∙ ap (λ found. Ok found) c.in-None.is) (subst IsWithinBounds read.0 within))
