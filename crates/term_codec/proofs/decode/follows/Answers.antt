use Rattle.std.proofs.Common.{sym, ap, ◌∙◌, nat_cmp}
use Rattle.std.specs.Ordering.{is_lt}
use Rattle.std.specs.Cmp.Lexicographic.{slice_cmp}
use Rattle.term_codec.specs.Reading.{follows}
use Rattle.term_codec.proofs.Follows.{follows-last}
use Rattle.term_codec.proofs.decode.follows.Goals as goal

pub returns-in-Some : goal.returns-in-Some
returns-in-Some c =
    let name = c.args.name.now in
    c.lt.ensures ∙ ap (λ n. is_lt (slice_cmp nat_cmp n name)) c.as_str.ensures ∙ sym (follows-last c.as_slice.result.now c.in-Some.last.now name (sym c.in-Some.ensures.value)) ∙ ap (follows name) c.as_slice.ensures
