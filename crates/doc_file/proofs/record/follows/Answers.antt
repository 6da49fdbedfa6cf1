use Rattle.std.proofs.Common.{sym, ap, ◌∙◌, nat_cmp}
use Rattle.std.specs.Ordering.{is_lt}
use Rattle.std.specs.Cmp.Lexicographic.{slice_cmp}
use Rattle.doc_file.proofs.EntryParts.{follows-last}
use Rattle.doc_file.proofs.record.follows.Goals as goal

pub returns-in-Some : goal.returns-in-Some
returns-in-Some c =
    let id = c.args.id.now in
    c.lt.ensures ∙ ap (λ n. is_lt (slice_cmp nat_cmp n id)) c.as_str.ensures ∙ sym (follows-last c.args.entries.now c.in-Some.last.now id (sym c.in-Some.ensures.value))
