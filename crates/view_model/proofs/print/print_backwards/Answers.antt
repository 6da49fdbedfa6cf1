-- One more row, and what is left is one row less.
use Rattle.std.proofs.Common.{◌≡◌, ◌∙◌, [], ◌∷◌, ap, reverse}
use Rattle.std.specs.Iterator.Adapters.{rev_source}
use Rattle.std.specs.Slice.Iter.{iter_rest}
use Rattle.std.proofs.lemmas.List.{reverse-append}
use Rattle.view_model.specs.Answer.{row_text}
use Rattle.view_model.proofs.Printed.{one_more, one_more_line}
use Rattle.view_model.proofs.print.print_backwards.Goals as goal

pub loop-row-preserved : goal.loop-row-preserved
loop-row-preserved c =
    let old = iter_rest (rev_source c.loop-row.row-iterator) in
    let new = iter_rest (rev_source c.next.new.self) in
    let later = c.loop-row.later in
    let row = c.in-Some.row.now in
    let left : reverse old ≡ row ∷ reverse new = ap reverse c.in-Some.ensures.steps ∙ reverse-append new (row ∷ []) in
    let step = c.in_ok-print_next.ensures in record {
      written = one_more row_text later c.args.printed row (reverse old) (reverse new) (reverse c.args.rows.now) _ _ _ left c.loop-row.invariant.written step.ok;
      before = step.before ∙ c.loop-row.invariant.before;
      line = λ rest. c.loop-row.invariant.line (one_more_line row_text later row (reverse old) (reverse new) left step.line rest);
    }
