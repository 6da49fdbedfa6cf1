-- One more row, and what is left is one row less.
use Rattle.std.proofs.Common.{◌≡◌, ◌∙◌, ◌<◌, ◌+◌, ◌∷◌, ap, arith, drop, get_or, length, rules}
use Rattle.std.proofs.lemmas.List.{drop_more}
use Rattle.view_model.specs.Answer.{row_text}
use Rattle.view_model.proofs.Printed.{one_more, one_more_line}
use Rattle.view_model.proofs.print.print_forwards.Goals as goal

pub loop-row-preserved : goal.loop-row-preserved
loop-row-preserved c =
    let rows = c.args.rows.now in
    let i = c.loop-row.row-index in
    let later = c.loop-row.later in
    let row = c.row-item.result in
    let below : i < length rows = omega arith in
    let here : get_or rows i row ≡ row = search rules in
    let left : drop i rows ≡ row ∷ drop (i + 1) rows = drop_more rows i row below ∙ ap (λ r. r ∷ drop (i + 1) rows) here in
    let step = c.in_ok-print_next.ensures in record {
      written = one_more row_text later c.args.printed row (drop i rows) (drop (i + 1) rows) rows _ _ _ left c.loop-row.invariant.written step.ok;
      before = step.before ∙ c.loop-row.invariant.before;
      line = λ rest. c.loop-row.invariant.line (one_more_line row_text later row (drop i rows) (drop (i + 1) rows) left step.line rest);
    }
