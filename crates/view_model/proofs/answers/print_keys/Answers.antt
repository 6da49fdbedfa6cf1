-- The rows of one more key, and what is left is one key less.
use Rattle.std.proofs.Common.{◌≡◌, ◌∙◌, ◌<◌, ◌≤◌, ◌+◌, ◌∷◌, ◌++◌, ap, sym, arith, drop, get_or, length, rules}
use Rattle.std.proofs.lemmas.List.{drop_all, drop_more}
use Rattle.view_model.specs.Answer.{row_text}
use Rattle.view_model.specs.Progress.{walked}
use Rattle.view_model.proofs.Printed.{of_keys, part_more, part_more_line, part_end, part_end_line}
use Rattle.view_model.proofs.answers.print_keys.Goals as goal

pub loop-key-preserved : goal.loop-key-preserved
loop-key-preserved c =
    let rows = c.args.rows.now in
    let keys = c.args.keys.now in
    let query = c.args.query.now in
    let i = c.loop-key.key-index in
    let key = c.key-item.result in
    let part = walked query.descending c.rows_of-part.result.now in
    let below : i < length keys = omega arith in
    let here : get_or keys i key ≡ key = search rules in
    let rest = of_keys query rows (drop (i + 1) keys) in
    let left : of_keys query rows (drop i keys) ≡ part ++ rest =
    ap (of_keys query rows) (drop_more keys i key below ∙ ap (λ k. k ∷ drop (i + 1) keys) here) ∙ ap (λ ps. walked query.descending ps ++ rest) (sym c.rows_of-part.ensures) in
    let step = c.in_ok-progress.ensures in record {
      written = part_more row_text c.loop-key.progress c.args.start c.in_ok-progress.progress part (of_keys query rows (drop i keys)) rest (of_keys query rows keys) _ _ _ left step.progress c.loop-key.invariant.written step.ok;
      before = step.before ∙ c.loop-key.invariant.before;
      line = λ others. c.loop-key.invariant.line
          (part_more_line row_text c.loop-key.progress c.in_ok-progress.progress part (of_keys query rows (drop i keys)) rest left step.progress step.line others);
    }

pub returns-clause-ok : goal.returns-clause-ok
returns-clause-ok c =
    let query = c.args.query.now in
    let rows = c.args.rows.now in
    let past_all : length c.args.keys.now ≤ c.loop-key.key-index = omega arith in
    part_end row_text c.loop-key.progress (of_keys query rows (drop c.loop-key.key-index c.args.keys.now)) _ _ (ap (of_keys query rows) (drop_all c.loop-key.key-index c.args.keys.now past_all))
    c.loop-key.invariant.written

pub returns-clause-line : goal.returns-clause-line
returns-clause-line c =
    let query = c.args.query.now in
    let rows = c.args.rows.now in
    let past_all : length c.args.keys.now ≤ c.loop-key.key-index = omega arith in
    c.loop-key.invariant.line
    (part_end_line row_text c.loop-key.progress (of_keys query rows (drop c.loop-key.key-index c.args.keys.now)) (ap (of_keys query rows) (drop_all c.loop-key.key-index c.args.keys.now past_all)))
