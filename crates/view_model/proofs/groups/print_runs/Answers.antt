-- One more run, and what is left is its rows less.
use Rattle.std.proofs.Common.{◌≡◌, ◌∙◌, ◌++◌, [], List, ap, sym}
use Rattle.json_terms.specs.declared.term.Row.{Row}
use Rattle.view_model.specs.declared.print.Progress.{Progress}
use Rattle.view_model.specs.Groups.{one_group, runs}
use Rattle.view_model.specs.Progress.{due, walked}
use Rattle.view_model.proofs.GroupAnswers.{groups_before, no_groups, part_of_groups}
use Rattle.view_model.proofs.GroupTexts.{nil_due, none_due, none_parts}
use Rattle.view_model.proofs.RunParts.{no_rows, no_runs, some_group}
use Rattle.view_model.proofs.groups.print_runs.Goals as goal
use Rattle.view_model.proofs.groups.print_runs.Goals.{then-loop-progress-test+else-not-is_done, else-loop-progress-test}

pub loop-progress-preserved : goal.loop-progress-preserved
loop-progress-preserved g c =
    let query = c.args.query.now in
    let run = c.next_run.result.0.now in
    let part = one_group run in
    let old = walked query.descending (runs query.level c.loop-progress.left.now) in
    let rest = walked query.descending (runs query.level c.next_run.result.1.now) in
    let left : old ≡ part ++ rest = c.next_run.ensures.run ∙ ap (λ groups. groups ++ rest) (sym (some_group run c.next_run.ensures.some)) in
    let step = c.in_ok-progress.ensures in
    let before = c.loop-progress.invariant in
    let first = c.args.values.now in
    let printed = groups_before g.met.V.GroupValues.keeps first c.loop-progress.values before.goes query.level c.loop-progress.progress.printed
    (due c.loop-progress.progress part) c.loop-progress.reply c.print_group.new.reply step.ok in
    record {
      whole = λ end others. before.whole end
          (part_of_groups (g.V.GroupValues.is_value first) query.level c.loop-progress.progress c.in_ok-progress.progress part old rest
          c.loop-progress.reply c.print_group.new.reply end left step.progress printed others);
      before = step.before ∙ before.before;
      goes = g.met.V.GroupValues.are_steps.both first c.loop-progress.values c.print_group.new.values before.goes step.goes;
      idle = λ none.
          let so_far = before.idle none in
          let parts = none_parts (List Row) c.loop-progress.progress part rest old left so_far.0 in
          (ap (λ (p : Progress). due p rest) step.progress ∙ parts.1, step.idle parts.0 ∙ so_far.1);
    }

pub returns-in_err-progress-clause-idle : goal.returns-in_err-progress-clause-idle
returns-in_err-progress-clause-idle g c none =
    let query = c.args.query.now in
    let run = c.next_run.result.0.now in
    let part = one_group run in
    let old = walked query.descending (runs query.level c.loop-progress.left.now) in
    let rest = walked query.descending (runs query.level c.next_run.result.1.now) in
    let left : old ≡ part ++ rest = c.next_run.ensures.run ∙ ap (λ groups. groups ++ rest) (sym (some_group run c.next_run.ensures.some)) in
    let so_far = c.loop-progress.invariant.idle none in
    c.in_err-progress.ensures.idle (none_parts (List Row) c.loop-progress.progress part rest old left so_far.0).0 ∙ so_far.1

pub returns-clause-ok : goal.returns-clause-ok
returns-clause-ok g c =
    let query = c.args.query.now in
    let progress = c.loop-progress.progress in
    let left = walked query.descending (runs query.level c.loop-progress.left.now) in
    let none : due progress left ≡ [] = elim c.loop-progress-test.branch [
      | then-loop-progress-test+else-not-is_done w ↦ none_due (List Row) progress left (w.is_done.ensures.0 w.if-not-is_done.false)
      | else-loop-progress-test w ↦ nil_due (List Row) progress left
          (no_runs query.level query.descending c.loop-progress.left.now (no_rows c.loop-progress.left.now c.is_empty.result c.is_empty.ensures w.loop-progress-test.false))
    ] in
    c.loop-progress.invariant.whole c.loop-progress.reply
    (no_groups (g.V.GroupValues.is_value c.args.values.now) query.level progress.printed (due progress left) c.loop-progress.reply none)
