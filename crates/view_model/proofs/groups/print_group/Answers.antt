use Rattle.std.proofs.Common.{◌∙◌, List, ap, sym}
use Rattle.json_terms.specs.declared.term.Row.{Row}
use Rattle.view_model.specs.Groups.{one_group}
use Rattle.view_model.specs.Progress.{due, past}
use Rattle.view_model.proofs.GroupAnswers.{no_groups}
use Rattle.view_model.proofs.GroupTexts.{nil_due, past_nil, skipped_due}
use Rattle.view_model.proofs.RunParts.{a_group, no_group}
use Rattle.view_model.proofs.groups.print_group.Goals as goal

pub returns-then-is_empty-clause-ok : goal.returns-then-is_empty-clause-ok
returns-then-is_empty-clause-ok g c =
    let group = c.args.group.now in
    let progress = c.args.progress in
    no_groups (g.V.GroupValues.is_value c.args.values.now) c.args.level progress.printed (due progress (one_group group)) c.args.reply.now
    (nil_due (List Row) progress (one_group group) (no_group group c.is_empty.result c.is_empty.ensures c.if-is_empty.true))

pub returns-then-is_empty-clause-progress : goal.returns-then-is_empty-clause-progress
returns-then-is_empty-clause-progress g c =
    past_nil (List Row) c.args.progress ∙ ap (past c.args.progress) (sym (no_group c.args.group.now c.is_empty.result c.is_empty.ensures c.if-is_empty.true))

pub returns-then-progress-gt0-clause-ok : goal.returns-then-progress-gt0-clause-ok
returns-then-progress-gt0-clause-ok g c =
    let group = c.args.group.now in
    let progress = c.args.progress in
    let some = a_group group c.is_empty.result c.is_empty.ensures c.if-is_empty.false in
    no_groups (g.V.GroupValues.is_value c.args.values.now) c.args.level progress.printed (due progress (one_group group)) c.args.reply.now
    (ap (due progress) some ∙ skipped_due (List Row) progress group c.if-progress-gt0.true)
