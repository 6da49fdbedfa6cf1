use Rattle.std.proofs.lemmas.Result.{on_ok_weaker}
use Rattle.view_model.proofs.GroupAnswers.{after_comma, without_comma}
use Rattle.view_model.proofs.groups.print_next.Goals as goal
use Rattle.view_model.proofs.groups.print_next.Goals.{then-later+in_ok-put, else-later}

pub returns-clause-ok : goal.returns-clause-ok
returns-clause-ok g c =
    let is_value = g.V.GroupValues.is_value c.args.values.now in
    on_ok_weaker c.print_whole.result
    (λ whole. elim c.if-later.branch [
      | then-later+in_ok-put w ↦
          after_comma is_value c.args.level c.args.later c.args.group.now c.args.reply.now c.if-later.reply _ whole _ w.if-later.true w.reply-is w.in_ok-put.ensures.ok
      | else-later w ↦ without_comma is_value c.args.level c.args.later c.args.group.now c.args.reply.now c.if-later.reply _ whole w.if-later.false w.reply-is
    ]) c.print_whole.ensures.ok
