use Rattle.view_model.proofs.GroupAnswers.{whole_groups}
use Rattle.view_model.proofs.answers.groups_answer.Goals as goal

pub returns-clause-ok : goal.returns-clause-ok
returns-clause-ok g c =
    whole_groups (g.V.GroupValues.is_value c.args.values.now) c.args.query.now c.args.seq c.args.rows.now c.args.reply.now c.put.new.self c.print_seq.new.reply c.put-2.new.self c.put-3.new.self
    c.in_ok-put.ensures.ok c.in_ok-print_seq.ensures.ok c.in_ok-put-2.ensures.ok c.in_ok-print_seq.ensures.line c.print_groups.new.reply c.in_ok-print_groups.ensures.ok c.in_ok-put-3.ensures.ok
