use Rattle.std.proofs.Common.{arith}
use Rattle.std.proofs.lemmas.Result.{on_ok_weaker}
use Rattle.view_model.specs.Selection.{offset}
use Rattle.view_model.proofs.AnswerLines.{offset_line}
use Rattle.view_model.proofs.Printed.{offset_is}
use Rattle.view_model.proofs.answers.print_offset.Goals as goal

pub returns-in-None-clause-line : goal.returns-in-None-clause-line
returns-in-None-clause-line c =
    let is = offset_is c.args.query.now c.args.rows.now c.range_offset.result c.in-None.is c.range_offset.ensures in
    on_ok_weaker c.put_number.result (λ added. offset_line (offset c.args.query.now c.args.rows.now) c.range_offset.result is (omega arith)) c.put_number.ensures.ok
