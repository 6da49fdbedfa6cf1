use Rattle.view_model.proofs.AnswerLines.{line-row}
use Rattle.view_model.proofs.print.print_row.Goals as goal

pub returns-clause-line : goal.returns-clause-line
returns-clause-line c = line-row c.args.row.now c.text_is_line.ensures c.text_is_line-2.ensures
