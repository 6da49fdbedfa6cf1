use Rattle.std.proofs.lemmas.Result.{on_ok_weaker}
use Rattle.view_model.specs.Answer.{row_text}
use Rattle.view_model.proofs.Printed.{next_line}
use Rattle.view_model.proofs.print.print_next.Goals as goal

pub returns-clause-line : goal.returns-clause-line
returns-clause-line c = on_ok_weaker c.print_row.result (next_line row_text c.args.later c.args.row.now) c.print_row.ensures.line
