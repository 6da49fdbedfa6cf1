use Rattle.builtin_reduces.proofs.SumLines.{line-sum_text}
use Rattle.builtin_reduces.proofs.print.sum_is_line.Goals as goal

pub returns : goal.returns
returns c = line-sum_text c.args.sum.now
