use Rattle.std.proofs.Common.{sym, arith}
use Rattle.std.proofs.lemmas.List.{length-take-le, take_all}
use Rattle.child_pool.proofs.shown_line.first_bytes.Goals as goal

pub slice_bounds-result-end : goal.slice_bounds-result-end
slice_bounds-result-end c = sym (length-take-le 1000 c.args.line.now (omega arith))

pub returns-else-line-gt-SHOWN_LIMIT : goal.returns-else-line-gt-SHOWN_LIMIT
returns-else-line-gt-SHOWN_LIMIT c = sym (take_all 1000 c.args.line.now c.if-line-gt-SHOWN_LIMIT.false)
