-- The line is the command's.
use Rattle.std.proofs.Common.{arith}
use Rattle.view_ports.specs.declared.command.Command.TheVariants.{AddFun}
use Rattle.query_protocol.proofs.Commanded.{any_ok}
use Rattle.query_protocol.proofs.lines.add_fun_line.Goals as goal

pub returns-clause-ok : goal.returns-clause-ok
returns-clause-ok c = c.append.ensures.ok (AddFun c.args.source.now) c.in_ok-term.ensures

pub returns-clause-whole : goal.returns-clause-whole
returns-clause-whole c = any_ok c.append.result (c.append.ensures.whole (AddFun c.args.source.now) c.in_ok-term.ensures)

pub returns-clause-reads : goal.returns-clause-reads
returns-clause-reads c = any_ok c.append.result (c.append.ensures.reads (AddFun c.args.source.now) c.in_ok-term.ensures (omega arith))
