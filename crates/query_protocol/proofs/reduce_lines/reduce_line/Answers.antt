-- The line is the command's.
use Rattle.std.proofs.Common.{map}
use Rattle.view_ports.specs.ReduceRow.{reduce_row}
use Rattle.view_ports.specs.declared.command.Command.TheVariants.{Reduce}
use Rattle.query_protocol.proofs.Commanded.{any_ok}
use Rattle.query_protocol.proofs.reduce_lines.reduce_line.Goals as goal

pub returns-clause-ok : goal.returns-clause-ok
returns-clause-ok c = c.append.ensures.ok (Reduce c.args.source.now (map reduce_row c.args.rows.now)) c.in_ok-term.ensures

pub returns-clause-whole : goal.returns-clause-whole
returns-clause-whole c = any_ok c.append.result (c.append.ensures.whole (Reduce c.args.source.now (map reduce_row c.args.rows.now)) c.in_ok-term.ensures)

pub returns-clause-reads : goal.returns-clause-reads
returns-clause-reads c = any_ok c.append.result (c.append.ensures.reads (Reduce c.args.source.now (map reduce_row c.args.rows.now)) c.in_ok-term.ensures c.requires)
