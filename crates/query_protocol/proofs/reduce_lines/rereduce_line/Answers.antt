-- The line is the command's.
use Rattle.std.proofs.Common.{map}
use Rattle.json_terms.specs.Seen.{json}
use Rattle.view_ports.specs.declared.command.Command.TheVariants.{Rereduce}
use Rattle.query_protocol.proofs.Commanded.{any_ok}
use Rattle.query_protocol.proofs.reduce_lines.rereduce_line.Goals as goal

pub returns-clause-ok : goal.returns-clause-ok
returns-clause-ok c = c.append.ensures.ok (Rereduce c.args.source.now (map json c.args.values.now)) c.in_ok-term.ensures

pub returns-clause-whole : goal.returns-clause-whole
returns-clause-whole c = any_ok c.append.result (c.append.ensures.whole (Rereduce c.args.source.now (map json c.args.values.now)) c.in_ok-term.ensures)

pub returns-clause-reads : goal.returns-clause-reads
returns-clause-reads c = any_ok c.append.result (c.append.ensures.reads (Rereduce c.args.source.now (map json c.args.values.now)) c.in_ok-term.ensures c.requires)
