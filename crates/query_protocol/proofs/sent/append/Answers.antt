-- The term's text is the command's line.
use Rattle.std.proofs.Common.{subst}
use Rattle.json_terms.specs.Terms.{IsTerm}
use Rattle.query_protocol.proofs.Commanded.{line_of, whole, reads}
use Rattle.query_protocol.proofs.sent.append.Goals as goal

pub returns-clause-ok : goal.returns-clause-ok
returns-clause-ok c = λ command is. rw (line_of command, ← is) c.write_term.ensures.ok

pub returns-clause-whole : goal.returns-clause-whole
returns-clause-whole c = λ command is. whole command (subst IsTerm is c.validity.ensures)

pub returns-clause-reads : goal.returns-clause-reads
returns-clause-reads c = λ command is shallow. reads command (subst IsTerm is c.validity.ensures) shallow
