-- The reply to a write is one line.
use Rattle.std.proofs.Common.{subst, arith}
use Rattle.std.proofs.lemmas.Result.{on_ok_weaker}
use Rattle.view_ports.specs.Lines.{IsLine}
use Rattle.design_docs.specs.Revision.{revision}
use Rattle.doc_file.specs.declared.rev.Rev.{Rev}
use Rattle.doc_file.proofs.RevisionLines.{line-revision}
use Rattle.view_engine.proofs.ReplyLines.{write_line}
use Rattle.view_engine.proofs.writes.append_accepted.Goals as goal

pub returns-clause-line : goal.returns-clause-line
returns-clause-line c =
    let rev = c.next_rev.result in
    let plain : IsLine (revision rev.generation rev.seq) = line-revision rev.generation rev.seq (omega arith) in
    on_ok_weaker c.end.result (λ whole. write_line c.args.id.now _ (subst (λ (r : Rev). IsLine (revision r.generation r.seq)) c.next_rev.ensures.kept plain)) c.end.ensures.whole
