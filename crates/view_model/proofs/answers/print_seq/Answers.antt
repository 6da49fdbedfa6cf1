use Rattle.std.proofs.Common.{◌∙◌, ◌++◌, ap, arith, codes, decimal}
use Rattle.std.proofs.lemmas.Result.{on_ok_weaker}
use Rattle.view_model.specs.Written.{written_of}
use Rattle.view_model.proofs.AnswerLines.{seq_is, seq_line}
use Rattle.view_model.proofs.Pieces.{appended3}
use Rattle.view_model.proofs.answers.print_seq.Goals as goal

pub returns-clause-ok : goal.returns-clause-ok
returns-clause-ok c =
    let old = written_of c.args.reply.now in
    on_ok_weaker c.put-2.result
    (λ added. appended3 old (codes "\"update_seq\":") (decimal c.args.seq) (codes ",") c.in_ok-put.ensures.ok c.in_ok-put_number.ensures.ok added
    ∙ ap (λ text. old ++ text) (seq_is c.args.query.now c.args.seq c.if-not-query.false)) c.put-2.ensures.ok

pub returns-clause-line : goal.returns-clause-line
returns-clause-line c = on_ok_weaker c.put-2.result (λ added. seq_line c.args.query.now c.args.seq (omega arith)) c.put-2.ensures.ok
