-- The counts, one after another.
use Rattle.std.specs.Prelude.{codes, decimal}
use Rattle.std.proofs.Common.{arith}
use Rattle.view_engine.proofs.ReplyLines.{info_line}
use Rattle.view_model.specs.Written.{written_of}
use Rattle.view_model.proofs.Pieces.{appended7}
use Rattle.view_engine.proofs.answer.write_info.Goals as goal

pub returns-clause-ok : goal.returns-clause-ok
returns-clause-ok c =
    appended7 (written_of c.args.reply.now) (codes "{\"doc_count\":") (decimal c.args.info.doc_count) (codes ",\"doc_del_count\":") (decimal c.args.info.doc_del_count) (codes ",\"update_seq\":") (decimal c.args.info.update_seq) (codes "}")
    c.in_ok-put.ensures.ok c.in_ok-put_number.ensures.ok c.in_ok-put-2.ensures.ok c.in_ok-put_number-2.ensures.ok c.in_ok-put-3.ensures.ok c.in_ok-put_number-3.ensures.ok c.in_ok-put-4.ensures.ok

pub returns-clause-line : goal.returns-clause-line
returns-clause-line c = info_line c.args.info (omega arith) (omega arith) (omega arith)
