use Rattle.std.proofs.Common.{arith, codes, decimal, length, refl}
use Rattle.std.proofs.lemmas.Result.{on_ok_weaker}
use Rattle.view_model.specs.Answer.{offset_text, row_text, seq_text, with_commas}
use Rattle.view_model.specs.Selection.{offset, picked}
use Rattle.view_model.specs.Written.{written_of}
use Rattle.design_docs.proofs.Decimals.{line-decimal}
use Rattle.view_model.proofs.Lines.{line, lines9}
use Rattle.view_model.proofs.Pieces.{appended9}
use Rattle.view_model.proofs.answers.rows_answer.Goals as goal

pub returns-clause-ok : goal.returns-clause-ok
returns-clause-ok c =
    let query = c.args.query.now in
    let rows = c.args.rows.now in
    on_ok_weaker c.put-5.result
    (λ added. appended9 (written_of c.args.reply.now) (codes "{\"total_rows\":") (decimal (length rows)) (codes ",") (seq_text query c.args.seq) (codes "\"offset\":")
    (offset_text (offset query rows)) (codes ",\"rows\":[") (with_commas row_text (picked query rows)) (codes "]}")
    c.in_ok-put.ensures.ok c.in_ok-put_number.ensures.ok c.in_ok-put-2.ensures.ok c.in_ok-print_seq.ensures.ok c.in_ok-put-3.ensures.ok c.in_ok-print_offset.ensures.ok
    c.in_ok-put-4.ensures.ok c.in_ok-print_picked.ensures.ok added) c.put-5.ensures.ok

pub returns-clause-line : goal.returns-clause-line
returns-clause-line c =
    let query = c.args.query.now in
    let rows = c.args.rows.now in
    on_ok_weaker c.put-5.result
    (λ added. lines9 (codes "{\"total_rows\":") (decimal (length rows)) (codes ",") (seq_text query c.args.seq) (codes "\"offset\":") (offset_text (offset query rows)) (codes ",\"rows\":[")
    (with_commas row_text (picked query rows)) (codes "]}") (line (codes "{\"total_rows\":") refl) (line-decimal (length rows) (omega arith)) (line (codes ",") refl)
    c.in_ok-print_seq.ensures.line (line (codes "\"offset\":") refl) c.in_ok-print_offset.ensures.line (line (codes ",\"rows\":[") refl) c.in_ok-print_picked.ensures.line
    (line (codes "]}") refl)) c.put-5.ensures.ok
