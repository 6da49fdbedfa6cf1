use Rattle.std.specs.Prelude.{codes}
use Rattle.json_terms.specs.Json.{string}
use Rattle.json_terms.specs.Text.{text_of}
use Rattle.view_model.specs.Written.{written_of}
use Rattle.view_model.proofs.Pieces.{appended5}
use Rattle.view_engine.proofs.answer.write_accepted.Goals as goal

pub returns-clause-ok : goal.returns-clause-ok
returns-clause-ok c =
    appended5 (written_of c.args.reply.now) (codes "{\"ok\":true,\"id\":") (text_of (string c.args.id.now)) (codes ",\"rev\":\"") c.args.rev.now (codes "\"}")
    c.in_ok-put.ensures.ok c.in_ok-put_string.ensures.ok c.in_ok-put-2.ensures.ok
    (rw c.as_bytes.ensures.value at c.in_ok-put-3.ensures.ok) c.in_ok-put-4.ensures.ok
