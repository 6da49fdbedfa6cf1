-- A reply has few rows, whatever the line is.
use Rattle.std.specs.Prelude.{IfOk}
use Rattle.std.proofs.Common.{◌≡◌, Some, rules}
use Rattle.std.proofs.lemmas.Result.{IfOk-weaker}
use Rattle.query_protocol.specs.Replies.{HasFewRows, reply_of}
use Rattle.query_protocol.proofs.RowCounts.{few_rows}
use Rattle.query_protocol.proofs.reply.read_reply.Goals as goal

pub returns-in-Ok-clause-few : goal.returns-in-Ok-clause-few
returns-in-Ok-clause-few c =
    let ok : IfOk c.or_bad.result (λ said. reply_of c.args.kind c.args.line.now ≡ Some said) = search rules in
    IfOk-weaker c.or_bad.result (λ said. reply_of c.args.kind c.args.line.now ≡ Some said) HasFewRows (λ said is. few_rows c.args.kind c.args.line.now said is) ok
