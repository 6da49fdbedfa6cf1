-- A reply as a log line or an answer.
use Rattle.query_protocol.specs.declared.reply.Reply.{Reply}
use Rattle.query_protocol.specs.declared.reply.Reply.TheVariants as reply
use Rattle.child_pool.specs.declared.heard.Heard.{Heard}
use Rattle.child_pool.specs.declared.heard.Heard.TheVariants.{Log, Answer}

abbrev pub answer_of : Reply → Heard
answer_of reply.Log = Log
answer_of reply.Yes = Answer reply.Yes
answer_of (reply.Rows rows) = Answer (reply.Rows rows)
answer_of (reply.Value value) = Answer (reply.Value value)
answer_of reply.Compile = Answer reply.Compile
