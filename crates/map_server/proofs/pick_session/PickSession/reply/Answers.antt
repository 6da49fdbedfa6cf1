use Rattle.std.proofs.Common.{◌≡◌, ◌∙◌, ℕ, List, subst, sym}
use Rattle.std.proofs.lemmas.Result.{IfOk-weaker}
use Rattle.view_ports.specs.declared.command.Command.{Command}
use Rattle.view_ports.specs.declared.command.Command.TheVariants.{AddFun, Reduce, Rereduce}
use Rattle.view_ports.specs.Commands.{command}
use Rattle.view_ports.specs.Honest.{IsTextOf}
use Rattle.map_server.specs.declared.change.Reply.{Reply}
use Rattle.map_server.specs.Replies.{IsReducible, answer_of}
use Rattle.map_server.proofs.Reducible.{reducible}
use Rattle.map_server.proofs.pick_session.PickSession.reply.Goals as goal

pub reduce-requires : goal.reduce-requires
reduce-requires c = subst IsReducible (sym c.in_ok-read_command.ensures.command ∙ c.in-Reduce.is) (reducible c.args.line.now)

pub rereduce-requires : goal.rereduce-requires
rereduce-requires c = subst IsReducible (sym c.in_ok-read_command.ensures.command ∙ c.in-Rereduce.is) (reducible c.args.line.now)

pub returns-in-AddFun-clause-text : goal.returns-in-AddFun-clause-text
returns-in-AddFun-clause-text c =
    let same : AddFun c.in-AddFun.source ≡ command c.args.line.now = sym c.in-AddFun.is ∙ c.in_ok-read_command.ensures.command in
    IfOk-weaker _ _ _ (λ (reply : Reply) (is : (sources : List (List ℕ)) → IsTextOf (answer_of sources (AddFun c.in-AddFun.source)) reply.text.items). subst (λ (x : Command). IsTextOf (answer_of c.args.self.now x) reply.text.items) same (is c.args.self.now)) c.add.ensures.text

pub returns-in_ok-reduce-in-Reduce-clause-text : goal.returns-in_ok-reduce-in-Reduce-clause-text
returns-in_ok-reduce-in-Reduce-clause-text c =
    let same : Reduce c.in-Reduce.source c.in-Reduce.rows ≡ command c.args.line.now = sym c.in-Reduce.is ∙ c.in_ok-read_command.ensures.command in
    rw (c.kept-in-Reduce.ensures.text) (subst (λ (x : Command). IsTextOf (answer_of c.args.self.now x) c.in_ok-reduce-in-Reduce.field-0.items) same (c.in_ok-reduce-in-Reduce.ensures c.args.self.now))

pub returns-in_ok-rereduce-in-Rereduce-clause-text : goal.returns-in_ok-rereduce-in-Rereduce-clause-text
returns-in_ok-rereduce-in-Rereduce-clause-text c =
    let same : Rereduce c.in-Rereduce.source c.in-Rereduce.values ≡ command c.args.line.now = sym c.in-Rereduce.is ∙ c.in_ok-read_command.ensures.command in
    rw (c.kept-in-Rereduce.ensures.text) (subst (λ (x : Command). IsTextOf (answer_of c.args.self.now x) c.in_ok-rereduce-in-Rereduce.field-0.items) same (c.in_ok-rereduce-in-Rereduce.ensures c.args.self.now))
