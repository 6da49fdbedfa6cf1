use Rattle.std.proofs.Common.{subst}
use Rattle.child_pool.specs.declared.heard.Heard.{Heard}
use Rattle.child_pool.specs.Hearing.{IsKept}
use Rattle.child_pool.proofs.Replies.{heard_kept}
use Rattle.child_pool.proofs.prompt.heard_line.Goals as goal

pub returns-in-Ok : goal.returns-in-Ok
returns-in-Ok c =
    heard_kept c.args.kind c.args.logs c.args.line.now c.in-Ok.reply c.unless_too_many.result c.in-Ok.ensures.ok (subst (λ (h : Heard). IsKept c.args.logs h c.args.line.now c.unless_too_many.result) c.of.ensures c.unless_too_many.ensures)
