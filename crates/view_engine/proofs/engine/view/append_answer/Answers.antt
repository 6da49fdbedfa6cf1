-- What the answer adds is the reply line, where it was written whole; what it asked for is what the view's reduce was asked for.
use Rattle.std.proofs.Common.{rules, refl, ◌++◌, ◌∙◌, ap, List, ℕ}
use Rattle.view_ports.specs.Lines.{ended}
use Rattle.view_model.specs.Written.{written_of}
use Rattle.view_engine.proofs.Appending.{shows_err, shows_ok, shows_spent, taken_back}
use Rattle.view_engine.proofs.engine.view.append_answer.Goals as goal

pub returns-in-Ok-end : goal.returns-in-Ok-end
returns-in-Ok-end g c =
    let plan = c.args.plan.now in
    let adds = c.in-Ok.ensures.ok in
    shows_ok g.C.Servers c.args.servers.now _ c.args.pool.now _ plan.design plan.place plan.query c.args.seq c.args.rows.now _ c.answer.new.summer c.over.ensures.idle c.over.ensures.lent c.over.ensures.served refl refl (search rules) (search rules) c.in-Ok.ensures.unasked
    c.in-Ok.ensures.idle c.in-Ok.ensures.goes c.requires.reduced adds.text adds.is adds.line c.args.out.now.items c.end.new.out.items
    (c.in-Ok-end.ensures.ok
    ∙ ap (λ (front : List ℕ). front ++ ended (written_of c.answer.new.reply)) (c.in-Ok.ensures.before ∙ c.behind-reply.ensures.before)
    ∙ ap (λ (text : List ℕ). c.args.out.now.items ++ ended text) (adds.adds ∙ ap (λ (front : List ℕ). front ++ adds.text) c.behind-reply.ensures.empty))

pub returns-in-Err-end : goal.returns-in-Err-end
returns-in-Err-end g c =
    let plan = c.args.plan.now in
    shows_spent g.C.Servers c.args.servers.now _ c.args.pool.now _ plan.design plan.place plan.query c.args.seq c.args.rows.now _ c.answer.new.summer c.over.ensures.idle c.over.ensures.lent c.over.ensures.served refl refl (search rules) (search rules) c.in-Ok.ensures.unasked
    c.in-Ok.ensures.idle c.in-Ok.ensures.goes c.args.out.now.items c.end.new.out.items (c.in-Err-end.ensures.err ∙ c.in-Ok.ensures.before ∙ c.behind-reply.ensures.before)

pub returns-in-Err : goal.returns-in-Err
returns-in-Err g c =
    let plan = c.args.plan.now in
    rw c.fault_in.ensures (shows_err g.C.Servers c.args.servers.now _ c.args.pool.now _ plan.design plan.place plan.query c.args.seq c.args.rows.now _ c.answer.new.summer c.over.ensures.idle c.over.ensures.lent c.over.ensures.served refl refl (search rules) (search rules) c.in-Err.ensures.unasked
    c.in-Err.ensures.idle c.in-Err.fault c.in-Err.ensures.cause c.args.out.now.items c.close-taken.new.out.items (taken_back _ c.close-taken.result _ c.close-taken.ensures.same c.close-taken.ensures.err ∙ c.in-Err.ensures.before ∙ c.behind-reply.ensures.before))
