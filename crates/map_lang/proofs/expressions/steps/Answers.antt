use Rattle.std.proofs.Common.{sym}
use Rattle.map_lang.proofs.Continued.{steps_refused, steps_next}
use Rattle.map_lang.proofs.expressions.steps.Goals as goal

pub returns-in_default-clause-refused : goal.returns-in_default-clause-refused
returns-in_default-clause-refused c = λ _. steps_refused c.args.tokens.now.items c.steps.tokens.items c.steps.steps.items c.steps.invariant (sym c.steps-test.ensures) c.in_default.ensures

pub steps-preserved : goal.steps-preserved
steps-preserved c =
    rw c.in_ok-push.ensures.items (steps_next c.args.tokens.now.items c.steps.tokens.items c.step.new.tokens.items c.steps.steps.items c.in-Some.step c.steps.invariant c.in-Some.ensures)
