use Rattle.std.proofs.Common.{◌≡◌, None, sym, ◌∙◌}
use Rattle.json_terms.specs.Seen.{json}
use Rattle.map_lang.specs.Meaning.{stepped}
use Rattle.map_lang.proofs.Walking.{walked_none, walk_stops}
use Rattle.map_lang.proofs.value.walk.Goals as goal

pub returns-in_default : goal.returns-in_default
returns-in_default c = rw c.in_default.is (sym (walked_none c.args.steps.now))

pub returns-in_default-follow : goal.returns-in_default-follow
returns-in_default-follow c =
    let none : stepped c.step-item.result (json c.loop-step.term.now) ≡ None = sym c.in_default-follow.ensures in
    sym (c.loop-step.invariant ∙ walk_stops c.args.steps.now c.loop-step.step-index c.step-item.result (json c.loop-step.term.now) c.loop-step-test.true c.step-item.is none)
