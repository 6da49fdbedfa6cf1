-- The walk goes on from where it stands.
use Rattle.std.proofs.Common.{◌≡◌, Some, drop, option_map}
use Rattle.json_terms.specs.Seen.{json}
use Rattle.map_lang.specs.Meaning.{walked}
use Rattle.map_lang.proofs.value.walk.Given as goal

abbrev pub invariant-loop-step : goal.invariant-loop-step
invariant-loop-step l = walked l.steps (option_map (λ t. json t.now) l.fn.from) ≡ walked (drop l.step-index l.steps) (Some (json l.term))
