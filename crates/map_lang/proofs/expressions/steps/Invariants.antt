use Rattle.std.proofs.Common.{length}
use Rattle.map_lang.proofs.Continued.{StepsSoFar}
use Rattle.map_lang.proofs.expressions.steps.Given as goal

abbrev pub invariant-steps : goal.invariant-steps
invariant-steps l = StepsSoFar l.fn.tokens.items l.steps.items l.tokens.items

abbrev pub decreases-steps : goal.decreases-steps
decreases-steps l = length l.tokens.items
