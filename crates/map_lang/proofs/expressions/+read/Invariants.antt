use Rattle.std.proofs.Common.{◌+◌, ◌*◌, length}
use Rattle.map_lang.proofs.Continued.{PartsSoFar}
use Rattle.map_lang.proofs.expressions.+read.Given as goal

abbrev pub decreases-expression : goal.decreases-expression
decreases-expression l = 2 * l.room + 1

abbrev pub decreases-parts : goal.decreases-parts
decreases-parts l = 2 * l.room + 2

abbrev pub invariant-parts-parts : goal.invariant-parts-parts
invariant-parts-parts l = PartsSoFar l.bound l.room l.fn.tokens.items l.items l.tokens.items

abbrev pub decreases-parts-parts : goal.decreases-parts-parts
decreases-parts-parts l = length l.tokens.items
