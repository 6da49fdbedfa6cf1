use Rattle.std.proofs.Common.{◌≡◌, ◌+◌, ◌*◌, length}
use Rattle.map_lang.proofs.Continued.{StmtsSoFar}
use Rattle.map_lang.proofs.statements.+nest.Given as goal

abbrev pub decreases-block : goal.decreases-block
decreases-block l = 5 * l.room + 3

abbrev pub decreases-statement : goal.decreases-statement
decreases-statement l = 5 * l.room + 2

abbrev pub decreases-condition : goal.decreases-condition
decreases-condition l = 5 * l.room + 1

abbrev pub decreases-repetition : goal.decreases-repetition
decreases-repetition l = 5 * l.room + 1

abbrev pub decreases-braced : goal.decreases-braced
decreases-braced l = 5 * l.room + 4

abbrev pub invariant-block-statements : goal.invariant-block-statements
invariant-block-statements l = StmtsSoFar l.fn.bound.items l.room l.fn.tokens.items l.statements l.tokens.items × (l.bound.items ≡ l.fn.bound.items)

abbrev pub decreases-block-statements : goal.decreases-block-statements
decreases-block-statements l = length l.tokens.items
