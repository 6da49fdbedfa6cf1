-- The best of the holders that were passed.
use Rattle.std.proofs.Common.{◌≡◌, ◌<◌, map, take, get_or}
use Rattle.map_lang.specs.Reduce.{least}
use Rattle.map_lang.proofs.reduce.least_of.Given as goal

abbrev pub invariant-loop-place : goal.invariant-loop-place
invariant-loop-place g l = (l.best < l.place) × ((holder : _) → g.V.Valued.value_of (get_or l.holders l.best holder) ≡ least (map g.V.Valued.value_of (take l.place l.holders)))
