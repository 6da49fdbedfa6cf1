-- The best of the holders that were passed.
use Rattle.std.proofs.Common.{◌≡◌, ◌<◌, map, take, get_or}
use Rattle.map_lang.specs.Reduce.{greatest}
use Rattle.map_lang.proofs.reduce.greatest_of.Given as goal

abbrev pub invariant-loop-place : goal.invariant-loop-place
invariant-loop-place g l = (l.best < l.place) × ((holder : _) → g.V.Valued.value_of (get_or l.holders l.best holder) ≡ greatest (map g.V.Valued.value_of (take l.place l.holders)))
