use Rattle.std.proofs.Common.{◌≡◌, ◌-◌, ◌^◌, min, map, take, sum_by}
use Rattle.json_terms.specs.Seen.{json}
use Rattle.map_lang.specs.Reduce.{counted}
use Rattle.map_lang.proofs.reduce.counted_together.Given as goal

abbrev pub invariant-loop-value : goal.invariant-loop-value
invariant-loop-value l = l.total ≡ min (sum_by counted (map json (take l.value-index l.values))) (2 ^ 63 - 1)
