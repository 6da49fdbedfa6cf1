-- the values so far
use Rattle.std.proofs.Common.{◌≡◌, map, take}
use Rattle.json_terms.specs.Seen.{json}
use Rattle.query_protocol.proofs.reduce_lines.values_term.Given as goal

abbrev pub invariant-loop-value : goal.invariant-loop-value
invariant-loop-value l = l.terms ≡ map json (take l.value-index l.values)
