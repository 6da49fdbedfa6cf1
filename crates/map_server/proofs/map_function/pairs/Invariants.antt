-- the pairs so far
use Rattle.std.proofs.Common.{◌≡◌, map}
use Rattle.json_terms.specs.Emitted.{key_value}
use Rattle.view_ports.specs.Functions.{pair_term}
use Rattle.map_server.proofs.map_function.pairs.Given as goal

abbrev pub invariant-loop-emission : goal.invariant-loop-emission
invariant-loop-emission l = l.rows ≡ map (λ emission. pair_term (key_value emission)) l.yielded
