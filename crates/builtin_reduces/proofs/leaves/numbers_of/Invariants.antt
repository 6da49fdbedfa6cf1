use Rattle.std.proofs.Common.{◌≡◌, ◌++◌, map, drop, option_map}
use Rattle.json_terms.specs.Seen.{json}
use Rattle.builtin_reduces.specs.Values.{each, number_in}
use Rattle.builtin_reduces.proofs.leaves.numbers_of.Given as goal

-- with what is left, these are all numbers
abbrev pub invariant-loop-term : goal.invariant-loop-term
invariant-loop-term l = each number_in (map json l.terms) ≡ option_map (λ ns. l.numbers.items ++ ns) (each number_in (map json (drop l.term-index l.terms)))
