-- The spelling of a term within the bounds: no two terms have the same, and it is short.
use Rattle.std.proofs.Common.{◌≤◌, [], length, sym, ◌∙◌, arith}
use Rattle.std.proofs.lemmas.List.{append-nil}
use Rattle.json_terms.specs.Json.{Json}
use Rattle.term_codec.specs.Spelling.{spelling}
use Rattle.term_codec.proofs.Spelled.{spelling-prefix_free}
use Rattle.tree_laws.specs.Meaning.{sum_limit}
use Rattle.tree_laws.specs.Spelled.{IsSpelledOnce}
use Rattle.view_ports.specs.Functions.{IsWithinBounds}
use Rattle.builtin_reduces.specs.Sizes.{part_within}
use Rattle.builtin_reduces.specs.SpellingSizes.{spelling_le}

pub child_sums_spelled_once : IsSpelledOnce IsWithinBounds spelling
child_sums_spelled_once t u within_t within_u same =
    (spelling-prefix_free t u [] [] within_t.valid (part_within t within_t) within_u.valid (part_within u within_u) (append-nil (spelling t) ∙ same ∙ sym (append-nil (spelling u)))).0

pub child_sums_are_short : (t : Json) → IsWithinBounds t → length (spelling t) ≤ sum_limit
child_sums_are_short t within = omega (arith, within.size, spelling_le t)
