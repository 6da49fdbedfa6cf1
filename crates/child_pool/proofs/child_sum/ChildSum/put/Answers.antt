-- A term within the bounds has a spelling.
use Rattle.json_terms.specs.Seen.{json}
use Rattle.builtin_reduces.specs.Sizes.{part_within}
use Rattle.child_pool.proofs.child_sum.ChildSum.put.Goals as goal

pub encode_term-requires : goal.encode_term-requires
encode_term-requires c = part_within (json c.self.inside.term) c.self.invariant
