-- Keys, values and results within the bounds.
use Rattle.std.proofs.Common.{◌≡◌, true, length, nat_le, refl}
use Rattle.std.proofs.lemmas.Bool.{and_parts, le-leb, leb-true}
use Rattle.json_terms.specs.Json.{Json, depth}
use Rattle.json_terms.specs.Text.{text_of}
use Rattle.view_ports.specs.Functions.{IsWithinBounds, part_limit, part_depth}
use Rattle.query_protocol.specs.Replies.{is_within_bounds}
use Rattle.child_pool.specs.Mapping.{IsPart}

-- a term within the bounds
pub part_within : (t : Json) → is_within_bounds t ≡ true → IsPart t
part_within t is =
    let both = and_parts (nat_le (length (text_of t)) part_limit) (nat_le (depth t) part_depth) is in
    record { size = leb-true (length (text_of t)) part_limit both.0; nested = leb-true (depth t) part_depth both.1 }

-- and one that is within them
pub within : (t : Json) → IsWithinBounds t → is_within_bounds t ≡ true
within t w = rw (le-leb (length (text_of t)) part_limit w.size, le-leb (depth t) part_depth w.nested) refl
