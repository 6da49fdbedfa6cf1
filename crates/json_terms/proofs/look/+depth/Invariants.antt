use Rattle.std.proofs.Common.{◌≤◌, ◌↔◌, ◌+◌, ◌*◌, map, drop}
use Rattle.json_terms.specs.Json.{items_of, items_depth, members_of, members_depth}
use Rattle.json_terms.specs.Seen.{json, pair_of}
use Rattle.json_terms.proofs.look.+depth.Given as goal

abbrev pub decreases-depth_within : goal.decreases-depth_within
decreases-depth_within l = 2 * l.limit

abbrev pub decreases-terms_within : goal.decreases-terms_within
decreases-terms_within l = 2 * l.limit + 1

abbrev pub decreases-members_within : goal.decreases-members_within
decreases-members_within l = 2 * l.limit + 1

abbrev pub invariant-members_within-loop-member : goal.invariant-members_within-loop-member
invariant-members_within-loop-member l =
    (members_depth (members_of (map pair_of l.members)) ≤ l.limit) ↔ (members_depth (members_of (map pair_of (drop l.member-index l.members))) ≤ l.limit)

abbrev pub invariant-terms_within-loop-term : goal.invariant-terms_within-loop-term
invariant-terms_within-loop-term l =
    (items_depth (items_of (map json l.terms)) ≤ l.limit) ↔ (items_depth (items_of (map json (drop l.term-index l.terms))) ≤ l.limit)
