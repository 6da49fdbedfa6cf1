-- The rests compare as the lists do.
use Rattle.std.proofs.Common.{◌≡◌, map, drop, length, ◌+◌, ◌*◌}
use Rattle.json_terms.specs.Json.{depth, items_of, items_depth, members_of, members_depth}
use Rattle.json_terms.specs.Seen.{json, pair_of}
use Rattle.raw_collation.specs.Collation.{items_cmp, members_cmp}
use Rattle.raw_collation.proofs.compare.+compare.Given as goal

abbrev pub decreases-raw_cmp : goal.decreases-raw_cmp
decreases-raw_cmp l = 2 * depth (json l.a.now)

abbrev pub decreases-compare_items : goal.decreases-compare_items
decreases-compare_items l = 2 * items_depth (items_of (map json l.xs.now)) + 1

abbrev pub decreases-compare_members : goal.decreases-compare_members
decreases-compare_members l = 2 * members_depth (members_of (map pair_of l.ms.now)) + 1

abbrev pub invariant-compare_items-loop-x : goal.invariant-compare_items-loop-x
invariant-compare_items-loop-x l =
    let done = length l.yielded in
    items_cmp (items_of (map json l.xs)) (items_of (map json l.ys))
    ≡ items_cmp (items_of (map json (drop done l.xs))) (items_of (map json (drop done l.ys)))

abbrev pub invariant-compare_members-loop-m : goal.invariant-compare_members-loop-m
invariant-compare_members-loop-m l =
    let done = length l.yielded in
    members_cmp (members_of (map pair_of l.ms)) (members_of (map pair_of l.ns))
    ≡ members_cmp (members_of (map pair_of (drop done l.ms))) (members_of (map pair_of (drop done l.ns)))
