use Rattle.std.proofs.Common.{◌≡◌, ◌+◌, ◌*◌, map, take}
use Rattle.json_terms.specs.Json.{depth, items_of, items_depth, members_of, members_depth}
use Rattle.json_terms.specs.Seen.{json, pair_of}
use Rattle.json_terms.proofs.copy.+copy.Given as goal

abbrev pub decreases-copy_term : goal.decreases-copy_term
decreases-copy_term l = 2 * depth (json l.term.now)

abbrev pub decreases-copy_terms : goal.decreases-copy_terms
decreases-copy_terms l = 2 * items_depth (items_of (map json l.terms.now)) + 1

abbrev pub decreases-copy_members : goal.decreases-copy_members
decreases-copy_members l = 2 * members_depth (members_of l.members.now) + 1

abbrev pub invariant-copy_terms-loop-term : goal.invariant-copy_terms-loop-term
invariant-copy_terms-loop-term l = l.copies ≡ map json (take l.term-index l.terms)

abbrev pub invariant-copy_members-loop-member : goal.invariant-copy_members-loop-member
invariant-copy_members-loop-member l = l.copies ≡ map pair_of (take l.member-index l.entries)
