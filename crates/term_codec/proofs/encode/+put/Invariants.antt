use Rattle.std.proofs.Common.{◌≡◌, ◌+◌, ◌*◌, ◌++◌, map, drop}
use Rattle.json_terms.specs.Json.{depth, items_of, items_depth, members_of, members_depth}
use Rattle.json_terms.specs.Seen.{json, pair_of}
use Rattle.term_codec.specs.Spelling.{items_spelling, members_spelling}
use Rattle.term_codec.proofs.encode.+put.Given as goal

abbrev pub decreases-put_term : goal.decreases-put_term
decreases-put_term l = 2 * depth (json l.term.now)

abbrev pub decreases-put_terms : goal.decreases-put_terms
decreases-put_terms l = 2 * items_depth (items_of (map json l.terms.now)) + 1

abbrev pub decreases-put_members : goal.decreases-put_members
decreases-put_members l = 2 * members_depth (members_of (map pair_of l.members.now)) + 1

-- what is written and what is left to write are the whole
abbrev pub invariant-put_terms-loop-term : goal.invariant-put_terms-loop-term
invariant-put_terms-loop-term l = l.out.items ++ items_spelling (items_of (map json (drop l.term-index l.terms))) ≡ l.fn.out.items ++ items_spelling (items_of (map json l.terms))

abbrev pub invariant-put_members-loop-member : goal.invariant-put_members-loop-member
invariant-put_members-loop-member l = l.out.items ++ members_spelling (members_of (map pair_of (drop l.member-index l.members))) ≡ l.fn.out.items ++ members_spelling (members_of (map pair_of l.members))
