use Rattle.std.proofs.Common.{◌≡◌, ◌+◌, ◌*◌, ◌++◌, map, drop}
use Rattle.json_terms.specs.Json.{depth, items_of, items_depth, members_of, members_depth}
use Rattle.json_terms.specs.Seen.{json, pair_of}
use Rattle.json_terms.specs.Tokens.{items_tokens_of, members_tokens_of}
use Rattle.json_terms.proofs.write.+put.Given as goal

abbrev pub decreases-put_term : goal.decreases-put_term
decreases-put_term l = 2 * depth (json l.term.now)

abbrev pub decreases-put_terms : goal.decreases-put_terms
decreases-put_terms l = 2 * items_depth (items_of (map json l.terms.now)) + 1

abbrev pub decreases-put_members : goal.decreases-put_members
decreases-put_members l = 2 * members_depth (members_of (map pair_of l.members.now)) + 1

-- what is written and what is left to write are the whole
abbrev pub invariant-put_terms-loop-term : goal.invariant-put_terms-loop-term
invariant-put_terms-loop-term l =
    (l.writer.tokens ++ items_tokens_of (items_of (map json (drop l.term-index l.terms))) ≡ l.fn.writer.tokens ++ items_tokens_of (items_of (map json l.terms)))
    × (l.writer.before ≡ l.fn.writer.before)

abbrev pub invariant-put_members-loop-member : goal.invariant-put_members-loop-member
invariant-put_members-loop-member l =
    (l.writer.tokens ++ members_tokens_of (members_of (map pair_of (drop l.member-index l.members))) ≡ l.fn.writer.tokens ++ members_tokens_of (members_of (map pair_of l.members)))
    × (l.writer.before ≡ l.fn.writer.before)
