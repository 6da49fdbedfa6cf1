use Rattle.std.proofs.Common.{◌≡◌, ◌+◌, ◌-◌, ◌*◌, []}
use Rattle.term_codec.specs.Reading.{reading, items_from, members_from}
use Rattle.term_codec.proofs.decode.+read.Given as goal

abbrev pub decreases-read_value : goal.decreases-read_value
decreases-read_value l = 4 * l.limit

abbrev pub decreases-read_array : goal.decreases-read_array
decreases-read_array l = 4 * l.limit + 3

abbrev pub decreases-read_terms : goal.decreases-read_terms
decreases-read_terms l = 4 * l.limit + 2

abbrev pub decreases-read_object : goal.decreases-read_object
decreases-read_object l = 4 * l.limit + 3

abbrev pub decreases-read_members : goal.decreases-read_members
decreases-read_members l = 4 * l.limit + 2

abbrev pub decreases-read_member : goal.decreases-read_member
decreases-read_member l = 4 * l.limit + 1

-- what is read and what is left to read give the whole
abbrev pub invariant-read_terms-loop-index : goal.invariant-read_terms-loop-index
invariant-read_terms-loop-index l = items_from (reading l.limit) [] l.count l.bytes ≡ items_from (reading l.limit) l.terms (l.count - l._index) l.rest

abbrev pub invariant-read_members-loop-index : goal.invariant-read_members-loop-index
invariant-read_members-loop-index l = members_from (reading l.limit) [] l.count l.bytes ≡ members_from (reading l.limit) l.members (l.count - l._index) l.rest
