use Rattle.std.proofs.Common.{◌≡◌, map, drop}
use Rattle.json_terms.specs.Json.{members_of}
use Rattle.json_terms.specs.Find.{find, member_of}
use Rattle.json_terms.specs.Seen.{json, pair_of}
use Rattle.json_terms.proofs.look.member.Given as goal

-- the search goes on in what is left
abbrev pub invariant-loop-member : goal.invariant-loop-member
invariant-loop-member l = member_of l.name (json l.term) ≡ find l.name (members_of (map pair_of (drop l.member-index l.member-items)))
