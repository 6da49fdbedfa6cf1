use Rattle.std.proofs.Common.{◌≡◌, map, drop}
use Rattle.json_terms.specs.Json.{members_of}
use Rattle.json_terms.specs.Seen.{pair_of}
use Rattle.doc_file.specs.Incoming.{first_bad}
use Rattle.doc_file.proofs.incoming.first_bad.Given as goal

-- what is left decides
abbrev pub invariant-loop-member : goal.invariant-loop-member
invariant-loop-member l = first_bad (members_of (map pair_of l.members)) ≡ first_bad (members_of (map pair_of (drop l.member-index l.members)))
