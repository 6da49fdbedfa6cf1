use Rattle.std.proofs.Common.{◌≡◌, codes, map}
use Rattle.json_terms.specs.Json.{members_of}
use Rattle.json_terms.specs.Seen.{pair_of}
use Rattle.view_ports.specs.Stored.{without}
use Rattle.doc_file.proofs.incoming.kept.Given as goal

-- what is left of the members so far
abbrev pub invariant-loop-member : goal.invariant-loop-member
invariant-loop-member l =
    (goal.iterator-loop-member).can_next l.member-iterator ×
    (goal.iterator-loop-member).is_finite l.member-iterator ×
    (members_of l.left ≡ without (codes "_deleted") (without (codes "_rev") (members_of (map pair_of l.yielded))))
