use Rattle.std.proofs.Common.{◌≡◌, ◌++◌, map, drop}
use Rattle.json_terms.specs.Json.{members_of}
use Rattle.json_terms.specs.Seen.{pair_of}
use Rattle.design_docs.specs.Design.{views_in}
use Rattle.design_docs.proofs.read.read_each.Given as goal

-- the views so far and those that are left are the whole
abbrev pub invariant-loop-member : goal.invariant-loop-member
invariant-loop-member l = l.views.items ++ views_in (members_of (map pair_of (drop l.member-index l.members))) ≡ views_in (members_of (map pair_of l.members))
