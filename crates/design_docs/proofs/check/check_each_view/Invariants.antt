use Rattle.std.proofs.Common.{◌≡◌, map, drop}
use Rattle.json_terms.specs.Json.{members_of}
use Rattle.json_terms.specs.Seen.{pair_of}
use Rattle.design_docs.specs.Faults.{fault_from}
use Rattle.design_docs.proofs.check.check_each_view.Given as goal

-- what is left, from this place on, decides
abbrev pub invariant-loop-place : goal.invariant-loop-place
invariant-loop-place l = fault_from 0 (members_of (map pair_of l.views)) ≡ fault_from l.place (members_of (map pair_of (drop l.place l.views)))
