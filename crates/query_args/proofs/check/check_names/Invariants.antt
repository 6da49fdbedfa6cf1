use Rattle.std.proofs.Common.{◌≡◌, map, drop}
use Rattle.json_terms.specs.Json.{members_of}
use Rattle.json_terms.specs.Seen.{pair_of}
use Rattle.query_args.specs.Faults.{name_fault}
use Rattle.query_args.proofs.check.check_names.Given as goal

-- what is left decides
abbrev pub invariant-loop-parameter : goal.invariant-loop-parameter
invariant-loop-parameter l = name_fault l.target (members_of (map pair_of l.parameters)) ≡ name_fault l.target (members_of (map pair_of (drop l.parameter-index l.parameters)))
