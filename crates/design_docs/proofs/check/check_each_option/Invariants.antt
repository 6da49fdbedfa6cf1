use Rattle.std.proofs.Common.{◌≡◌, map, drop}
use Rattle.json_terms.specs.Json.{members_of}
use Rattle.json_terms.specs.Seen.{pair_of}
use Rattle.design_docs.specs.Faults.{option_fault}
use Rattle.design_docs.proofs.check.check_each_option.Given as goal

-- what is left decides
abbrev pub invariant-loop-option : goal.invariant-loop-option
invariant-loop-option l = option_fault (members_of (map pair_of l.options)) ≡ option_fault (members_of (map pair_of (drop l.option-index l.options)))
