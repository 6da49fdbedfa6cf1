use Rattle.std.proofs.Common.{◌≡◌, map, take}
use Rattle.json_terms.specs.Seen.{json}
use Rattle.query_args.proofs.read.copy_keys.Given as goal

-- the keys so far are copied
abbrev pub invariant-loop-key : goal.invariant-loop-key
invariant-loop-key l = l.copies ≡ map json (take l.key-index l.keys)
