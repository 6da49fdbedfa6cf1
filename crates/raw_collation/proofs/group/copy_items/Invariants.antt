use Rattle.std.proofs.Common.{◌≡◌, map, take}
use Rattle.json_terms.specs.Seen.{json}
use Rattle.raw_collation.proofs.group.copy_items.Given as goal

abbrev pub invariant-loop-term : goal.invariant-loop-term
invariant-loop-term l = l.copies ≡ map json (take l.term-index l.terms)
