use Rattle.std.proofs.Common.{◌≡◌, map, drop}
use Rattle.json_terms.specs.Place.{place_of, place_after}
use Rattle.json_terms.specs.Json.{members_of}
use Rattle.json_terms.specs.Seen.{pair_of}
use Rattle.json_terms.proofs.term.place.Given as goal

-- the place is looked for in what is left
abbrev pub invariant-loop-index : goal.invariant-loop-index
invariant-loop-index l = place_of l.name (members_of (map pair_of l.entries)) ≡ place_after l.index l.name (members_of (map pair_of (drop l.index l.entries)))
