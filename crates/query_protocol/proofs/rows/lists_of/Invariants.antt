-- the lists so far and those that are left are all lists
use Rattle.std.proofs.Common.{◌≡◌, ◌++◌, drop, map, option_map}
use Rattle.json_terms.specs.Json.{items_of}
use Rattle.json_terms.specs.Seen.{json}
use Rattle.query_protocol.specs.Replies.{lists_of_items}
use Rattle.query_protocol.proofs.rows.lists_of.Given as goal

abbrev pub invariant-loop-term : goal.invariant-loop-term
invariant-loop-term l =
    option_map (λ rest. l.lists ++ rest) (lists_of_items (items_of (map json (drop l.term-index l.terms)))) ≡ lists_of_items (items_of (map json l.terms))
