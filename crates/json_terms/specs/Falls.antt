-- Each part of a term nests less deep than the whole.
use Rattle.std.specs.Prelude.{◌≤◌, suc, List, [], ◌∷◌, map}
use Rattle.std.proofs.Common.{arith}
use denote.Param.Weighed.{most}
use Rattle.json_terms.specs.declared.term.Term.{Term}
use Rattle.json_terms.specs.declared.term.Term.TheVariants.{Int, False, Null, True, Object, Array, Text}
use Rattle.json_terms.specs.declared.term.Member.{Member}
use Rattle.json_terms.specs.declared.term.Members.TheDeep.{deep-Term, deep-Member}
use Rattle.json_terms.specs.Json.{depth, items_of, items_depth, members_of, members_depth}
use Rattle.json_terms.specs.Seen.{json, pair_of}

deep-Term_le-depth : (t : Term) → deep-Term t ≤ suc (depth (json t))
deep-Term_le-depth (Int n) = omega arith
deep-Term_le-depth False = omega arith
deep-Term_le-depth Null = omega arith
deep-Term_le-depth True = omega arith
deep-Term_le-depth (Object ms) = omega arith
deep-Term_le-depth (Array ts) = omega arith
deep-Term_le-depth (Text s) = omega arith

deep-Member_le-depth : (m : Member) → deep-Member m ≤ suc (depth (json m.value))
deep-Member_le-depth m = omega (arith, deep-Term_le-depth m.value)

-- no element is deeper than the list says
pub most_le-items_depth : (ts : List Term) → most deep-Term ts ≤ suc (items_depth (items_of (map json ts)))
most_le-items_depth [] = omega arith
most_le-items_depth (t ∷ ts) = omega (arith, deep-Term_le-depth t, most_le-items_depth ts)

-- nor is any member
pub most_le-members_depth : (ms : List Member) → most deep-Member ms ≤ suc (members_depth (members_of (map pair_of ms)))
most_le-members_depth [] = omega arith
most_le-members_depth (m ∷ ms) = omega (arith, deep-Member_le-depth m, most_le-members_depth ms)
