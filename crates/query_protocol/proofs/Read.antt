-- Terms that are no complaint, and results.
use Rattle.std.proofs.Common.{◌≡◌, ◌≢◌, List, [], ◌∷◌, false, Some, map, length, refl, sym, ap}
use Rattle.json_terms.specs.declared.term.Term.{Term}
use Rattle.json_terms.specs.Json.{Json, items_of}
use Rattle.json_terms.proofs.Sames.{term-json}
use Rattle.query_protocol.specs.declared.reply.Kind.{Kind}
use Rattle.query_protocol.specs.declared.reply.Kind.TheVariants.{Value}
use Rattle.query_protocol.specs.declared.reply.Reply.TheVariants as reply
use Rattle.query_protocol.specs.Replies.{answer_in, result_in}
use Rattle.json_terms.specs.Seen.{json}
use Rattle.view_ports.specs.Honest.{is_complaint_in}

pub is_complaint_in-other : (ts : List Term) → length ts ≢ 3 → false ≡ is_complaint_in (items_of (map json ts))
is_complaint_in-other [] other = refl
is_complaint_in-other (a ∷ []) other = refl
is_complaint_in-other (a ∷ b ∷ []) other = refl
is_complaint_in-other (a ∷ b ∷ c ∷ []) other = absurd (other refl)
is_complaint_in-other (a ∷ b ∷ c ∷ d ∷ ts) other = refl

-- the result of a reduction
pub value_answer : (asked : Kind) (t : Json) (r : Term) → asked ≡ Value → result_in t ≡ Some (json r) → Some (reply.Value r) ≡ answer_in asked t
value_answer asked t r is found = rw (is, found) (ap (λ (u : Term). Some (reply.Value u)) (sym (term-json r)))
