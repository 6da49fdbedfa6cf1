-- Lists of another length than one or two.
use Rattle.std.proofs.Common.{◌≡◌, ◌≢◌, ℕ, List, [], ◌∷◌, Bool, false, IsTrue, None, Some, map, length, refl, sym, ap}
use Rattle.json_terms.specs.declared.term.Term.{Term}
use Rattle.json_terms.specs.Json.{Json, object, array, items_of, members_of}
use Rattle.json_terms.proofs.Sames.{list_of_items-items_of, list_of_members-members_of}
use Rattle.json_terms.specs.Kinds.{one_in, two_in}
use Rattle.json_terms.specs.Seen.{json}
use Rattle.view_ports.specs.Commands.{values_in, unless_deep, document_in}

pub one_in-other : (ts : List Term) → length ts ≢ 1 → None ≡ one_in (items_of (map json ts))
one_in-other [] other = refl
one_in-other (a ∷ []) other = absurd (other refl)
one_in-other (a ∷ b ∷ ts) other = refl

pub two_in-other : (ts : List Term) → length ts ≢ 2 → None ≡ two_in (items_of (map json ts))
two_in-other [] other = refl
two_in-other (a ∷ []) other = refl
two_in-other (a ∷ b ∷ []) other = absurd (other refl)
two_in-other (a ∷ b ∷ c ∷ ts) other = refl

-- an array that isn't empty
pub values_in-some : (vs : List Json) (empty : Bool) → (vs ≡ [] → IsTrue empty) → empty ≡ false → Some vs ≡ values_in (array (items_of vs))
values_in-some [] empty tells e = let t : IsTrue empty = tells refl in cc
values_in-some (v ∷ vs) empty tells e = ap (λ us. Some (v ∷ us)) (sym (list_of_items-items_of vs))

-- a document that isn't too deep
pub document_in-some : (t : Json) (document : List (List ℕ × Json)) → unless_deep t ≡ Some (object (members_of document)) → Some document ≡ document_in t
document_in-some t document shallow = rw shallow (ap Some (sym (list_of_members-members_of document)))
