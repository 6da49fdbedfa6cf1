-- What is refused for its document, or for the state of its id, is no fault of the file.
use Rattle.std.proofs.Common.{◌≡◌, List, ℕ, Bool, true, false, Option, Some, None, inl, inr}
use Rattle.std.specs.Prelude.{bytes_eq, if◌then◌else◌}
use Rattle.json_terms.specs.Json.{Json}
use Rattle.gate_file.specs.declared.fault.GateFault.{GateFault}
use Rattle.doc_file.specs.declared.fault.DocFault.TheVariants as doc
use Rattle.doc_file.specs.Accepted.{State, known, unseen, delete_refusal, put_conflicts, unless_present}
use Rattle.doc_file.specs.Writes.{IsRefusedDelete, IsRefusedPut, write_refusal}

unless_present_not : (present : Bool) (fault : GateFault) → unless_present present ≡ Some (doc.Gate fault) → ⊥
unless_present_not true fault is = cc
unless_present_not false fault is = cc

delete_refusal_not : (state : State) (given : Option (List ℕ)) (fault : GateFault) → delete_refusal state given ≡ Some (doc.Gate fault) → ⊥
delete_refusal_not unseen given fault is = cc
delete_refusal_not (known rev true) given fault is = cc
delete_refusal_not (known rev false) None fault is = cc
delete_refusal_not (known rev false) (Some given) fault is = unless_present_not (bytes_eq given rev) fault is

conflict_not : (conflicts : Bool) (fault : GateFault) → (if conflicts then Some doc.Conflict else None) ≡ Some (doc.Gate fault) → ⊥
conflict_not true fault is = cc
conflict_not false fault is = cc

write_refusal_not : (state : State) (deletes : Bool) (given : Option (List ℕ)) (fault : GateFault) → write_refusal state deletes given ≡ Some (doc.Gate fault) → ⊥
write_refusal_not state true given fault is = delete_refusal_not state given fault is
write_refusal_not state false given fault is = conflict_not (put_conflicts state given) fault is

pub put_not_of_file : (state : State) (document : Json) (fault : GateFault) → IsRefusedPut state document (doc.Gate fault) → ⊥
put_not_of_file state document fault (inl unfit) = unfit
put_not_of_file state document fault (inr refused) = write_refusal_not state _ _ fault refused.1

pub delete_not_of_file : (state : State) (given : Option (List ℕ)) (fault : GateFault) → IsRefusedDelete state given (doc.Gate fault) → ⊥
delete_not_of_file state given fault (inl unformed) = let clash : doc.Gate fault ≡ doc.BadRev = unformed.0 in cc
delete_not_of_file state given fault (inr refused) = delete_refusal_not state given fault refused.1
