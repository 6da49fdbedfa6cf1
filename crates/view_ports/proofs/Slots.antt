-- Slots of children in the process, one call more.
use Rattle.std.proofs.Common.{◌≡◌, ◌<◌, ℕ, List, ◌∷◌, true, false, Option, Some, None, length, get_or, set, nat_eq, sym, ◌∙◌, subst, inl, inr, eq-eqb, get_or-set_same, get_or-set_other}
use Rattle.std.proofs.lemmas.Bool.{cases_eq, ne_eqb}
use Rattle.view_ports.specs.declared.in_process.Child.{Child}
use Rattle.view_ports.specs.Calls.{Call, Session, slot_of, after, child, spoiled, send, receive}
use Rattle.view_ports.specs.InProcess.{IsChild, IsSlot, MayFollow}

module _ {S : Type 0} (sources : S → List (List ℕ)) where
  -- a slot is set, as the call on it says
  pub MayFollow-set : (children : List (Option (Child S))) (at : ℕ) (x : Option (Child S)) (call : Call) (calls : List Call) → slot_of call ≡ at → at < length children
      → MayFollow sources children calls → IsSlot sources x (after call (child at calls)) → MayFollow sources (set children at x) (call ∷ calls)
  MayFollow-set children at x call calls on within follows is = λ slot few. elim (cases_eq slot at) [
    | inl same ↦ subst (λ k. IsSlot sources (get_or (set children at x) k None) (child k (call ∷ calls))) (sym same)
        (let there : get_or (set children at x) at None ≡ x = get_or-set_same children at x None within in
        let mine : nat_eq (slot_of call) at ≡ true = eq-eqb (slot_of call) at on in
        rw (there, mine) is)
    | inr other ↦
        let there : get_or (set children at x) slot None ≡ get_or children slot None = get_or-set_other children at slot x None other in
        let others : nat_eq (slot_of call) slot ≡ false = ne_eqb (slot_of call) slot (λ e. other (sym e ∙ on)) in
        rw (there, others) (follows slot few)
  ]

  -- a call failed
  pub IsSlot-send : (line : List ℕ) (slot : ℕ) (old new : Child S) (st : Option Session) → ((s : Session) → IsChild sources old s → IsChild sources new (spoiled s))
      → IsSlot sources (Some old) st → IsSlot sources (Some new) (after (send slot line false) st)
  IsSlot-send line slot old new None keeps is = absurd is
  IsSlot-send line slot old new (Some s) keeps is = keeps s is

  pub IsSlot-receive : (slot : ℕ) (old new : Child S) (st : Option Session) → ((s : Session) → IsChild sources old s → IsChild sources new (spoiled s))
      → IsSlot sources (Some old) st → IsSlot sources (Some new) (after (receive slot None) st)
  IsSlot-receive slot old new None keeps is = absurd is
  IsSlot-receive slot old new (Some s) keeps is = keeps s is
