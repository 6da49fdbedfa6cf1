-- A request has one refusal at most, and isn't both refused and accepted.
use Rattle.std.proofs.Common.{◌≡◌, ℕ, List, Option, Some, None, inl, inr, refl, sym, ap, ◌∙◌}
use Rattle.std.specs.Prelude.{option_and_then}
use Rattle.json_terms.specs.Json.{Json, members_of, object}
use Rattle.view_ports.specs.Functions.{Functions}
use Rattle.doc_file.specs.declared.fault.DocFault.{DocFault}
use Rattle.doc_file.specs.declared.fault.DocFault.TheVariants as doc
use Rattle.doc_file.specs.Accepted.{State, state_after}
use Rattle.design_docs.specs.History.{Write, last_write}
use Rattle.doc_file.specs.Incoming.{IsUnfit, IsWritable}
use Rattle.doc_file.specs.Writes.{IsAcceptedDelete, IsAcceptedPut, IsRefusedDelete, IsRefusedPut}
use Rattle.view_engine.specs.declared.refusal.Refusal.{Refusal}
use Rattle.view_engine.specs.declared.request.Request.TheVariants.{Cleanup, Delete, Get, Info, Put, View}
use Rattle.view_engine.specs.Get.{not_live}
use Rattle.view_engine.specs.Delete.{IsDeleteRefusedIn}
use Rattle.view_engine.specs.Laws.{IsNotRefusedAndAccepted, IsNotRefusedAndDone, IsRefusedOnce, IsRefusedOnceBy}
use Rattle.view_engine.specs.Put.{DoesPut, IsPutRefused, IsPutRefusedIn}
use Rattle.view_engine.specs.Refusals.{refused_as}
use Rattle.view_engine.specs.World.{World}

unfit_not : (document : Json) (fault : DocFault) → IsUnfit document fault → IsWritable document → ⊥
unfit_not document doc.BadId unfit fit = unfit fit.id
unfit_not document (doc.BadMember name) unfit fit = let clash : Some name ≡ None = sym unfit.1 ∙ fit.members in cc
unfit_not document doc.BadRev unfit fit = unfit.2 fit.revision
unfit_not document doc.TooLarge unfit fit = unfit.3 fit.small
unfit_not document doc.TooDeep unfit fit = unfit.4 fit.shallow
unfit_not document (doc.BadDesign fault) unfit fit = let clash : Some fault ≡ None = sym unfit.6 ∙ fit.design unfit.5 in cc
unfit_not document doc.Conflict unfit fit = unfit
unfit_not document doc.Missing unfit fit = unfit
unfit_not document doc.Deleted unfit fit = unfit
unfit_not document (doc.Gate f) unfit fit = unfit
unfit_not document doc.NoMemory unfit fit = unfit

put_clash : (state : State) (document : Json) (fault : DocFault) → IsRefusedPut state document fault → IsAcceptedPut state document → ⊥
put_clash state document fault (inl unfit) accepted = unfit_not document fault unfit accepted.writable
put_clash state document fault (inr refused) accepted = let clash : Some fault ≡ None = sym refused.1 ∙ accepted.accepted in cc

not_both_put : (world : World) (document : Json) (refusal : Refusal) (reply : List ℕ) (new : World) → IsPutRefused world document refusal → DoesPut world document reply new → ⊥
not_both_put world document refusal reply new refused does = put_clash _ document refused.0 refused.1 does.accepted

delete_clash : (state : State) (given : Option (List ℕ)) (fault : DocFault) → IsRefusedDelete state given fault → IsAcceptedDelete state given → ⊥
delete_clash state given fault (inl unformed) accepted = unformed.1 accepted.formed
delete_clash state given fault (inr refused) accepted = let clash : Some fault ≡ None = sym refused.1 ∙ accepted.accepted in cc

-- ---- one refusal at most

unfit_once : (document : Json) (first second : DocFault) → IsUnfit document first → IsUnfit document second → first ≡ second
unfit_once document doc.BadId doc.BadId a b = refl
unfit_once document doc.BadId (doc.BadMember name) a b = absurd (a b.0)
unfit_once document doc.BadId doc.BadRev a b = absurd (a b.0)
unfit_once document doc.BadId doc.TooLarge a b = absurd (a b.0)
unfit_once document doc.BadId doc.TooDeep a b = absurd (a b.0)
unfit_once document doc.BadId (doc.BadDesign other) a b = absurd (a b.0)
unfit_once document (doc.BadMember name) doc.BadId a b = absurd (b a.0)
unfit_once document (doc.BadMember name) (doc.BadMember other) a b = let same : Some name ≡ Some other = sym a.1 ∙ b.1 in cc
unfit_once document (doc.BadMember name) doc.BadRev a b = let clash : Some name ≡ None = sym a.1 ∙ b.1 in cc
unfit_once document (doc.BadMember name) doc.TooLarge a b = let clash : Some name ≡ None = sym a.1 ∙ b.1 in cc
unfit_once document (doc.BadMember name) doc.TooDeep a b = let clash : Some name ≡ None = sym a.1 ∙ b.1 in cc
unfit_once document (doc.BadMember name) (doc.BadDesign other) a b = let clash : Some name ≡ None = sym a.1 ∙ b.1 in cc
unfit_once document doc.BadRev doc.BadId a b = absurd (b a.0)
unfit_once document doc.BadRev (doc.BadMember name) a b = let clash : Some name ≡ None = sym b.1 ∙ a.1 in cc
unfit_once document doc.BadRev doc.BadRev a b = refl
unfit_once document doc.BadRev doc.TooLarge a b = absurd (a.2 b.2)
unfit_once document doc.BadRev doc.TooDeep a b = absurd (a.2 b.2)
unfit_once document doc.BadRev (doc.BadDesign other) a b = absurd (a.2 b.2)
unfit_once document doc.TooLarge doc.BadId a b = absurd (b a.0)
unfit_once document doc.TooLarge (doc.BadMember name) a b = let clash : Some name ≡ None = sym b.1 ∙ a.1 in cc
unfit_once document doc.TooLarge doc.BadRev a b = absurd (b.2 a.2)
unfit_once document doc.TooLarge doc.TooLarge a b = refl
unfit_once document doc.TooLarge doc.TooDeep a b = absurd (a.3 b.3)
unfit_once document doc.TooLarge (doc.BadDesign other) a b = absurd (a.3 b.3)
unfit_once document doc.TooDeep doc.BadId a b = absurd (b a.0)
unfit_once document doc.TooDeep (doc.BadMember name) a b = let clash : Some name ≡ None = sym b.1 ∙ a.1 in cc
unfit_once document doc.TooDeep doc.BadRev a b = absurd (b.2 a.2)
unfit_once document doc.TooDeep doc.TooLarge a b = absurd (b.3 a.3)
unfit_once document doc.TooDeep doc.TooDeep a b = refl
unfit_once document doc.TooDeep (doc.BadDesign other) a b = absurd (a.4 b.4)
unfit_once document (doc.BadDesign fault) doc.BadId a b = absurd (b a.0)
unfit_once document (doc.BadDesign fault) (doc.BadMember name) a b = let clash : Some name ≡ None = sym b.1 ∙ a.1 in cc
unfit_once document (doc.BadDesign fault) doc.BadRev a b = absurd (b.2 a.2)
unfit_once document (doc.BadDesign fault) doc.TooLarge a b = absurd (b.3 a.3)
unfit_once document (doc.BadDesign fault) doc.TooDeep a b = absurd (b.4 a.4)
unfit_once document (doc.BadDesign fault) (doc.BadDesign other) a b = let same : Some fault ≡ Some other = sym a.6 ∙ b.6 in cc
unfit_once document doc.Conflict second a b = absurd a
unfit_once document doc.Missing second a b = absurd a
unfit_once document doc.Deleted second a b = absurd a
unfit_once document (doc.Gate fault) second a b = absurd a
unfit_once document doc.NoMemory second a b = absurd a
unfit_once document first doc.Conflict a b = absurd b
unfit_once document first doc.Missing a b = absurd b
unfit_once document first doc.Deleted a b = absurd b
unfit_once document first (doc.Gate fault) a b = absurd b
unfit_once document first doc.NoMemory a b = absurd b

put_once : (state : State) (document : Json) (first second : DocFault) → IsRefusedPut state document first → IsRefusedPut state document second → first ≡ second
put_once state document first second (inl a) (inl b) = unfit_once document first second a b
put_once state document first second (inl a) (inr b) = absurd (unfit_not document first a b.0)
put_once state document first second (inr a) (inl b) = absurd (unfit_not document second b a.0)
put_once state document first second (inr a) (inr b) = let same : Some first ≡ Some second = sym a.1 ∙ b.1 in cc

delete_once : (state : State) (given : Option (List ℕ)) (first second : DocFault) → IsRefusedDelete state given first → IsRefusedDelete state given second → first ≡ second
delete_once state given first second (inl a) (inl b) = a.0 ∙ sym b.0
delete_once state given first second (inl a) (inr b) = absurd (a.1 b.0)
delete_once state given first second (inr a) (inl b) = absurd (b.1 a.0)
delete_once state given first second (inr a) (inr b) = let same : Some first ≡ Some second = sym a.1 ∙ b.1 in cc

put_refused_once : (state : State) (document : Json) (first second : Refusal) → IsPutRefusedIn state document first → IsPutRefusedIn state document second → first ≡ second
put_refused_once state document first second a b = a.2 ∙ ap refused_as (put_once state document a.0 b.0 a.1 b.1) ∙ sym b.2

delete_refused_once : (state : State) (given : Option (List ℕ)) (first second : Refusal) → IsDeleteRefusedIn state given first → IsDeleteRefusedIn state given second → first ≡ second
delete_refused_once state given first second a b = a.2 ∙ ap refused_as (delete_once state given a.0 b.0 a.1 b.1) ∙ sym b.2

-- a document that is live isn't refused to a reader
live_not_refused : (found : Option Write) (rev : List ℕ) (document : Json) (refusal : Refusal) → option_and_then (λ (write : Write). write.document) found ≡ Some document → not_live (state_after found rev) ≡ Some refusal → ⊥
live_not_refused None rev document refusal live refused = cc
live_not_refused (Some write) rev document refusal live refused = by_document write.document live refused
  where
    by_document : (stored : Option Json) → stored ≡ Some document → not_live (state_after (Some (record { id = write.id; document = stored })) rev) ≡ Some refusal → ⊥
    by_document None live refused = cc
    by_document (Some other) live refused = cc

module _ (functions : List ℕ → Functions) (honest : List ℕ → Type 0) (languages : List (List ℕ × List ℕ)) where
  pub is_refused_once : IsRefusedOnce functions honest languages
  is_refused_once world (Put document) first second a b = put_refused_once _ (object (members_of document)) first second a b
  is_refused_once world (Delete id given) first second a b = delete_refused_once _ given first second a b
  is_refused_once world (Get id) first second a b = let same : Some first ≡ Some second = sym a ∙ b in cc
  is_refused_once world Info first second a b = absurd a
  is_refused_once world Cleanup first second a b = absurd a
  is_refused_once world (View view query) first second a b = let same : Some first ≡ Some second = sym a ∙ b in cc
  is_refused_once world other first second a b = a ∙ sym b

  pub is_not_refused_and_done : IsNotRefusedAndDone functions honest languages
  is_not_refused_and_done before after (Put document) refusal reply refused done =
      not_both_put before.world (object (members_of document)) refusal reply done.0 refused done.1
  is_not_refused_and_done before after (Delete id given) refusal reply refused done = delete_clash _ given refused.0 refused.1 (done.1).accepted
  is_not_refused_and_done before after (Get id) refusal reply refused done = live_not_refused (last_write before.world.history id) _ (done.0).0 refusal (done.0).1 refused
  is_not_refused_and_done before after Info refusal reply refused done = refused
  is_not_refused_and_done before after Cleanup refusal reply refused done = refused
  is_not_refused_and_done before after (View view query) refusal reply refused (inl done) = let clash : Some refusal ≡ None = sym refused ∙ done.accepted in cc
  is_not_refused_and_done before after (View view query) refusal reply refused (inr done) = let clash : Some refusal ≡ None = sym refused ∙ done.accepted in cc
  is_not_refused_and_done before after other refusal reply refused done = done

-- ---- by the documents in memory

pub is_refused_once_by : IsRefusedOnceBy
is_refused_once_by docs (Put document) first second other a b = put_refused_once _ (object (members_of document)) first second a b
is_refused_once_by docs (Delete id given) first second other a b = delete_refused_once _ given first second a b
is_refused_once_by docs (Get id) first second other a b = let same : Some first ≡ Some second = sym a ∙ b in cc
is_refused_once_by docs Info first second other a b = absurd a
is_refused_once_by docs Cleanup first second other a b = absurd a
is_refused_once_by docs (View view query) first second other a b = absurd (other tt)
is_refused_once_by docs request first second other a b = a ∙ sym b

pub is_not_refused_and_accepted : IsNotRefusedAndAccepted
is_not_refused_and_accepted docs (Put document) refusal refused accepted = put_clash _ (object (members_of document)) refused.0 refused.1 accepted
is_not_refused_and_accepted docs (Delete id given) refusal refused accepted = delete_clash _ given refused.0 refused.1 accepted
is_not_refused_and_accepted docs (Get id) refusal refused accepted = let clash : Some refusal ≡ None = sym refused ∙ accepted in cc
is_not_refused_and_accepted docs Info refusal refused accepted = refused
is_not_refused_and_accepted docs Cleanup refusal refused accepted = refused
is_not_refused_and_accepted docs (View view query) refusal refused accepted = tt
is_not_refused_and_accepted docs other refusal refused accepted = accepted
