-- The reply to the second view of a load is the answer afresh.
use Rattle.std.specs.Prelude.{if◌then◌else◌, pos}
use Rattle.std.proofs.Common.{◌≡◌, ◌≢◌, ◌∙◌, ℕ, List, [], ◌∷◌, Bool, false, codes, Option, Some, None, Result, Ok, inl, inr, refl, sym, ap, subst, arith}
use Rattle.json_terms.specs.Json.{Json, members_of, number, object}
use Rattle.design_docs.specs.Design.{design_term, language_of, source_of, views_of}
use Rattle.design_docs.specs.Documents.{id_of}
use Rattle.design_docs.specs.declared.design.Builtin.TheVariants.{Stats}
use Rattle.design_docs.specs.declared.design.Reduce.{Reduce}
use Rattle.design_docs.specs.declared.design.Reduce.TheVariants.{Builtin}
use Rattle.child_pool.specs.Languages.{path_in}
use Rattle.view_ports.specs.Exchanges.{Exchange}
use Rattle.view_ports.specs.Faults.{Rose}
use Rattle.view_ports.specs.Functions.{Functions}
use Rattle.view_ports.specs.Lines.{ended}
use Rattle.map_server.specs.Pick.{pick}
use Rattle.design_docs.specs.History.{Write, live_document}
use Rattle.doc_file.specs.Accepted.{state_of, unseen}
use Rattle.doc_file.specs.Content.{content}
use Rattle.doc_file.specs.Incoming.{deletes, given_revision}
use Rattle.doc_file.specs.Stored.{next_revision, write_of}
use Rattle.doc_file.specs.Writes.{content_of, write_refusal, IsAcceptedPut}
use Rattle.query_args.specs.declared.query.Query.{Query}
use Rattle.view_model.specs.Rows.{spoiled}
use Rattle.view_engine.specs.declared.refusal.Refusal.{Refusal}
use Rattle.view_engine.specs.declared.refusal.Refusal.TheVariants.{CompilationError, NoMemory as OutOfMemory}
use Rattle.view_engine.specs.declared.request.Request.{Request}
use Rattle.view_engine.specs.declared.request.Request.TheVariants.{Put, View}
use Rattle.view_engine.specs.Fresh.{answer_afresh, due_reply, named_answer, IsDueOrFault, IsHonestViewOfSound}
use Rattle.view_engine.specs.Answer.{write_text}
use Rattle.view_engine.specs.Moments.{Moment, with_world}
use Rattle.view_engine.specs.Put.{put_write}
use Rattle.view_engine.specs.Refusals.{refusal_text, request_of}
use Rattle.view_engine.specs.Steps.{Answers, Does, DoesRequest, DoesRequestText, IsRefusedAs}
use Rattle.view_engine.specs.Updating.{AreFit, IsSound}
use Rattle.view_engine.specs.View.{design_id, view_refusal, DoesView}
use Rattle.view_engine.specs.ViewQuery.{ViewQuery, query_for, reduce_named}
use Rattle.view_engine.specs.World.{World, written}
use Rattle.view_engine.proofs.Exclusive.{is_not_refused_and_done}
use Rattle.view_engine.proofs.Fresh.{replies_are_fresh}
use Rattle.load_lines.specs.Documents.{load_design, load_map}
use Rattle.load_lines.proofs.Writable.{IsWritable-load_design, deletes-load_design, given-load_design, id_of-load_design}
use Rattle.couchview_cli.specs.Loading.{fresh_answer, load_query}
use Rattle.couchview_cli.proofs.LoadCompiles.{load_map_compiles}
use Rattle.couchview_cli.proofs.LoadMeaning.{design_write, stored_design, HasLoadDesign}

-- ---- the view of the stored design

abbrev pub asked : ViewQuery
asked = record { design = codes "load"; view = codes "by_group"; query = Some ((codes "group_level", number (pos 1)) ∷ []) }

abbrev pub load_view : Request
load_view = View (record { design = codes "load"; view = codes "by_group" }) (Some ((codes "group_level", number (pos 1)) ∷ []))

stored_source : source_of (codes "by_group") stored_design ≡ Some load_map
unfolding load_design
stored_source = refl

stored_path : path_in [] (language_of stored_design) ≡ Some (codes "builtin:pick")
unfolding load_design
stored_path = refl

stored_reduce : reduce_named (codes "by_group") (views_of stored_design) ≡ Builtin Stats
unfolding load_design
stored_reduce = refl

stored_query : query_for (views_of stored_design) asked ≡ load_query
unfolding load_design
stored_query = refl

-- the view of the design is refused by nothing
not_refused : (world : World) → HasLoadDesign world.history → view_refusal [] world asked ≡ None
unfolding load_design
not_refused world has = rw has.last refl

-- no design of such a history is another one
has_fit : (history : List Write) → HasLoadDesign history → AreFit history
has_fit history has = record { apart = λ one other is_one is_other same. ap design_term (has.only one is_one ∙ sym (has.only other is_other)) }

has_live : (history : List Write) → HasLoadDesign history → live_document history (codes "_design/load") ≡ Some stored_design
has_live history has = rw has.last refl

-- it can be answered, since its source compiles
answerable : (history : List Write) → spoiled pick (views_of stored_design) history ≡ false
unfolding load_design
answerable history = rw load_map_compiles refl

-- the first write of a load
first_write : write_of [] (id_of load_design) (content_of load_design) ≡ design_write
first_write =
    ap (λ (id : List ℕ). write_of [] id (content_of load_design)) id_of-load_design
    ∙ ap (λ (b : Bool). write_of [] (codes "_design/load") (if b then None else Some (content load_design))) deletes-load_design

module _ (functions : List ℕ → Functions) (honest : List ℕ → Type 0) where
  -- a line that is answered, and not refused for want of memory, does its request
  does_request : (before : Moment) (e : Exchange) (after : Moment) → e.line ≢ [] → e.text ≢ ended (refusal_text OutOfMemory) → Answers functions honest [] before e after
      → DoesRequestText functions honest [] before (request_of e.line) e.text after
  does_request before e after some done (inr gives_up) = absurd (done (gives_up.1))
  does_request before e after some done (inl does) = by_line e.line some does
    where
      by_line : (line : List ℕ) → line ≢ [] → Does functions honest [] before line e.text after → DoesRequestText functions honest [] before (request_of line) e.text after
      by_line [] some_ does_ = absurd (some_ refl)
      by_line (byte ∷ bytes) some_ does_ = does_

  -- ---- puts

  -- a put that the documents accept adds its write
  pub put_writes : (before : Moment) (e : Exchange) (after : Moment) (doc : Json) (members : List (List ℕ × Json)) → request_of e.line ≡ Ok (Put members) → object (members_of members) ≡ doc → IsAcceptedPut (state_of (before.world).history (id_of doc)) doc
      → e.line ≢ [] → e.text ≢ ended (refusal_text OutOfMemory) → Answers functions honest [] before e after → (after.world).history ≡ put_write before.world doc ∷ (before.world).history
  put_writes before e after doc members asks is accepted some done answers =
      let does = does_request before e after some done answers in
      let request : DoesRequest functions honest [] before (Ok (Put members)) does.0 after = subst (λ (r : Result Request Refusal). DoesRequest functions honest [] before r does.0 after) asks does.1 in
      subst (λ (json : Json). (after.world).history ≡ put_write before.world json ∷ (before.world).history) is (elim request [
        | inl acts ↦ ap (λ (m : Moment). (m.world).history) acts.2 ∙ ap (λ (w : World). w.history) (acts.1).wrote
        | inr refused ↦ absurd (never refused.0 refused.1)
      ])
    where
      put : Json
      put = object (members_of members)

      never : (refusal : Refusal) → IsRefusedAs functions honest [] before.world (Put members) refusal → ⊥
      never refusal refused =
          is_not_refused_and_done functions honest [] before (with_world before (written before.world (put_write before.world put))) (Put members) refusal (write_text (id_of put) (next_revision (before.world).history (id_of put))) refused (
            written before.world (put_write before.world put),
            record { accepted = subst (λ (json : Json). IsAcceptedPut (state_of (before.world).history (id_of json)) json) (sym is) accepted; prints = refl; wrote = refl },
            refl,
          )

  -- a put of the design to a history without writes stores it
  pub first_put : (before : Moment) (e : Exchange) (after : Moment) (members : List (List ℕ × Json)) → request_of e.line ≡ Ok (Put members) → object (members_of members) ≡ load_design → (before.world).history ≡ []
      → e.line ≢ [] → e.text ≢ ended (refusal_text OutOfMemory) → Answers functions honest [] before e after → (after.world).history ≡ design_write ∷ []
  first_put before e after members asks is none some done answers =
      put_writes before e after load_design members asks is (record { writable = IsWritable-load_design; accepted = accepts }) some done answers
      ∙ ap (λ (h : List Write). write_of h (id_of load_design) (content_of load_design) ∷ h) none
      ∙ ap (λ (w : Write). w ∷ []) first_write
    where
      accepts : write_refusal (state_of (before.world).history (id_of load_design)) (deletes load_design) (given_revision load_design) ≡ None
      accepts =
          ap (λ (h : List Write). write_refusal (state_of h (id_of load_design)) (deletes load_design) (given_revision load_design)) none
          ∙ ap (λ (b : Bool). write_refusal unseen b (given_revision load_design)) deletes-load_design
          ∙ ap (λ (given : Option (List ℕ)). write_refusal unseen false given) given-load_design

  -- ---- the second view

  pub second_fresh : (before : Moment) (e : Exchange) (after : Moment) → request_of e.line ≡ Ok load_view → e.line ≢ [] → e.text ≢ ended (refusal_text OutOfMemory) → Answers functions honest [] before e after
      → HasLoadDesign (before.world).history → IsSound functions honest [] before.world → honest (codes "builtin:pick") → functions (codes "builtin:pick") ≡ pick → (Rose before.faults after.faults → ⊥)
      → e.text ≡ ended (fresh_answer (before.world).history)
  second_fresh before e after asks some done answers has sound is_honest is_pick calm =
      let does = does_request before e after some done answers in
      let request : DoesRequest functions honest [] before (Ok load_view) does.0 after = subst (λ (r : Result Request Refusal). DoesRequest functions honest [] before r does.0 after) asks does.1 in
      elim request [
        | inl view ↦ does.2 ∙ ap ended (shown does.0 view)
        | inr refused ↦ let never : None ≡ Some refused.0 = sym (not_refused before.world has) ∙ refused.1 in absurd (cc)
      ]
    where
      history : List Write
      history = (before.world).history

      view_is : IsHonestViewOfSound functions honest [] before.world asked stored_design (codes "builtin:pick") load_map
      view_is = record { live = has_live history has; source_is = stored_source; path_is = stored_path; is_honest = is_honest; sound = sound; fit = has_fit history has }

      -- where the design is answered the reply that is due is the answer afresh
      due : due_reply pick before.world asked stored_design load_map ≡ fresh_answer history
      due =
          ap (λ (b : Bool). if b then refusal_text (CompilationError (design_id asked.design)) else named_answer pick (views_of stored_design) asked load_map history) (answerable history)
          ∙ ap (λ (r : Reduce). answer_afresh pick (query_for (views_of stored_design) asked) r load_map history) stored_reduce
          ∙ ap (λ (q : Query). answer_afresh pick q (Builtin Stats) load_map history) stored_query

      -- and that one comes, since the servers' count of faults didn't rise
      comes : (text reply : List ℕ) → IsDueOrFault text before after reply → reply ≡ text
      comes text reply (inl is) = is
      comes text reply (inr names) = let two = names.1 in absurd (calm (omega (arith, two)))

      shown : (reply : List ℕ) → DoesView functions honest [] before asked reply after → reply ≡ fresh_answer history
      shown reply view =
          comes (due_reply (functions (codes "builtin:pick")) before.world asked stored_design load_map) reply
          (replies_are_fresh functions honest [] before after asked reply view stored_design (codes "builtin:pick") load_map view_is)
          ∙ ap (λ (f : Functions). due_reply f before.world asked stored_design load_map) is_pick
          ∙ due
