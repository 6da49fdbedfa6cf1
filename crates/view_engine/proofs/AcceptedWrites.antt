-- A run's last world has exactly the writes that were answered `ok`.
use Rattle.std.specs.Prelude.{◌≡◌, ℕ, List, [], ◌∷◌, ◌++◌, Bool, true, false, if◌then◌else◌, None, Result, Ok, Err}
use Rattle.std.proofs.Common.{refl, ap, ◌∙◌, inl, inr}
use Rattle.json_terms.specs.Json.{members_of, object}
use Rattle.design_docs.specs.Documents.{id_of}
use Rattle.view_ports.specs.Lines.{ended}
use Rattle.design_docs.specs.History.{Write}
use Rattle.doc_file.specs.Stored.{write_of}
use Rattle.doc_file.specs.Writes.{content_of}
use Rattle.view_ports.specs.Exchanges.{Exchange, LeadsTo}
use Rattle.view_engine.specs.declared.request.Request.{Request}
use Rattle.view_engine.specs.declared.request.Request.TheVariants.{Cleanup, Put, Delete, Get, View, Info}
use Rattle.view_engine.specs.declared.refusal.Refusal.{Refusal}
use Rattle.view_engine.specs.declared.refusal.Refusal.TheVariants.{NoMemory}
use Rattle.view_ports.specs.Functions.{Functions}
use Rattle.view_engine.specs.Moments.{Moment}
use Rattle.view_engine.specs.World.{World}
use Rattle.view_engine.specs.Refusals.{request_of, refusal_text}
use Rattle.view_engine.specs.Steps.{Answers, AskedBy, Does, DoesRequest, MayHaveCalled, Performs, Refuses}
use Rattle.view_engine.specs.Accepted.{is_ok, accepted, after_exchange, after_request, EachOk}
use Rattle.view_engine.specs.View.{DoesView}
use Rattle.view_engine.specs.ViewQuery.{ViewQuery, parameters_in, view_query}
use Rattle.query_args.specs.Query.{is_updated}

-- ---- worlds of one history

-- a request adds the same write to worlds of one history
request_same : (world other : World) (request : Result Request Refusal) → world.history ≡ other.history → (after_request world request).history ≡ (after_request other request).history
request_same world other (Ok (Put document)) same = ap (λ (h : List Write). write_of h (id_of (object (members_of document))) (content_of (object (members_of document))) ∷ h) same
request_same world other (Ok (Delete id given)) same = ap (λ (h : List Write). write_of h id None ∷ h) same
request_same world other request same = same

exchange_same : (world other : World) (e : Exchange) → world.history ≡ other.history → (after_exchange world e).history ≡ (after_exchange other e).history
exchange_same world other e same = elim (is_ok e.text) as (λ b. (if b then after_request world (request_of e.line) else world).history ≡ (if b then after_request other (request_of e.line) else other).history) [
  | true ↦ request_same world other (request_of e.line) same
  | false ↦ same
]

pub accepted_same : (world other : World) (es : List Exchange) → world.history ≡ other.history → (accepted world es).history ≡ (accepted other es).history
accepted_same world other [] same = same
accepted_same world other (e ∷ es) same = accepted_same (after_exchange world e) (after_exchange other e) es (exchange_same world other e same)

-- what holds in a world of each request that was answered `ok`, and is told by the history alone, holds in each world of that history
pub each_ok_same : {P Q : World → Result Request Refusal → Type 0} → ((a b : World) (request : Result Request Refusal) → a.history ≡ b.history → P a request → Q b request)
    → (world other : World) (es : List Exchange) → world.history ≡ other.history → EachOk P world es → EachOk Q other es
each_ok_same tell world other [] same each = tt
each_ok_same tell world other (e ∷ es) same each = (
  λ ok. tell world other (request_of e.line) same (each.0 ok),
  each_ok_same tell (after_exchange world e) (after_exchange other e) es (exchange_same world other e same) each.1,
)

-- ---- what was answered

module _ (functions : List ℕ → Functions) (honest : List ℕ → Type 0) (languages : List (List ℕ × List ℕ)) where
  either_way : (b : Bool) (world : World) → world.history ≡ (if b then world else world).history
  either_way true world = refl
  either_way false world = refl

  -- the history after an exchange
  abbrev IsAfter : Moment → Exchange → Moment → Type 0
  IsAfter before e after = (after.world).history ≡ (after_exchange before.world e).history

  same_moment : (before after : Moment) → after ≡ before → (after.world).history ≡ (before.world).history
  same_moment before after same = ap (λ (m : Moment). (m.world).history) same

  -- a refusal reads as no `ok`, and adds no write
  not_ok : (refusal : Refusal) (text : List ℕ) → text ≡ ended (refusal_text refusal) → is_ok text ≡ false
  not_ok refusal text is = rw is refl

  refuses-accepted : (before : Moment) (refusal : Refusal) (e : Exchange) (reply : List ℕ) (after : Moment) → Refuses before refusal reply after → e.text ≡ ended reply → IsAfter before e after
  refuses-accepted before refusal e reply after done is =
      let text : e.text ≡ ended (refusal_text refusal) = is ∙ ap ended done.0 in
      rw text (same_moment before after done.1)

  -- a view adds no write
  view-accepted : (before : Moment) (name : ViewQuery) (reply : List ℕ) (after : Moment) → DoesView functions honest languages before name reply after → (after.world).history ≡ (before.world).history
  view-accepted before name reply after (inl does) = elim does.ends [
    | inl refused ↦ ap (λ (w : World). w.history) refused.holds.same
    | inr mapped ↦ elim mapped.ends [
      | inl refused ↦ ap (λ (w : World). w.history) refused.same
      | inr brought ↦ brought.brought.history
    ]
  ]
  view-accepted before name reply after (inr kept) = ap (λ (w : World). w.history) kept.same

  -- a request that is done adds its write, if it is a put or a deletion
  performs-accepted : (before : Moment) (request : Request) (e : Exchange) (reply : List ℕ) (after : Moment) → request_of e.line ≡ Ok request
      → Performs functions honest languages before request reply after → e.text ≡ ended reply → IsAfter before e after
  performs-accepted before (Put document) e reply after is done text =
      let acted : (after.world).history ≡ (done.0).history = ap (λ (m : Moment). (m.world).history) done.2 in
      rw (is, text, (done.1).prints) (acted ∙ ap (λ (w : World). w.history) (done.1).wrote)
  performs-accepted before (Delete id given) e reply after is done text =
      let acted : (after.world).history ≡ (done.0).history = ap (λ (m : Moment). (m.world).history) done.2 in
      rw (is, text, (done.1).prints) (acted ∙ ap (λ (w : World). w.history) (done.1).wrote)
  performs-accepted before (Get id) e reply after is done text = rw is (same_moment before after done.1 ∙ either_way (is_ok e.text) before.world)
  performs-accepted before Info e reply after is done text = rw is (same_moment before after done.1 ∙ either_way (is_ok e.text) before.world)
  performs-accepted before Cleanup e reply after is done text = rw is (ap (λ (m : Moment). (m.world).history) done.2 ∙ (done.1).0.history ∙ either_way (is_ok e.text) before.world)
  performs-accepted before (View view query) e reply after is done text = rw is (view-accepted before (view_query view query) reply after done ∙ either_way (is_ok e.text) before.world)
  performs-accepted before other e reply after is done text = absurd done

  request-accepted : (before : Moment) (request : Result Request Refusal) (e : Exchange) (reply : List ℕ) (after : Moment) → request_of e.line ≡ request
      → DoesRequest functions honest languages before request reply after → e.text ≡ ended reply → IsAfter before e after
  request-accepted before (Ok request) e reply after is (inl done) text = performs-accepted before request e reply after is done text
  request-accepted before (Ok request) e reply after is (inr refused) text = refuses-accepted before refused.0 e reply after refused.2 text
  request-accepted before (Err refusal) e reply after is done text = refuses-accepted before refusal e reply after done text

  does-accepted : (before : Moment) (line : List ℕ) (e : Exchange) (after : Moment) → e.line ≡ line → Does functions honest languages before line e.text after → IsAfter before e after
  does-accepted before [] e after is done = rw done.0 (same_moment before after done.1)
  does-accepted before (byte ∷ bytes) e after is done = request-accepted before (request_of (byte ∷ bytes)) e done.0 after (ap request_of is) done.1 done.2

  -- where memory ran out no document was written
  pub kept_world : (before : Moment) (request : Result Request Refusal) (after : Moment) → MayHaveCalled functions honest languages before request after → (after.world).history ≡ (before.world).history
  kept_world before (Ok (View view query)) after (inl same) = same_moment before after same
  kept_world before (Ok (View view query)) after (inr asked) = by_query (is_updated (parameters_in query)) asked.1
    where
      by_query : (updating : Bool) → AskedBy functions honest languages updating before (view_query view query) after → (after.world).history ≡ (before.world).history
      by_query false asked = ap (λ (w : World). w.history) asked.same
      by_query true asked = elim asked.ends [
        | inl mapping ↦ ap (λ (w : World). w.history) mapping.same
        | inr later ↦ elim later [
          | inl trying ↦ ap (λ (w : World). w.history) trying.same
          | inr showing ↦ showing.brought.history
        ]
      ]
  kept_world before other after same = same_moment before after same

  gave_up-accepted : (before : Moment) (e : Exchange) (after : Moment) → e.text ≡ ended (refusal_text NoMemory) → (after.world).history ≡ (before.world).history → IsAfter before e after
  gave_up-accepted before e after text same = rw text same

  pub Answers-accepted : (before : Moment) (e : Exchange) (after : Moment) → Answers functions honest languages before e after → (after.world).history ≡ (after_exchange before.world e).history
  Answers-accepted before e after (inl done) = does-accepted before e.line e after refl done
  Answers-accepted before e after (inr gave_up) = gave_up-accepted before e after gave_up.1 (kept_world before (request_of e.line) after gave_up.2)

  pub LeadsTo-accepted : (before : Moment) (exchanges : List Exchange) (after : Moment) → LeadsTo (Answers functions honest languages) before exchanges after → (after.world).history ≡ (accepted before.world exchanges).history
  LeadsTo-accepted before [] after leads = same_moment before after leads
  LeadsTo-accepted before (e ∷ exchanges) after leads =
      LeadsTo-accepted leads.0 exchanges after leads.2 ∙ accepted_same (leads.0).world (after_exchange before.world e) exchanges (Answers-accepted before e leads.0 leads.1)

-- lines that are answered after others add their writes to those of the others
pub accepted_in_turn : (world : World) (first second : List Exchange) → accepted world (first ++ second) ≡ accepted (accepted world first) second
accepted_in_turn world [] second = refl
accepted_in_turn world (e ∷ first) second = accepted_in_turn (after_exchange world e) first second
