-- No step lowers the count of the servers' faults.
use Rattle.std.proofs.Common.{◌≡◌, ◌≤◌, ℕ, List, [], ◌∷◌, Bool, true, false, Result, Ok, Err, inl, inr, ap, arith}
use Rattle.view_ports.specs.Exchanges.{Exchange, LeadsTo}
use Rattle.view_ports.specs.Functions.{Functions}
use Rattle.json_terms.specs.Json.{Json}
use Rattle.query_args.specs.Query.{is_updated}
use Rattle.view_engine.specs.declared.refusal.Refusal.{Refusal}
use Rattle.view_engine.specs.declared.request.Request.{Request}
use Rattle.view_engine.specs.declared.request.Request.TheVariants.{Cleanup, Delete, Get, Info, Put, View}
use Rattle.view_engine.specs.Moments.{Moment, with_world}
use Rattle.view_engine.specs.Refusals.{request_of}
use Rattle.view_engine.specs.Steps.{Answers, AskedBy, Does, DoesRequest, MayHaveCalled, Performs}
use Rattle.view_engine.specs.View.{DoesView, IsAnswered}
use Rattle.view_engine.specs.ViewQuery.{ViewQuery, parameters_in, view_query}
use Rattle.view_engine.specs.World.{World}

-- a moment that is the same but for its world
acted : (before after : Moment) (world : World) → after ≡ with_world before world → before.faults ≤ after.faults
acted before after world acts = let same : after.faults ≡ before.faults = ap (λ (m : Moment). m.faults) acts in omega (arith, same)

same_later : (before after : Moment) → after ≡ before → before.faults ≤ after.faults
same_later before after same = let is : after.faults ≡ before.faults = ap (λ (m : Moment). m.faults) same in omega (arith, is)

module _ (functions : List ℕ → Functions) (honest : List ℕ → Type 0) (languages : List (List ℕ × List ℕ)) where
  answered : (name : ViewQuery) (design : Json) (path source : List ℕ) (world : World) (before after : Moment) (reply : List ℕ) → IsAnswered functions honest languages name design path source world before after reply
      → before.faults ≤ after.faults
  answered name design path source world before after reply (inl both) = (both.0).later
  answered name design path source world before after reply (inr called) = called.later

  viewed : (before : Moment) (name : ViewQuery) (reply : List ℕ) (after : Moment) → DoesView functions honest languages before name reply after → before.faults ≤ after.faults
  viewed before name reply after (inr kept) = answered name kept.design kept.path kept.source before.world before after reply kept.answered
  viewed before name reply after (inl updated) = elim updated.ends [
    | inl called ↦ called.later
    | inr mapped ↦ elim mapped.ends [
      | inl refused ↦ omega (arith, (mapped.served).later, (refused.called).later)
      | inr up ↦ let last = answered name updated.design (updated.job).path updated.source before.world up.between after reply up.answered in omega (arith, (mapped.served).later, (up.had).later, last)
    ]
  ]

  asked : (updates : Bool) (before : Moment) (name : ViewQuery) (after : Moment) → AskedBy functions honest languages updates before name after → before.faults ≤ after.faults
  asked false before name after values = (values.called).later
  asked true before name after for_view = elim for_view.ends [
    | inl mapping ↦ (mapping.called).later
    | inr (inl trying) ↦ omega (arith, (trying.served).later, (trying.asked).later)
    | inr (inr showing) ↦ omega (arith, (showing.served).later, (showing.had).later, (showing.reduced).later)
  ]

  called : (before : Moment) (request : Result Request Refusal) (after : Moment) → MayHaveCalled functions honest languages before request after → before.faults ≤ after.faults
  called before (Ok (View view query)) after (inl same) = same_later before after same
  called before (Ok (View view query)) after (inr for_view) = asked (is_updated (parameters_in query)) before (view_query view query) after for_view.1
  called before other after same = same_later before after same

  performed : (before : Moment) (request : Request) (reply : List ℕ) (after : Moment) → Performs functions honest languages before request reply after → before.faults ≤ after.faults
  performed before (Put document) reply after acts = acted before after acts.0 acts.2
  performed before (Delete id given) reply after acts = acted before after acts.0 acts.2
  performed before (Get id) reply after reads = same_later before after reads.1
  performed before Info reply after reads = same_later before after reads.1
  performed before Cleanup reply after acts = acted before after acts.0 acts.2
  performed before (View view query) reply after does = viewed before (view_query view query) reply after does
  performed before other reply after never = absurd never

  requested : (before : Moment) (request : Result Request Refusal) (reply : List ℕ) (after : Moment) → DoesRequest functions honest languages before request reply after → before.faults ≤ after.faults
  requested before (Ok request) reply after (inl does) = performed before request reply after does
  requested before (Ok request) reply after (inr refused) = same_later before after (refused.2).1
  requested before (Err refusal) reply after refused = same_later before after refused.1

  done : (before : Moment) (line text : List ℕ) (after : Moment) → Does functions honest languages before line text after → before.faults ≤ after.faults
  done before [] text after none = same_later before after none.1
  done before (byte ∷ bytes) text after does = requested before (request_of (byte ∷ bytes)) does.0 after does.1

  pub answers_later : (before : Moment) (e : Exchange) (after : Moment) → Answers functions honest languages before e after → before.faults ≤ after.faults
  answers_later before e after (inl does) = done before e.line e.text after does
  answers_later before e after (inr gives_up) = called before (request_of e.line) after gives_up.2

  pub leads_later : (before : Moment) (exchanges : List Exchange) (after : Moment) → LeadsTo (Answers functions honest languages) before exchanges after → before.faults ≤ after.faults
  leads_later before [] after same = same_later before after same
  leads_later before (e ∷ es) after leads = let one = answers_later before e leads.0 leads.1 in let rest = leads_later leads.0 es after leads.2 in omega (arith, one, rest)
