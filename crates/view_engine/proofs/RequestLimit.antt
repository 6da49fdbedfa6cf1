-- Lines at the limit of their length.
use Rattle.std.specs.Prelude.{◌≡◌, ◌<◌, ◌≤◌, ◌+◌, ℕ, List, [], ◌∷◌, true, false, nat_lt, length, take, Ok, Err, Result, Option, Some, None, ok_or}
use Rattle.std.proofs.Common.{refl, sym, ap, ◌∙◌, subst, arith, add-one, length-take, inl, inr}
use Rattle.std.proofs.lemmas.Bool.{lt-ltb, le-ltb}
use Rattle.json_terms.specs.Reading.{reading}
use Rattle.view_ports.specs.Functions.{Functions}
use Rattle.view_ports.specs.Lines.{kept}
use Rattle.view_engine.specs.Moments.{Moment}
use Rattle.view_engine.specs.declared.request.Request.{Request}
use Rattle.view_engine.specs.declared.refusal.Refusal.{Refusal}
use Rattle.view_engine.specs.declared.refusal.Refusal.TheVariants.{LineTooLong, UnknownRequest}
use Rattle.view_engine.specs.Refusals.{request_limit, request_of, request_in, unread}
use Rattle.view_engine.specs.Requests.{form_of}
use Rattle.json_terms.specs.Json.{Json}
use Rattle.json_terms.specs.declared.fault.TermFault.{TermFault}
use Rattle.view_engine.specs.Steps.{Answers, DoesRequest, MayHaveCalled}

pub request_limit-is : request_limit ≡ 2097152
unfolding request_limit
request_limit-is = refl

pub request_of-long : (line : List ℕ) → request_limit < length line → request_of line ≡ Err LineTooLong
unfolding request_of
request_of-long line long = let test : nat_lt request_limit (length line) ≡ true = lt-ltb request_limit (length line) long in rw test refl

pub request_of-short : (line : List ℕ) → length line ≤ request_limit → request_of line ≡ request_in (reading line)
unfolding request_of
request_of-short line short = let test : nat_lt request_limit (length line) ≡ false = le-ltb request_limit (length line) short in rw test refl

pub request_of-form : (line : List ℕ) (term : Json) (request : Request) → length line ≤ 2097152 → reading line ≡ Ok term → form_of term ≡ Some request
    → request_of line ≡ Ok request
request_of-form line term request short reads form =
    request_of-short line (rw request_limit-is short) ∙ ap request_in reads ∙ ap (λ (o : Option Request). ok_or o UnknownRequest) form

pub request_of-no_form : (line : List ℕ) (term : Json) → length line ≤ 2097152 → reading line ≡ Ok term → form_of term ≡ None
    → request_of line ≡ Err UnknownRequest
request_of-no_form line term short reads form =
    request_of-short line (rw request_limit-is short) ∙ ap request_in reads ∙ ap (λ (o : Option Request). ok_or o UnknownRequest) form

pub request_of-unread : (line : List ℕ) (fault : TermFault) → length line ≤ 2097152 → reading line ≡ Err fault → request_of line ≡ Err (unread fault)
request_of-unread line fault short reads = request_of-short line (rw request_limit-is short) ∙ ap request_in reads

-- a line that is too long is answered as its first bytes are
module _ (functions : List ℕ → Functions) (honest : List ℕ → Type 0) (languages : List (List ℕ × List ℕ)) where
  pub Answers-cut : (before : Moment) (line text : List ℕ) (after : Moment) → request_limit < length line
      → Answers functions honest languages before (record { line = kept request_limit line; text = text }) after → Answers functions honest languages before (record { line = line; text = text }) after
  unfolding kept
  Answers-cut before [] text after long answers = absurd (omega arith)
  Answers-cut before (byte ∷ bytes) text after long answers =
      let front : take (request_limit + 1) (byte ∷ bytes) ≡ byte ∷ take request_limit bytes = rw add-one refl in
      let cut : Answers functions honest languages before (record { line = byte ∷ take request_limit bytes; text = text }) after =
      subst (λ (l : List ℕ). Answers functions honest languages before (record { line = l; text = text }) after) front answers in
      let same : request_of (byte ∷ take request_limit bytes) ≡ request_of (byte ∷ bytes) =
      request_of-long (byte ∷ take request_limit bytes) (omega (arith, length-take request_limit bytes)) ∙ sym (request_of-long (byte ∷ bytes) long) in
      elim cut [
        | inl done ↦ inl (done.0, subst (λ (r : Result Request Refusal). DoesRequest functions honest languages before r done.0 after) same done.1, done.2)
        | inr gave_up ↦ inr (λ none. absurd (let e : byte ∷ bytes ≡ [] = none in cc), gave_up.1, subst (λ (r : Result Request Refusal). MayHaveCalled functions honest languages before r after) same gave_up.2)
      ]
