-- The functions that a world knows are those that the world before knew.
use Rattle.std.specs.Prelude.{◌≡◌, ℕ, List, [], ◌∷◌, Bool, true, false, Option, Result, Ok, Err}
use Rattle.std.proofs.Common.{refl, sym, ap, ◌∙◌, inl, inr, subst}
use Rattle.view_ports.specs.Disk.{Disk, IfTold, Tells}
use Rattle.view_ports.specs.Exchanges.{Exchange}
use Rattle.view_ports.specs.Functions.{Functions}
use Rattle.view_ports.specs.declared.file_name.FileName.{FileName}
use Rattle.view_ports.proofs.Told.{told_after, told_all, told_pair}
use Rattle.child_pool.specs.Languages.{path_in}
use Rattle.view_engine.specs.declared.refusal.Refusal.{Refusal}
use Rattle.view_engine.specs.declared.request.Request.{Request}
use Rattle.view_engine.specs.declared.request.Request.TheVariants.{Cleanup, Put, Delete, Get, View, Info}
use Rattle.view_engine.specs.Moments.{Moment}
use Rattle.view_engine.specs.Refusals.{request_of}
use Rattle.view_engine.specs.Steps.{Answers, AskedBy, Does, DoesRequest, MayHaveCalled, Performs}
use Rattle.view_engine.specs.View.{DoesView}
use Rattle.view_engine.specs.ViewQuery.{ViewQuery, parameters_in, view_query}
use Rattle.view_engine.specs.World.{World}
use Rattle.view_engine.specs.Worlds.{KnowsPaths}
use Rattle.query_args.specs.Query.{is_updated}

-- a world that knows the same functions knows those of paths too
pub knows_still : (functions : List ℕ → Functions) (honest : List ℕ → Type 0) (languages languages' : List (List ℕ × List ℕ)) (before after : World) → languages' ≡ languages → after.functions ≡ before.functions
    → KnowsPaths functions honest languages before → KnowsPaths functions honest languages' after
knows_still functions honest languages languages' before after same known knows = λ sig language own path is path_is.
    knows sig language own path (ap (λ (f : List ℕ → List ℕ → Option Functions). f sig language) (sym known) ∙ is) (ap (λ (ls : List (List ℕ × List ℕ)). path_in ls language) (sym same) ∙ path_is)

-- so it does on another disk of the same calls
pub known_told : (functions : List ℕ → Functions) (honest : List ℕ → Type 0) (old new : Option (Disk FileName)) (R : Disk FileName → Disk FileName → Type 0) (languages languages' : List (List ℕ × List ℕ)) (before after : World) → Tells old new R → languages' ≡ languages
    → IfTold old (λ d. after.functions ≡ before.functions) → IfTold old (λ d. KnowsPaths functions honest languages before) → IfTold new (λ d. KnowsPaths functions honest languages' after)
known_told functions honest old new R languages languages' before after moves same known knows =
    told_after old new (λ d. (after.functions ≡ before.functions) × KnowsPaths functions honest languages before) (λ d. KnowsPaths functions honest languages' after) R
    (λ a b both moved. knows_still functions honest languages languages' before after same both.0 both.1)
    (told_pair old (λ d. after.functions ≡ before.functions) (λ d. KnowsPaths functions honest languages before) _ (λ d known knows. (known, knows)) known knows) moves

-- also of the same world
pub still_known : (functions : List ℕ → Functions) (honest : List ℕ → Type 0) (old new : Option (Disk FileName)) (R : Disk FileName → Disk FileName → Type 0) (languages languages' : List (List ℕ × List ℕ)) (world : World) → Tells old new R → languages' ≡ languages
    → IfTold old (λ d. KnowsPaths functions honest languages world) → IfTold new (λ d. KnowsPaths functions honest languages' world)
still_known functions honest old new R languages languages' world moves same knows =
    known_told functions honest old new R languages languages' world world moves same (told_all old (λ d. world.functions ≡ world.functions) (λ d. refl)) knows

module _ (functions : List ℕ → Functions) (honest : List ℕ → Type 0) (languages : List (List ℕ × List ℕ)) where
  -- the world after knows what the world before knew
  abbrev Knows : Moment → Moment → Type 0
  Knows before after = (after.world).functions ≡ (before.world).functions

  same_moment : (before after : Moment) → after ≡ before → Knows before after
  same_moment before after same = ap (λ (m : Moment). (m.world).functions) same

  view_knows : (before : Moment) (name : ViewQuery) (reply : List ℕ) (after : Moment) → DoesView functions honest languages before name reply after → Knows before after
  view_knows before name reply after (inl does) = elim does.ends [
    | inl refused ↦ ap (λ (w : World). w.functions) refused.holds.same
    | inr mapped ↦ elim mapped.ends [
      | inl refused ↦ ap (λ (w : World). w.functions) refused.same
      | inr brought ↦ brought.brought.known
    ]
  ]
  view_knows before name reply after (inr kept) = ap (λ (w : World). w.functions) kept.same

  performs_know : (before : Moment) (request : Request) (reply : List ℕ) (after : Moment) → Performs functions honest languages before request reply after → Knows before after
  performs_know before (Put document) reply after done = ap (λ (m : Moment). (m.world).functions) done.2 ∙ ap (λ (w : World). w.functions) (done.1).wrote
  performs_know before (Delete id given) reply after done = ap (λ (m : Moment). (m.world).functions) done.2 ∙ ap (λ (w : World). w.functions) (done.1).wrote
  performs_know before (Get id) reply after done = same_moment before after done.1
  performs_know before Info reply after done = same_moment before after done.1
  performs_know before Cleanup reply after done = ap (λ (m : Moment). (m.world).functions) done.2 ∙ (done.1).0.known
  performs_know before (View view query) reply after done = view_knows before (view_query view query) reply after done
  performs_know before other reply after done = absurd done

  request_knows : (before : Moment) (request : Result Request Refusal) (reply : List ℕ) (after : Moment) → DoesRequest functions honest languages before request reply after → Knows before after
  request_knows before (Ok request) reply after (inl done) = performs_know before request reply after done
  request_knows before (Ok request) reply after (inr refused) = same_moment before after (refused.2).1
  request_knows before (Err refusal) reply after done = same_moment before after done.1

  does_knows : (before : Moment) (line text : List ℕ) (after : Moment) → Does functions honest languages before line text after → Knows before after
  does_knows before [] text after done = same_moment before after done.1
  does_knows before (byte ∷ bytes) text after done = request_knows before (request_of (byte ∷ bytes)) done.0 after done.1

  -- so it does where memory ran out
  pub spent_knows : (before : Moment) (request : Result Request Refusal) (after : Moment) → MayHaveCalled functions honest languages before request after → Knows before after
  spent_knows before (Ok (View view query)) after (inl same) = same_moment before after same
  spent_knows before (Ok (View view query)) after (inr asked) = by_query (is_updated (parameters_in query)) asked.1
    where
      by_query : (updating : Bool) → AskedBy functions honest languages updating before (view_query view query) after → Knows before after
      by_query false asked = ap (λ (w : World). w.functions) asked.same
      by_query true asked = elim asked.ends [
        | inl mapping ↦ ap (λ (w : World). w.functions) mapping.same
        | inr later ↦ elim later [
          | inl trying ↦ ap (λ (w : World). w.functions) trying.same
          | inr showing ↦ showing.brought.known
        ]
      ]
  spent_knows before other after same = same_moment before after same

  pub answers_know : (before : Moment) (e : Exchange) (after : Moment) → Answers functions honest languages before e after → Knows before after
  answers_know before e after (inl done) = does_knows before e.line e.text after done
  answers_know before e after (inr gave_up) = spent_knows before (request_of e.line) after gave_up.2
