-- What a request line does, and what is answered.
use Rattle.std.specs.Prelude.{◌≡◌, ◌≢◌, ◌⊎◌, ℕ, List, [], ◌∷◌, Bool, true, false, Some, None, Result, Ok, Err}
use Rattle.json_terms.specs.Json.{Json, object, members_of}
use Rattle.design_docs.specs.Design.{language_of}
use Rattle.child_pool.specs.Languages.{path_in}
use Rattle.view_ports.specs.Functions.{Functions}
use Rattle.view_ports.specs.Lines.{ended}
use Rattle.view_ports.specs.Exchanges.{Exchange}
use Rattle.view_ports.specs.Calls.{Call}
use Rattle.child_pool.specs.declared.pool_fault.PoolFault.{PoolFault}
use Rattle.child_pool.specs.Jobs.{Job}
use Rattle.design_docs.specs.History.{Write, live_document}
use Rattle.view_engine.specs.declared.request.Request.{Request}
use Rattle.view_engine.specs.declared.request.Request.TheVariants.{Put, Delete, Get, View, Info, Cleanup}
use Rattle.view_engine.specs.declared.refusal.Refusal.{Refusal}
use Rattle.view_engine.specs.declared.refusal.Refusal.TheVariants.{NotBuiltYet, NoMemory}
use Rattle.view_engine.specs.World.{World, written}
use Rattle.view_engine.specs.Updating.{IsBrought}
use Rattle.view_engine.specs.Moments.{Called, Moment, with_world}
use Rattle.view_engine.specs.Refusals.{request_of, refusal_text}
use Rattle.view_engine.specs.Put.{DoesPut, IsPutRefused, put_write}
use Rattle.view_engine.specs.Delete.{DoesDelete, IsDeleteRefused, delete_write}
use Rattle.view_engine.specs.Get.{DoesGet, DoesInfo, get_refusal}
use Rattle.view_engine.specs.Cleanup.{DoesCleanup, IsPartlyCleaned}
use Rattle.view_engine.specs.Reducing.{Reduced, ReducedSomehow}
use Rattle.view_engine.specs.View.{design_id, own_reduces, due_reduces, view_refusal, DoesView, IsBrokenOff, IsGivenUp, IsJobOf, IsServed}
use Rattle.view_engine.specs.ViewQuery.{ViewQuery, parameters_in, view_query}
use Rattle.query_args.specs.Query.{is_updated}

-- no server was called
abbrev pub Acts : (World → World → Type 0) → Moment → Moment → Type 0
Acts Does before after = (world : World) × Does before.world world × (after ≡ with_world before world)

-- nothing has changed
abbrev pub ChangesNothing : Type 0 → Moment → Moment → Type 0
ChangesNothing Does before after = Does × (after ≡ before)

-- a refusal leaves everything as it was
abbrev pub Refuses : Moment → Refusal → List ℕ → Moment → Type 0
Refuses before refusal reply after = (reply ≡ refusal_text refusal) × (after ≡ before)

-- what a request writes where it is accepted
abbrev pub IsWrite : World → Result Request Refusal → Write → Type 0
IsWrite world (Ok (Put document)) write =
    let json = object (members_of document) in
    (reply : List ℕ) × ((new : World) × DoesPut world json reply new × (write ≡ put_write world json))
IsWrite world (Ok (Delete id given)) write = (reply : List ℕ) × ((new : World) × DoesDelete world id given reply new × (write ≡ delete_write world id))
IsWrite world other write = ⊥

-- how the mapping of documents ended that was not done: it was given up, or broken off
abbrev pub StopsMapping : Job → Moment → Moment → List Call → Type 0
StopsMapping job before after added = ((f : PoolFault) × IsGivenUp job before after f added) ⊎ IsBrokenOff job before after added

module _ (functions : List ℕ → Functions) (honest : List ℕ → Type 0) (languages : List (List ℕ × List ℕ)) where
  -- documents were mapped, all of them or some, and nothing else was asked; the world is as it was
  pub record EndsMapping (job : Job) (before after : Moment) : Type 0 where
    pub called : Called job before after (λ added. IsServed job before after added ⊎ StopsMapping job before after added)
    pub same : after.world ≡ before.world

  -- all were mapped, and values of what was to be written asked for; the world is as it was
  pub record EndsWriting (design : Json) (job : Job) (before after : Moment) : Type 0 where
    pub mapped : Moment
    pub served : Called job before mapped (IsServed job before mapped)
    pub asked : ReducedSomehow job.path (due_reduces design before.world) mapped after
    pub same : after.world ≡ before.world

  -- all were had, the world has that picture, wholly, and values of the view were asked for
  pub record EndsShowing (name : ViewQuery) (design : Json) (job : Job) (before after : Moment) : Type 0 where
    pub mapped : Moment
    pub served : Called job before mapped (IsServed job before mapped)
    pub between : Moment
    pub had : Reduced job.path (due_reduces design before.world) mapped between
    pub brought : IsBrought functions honest languages design job.path before.world after.world
    pub reduced : ReducedSomehow job.path (own_reduces name design after.world) between after

  -- the design of a view was asked for, with lawful calls
  pub record AskedFor (before : Moment) (name : ViewQuery) (after : Moment) : Type 0 where
    pub design : Json
    pub job : Job
    pub source : List ℕ
    pub is_job : IsJobOf languages before.world name design job source
    pub ends : EndsMapping job before after ⊎ EndsWriting design job before after ⊎ EndsShowing name design job before after

  -- values of a view were asked for, with lawful calls, from its index as it stands
  pub record AskedForValues (before : Moment) (name : ViewQuery) (after : Moment) : Type 0 where
    pub design : Json
    pub path : List ℕ
    pub live : live_document before.world.history (design_id name.design) ≡ Some design
    pub path_is : path_in languages (language_of design) ≡ Some path
    pub called : ReducedSomehow path (own_reduces name design before.world) before after
    pub same : after.world ≡ before.world

  -- by whether the query brings the index up to date
  abbrev pub AskedBy : Bool → Moment → ViewQuery → Moment → Type 0
  AskedBy true before name after = AskedFor before name after
  AskedBy false before name after = AskedForValues before name after

  -- what may have been done of a request that isn't answered, or for which memory ran out: only a view calls servers, and only where it isn't refused before
  abbrev pub MayHaveCalled : Moment → Result Request Refusal → Moment → Type 0
  MayHaveCalled before (Ok (View view query)) after =
      (after ≡ before) ⊎ ((view_refusal languages before.world (view_query view query) ≡ None) × AskedBy (is_updated (parameters_in query)) before (view_query view query) after)
  MayHaveCalled before other after = after ≡ before

  -- the world that a request makes where it takes effect: one with its write, or with the next picture of its design, or without some
  -- pictures that no live design has
  abbrev pub Makes : World → Result Request Refusal → World → Type 0
  Makes world (Ok (View view query)) after =
      (design : Json) × (path : List ℕ) × (view_refusal languages world (view_query view query) ≡ None) × (live_document world.history (design_id view.design) ≡ Some design) × (path_in languages (language_of design) ≡ Some path)
      × IsBrought functions honest languages design path world after × (is_updated (parameters_in query) ≡ true)
  Makes world (Ok Cleanup) after = IsPartlyCleaned world after
  Makes world request after = (write : Write) × IsWrite world request write × (after ≡ written world write)

  -- the refusal of a request before any server is asked
  abbrev pub IsRefusedAs : World → Request → Refusal → Type 0
  IsRefusedAs world (Put document) refusal = IsPutRefused world (object (members_of document)) refusal
  IsRefusedAs world (Delete id given) refusal = IsDeleteRefused world id given refusal
  IsRefusedAs world (Get id) refusal = get_refusal world id ≡ Some refusal
  IsRefusedAs world Info refusal = ⊥
  IsRefusedAs world Cleanup refusal = ⊥
  IsRefusedAs world (View view query) refusal = view_refusal languages world (view_query view query) ≡ Some refusal
  IsRefusedAs world other refusal = refusal ≡ NotBuiltYet

  -- what a request that isn't refused answers, and what is after it
  abbrev pub Performs : Moment → Request → List ℕ → Moment → Type 0
  Performs before (Put document) reply after = Acts (λ world new. DoesPut world (object (members_of document)) reply new) before after
  Performs before (Delete id given) reply after = Acts (λ world new. DoesDelete world id given reply new) before after
  Performs before (Get id) reply after = ChangesNothing (DoesGet before.world id reply) before after
  Performs before Info reply after = ChangesNothing (DoesInfo before.world reply) before after
  Performs before Cleanup reply after = Acts (λ world new. DoesCleanup world reply new) before after
  Performs before (View view query) reply after = DoesView functions honest languages before (view_query view query) reply after
  Performs before other reply after = ⊥

  abbrev pub DoesRequest : Moment → Result Request Refusal → List ℕ → Moment → Type 0
  DoesRequest before (Ok request) reply after = Performs before request reply after ⊎ ((refusal : Refusal) × IsRefusedAs before.world request refusal × Refuses before refusal reply after)
  DoesRequest before (Err refusal) reply after = Refuses before refusal reply after

  -- the same with the newline of the reply line
  abbrev pub DoesRequestText : Moment → Result Request Refusal → List ℕ → Moment → Type 0
  DoesRequestText before request text after = (reply : List ℕ) × DoesRequest before request reply after × (text ≡ ended reply)

  -- the text that a line is answered with: a reply line, or nothing for an empty line
  abbrev pub Does : Moment → List ℕ → List ℕ → Moment → Type 0
  Does before [] text after = (text ≡ []) × (after ≡ before)
  Does before (byte ∷ bytes) text after = DoesRequestText before (request_of (byte ∷ bytes)) text after

  -- memory may run out at any line that isn't empty
  abbrev pub GivesUp : Moment → List ℕ → List ℕ → Moment → Type 0
  GivesUp before line text after = (line ≢ []) × (text ≡ ended (refusal_text NoMemory)) × MayHaveCalled before (request_of line) after

  -- a step of a run
  abbrev pub Answers : Moment → Exchange → Moment → Type 0
  Answers before exchange after = Does before exchange.line exchange.text after ⊎ GivesUp before exchange.line exchange.text after
