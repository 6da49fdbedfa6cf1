-- What a view request does.
use Rattle.std.specs.Prelude.{◌≡◌, ◌≢◌, ◌⊎◌, ◌++◌, ℕ, max, min, List, [], ◌∷◌, map, length, codes, true, false, bytes_eq, nat_eq, if◌then◌else◌, Option, Some, None, option_and_then, option_map}
use Rattle.std.specs.List.{AllByRecursion}
use Rattle.json_terms.specs.Json.{Json}
use Rattle.design_docs.specs.Design.{language_of, map_sources, source_of, views_of}
use Rattle.view_ports.specs.Calls.{Call}
use Rattle.view_ports.specs.Faults.{Rose, RoseBy}
use Rattle.view_ports.specs.Functions.{Functions}
use Rattle.query_protocol.specs.CommandLines.{document_of}
use Rattle.child_pool.specs.declared.pool_fault.PoolFault.{PoolFault}
use Rattle.child_pool.specs.declared.pool_fault.PoolFault.TheVariants as fault
use Rattle.child_pool.specs.Firsts.{first_prompts}
use Rattle.child_pool.specs.Histories.{AllStops, talk}
use Rattle.child_pool.specs.Honesty.{SomeReduceFails, SomeSourceFails}
use Rattle.child_pool.specs.Jobs.{Job, reduce_job}
use Rattle.child_pool.specs.Languages.{path_in}
use Rattle.child_pool.specs.Mapping.{IsPart}
use Rattle.child_pool.specs.Outcomes.{IsCaused}
use Rattle.child_pool.specs.Pools.{NoneIsLeft, kept_of}
use Rattle.child_pool.specs.Prompts.{update_prompts}
use Rattle.child_pool.specs.ReduceTalk.{reduce_sources}
use Rattle.child_pool.specs.Talk.{AreCutShortIn, AreTurns, talk_of}
use Rattle.child_pool.specs.Tries.{AllAnswered, Prompt, StopsAt}
use Rattle.view_engine.specs.declared.refusal.Refusal.{Refusal}
use Rattle.view_engine.specs.declared.refusal.Refusal.TheVariants.{BadQuery, MissingNamedView, UnknownLanguage, CompilationError, ServerFault, ServerReply}
use Rattle.design_docs.specs.History.{live_document, mapped_after}
use Rattle.view_engine.specs.World.{World}
use Rattle.view_engine.specs.Updating.{picture_in, AreFit, IsBrought, IsSound}
use Rattle.view_engine.specs.Get.{get_refusal}
use Rattle.view_engine.specs.Moments.{Called, CalledReducing, Moment}
use Rattle.view_engine.specs.Reducing.{AreGivenUp, Reduced}
use Rattle.view_model.specs.Rows.{spoiled, view_rows}
use Rattle.view_model.specs.Since.{first}
use Rattle.json_terms.specs.Seen.{json}
use Rattle.json_terms.specs.declared.term.Row.{Row}
use Rattle.design_docs.specs.declared.design.View.{View}
use Rattle.view_model.specs.Answer.{IsAnswer}
use Rattle.view_model.specs.Values.{IsValueText}
use Rattle.query_args.specs.Faults.{query_fault}
use Rattle.query_args.specs.Query.{is_updated}
use Rattle.view_engine.specs.ViewQuery.{ViewQuery, asked_sources, parameters_of, query_for, reduce_named, target_for}
use Rattle.view_engine.specs.Refusals.{first_of, refusal_text}

-- the id of the design document with this name
abbrev pub design_id : List ℕ → List ℕ
design_id name = codes "_design/" ++ name

-- ---- refusals that come before any server is asked

abbrev pub no_view : Option (List ℕ) → Option Refusal
no_view None = Some MissingNamedView
no_view (Some source) = None

abbrev pub no_path : List ℕ → Option (List ℕ) → Option Refusal
no_path language None = Some (UnknownLanguage language)
no_path language (Some path) = None

-- the language of a design document must have a path
abbrev pub no_language : List (List ℕ × List ℕ) → Option Json → Option Refusal
no_language languages None = None
no_language languages (Some design) = no_path (language_of design) (path_in languages (language_of design))

-- the parameters must be a query of the view
abbrev pub bad_query : ViewQuery → Option Json → Option Refusal
bad_query name None = None
bad_query name (Some design) = option_map BadQuery (query_fault (target_for (views_of design) name) (parameters_of name))

abbrev pub view_refusal : List (List ℕ × List ℕ) → World → ViewQuery → Option Refusal
view_refusal languages world name =
    let design = live_document world.history (design_id name.design) in
    first_of
    (get_refusal world (design_id name.design) ∷ no_view (option_and_then (source_of name.view) design) ∷ bad_query name design ∷ no_language languages design ∷ [])

-- the text answers the query of a view, from its rows at a sequence: the values of its groups are by its own reduce
abbrev pub IsAnswerOf : Functions → Type 0 → List View → ViewQuery → ℕ → List Row → List ℕ → Type 0
IsAnswerOf functions honest views name = IsAnswer (IsValueText functions honest (reduce_named name.view views)) (query_for views name)

-- the rows of the view with this name, in the order of the views
abbrev pub rows_in : List View → List (List Row) → List ℕ → Option (List Row)
rows_in [] rows name = None
rows_in (view ∷ views) [] name = None
rows_in (view ∷ views) (rows ∷ others) name = if bytes_eq view.name name then Some rows else rows_in views others name

-- ---- what the query servers are asked for

-- the job of a view's design: its path, the sources of all its views, and the documents that were written since its picture and are
-- mapped; it reduces by no source. And the view's own source
pub record IsJobOf (languages : List (List ℕ × List ℕ)) (world : World) (name : ViewQuery) (design : Json) (job : Job) (source : List ℕ) : Type 0 where
  pub live : live_document world.history (design_id name.design) ≡ Some design
  pub source_is : source_of name.view design ≡ Some source
  pub path_is : path_in languages (language_of design) ≡ Some job.path
  pub sources : job.sources ≡ map_sources (views_of design)
  pub documents : job.documents ≡ map (λ entry. document_of entry.1) (mapped_after (picture_in world design).seq world.history)
  pub reduces : job.reduces ≡ []

-- the rows of the view in the design's picture, or none where there is no such view
abbrev pub or_no_rows : Option (List Row) → List Row
or_no_rows None = []
or_no_rows (Some rows) = rows

abbrev pub shown_rows : ViewQuery → Json → World → List Row
shown_rows name design world = or_no_rows (rows_in (views_of design) (picture_in world design).rows name.view)

-- the sources by which an update may ask for the values of what it writes: those of the design's reduces; none where nothing was written since
abbrev pub due_reduces : Json → World → List (List ℕ)
due_reduces design world = if nat_eq (picture_in world design).seq (length world.history) then [] else reduce_sources (views_of design)

-- and those that the answer to a query asks for values by, in a world with the design's picture
abbrev pub own_reduces : ViewQuery → Json → World → List (List ℕ)
own_reduces name design world = asked_sources (query_for (views_of design) name) (reduce_named name.view (views_of design)) (shown_rows name design world)

-- the prompts of an update, in the order in which they are asked: a child of the job's path that is kept isn't started again
abbrev pub prompts_of : Job → Moment → List Prompt
prompts_of job before = update_prompts job before.width (kept_of job.path before.started)

-- An update was done. Each prompt was answered within two tries; where no fault was counted the talk is that of an update which
-- maps all documents; and where there are some, the children that it used are kept, with those of its path that were kept before.
-- Without documents nothing is asked, and no child is started or stopped. The child that reduces is as it was.
pub record IsServed (job : Job) (before after : Moment) (added : List Call) : Type 0 where
  pub answered : AllAnswered (Rose before.faults after.faults) (prompts_of job before) added
  pub talked : AreTurns (talk_of job.sources job.documents before.width) (talk added) ⊎ Rose before.faults after.faults
  pub kept : job.documents ≢ [] → after.started ≡ Some (record { path = job.path; count = max (min before.width (length job.documents)) (kept_of job.path before.started) })
  pub idle : job.documents ≡ [] → after.started ≡ before.started
  pub reducer : after.reducer ≡ before.reducer

-- An update of some documents was given up with this fault. The prompts before the one at which that came were answered; of a
-- server's fault both tries of that one failed. Then all children were stopped, and nothing else was called. Where no fault was
-- counted the talk is the first turns of the update's, and one more line at most.
pub record IsGivenUp (job : Job) (before after : Moment) (f : PoolFault) (added : List Call) : Type 0 where
  pub some : job.documents ≢ []
  pub tried : List Call
  pub stops : List Call
  pub is : added ≡ stops ++ tried
  pub only : AllStops stops
  pub ends : StopsAt f (Rose before.faults after.faults) (prompts_of job before) tried
  pub talked : AreCutShortIn before.width (talk_of job.sources job.documents before.width) (talk added) ⊎ Rose before.faults after.faults
  pub stopped : NoneIsLeft before.width after.calls
  pub none_kept : (after.started ≡ None) × (after.reducer ≡ None)

-- An update was broken off behind the first of its documents, since memory ran out or the documents could not be read. Each prompt up
-- to there was answered within two tries, and the children that the update needs are kept, with those of its path that were kept
-- before.
pub record IsBrokenOff (job : Job) (before after : Moment) (added : List Call) : Type 0 where
  pub done : List (List (List ℕ × Json))
  pub left : List (List (List ℕ × Json))
  pub all : job.documents ≡ done ++ left
  pub some : done ≢ []
  pub reducer : after.reducer ≡ before.reducer
  pub answered : AllAnswered (Rose before.faults after.faults) (first_prompts job before.width (kept_of job.path before.started) done) added
  pub kept : after.started ≡ Some (record { path = job.path; count = max (min before.width (length job.documents)) (kept_of job.path before.started) })

-- the fault that is told by a refusal
abbrev pub fault_of : Refusal → PoolFault
fault_of (CompilationError id) = fault.Compile
fault_of ServerFault = fault.ServerFault
fault_of (ServerReply line) = fault.BadReply line
fault_of other = fault.NoMemory

module _ (functions : List ℕ → Functions) (honest : List ℕ → Type 0) where
  -- The answer to the query is printed, from the rows of the view in the design's picture and at its sequence. No row has a key or a value
  -- that is longer or deeper than a reply may hold.
  -- On an honest path they are those that mapping all documents afresh gives, as they were at that sequence, where the pictures stood.
  pub record PrintsRows (languages : List (List ℕ × List ℕ)) (name : ViewQuery) (design : Json) (path source : List ℕ) (before after : World) (reply : List ℕ) : Type 0 where
    pub rows : List Row
    pub shown : rows_in (views_of design) (picture_in after design).rows name.view ≡ Some rows
    pub parts : AllByRecursion (λ row. IsPart (json row.key) × IsPart (json row.value)) rows
    pub afresh : honest path → IsSound functions honest languages before → AreFit before.history → rows ≡ view_rows (functions path) source (first (picture_in after design).seq before.history)
    pub prints : IsAnswerOf (functions path) (honest path) (views_of design) name (picture_in after design).seq rows reply

  -- a refusal that is met while the servers are asked for a job, and its cause: on an honest path a source that doesn't compile, and
  -- elsewhere a complaint; two failed attempts; or a bad reply, which is none on an honest path
  abbrev pub IsMet : ViewQuery → Job → Moment → Moment → List Call → Refusal → Type 0
  IsMet name job before after added (CompilationError id) =
      (id ≡ design_id name.design) × IsCaused functions honest job added before.calls fault.Compile
      × (honest job.path → SomeSourceFails (functions job.path) job.sources ⊎ SomeReduceFails (functions job.path) job.reduces)
  IsMet name job before after added ServerFault = RoseBy 2 before.faults after.faults
  IsMet name job before after added (ServerReply line) = IsCaused functions honest job added before.calls (fault.BadReply line) × (honest job.path → ⊥)
  IsMet name job before after added other = ⊥

  -- a complaint of an honest path is right, where the pictures stood
  abbrev pub IsRightly : List (List ℕ × List ℕ) → Json → List ℕ → World → Type 0
  IsRightly languages design path world = honest path → IsSound functions honest languages world → AreFit world.history → spoiled (functions path) (views_of design) world.history ≡ true

  -- and there is none over a picture that stood
  abbrev pub IsNever : List (List ℕ × List ℕ) → List ℕ → World → Type 0
  IsNever languages path world = honest path → IsSound functions honest languages world → AreFit world.history → ⊥

  -- A refusal that was met as documents were mapped left the world as it was.
  pub record IsRefused (languages : List (List ℕ × List ℕ)) (name : ViewQuery) (design : Json) (job : Job) (before after : Moment) (reply : List ℕ) (added : List Call) : Type 0 where
    pub same : after.world ≡ before.world
    pub refusal : Refusal
    pub met : IsMet name job before after added refusal
    pub prints : reply ≡ refusal_text refusal
    pub given_up : IsGivenUp job before after (fault_of refusal) added
    pub spoils : (id : List ℕ) → refusal ≡ CompilationError id → IsRightly languages design job.path before.world

  -- A refusal that was met as values were asked for by sources of a path. A complaint is what `Complaint` says.
  pub record IsRefusedReducing (name : ViewQuery) (path : List ℕ) (reduces : List (List ℕ)) (Complaint : Type 0) (before after : Moment) (reply : List ℕ) (added now : List Call) : Type 0 where
    pub refusal : Refusal
    pub met : IsMet name (reduce_job path reduces) before after added refusal
    pub prints : reply ≡ refusal_text refusal
    pub given_up : AreGivenUp path reduces before after (fault_of refusal) added now
    pub complaint : (id : List ℕ) → refusal ≡ CompilationError id → Complaint

  -- the rows of the view are printed, with values by its own reduce; or a refusal was met as these were asked for
  abbrev pub IsAnswered : List (List ℕ × List ℕ) → ViewQuery → Json → List ℕ → List ℕ → World → Moment → Moment → List ℕ → Type 0
  IsAnswered languages name design path source world before after reply =
      (Reduced path (own_reduces name design after.world) before after × PrintsRows languages name design path source world after.world reply)
      ⊎ CalledReducing path (own_reduces name design after.world) before after (IsRefusedReducing name path (own_reduces name design after.world) (IsNever languages path world) before after reply)

  -- values of what was to be written were asked for, and the update is refused: the world is as it was
  pub record IsRefusedWriting (languages : List (List ℕ × List ℕ)) (name : ViewQuery) (design : Json) (path : List ℕ) (world : World) (before after : Moment) (reply : List ℕ) : Type 0 where
    pub same : after.world ≡ world
    pub called : CalledReducing path (due_reduces design world) before after (IsRefusedReducing name path (due_reduces design world) (IsRightly languages design path world) before after reply)

  -- they were had, and the index of the design is up to date; then the view is answered
  pub record IsBroughtUp (languages : List (List ℕ × List ℕ)) (name : ViewQuery) (design : Json) (path source : List ℕ) (world : World) (before after : Moment) (reply : List ℕ) : Type 0 where
    pub between : Moment
    pub had : Reduced path (due_reduces design world) before between
    pub brought : IsBrought functions honest languages design path world after.world
    pub answered : IsAnswered languages name design path source world between after reply

  -- all documents were mapped
  pub record IsMappedThen (languages : List (List ℕ × List ℕ)) (name : ViewQuery) (design : Json) (job : Job) (source : List ℕ) (before after : Moment) (reply : List ℕ) : Type 0 where
    pub mapped : Moment
    pub served : Called job before mapped (IsServed job before mapped)
    pub ends : IsRefusedWriting languages name design job.path before.world mapped after reply ⊎ IsBroughtUp languages name design job.path source before.world mapped after reply

  -- a view that isn't refused before any server is asked, and whose index is brought up to date
  pub record DoesUpdatedView (languages : List (List ℕ × List ℕ)) (before : Moment) (name : ViewQuery) (reply : List ℕ) (after : Moment) : Type 0 where
    pub updates : is_updated (parameters_of name) ≡ true
    pub accepted : view_refusal languages before.world name ≡ None
    pub design : Json
    pub job : Job
    pub source : List ℕ
    pub is_job : IsJobOf languages before.world name design job source
    pub ends : Called job before after (IsRefused languages name design job before after reply) ⊎ IsMappedThen languages name design job source before after reply

  -- a view whose index is read as it stands: nothing is mapped, and the world is as it was
  pub record DoesKeptView (languages : List (List ℕ × List ℕ)) (before : Moment) (name : ViewQuery) (reply : List ℕ) (after : Moment) : Type 0 where
    pub keeps : is_updated (parameters_of name) ≡ false
    pub accepted : view_refusal languages before.world name ≡ None
    pub design : Json
    pub path : List ℕ
    pub source : List ℕ
    pub live : live_document (before.world).history (design_id name.design) ≡ Some design
    pub source_is : source_of name.view design ≡ Some source
    pub path_is : path_in languages (language_of design) ≡ Some path
    pub same : after.world ≡ before.world
    pub answered : IsAnswered languages name design path source before.world before after reply

  abbrev pub DoesView : List (List ℕ × List ℕ) → Moment → ViewQuery → List ℕ → Moment → Type 0
  DoesView languages before name reply after = DoesUpdatedView languages before name reply after ⊎ DoesKeptView languages before name reply after
