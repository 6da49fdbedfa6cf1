-- The reply to a view, from mapping all documents afresh.
use Rattle.std.specs.Prelude.{◌≡◌, ◌≢◌, ◌⊎◌, ℕ, List, [], length, map, if◌then◌else◌, Some, Ok}
use Rattle.json_terms.specs.Json.{Json}
use Rattle.json_terms.specs.Text.{text_of}
use Rattle.json_terms.specs.declared.term.Row.{Row}
use Rattle.design_docs.specs.Design.{language_of, source_of, views_of}
use Rattle.design_docs.specs.declared.design.Reduce.{Reduce}
use Rattle.design_docs.specs.declared.design.Reduce.TheVariants.{Absent, Builtin, Source}
use Rattle.design_docs.specs.declared.design.View.{View}
use Rattle.child_pool.specs.Languages.{path_in}
use Rattle.view_ports.specs.Exchanges.{Exchange}
use Rattle.view_ports.specs.Faults.{RoseBy}
use Rattle.view_ports.specs.Functions.{Functions}
use Rattle.view_ports.specs.Lines.{ended}
use Rattle.view_ports.specs.ReduceRow.{reduce_row}
use Rattle.query_args.specs.Query.{is_updated}
use Rattle.query_args.specs.declared.query.Query.{Query}
use Rattle.design_docs.specs.History.{Write, live_document}
use Rattle.view_model.specs.Answer.{answer}
use Rattle.view_model.specs.Rows.{spoiled, view_rows}
use Rattle.view_model.specs.Since.{first}
use Rattle.view_model.specs.Values.{builtin_text}
use Rattle.view_engine.specs.declared.refusal.Refusal.{Refusal}
use Rattle.view_engine.specs.declared.refusal.Refusal.TheVariants.{CompilationError, NoMemory, ServerFault}
use Rattle.view_engine.specs.Moments.{Moment}
use Rattle.view_engine.specs.Refusals.{refusal_text, request_of}
use Rattle.view_engine.specs.Steps.{Answers}
use Rattle.view_engine.specs.Updating.{picture_in, AreFit, IsSound}
use Rattle.view_engine.specs.View.{design_id, view_refusal, DoesView}
use Rattle.view_engine.specs.ViewQuery.{ViewQuery, parameters_of, query_for, reduce_named, view_request}
use Rattle.view_engine.specs.World.{World}

-- the text of the value of a group of rows; without a reduce no query is reduced, and no value is asked for
abbrev pub value_text : Functions → Reduce → List Row → List ℕ
value_text functions (Builtin kind) rows = builtin_text kind rows
value_text functions (Source source) rows = text_of (functions.reduce_of source (map reduce_row rows))
value_text functions Absent rows = []

-- the answer to a query of a view with this reduce and this map source: all documents are mapped, and their rows sorted, filtered and
-- reduced; its sequence is the number of writes
abbrev pub answer_afresh : Functions → Query → Reduce → List ℕ → List Write → List ℕ
answer_afresh functions query reduce source history = answer (value_text functions reduce) query (length history) (view_rows functions source history)

-- the same of the view that is named, among these views
abbrev pub named_answer : Functions → List View → ViewQuery → List ℕ → List Write → List ℕ
named_answer functions views name source history = answer_afresh functions (query_for views name) (reduce_named name.view views) source history

-- or, where the views can't be answered, a complaint about their design document
abbrev pub fresh_reply : Functions → List View → ViewQuery → List ℕ → List Write → List ℕ
fresh_reply functions views name source history =
    if spoiled functions views history then refusal_text (CompilationError (design_id name.design)) else named_answer functions views name source history

-- The reply to a view that is brought up to date is over all writes. Of one that is read as it stands it is the answer over the first ones,
-- up to the sequence of its design's picture.
abbrev pub due_reply : Functions → World → ViewQuery → Json → List ℕ → List ℕ
due_reply functions world name design source =
    if is_updated (parameters_of name)
    then fresh_reply functions (views_of design) name source world.history
    else named_answer functions (views_of design) name source (first (picture_in world design).seq world.history)

-- The reply names a fault of the servers, and their count of faults rose by two.
abbrev pub NamesFault : Moment → Moment → List ℕ → Type 0
NamesFault before after reply = (reply ≡ refusal_text ServerFault) × RoseBy 2 before.faults after.faults

-- The reply is the one that is due, or it names a fault of the servers in the request.
abbrev pub IsDueOrFault : List ℕ → Moment → Moment → List ℕ → Type 0
IsDueOrFault due before after reply = (reply ≡ due) ⊎ NamesFault before after reply

module _ (functions : List ℕ → Functions) (honest : List ℕ → Type 0) (languages : List (List ℕ × List ℕ)) where
  -- The view that is asked for is of this live design and has this map source. The path of its language is honest, the pictures of the world
  -- stand, and designs in it that differ have different signatures.
  pub record IsHonestViewOfSound (world : World) (name : ViewQuery) (design : Json) (path source : List ℕ) : Type 0 where
    pub live : live_document world.history (design_id name.design) ≡ Some design
    pub source_is : source_of name.view design ≡ Some source
    pub path_is : path_in languages (language_of design) ≡ Some path
    pub is_honest : honest path
    pub sound : IsSound functions honest languages world
    pub fit : AreFit world.history

  -- the text is the line of the refusal that a view meets before any server is asked
  abbrev pub IsRefusedWith : World → ViewQuery → List ℕ → Type 0
  IsRefusedWith world name text = (refusal : Refusal) × (view_refusal languages world name ≡ Some refusal) × (text ≡ ended (refusal_text refusal))

  -- The reply to a view on an honest path, over pictures that stand, is the one that is due, or it names a fault of the servers in the
  -- request.
  abbrev pub RepliesAreFresh : Type 0
  RepliesAreFresh =
      (before after : Moment) (name : ViewQuery) (reply : List ℕ) → DoesView functions honest languages before name reply after → (design : Json) (path source : List ℕ)
      → IsHonestViewOfSound before.world name design path source → IsDueOrFault (due_reply (functions path) before.world name design source) before after reply

  -- A line that asks for a view, on an honest path and over pictures that stand, is answered by what is due, or by a fault of the servers in
  -- the request, or it is refused as the definition refuses it, or memory runs out.
  abbrev pub IsFreshStep : Moment → Exchange → Moment → Type 0
  IsFreshStep before exchange after =
      (name : ViewQuery) → exchange.line ≢ [] → request_of exchange.line ≡ Ok (view_request name) → (design : Json) (path source : List ℕ)
      → IsHonestViewOfSound before.world name design path source
      → (exchange.text ≡ ended (refusal_text NoMemory)) ⊎ IsRefusedWith before.world name exchange.text
      ⊎ ((reply : List ℕ) × (exchange.text ≡ ended reply) × IsDueOrFault (due_reply (functions path) before.world name design source) before after reply)

  -- so is each line of a run
  abbrev pub StepsAreFresh : Type 0
  StepsAreFresh = (before after : Moment) (exchange : Exchange) → Answers functions honest languages before exchange after → IsFreshStep before exchange after
