-- What is known of a view request before any server is asked, and what its refusals are met as.
use Rattle.std.specs.Prelude.{◌≡◌, ◌≢◌, ◌≤◌, ℕ, List, [], Bool, length, slice_index_or, Some, None}
use Rattle.json_terms.specs.Json.{Json}
use Rattle.json_terms.specs.Seen.{json}
use Rattle.json_terms.specs.declared.term.Row.{Row}
use Rattle.design_docs.specs.declared.design.Design.{Design}
use Rattle.design_docs.specs.declared.design.View.{View}
use Rattle.design_docs.specs.Design.{design_term, language_of, map_sources, source_of, views_of}
use Rattle.view_ports.specs.Functions.{source_limit}
use Rattle.child_pool.specs.declared.pool_fault.PoolFault.{PoolFault}
use Rattle.child_pool.specs.declared.pool_fault.PoolFault.TheVariants as fault
use Rattle.child_pool.specs.Languages.{path_in}
use Rattle.child_pool.specs.ReduceTalk.{reduce_in}
use Rattle.query_args.specs.declared.fault.QueryFault.{QueryFault}
use Rattle.query_args.specs.declared.fault.QueryFault.TheVariants as query
use Rattle.view_engine.specs.declared.halt.Halt.{Halt}
use Rattle.view_engine.specs.declared.halt.Halt.TheVariants.{Refused, Stopped}
use Rattle.view_engine.specs.declared.halt.StepFault.TheVariants.{NoMemory}
use Rattle.view_engine.specs.declared.refusal.Refusal.TheVariants as refusal
use Rattle.doc_file.specs.declared.fault.DocFault.TheVariants as doc
use Rattle.design_docs.specs.History.{Write, live_document}
use Rattle.tree_index.specs.declared.fault.IndexFault.TheVariants as index
use Rattle.tree_updater.specs.declared.fault.UpdateFault.{UpdateFault}
use Rattle.tree_updater.specs.declared.fault.UpdateFault.TheVariants as update
use Rattle.tree_updater.specs.Follows.{IsFileFault}
use Rattle.view_engine.specs.Halts.{halted_as}
use Rattle.view_engine.specs.World.{of_history}
use Rattle.view_engine.specs.View.{design_id, rows_in, view_refusal}
use Rattle.view_engine.specs.ViewQuery.{ViewQuery, parameters_of, reduce_named}
use Rattle.query_args.specs.Query.{is_updated}

-- the source of the view in a place
abbrev pub source_at : List View → ℕ → List ℕ
source_at views place = slice_index_or (map_sources views) place []

-- the rows in this place are those of the view with this name, whatever the rows are
abbrev pub ShowsRows : List View → List ℕ → ℕ → Type 0
ShowsRows views name place = (rows : List (List Row)) → length rows ≡ length views → rows_in views rows name ≡ Some (slice_index_or rows place [])

-- the view in this place has the reduce of the view with this name
abbrev pub HasReduce : List View → List ℕ → ℕ → Type 0
HasReduce views name place = reduce_in views place ≡ reduce_named name views

-- the request isn't refused yet: the design document is live, the view has this place in its design, the language has a path, and the
-- index is to be brought up to date first or not
pub record IsPlan (updating : Bool) (languages : List (List ℕ × List ℕ)) (history : List Write) (name : ViewQuery) (id : List ℕ) (design : Design) (place : ℕ) (path : List ℕ) : Type 0 where
  pub document : Json
  pub live : live_document history (design_id name.design) ≡ Some document
  pub source_is : source_of name.view document ≡ Some (source_at design.views place)
  pub path_is : path_in languages (language_of document) ≡ Some path
  pub language : design.language ≡ language_of document
  pub views : design.views ≡ views_of document
  pub term : json design.term ≡ design_term document
  pub shown : ShowsRows design.views name.view place
  pub few : length design.views ≤ source_limit
  pub reduced : HasReduce design.views name.view place
  pub id_is : id ≡ design_id name.design
  pub updates : is_updated (parameters_of name) ≡ updating
  pub accepted : view_refusal languages (of_history history) name ≡ None

-- a pool's refusal, as a request meets it
abbrev pub met_by_pool : List ℕ → PoolFault → Halt
met_by_pool id fault.ServerFault = Refused refusal.ServerFault
met_by_pool id (fault.BadReply line) = Refused (refusal.ServerReply line)
met_by_pool id fault.Compile = Refused (refusal.CompilationError id)
met_by_pool id fault.NoMemory = Stopped NoMemory
met_by_pool id fault.UnknownLanguage = Stopped NoMemory

-- a refusal of the query
abbrev pub met_by_query : QueryFault → Halt
met_by_query query.NoMemory = Stopped NoMemory
met_by_query other = Refused (refusal.BadQuery other)

-- an update's refusal: a fault of a file is named alike, be it of the documents or of an index
abbrev pub met_by : List ℕ → UpdateFault → Halt
met_by id (update.Pool f) = met_by_pool id f
met_by id (update.Docs f) = halted_as (doc.Gate f)
met_by id (update.Index (index.Store f)) = halted_as (doc.Gate f)
met_by id (update.Index other) = Stopped NoMemory
met_by id update.NoMemory = Stopped NoMemory

-- how the update of a view may end, whose language is known
abbrev pub IsUpdateFault : UpdateFault → Type 0
IsUpdateFault f = IsFileFault f × (f ≢ update.Pool fault.UnknownLanguage)
