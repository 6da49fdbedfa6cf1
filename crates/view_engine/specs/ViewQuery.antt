-- A view that is asked for, with the parameters of the query.
use Rattle.std.specs.Prelude.{ℕ, List, [], ◌∷◌, bytes_eq, if◌then◌else◌, Bool, true, false, Option, Some, None}
use Rattle.json_terms.specs.Json.{Json, object, no_members, members_of}
use Rattle.json_terms.specs.declared.term.Row.{Row}
use Rattle.design_docs.specs.declared.design.Reduce.{Reduce}
use Rattle.design_docs.specs.declared.design.Reduce.TheVariants as reduce
use Rattle.design_docs.specs.declared.design.View.{View}
use Rattle.child_pool.specs.ReduceTalk.{reduce_source}
use Rattle.query_args.specs.declared.query.Query.{Query}
use Rattle.query_args.specs.declared.query.Target.{Target}
use Rattle.query_args.specs.declared.query.Target.TheVariants as target
use Rattle.query_args.specs.Query.{query_of}
use Rattle.view_model.specs.Groups.{picked_groups}
use Rattle.view_engine.specs.declared.request.Request.{Request}
use Rattle.view_engine.specs.declared.request.Request.TheVariants as request
use Rattle.view_engine.specs.declared.request.ViewName.{ViewName}

pub record ViewQuery : Type 0 where
  -- the names of its design document, without `_design/`, and its own
  pub design : List ℕ
  pub view : List ℕ
  -- the parameters, where a query is given
  pub query : Option (List (List ℕ × Json))

abbrev pub view_query : ViewName → Option (List (List ℕ × Json)) → ViewQuery
view_query name query = record { design = name.design; view = name.view; query = query }

-- the request that asks for it
abbrev pub view_request : ViewQuery → Request
view_request asked = request.View (record { design = asked.design; view = asked.view }) asked.query

-- no query counts as one without parameters
abbrev pub parameters_in : Option (List (List ℕ × Json)) → Json
parameters_in None = object no_members
parameters_in (Some parameters) = object (members_of parameters)

abbrev pub parameters_of : ViewQuery → Json
parameters_of asked = parameters_in asked.query

-- the reduce of the view with this name, or none
abbrev pub reduce_named : List ℕ → List View → Reduce
reduce_named name [] = reduce.Absent
reduce_named name (view ∷ views) = if bytes_eq view.name name then view.reduce else reduce_named name views

abbrev pub has_reduce : Reduce → Bool
has_reduce reduce.Absent = false
has_reduce (reduce.Builtin kind) = true
has_reduce (reduce.Source source) = true

-- the view that is asked for, of a design with these views, has a reduce or none
abbrev pub target_for : List View → ViewQuery → Target
target_for views asked = target.View (has_reduce (reduce_named asked.view views))

abbrev pub query_for : List View → ViewQuery → Query
query_for views asked = query_of (target_for views asked) (parameters_of asked)

-- the sources that a query of these rows asks a query server to reduce by: that of this reduce, where the query is reduced and picks a group
abbrev pub source_for : List (List Row) → Reduce → List (List ℕ)
source_for [] reduce = []
source_for (group ∷ groups) reduce = reduce_source reduce

abbrev pub asked_sources : Query → Reduce → List Row → List (List ℕ)
asked_sources query reduce rows = if query.reduced then source_for (picked_groups query rows) reduce else []
