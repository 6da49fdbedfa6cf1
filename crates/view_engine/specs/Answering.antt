-- The reply line that answers the query of a view, and what is asked for it.
use Rattle.std.specs.Prelude.{◌≡◌, ◌≢◌, ◌⊎◌, ◌++◌, ℕ, List, Some, Result, Ok, Err, IfErr, OnErr, OnOk}
use Rattle.json_terms.specs.declared.term.Row.{Row}
use Rattle.design_docs.specs.declared.design.Design.{Design}
use Rattle.design_docs.specs.declared.design.Reduce.{Reduce}
use Rattle.view_ports.specs.declared.folder.Folder.{Ghosts as Folders}
use Rattle.view_ports.specs.declared.servers.Servers.{Ghosts as Servers}
use Rattle.view_ports.specs.Calls.{Call}
use Rattle.view_ports.specs.Functions.{Functions}
use Rattle.view_ports.specs.Lines.{ended}
use Rattle.query_args.specs.declared.query.Query.{Query}
use Rattle.child_pool.specs.declared.pool.Pool.{Pool}
use Rattle.child_pool.specs.declared.pool_fault.PoolFault.{PoolFault}
use Rattle.child_pool.specs.declared.pool_fault.PoolFault.TheVariants.{NoMemory}
use Rattle.child_pool.specs.Languages.{path_in}
use Rattle.child_pool.specs.Pools.{HasItsChildren, languages_of}
use Rattle.child_pool.specs.ReduceTalk.{reduce_in}
use Rattle.child_pool.specs.Reductions.{FailsReducing, Reduces}
use Rattle.node_file.specs.declared.cache.NodeCache.{NodeCache}
use Rattle.view_model.specs.declared.group_values.AnswerFault.{AnswerFault}
use Rattle.view_model.specs.declared.group_values.AnswerFault.TheVariants as answer
use Rattle.view_model.specs.Answer.{IsAnswer}
use Rattle.view_model.specs.Values.{IsValueText}
use Rattle.tree_index.specs.declared.fault.IndexFault.{IndexFault}
use Rattle.tree_index.specs.declared.index.Index.{Index}
use Rattle.tree_index.specs.Index.{seq_of}
use Rattle.tree_index.specs.RowsRead.{ReadsRows}
use Rattle.tree_updater.specs.Faults.{by_index}
use Rattle.view_engine.specs.declared.halt.Halt.{Halt}
use Rattle.view_engine.specs.declared.refusal.Refusal.TheVariants.{ServerFault}
use Rattle.view_engine.specs.Calls.{IsReplyLine}
use Rattle.view_engine.specs.Refusals.{refusal_text}
use Rattle.view_engine.specs.ViewPlan.{met_by, met_by_pool}
use Rattle.view_engine.specs.ViewQuery.{asked_sources}

-- want of memory has one name
abbrev pub fault_of_answer : AnswerFault PoolFault → PoolFault
fault_of_answer (answer.Values fault) = fault
fault_of_answer answer.NoMemory = NoMemory

-- the text answers a query, with values by this reduce
abbrev pub Answers : Functions → Type 0 → Reduce → Query → ℕ → List Row → List ℕ → Type 0
Answers functions honest reduce = IsAnswer (IsValueText functions honest reduce)

module _ {C : Type 0} (s : Servers C) (old new : C) (pool pool' : Pool) (design : Design) (place : ℕ) (query : Query) (seq : ℕ) (rows : List Row) where
  -- a line was appended that answers the query from these rows of the view in this place, by whatever path of its language
  pub record AppendsAnswer (out out' : List ℕ) : Type 0 where
    pub reply : List ℕ
    pub is : (path : List ℕ) (calls : List Call) → s.may_follow old calls → path_in (languages_of pool) design.language ≡ Some path → HasItsChildren pool calls
        → Answers (s.functions path) (s.honest path) (reduce_in design.views place) query seq rows reply
    pub line : IsReplyLine reply
    pub unlike : reply ≢ refusal_text ServerFault
    pub appended : out' ≡ out ++ ended reply

  -- all values were had
  abbrev pub HasAll : Type 0
  HasAll = Reduces s old new pool pool' design.language (asked_sources query (reduce_in design.views place) rows)

  -- they were given up, or memory ran out
  abbrev pub HasMet : PoolFault → Type 0
  HasMet f = FailsReducing s old new pool pool' design.language (asked_sources query (reduce_in design.views place) rows) f ⊎ ((f ≡ NoMemory) × HasAll)

  -- so the rows answer the query
  pub record Shows (out out' : List ℕ) (result : Result (Unit {0}) PoolFault) : Type 0 where
    pub ok : OnOk result (AppendsAnswer out out' × HasAll)
    pub err : IfErr result HasMet
    pub silent : OnErr result (out' ≡ out)

  -- the same, as the request meets it
  pub record AnswersRows (id out out' : List ℕ) (result : Result (Unit {0}) Halt) : Type 0 where
    pub ok : OnOk result (AppendsAnswer out out' × HasAll)
    pub err : IfErr result (λ halt. (f : PoolFault) × (halt ≡ met_by_pool id f) × HasMet f)
    pub silent : OnErr result (out' ≡ out)

-- what showing a view is lent and leaves
pub record Lent (F C : Type 0) : Type 0 where
  pub folder : F
  pub servers : C
  pub pool : Pool
  pub cache : NodeCache

abbrev pub lent : {F C : Type 0} → F → C → Pool → NodeCache → Lent F C
lent folder servers pool cache = record { folder = folder; servers = servers; pool = pool; cache = cache }

module _ {F C : Type 0} (f : Folders F) (s : Servers C) (old new : Lent F C) (design : Design) (place : ℕ) (query : Query) (index : Index) (id out out' : List ℕ) where
  -- where the rows are read, the query is answered from them; else nothing is asked or printed
  abbrev pub EndsReading : Result (List Row) IndexFault → Result (Unit {0}) Halt → Type 0
  EndsReading (Ok rows) result = AnswersRows s old.servers new.servers old.pool new.pool design place query (seq_of index) rows id out out' result
  EndsReading (Err fault) result = (result ≡ Err (met_by id (by_index fault))) × (new.servers ≡ old.servers) × (new.pool ≡ old.pool) × (out' ≡ out)

  -- the rows of the view are read from the index, and the query answered
  pub record ShowsView (result : Result (Unit {0}) Halt) : Type 0 where
    pub read : Result (List Row) IndexFault
    pub steps : ℕ
    pub reads : ReadsRows f index place old.folder new.folder old.cache new.cache 0 steps read
    pub ends : EndsReading read result
