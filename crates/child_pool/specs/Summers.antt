-- The reduces of views as the values of lists of rows.
use Rattle.std.specs.Prelude.{◌≡◌, ◌≢◌, ℕ, List, [], map, Option, Some, None}
use Rattle.std.specs.Borrow.{MutBor}
use Rattle.json_terms.specs.Json.{Json}
use Rattle.json_terms.specs.declared.term.Row.{Row}
use Rattle.term_codec.specs.Spelling.{spelling}
use Rattle.design_docs.specs.declared.design.Reduce.{Reduce}
use Rattle.design_docs.specs.declared.design.Reduce.TheVariants as reduce
use Rattle.view_ports.specs.declared.servers.Servers.{Ghosts as Servers}
use Rattle.view_ports.specs.Calls.{Call}
use Rattle.view_ports.specs.Functions.{Functions}
use Rattle.view_ports.specs.ReduceRow.{reduce_row}
use Rattle.tree_laws.specs.Meaning.{Meaning}
use Rattle.builtin_reduces.specs.Seen.{values}
use Rattle.builtin_reduces.specs.Values.{value_of}
use Rattle.child_pool.specs.declared.child_summer.ChildSummer.{ChildSummer}
use Rattle.child_pool.specs.declared.pool.Pool.{Pool}
use Rattle.child_pool.specs.declared.pool_fault.PoolFault.{PoolFault}
use Rattle.child_pool.specs.declared.pool_fault.PoolFault.TheVariants.{NoMemory}
use Rattle.child_pool.specs.declared.reduce_slot.ReduceSlot.{ReduceSlot}
use Rattle.child_pool.specs.declared.reduce_slot.Stage.TheVariants.{GivenUp, Idle}
use Rattle.child_pool.specs.declared.summers.Summers.{Summers}
use Rattle.child_pool.specs.declared.view_sum.ViewSum.{ViewSum}
use Rattle.child_pool.specs.declared.view_sum.ViewSum.TheVariants as value
use Rattle.child_pool.specs.Languages.{path_in}
use Rattle.child_pool.specs.Pools.{languages_of}
use Rattle.child_pool.specs.ReduceTalk.{Compiles, Fails, Goes, Stands, reduce_in, reduce_source}
use Rattle.child_pool.specs.ViewSums.{view_sum_bytes}

-- the path, or an empty one where there is none
abbrev pub or_no_path : Option (List ℕ) → List ℕ
or_no_path None = []
or_no_path (Some path) = path

-- the value that the function of a path gives, and its bytes
abbrev pub child_meaning : Functions → List ℕ → Meaning Row Json
child_meaning functions source = record { value = λ rows. functions.reduce_of source (map reduce_row rows); spelled = spelling }

-- the value of rows by the reduce of a view
abbrev pub view_value : Functions → Reduce → List Row → ViewSum
view_value functions reduce.Absent rows = value.Nothing
view_value functions (reduce.Builtin kind) rows = value.Builtin (value_of kind (values rows))
view_value functions (reduce.Source source) rows = value.Child (functions.reduce_of source (map reduce_row rows))

abbrev pub view_meaning : Functions → Reduce → Meaning Row ViewSum
view_meaning functions reduce = record { value = view_value functions reduce; spelled = view_sum_bytes }

-- the slot was lent this pool and these servers, and nothing was asked of it yet
pub record IsSlotOver {C : Type 0} (pool : MutBor Pool) (servers : MutBor C) (slot : ReduceSlot C) : Type 0 where
  pub lent_pool : slot.pool.ghost_name ≡ pool.ghost_name
  pub same_pool : slot.pool.now ≡ pool.now
  pub lent_servers : slot.servers.ghost_name ≡ servers.ghost_name
  pub same_servers : slot.servers.now ≡ servers.now
  pub idle : slot.stage ≡ Idle

module _ {C : Type 0} (s : Servers C) where
  -- the functions of the path of a language
  abbrev pub functions_for : List ℕ → ReduceSlot C → Functions
  functions_for language slot = s.functions (or_no_path (path_in (languages_of slot.pool.now) language))

  -- the talk is with the children of an honest path
  pub record IsHonestTalk (language : List ℕ) (slot : ReduceSlot C) : Type 0 where
    pub path : List ℕ
    pub known : path_in (languages_of slot.pool.now) language ≡ Some path
    pub honest : s.honest path
    pub calls : List Call
    pub stands : Stands s language slot path calls

  -- ---- one view

  -- a summer of a source talks on, and else stays as it was made
  pub record ChildGoes (old new : ChildSummer C) : Type 0 where
    pub language : new.language ≡ old.language
    pub source : new.source ≡ old.source
    pub slot : Goes s old.language.now (reduce_source (reduce.Source old.source.now)) old.slot new.slot

  -- and a fault ended the talk: all children are stopped, or were
  pub record ChildFails (old new : ChildSummer C) (fault : PoolFault) : Type 0 where
    pub language : new.language ≡ old.language
    pub source : new.source ≡ old.source
    pub slot : Fails s old.language.now (reduce_source (reduce.Source old.source.now)) old.slot new.slot fault
    pub given_up : new.slot.stage ≡ GivenUp

  -- ---- the views of a design

  -- the reduce of the view to which the summers are turned
  abbrev pub reduce_of : Summers C → Reduce
  reduce_of summers = reduce_in summers.design.now.views summers.view

  -- on the paths that are honest, where a query server runs the reduce
  abbrev pub IsLawfulFor : Reduce → List ℕ → ReduceSlot C → Type 0
  IsLawfulFor reduce.Absent language slot = Unit {0}
  IsLawfulFor (reduce.Builtin kind) language slot = Unit {0}
  IsLawfulFor (reduce.Source source) language slot = IsHonestTalk language slot

  abbrev pub IsUsableFor : Reduce → List ℕ → ReduceSlot C → Type 0
  IsUsableFor reduce.Absent language slot = Unit {0}
  IsUsableFor (reduce.Builtin kind) language slot = Unit {0}
  IsUsableFor (reduce.Source source) language slot = Compiles s language source slot

  -- the source of that reduce alone is asked for, and nothing where no query server runs the reduce; each value is had
  pub record SummersGo (old new : Summers C) : Type 0 where
    pub design : new.design ≡ old.design
    pub view : new.view ≡ old.view
    pub slot : Goes s old.design.now.language (reduce_source (reduce_of old)) old.slot new.slot
    pub idle : reduce_source (reduce_of old) ≡ [] → new.slot ≡ old.slot

  -- and a fault ended the talk, where a query server runs the reduce; where none does, it is want of memory, and nothing was asked or stopped
  pub record SummersFail (old new : Summers C) (fault : PoolFault) : Type 0 where
    pub design : new.design ≡ old.design
    pub view : new.view ≡ old.view
    pub slot : Fails s old.design.now.language (reduce_source (reduce_of old)) old.slot new.slot fault
    pub given_up : reduce_source (reduce_of old) ≢ [] → new.slot.stage ≡ GivenUp
    pub idle : reduce_source (reduce_of old) ≡ [] → (fault ≡ NoMemory) × (new.slot ≡ old.slot)
