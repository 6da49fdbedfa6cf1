-- What is asked of the query servers as an index is brought up to date: documents are mapped, and then values of reduces are wanted.
use Rattle.std.specs.Prelude.{◌≡◌, ◌≤◌, ℕ, List, Result, Ok, Err}
use Rattle.json_terms.specs.Json.{Json}
use Rattle.view_ports.specs.Faults.{RoseBy}
use Rattle.view_ports.specs.declared.servers.Servers.{Ghosts as Servers}
use Rattle.design_docs.specs.declared.design.Design.{Design}
use Rattle.child_pool.specs.declared.pool.Pool.{Pool}
use Rattle.child_pool.specs.declared.pool_fault.PoolFault.{PoolFault}
use Rattle.child_pool.specs.declared.pool_fault.PoolFault.TheVariants.{ServerFault}
use Rattle.child_pool.specs.PoolCalls.{StaysAsMade}
use Rattle.child_pool.specs.ReduceTalk.{reduce_sources}
use Rattle.child_pool.specs.Reductions.{FailsReducing, Reduces}
use Rattle.row_exchange.specs.declared.doc_rows.DocRows.{DocRows}
use Rattle.change_mapper.specs.declared.fault.MappingFault.{MappingFault}
use Rattle.change_mapper.specs.declared.fault.MappingFault.TheVariants as mapping
use Rattle.change_mapper.specs.Mapped.{HasMappedSome}
use Rattle.tree_updater.specs.declared.fault.UpdateFault.{UpdateFault}
use Rattle.tree_updater.specs.declared.fault.UpdateFault.TheVariants.{NoMemory}
use Rattle.tree_updater.specs.Faults.{by_mapping, by_pool}

-- the pool refused a reduce, with a fault that is told, or gave all values, and then it told none
abbrev pub IsMetBy : {T : Type 0} → Result (Unit {0}) PoolFault → Result T UpdateFault → Type 0
IsMetBy (Ok done) result = (fault : PoolFault) → result ≡ Err (by_pool fault) → result ≡ Err NoMemory
IsMetBy (Err fault) result = result ≡ Err (by_pool fault)

module _ {C : Type 0} (s : Servers C) (servers servers' : C) (pool pool' : Pool) (design : Design) where
  -- values by the reduces of the design's views were asked for, and had, or a fault was met
  abbrev pub HasReduced : Result (Unit {0}) PoolFault → Type 0
  HasReduced (Ok done) = Reduces s servers servers' pool pool' design.language (reduce_sources design.views)
  HasReduced (Err fault) = FailsReducing s servers servers' pool pool' design.language (reduce_sources design.views) fault

module _ {C : Type 0} (s : Servers C) (servers servers' : C) (pool pool' : Pool) (design : Design) where
  -- where the documents were mapped, values of reduces were asked for
  abbrev pub ThenReduces : {T : Type 0} → C → Pool → Result (List DocRows) MappingFault → Result T UpdateFault → Type 0
  ThenReduces between pool_between (Err fault) result = (result ≡ Err (by_mapping fault)) × (servers' ≡ between) × (pool' ≡ pool_between)
  ThenReduces between pool_between (Ok rows) result =
      (reduced : Result (Unit {0}) PoolFault) × HasReduced s between servers' pool_between pool' design reduced × IsMetBy reduced result

  -- the documents were asked for, all or the first ones, and then, where all were mapped, the reduces
  pub record HasAskedFor {T : Type 0} (documents : List (List (List ℕ × Json))) (result : Result T UpdateFault) : Type 0 where
    pub between : C
    pub pool_between : Pool
    pub mapped : Result (List DocRows) MappingFault
    pub maps : HasMappedSome s servers between pool pool_between design documents mapped
    pub keeps : StaysAsMade pool pool_between
    pub later : s.faults servers ≤ s.faults between
    pub twice : mapped ≡ Err (mapping.Pool ServerFault) → RoseBy 2 (s.faults servers) (s.faults between)
    pub reduces : ThenReduces between pool_between mapped result
