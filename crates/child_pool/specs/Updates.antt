-- Mapping all documents of a design.
use Rattle.std.specs.Prelude.{◌≢◌, ◌⊎◌, ℕ, List, [], length, max, min, Result, Ok, Err}
use Rattle.view_ports.specs.Calls.{Call}
use Rattle.view_ports.specs.Functions.{Functions}
use Rattle.child_pool.specs.declared.doc_rows.DocRowLists.{DocRowLists}
use Rattle.child_pool.specs.declared.pool.Pool.{Pool}
use Rattle.child_pool.specs.declared.pool_fault.PoolFault.{PoolFault}
use Rattle.child_pool.specs.Histories.{talk}
use Rattle.child_pool.specs.Jobs.{Job}
use Rattle.child_pool.specs.Pools.{AreKept, AreRowsOf, ForKept, GaveUp, HasGivenUp, HasItsChildren, IsKept, KeepsReducer}
use Rattle.child_pool.specs.Prompts.{update_prompts}
use Rattle.child_pool.specs.Sessions.{AllCompile}
use Rattle.child_pool.specs.Talk.{AreTurns, talk_of}
use Rattle.child_pool.specs.Tries.{AllAnswered}

-- where documents were mapped, the pool remembers as many children at least as there are slots and documents for them
abbrev pub RemembersThem : Job → ℕ → Pool → Type 0
RemembersThem job width pool = job.documents ≢ [] → AreKept pool job.path (min width (length job.documents))

module _ (functions : List ℕ → Functions) (honest : List ℕ → Type 0) where
  -- all documents of the job were mapped: the talk is that of an update with so many children where no fault was counted, and
  -- on an honest path all sources compile, unless there is no document
  pub record HasUpdated (job : Job) (width : ℕ) (rose : Type 0) (lists : DocRowLists) (added : List Call) : Type 0 where
    pub rows : AreRowsOf functions honest job.path job.sources job.documents lists
    pub compile : honest job.path → job.documents ≢ [] → AllCompile (functions job.path) job.sources
    pub talked : AreTurns (talk_of job.sources job.documents width) (talk added) ⊎ rose

  -- each prompt of the update was answered within two tries, and the pool remembers the children that it used and kept, and no others
  pub record HasTried (job : Job) (width kept : ℕ) (rose : Type 0) (pool : Pool) (added : List Call) : Type 0 where
    pub answered : AllAnswered rose (update_prompts job width kept) added
    pub remembers : job.documents ≢ [] → IsKept pool job.path (max (min width (length job.documents)) kept)

  -- the tries of an update, by a pool that remembered some children of its path; a refusal stops all children
  abbrev pub AfterTries : Job → Pool → Type 0 → Pool → Result DocRowLists PoolFault → List Call → List Call → List Call → Type 0
  AfterTries job old rose pool (Ok lists) before added now = ForKept old job.path (λ kept. HasTried job old.width kept rose pool added) × KeepsReducer old pool
  AfterTries job old rose pool (Err f) before added now =
      ForKept old job.path (λ kept. HasGivenUp functions honest job old.width (update_prompts job old.width kept) rose pool f before added now)

  -- the children that the pool remembers are there; a refusal stops all children
  abbrev pub AfterUpdate : Job → ℕ → Type 0 → Pool → Result DocRowLists PoolFault → List Call → List Call → List Call → Type 0
  AfterUpdate job width rose pool (Ok lists) before added now =
      HasItsChildren pool now × HasUpdated job width rose lists added × RemembersThem job width pool
  AfterUpdate job width rose pool (Err f) before added now =
      GaveUp functions honest job width (talk_of job.sources job.documents width) rose pool f before added now
