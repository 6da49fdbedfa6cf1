-- What the calls of the pool promise.
use Rattle.std.specs.Prelude.{◌≡◌, ◌≤◌, ℕ, List, [], length, min, Option, Some, None, Result, Ok, Err, OnOk}
use Rattle.std.specs.List.{AllByRecursion}
use Rattle.json_terms.specs.Json.{Json}
use Rattle.design_docs.specs.declared.design.Design.{Design}
use Rattle.design_docs.specs.Design.{map_sources}
use Rattle.view_ports.specs.Calls.{Call, child}
use Rattle.view_ports.specs.Faults.{RoseBy}
use Rattle.view_ports.specs.declared.servers.Servers.{Ghosts as Servers}
use Rattle.child_pool.specs.declared.doc_rows.DocRowLists.{DocRowLists}
use Rattle.child_pool.specs.declared.pool.Pool.{Pool}
use Rattle.child_pool.specs.declared.pool_fault.PoolFault.{PoolFault}
use Rattle.child_pool.specs.declared.pool_fault.PoolFault.TheVariants.{ServerFault, UnknownLanguage}
use Rattle.child_pool.specs.Ends.{HasRisen}
use Rattle.child_pool.specs.Histories.{AllStops, Went, WentIn}
use Rattle.child_pool.specs.Jobs.{IsAmong, Job, job_of, reduce_job}
use Rattle.child_pool.specs.Languages.{path_in}
use Rattle.child_pool.specs.Pools.{AfterBatch, AfterMapping, AfterPreparing, AfterReadying, AfterTrying, AreStopped, AreThere, AreTold, HasItsChildren, StandReady, languages_of}
use Rattle.child_pool.specs.ReduceSlot.{AfterReset}
use Rattle.child_pool.specs.Updates.{AfterTries, AfterUpdate}

-- the path of a design's language, where the pool knows it
abbrev pub path_for : Pool → Design → Option (List ℕ)
path_for pool design = path_in (languages_of pool) design.language

-- a language without a path is refused
abbrev pub RefusesUnknown : {T : Type 0} → Pool → Design → Result T PoolFault → Type 0
RefusesUnknown pool design result = path_for pool design ≡ None → result ≡ Err UnknownLanguage

-- and while that is found out no server is called, and the pool stays as it was
abbrev pub RefusesIdly : {C T : Type 0} → C → C → Pool → Pool → Design → Result T PoolFault → Type 0
RefusesIdly old new pool pool' design result = path_for pool design ≡ None → (result ≡ Err UnknownLanguage) × (new ≡ old) × (pool' ≡ pool)

-- without documents there are no rows, no server is called, and the pool stays as it was
abbrev pub MapsNothing : {C : Type 0} → C → C → Pool → Pool → Result DocRowLists PoolFault → Type 0
MapsNothing old new pool pool' result = (result ≡ Ok []) × (new ≡ old) × (pool' ≡ pool)

-- the children from this slot on are as they were
abbrev pub AreLeft : ℕ → List Call → List Call → Type 0
AreLeft slots before now = (slot : ℕ) → slots ≤ slot → child slot now ≡ child slot before

-- the pool's languages and its width never change
pub record StaysAsMade (pool pool' : Pool) : Type 0 where
  pub languages : languages_of pool' ≡ languages_of pool
  pub width : pool'.width ≡ pool.width

module _ {C : Type 0} (s : Servers C) (old new : C) where
  -- How a call for a design ends: the count of faults never falls, and two attempts on one prompt failed only where two faults
  -- were counted. A language is unknown only where it has no path.
  pub record Ends {T : Type 0} (pool pool' : Pool) (design : Design) (result : Result T PoolFault) : Type 0 where
    pub keeps : StaysAsMade pool pool'
    pub later : s.faults old ≤ s.faults new
    pub twice : result ≡ Err ServerFault → RoseBy 2 (s.faults old) (s.faults new)
    pub unknown : result ≡ Err UnknownLanguage → path_for pool design ≡ None

  -- documents are mapped one after another by the child of slot 0, which is ready where there are any; where there are none it
  -- may be there or not
  abbrev pub MapsEach : List ℕ → List (List ℕ) → List (List (List ℕ × Json)) → Result DocRowLists PoolFault → Type 0
  MapsEach path sources documents result = (all : List (List (List ℕ × Json))) (slots kept : ℕ) (calls : List Call) → s.may_follow old calls
      → AllByRecursion (IsAmong all) documents → slots ≤ 1 → kept ≤ 1 → min 1 (length documents) ≤ slots
      → StandReady s.functions s.honest (job_of path sources all) slots kept calls
      → Went (s.may_follow new) (job_of path sources all) 0 calls
      (AfterMapping s.functions s.honest (job_of path sources all) slots kept documents (HasRisen s old new) result calls)

  -- all children are stopped, and nothing else is done
  abbrev pub StopsAll : Pool → Pool → Type 0
  StopsAll pool pool' = (job : Job) (calls : List Call) → s.may_follow old calls
      → WentIn (s.may_follow new) job pool.width calls (λ added now. AreStopped pool.width pool' now × AllStops added)

  -- a language without a path is refused, and then all children are stopped, and nothing else is done
  abbrev pub RefusesStopping : {T : Type 0} → Pool → Pool → Design → Result T PoolFault → Type 0
  RefusesStopping pool pool' design result = path_for pool design ≡ None → (result ≡ Err UnknownLanguage) × StopsAll pool pool'

  -- the children of the first slots are made ready, in rising order; the kept slots have a child of this path, and have one
  -- still where all went well; the children of the other slots are as they were
  abbrev pub ReadiesSlots : ℕ → ℕ → List ℕ → List (List ℕ) → Result (Unit {0}) PoolFault → Type 0
  ReadiesSlots slots kept path sources result = (width : ℕ) (documents : List (List (List ℕ × Json))) (calls : List Call) → slots ≤ width → s.may_follow old calls
      → AreThere path kept calls
      → WentIn (s.may_follow new) (job_of path sources documents) width calls
      (λ added now. AfterReadying s.functions s.honest (job_of path sources documents) kept slots (HasRisen s old new) result calls added now
      × OnOk result (AreThere path kept now × AreLeft slots calls now))

  -- The child that reduces is reset: that of this path where the pool keeps it, or else a fresh one. A refusal leaves the children as they
  -- are then.
  abbrev pub ResetsReducer : Pool → List ℕ → Pool → Result (Unit {0}) PoolFault → Type 0
  ResetsReducer pool path pool' result = (reduces : List (List ℕ)) (calls : List Call) → s.may_follow old calls → HasItsChildren pool calls
      → Went (s.may_follow new) (reduce_job path reduces) pool.width calls (AfterReset s.functions s.honest path reduces pool (HasRisen s old new) pool' result calls)

  module _ (pool : Pool) (design : Design) where
    -- the job of the design, by this path
    abbrev pub job_by : List ℕ → List (List (List ℕ × Json)) → Job
    job_by path documents = job_of path (map_sources design.views) documents

    -- so many children are made ready for the design, without what is done after a refusal
    abbrev pub Readies : ℕ → Pool → Result (Unit {0}) PoolFault → Type 0
    Readies slots pool' result = (path : List ℕ) (documents : List (List (List ℕ × Json))) (calls : List Call) → s.may_follow old calls
        → path_for pool design ≡ Some path → HasItsChildren pool calls
        → WentIn (s.may_follow new) (job_by path documents) pool.width calls
        (AfterTrying s.functions s.honest (job_by path documents) pool slots (HasRisen s old new) pool' result calls)

    -- so many children are made ready for the design
    abbrev pub Prepares : ℕ → Pool → Result (Unit {0}) PoolFault → Type 0
    Prepares slots pool' result = (path : List ℕ) (documents : List (List (List ℕ × Json))) (calls : List Call) → s.may_follow old calls
        → path_for pool design ≡ Some path → HasItsChildren pool calls
        → WentIn (s.may_follow new) (job_by path documents) pool.width calls
        (AfterPreparing s.functions s.honest (job_by path documents) pool slots (HasRisen s old new) pool' result calls)

    -- documents, each among those of the job, are mapped by the children of so many slots, which are ready; without what is
    -- done after a refusal
    abbrev pub Maps : List (List (List ℕ × Json)) → Result DocRowLists PoolFault → Type 0
    Maps documents result = (path : List ℕ) (all : List (List (List ℕ × Json))) (slots kept : ℕ) (calls : List Call) → s.may_follow old calls
        → path_for pool design ≡ Some path → AllByRecursion (IsAmong all) documents
        → slots ≤ pool.width → kept ≤ pool.width → min pool.width (length documents) ≤ slots
        → StandReady s.functions s.honest (job_by path all) slots kept calls
        → Went (s.may_follow new) (job_by path all) 0 calls
        (AfterMapping s.functions s.honest (job_by path all) slots kept documents (HasRisen s old new) result calls)

    -- documents, each among those of the job, are mapped by the children of so many slots, which have the job's sources, whether the pool
    -- remembers them or not: as many as the width at most, and as many at least as there are documents, where these are fewer than the width
    abbrev pub MapsBatch : List (List (List ℕ × Json)) → Pool → Result DocRowLists PoolFault → Type 0
    MapsBatch documents pool' result = (path : List ℕ) (all : List (List (List ℕ × Json))) (slots : ℕ) (calls : List Call) → s.may_follow old calls
        → path_for pool design ≡ Some path → AllByRecursion (IsAmong all) documents
        → slots ≤ pool.width → min pool.width (length documents) ≤ slots
        → HasItsChildren pool calls → AreTold s.functions s.honest (job_by path all) slots calls
        → WentIn (s.may_follow new) (job_by path all) pool.width calls
        (AfterBatch s.functions s.honest (job_by path all) pool.width slots documents (HasRisen s old new) pool' result calls)

    -- all documents of the job are mapped, and each prompt of the update is tried twice at most
    abbrev pub MapsAll : List (List (List ℕ × Json)) → Pool → Result DocRowLists PoolFault → Type 0
    MapsAll documents pool' result = (path : List ℕ) (calls : List Call) → s.may_follow old calls
        → path_for pool design ≡ Some path → HasItsChildren pool calls
        → WentIn (s.may_follow new) (job_by path documents) pool.width calls
        (λ added now. AfterTries s.functions s.honest (job_by path documents) pool (HasRisen s old new) pool' result calls added now
        × AfterUpdate s.functions s.honest (job_by path documents) pool.width (HasRisen s old new) pool' result calls added now)
