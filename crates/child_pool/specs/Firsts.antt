-- An update may be made page by page: the first documents were mapped, and the next ones are.
use Rattle.std.specs.Prelude.{◌≡◌, ◌≢◌, ◌≤◌, ◌++◌, ◌∷◌, ℕ, List, [], length, max, min, Bool, true, false, Some, Result, Ok, Err}
use Rattle.json_terms.specs.Json.{Json}
use Rattle.design_docs.specs.declared.design.Design.{Design}
use Rattle.design_docs.specs.Design.{map_sources}
use Rattle.view_ports.specs.Calls.{Call}
use Rattle.view_ports.specs.Functions.{Functions}
use Rattle.view_ports.specs.declared.servers.Servers.{Ghosts as Servers}
use Rattle.child_pool.specs.declared.doc_rows.DocRowLists.{DocRowLists}
use Rattle.child_pool.specs.declared.pool.Pool.{Pool}
use Rattle.child_pool.specs.declared.pool_fault.PoolFault.{PoolFault}
use Rattle.child_pool.specs.Ends.{HasRisen}
use Rattle.child_pool.specs.Histories.{WentIn}
use Rattle.child_pool.specs.Jobs.{Job, job_of}
use Rattle.child_pool.specs.PoolCalls.{path_for, MapsAll, StaysAsMade}
use Rattle.child_pool.specs.Pools.{AreRowsOf, ForKept, HasItsChildren, IsKept, IsReady, KeepsReducer}
use Rattle.child_pool.specs.Prompts.{document_prompts, slots_prompts}
use Rattle.child_pool.specs.Tries.{AllAnswered, Prompt}

-- there are documents
abbrev pub has_some : List (List (List ℕ × Json)) → Bool
has_some [] = false
has_some (document ∷ documents) = true

-- how many slots the update of a job needs
abbrev pub slots_of : Job → ℕ → ℕ
slots_of job width = min width (length job.documents)

-- the prompts of the update up to these documents, the first ones of the job
abbrev pub first_prompts : Job → ℕ → ℕ → List (List (List ℕ × Json)) → List Prompt
first_prompts job width kept done = slots_prompts job.sources kept (slots_of job width) ++ document_prompts job.sources done

-- each prompt up to these documents was answered within two tries, and the pool remembers the children that it used and kept, and no others
pub record HasTriedFirst (job : Job) (width kept : ℕ) (done : List (List (List ℕ × Json))) (rose : Type 0) (pool : Pool) (added : List Call) : Type 0 where
  pub answered : AllAnswered rose (first_prompts job width kept done) added
  pub remembers : IsKept pool job.path (max (slots_of job width) kept)

module _ (functions : List ℕ → Functions) (honest : List ℕ → Type 0) where
  -- the first documents of the job were mapped, by a pool that remembered some children of its path: the children that the update needs are
  -- ready for the next ones
  pub record HasMappedFirst (job : Job) (old : Pool) (done : List (List (List ℕ × Json))) (rose : Type 0) (pool : Pool) (lists : DocRowLists) (added now : List Call) : Type 0 where
    pub is_ready : IsReady functions honest job (slots_of job old.width) pool now
    pub tried : ForKept old job.path (λ kept. HasTriedFirst job old.width kept done rose pool added)
    pub reducer : KeepsReducer old pool
    pub rows : AreRowsOf functions honest job.path job.sources done lists

module _ {C : Type 0} (s : Servers C) (old new : C) (pool pool' : Pool) (design : Design) where
  -- the first documents were mapped, in each update that begins with them
  abbrev pub MapsFirst : List (List (List ℕ × Json)) → DocRowLists → Type 0
  MapsFirst done lists = (rest : List (List (List ℕ × Json))) (path : List ℕ) (calls : List Call) → s.may_follow old calls
      → path_for pool design ≡ Some path → HasItsChildren pool calls
      → WentIn (s.may_follow new) (job_of path (map_sources design.views) (done ++ rest)) pool.width calls
      (HasMappedFirst s.functions s.honest (job_of path (map_sources design.views) (done ++ rest)) pool done (HasRisen s old new) pool' lists)

  -- the first documents of an update were mapped; where there are none, nothing was done
  pub record FirstAreMapped (done : List (List (List ℕ × Json))) (lists : DocRowLists) : Type 0 where
    pub idle : done ≡ [] → (new ≡ old) × (pool' ≡ pool) × (lists ≡ [])
    pub maps : done ≢ [] → MapsFirst done lists
    pub keeps : StaysAsMade pool pool'
    pub later : s.faults old ≤ s.faults new

  -- after some more, with these lists: the first ones up to there were mapped, or the whole update is refused, whatever comes behind them
  abbrev pub FollowsFirst : List (List (List ℕ × Json)) → DocRowLists → Result DocRowLists PoolFault → Type 0
  FollowsFirst done lists (Ok more) = FirstAreMapped done (lists ++ more)
  FollowsFirst done lists (Err fault) = (rest : List (List (List ℕ × Json))) → MapsAll s old new pool design (done ++ rest) pool' (Err fault)

module _ {C : Type 0} (s : Servers C) (now new : C) (pool pool' : Pool) (design : Design) where
  -- the next documents are mapped, of any update of which the first ones were, or, where it has not begun, none
  abbrev pub MapsNext : Bool → List (List (List ℕ × Json)) → Result DocRowLists PoolFault → Type 0
  MapsNext begun documents result = (old : C) (made : Pool) (done : List (List (List ℕ × Json))) (lists : DocRowLists) → begun ≡ has_some done
      → FirstAreMapped s old now made pool design done lists → FollowsFirst s old new made pool' design (done ++ documents) lists result

module _ {C : Type 0} (s : Servers C) where
  -- before anything is done the first documents were mapped, of which there are none
  abbrev pub BeginWithNone : Type 0
  BeginWithNone = (old : C) (pool : Pool) (design : Design) → FirstAreMapped s old old pool pool design [] []

  -- and where all were, the whole update was made
  abbrev pub EndWithAll : Type 0
  EndWithAll = (old new : C) (pool pool' : Pool) (design : Design) (documents : List (List (List ℕ × Json))) (lists : DocRowLists)
      → FirstAreMapped s old new pool pool' design documents lists → MapsAll s old new pool design documents pool' (Ok lists)
