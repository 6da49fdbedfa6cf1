-- What is promised of making a child's session ready, stage by stage.
use Rattle.std.specs.Prelude.{◌≡◌, ℕ, suc, List, [], ◌∷◌, ◌++◌, ◌+◌, length, Bool, false, Result}
use Rattle.json_terms.specs.Json.{Json}
use Rattle.view_ports.specs.Calls.{Call}
use Rattle.view_ports.specs.declared.servers.Servers.{Ghosts as Servers}
use Rattle.child_pool.specs.declared.pool_fault.PoolFault.{PoolFault}
use Rattle.child_pool.specs.Ends.{HasRisen}
use Rattle.child_pool.specs.Histories.{Went}
use Rattle.child_pool.specs.Jobs.{job_of}
use Rattle.child_pool.specs.Preparing.{AfterPrepare}
use Rattle.child_pool.specs.Sessions.{IsThere, IsTold}
use Rattle.child_pool.specs.Stages.{AfterAttempts, AfterStages, anew, stage_command}
use Rattle.child_pool.specs.Prompts.{begun, slot_prompts, stage_prompt, stage_prompts}
use Rattle.child_pool.specs.Talk.{Due, asks}

module _ {C : Type 0} (s : Servers C) (old new : C) (slot : ℕ) (path : List ℕ) (sources : List (List ℕ)) where
  -- after these calls the slot's child may be gone on with: it is told so far, unless a fresh one is started
  abbrev pub GoesOn : ℕ → Bool → List Call → Type 0
  GoesOn stage fresh calls = fresh ≡ false → IsTold s.functions s.honest path sources stage slot calls

  -- the turns of one stage
  abbrev pub stage_turns : ℕ → List Due
  stage_turns stage = asks slot (stage_command sources stage) 0

  -- one stage, from where the child is
  abbrev pub Tells : ℕ → Result Bool PoolFault → Type 0
  Tells stage result = (documents : List (List (List ℕ × Json))) (calls : List Call) → s.may_follow old calls
      → IsTold s.functions s.honest path sources stage slot calls
      → Went (s.may_follow new) (job_of path sources documents) slot calls
      (AfterStages s.functions s.honest (job_of path sources documents) slot (suc stage) (stage_turns stage) result calls)

  -- the first stages, with a fresh child
  abbrev pub StartsOver : ℕ → Result Bool PoolFault → Type 0
  StartsOver stages result = (documents : List (List (List ℕ × Json))) (calls : List Call) → s.may_follow old calls
      → Went (s.may_follow new) (job_of path sources documents) slot calls
      (AfterStages s.functions s.honest (job_of path sources documents) slot stages (anew slot sources stages) result calls)

  -- one stage in one attempt, with a fresh child or from where the child is
  abbrev pub Attempts : ℕ → Bool → Result Bool PoolFault → Type 0
  Attempts stage fresh result = (documents : List (List (List ℕ × Json))) (calls : List Call) → s.may_follow old calls → GoesOn stage fresh calls
      → Went (s.may_follow new) (job_of path sources documents) slot calls
      (AfterStages s.functions s.honest (job_of path sources documents) slot (suc stage) (begun fresh slot ++ stage_turns stage) result calls)

  -- one stage in two attempts at most
  abbrev pub Brings : ℕ → Bool → Result (Unit {0}) PoolFault → Type 0
  Brings stage fresh result = (documents : List (List (List ℕ × Json))) (calls : List Call) → s.may_follow old calls → GoesOn stage fresh calls
      → Went (s.may_follow new) (job_of path sources documents) slot calls
      (AfterAttempts s.functions s.honest (job_of path sources documents) slot (suc stage) (stage_prompt slot sources stage fresh ∷ []) (HasRisen s old new) result calls)

  -- all stages, in two attempts each at most
  abbrev pub TellsAll : Bool → Result (Unit {0}) PoolFault → Type 0
  TellsAll fresh result = (documents : List (List (List ℕ × Json))) (calls : List Call) → s.may_follow old calls → GoesOn 0 fresh calls
      → Went (s.may_follow new) (job_of path sources documents) slot calls
      (AfterAttempts s.functions s.honest (job_of path sources documents) slot (length sources + 1) (stage_prompts slot sources fresh (length sources + 1)) (HasRisen s old new) result calls)

  -- the slot's child is made ready
  abbrev pub PreparesSlot : Bool → Result (Unit {0}) PoolFault → Type 0
  PreparesSlot fresh result = (documents : List (List (List ℕ × Json))) (calls : List Call) → s.may_follow old calls
      → (fresh ≡ false → IsThere path slot calls)
      → Went (s.may_follow new) (job_of path sources documents) slot calls
      (AfterPrepare s.functions s.honest (job_of path sources documents) slot (slot_prompts slot sources fresh) (HasRisen s old new) result calls)
