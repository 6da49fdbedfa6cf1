-- What the reduces of a request ask for, whole: from the pool that is lent for a talk to the pool that comes back.
use Rattle.std.specs.Prelude.{◌≡◌, ◌≢◌, ◌⊎◌, ◌≤◌, ◌++◌, ℕ, List, [], map, not, Option, Some, None}
use Rattle.std.specs.List.{AllByRecursion}
use Rattle.view_ports.specs.declared.command.Command.{Command}
use Rattle.view_ports.specs.declared.servers.Servers.{Ghosts as Servers}
use Rattle.view_ports.specs.Calls.{Call}
use Rattle.view_ports.specs.Faults.{RoseBy}
use Rattle.child_pool.specs.declared.pool.Pool.{Pool}
use Rattle.child_pool.specs.declared.pool.Started.{Started}
use Rattle.child_pool.specs.declared.pool_fault.PoolFault.{PoolFault}
use Rattle.child_pool.specs.declared.pool_fault.PoolFault.TheVariants.{NoMemory, ServerFault, UnknownLanguage}
use Rattle.child_pool.specs.Ends.{HasRisen}
use Rattle.child_pool.specs.Histories.{AllOn, AllStops, WentReducing}
use Rattle.child_pool.specs.Jobs.{reduce_job}
use Rattle.child_pool.specs.Languages.{path_in}
use Rattle.child_pool.specs.Outcomes.{IsCaused}
use Rattle.child_pool.specs.PoolCalls.{StaysAsMade}
use Rattle.child_pool.specs.Pools.{HasItsChildren, NoneIsLeft, is_reducer, languages_of, reducer_of, started_of}
use Rattle.child_pool.specs.ReduceSlot.{reset_prompts}
use Rattle.child_pool.specs.ReduceTalk.{IsReduction}
use Rattle.child_pool.specs.Reducing.{reduce_prompt}
use Rattle.child_pool.specs.Tries.{AllAnswered, Prompt, StopsAt}

-- the children that are kept: those that map, and the path of the one that reduces
pub record Children : Type 0 where
  pub started : Option Started
  pub reducer : Option (List ℕ)

abbrev pub children_of : Pool → Children
children_of pool = record { started = started_of pool; reducer = reducer_of pool }

-- the child of the slot is reset, after it is started where none of the path is kept, and then asked for each value
abbrev pub reduction_prompts : List ℕ → ℕ → Option (List ℕ) → List Command → List Prompt
reduction_prompts path slot reducer commands = reset_prompts slot (not (is_reducer path reducer)) ++ map (reduce_prompt slot) commands

module _ (path : List ℕ) (reduces : List (List ℕ)) (width : ℕ) (rose : Type 0) (before after : Children) where
  -- nothing was asked
  abbrev pub IsUnasked : List Call → Type 0
  IsUnasked added = (added ≡ []) × (after ≡ before)

  -- The child that reduces was reset and asked for values by these sources, and nothing else was called. Each prompt was answered within
  -- two tries. It is kept then, and so are those that map.
  pub record IsAsked (added : List Call) : Type 0 where
    pub commands : List Command
    pub some : commands ≢ []
    pub each : AllByRecursion (IsReduction reduces) commands
    pub answered : AllAnswered rose (reduction_prompts path width before.reducer commands) added
    pub own : AllOn width added
    pub kept : after ≡ record { started = before.started; reducer = Some path }

  -- all values that were asked for were had
  abbrev pub HasReduced : List Call → Type 0
  HasReduced added = IsUnasked added ⊎ IsAsked added

  -- The values were given up with this fault. The prompts before the one at which it came were answered. Then all children were stopped, and
  -- nothing else was called.
  pub record IsReducingGivenUp (f : PoolFault) (added now : List Call) : Type 0 where
    pub commands : List Command
    pub each : AllByRecursion (IsReduction reduces) commands
    pub tried : List Call
    pub stops : List Call
    pub is : added ≡ stops ++ tried
    pub only : AllStops stops
    pub own : AllOn width tried
    pub ends : StopsAt f rose (reduction_prompts path width before.reducer commands) tried
    pub stopped : NoneIsLeft width now
    pub none_kept : after ≡ record { started = None; reducer = None }

  -- a fault was met: the values were given up with it, or memory ran out between them
  abbrev pub HasFailedReducing : PoolFault → List Call → List Call → Type 0
  HasFailedReducing f added now = IsReducingGivenUp f added now ⊎ ((f ≡ NoMemory) × HasReduced added)

module _ {C : Type 0} (s : Servers C) (old new : C) (pool pool' : Pool) (language : List ℕ) (reduces : List (List ℕ)) where
  -- values were asked for by these sources of a language, and all were had; where there is no source nothing was asked
  pub record Reduces : Type 0 where
    pub idle : reduces ≡ [] → (new ≡ old) × (pool' ≡ pool)
    pub keeps : StaysAsMade pool pool'
    pub later : s.faults old ≤ s.faults new
    pub went : (path : List ℕ) (calls : List Call) → s.may_follow old calls → path_in (languages_of pool) language ≡ Some path → HasItsChildren pool calls
        → WentReducing (s.may_follow new) path reduces pool.width calls (λ added now. HasItsChildren pool' now
        × HasReduced path reduces pool.width (HasRisen s old new) (children_of pool) (children_of pool') added)

  -- or a fault was met, which has its cause among the calls; where there is no source it is want of memory, and nothing was asked or stopped
  pub record FailsReducing (f : PoolFault) : Type 0 where
    pub idle : reduces ≡ [] → (f ≡ NoMemory) × (new ≡ old) × (pool' ≡ pool)
    pub keeps : StaysAsMade pool pool'
    pub later : s.faults old ≤ s.faults new
    pub twice : f ≡ ServerFault → RoseBy 2 (s.faults old) (s.faults new)
    pub unknown : f ≡ UnknownLanguage → path_in (languages_of pool) language ≡ None
    pub went : (path : List ℕ) (calls : List Call) → s.may_follow old calls → path_in (languages_of pool) language ≡ Some path → HasItsChildren pool calls
        → WentReducing (s.may_follow new) path reduces pool.width calls (λ added now. HasItsChildren pool' now
        × HasFailedReducing path reduces pool.width (HasRisen s old new) (children_of pool) (children_of pool') f added now
        × IsCaused s.functions s.honest (reduce_job path reduces) added calls f)
