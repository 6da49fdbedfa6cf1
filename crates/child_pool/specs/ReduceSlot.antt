-- The child that reduces, on the slot at the width: it is reset.
use Rattle.std.specs.Prelude.{◌≡◌, ℕ, List, [], Bool, not, Some, Result, Ok, Err}
use Rattle.view_ports.specs.Calls.{Call}
use Rattle.view_ports.specs.Functions.{Functions}
use Rattle.child_pool.specs.declared.pool.Pool.{Pool}
use Rattle.child_pool.specs.declared.pool_fault.PoolFault.{PoolFault}
use Rattle.child_pool.specs.Jobs.{reduce_job}
use Rattle.child_pool.specs.Pools.{HasItsChildren, is_reducer, reducer_of}
use Rattle.child_pool.specs.Prompts.{slot_prompts}
use Rattle.child_pool.specs.Refused.{Refused}
use Rattle.child_pool.specs.Sessions.{HasTold}
use Rattle.child_pool.specs.Tries.{AllAnswered, Prompt}

-- the reset, of a fresh child or of the one that is there
abbrev pub reset_prompts : ℕ → Bool → List Prompt
reset_prompts slot fresh = slot_prompts slot [] fresh

-- a child is fresh unless the pool keeps one of this path
abbrev pub is_fresh : List ℕ → Pool → Bool
is_fresh path pool = not (is_reducer path (reducer_of pool))

module _ (functions : List ℕ → Functions) (honest : List ℕ → Type 0) where
  -- the pool keeps a child of this path that reduces, and this was reset
  abbrev pub IsReset : Pool → List ℕ → List Call → Type 0
  IsReset pool path calls = HasTold functions honest path [] pool.width calls × (reducer_of pool ≡ Some path)

  abbrev pub AfterReset : List ℕ → List (List ℕ) → Pool → Type 0 → Pool → Result (Unit {0}) PoolFault → List Call → List Call → List Call → Type 0
  AfterReset path reduces old rose pool (Ok done) before added now =
      IsReset pool path now × AllAnswered rose (reset_prompts old.width (is_fresh path old)) added × HasItsChildren pool now
  AfterReset path reduces old rose pool (Err f) before added now = Refused functions honest (reduce_job path reduces) (reset_prompts old.width (is_fresh path old)) rose f before added
