-- A refusal: its cause, and what was done before it.
use Rattle.std.specs.Prelude.{◌⊎◌, ℕ, List}
use Rattle.view_ports.specs.Calls.{Call}
use Rattle.view_ports.specs.Functions.{Functions}
use Rattle.child_pool.specs.declared.pool_fault.PoolFault.{PoolFault}
use Rattle.child_pool.specs.Jobs.{Job}
use Rattle.child_pool.specs.Histories.{course, talk}
use Rattle.child_pool.specs.Outcomes.{IsCaused}
use Rattle.child_pool.specs.Talk.{Due, AreCutShort, AreCutShortIn}
use Rattle.child_pool.specs.Tries.{Prompt, StopsAt}

module _ (functions : List ℕ → Functions) (honest : List ℕ → Type 0) where
  -- a try was refused: the refusal has its cause, and the course is the first of what is due and one line
  -- more at most
  pub record TryRefused (job : Job) (slot : ℕ) (dues : List Due) (f : PoolFault) (before added : List Call) : Type 0 where
    pub caused : IsCaused functions honest job added before f
    pub cut : AreCutShort slot dues (course added)

  -- prompts were refused: the refusal has its cause, and those before the one at which it came were answered
  pub record Refused (job : Job) (prompts : List Prompt) (rose : Type 0) (f : PoolFault) (before added : List Call) : Type 0 where
    pub caused : IsCaused functions honest job added before f
    pub stops : StopsAt f rose prompts added

  -- an update was refused: the refusal has its cause, and the talk is the first of what is due and one line more at most, where no fault
  -- was counted
  pub record RefusedIn (job : Job) (width : ℕ) (dues : List Due) (rose : Type 0) (f : PoolFault) (before added : List Call) : Type 0 where
    pub caused : IsCaused functions honest job added before f
    pub talked : AreCutShortIn width dues (talk added) ⊎ rose
