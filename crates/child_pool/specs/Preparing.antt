-- The child of a slot is made ready.
use Rattle.std.specs.Prelude.{ℕ, List, Result, Ok, Err}
use Rattle.view_ports.specs.Calls.{Call}
use Rattle.view_ports.specs.Functions.{Functions}
use Rattle.child_pool.specs.declared.pool_fault.PoolFault.{PoolFault}
use Rattle.child_pool.specs.Jobs.{Job}
use Rattle.child_pool.specs.Refused.{Refused}
use Rattle.child_pool.specs.Sessions.{HasTold}
use Rattle.child_pool.specs.Tries.{AllAnswered, Prompt}

module _ (functions : List ℕ → Functions) (honest : List ℕ → Type 0) where
  -- the child has the job's sources, and the prompts were answered; or there is a refusal
  abbrev pub AfterPrepare : Job → ℕ → List Prompt → Type 0 → Result (Unit {0}) PoolFault → List Call → List Call → List Call → Type 0
  AfterPrepare job slot prompts rose (Ok done) before added now = HasTold functions honest job.path job.sources slot now × AllAnswered rose prompts added
  AfterPrepare job slot prompts rose (Err f) before added now = Refused functions honest job prompts rose f before added
