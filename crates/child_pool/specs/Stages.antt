-- The stages in which a session is made ready: reset, and then one source after another.
use Rattle.std.specs.Prelude.{ℕ, zero, suc, List, [], ◌∷◌, ◌++◌, slice_index_or, Bool, true, false, Result, Ok, Err}
use Rattle.view_ports.specs.declared.command.Command.{Command}
use Rattle.view_ports.specs.declared.command.Command.TheVariants.{Reset, AddFun}
use Rattle.view_ports.specs.Calls.{Call}
use Rattle.view_ports.specs.Functions.{Functions}
use Rattle.query_protocol.specs.declared.reply.Reply.{Reply}
use Rattle.query_protocol.specs.declared.reply.Reply.TheVariants.{Log, Yes, Rows, Value, Compile}
use Rattle.child_pool.specs.declared.pool_fault.PoolFault.{PoolFault}
use Rattle.child_pool.specs.declared.pool_fault.PoolFault.TheVariants as fault
use Rattle.child_pool.specs.Histories.{course}
use Rattle.child_pool.specs.Jobs.{Job}
use Rattle.child_pool.specs.Refused.{Refused, TryRefused}
use Rattle.child_pool.specs.Sessions.{IsTold}
use Rattle.child_pool.specs.Talk.{Due, start_child, AreTurns, asks}
use Rattle.child_pool.specs.Tries.{AllAnswered, HasFailedIn, Prompt}

-- what is said at a stage
abbrev pub stage_command : List (List ℕ) → ℕ → Command
stage_command sources zero = Reset
stage_command sources (suc told) = AddFun (slice_index_or sources told [])

-- the turns of the stages before this one
abbrev pub told_turns : ℕ → List (List ℕ) → ℕ → List Due
told_turns slot sources zero = []
told_turns slot sources (suc stage) = told_turns slot sources stage ++ asks slot (stage_command sources stage) 0

-- what is due before this stage with a fresh child
abbrev pub anew : ℕ → List (List ℕ) → ℕ → List Due
anew slot sources stage = start_child slot ∷ told_turns slot sources stage

-- an answer ends a stage, but a complaint that the source doesn't compile
abbrev pub told_by : Reply → Result Bool PoolFault
told_by Compile = Err fault.Compile
told_by Log = Ok true
told_by Yes = Ok true
told_by (Rows rows) = Ok true
told_by (Value value) = Ok true

module _ (functions : List ℕ → Functions) (honest : List ℕ → Type 0) where
  -- after some stages: this one is reached in this course, or a call failed, or there is a refusal
  abbrev pub AfterStages : Job → ℕ → ℕ → List Due → Result Bool PoolFault → List Call → List Call → List Call → Type 0
  AfterStages job slot stage dues (Ok true) before added now = IsTold functions honest job.path job.sources stage slot now × AreTurns dues (course added)
  AfterStages job slot stage dues (Ok false) before added now = HasFailedIn dues added
  AfterStages job slot stage dues (Err f) before added now = TryRefused functions honest job slot dues f before added

  -- the same after two tries of each prompt at most
  abbrev pub AfterAttempts : Job → ℕ → ℕ → List Prompt → Type 0 → Result (Unit {0}) PoolFault → List Call → List Call → List Call → Type 0
  AfterAttempts job slot stage prompts rose (Ok done) before added now = IsTold functions honest job.path job.sources stage slot now × AllAnswered rose prompts added
  AfterAttempts job slot stage prompts rose (Err f) before added now = Refused functions honest job prompts rose f before added
