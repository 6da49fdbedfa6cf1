-- What a prompt promises: a line is sent, and its answer is received behind log lines.
use Rattle.std.specs.Prelude.{◌≡◌, ℕ, List, [], ◌∷◌, length, Bool, Option, Result}
use Rattle.view_ports.specs.Calls.{Call}
use Rattle.view_ports.specs.Commands.{command}
use Rattle.view_ports.specs.declared.servers.Servers.{Ghosts as Servers}
use Rattle.query_protocol.specs.declared.reply.Kind.{Kind}
use Rattle.query_protocol.specs.declared.reply.Reply.{Reply}
use Rattle.child_pool.specs.declared.heard.Heard.{Heard}
use Rattle.child_pool.specs.declared.pool_fault.PoolFault.{PoolFault}
use Rattle.child_pool.specs.Causes.{kind_of}
use Rattle.child_pool.specs.Histories.{Went, says}
use Rattle.child_pool.specs.Jobs.{Job, IsLineOfJob, IsPromptOf}
use Rattle.child_pool.specs.Outcomes.{AfterLine, AfterPrompt, AfterSend}
use Rattle.child_pool.specs.Sessions.{IsInSession, IsIdle}

module _ {C : Type 0} (s : Servers C) (old new : C) (slot : ℕ) where
  -- a child that has answered each line is sent a line of the job
  abbrev pub Sends : List ℕ → Result Bool PoolFault → Type 0
  Sends line result = (job : Job) (sources : List (List ℕ)) (calls : List Call) → s.may_follow old calls
      → IsLineOfJob job line → IsIdle job.path sources slot calls
      → Went (s.may_follow new) job slot calls (AfterSend job sources line slot result)

  -- one line is received from a child that was sent a prompt and has printed so many log lines since
  abbrev pub Hears : Kind → ℕ → Result Heard PoolFault → Type 0
  Hears kind logs result = (job : Job) (sources : List (List ℕ)) (prompt : List ℕ) (calls : List Call) → s.may_follow old calls
      → kind ≡ kind_of (command prompt) (length sources) → IsPromptOf job sources (command prompt) → IsInSession job.path sources (prompt ∷ []) logs slot calls
      → Went (s.may_follow new) job slot calls (AfterLine s.functions s.honest job sources prompt logs slot result calls)

  -- the answer is received from a child that was just sent a prompt
  abbrev pub HearsReply : Kind → Result (Option Reply) PoolFault → Type 0
  HearsReply kind result = (job : Job) (sources : List (List ℕ)) (prompt : List ℕ) (calls : List Call) → s.may_follow old calls
      → kind ≡ kind_of (command prompt) (length sources) → IsPromptOf job sources (command prompt) → IsInSession job.path sources (prompt ∷ []) 0 slot calls
      → Went (s.may_follow new) job slot calls (AfterPrompt s.functions s.honest job sources prompt slot [] result calls)

  -- a child that has answered each line is sent a prompt, and its answer is received
  abbrev pub Asks : List ℕ → Kind → Result (Option Reply) PoolFault → Type 0
  Asks line kind result = (job : Job) (sources : List (List ℕ)) (calls : List Call) → s.may_follow old calls
      → kind ≡ kind_of (command line) (length sources) → IsLineOfJob job line → IsPromptOf job sources (command line) → IsIdle job.path sources slot calls
      → Went (s.may_follow new) job slot calls (AfterPrompt s.functions s.honest job sources line slot (says slot line ∷ []) result calls)
