-- What the steps of a session come to.
use Rattle.std.specs.Prelude.{◌≡◌, ◌⊎◌, ◌+◌, ℕ, List, [], ◌∷◌, ◌++◌, length, Bool, true, false, Option, Some, None, Result, Ok, Err}
use Rattle.json_terms.specs.Reading.{reading}
use Rattle.view_ports.specs.declared.command.Command.{Command}
use Rattle.view_ports.specs.declared.command.Command.TheVariants.{Reset, AddFun, MapDoc, Reduce, Rereduce, Other}
use Rattle.view_ports.specs.Calls.{Call, receive, Session, session, child, is_log, is_yes, sources_after}
use Rattle.view_ports.specs.Commands.{command}
use Rattle.view_ports.specs.Functions.{Functions}
use Rattle.view_ports.specs.Honest.{AnswersChild, is_complaint_read}
use Rattle.query_protocol.specs.declared.reply.Reply.{Reply}
use Rattle.child_pool.specs.declared.heard.Heard.{Heard}
use Rattle.child_pool.specs.declared.heard.Heard.TheVariants.{Failed, Log, Answer}
use Rattle.query_protocol.specs.Replies.{reply_of}
use Rattle.child_pool.specs.declared.pool_fault.PoolFault.{PoolFault}
use Rattle.child_pool.specs.declared.pool_fault.PoolFault.TheVariants as fault
use Rattle.child_pool.specs.Shown.{shown}
use Rattle.child_pool.specs.Jobs.{Job, IsAmong, IsPromptOf}
use Rattle.child_pool.specs.Histories.{FailsAfter, HasReceived, Turn, says, hears, last_heard, course}
use Rattle.child_pool.specs.Sessions.{IsInSession, IsIdle}
use Rattle.child_pool.specs.Causes.{IsBadReply, kind_of}

-- the command has this source, which is one of the job's
abbrev pub AsksSource : Job → List ℕ → Command → Type 0
AsksSource job source Reset = ⊥
AsksSource job source (AddFun added) = (added ≡ source) × IsAmong job.sources source
AsksSource job source (MapDoc document) = ⊥
AsksSource job source (Reduce reduced rows) = (reduced ≡ source) × IsAmong job.reduces source
AsksSource job source (Rereduce reduced values) = (reduced ≡ source) × IsAmong job.reduces source
AsksSource job source Other = ⊥

-- so many log lines came since the prompt, and nothing else
abbrev pub OnlyLogged : List ℕ → List (List ℕ) → List ℕ → ℕ → ℕ → List Call → List Call → Type 0
OnlyLogged path sources prompt logs slot added now = IsInSession path sources (prompt ∷ []) logs slot now × (course added ≡ [])

-- nothing was said, or this was said and one line was heard at most
abbrev pub StopsAfter : ℕ → List Turn → List Turn → Type 0
StopsAfter slot said turns = (turns ≡ []) ⊎ ((last : Option (List ℕ)) × (turns ≡ said ++ last_heard slot last))

-- after a line was sent, or the call failed; where memory ran out nothing was said
abbrev pub AfterSend : Job → List (List ℕ) → List ℕ → ℕ → Result Bool PoolFault → List Call → List Call → Type 0
AfterSend job sources line slot (Ok true) added now = (course added ≡ says slot line ∷ []) × IsInSession job.path sources (line ∷ []) 0 slot now
AfterSend job sources line slot (Ok false) added now = FailsAfter [] added
AfterSend job sources line slot (Err f) added now = (f ≡ fault.NoMemory) × (course added ≡ [])

module _ (functions : List ℕ → Functions) (honest : List ℕ → Type 0) where
  -- a line came from a child that was started by the job's path and whose calls all went well, in reply to a prompt of the job
  pub record IsReplyFor (job : Job) (st : Option Session) (line : List ℕ) : Type 0 where
    pub sources : List (List ℕ)
    pub prompt : List ℕ
    pub logs : ℕ
    pub is : st ≡ Some (session job.path sources (prompt ∷ []) logs true)
    pub asked : IsPromptOf job sources (command prompt)
    pub answers : AnswersChild functions honest st line

  -- a bad reply was received, and is shown so
  pub record WasBad (job : Job) (text : List ℕ) (st : Option Session) (line : List ℕ) : Type 0 where
    pub reply : IsReplyFor job st line
    pub bad : IsBadReply (command reply.prompt) (length reply.sources) reply.logs line
    pub as_shown : text ≡ shown line

  -- a child complained that one of the job's sources doesn't compile
  pub record WasComplaint (job : Job) (st : Option Session) (line : List ℕ) : Type 0 where
    pub reply : IsReplyFor job st line
    pub source : List ℕ
    pub asks : AsksSource job source (command reply.prompt)
    pub complains : is_complaint_read (reading line) ≡ true
    pub silent : is_log line ≡ false

  -- each refusal has its cause among the calls that were added
  abbrev pub IsCaused : Job → List Call → List Call → PoolFault → Type 0
  IsCaused job added before (fault.BadReply text) = HasReceived (WasBad job text) added before
  IsCaused job added before fault.Compile = HasReceived (WasComplaint job) added before
  IsCaused job added before fault.ServerFault = Unit {0}
  IsCaused job added before fault.UnknownLanguage = ⊥
  IsCaused job added before fault.NoMemory = Unit {0}

  -- the last call received the answer to a prompt, and the reply is what the answer says; before the answer these turns were
  -- added to the talk
  pub record Replied (path : List ℕ) (sources : List (List ℕ)) (prompt : List ℕ) (slot : ℕ) (said : List Turn) (reply : Reply) (added now : List Call) : Type 0 where
    pub line : List ℕ
    pub logs : ℕ
    pub earlier : List Call
    pub is : now ≡ receive slot (Some line) ∷ earlier
    pub reads : reply_of (kind_of (command prompt) (length sources)) line ≡ Some reply
    pub no_log : is_log line ≡ false
    pub asked : IsInSession path sources (prompt ∷ []) logs slot earlier
    pub answers : AnswersChild functions honest (child slot earlier) line
    pub idle : IsIdle path (sources_after (command prompt) (is_yes line) sources) slot now
    pub talked : course added ≡ said ++ hears slot line ∷ []

  -- after one line was received, or the call failed
  abbrev pub AfterLine : Job → List (List ℕ) → List ℕ → ℕ → ℕ → Result Heard PoolFault → List Call → List Call → List Call → Type 0
  AfterLine job sources prompt logs slot (Ok Failed) before added now = FailsAfter [] added
  AfterLine job sources prompt logs slot (Ok Log) before added now = OnlyLogged job.path sources prompt (logs + 1) slot added now
  AfterLine job sources prompt logs slot (Ok (Answer reply)) before added now = Replied job.path sources prompt slot [] reply added now
  AfterLine job sources prompt logs slot (Err f) before added now = IsCaused job added before f × StopsAfter slot [] (course added)

  -- after a prompt was answered, or a call failed
  abbrev pub AfterPrompt : Job → List (List ℕ) → List ℕ → ℕ → List Turn → Result (Option Reply) PoolFault → List Call → List Call → List Call → Type 0
  AfterPrompt job sources prompt slot said (Ok None) before added now = FailsAfter [] added ⊎ FailsAfter said added
  AfterPrompt job sources prompt slot said (Ok (Some reply)) before added now = Replied job.path sources prompt slot said reply added now
  AfterPrompt job sources prompt slot said (Err f) before added now = IsCaused job added before f × StopsAfter slot said (course added)
