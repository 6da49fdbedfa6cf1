-- What reduces by some sources reduces by more sources. A fresh child is reset for a reduction by any.
use Rattle.std.proofs.Common.{ℕ, List, [], ◌∷◌, ◌++◌, Bool, true, false, Option, Some, None, Result, Ok, Err, inl, inr}
use Rattle.view_ports.specs.declared.command.Command.{Command}
use Rattle.view_ports.specs.declared.command.Command.TheVariants.{Reset, AddFun, MapDoc, Reduce, Rereduce, Other}
use Rattle.view_ports.specs.Calls.{Call, start, send, receive, stop, Session, child}
use Rattle.view_ports.specs.Commands.{command}
use Rattle.view_ports.specs.Functions.{Functions}
use Rattle.child_pool.specs.declared.pool_fault.PoolFault.{PoolFault}
use Rattle.child_pool.specs.declared.pool_fault.PoolFault.TheVariants.{ServerFault, BadReply, Compile, UnknownLanguage, NoMemory}
use Rattle.child_pool.specs.Histories.{HasReceived, IsReceipt, Went}
use Rattle.child_pool.specs.Jobs.{AllLawful, IsAmong, IsCommandOf, IsLawful, IsPromptOf, Job, reduce_job}
use Rattle.child_pool.specs.Outcomes.{AsksSource, IsCaused, IsReplyFor, WasBad, WasComplaint}
use Rattle.child_pool.specs.Preparing.{AfterPrepare}
use Rattle.child_pool.specs.Stages.{AfterStages}
use Rattle.child_pool.specs.Talk.{Due}
use Rattle.child_pool.specs.Tries.{Prompt}

-- among more calls there is such a receipt too
receipt_wider : (P Q : Option Session → List ℕ → Type 0) → ((st : Option Session) (line : List ℕ) → P st line → Q st line) → (call : Call) (before : List Call) → IsReceipt P call before → IsReceipt Q call before
receipt_wider P Q f (receive slot (Some line)) before h = f (child slot before) line h
receipt_wider P Q f (receive slot None) before h = absurd h
receipt_wider P Q f (start slot path started) before h = absurd h
receipt_wider P Q f (send slot line sent) before h = absurd h
receipt_wider P Q f (stop slot) before h = absurd h

received_wider : (P Q : Option Session → List ℕ → Type 0) → ((st : Option Session) (line : List ℕ) → P st line → Q st line) → (added before : List Call) → HasReceived P added before → HasReceived Q added before
received_wider P Q f [] before h = absurd h
received_wider P Q f (call ∷ added) before h = elim h [
  | inl here ↦ inl (receipt_wider P Q f call (added ++ before) here)
  | inr there ↦ inr (received_wider P Q f added before there)
]

module _ (path : List ℕ) (few many : List (List ℕ)) (among : (source : List ℕ) → IsAmong few source → IsAmong many source) where
  -- a job that reduces by few sources, and one by many
  abbrev bare : Job
  bare = reduce_job path few

  abbrev wide : Job
  wide = reduce_job path many

  command_wider : (c : Command) → IsCommandOf bare c → IsCommandOf wide c
  command_wider Reset h = h
  command_wider (AddFun source) h = h
  command_wider (MapDoc document) h = h
  command_wider (Reduce source rows) h = (among source h.0, h.1)
  command_wider (Rereduce source values) h = (among source h.0, h.1)
  command_wider Other h = h

  prompt_wider : (sources : List (List ℕ)) (c : Command) → IsPromptOf bare sources c → IsPromptOf wide sources c
  prompt_wider sources Reset h = h
  prompt_wider sources (AddFun source) h = h
  prompt_wider sources (MapDoc document) h = h
  prompt_wider sources (Reduce source rows) h = (among source h.0, h.1)
  prompt_wider sources (Rereduce source values) h = (among source h.0, h.1)
  prompt_wider sources Other h = h

  asks_wider : (source : List ℕ) (c : Command) → AsksSource bare source c → AsksSource wide source c
  asks_wider source Reset h = h
  asks_wider source (AddFun added) h = h
  asks_wider source (MapDoc document) h = h
  asks_wider source (Reduce reduced rows) h = (h.0, among source h.1)
  asks_wider source (Rereduce reduced values) h = (h.0, among source h.1)
  asks_wider source Other h = h

  pub lawful_wider : (call : Call) (before : List Call) → IsLawful bare call before → IsLawful wide call before
  lawful_wider (start slot at started) before h = h
  lawful_wider (send slot line sent) before h = ((h.0.0, command_wider h.0.0 h.0.1, h.0.2), h.1, h.2)
  lawful_wider (receive slot line) before h = h
  lawful_wider (stop slot) before h = h

  all_lawful_wider : (slot : ℕ) (added before : List Call) → AllLawful bare slot added before → AllLawful wide slot added before
  all_lawful_wider slot [] before h = tt
  all_lawful_wider slot (call ∷ added) before h = (h.0, lawful_wider call (added ++ before) h.1, all_lawful_wider slot added before h.2)

  module _ (functions : List ℕ → Functions) (honest : List ℕ → Type 0) where
    reply_wider : (st : Option Session) (line : List ℕ) → IsReplyFor functions honest bare st line → IsReplyFor functions honest wide st line
    reply_wider st line h = record {
      sources = h.sources;
      prompt = h.prompt;
      logs = h.logs;
      is = h.is;
      asked = prompt_wider h.sources (command h.prompt) h.asked;
      answers = h.answers;
    }

    pub caused_wider : (f : PoolFault) (added before : List Call) → IsCaused functions honest bare added before f → IsCaused functions honest wide added before f
    unfolding reply_wider
    caused_wider (BadReply text) added before h = received_wider (WasBad functions honest bare text) (WasBad functions honest wide text)
        (λ st line was. record { reply = reply_wider st line was.reply; bad = was.bad; as_shown = was.as_shown }) added before h
    caused_wider Compile added before h = received_wider (WasComplaint functions honest bare) (WasComplaint functions honest wide) (λ st line was. record {
      reply = reply_wider st line was.reply;
      source = was.source;
      asks = asks_wider was.source (command was.reply.prompt) was.asks;
      complains = was.complains;
      silent = was.silent;
    }) added before h
    caused_wider ServerFault added before h = h
    caused_wider UnknownLanguage added before h = h
    caused_wider NoMemory added before h = h

    stages_wider : (slot : ℕ) (dues : List Due) (result : Result Bool PoolFault) (before added now : List Call) → AfterStages functions honest bare slot 1 dues result before added now → AfterStages functions honest wide slot 1 dues result before added now
    stages_wider slot dues (Ok true) before added now h = h
    stages_wider slot dues (Ok false) before added now h = h
    stages_wider slot dues (Err f) before added now h = record { caused = caused_wider f added before h.caused; cut = h.cut }

    pub reset_wider : {follow : List Call → Type 0} {slot : ℕ} {calls : List Call} (dues : List Due) (result : Result Bool PoolFault) → Went follow bare slot calls (AfterStages functions honest bare slot 1 dues result calls)
        → Went follow wide slot calls (AfterStages functions honest wide slot 1 dues result calls)
    reset_wider {slot = slot} {calls = calls} dues result w = record {
      added = w.added;
      now = w.now;
      is_now = w.is_now;
      follows = w.follows;
      lawful = all_lawful_wider slot w.added calls w.lawful;
      holds = stages_wider slot dues result calls w.added w.now w.holds;
    }

    prepared_wider : (slot : ℕ) (prompts : List Prompt) (rose : Type 0) (result : Result (Unit {0}) PoolFault) (before added now : List Call)
        → AfterPrepare functions honest bare slot prompts rose result before added now → AfterPrepare functions honest wide slot prompts rose result before added now
    prepared_wider slot prompts rose (Ok done) before added now h = h
    prepared_wider slot prompts rose (Err f) before added now h = record { caused = caused_wider f added before h.caused; stops = h.stops }

    -- the same of a slot that is made ready
    pub prepare_wider : {follow : List Call → Type 0} {slot : ℕ} {calls : List Call} (prompts : List Prompt) (rose : Type 0) (result : Result (Unit {0}) PoolFault)
        → Went follow bare slot calls (AfterPrepare functions honest bare slot prompts rose result calls) → Went follow wide slot calls (AfterPrepare functions honest wide slot prompts rose result calls)
    prepare_wider {slot = slot} {calls = calls} prompts rose result w = record {
      added = w.added;
      now = w.now;
      is_now = w.is_now;
      follows = w.follows;
      lawful = all_lawful_wider slot w.added calls w.lawful;
      holds = prepared_wider slot prompts rose result calls w.added w.now w.holds;
    }
