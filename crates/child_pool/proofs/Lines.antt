-- A line was received: what follows for the child, the talk and the refusals.
use Rattle.std.proofs.Common.{◌≡◌, ◌⊎◌, ◌+◌, ◌≤◌, ℕ, List, [], ◌∷◌, length, Bool, true, false, Some, None, Result, Ok, Err, refl, sym, ap, ◌∙◌, subst, inl, inr}
use Rattle.view_ports.specs.Calls.{Call, receive, session, after, heard, child, is_log, is_yes, sources_after}
use Rattle.view_ports.specs.Commands.{command}
use Rattle.view_ports.specs.Functions.{Functions}
use Rattle.view_ports.specs.Honest.{AnswersChild}
use Rattle.query_protocol.specs.declared.reply.Kind.{Kind}
use Rattle.query_protocol.specs.Replies.{reply_of}
use Rattle.child_pool.specs.declared.heard.Heard.{Heard}
use Rattle.child_pool.specs.declared.heard.Heard.TheVariants.{Failed, Log, Answer}
use Rattle.child_pool.specs.declared.pool_fault.PoolFault.{PoolFault}
use Rattle.child_pool.specs.declared.pool_fault.PoolFault.TheVariants.{ServerFault, BadReply, Compile, UnknownLanguage, NoMemory}
use Rattle.child_pool.specs.Jobs.{Job, IsAsked, IsPromptOf}
use Rattle.child_pool.specs.Histories.{heard_turn}
use Rattle.child_pool.specs.Sessions.{IsInSession}
use Rattle.child_pool.specs.Causes.{kind_of}
use Rattle.child_pool.specs.Hearing.{IsHeard, IsShown}
use Rattle.child_pool.specs.Outcomes.{AfterLine, IsCaused, StopsAfter, WasBad}
use Rattle.child_pool.proofs.Going.{child_after}

-- a child that has not answered a prompt was asked
pub at_asked : (path : List ℕ) (sources : List (List ℕ)) (prompt : List ℕ) (logs slot : ℕ) (calls : List Call) → logs ≤ 1000 → IsInSession path sources (prompt ∷ []) logs slot calls → IsAsked (child slot calls)
at_asked path sources prompt logs slot calls few at = subst IsAsked (sym at.is) (λ e. cc, refl, few)

-- one line is heard at most
one_line : (log : Bool) (slot : ℕ) (line : List ℕ) → StopsAfter slot [] (heard_turn log slot line)
one_line true slot line = inl refl
one_line false slot line = inr (Some line, refl)

module _ (functions : List ℕ → Functions) (honest : List ℕ → Type 0) (job : Job) (sources : List (List ℕ)) (prompt : List ℕ) (logs slot : ℕ) (calls : List Call) (line : List ℕ)
    (of : IsPromptOf job sources (command prompt)) (at : IsInSession job.path sources (prompt ∷ []) logs slot calls) (answers : AnswersChild functions honest (child slot calls) line) where
  -- the child after the line
  now_child : (b : Bool) → is_log line ≡ b → child slot (receive slot (Some line) ∷ calls) ≡ Some (heard b line (session job.path sources (prompt ∷ []) logs true))
  now_child b is = child_after (receive slot (Some line)) slot calls refl ∙ ap (after (receive slot (Some line))) at.is ∙ ap (λ log. Some (heard log line (session job.path sources (prompt ∷ []) logs true))) is

  logged : is_log line ≡ true → IsInSession job.path sources (prompt ∷ []) (logs + 1) slot (receive slot (Some line) ∷ calls)
  logged is = record { is = now_child true is }

  idle : is_log line ≡ false → IsInSession job.path (sources_after (command prompt) (is_yes line) sources) [] 0 slot (receive slot (Some line) ∷ calls)
  idle is = record { is = now_child false is }

  was_bad : (text : List ℕ) (kind : Kind) → kind ≡ kind_of (command prompt) (length sources) → IsShown line (BadReply text)
      → (BadReply text ≡ NoMemory) ⊎ ((reply_of kind line ≡ None) ⊎ ((is_log line ≡ true) × (1000 ≤ logs))) → WasBad functions honest job text (child slot calls) line
  was_bad text kind is shows why = record {
    reply = record { sources = sources; prompt = prompt; logs = logs; is = at.is; asked = of; answers = answers };
    bad = elim why [
      | inl memory ↦ absurd cc
      | inr reason ↦ elim reason [
        | inl none ↦ inl (subst (λ (k : Kind). reply_of k line ≡ None) is none)
        | inr many ↦ inr many
      ]
    ];
    as_shown = shows;
  }

  caused : (kind : Kind) (f : PoolFault) → kind ≡ kind_of (command prompt) (length sources) → IsHeard kind logs line (Err f) → IsCaused functions honest job (receive slot (Some line) ∷ []) calls f
  caused kind ServerFault is h = absurd h.0
  caused kind (BadReply text) is h = inl (was_bad text kind is h.0 h.1)
  caused kind Compile is h = absurd h.0
  caused kind UnknownLanguage is h = absurd h.0
  caused kind NoMemory is h = tt

  pub after_line : (kind : Kind) (result : Result Heard PoolFault) → kind ≡ kind_of (command prompt) (length sources) → IsHeard kind logs line result
      → AfterLine functions honest job sources prompt logs slot result calls (receive slot (Some line) ∷ []) (receive slot (Some line) ∷ calls)
  after_line kind (Ok Failed) is h = absurd h
  after_line kind (Ok Log) is h = (logged h.0, ap (λ (log : Bool). heard_turn log slot line) h.0)
  after_line kind (Ok (Answer said)) is h = record {
    line = line;
    logs = logs;
    earlier = calls;
    is = refl;
    reads = subst (λ (k : Kind). reply_of k line ≡ Some said) is h.1;
    no_log = h.0;
    asked = at;
    answers = answers;
    idle = idle h.0;
    talked = ap (λ (log : Bool). heard_turn log slot line) h.0;
  }
  after_line kind (Err f) is h = (caused kind f is h, one_line (is_log line) slot line)
