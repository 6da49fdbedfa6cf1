-- Prompts that were tried, one after another, and the causes of refusals.
use Rattle.std.proofs.Common.{◌≡◌, List, [], ◌∷◌, ◌++◌, ℕ, Option, sym, ap, ◌∙◌, subst, inl, inr, append_assoc, append-nil}
use Rattle.view_ports.specs.Calls.{Call, Session}
use Rattle.view_ports.specs.Functions.{Functions}
use Rattle.child_pool.specs.declared.pool_fault.PoolFault.{PoolFault}
use Rattle.child_pool.specs.declared.pool_fault.PoolFault.TheVariants.{ServerFault, BadReply, Compile, UnknownLanguage, NoMemory}
use Rattle.child_pool.specs.Histories.{HasReceived, IsReceipt}
use Rattle.child_pool.specs.Jobs.{Job}
use Rattle.child_pool.specs.Outcomes.{IsCaused, WasBad, WasComplaint}
use Rattle.child_pool.specs.Tries.{AllAnswered, EndsAt, EndsBy, IsAnswered, IsGivenUp, Prompt, StopsAt}

-- ---- what was answered

pub answered_then : (rose : Type 0) (prompts more : List Prompt) (added later : List Call) → AllAnswered rose prompts added → AllAnswered rose more later → AllAnswered rose (prompts ++ more) (later ++ added)
answered_then rose [] more added later h g = subst (AllAnswered rose more) (sym (ap (λ (calls : List Call). later ++ calls) h ∙ append-nil later)) g
answered_then rose (prompt ∷ prompts) more added later h g = (
  h.0,
  later ++ h.1,
  ap (λ (calls : List Call). later ++ calls) h.2 ∙ sym (append_assoc later h.1 h.0),
  h.3,
  answered_then rose prompts more h.1 later h.4 g,
)

module _ (rose rose' : Type 0) (f : rose → rose') where
  is_answered_wider : (prompt : Prompt) (added : List Call) → IsAnswered rose prompt added → IsAnswered rose' prompt added
  is_answered_wider prompt added (inl once) = inl once
  is_answered_wider prompt added (inr (r, again)) = inr (f r, again)

  is_given_up_wider : (prompt : Prompt) (added : List Call) → IsGivenUp rose prompt added → IsGivenUp rose' prompt added
  is_given_up_wider prompt added (inl once) = inl once
  is_given_up_wider prompt added (inr (r, again)) = inr (f r, again)

  -- a fault that was counted is counted over a longer time
  pub answered_wider : (prompts : List Prompt) (added : List Call) → AllAnswered rose prompts added → AllAnswered rose' prompts added
  answered_wider [] added h = h
  answered_wider (prompt ∷ prompts) added h = (h.0, h.1, h.2, is_answered_wider prompt h.0 h.3, answered_wider prompts h.1 h.4)

  ends_by_wider : (fault : PoolFault) (prompt : Prompt) (last : List Call) → EndsBy fault rose prompt last → EndsBy fault rose' prompt last
  ends_by_wider ServerFault prompt last h = (f h.0, h.1)
  ends_by_wider (BadReply text) prompt last h = is_given_up_wider prompt last h
  ends_by_wider Compile prompt last h = is_given_up_wider prompt last h
  ends_by_wider UnknownLanguage prompt last h = is_given_up_wider prompt last h
  ends_by_wider NoMemory prompt last h = is_given_up_wider prompt last h

  ends_at_wider : (fault : PoolFault) (left : List Prompt) (last : List Call) → EndsAt fault rose left last → EndsAt fault rose' left last
  ends_at_wider fault [] last h = h
  ends_at_wider fault (prompt ∷ left) last h = ends_by_wider fault prompt last h

  pub stops_wider : (fault : PoolFault) (prompts : List Prompt) (added : List Call) → StopsAt fault rose prompts added → StopsAt fault rose' prompts added
  stops_wider fault prompts added h = record {
    done = h.done;
    left = h.left;
    all = h.all;
    earlier = h.earlier;
    last = h.last;
    is = h.is;
    answered = answered_wider h.done h.earlier h.answered;
    ends = ends_at_wider fault h.left h.last h.ends;
  }

-- prompts before it were answered
pub stops_later : (fault : PoolFault) (rose : Type 0) (prompts more : List Prompt) (added later : List Call) → AllAnswered rose prompts added → StopsAt fault rose more later → StopsAt fault rose (prompts ++ more) (later ++ added)
stops_later fault rose prompts more added later h g = record {
  done = prompts ++ g.done;
  left = g.left;
  all = ap (λ (p : List Prompt). prompts ++ p) g.all ∙ sym (append_assoc prompts g.done g.left);
  earlier = g.earlier ++ added;
  last = g.last;
  is = ap (λ (calls : List Call). calls ++ added) g.is ∙ append_assoc g.last g.earlier added;
  answered = answered_then rose prompts g.done added g.earlier h g.answered;
  ends = g.ends;
}

-- ---- what was received

-- what was received is received still
pub HasReceived-more : (P : Option Session → List ℕ → Type 0) (more added before : List Call) → HasReceived P added before → HasReceived P (more ++ added) before
HasReceived-more P [] added before h = h
HasReceived-more P (call ∷ more) added before h = inr (HasReceived-more P more added before h)

pub HasReceived-after : (P : Option Session → List ℕ → Type 0) (more added before : List Call) → HasReceived P more (added ++ before) → HasReceived P (more ++ added) before
HasReceived-after P [] added before h = absurd h
HasReceived-after P (call ∷ more) added before h = elim h [
  | inl here ↦ inl (subst (IsReceipt P call) (sym (append_assoc more added before)) here)
  | inr there ↦ inr (HasReceived-after P more added before there)
]

pub received_later : (P : Option Session → List ℕ → Type 0) (more added before now : List Call) → now ≡ added ++ before → HasReceived P more now → HasReceived P (more ++ added) before
received_later P more added before now is h = HasReceived-after P more added before (subst (HasReceived P more) is h)

module _ (functions : List ℕ → Functions) (honest : List ℕ → Type 0) (job : Job) where
  -- a refusal's cause stays one
  pub caused_later : (f : PoolFault) (more added before now : List Call) → now ≡ added ++ before → IsCaused functions honest job more now f → IsCaused functions honest job (more ++ added) before f
  caused_later ServerFault more added before now is h = tt
  caused_later (BadReply text) more added before now is h = received_later (WasBad functions honest job text) more added before now is h
  caused_later Compile more added before now is h = received_later (WasComplaint functions honest job) more added before now is h
  caused_later UnknownLanguage more added before now is h = absurd h
  caused_later NoMemory more added before now is h = tt

  pub caused_more : (f : PoolFault) (more added before : List Call) → IsCaused functions honest job added before f → IsCaused functions honest job (more ++ added) before f
  caused_more ServerFault more added before h = tt
  caused_more (BadReply text) more added before h = HasReceived-more (WasBad functions honest job text) more added before h
  caused_more Compile more added before h = HasReceived-more (WasComplaint functions honest job) more added before h
  caused_more UnknownLanguage more added before h = absurd h
  caused_more NoMemory more added before h = tt
