-- A refusal of the pool.
use Rattle.std.proofs.Common.{◌≡◌, ◌<◌, ℕ, List, ◌++◌, refl, sym, ap, ◌∙◌, subst, inl, inr, arith}
use Rattle.view_ports.specs.Calls.{Call}
use Rattle.view_ports.specs.Functions.{Functions}
use Rattle.child_pool.specs.declared.pool.Pool.{Pool}
use Rattle.child_pool.specs.declared.pool_fault.PoolFault.{PoolFault}
use Rattle.child_pool.specs.declared.pool_fault.PoolFault.TheVariants.{ServerFault, BadReply, Compile, UnknownLanguage, NoMemory}
use Rattle.child_pool.specs.Histories.{AllStops, talk}
use Rattle.child_pool.specs.Jobs.{Job}
use Rattle.child_pool.specs.Outcomes.{IsCaused, WasBad, WasComplaint}
use Rattle.child_pool.specs.Pools.{AreStopped, GaveUp, HasGivenUp}
use Rattle.child_pool.specs.Prompts.{update_prompts}
use Rattle.child_pool.specs.Refused.{Refused}
use Rattle.child_pool.specs.Talk.{AreCutShortIn, Due, talk_of}
use Rattle.child_pool.specs.Tries.{Prompt}
use Rattle.child_pool.proofs.Attempts.{refused_before}
use Rattle.child_pool.proofs.Going.{HasReceived-more}
use Rattle.child_pool.proofs.Talking.{silent_stops, talk_stopped, update_below, update_lines}
use Rattle.child_pool.proofs.Trying.{stops_wider}

module _ (functions : List ℕ → Functions) (honest : List ℕ → Type 0) (job : Job) where
  caused_before : (before : List Call) (f : PoolFault) (more added : List Call) → IsCaused functions honest job added before f → IsCaused functions honest job (more ++ added) before f
  caused_before before ServerFault more added h = tt
  caused_before before (BadReply text) more added h = HasReceived-more (WasBad functions honest job text) more added before h
  caused_before before Compile more added h = HasReceived-more (WasComplaint functions honest job) more added before h
  caused_before before UnknownLanguage more added h = absurd h
  caused_before before NoMemory more added h = tt

  -- the children are stopped after a refusal
  pub given_up : (width : ℕ) (prompts : List Prompt) (rose_first rose : Type 0) (pool : Pool) (f : PoolFault) (before tried stops now : List Call) → (rose_first → rose)
      → Refused functions honest job prompts rose_first f before tried → AllStops stops → AreStopped width pool now → HasGivenUp functions honest job width prompts rose pool f before (stops ++ tried) now
  given_up width prompts rose_first rose pool f before tried stops now g r only stopped = record {
    tried = tried;
    stops = stops;
    is = refl;
    only = only;
    refused = record { caused = r.caused; stops = stops_wider rose_first rose g f prompts tried r.stops };
    stopped = stopped;
  }

  -- more prompts were due behind it
  pub given_up_before : (width : ℕ) (prompts more all : List Prompt) (rose : Type 0) (pool : Pool) (f : PoolFault) (before added now : List Call) → all ≡ prompts ++ more
      → HasGivenUp functions honest job width prompts rose pool f before added now → HasGivenUp functions honest job width all rose pool f before added now
  given_up_before width prompts more all rose pool f before added now is h = record {
    tried = h.tried;
    stops = h.stops;
    is = h.is;
    only = h.only;
    refused = refused_before functions honest job prompts more all rose f before h.tried is h.refused;
    stopped = h.stopped;
  }

  -- an update's talk was cut short
  pub talk_given_up : (width kept : ℕ) (rose : Type 0) (pool : Pool) (f : PoolFault) (before added now : List Call) → width ≡ 1 → HasGivenUp functions honest job width (update_prompts job width kept) rose pool f before added now
      → GaveUp functions honest job width (talk_of job.sources job.documents width) rose pool f before added now
  talk_given_up width kept rose pool f before added now one h =
      let some : 0 < width = omega arith in
      let prompts = update_prompts job width kept in
      let silent : talk added ≡ talk h.tried = ap talk h.is ∙ silent_stops h.stops h.tried h.only in
      record {
        refused = record {
          caused = subst (λ (calls : List Call). IsCaused functions honest job calls before f) (sym h.is) (caused_before before f h.stops h.tried h.refused.caused);
          talked = elim (talk_stopped width f rose prompts h.tried some (update_below job width kept some) h.refused.stops) [
            | inl cut ↦ inl (subst (AreCutShortIn width (talk_of job.sources job.documents width)) (sym silent) (subst (λ (dues : List Due). AreCutShortIn width dues (talk h.tried)) (update_lines job width kept one) cut))
            | inr counted ↦ inr counted
          ];
        };
        stopped = h.stopped;
      }
