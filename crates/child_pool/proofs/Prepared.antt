-- All stages are told: the slot is ready.
use Rattle.std.proofs.Common.{◌≡◌, ◌≤◌, ◌+◌, ℕ, zero, suc, take, get_or, List, [], ◌++◌, length, Result, Ok, Err, refl, sym, ap, ◌∙◌, subst, arith, add-one}
use Rattle.std.specs.List.{flat_map}
use Rattle.std.proofs.Math.Seq.{take-length, take-suc}
use Rattle.std.proofs.lemmas.List.{flat_map_more}
use Rattle.std.proofs.lemmas.List.Folds.{flat_map-map}
use Rattle.view_ports.specs.declared.command.Command.TheVariants.{Reset, AddFun}
use Rattle.view_ports.specs.Calls.{Call}
use Rattle.view_ports.specs.Functions.{Functions}
use Rattle.child_pool.specs.declared.pool_fault.PoolFault.{PoolFault}
use Rattle.child_pool.specs.Histories.{Went}
use Rattle.child_pool.specs.Jobs.{Job}
use Rattle.child_pool.specs.Preparing.{AfterPrepare}
use Rattle.child_pool.specs.Sessions.{HasTold, IsTold}
use Rattle.child_pool.specs.Stages.{AfterAttempts, told_turns}
use Rattle.child_pool.specs.Tries.{Prompt}
use Rattle.child_pool.specs.Talk.{Due, asks, ready}
use Rattle.child_pool.proofs.Going.{Went-map}

-- the turns that add a source
abbrev added_turns : ℕ → List ℕ → List Due
added_turns slot source = asks slot (AddFun source) 0

-- the turns of the reset and of some sources
turns_so_far : (slot : ℕ) (sources : List (List ℕ)) (told : ℕ) → told ≤ length sources → told_turns slot sources (suc told) ≡ asks slot Reset 0 ++ flat_map (added_turns slot) (take told sources)
turns_so_far slot sources zero within = refl
turns_so_far slot sources (suc told) within =
    let before = turns_so_far slot sources told (omega arith) in
    let source = get_or sources told [] in
    ap (λ (dues : List Due). dues ++ added_turns slot source) before
    ∙ flat_map_more (added_turns slot) (asks slot Reset 0) (take told sources) source
    ∙ ap (λ (srcs : List (List ℕ)). asks slot Reset 0 ++ flat_map (added_turns slot) srcs) (sym (take-suc sources told [] (omega arith)))

pub ready_turns : (slot : ℕ) (sources : List (List ℕ)) → told_turns slot sources (length sources + 1) ≡ ready slot sources
ready_turns slot sources =
    ap (λ (n : ℕ). told_turns slot sources n) (add-one (length sources))
    ∙ turns_so_far slot sources (length sources) (omega arith)
    ∙ ap (λ (srcs : List (List ℕ)). asks slot Reset 0 ++ flat_map (added_turns slot) srcs) (take-length sources)
    ∙ ap (λ (dues : List Due). asks slot Reset 0 ++ dues) (sym (flat_map-map (λ command. asks slot command 0) AddFun sources))

module _ (functions : List ℕ → Functions) (honest : List ℕ → Type 0) (job : Job) (slot : ℕ) where
  -- at the last stage all sources are told
  pub all_told : (now : List Call) → IsTold functions honest job.path job.sources (length job.sources + 1) slot now → HasTold functions honest job.path job.sources slot now
  all_told now told =
      let is_told : IsTold functions honest job.path job.sources (suc (length job.sources)) slot now = subst (λ (n : ℕ). IsTold functions honest job.path job.sources n slot now) (add-one (length job.sources)) told in
      subst (λ (srcs : List (List ℕ)). HasTold functions honest job.path srcs slot now) (take-length job.sources) is_told

  pub prepared : {follow : List Call → Type 0} {calls : List Call} (prompts : List Prompt) (rose : Type 0) (result : Result (Unit {0}) PoolFault)
      → Went follow job slot calls (AfterAttempts functions honest job slot (length job.sources + 1) prompts rose result calls)
      → Went follow job slot calls (AfterPrepare functions honest job slot prompts rose result calls)
  prepared {calls = calls} prompts rose (Ok done) w = Went-map w (AfterPrepare functions honest job slot prompts rose (Ok done) calls) (all_told w.now w.holds.0, w.holds.1)
  prepared {calls = calls} prompts rose (Err f) w = Went-map w (AfterPrepare functions honest job slot prompts rose (Err f) calls) w.holds
