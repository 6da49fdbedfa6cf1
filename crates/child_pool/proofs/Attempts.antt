-- Stages, one after another, and attempts.
use Rattle.std.proofs.Common.{◌≡◌, ◌≤◌, ℕ, zero, suc, List, [], ◌∷◌, ◌++◌, length, Bool, true, false, Result, Ok, Err, refl, sym, ap, ◌∙◌, subst, inl, inr, arith, append_assoc, append-nil}
use Rattle.std.proofs.Math.Nat.{eq-or-lt_of_le}
use Rattle.view_ports.specs.Calls.{Call, stop}
use Rattle.view_ports.specs.Faults.{Rose}
use Rattle.view_ports.specs.Servers.{Goes}
use Rattle.view_ports.specs.Functions.{Functions}
use Rattle.child_pool.specs.declared.pool_fault.PoolFault.{PoolFault}
use Rattle.child_pool.specs.declared.pool_fault.PoolFault.TheVariants.{ServerFault}
use Rattle.child_pool.specs.Jobs.{Job, IsCommandOf, IsPromptOf}
use Rattle.child_pool.specs.Histories.{Went, course}
use Rattle.child_pool.specs.Prompts.{at_first, stage_prompt, stage_prompts}
use Rattle.child_pool.specs.Stages.{AfterAttempts, AfterStages, anew, stage_command, told_turns}
use Rattle.child_pool.specs.Refused.{Refused, TryRefused}
use Rattle.child_pool.specs.Talk.{Due, start_child, AreTurns, AreCutShort, asks}
use Rattle.child_pool.specs.Tries.{AllAnswered, HasFailedIn, IsTriedAgain, Prompt}
use Rattle.child_pool.proofs.Cutting.{cut_later, cut_wider, failed_later, failed_wider, turns_then}
use Rattle.child_pool.proofs.Going.{Went-call, Went-map, Went-then}
use Rattle.child_pool.proofs.Prompts.{caused_later}
use Rattle.child_pool.proofs.Telling.{among_at}
use Rattle.child_pool.proofs.Trying.{answered_one, answered_then, answered_wider, given_up_by, stops_before, stops_later, stops_one, stops_wider}

-- a stage's command is the job's
pub stage_of_job : (job : Job) (stage : ℕ) → stage ≤ length job.sources → IsCommandOf job (stage_command job.sources stage)
stage_of_job job zero within = tt
stage_of_job job (suc told) within = among_at job.sources told (omega arith)

pub is_stage_prompt : (job : Job) (sources : List (List ℕ)) (stage : ℕ) → stage ≤ length job.sources → IsPromptOf job sources (stage_command job.sources stage)
is_stage_prompt job sources zero within = tt
is_stage_prompt job sources (suc told) within = among_at job.sources told (omega arith)

-- the turns of the first stages come first
pub told_front : (slot : ℕ) (sources : List (List ℕ)) (stages stage : ℕ) → stage ≤ stages → (rest : List Due) × (told_turns slot sources stages ≡ told_turns slot sources stage ++ rest)
told_front slot sources zero stage within =
    let none : zero ≡ stage = omega arith in
    ([], ap (told_turns slot sources) none ∙ sym (append-nil (told_turns slot sources stage)))
told_front slot sources (suc n) stage within = elim (eq-or-lt_of_le within) [
  | inl all ↦ ([], ap (told_turns slot sources) (sym all) ∙ sym (append-nil (told_turns slot sources stage)))
  | inr less ↦
      let front = told_front slot sources n stage (omega arith) in
      let last = asks slot (stage_command sources n) 0 in
      (front.0 ++ last, ap (λ (dues : List Due). dues ++ last) front.1 ∙ append_assoc (told_turns slot sources stage) front.0 last)
]

-- the same with a fresh child
pub anew_front : (slot : ℕ) (sources : List (List ℕ)) (stages stage : ℕ) → stage ≤ stages → (rest : List Due) × (anew slot sources stages ≡ anew slot sources stage ++ rest)
anew_front slot sources stages stage within =
    let front = told_front slot sources stages stage within in
    (front.0, ap (λ (dues : List Due). start_child slot ∷ dues) front.1)

-- a count that rose within a longer time rose over it
pub Rose-wider : (before first last now : ℕ) → before ≤ first → last ≤ now → Rose first last → Rose before now
Rose-wider before first last now early late rose = omega arith

-- what a second attempt comes to
abbrev pub second_result : Result Bool PoolFault → Result (Unit {0}) PoolFault
second_result (Ok true) = Ok tt
second_result (Ok false) = Err ServerFault
second_result (Err f) = Err f

module _ (functions : List ℕ → Functions) (honest : List ℕ → Type 0) (job : Job) where
  -- prompts before it were answered
  pub refused_after : (prompts more : List Prompt) (rose_first rose_second rose : Type 0) → (rose_first → rose) → (rose_second → rose) → (f : PoolFault) (added later calls now : List Call) → now ≡ added ++ calls
      → AllAnswered rose_first prompts added → Refused functions honest job more rose_second f now later → Refused functions honest job (prompts ++ more) rose f calls (later ++ added)
  refused_after prompts more rose_first rose_second rose f g fault added later calls now is done r = record {
    caused = caused_later functions honest job fault later added calls now is r.caused;
    stops = stops_later fault rose prompts more added later (answered_wider rose_first rose f prompts added done) (stops_wider rose_second rose g fault more later r.stops);
  }

  -- more prompts were due behind it
  pub refused_before : (prompts more all : List Prompt) (rose : Type 0) (f : PoolFault) (calls added : List Call) → all ≡ prompts ++ more
      → Refused functions honest job prompts rose f calls added → Refused functions honest job all rose f calls added
  refused_before prompts more all rose f calls added is r = subst (λ (p : List Prompt). Refused functions honest job p rose f calls added) (sym is)
      (record { caused = r.caused; stops = stops_before f rose prompts more added r.stops })

  -- a try's refusal is its prompt's
  pub refused_once : (slot : ℕ) (prompt : Prompt) (rose : Type 0) (f : PoolFault) (calls added : List Call) → prompt.slot ≡ slot → (f ≡ ServerFault → ⊥) → TryRefused functions honest job slot prompt.once f calls added → Refused functions honest job (prompt ∷ []) rose f calls added
  refused_once slot prompt rose f calls added mine other r = record {
    caused = r.caused;
    stops = stops_one f rose prompt added (given_up_by f rose prompt added other (inl (subst (λ (at : ℕ). AreCutShort at prompt.once (course added)) (sym mine) r.cut)));
  }

-- the prompts of the first stages come first
prompts_front : (slot : ℕ) (sources : List (List ℕ)) (fresh : Bool) (stages stage : ℕ) → stage ≤ stages → (rest : List Prompt) × (stage_prompts slot sources fresh stages ≡ stage_prompts slot sources fresh stage ++ rest)
prompts_front slot sources fresh zero stage within =
    let none : zero ≡ stage = omega arith in
    ([], ap (stage_prompts slot sources fresh) none ∙ sym (append-nil (stage_prompts slot sources fresh stage)))
prompts_front slot sources fresh (suc n) stage within = elim (eq-or-lt_of_le within) [
  | inl all ↦ ([], ap (stage_prompts slot sources fresh) (sym all) ∙ sym (append-nil (stage_prompts slot sources fresh stage)))
  | inr less ↦
      let front = prompts_front slot sources fresh n stage (omega arith) in
      let last = stage_prompt slot sources n (at_first n fresh) ∷ [] in
      (front.0 ++ last, ap (λ (prompts : List Prompt). prompts ++ last) front.1 ∙ append_assoc (stage_prompts slot sources fresh stage) front.0 last)
]

-- the first try of a prompt failed, and the child is stopped
pub stopped_after : (job : Job) (prompt : Prompt) {first second : List Call → Type 0} {slot : ℕ} {calls : List Call} {P : List Call → List Call → Type 0} (w : Went first job slot calls P) → Goes first second (stop slot) → prompt.slot ≡ slot
    → HasFailedIn prompt.once w.added → Went second job slot calls (λ added now. IsTriedAgain prompt (λ second. second ≡ []) added)
stopped_after job prompt {first = first} {second = second} {slot = slot} w goes mine failed =
    let P : List Call → List Call → Type 0 = λ added now. added ≡ stop slot ∷ [] in
    let v : Went second job slot w.now P = Went-call (stop slot) goes w.follows refl tt P refl in
    Went-then w v (λ added now. IsTriedAgain prompt (λ second. second ≡ []) added) (record {
      first = w.added;
      second = [];
      is = ap (λ (calls : List Call). calls ++ w.added) v.holds ∙ ap (λ (at : ℕ). stop at ∷ w.added) (sym mine);
      failed = failed;
      holds = refl;
    })

module _ (functions : List ℕ → Functions) (honest : List ℕ → Type 0) (job : Job) {first second : List Call → Type 0} {slot : ℕ} {calls : List Call} where
  -- ---- stages of one try

  pub try_refused_then : (dues more : List Due) (f : PoolFault) {P R : List Call → List Call → Type 0} (w : Went first job slot calls P) (v : Went second job slot w.now R)
      → AreTurns dues (course w.added) → TryRefused functions honest job slot more f w.now v.added → TryRefused functions honest job slot (dues ++ more) f calls (v.added ++ w.added)
  try_refused_then dues more f w v done r = record {
    caused = caused_later functions honest job f v.added w.added calls w.now w.is_now r.caused;
    cut = cut_later slot dues more w.added v.added done r.cut;
  }

  pub stages_then : (stage later : ℕ) (dues more : List Due) (result : Result Bool PoolFault) (w : Went first job slot calls (AfterStages functions honest job slot stage dues (Ok true) calls))
      (v : Went second job slot w.now (AfterStages functions honest job slot later more result w.now)) → Went second job slot calls (AfterStages functions honest job slot later (dues ++ more) result calls)
  stages_then stage later dues more (Ok true) w v =
      Went-then w v (AfterStages functions honest job slot later (dues ++ more) (Ok true) calls) (v.holds.0, turns_then dues more w.added v.added w.holds.1 v.holds.1)
  stages_then stage later dues more (Ok false) w v =
      Went-then w v (AfterStages functions honest job slot later (dues ++ more) (Ok false) calls) (failed_later dues more w.added v.added w.holds.1 v.holds)
  stages_then stage later dues more (Err f) w v =
      Went-then w v (AfterStages functions honest job slot later (dues ++ more) (Err f) calls) (try_refused_then dues more f w v w.holds.1 v.holds)

  -- ---- prompts

  pub refused_then : (prompts more : List Prompt) (rose_first rose_second rose : Type 0) → (rose_first → rose) → (rose_second → rose) → (f : PoolFault) {P R : List Call → List Call → Type 0} (w : Went first job slot calls P) (v : Went second job slot w.now R)
      → AllAnswered rose_first prompts w.added → Refused functions honest job more rose_second f w.now v.added → Refused functions honest job (prompts ++ more) rose f calls (v.added ++ w.added)
  refused_then prompts more rose_first rose_second rose f g fault w v done r =
      refused_after functions honest job prompts more rose_first rose_second rose f g fault w.added v.added calls w.now w.is_now done r

  pub attempts_then : (stage later : ℕ) (prompts more : List Prompt) (rose_first rose_second rose : Type 0) (result : Result (Unit {0}) PoolFault) → (rose_first → rose) → (rose_second → rose)
      → (w : Went first job slot calls (AfterAttempts functions honest job slot stage prompts rose_first (Ok tt) calls))
      (v : Went second job slot w.now (AfterAttempts functions honest job slot later more rose_second result w.now)) → Went second job slot calls (AfterAttempts functions honest job slot later (prompts ++ more) rose result calls)
  attempts_then stage later prompts more rose_first rose_second rose (Ok done) f g w v =
      Went-then w v (AfterAttempts functions honest job slot later (prompts ++ more) rose (Ok done) calls) (
        v.holds.0,
        answered_then rose prompts more w.added v.added (answered_wider rose_first rose f prompts w.added w.holds.1) (answered_wider rose_second rose g more v.added v.holds.1),
      )
  attempts_then stage later prompts more rose_first rose_second rose (Err fault) f g w v =
      Went-then w v (AfterAttempts functions honest job slot later (prompts ++ more) rose (Err fault) calls) (refused_then prompts more rose_first rose_second rose f g fault w v w.holds.1 v.holds)

  -- ---- the second try of a prompt: the first one failed, and the child was stopped

  pub again : (prompt : Prompt) (P : List Call → Type 0) {A B : List Call → List Call → Type 0} (w : Went first job slot calls A) (v : Went second job slot w.now B)
      → IsTriedAgain prompt (λ second. second ≡ []) w.added → P v.added → IsTriedAgain prompt P (v.added ++ w.added)
  again prompt P w v failed p = record {
    first = failed.first;
    second = v.added;
    is = ap (λ (calls : List Call). v.added ++ calls) (failed.is ∙ ap (λ (calls : List Call). calls ++ stop prompt.slot ∷ failed.first) failed.holds);
    failed = failed.failed;
    holds = p;
  }

  pub refused_again : (prompt : Prompt) (rose : Type 0) (f : PoolFault) {A B : List Call → List Call → Type 0} (w : Went first job slot calls A) (v : Went second job slot w.now B) → prompt.slot ≡ slot → rose
      → IsTriedAgain prompt (λ second. second ≡ []) w.added → (f ≡ ServerFault → ⊥) → TryRefused functions honest job slot prompt.again f w.now v.added → Refused functions honest job (prompt ∷ []) rose f calls (v.added ++ w.added)
  refused_again prompt rose f w v mine counted failed other r = record {
    caused = caused_later functions honest job f v.added w.added calls w.now w.is_now r.caused;
    stops = stops_one f rose prompt (v.added ++ w.added) (given_up_by f rose prompt (v.added ++ w.added) other (inr (
      counted,
      again prompt (λ calls. AreCutShort prompt.slot prompt.again (course calls)) w v failed (subst (λ (at : ℕ). AreCutShort at prompt.again (course v.added)) (sym mine) r.cut),
    )));
  }

  pub failed_again : (prompt : Prompt) (rose : Type 0) {A B : List Call → List Call → Type 0} (w : Went first job slot calls A) (v : Went second job slot w.now B) → rose
      → IsTriedAgain prompt (λ second. second ≡ []) w.added → HasFailedIn prompt.again v.added → Refused functions honest job (prompt ∷ []) rose ServerFault calls (v.added ++ w.added)
  failed_again prompt rose w v counted failed fails = record {
    caused = tt;
    stops = stops_one ServerFault rose prompt (v.added ++ w.added) (counted, again prompt (HasFailedIn prompt.again) w v failed fails);
  }

  pub second_attempt : (stage : ℕ) (prompt : Prompt) (rose : Type 0) (result : Result Bool PoolFault) → prompt.slot ≡ slot → rose → (result ≡ Err ServerFault → ⊥) → (w : Went first job slot calls (λ added now. IsTriedAgain prompt (λ second. second ≡ []) added))
      (v : Went second job slot w.now (AfterStages functions honest job slot stage prompt.again result w.now)) → Went second job slot calls (AfterAttempts functions honest job slot stage (prompt ∷ []) rose (second_result result) calls)
  second_attempt stage prompt rose (Ok true) mine counted other w v =
      Went-then w v (AfterAttempts functions honest job slot stage (prompt ∷ []) rose (Ok tt) calls) (
        v.holds.0,
        answered_one rose prompt (v.added ++ w.added) (inr (counted, again prompt (λ calls. AreTurns prompt.again (course calls)) w v w.holds v.holds.1)),
      )
  second_attempt stage prompt rose (Ok false) mine counted other w v =
      Went-then w v (AfterAttempts functions honest job slot stage (prompt ∷ []) rose (Err ServerFault) calls) (failed_again prompt rose w v counted w.holds v.holds)
  second_attempt stage prompt rose (Err f) mine counted other w v =
      Went-then w v (AfterAttempts functions honest job slot stage (prompt ∷ []) rose (Err f) calls) (refused_again prompt rose f w v mine counted w.holds (λ is. other (ap Err is)) v.holds)

module _ (functions : List ℕ → Functions) (honest : List ℕ → Type 0) (job : Job) {follow : List Call → Type 0} {slot : ℕ} {calls : List Call} where
  -- a result that needs no second attempt
  pub first_result : (stage : ℕ) (prompt : Prompt) (rose : Type 0) (f : PoolFault) → prompt.slot ≡ slot → (f ≡ ServerFault → ⊥) → Went follow job slot calls (AfterStages functions honest job slot stage prompt.once (Err f) calls)
      → Went follow job slot calls (AfterAttempts functions honest job slot stage (prompt ∷ []) rose (Err f) calls)
  first_result stage prompt rose f mine other w = Went-map w (AfterAttempts functions honest job slot stage (prompt ∷ []) rose (Err f) calls) (refused_once functions honest job slot prompt rose f calls w.added mine other w.holds)

  pub first_told : (stage : ℕ) (prompt : Prompt) (rose : Type 0) → Went follow job slot calls (AfterStages functions honest job slot stage prompt.once (Ok true) calls)
      → Went follow job slot calls (AfterAttempts functions honest job slot stage (prompt ∷ []) rose (Ok tt) calls)
  first_told stage prompt rose w = Went-map w (AfterAttempts functions honest job slot stage (prompt ∷ []) rose (Ok tt) calls) (w.holds.0, answered_one rose prompt w.added (inl w.holds.1))

  -- a refusal or a failure in a stage is one of all stages
  pub failed_stages : (stage stages : ℕ) → stage ≤ stages → Went follow job slot calls (AfterStages functions honest job slot stage (anew slot job.sources stage) (Ok false) calls)
      → Went follow job slot calls (AfterStages functions honest job slot stages (anew slot job.sources stages) (Ok false) calls)
  failed_stages stage stages within w =
      let front = anew_front slot job.sources stages stage within in
      Went-map w (AfterStages functions honest job slot stages (anew slot job.sources stages) (Ok false) calls)
      (subst (λ (d : List Due). HasFailedIn d w.added) (sym front.1) (failed_wider (anew slot job.sources stage) front.0 w.added w.holds))

  pub refused_stages : (stage stages : ℕ) → stage ≤ stages → (f : PoolFault) → Went follow job slot calls (AfterStages functions honest job slot stage (anew slot job.sources stage) (Err f) calls)
      → Went follow job slot calls (AfterStages functions honest job slot stages (anew slot job.sources stages) (Err f) calls)
  refused_stages stage stages within f w =
      let front = anew_front slot job.sources stages stage within in
      Went-map w (AfterStages functions honest job slot stages (anew slot job.sources stages) (Err f) calls) (record {
        caused = w.holds.caused;
        cut = subst (λ (d : List Due). AreCutShort slot d (course w.added)) (sym front.1) (cut_wider slot (anew slot job.sources stage) front.0 (course w.added) w.holds.cut);
      })

  pub refused_attempts : (fresh : Bool) (stage stages : ℕ) → stage ≤ stages → (rose : Type 0) (f : PoolFault) → Went follow job slot calls (AfterAttempts functions honest job slot stage (stage_prompts slot job.sources fresh stage) rose (Err f) calls)
      → Went follow job slot calls (AfterAttempts functions honest job slot stages (stage_prompts slot job.sources fresh stages) rose (Err f) calls)
  refused_attempts fresh stage stages within rose f w =
      let front = prompts_front slot job.sources fresh stages stage within in
      Went-map w (AfterAttempts functions honest job slot stages (stage_prompts slot job.sources fresh stages) rose (Err f) calls)
      (refused_before functions honest job (stage_prompts slot job.sources fresh stage) front.0 (stage_prompts slot job.sources fresh stages) rose f calls w.added front.1 w.holds)

-- behind the first stage no child is fresh
pub at_later : (stage : ℕ) (fresh : Bool) → 1 ≤ stage → at_first stage fresh ≡ false
at_later zero fresh behind = absurd (omega arith)
at_later (suc stage) fresh behind = refl
