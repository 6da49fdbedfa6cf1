-- Prompts: a function more, and what its result says.
use Rattle.std.proofs.Common.{◌≡◌, ◌+◌, ℕ, List, [], ◌∷◌, ◌++◌, Bool, true, false, Option, Some, None, Result, Ok, Err, refl, sym, ap, ◌∙◌, subst, inl, inr, append_assoc, append-nil}
use Rattle.view_ports.specs.Calls.{Call}
use Rattle.view_ports.specs.Functions.{Functions}
use Rattle.query_protocol.specs.declared.reply.Reply.{Reply}
use Rattle.child_pool.specs.declared.heard.Heard.TheVariants.{Log}
use Rattle.child_pool.specs.declared.pool_fault.PoolFault.{PoolFault}
use Rattle.child_pool.specs.Jobs.{Job}
use Rattle.child_pool.specs.Histories.{FailsAfter, Went, Turn, says, hears, last_heard, course}
use Rattle.child_pool.specs.Outcomes.{AfterLine, AfterPrompt, AfterSend, IsCaused, OnlyLogged, StopsAfter}
use Rattle.child_pool.proofs.Going.{Went-map, Went-then, course-append}
pub use Rattle.child_pool.specs.TryLaws.{caused_later, received_later}

-- what comes of a prompt that wasn't sent
abbrev pub unsent : Result Bool PoolFault → Result (Option Reply) PoolFault
unsent (Ok sent) = Ok None
unsent (Err f) = Err f

-- what was said before is said still
stops_later : (slot : ℕ) (earlier : List Turn) (more added : List Call) → course added ≡ earlier → StopsAfter slot [] (course more) → StopsAfter slot (earlier ++ []) (course (more ++ added))
stops_later slot earlier more added talked h =
    let all : course (more ++ added) ≡ earlier ++ course more = course-append more added ∙ ap (λ turns. turns ++ course more) talked in
    elim h [
      | inl nothing ↦ inr (None, all ∙ ap (λ turns. earlier ++ turns) nothing ∙ sym (append-nil (earlier ++ [])))
      | inr one ↦ inr (one.0, all ∙ ap (λ turns. earlier ++ turns) one.1 ∙ sym (append_assoc earlier [] (last_heard slot one.0)))
    ]

-- a call failed behind what came before
pub fails_later : (earlier turns : List Turn) (more added : List Call) → course added ≡ earlier → FailsAfter turns more → FailsAfter (earlier ++ turns) (more ++ added)
fails_later earlier turns more added went h = record {
  last = h.last;
  earlier = h.earlier ++ added;
  is = ap (λ (calls : List Call). calls ++ added) h.is;
  failed = h.failed;
  went = course-append more added ∙ ap (λ (t : List Turn). t ++ course more) went ∙ ap (λ (t : List Turn). earlier ++ t) h.went;
}

module _ (functions : List ℕ → Functions) (honest : List ℕ → Type 0) (job : Job) where
  module _ {first second : List Call → Type 0} {slot : ℕ} {calls : List Call} where
    -- one log line more
    pub logs_more : (sources : List (List ℕ)) (prompt : List ℕ) (logs : ℕ) (w : Went first job slot calls (OnlyLogged job.path sources prompt logs slot))
        (v : Went second job slot w.now (AfterLine functions honest job sources prompt logs slot (Ok Log) w.now)) → Went second job slot calls (OnlyLogged job.path sources prompt (logs + 1) slot)
    logs_more sources prompt logs w v =
        Went-then w v (OnlyLogged job.path sources prompt (logs + 1) slot) (v.holds.0, course-append v.added w.added ∙ ap (λ turns. turns ++ course v.added) w.holds.1 ∙ v.holds.1)

    -- what came before stands before
    pub prompt_later : (sources : List (List ℕ)) (prompt : List ℕ) (earlier : List Turn) (result : Result (Option Reply) PoolFault)
        {P : List Call → List Call → Type 0} (w : Went first job slot calls P) → course w.added ≡ earlier
        → (v : Went second job slot w.now (AfterPrompt functions honest job sources prompt slot [] result w.now)) → Went second job slot calls (AfterPrompt functions honest job sources prompt slot (earlier ++ []) result calls)
    prompt_later sources prompt earlier (Ok None) w talked v =
        let fails : FailsAfter [] v.added = elim v.holds [
          | inl none ↦ none
          | inr none ↦ none
        ] in
        Went-then w v (AfterPrompt functions honest job sources prompt slot (earlier ++ []) (Ok None) calls) (inr (fails_later earlier [] v.added w.added talked fails))
    prompt_later sources prompt earlier (Ok (Some reply)) w talked v =
        let r = v.holds in
        Went-then w v (AfterPrompt functions honest job sources prompt slot (earlier ++ []) (Ok (Some reply)) calls) (record {
          line = r.line;
          logs = r.logs;
          earlier = r.earlier;
          is = r.is;
          reads = r.reads;
          no_log = r.no_log;
          asked = r.asked;
          answers = r.answers;
          idle = r.idle;
          talked =
              course-append v.added w.added ∙ ap (λ turns. turns ++ course v.added) talked ∙ ap (λ turns. earlier ++ turns) r.talked ∙
              sym (append_assoc earlier [] (hears slot r.line ∷ []));
        })
    prompt_later sources prompt earlier (Err f) w talked v =
        Went-then w v (AfterPrompt functions honest job sources prompt slot (earlier ++ []) (Err f) calls) (
          caused_later functions honest job f v.added w.added calls w.now w.is_now v.holds.0,
          stops_later slot earlier v.added w.added talked v.holds.1,
        )

  module _ {follow : List Call → Type 0} {slot : ℕ} {calls : List Call} where
    pub not_sent : (sources : List (List ℕ)) (line : List ℕ) (result : Result Bool PoolFault) → (result ≡ Ok true → ⊥) → Went follow job slot calls (AfterSend job sources line slot result)
        → Went follow job slot calls (AfterPrompt functions honest job sources line slot (says slot line ∷ []) (unsent result) calls)
    not_sent sources line (Ok false) unsent w = Went-map w (AfterPrompt functions honest job sources line slot (says slot line ∷ []) (Ok None) calls) (inl w.holds)
    not_sent sources line (Ok true) unsent w = absurd (unsent refl)
    not_sent sources line (Err f) unsent w =
        Went-map w (AfterPrompt functions honest job sources line slot (says slot line ∷ []) (Err f) calls)
        (subst (λ (fault : PoolFault). IsCaused functions honest job w.added calls fault) (sym w.holds.0) tt, inl w.holds.1)
