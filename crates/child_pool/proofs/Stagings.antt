-- A stage was asked for: what follows.
use Rattle.std.proofs.Common.{◌≡◌, ◌≢◌, ◌≤◌, ◌<◌, ℕ, zero, suc, List, [], ◌∷◌, ◌++◌, length, take, get_or, Bool, true, false, Option, Some, None, Result, Ok, Err, refl, sym, ap, ◌∙◌, subst, inl, inr, arith}
use Rattle.std.proofs.Math.Seq.{take-suc}
use Rattle.view_ports.specs.declared.command.Command.{Command}
use Rattle.view_ports.specs.declared.command.Command.TheVariants.{Reset, AddFun}
use Rattle.view_ports.specs.Calls.{Call, child, is_log, is_yes, sources_after}
use Rattle.json_terms.specs.Reading.{reading}
use Rattle.view_ports.specs.Commands.{command}
use Rattle.view_ports.specs.Honest.{is_complaint_read}
use Rattle.view_ports.specs.Functions.{Functions}
use Rattle.query_protocol.specs.CommandLines.{command_line}
use Rattle.query_protocol.specs.declared.reply.Kind.TheVariants as kind
use Rattle.query_protocol.specs.declared.reply.Reply.{Reply}
use Rattle.query_protocol.specs.declared.reply.Reply.TheVariants as reply
use Rattle.query_protocol.specs.Replies.{reply_of}
use Rattle.child_pool.specs.declared.pool_fault.PoolFault.{PoolFault}
use Rattle.child_pool.specs.declared.pool_fault.PoolFault.TheVariants.{Compile}
use Rattle.child_pool.specs.Jobs.{Job, IsAmong, IsPromptOf}
use Rattle.child_pool.specs.Histories.{Went, says, hears, course}
use Rattle.child_pool.specs.Sessions.{AllCompile, IsIdle, IsTold}
use Rattle.child_pool.specs.Causes.{kind_of}
use Rattle.child_pool.specs.Outcomes.{AfterPrompt, AsksSource, Replied, WasComplaint}
use Rattle.child_pool.specs.Refused.{TryRefused}
use Rattle.child_pool.specs.Stages.{AfterStages, stage_command, told_by}
use Rattle.child_pool.specs.Talk.{AreTurns, asks}
use Rattle.child_pool.proofs.Cutting.{cut_prompt, failed_prompt}
use Rattle.child_pool.proofs.Going.{Went-map}
use Rattle.child_pool.proofs.Replies.{reply_is_log, reset_reply, source_reply}
use Rattle.child_pool.proofs.Telling.{AllCompile-more, among_at, honest_line, honest_source, received_last}

-- what told_by makes of a whole result
abbrev pub told_result : Result (Option Reply) PoolFault → Result Bool PoolFault
told_result (Ok None) = Ok false
told_result (Ok (Some said)) = told_by said
told_result (Err f) = Err f

module _ (functions : List ℕ → Functions) (honest : List ℕ → Type 0) where
  module _ (path : List ℕ) (line : List ℕ) (slot : ℕ) where
    -- an answer is no log line
    pub no_log_said : (srcs : List (List ℕ)) (said : Reply) (added now : List Call) → Replied functions honest path srcs line slot (says slot line ∷ []) said added now → said ≢ reply.Log
    no_log_said srcs said added now r = λ same.
        let log : is_log r.line ≡ true = reply_is_log (kind_of (command line) (length srcs)) r.line (r.reads ∙ ap Some same) in
        let none : is_log r.line ≡ false = r.no_log in cc

    -- the turns of a stage
    stage_turns : (c : Command) (srcs : List (List ℕ)) (added now : List Call) → line ≡ command_line c → (r : Replied functions honest path srcs line slot (says slot line ∷ []) reply.Yes added now)
        → reply_of (kind_of c 0) r.line ≡ Some reply.Yes → AreTurns (asks slot c 0) (course added)
    stage_turns c srcs added now spelled r reads = subst (AreTurns (asks slot c 0)) (sym r.talked) ((refl, spelled), ((refl, record { reply = reply.Yes; answer = tt; reads = reads }), tt))

  module _ {follow : List Call → Type 0} {slot : ℕ} {calls : List Call} (job : Job) (line : List ℕ) where
    reset_done : (srcs : List (List ℕ)) (said : Reply) (w : Went follow job slot calls (AfterPrompt functions honest job srcs line slot (says slot line ∷ []) (Ok (Some said)) calls))
        → command line ≡ Reset → line ≡ command_line Reset → Went follow job slot calls (AfterStages functions honest job slot 1 (asks slot Reset 0) (told_by said) calls)
    reset_done srcs said w is spelled =
        let reads : reply_of kind.Reset w.holds.line ≡ Some said = subst (λ (c : Command). reply_of (kind_of c (length srcs)) w.holds.line ≡ Some said) is w.holds.reads in
        let facts = reset_reply w.holds.line said (no_log_said job.path line slot srcs said w.added w.now w.holds) reads in
        reset_yes srcs said w is spelled reads facts.1
      where
        reset_yes : (srcs : List (List ℕ)) (said : Reply) (w : Went follow job slot calls (AfterPrompt functions honest job srcs line slot (says slot line ∷ []) (Ok (Some said)) calls))
            → command line ≡ Reset → line ≡ command_line Reset → reply_of kind.Reset w.holds.line ≡ Some said → said ≡ reply.Yes → Went follow job slot calls (AfterStages functions honest job slot 1 (asks slot Reset 0) (told_by said) calls)
        reset_yes srcs reply.Yes w is spelled reads same =
            Went-map w (AfterStages functions honest job slot 1 (asks slot Reset 0) (Ok true) calls) (
              record {
                idle = subst (λ (c : Command). IsIdle job.path (sources_after c (is_yes w.holds.line) srcs) slot w.now) is w.holds.idle;
                compile = λ h. tt;
              },
              stage_turns job.path line slot Reset srcs w.added w.now spelled w.holds reads,
            )
        reset_yes srcs reply.Log w is spelled reads same = absurd cc
        reset_yes srcs (reply.Rows rows) w is spelled reads same = absurd cc
        reset_yes srcs (reply.Value value) w is spelled reads same = absurd cc
        reset_yes srcs reply.Compile w is spelled reads same = absurd cc

    source_done : (told : ℕ) (source : List ℕ) (said : Reply) (w : Went follow job slot calls (AfterPrompt functions honest job (take told job.sources) line slot (says slot line ∷ []) (Ok (Some said)) calls))
        → told < length job.sources → source ≡ get_or job.sources told [] → (honest job.path → AllCompile (functions job.path) (take told job.sources))
        → command line ≡ AddFun source → line ≡ command_line (AddFun source) → Went follow job slot calls (AfterStages functions honest job slot (suc (suc told)) (asks slot (AddFun source) 0) (told_by said) calls)
    source_done told source said w within is_source old is spelled =
        let reads : reply_of kind.Source w.holds.line ≡ Some said = subst (λ (c : Command). reply_of (kind_of c (length (take told job.sources))) w.holds.line ≡ Some said) is w.holds.reads in
        elim (source_reply w.holds.line said (no_log_said job.path line slot (take told job.sources) said w.added w.now w.holds) reads) [
          | inl accepted ↦ source_yes told source said w within is_source old is spelled reads accepted.0 accepted.1
          | inr complaint ↦ source_complaint told source said w within is_source is spelled complaint.0 complaint.1
        ]
      where
        more : (told : ℕ) (source : List ℕ) → told < length job.sources → source ≡ get_or job.sources told [] → take told job.sources ++ source ∷ [] ≡ take (suc told) job.sources
        more told source within is_source = ap (λ (s : List ℕ). take told job.sources ++ s ∷ []) is_source ∙ sym (take-suc job.sources told [] within)

        source_yes : (told : ℕ) (source : List ℕ) (said : Reply) (w : Went follow job slot calls (AfterPrompt functions honest job (take told job.sources) line slot (says slot line ∷ []) (Ok (Some said)) calls))
            → told < length job.sources → source ≡ get_or job.sources told [] → (honest job.path → AllCompile (functions job.path) (take told job.sources))
            → command line ≡ AddFun source → line ≡ command_line (AddFun source) → reply_of kind.Source w.holds.line ≡ Some said → is_yes w.holds.line ≡ true → said ≡ reply.Yes
            → Went follow job slot calls (AfterStages functions honest job slot (suc (suc told)) (asks slot (AddFun source) 0) (told_by said) calls)
        source_yes told source reply.Yes w within is_source old is spelled reads accepted same =
            Went-map w (AfterStages functions honest job slot (suc (suc told)) (asks slot (AddFun source) 0) (Ok true) calls) (
              record {
                idle = subst (λ (srcs : List (List ℕ)). IsIdle job.path srcs slot w.now)
                    (ap (λ (c : Command). sources_after c (is_yes w.holds.line) (take told job.sources)) is ∙ ap (λ (b : Bool). sources_after (AddFun source) b (take told job.sources)) accepted ∙ more told source within is_source) w.holds.idle;
                compile = λ h.
                    let answered = honest_line functions honest job.path (take told job.sources) line w.holds.logs (child slot w.holds.earlier) w.holds.line w.holds.asked.is w.holds.answers h (AddFun source) is tt in
                    let compiled = honest_source (functions job.path) (take told job.sources) w.holds.logs source w.holds.line w.holds.no_log accepted answered in
                    subst (AllCompile (functions job.path)) (more told source within is_source) (AllCompile-more (functions job.path) (take told job.sources) source (old h) compiled);
              },
              stage_turns job.path line slot (AddFun source) (take told job.sources) w.added w.now spelled w.holds reads,
            )
        source_yes told source reply.Log w within is_source old is spelled reads accepted same = absurd cc
        source_yes told source (reply.Rows rows) w within is_source old is spelled reads accepted same = absurd cc
        source_yes told source (reply.Value value) w within is_source old is spelled reads accepted same = absurd cc
        source_yes told source reply.Compile w within is_source old is spelled reads accepted same = absurd cc

        source_complaint : (told : ℕ) (source : List ℕ) (said : Reply) (w : Went follow job slot calls (AfterPrompt functions honest job (take told job.sources) line slot (says slot line ∷ []) (Ok (Some said)) calls))
            → told < length job.sources → source ≡ get_or job.sources told [] → command line ≡ AddFun source → line ≡ command_line (AddFun source) → is_complaint_read (reading w.holds.line) ≡ true → said ≡ reply.Compile
            → Went follow job slot calls (AfterStages functions honest job slot (suc (suc told)) (asks slot (AddFun source) 0) (told_by said) calls)
        source_complaint told source reply.Compile w within is_source is spelled complains same =
            let r = w.holds in
            let among : IsAmong job.sources source = subst (IsAmong job.sources) (sym is_source) (among_at job.sources told within) in
            let p : WasComplaint functions honest job (child slot r.earlier) r.line = record {
              reply = record {
                sources = take told job.sources;
                prompt = line;
                logs = r.logs;
                is = r.asked.is;
                asked = subst (IsPromptOf job (take told job.sources)) (sym is) among;
                answers = r.answers;
              };
              source = source;
              asks = subst (AsksSource job source) (sym is) (refl, among);
              complains = complains;
              silent = r.no_log;
            } in
            Went-map w (AfterStages functions honest job slot (suc (suc told)) (asks slot (AddFun source) 0) (Err Compile) calls) (record {
              caused = received_last (WasComplaint functions honest job) slot r.line w.added calls w.now r.earlier (says slot line ∷ []) (hears slot r.line) w.is_now r.is r.talked p;
              cut = cut_prompt slot (AddFun source) 0 line (course w.added) spelled (inr (Some r.line, r.talked));
            })
        source_complaint told source reply.Log w within is_source is spelled complains same = absurd cc
        source_complaint told source reply.Yes w within is_source is spelled complains same = absurd cc
        source_complaint told source (reply.Rows rows) w within is_source is spelled complains same = absurd cc
        source_complaint told source (reply.Value value) w within is_source is spelled complains same = absurd cc

    -- a refusal of a stage's prompt
    refused_stage : (srcs : List (List ℕ)) (c : Command) → line ≡ command_line c → (f : PoolFault) (w : Went follow job slot calls (AfterPrompt functions honest job srcs line slot (says slot line ∷ []) (Err f) calls))
        → TryRefused functions honest job slot (asks slot c 0) f calls w.added
    refused_stage srcs c spelled f w = record { caused = w.holds.0; cut = cut_prompt slot c 0 line (course w.added) spelled w.holds.1 }

    -- a stage was asked for, whatever came of it
    pub tell_went : (stage : ℕ) (result : Result (Option Reply) PoolFault) → stage ≤ length job.sources → IsTold functions honest job.path job.sources stage slot calls
        → command line ≡ stage_command job.sources stage → line ≡ command_line (stage_command job.sources stage)
        → ((srcs : List (List ℕ)) → IsIdle job.path srcs slot calls → Went follow job slot calls (AfterPrompt functions honest job srcs line slot (says slot line ∷ []) result calls))
        → Went follow job slot calls (AfterStages functions honest job slot (suc stage) (asks slot (stage_command job.sources stage) 0) (told_result result) calls)
    tell_went zero (Ok (Some said)) within told is spelled asked = reset_done told.0 said (asked told.0 told.1) is spelled
    tell_went (suc stage) (Ok (Some said)) within told is spelled asked =
        source_done stage (get_or job.sources stage []) said (asked (take stage job.sources) told.idle) (omega arith) refl told.compile is spelled
    tell_went zero (Ok None) within told is spelled asked =
        let w = asked told.0 told.1 in
        Went-map w (AfterStages functions honest job slot 1 (asks slot Reset 0) (Ok false) calls) (failed_prompt slot Reset 0 line w.added spelled w.holds)
    tell_went (suc stage) (Ok None) within told is spelled asked =
        let w = asked (take stage job.sources) told.idle in
        Went-map w (AfterStages functions honest job slot (suc (suc stage)) (asks slot (AddFun (get_or job.sources stage [])) 0) (Ok false) calls)
        (failed_prompt slot (AddFun (get_or job.sources stage [])) 0 line w.added spelled w.holds)
    tell_went zero (Err f) within told is spelled asked =
        let w = asked told.0 told.1 in
        Went-map w (AfterStages functions honest job slot 1 (asks slot Reset 0) (Err f) calls) (refused_stage told.0 Reset spelled f w)
    tell_went (suc stage) (Err f) within told is spelled asked =
        let w = asked (take stage job.sources) told.idle in
        Went-map w (AfterStages functions honest job slot (suc (suc stage)) (asks slot (AddFun (get_or job.sources stage [])) 0) (Err f) calls) (refused_stage (take stage job.sources) (AddFun (get_or job.sources stage [])) spelled f w)
