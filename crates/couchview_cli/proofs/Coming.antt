-- A session goes on by the lines that it answers, and comes to an end.
use Rattle.std.specs.Prelude.{◌≡◌, ◌≢◌, ◌⊎◌, ◌+◌, ◌++◌, ◌*◌, ℕ, List, [], ◌∷◌, true, cond, Option, Result}
use Rattle.std.proofs.Common.{refl, sym, ap, ◌∙◌, subst, inl, inr, arith, append-nil}
use Rattle.view_ports.specs.declared.folder.Folder.{Ghosts as Folders}
use Rattle.view_ports.specs.declared.servers.Servers.{Ghosts as Servers}
use Rattle.view_ports.specs.Disk.{IfTold, LeavesOnly, MovesNone, Tells}
use Rattle.view_ports.specs.Exchanges.{Exchange, IsPrefixOf, LeadsTo, lines_of, text_of}
use Rattle.view_ports.specs.Lines.{last_line, IsCut}
use Rattle.view_ports.specs.Faults.{Rose, RoseBy}
use Rattle.view_ports.proofs.Counting.{Rose-earlier}
use Rattle.view_ports.proofs.Moments.{joined, started}
use Rattle.view_ports.proofs.DiskRuns.{moves_none, moves_then}
use Rattle.view_ports.proofs.Told.{told_all, told_now, told_pair, told_refl, told_then}
use Rattle.line_loop.specs.declared.loop_end.LoopEnd.{LoopEnd}
use Rattle.line_loop.specs.declared.loop_end.LoopEnd.TheVariants as loop_end
use Rattle.line_loop.specs.declared.responder.Responder.{Ghosts as Responds}
use Rattle.line_loop.specs.Loops.{HasEnded, Loops, Steps}
use Rattle.line_loop.proofs.Seeing.{LeadsTo-kept, LeadsTo-seen}
use Rattle.doc_file.specs.Docs.{IsDocsFile}
use Rattle.view_engine.specs.declared.halt.StepFault.{StepFault}
use Rattle.view_engine.specs.declared.halt.StepFault.TheVariants.{DiskFault}
use Rattle.view_engine.specs.declared.engine.Engine.{Engine}
use Rattle.view_engine.specs.Disks.{IsFitFor, LiesOpen}
use Rattle.view_engine.specs.Accepted.{is_ok, after_exchange, EachOk}
use Rattle.view_engine.specs.declared.refusal.Refusal.{Refusal}
use Rattle.view_engine.specs.declared.request.Request.{Request}
use Rattle.view_engine.specs.Updating.{IsSound}
use Rattle.view_engine.specs.World.{World}
use Rattle.view_engine.specs.Refusals.{request_of}
use Rattle.view_engine.specs.Calls.{Scene, StandsAt, Stays, scene}
use Rattle.view_engine.specs.Moments.{Moment}
use Rattle.view_engine.specs.ServerFaults.{is_server_fault, server_faults}
use Rattle.view_engine.proofs.ServerFaults.{none_rose, one_more, rose_on}
use Rattle.view_engine.specs.Fresh.{IsFreshStep}
use Rattle.view_engine.specs.Steps.{Answers}
use Rattle.view_engine.specs.Worlds.{at_start, languages as languages_of, update_seq, GoesOnFrom, HasRoomAt, StandsEither, StandsFor}
use Rattle.view_engine.proofs.AcceptedWrites.{Answers-accepted, each_ok_same}
use Rattle.view_engine.proofs.Sound.{answers_sound}
use Rattle.view_engine.proofs.Worlds.{answers_grow, holds_at, images_at, stays_still, stays_still_then}
use Rattle.view_engine.proofs.Fresh.{steps_are_fresh}
use Rattle.couchview_cli.specs.declared.session.Session.{Session}
use Rattle.couchview_cli.specs.Ends.{Comes}
use Rattle.couchview_cli.specs.Reading.{says_written, writes_in, ComesTo, HasReplied, IsOpenAt, MovesOwn, NoneChanges, NoneOnIndexes, Replies, Told}
use Rattle.couchview_cli.specs.Replied.{IsReplied}
use Rattle.couchview_cli.specs.Serving.{width, HadRoom, MeetsClash}
use Rattle.couchview_cli.specs.Session.{HasCome, IsAnswered, IsUnanswered, KeepsPorts, Origin, StepsOf, scene_of}
use Rattle.couchview_cli.proofs.Counting.{writes_more}
use Rattle.couchview_cli.proofs.Keeping.{Answered-of}
use Rattle.couchview_cli.proofs.Clashing.{begins_with, first_of_lines, first_of_run, first_unless_ended, fit_or_met, lines_until, on_origin, one_of, prefix_then, text_until, IsClashOn}
use Rattle.couchview_cli.proofs.Moving.{GoesSoundly, moved_line, moved_start, told_first, went_before, went_nowhere, WentOn}

module _ {F C : Type 0} (f : Folders F) (s : Servers C) (origin : Origin) where
  -- an engine that was opened is at the opening
  pub come_opened : (now : Scene F C) → languages_of now.engine ≡ origin.languages → StandsAt f s now (at_start origin.opening width origin.faults)
      → Tells origin.disk (f.disk now.folder) (LeavesOnly (λ image. StandsFor image origin.opening)) → HasCome f s origin now (at_start origin.opening width origin.faults)
  come_opened now languages stands opened = record { languages = languages; stands = stands; moved = moved_start s.functions s.honest origin (f.disk now.folder) opened }

  -- what a line that was answered is, as a step from the opening
  pub record HasGone (old new : Scene F C) (before : Moment) (e : Exchange) : Type 0 where
    pub after : Moment
    pub step : StepsOf s.functions s.honest origin before e after
    pub come : HasCome f s origin new after
    pub grew : IfTold (f.disk old.folder) (λ d. GoesSoundly s.functions s.honest origin.languages before.world after.world)
    pub moments : Tells (f.disk old.folder) (f.disk new.folder) (LeavesOnly (StandsEither before.world after.world))

  pub come_line : (old new : Scene F C) (before : Moment) (e : Exchange) → HasCome f s origin old before → IfTold (f.disk old.folder) (λ d. IsFitFor (request_of e.line) before.world) → IsAnswered f s old new e.line e.text → HasGone old new before e
  come_line old new before e come fit answered =
      let there = Answered-of origin.languages e.line come.languages (answered.answers before come.stands fit) in
      let Step = Answers s.functions s.honest origin.languages before e there.after in
      let grew =
      told_now (f.disk old.folder) (λ d. Step) (λ d. GoesSoundly s.functions s.honest origin.languages before.world (there.after).world)
      (λ d answers. (answers_grow s.functions s.honest origin.languages before e there.after answers, λ sound. answers_sound s.functions s.honest origin.languages before e there.after answers sound)) there.answers in
      let Sound = IsSound s.functions s.honest origin.languages in
      record {
        after = there.after;
        step = (
          answered.prints,
          told_pair origin.disk (λ d. Step) (λ d. Sound origin.opening → Sound before.world) (λ d. Step × (Sound origin.opening → Sound before.world) × IsFreshStep s.functions s.honest origin.languages before e there.after)
              (λ d answers sound. (answers, sound, steps_are_fresh s.functions s.honest origin.languages before there.after e answers))
              (told_first s.functions s.honest origin (f.disk old.folder) (f.disk new.folder) before.world come.moved Step there.answers) come.moved.sound,
        );
        come = record {
          languages = answered.stays.languages ∙ come.languages;
          stands = there.stands;
          moved = moved_line s.functions s.honest origin (f.disk old.folder) (f.disk new.folder) before.world come.moved (there.after).world grew there.moments;
        };
        grew = grew;
        moments = there.moments;
      }

  -- what lines that were answered are, one after another
  pub record HasRun (start last : Scene F C) (before : Moment) (es : List Exchange) : Type 0 where
    pub after : Moment
    pub leads : LeadsTo (StepsOf s.functions s.honest origin) before es after
    pub come : HasCome f s origin last after
    pub went : WentOn s.functions s.honest origin.languages (f.disk start.folder) (f.disk last.folder) before.world after.world
    pub fits : IfTold origin.disk (λ d. EachOk (HadRoom s.functions s.honest origin.languages origin.opening (after.world) origin.disk (f.disk last.folder)) before.world es)

  pub run_none : (now : Scene F C) (before : Moment) → HasCome f s origin now before → HasRun now now before []
  run_none now before come = record {
    after = before;
    leads = refl;
    come = come;
    went = went_nowhere s.functions s.honest origin.languages (f.disk now.folder) before.world (images_at s.functions s.honest (f.disk now.folder) (s.may_follow now.servers) (s.faults now.servers) now.engine before come.stands);
    fits = told_all origin.disk (λ d. Unit {0}) (λ d. tt);
  }

  pub run_line : (start mid last : Scene F C) (before : Moment) (e : Exchange) (es : List Exchange) → HasCome f s origin start before → IsAnswered f s start mid e.line e.text
      → (gone : HasGone start mid before e) → HasRun mid last gone.after es → HasRun start last before (e ∷ es)
  run_line start mid last before e es come answered gone rest =
      let disk = f.disk start.folder in
      let went = went_before s.functions s.honest origin.languages disk (f.disk mid.folder) (f.disk last.folder) before.world (gone.after).world (rest.after).world gone.grew gone.moments rest.went in
      let Room = HadRoom s.functions s.honest origin.languages origin.opening (rest.after).world origin.disk (f.disk last.folder) in
      let had : is_ok e.text ≡ true → Room before.world (request_of e.line) = λ ok. record {
        mid = disk;
        held = before.world;
        history = refl;
        until = come.moved.moments;
        holds = holds_at s.functions s.honest disk (s.may_follow start.servers) (s.faults start.servers) start.engine before come.stands;
        room = told_now disk (λ d. is_ok e.text ≡ true → HasRoomAt d.now before.world (request_of e.line)) (λ d. HasRoomAt d.now before.world (request_of e.line)) (λ d room. room ok) (answered.room before come.stands);
        since = went.moments;
      } in
      let had_same : (a b : World) (request : Result Request Refusal) → a.history ≡ b.history → Room a request → Room b request = λ a b request same room.
      record { mid = room.mid; held = room.held; history = room.history ∙ same; until = room.until; holds = room.holds; room = room.room; since = room.since } in
      let Sound = IsSound s.functions s.honest origin.languages in
      record {
        after = rest.after;
        leads = (gone.after, gone.step, rest.leads);
        come = rest.come;
        went = went;
        fits = told_pair origin.disk (λ d. Answers s.functions s.honest origin.languages before e gone.after × (Sound origin.opening → Sound before.world) × IsFreshStep s.functions s.honest origin.languages before e gone.after) (λ d. EachOk Room (gone.after).world es) (λ d. EachOk Room before.world (e ∷ es))
            (λ d step each. (had, each_ok_same {P = Room} {Q = Room} (λ a b request same room. had_same a b request same room) (gone.after).world (after_exchange before.world e) es (Answers-accepted s.functions s.honest origin.languages before e gone.after step.0) each))
            (gone.step).1 rest.fits;
      }

  -- ---- a line that asks for a view of designs that clash

  -- some first ones of these lines were answered, and then one asks for such a view
  pub record HasMet (start last : Scene F C) (before : Moment) (es : List Exchange) : Type 0 where
    pub first : List Exchange
    pub e : Exchange
    pub more : List Exchange
    pub is : es ≡ first ++ e ∷ more
    pub mid : Scene F C
    pub run : HasRun start mid before first
    pub on : IsClashOn origin.disk (request_of e.line) (run.after).world
    pub since : ComesTo (f.disk mid.folder) (f.disk last.folder)

  pub met_now : (start last : Scene F C) (before : Moment) (e : Exchange) (es : List Exchange) → HasCome f s origin start before → IsClashOn origin.disk (request_of e.line) before.world → ComesTo (f.disk start.folder) (f.disk last.folder)
      → HasMet start last before (e ∷ es)
  unfolding run_none
  met_now start last before e es come on since = record { first = []; e = e; more = es; is = refl; mid = start; run = run_none start before come; on = on; since = since }

  pub met_later : (start mid last : Scene F C) (before : Moment) (e : Exchange) (es : List Exchange) → HasCome f s origin start before → IsAnswered f s start mid e.line e.text
      → (gone : HasGone start mid before e) → HasMet mid last gone.after es → HasMet start last before (e ∷ es)
  unfolding run_line
  met_later start mid last before e es come answered gone met = record {
    first = e ∷ met.first;
    e = met.e;
    more = met.more;
    is = ap (λ (l : List Exchange). e ∷ l) met.is;
    mid = met.mid;
    run = run_line start mid met.mid before e met.first come answered gone met.run;
    on = met.on;
    since = met.since;
  }

  module _ (start last : Scene F C) (es : List Exchange) (met : HasMet start last (at_start origin.opening width origin.faults) es) where
    -- these lines and the one behind them are a first part of all
    pub lines_met : IsPrefixOf (lines_of met.first ++ (met.e).line ∷ []) (lines_of es)
    lines_met = subst (λ (l : List Exchange). IsPrefixOf (lines_of met.first ++ (met.e).line ∷ []) (lines_of l)) (sym met.is) (lines_until met.first met.e met.more)

    -- and their replies one of what was answered
    pub text_met : IsPrefixOf (text_of met.first) (text_of es)
    text_met = subst (λ (l : List Exchange). IsPrefixOf (text_of met.first) (text_of l)) (sym met.is) (text_until met.first met.e met.more)

    pub meets : (bytes : List ℕ) (lines : List (List ℕ)) (rest : List ℕ) → IsCut bytes lines rest → IsPrefixOf (lines_of es) (lines ++ last_line rest)
        → MeetsClash s.functions s.honest origin.languages origin.opening origin.disk origin.faults bytes
    meets bytes lines rest cut first =
        let come = (met.run).come in
        record {
          told = met.on.told;
          is_told = met.on.is_told;
          exchanges = met.first;
          lines = lines;
          rest = rest;
          line = (met.e).line;
          moment = (met.run).after;
          cut = cut;
          first = prefix_then (lines_of met.first ++ (met.e).line ∷ []) (lines_of es) (lines ++ last_line rest) lines_met first;
          leads = (met.run).leads;
          asks = met.on.asks;
          clash = met.on.clash;
          goes = subst (λ (disk : Told). IfTold disk (λ d. GoesOnFrom origin.opening ((met.run).after).world)) met.on.is_told come.moved.grew;
          mid = f.disk (met.mid).folder;
          until = come.moved.moments;
          holds = holds_at s.functions s.honest (f.disk (met.mid).folder) (s.may_follow (met.mid).servers) (s.faults (met.mid).servers) (met.mid).engine (met.run).after come.stands;
          fits = (met.run).fits;
        }

module _ {F C : Type 0} (f : Folders F) (s : Servers C) (r : Responds (Session F C) StepFault)
    (answers : (old new : Session F C) (line : List ℕ) → r.answers old line new → KeepsPorts old new × IsAnswered f s (scene_of old) (scene_of new) line (r.text new))
    (stops : (old new : Session F C) (line : List ℕ) (fault : StepFault) → r.stops old line fault new → KeepsPorts old new × IsUnanswered f s (scene_of old) (scene_of new) line fault) where
  -- the disk comes behind the one before, line by line
  on_lines : (start now : Session F C) (es : List Exchange) → LeadsTo (Steps r) start es now → ComesTo (f.disk start.folder.now) (f.disk now.folder.now)
  on_lines start now [] leads = subst (λ (session : Session F C). ComesTo (f.disk start.folder.now) (f.disk session.folder.now)) (sym leads)
      (told_refl (f.disk start.folder.now) (LeavesOnly (λ image. Unit {0})) (λ d. started (λ image. Unit {0}) d (λ image is. tt)))
  on_lines start now (e ∷ es) leads =
      told_then (f.disk start.folder.now) (f.disk (leads.0).folder.now) (f.disk now.folder.now) (LeavesOnly (λ image. Unit {0})) (LeavesOnly (λ image. Unit {0})) (LeavesOnly (λ image. Unit {0}))
      (λ a b c early late. joined (λ image. Unit {0}) a b c early late) ((answers start leads.0 e.line leads.1.0).1).on (on_lines leads.0 now es leads.2)

  -- lines that were answered lead on, or one of them asks for a view of designs that clash
  runs : (origin : Origin) (start last : Session F C) (before : Moment) (es : List Exchange) → HasCome f s origin (scene_of start) before → LeadsTo (Steps r) start es last
      → HasRun f s origin (scene_of start) (scene_of last) before es ⊎ HasMet f s origin (scene_of start) (scene_of last) before es
  runs origin start last before [] come leads =
      inl (subst (λ (session : Session F C). HasRun f s origin (scene_of start) (scene_of session) before []) (sym leads) (run_none f s origin (scene_of start) before come))
  runs origin start last before (e ∷ es) come leads =
      let mid = leads.0 in
      let step = leads.1 in
      let answered = subst (λ (text : List ℕ). IsAnswered f s (scene_of start) (scene_of mid) e.line text) (sym step.1) (answers start mid e.line step.0).1 in
      elim (fit_or_met (f.disk start.folder.now) (request_of e.line) before.world) [
        | inl fit ↦
            (let gone = come_line f s origin (scene_of start) (scene_of mid) before e come fit answered in
            elim (runs origin mid last gone.after es gone.come leads.2) [
              | inl rest ↦ inl (run_line f s origin (scene_of start) (scene_of mid) (scene_of last) before e es come answered gone rest)
              | inr met ↦ inr (met_later f s origin (scene_of start) (scene_of mid) (scene_of last) before e es come answered gone met)
            ])
        | inr clash ↦ inr (met_now f s origin (scene_of start) (scene_of last) before e es come (on_origin _ origin.disk (f.disk start.folder.now) (request_of e.line) before.world come.moved.moments clash)
            (on_lines start last (e ∷ es) leads))
      ]

  -- what the loop over its lines did, from the origin
  pub comes : (origin : Origin) (start last : Session F C) (left left' held held' : Option (List ℕ)) (end : LoopEnd StepFault) → HasCome f s origin (scene_of start) (at_start origin.opening width origin.faults)
      → Loops r start last left left' held held' end → Comes f s origin (scene_of last) left left' held held' end
  unfolding meets
  comes origin start last left left' held held' (loop_end.Run end) come loops =
      let run = loops.ends.run in
      record {
        bytes = loops.bytes;
        reads = loops.reads;
        counts = loops.counts;
        ends = elim (runs origin start last (at_start origin.opening width origin.faults) run.exchanges come run.leads) [
          | inl ran ↦ inl (record {
            gained = loops.ends.gained;
            moment = ran.after;
            run = record { exchanges = run.exchanges; lines = run.lines; rest = run.rest; cut = run.cut; answered = run.answered; leads = ran.leads; written = run.written };
            has_come = ran.come;
            fits = ran.fits;
            wrote = loops.ends.wrote;
          })
          | inr met ↦ inr (record {
            gained = loops.ends.gained;
            wrote = loops.ends.wrote;
            meets = meets f s origin (scene_of start) (scene_of last) run.exchanges met loops.bytes run.lines run.rest run.cut (first_of_run _ end run.lines run.rest (lines_of run.exchanges) run.answered);
            replies = elim (begins_with end (text_of met.first) (text_of run.exchanges) loops.ends.gained (text_met f s origin (scene_of start) (scene_of last) run.exchanges met) run.written) [
              | inl begins ↦ inl begins
              | inr failed ↦ inr (ap loop_end.Run failed.0, failed.1)
            ];
            whole = λ never. first_unless_ended _ end run.lines run.rest (lines_of run.exchanges) _ run.answered (lines_met f s origin (scene_of start) (scene_of last) run.exchanges met) (λ ended. never (ap loop_end.Run ended));
            since = met.since;
          })
        ];
      }
  comes origin start last left left' held held' (loop_end.Stopped fault) come loops =
      let cut = loops.ends in
      let all = first_of_lines _ cut.lines cut.rest (lines_of cut.exchanges ++ cut.line ∷ cut.more) cut.answered in
      record {
        bytes = loops.bytes;
        reads = loops.reads;
        counts = loops.counts;
        ends = elim (runs origin start cut.mid (at_start origin.opening width origin.faults) cut.exchanges come cut.leads) [
          | inl ran ↦ elim (fit_or_met (f.disk cut.mid.folder.now) (request_of cut.line) (ran.after).world) [
            | inl fit ↦ inl (record {
              exchanges = cut.exchanges;
              lines = cut.lines;
              rest = cut.rest;
              line = cut.line;
              more = cut.more;
              mid = scene_of cut.mid;
              moment = ran.after;
              cut = cut.cut;
              answered = cut.answered;
              leads = ran.leads;
              has_come = ran.come;
              fits = ran.fits;
              halts = (stops cut.mid last cut.line fault cut.stops).1;
              fit = fit;
              wrote = cut.wrote;
            })
            | inr clash ↦
                (let on = on_origin _ origin.disk (f.disk cut.mid.folder.now) (request_of cut.line) (ran.after).world ran.come.moved.moments clash in
                inr (record {
                  gained = text_of cut.exchanges;
                  wrote = cut.wrote;
                  meets = record {
                    told = on.told;
                    is_told = on.is_told;
                    exchanges = cut.exchanges;
                    lines = cut.lines;
                    rest = cut.rest;
                    line = cut.line;
                    moment = ran.after;
                    cut = cut.cut;
                    first = prefix_then (lines_of cut.exchanges ++ cut.line ∷ []) (lines_of cut.exchanges ++ cut.line ∷ cut.more) _ (one_of (lines_of cut.exchanges) cut.line cut.more) all;
                    leads = ran.leads;
                    asks = on.asks;
                    clash = on.clash;
                    goes = subst (λ (disk : Told). IfTold disk (λ d. GoesOnFrom origin.opening (ran.after).world)) on.is_told ran.come.moved.grew;
                    mid = f.disk cut.mid.folder.now;
                    until = ran.come.moved.moments;
                    holds = holds_at s.functions s.honest (f.disk cut.mid.folder.now) (s.may_follow cut.mid.servers.now) (s.faults cut.mid.servers.now) cut.mid.engine.now ran.after ran.come.stands;
                    fits = ran.fits;
                  };
                  replies = inl ([], sym (append-nil (text_of cut.exchanges)));
                  whole = λ never. (lines_of cut.exchanges ++ cut.line ∷ cut.more, cut.answered, one_of (lines_of cut.exchanges) cut.line cut.more);
                  since = (stops cut.mid last cut.line fault cut.stops).1.on;
                }))
          ]
          | inr met ↦ inr (record {
            gained = text_of cut.exchanges;
            wrote = cut.wrote;
            meets = meets f s origin (scene_of start) (scene_of cut.mid) cut.exchanges met loops.bytes cut.lines cut.rest cut.cut (prefix_then (lines_of cut.exchanges) (lines_of cut.exchanges ++ cut.line ∷ cut.more) _ (cut.line ∷ cut.more, refl) all);
            replies = inl (text_met f s origin (scene_of start) (scene_of cut.mid) cut.exchanges met);
            whole = λ never. (
              lines_of cut.exchanges ++ cut.line ∷ cut.more,
              cut.answered,
              prefix_then _ (lines_of cut.exchanges) (lines_of cut.exchanges ++ cut.line ∷ cut.more) (lines_met f s origin (scene_of start) (scene_of cut.mid) cut.exchanges met) (cut.line ∷ cut.more, refl),
            );
            since = told_then (f.disk (met.mid).folder) (f.disk cut.mid.folder.now) (f.disk last.folder.now) (LeavesOnly (λ image. Unit {0})) (LeavesOnly (λ image. Unit {0})) (LeavesOnly (λ image. Unit {0}))
                (λ a b c early late. joined (λ image. Unit {0}) a b c early late) met.since (stops cut.mid last cut.line fault cut.stops).1.on;
          })
        ];
      }

  -- each line that is answered has its reply
  replies : (old new : Session F C) (seen : Unit {0}) (e : Exchange) → Unit {0} → Steps r old e new → (after : Unit {0}) × Replies seen e after × Unit {0}
  replies old new seen e known step = (tt, subst (IsReplied e.line) (sym step.1) ((answers old new e.line step.0).1).prints, tt)

  -- where none of them may change files none changes
  still : (start now : Session F C) (es : List Exchange) → LeadsTo (Steps r) start es now → NoneChanges es → Tells (f.disk start.folder.now) (f.disk now.folder.now) MovesNone
  still start now [] leads none = subst (λ (session : Session F C). Tells (f.disk start.folder.now) (f.disk session.folder.now) MovesNone) (sym leads) (stays_still (f.disk start.folder.now))
  still start now (e ∷ es) leads none =
      stays_still_then (f.disk start.folder.now) (f.disk (leads.0).folder.now) (f.disk now.folder.now) (((answers start leads.0 e.line leads.1.0).1).still none.0) (still leads.0 now es leads.2 none.1)

  -- and where none of them is a view or a cleanup only files of the documents change
  own : (start now : Session F C) (es : List Exchange) → LeadsTo (Steps r) start es now → NoneOnIndexes es → Tells (f.disk start.folder.now) (f.disk now.folder.now) MovesOwn
  own start now [] leads none = subst (λ (session : Session F C). Tells (f.disk start.folder.now) (f.disk session.folder.now) MovesOwn) (sym leads)
      (told_refl (f.disk start.folder.now) MovesOwn (λ d. moves_none IsDocsFile (λ image. Unit {0}) (λ files. Unit {0}) d (λ image is. tt) tt))
  own start now (e ∷ es) leads none =
      told_then (f.disk start.folder.now) (f.disk (leads.0).folder.now) (f.disk now.folder.now) MovesOwn MovesOwn MovesOwn
      (λ a b c early late. moves_then IsDocsFile (λ image. Unit {0}) (λ image. Unit {0}) (λ image. Unit {0}) (λ files. Unit {0}) (λ files. Unit {0}) (λ files. Unit {0}) a b c
      (λ image is. tt) (λ ended image is. tt) (λ first_ended second_ended. tt) early late)
      (((answers start leads.0 e.line leads.1.0).1).own none.0) (own leads.0 now es leads.2 none.1)

  -- the count of the query servers' faults rises by two for each line that is answered `server_fault`
  twice : (start now : Session F C) (es : List Exchange) → LeadsTo (Steps r) start es now → RoseBy (2 * server_faults es) (s.faults start.servers.now) (s.faults now.servers.now)
  twice start now [] leads = subst (λ (session : Session F C). RoseBy 0 (s.faults start.servers.now) (s.faults session.servers.now)) (sym leads) (none_rose (s.faults start.servers.now))
  twice start now (e ∷ es) leads =
      let mid = leads.0 in
      let answered = (answers start mid e.line leads.1.0).1 in
      let blames = subst (λ (text : List ℕ). is_server_fault (record { line = e.line; text = text }) ≡ true → RoseBy 2 (s.faults start.servers.now) (s.faults mid.servers.now)) (sym leads.1.1) answered.blames in
      one_more e es (s.faults start.servers.now) (s.faults mid.servers.now) (s.faults now.servers.now) answered.stays.server_faults blames (twice mid now es leads.2)

  -- the engine lies open behind each line that is answered
  open_lines : (start now : Session F C) (es : List Exchange) → LeadsTo (Steps r) start es now → LiesOpen f start.engine.now start.folder.now → LiesOpen f now.engine.now now.folder.now
  open_lines start now es leads is_open =
      LeadsTo-kept (λ (session : Session F C). LiesOpen f session.engine.now session.folder.now) (λ old new e before step. ((answers old new e.line step.0).1).is_open) start now es is_open leads

  -- and its update sequence has risen by the writes that are accepted
  counted : (start now : Session F C) (es : List Exchange) → LeadsTo (Steps r) start es now → update_seq now.engine.now ≡ update_seq start.engine.now + writes_in es
  counted start now [] leads = subst (λ (session : Session F C). update_seq session.engine.now ≡ update_seq start.engine.now + 0) (sym leads) (omega arith)
  counted start now (e ∷ es) leads =
      let mid = leads.0 in
      let answered = (answers start mid e.line leads.1.0).1 in
      let here = subst (λ (text : List ℕ). update_seq mid.engine.now ≡ update_seq start.engine.now + cond (says_written (request_of e.line) text) 1 0) (sym leads.1.1) answered.counts in
      writes_more e es (update_seq start.engine.now) (update_seq mid.engine.now) (update_seq now.engine.now) here (counted mid now es leads.2)

  opens_at : (start now : Session F C) (es : List Exchange) → LeadsTo (Steps r) start es now → LiesOpen f start.engine.now start.folder.now → IsOpenAt (f.disk now.folder.now) (update_seq start.engine.now + writes_in es)
  opens_at start now es leads is_open = (now.engine.now, open_lines start now es leads is_open, counted start now es leads)

  -- what the session replied, whatever the folder holds
  pub has_replied : (start last : Session F C) (left left' held held' : Option (List ℕ)) (end : LoopEnd StepFault) → Loops r start last left left' held held' end → LiesOpen f start.engine.now start.folder.now
      → HasReplied left left' held held' (f.disk start.folder.now) (f.disk last.folder.now) (update_seq start.engine.now) (s.faults start.servers.now) (s.faults last.servers.now) end
  has_replied start last left left' held held' (loop_end.Run end) loops is_open =
      let finishes = loops.ends in
      let run = finishes.run in
      let seen = LeadsTo-seen (λ (session : Session F C) (known : Unit {0}). Unit {0}) replies start last tt run.exchanges tt run.leads in
      record {
        bytes = loops.bytes;
        reads = loops.reads;
        counts = loops.counts;
        ends = record {
          gained = finishes.gained;
          run = record {
            exchanges = run.exchanges;
            lines = run.lines;
            rest = run.rest;
            cut = run.cut;
            answered = run.answered;
            leads = seen.1;
            written = run.written;
          };
          wrote = finishes.wrote;
          opens = opens_at start last run.exchanges run.leads is_open;
          still = still start last run.exchanges run.leads;
          own = own start last run.exchanges run.leads;
          twice = twice start last run.exchanges run.leads;
        };
      }
  has_replied start last left left' held held' (loop_end.Stopped fault) loops is_open =
      let cut = loops.ends in
      let seen = LeadsTo-seen (λ (session : Session F C) (known : Unit {0}). Unit {0}) replies start cut.mid tt cut.exchanges tt cut.leads in
      let stopped = (stops cut.mid last cut.line fault cut.stops).1 in
      record {
        bytes = loops.bytes;
        reads = loops.reads;
        counts = loops.counts;
        ends = record {
          exchanges = cut.exchanges;
          lines = cut.lines;
          rest = cut.rest;
          line = cut.line;
          more = cut.more;
          cut = cut.cut;
          answered = cut.answered;
          leads = seen.1;
          wrote = cut.wrote;
          mid = f.disk cut.mid.folder.now;
          opens = opens_at start cut.mid cut.exchanges cut.leads is_open;
          until = on_lines start cut.mid cut.exchanges cut.leads;
          since = stopped.on;
          found = stopped.found;
          still = still start cut.mid cut.exchanges cut.leads;
          kept = stopped.still;
          own = own start cut.mid cut.exchanges cut.leads;
          own_kept = stopped.own;
          unmoved = stopped.kept;
          index_kept = stopped.indexed;
          twice = rose_on (2 * server_faults cut.exchanges) (s.faults start.servers.now) (s.faults cut.mid.servers.now) (s.faults last.servers.now) (twice start cut.mid cut.exchanges cut.leads) stopped.stays.server_faults;
        };
      }

  -- what every line keeps
  abbrev pub KeepsAll : Session F C → Session F C → Type 0
  KeepsAll start now = KeepsPorts start now × Stays f s (scene_of start) (scene_of now)

  keeps_more : (start old new : Session F C) → KeepsAll start old → KeepsPorts old new → Stays f s (scene_of old) (scene_of new) → KeepsAll start new
  keeps_more start old new kept ports stays = (
    (ports.0 ∙ kept.0.0, ports.1 ∙ kept.0.1, ports.2 ∙ kept.0.2),
    record {
      languages = stays.languages ∙ kept.1.languages;
      width = stays.width ∙ kept.1.width;
      disk_faults = omega (arith, stays.disk_faults, kept.1.disk_faults);
      server_faults = omega (arith, stays.server_faults, kept.1.server_faults);
    },
  )

  keeps_line : (start old new : Session F C) (e : Exchange) → KeepsAll start old → Steps r old e new → KeepsAll start new
  keeps_line start old new e kept step = let answered = answers old new e.line step.0 in keeps_more start old new kept answered.0 (answered.1).stays

  keeps_none : (start : Session F C) → KeepsAll start start
  keeps_none start = ((refl, refl, refl), record { languages = refl; width = refl; disk_faults = omega arith; server_faults = omega arith })

  pub keeps : (start last : Session F C) (left left' held held' : Option (List ℕ)) (end : LoopEnd StepFault) → Loops r start last left left' held held' end → KeepsAll start last
  keeps start last left left' held held' (loop_end.Run end) loops =
      let run = loops.ends.run in
      LeadsTo-kept (KeepsAll start) (keeps_line start) start last run.exchanges (keeps_none start) run.leads
  keeps start last left left' held held' (loop_end.Stopped fault) loops =
      let cut = loops.ends in
      let stopped = stops cut.mid last cut.line fault cut.stops in
      keeps_more start cut.mid last (LeadsTo-kept (KeepsAll start) (keeps_line start) start cut.mid cut.exchanges (keeps_none start) cut.leads) stopped.0 (stopped.1).stays

  -- at the end of its input the engine lies open
  pub stays_open : (start last : Session F C) (left left' held held' : Option (List ℕ)) (end : LoopEnd StepFault) → Loops r start last left left' held held' end → LiesOpen f start.engine.now start.folder.now → HasEnded end
      → LiesOpen f last.engine.now last.folder.now
  stays_open start last left left' held held' (loop_end.Run end) loops is_open ended = let run = loops.ends.run in open_lines start last run.exchanges run.leads is_open
  stays_open start last left left' held held' (loop_end.Stopped fault) loops is_open ended = absurd cc

  spared_line : (start old new : Session F C) (e : Exchange) → f.faults old.folder.now ≡ f.faults start.folder.now → Steps r old e new → f.faults new.folder.now ≡ f.faults start.folder.now
  spared_line start old new e before step = ((answers old new e.line step.0).1).spares ∙ before

  -- only a fault of the folder ends it with one
  pub disk_failed : (start last : Session F C) (left left' held held' : Option (List ℕ)) (end : LoopEnd StepFault) → Loops r start last left left' held held' end → end ≡ loop_end.Stopped DiskFault
      → Rose (f.faults start.folder.now) (f.faults last.folder.now)
  disk_failed start last left left' held held' (loop_end.Run end) loops is = absurd cc
  disk_failed start last left left' held held' (loop_end.Stopped fault) loops is =
      let cut = loops.ends in
      let before = LeadsTo-kept (KeepsAll start) (keeps_line start) start cut.mid cut.exchanges (keeps_none start) cut.leads in
      let by_disk : fault ≡ DiskFault = cc in
      Rose-earlier (f.faults start.folder.now) (f.faults cut.mid.folder.now) (f.faults last.folder.now) before.1.disk_faults ((stops cut.mid last cut.line fault cut.stops).1.cause by_disk)

  -- and where it ends by another, or goes on to the end of its input, the folder counted none
  pub disk_spared : (start last : Session F C) (left left' held held' : Option (List ℕ)) (end : LoopEnd StepFault) → Loops r start last left left' held held' end → end ≢ loop_end.Stopped DiskFault
      → f.faults last.folder.now ≡ f.faults start.folder.now
  disk_spared start last left left' held held' (loop_end.Run end) loops other =
      let run = loops.ends.run in
      LeadsTo-kept (λ (session : Session F C). f.faults session.folder.now ≡ f.faults start.folder.now) (spared_line start) start last run.exchanges refl run.leads
  disk_spared start last left left' held held' (loop_end.Stopped fault) loops other =
      let cut = loops.ends in
      let before = LeadsTo-kept (λ (session : Session F C). f.faults session.folder.now ≡ f.faults start.folder.now) (spared_line start) start cut.mid cut.exchanges refl cut.leads in
      (stops cut.mid last cut.line fault cut.stops).1.spares (λ is. other (ap loop_end.Stopped is)) ∙ before

-- what a session was lent is as it left it
pub comes_behind : {F C : Type 0} (f : Folders F) (s : Servers C) (origin : Origin) (ran : Session F C) (engine : Engine) (folder : F) (servers : C) → engine ≡ ran.engine.now → folder ≡ ran.folder.now → servers ≡ ran.servers.now
    → {left left' held held' : Option (List ℕ)} {end : LoopEnd StepFault} → Comes f s origin (scene_of ran) left left' held held' end → Comes f s origin (scene engine folder servers) left left' held held' end
comes_behind {F} {C} f s origin ran engine folder servers same_engine same_folder same_servers {left} {left'} {held} {held'} {end} comes =
    subst (λ (x : Engine). Comes f s origin (scene x folder servers) left left' held held' end) (sym same_engine)
    (subst (λ (x : F). Comes f s origin (scene ran.engine.now x servers) left left' held held' end) (sym same_folder)
    (subst (λ (x : C). Comes f s origin (scene ran.engine.now ran.folder.now x) left left' held held' end) (sym same_servers) comes))

pub open_behind : {F C : Type 0} (f : Folders F) (ran : Session F C) (engine : Engine) (folder : F) → engine ≡ ran.engine.now → folder ≡ ran.folder.now → LiesOpen f ran.engine.now ran.folder.now → LiesOpen f engine folder
open_behind {F} {C} f ran engine folder same_engine same_folder is_open = subst (λ (x : Engine). LiesOpen f x folder) (sym same_engine) (subst (λ (x : F). LiesOpen f ran.engine.now x) (sym same_folder) is_open)

pub replied_behind : {F C : Type 0} (f : Folders F) (s : Servers C) (ran : Session F C) (folder : F) (servers : C) → folder ≡ ran.folder.now → servers ≡ ran.servers.now
    → {left left' held held' : Option (List ℕ)} {old : Told} {seq faults : ℕ} {end : LoopEnd StepFault}
    → HasReplied left left' held held' old (f.disk ran.folder.now) seq faults (s.faults ran.servers.now) end → HasReplied left left' held held' old (f.disk folder) seq faults (s.faults servers) end
replied_behind {F} {C} f s ran folder servers same same_servers {left} {left'} {held} {held'} {old} {seq} {faults} {end} replied =
    subst (λ (x : F). HasReplied left left' held held' old (f.disk x) seq faults (s.faults servers) end) (sym same)
    (subst (λ (x : C). HasReplied left left' held held' old (f.disk ran.folder.now) seq faults (s.faults x) end) (sym same_servers) replied)
