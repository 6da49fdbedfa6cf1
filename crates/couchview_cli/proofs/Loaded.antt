-- What a load did, from what was shown of it.
use Rattle.std.proofs.Common.{◌≡◌, ◌≢◌, ◌⊎◌, ◌≤◌, ◌<◌, ◌^◌, ◌∙◌, ◌++◌, ℕ, List, [], Option, Some, None, inl, inr, refl, sym, ap, subst, length, codes, arith}
use Rattle.std.specs.List.{AllByRecursion, flat_map}
use Rattle.view_ports.specs.Calls.{Call}
use Rattle.view_ports.specs.Disk.{Disk, IfTold, LeavesOnly, Tells}
use Rattle.view_ports.specs.Exchanges.{Exchange, LeadsTo, lines_of, text_of}
use Rattle.view_ports.specs.Faults.{Rose}
use Rattle.view_ports.specs.Functions.{Functions}
use Rattle.view_ports.specs.Lines.{ended}
use Rattle.view_ports.specs.Runs.{status_of}
use Rattle.view_ports.specs.declared.file_name.FileName.{FileName}
use Rattle.view_ports.specs.declared.folder.Folder.{Ghosts as Folders}
use Rattle.view_ports.specs.declared.run_end.RunEnd.{RunEnd}
use Rattle.view_ports.specs.declared.run_end.RunEnd.TheVariants.{InputEnded}
use Rattle.view_ports.specs.declared.servers.Servers.{Ghosts as Servers}
use Rattle.view_ports.proofs.Counting.{Rose-earlier}
use Rattle.view_ports.proofs.Told.{told_all, told_pair}
use Rattle.line_loop.specs.declared.loop_end.LoopEnd.TheVariants as loop_end
use Rattle.map_server.specs.Pick.{pick}
use Rattle.doc_file.specs.Docs.{IsAt as AreAt}
use Rattle.view_engine.specs.declared.halt.StepFault.{StepFault}
use Rattle.view_engine.specs.declared.halt.StepFault.TheVariants.{Damaged, DiskFault, Full, NoMemory}
use Rattle.view_engine.specs.Calls.{Scene, scene}
use Rattle.view_engine.specs.Disks.{IsReadReasonOf}
use Rattle.view_engine.specs.Engine.{HasStopped}
use Rattle.view_engine.specs.Moments.{Moment}
use Rattle.view_engine.specs.Updating.{IsSound}
use Rattle.view_engine.specs.World.{World}
use Rattle.view_engine.specs.Worlds.{at_start, Holds, IsAtWorld, StandsFor, width as width_of}
use Rattle.view_engine.proofs.Worlds.{holds_at}
use Rattle.load_lines.specs.Lines.{first_lines, second_lines}
use Rattle.std.specs.Io.KnownBytes.{IsAtEnd}
use Rattle.line_loop.specs.declared.loop_end.LoopEnd.{LoopEnd}
use Rattle.couchview_cli.specs.Closing.{Closes, closing_of, fault_status}
use Rattle.couchview_cli.specs.Ends.{Comes, EndsBy}
use Rattle.couchview_cli.specs.Loading.{first_view, fresh_answer, info_place, load_lines, load_text, reply_to, second_view, HasBegun, HasServed, HasWant, IsCut, IsIdle, IsPrinted, IsUnread, Loads, NoneWants}
use Rattle.couchview_cli.specs.Replied.{IsReplied}
use Rattle.couchview_cli.specs.Serving.{AreLeft, IsCutShort, Outside, Steps, width}
use Rattle.couchview_cli.specs.Session.{IsAtOrigin, Origin}
use Rattle.couchview_cli.specs.Showing.{HasComeTo, HasNotRead, HasRunTo, HasShown, RunsOut, StopsEarly, IsShown, NoneIsWant, reply_at}
use Rattle.couchview_cli.proofs.LoadFits.{never_clashes}
use Rattle.couchview_cli.proofs.LoadPuts.{each_put}
use Rattle.couchview_cli.proofs.LoadRequests.{each_line, each_some}
use Rattle.couchview_cli.proofs.LoadWhole.{second_is_fresh}
use Rattle.couchview_cli.proofs.Moving.{told_first}
use Rattle.couchview_cli.proofs.Served.{cut_now, finished_at, origin_of}
use Rattle.couchview_cli.proofs.Shown.{answers_at, answers_cut, answers_of, none_wants, run_lines, written_of}

-- the last line behind what was written
abbrev ended_by : Option (List ℕ) → StepFault → Option (List ℕ)
ended_by None fault = None
ended_by (Some text) fault = Some (text ++ closing_of fault)

closes_by : (gained : Option (List ℕ)) (fault : StepFault) → Closes gained (ended_by gained fault) [] fault (fault_status fault)
closes_by None fault = inl (refl, tt)
closes_by (Some text) fault = inl (refl, refl)

-- what is shown is made of the replies of a run over all lines
pub shown_text : {W : Type 0} (step : W → Exchange → W → Type 0) → ((a : W) (e : Exchange) (b : W) → step a e b → IsReplied e.line e.text) → (start end : W) (es : List Exchange) (docs seed : ℕ) (gained fresh shown : List ℕ) → LeadsTo step start es end
    → lines_of es ≡ load_lines docs seed → gained ≡ text_of es → IsShown (first_view docs seed) (second_view docs seed) gained fresh shown → shown ≡ load_text docs seed es fresh
shown_text step replied start end es docs seed gained fresh shown leads lines written has =
    let answers = answers_of step replied start end es (subst (AllByRecursion (λ line. line ≢ [])) (sym lines) (each_some docs seed)) leads in
    let is : has.replies ≡ answers.0 = answers_cut gained es answers.0 has.replies has.rest answers.1 written has.cut in
    let at : (place : ℕ) → reply_at has.replies place ≡ reply_to es place = λ place. answers_at es answers.0 has.replies place answers.1 is in
    has.is
    ∙ ap (λ (t : List ℕ). t ++ (reply_at has.replies (second_view docs seed) ++ (ended fresh ++ reply_at has.replies (info_place docs seed)))) (at (first_view docs seed))
    ∙ ap (λ (t : List ℕ). reply_to es (first_view docs seed) ++ (t ++ (ended fresh ++ reply_at has.replies (info_place docs seed)))) (at (second_view docs seed))
    ∙ ap (λ (t : List ℕ). reply_to es (first_view docs seed) ++ (reply_to es (second_view docs seed) ++ (ended fresh ++ t))) (at (info_place docs seed))

-- where the disk is told, the reply to the second view is the answer afresh
same_of : (functions : List ℕ → Functions) (honest : List ℕ → Type 0) (opening : World) (disk : Option (Disk FileName)) (docs seed faults faults' : ℕ) → seed < 2 ^ 31 → docs ≤ 20000 → (start end : Moment) (es : List Exchange)
    (fresh : List ℕ) → lines_of es ≡ load_lines docs seed → NoneWants es → LeadsTo (Steps functions honest [] opening disk) start es end
    → start.faults ≡ faults → faults' ≡ end.faults → IfTold disk (λ d. (start.world).history ≡ []) → IfTold disk (λ d. fresh ≡ fresh_answer (end.world).history)
    → IfTold disk (λ d. IsSound functions honest [] opening → honest (codes "builtin:pick") → functions (codes "builtin:pick") ≡ pick → (Rose faults faults' → ⊥) → reply_to es (second_view docs seed) ≡ ended fresh)
same_of functions honest opening None docs seed faults faults' low few start end es fresh lines done leads before after none afresh = tt
same_of functions honest opening (Some d) docs seed faults faults' low few start end es fresh lines done leads before after none afresh = λ sound is_honest is_pick calm.
    second_is_fresh functions honest opening d docs seed low few sound is_honest is_pick start end es lines done leads none (λ rose. calm (rw (sym before, after) rose)) ∙ ap ended (sym afresh)

-- .. and the history has a write of each put
puts_of : (functions : List ℕ → Functions) (honest : List ℕ → Type 0) (opening : World) (disk : Option (Disk FileName)) (docs seed : ℕ) → seed < 2 ^ 31 → docs ≤ 20000 → (start end : Moment) (es : List Exchange)
    → lines_of es ≡ load_lines docs seed → NoneWants es → LeadsTo (Steps functions honest [] opening disk) start es end → IfTold disk (λ d. (start.world).history ≡ [])
    → IfTold disk (λ d. length (end.world).history ≡ length (first_lines docs seed ++ second_lines docs seed))
puts_of functions honest opening None docs seed low few start end es lines done leads none = tt
puts_of functions honest opening (Some d) docs seed low few start end es lines done leads none = each_put functions honest opening d docs seed low few start end es lines done leads none

-- reading documents fills no file
pub read_room : {F C : Type 0} (f : Folders F) (last : Scene F C) (mid : F) (fault : StepFault) → IsReadReasonOf f last.engine mid last.folder fault → (name : FileName) (length : Option ℕ) → fault ≡ Full name length → ⊥
read_room f last mid fault why name length is = subst (IsReadReasonOf f last.engine mid last.folder) is why

module _ {F C : Type 0} (f : Folders F) (s : Servers C) (docs seed : ℕ) (opening : World) (before : Outside) (left held : Option (List ℕ)) (start last stopped : Scene F C)
    (stops : (calls : List Call) → s.may_follow last.servers calls → HasStopped (s.may_follow stopped.servers) stopped.engine calls) (wide : width_of stopped.engine ≡ width) (same : s.faults stopped.servers ≡ s.faults last.servers) where
  abbrev text : List ℕ
  text = flat_map ended (load_lines docs seed)

  abbrev origin : Origin
  origin = origin_of [] opening before

  abbrev first : Outside
  first = record before { left = Some text; held = Some [] }

  abbrev after : Outside
  after = record { left = left; held = held; disk = f.disk last.folder; disk_faults = f.faults last.folder; faults = s.faults stopped.servers }

  abbrev AtEnd : List Call → Type 0
  AtEnd = AreLeft (s.may_follow stopped.servers)

  abbrev Does : ℕ → Type 0
  Does = Loads s.functions s.honest docs seed opening before after AtEnd

  abbrev Step : Moment → Exchange → Moment → Type 0
  Step = Steps s.functions s.honest [] opening before.disk

  replied : (a : Moment) (e : Exchange) (b : Moment) → Step a e b → IsReplied e.line e.text
  replied a e b step = step.0

  module _ (low : seed < 2 ^ 31) (few : docs ≤ 20000) (none : IfTold before.disk (λ d. opening.history ≡ [])) (at : IsAtOrigin f s origin start) where
    -- designs of a load never clash, so a session over its lines came to its end
    ends_of : {now : Scene F C} {end : LoopEnd StepFault} {left held held' : Option (List ℕ)} (came : Comes f s origin now (Some text) left held held' end) → EndsBy f s origin (IsAtEnd left) held held' came.bytes now end
    ends_of {now} {end} {left} {held} {held'} came = elim came.ends [
      | inl ends ↦ ends
      | inr clash ↦ absurd (never_clashes s.functions s.honest opening before.disk before.faults docs seed low few none left came.bytes came.reads clash.meets)
    ]

    -- lines were served, and the documents read
    abbrev begun : (gained : List ℕ) (end : RunEnd) → HasRunTo f s start text last gained end → HasBegun s.functions s.honest docs seed opening before after AtEnd (status_of end)
    begun gained end ran =
        let came = ran.come.come origin at in
        record {
          left = ran.come.left;
          gained = Some gained;
          disk = f.disk ran.mid;
          disk_faults = f.faults ran.mid;
          served = finished_at [] opening f s first ran.come.left (Some gained) (scene last.engine ran.mid last.servers) (scene stopped.engine ran.mid stopped.servers) stops wide same refl came.bytes end came.reads came.counts (ends_of came);
          read = ran.read;
        }

    lines_served : (gained : List ℕ) (ran : HasRunTo f s start text last gained InputEnded) → lines_of (begun gained InputEnded ran).served.runs.exchanges ≡ load_lines docs seed
    lines_served gained ran =
        let came = ran.come.come origin at in
        run_lines Step _ (at_start opening width before.faults) (ends_of came).moment (load_lines docs seed) came.bytes (ends_of came).gained ran.come.left (each_line docs seed low few) came.reads (ran.come.over refl) (ends_of came).run

    none_refused : (gained : List ℕ) (ran : HasRunTo f s start text last gained InputEnded) → NoneIsWant gained → NoneWants (begun gained InputEnded ran).served.runs.exchanges
    none_refused gained ran done =
        let ended_ = ends_of (ran.come.come origin at) in
        none_wants gained ended_.run.exchanges (written_of Step replied (at_start opening width before.faults) ended_.moment ended_.run.exchanges ended_.run.leads) (ended_.wrote ∙ ended_.run.written) done

    abbrev served : (gained : List ℕ) → HasRunTo f s start text last gained InputEnded → NoneIsWant gained → HasServed s.functions s.honest docs seed opening before after AtEnd
    served gained ran done = record { begun = begun gained InputEnded ran; lines = lines_served gained ran; done = none_refused gained ran done }

    -- all were, and what is shown of them was printed
    pub loads_all : (shown : List ℕ) (status : ℕ) → HasShown f s start text docs seed last shown → IsPrinted before.held held shown status → Does status
    loads_all shown status has prints =
        let mid = has.ran.mid in
        let ended_ = ends_of (has.ran.come.come origin at) in
        let run = ended_.run in
        let moment = ended_.moment in
        let start_ = at_start opening width before.faults in
        let lines = lines_served has.gained has.ran in
        let prints_text = shown_text Step replied start_ moment run.exchanges docs seed has.gained has.fresh shown run.leads lines (ended_.wrote ∙ run.written) has.is in
        let done = none_refused has.gained has.ran has.done in
        let afresh = told_first s.functions s.honest origin (f.disk mid) (f.disk mid) moment.world ended_.has_come.moved (has.fresh ≡ fresh_answer (moment.world).history)
        (told_pair (f.disk mid) (λ d. IsAtWorld last.engine d.now moment.world → has.fresh ≡ fresh_answer (moment.world).history) (λ d. IsAtWorld last.engine d.now moment.world) (λ d. has.fresh ≡ fresh_answer (moment.world).history)
        (λ d fresh there. fresh there) (has.afresh moment.world) ended_.has_come.stands.documents) in
        let ran = served has.gained has.ran has.done in
        inl (
          none,
          inl (record {
            ran = ran;
            fresh = has.fresh;
            afresh = afresh;
            puts = puts_of s.functions s.honest opening before.disk docs seed low few start_ moment run.exchanges lines done run.leads none;
            prints = subst (λ (t : List ℕ). IsPrinted before.held held t status) prints_text prints;
            same = same_of s.functions s.honest opening before.disk docs seed before.faults after.faults low few start_ moment run.exchanges has.fresh lines done run.leads refl ran.begun.served.faulted none afresh;
          }),
        )

    -- where the disk is told the documents can't be read only where it failed
    read_failed : (mid : F) (moment : Moment) (fault : StepFault) → IfTold (f.disk mid) (λ d. IsAtWorld last.engine d.now moment.world) → fault ≢ NoMemory → IsReadReasonOf f last.engine mid last.folder fault → IfTold (f.disk mid) (λ d. fault ≡ DiskFault)
    read_failed mid moment DiskFault there other why = told_all (f.disk mid) (λ d. DiskFault ≡ DiskFault) (λ d. refl)
    read_failed mid moment (Damaged name place) there other why =
        told_pair (f.disk mid) (λ d. IsAtWorld last.engine d.now moment.world) (λ d. AreAt last.engine.docs d.now (moment.world).history → ⊥) (λ d. Damaged name place ≡ DiskFault)
        (λ d here never. absurd (never here.documents)) there (why.1 moment.world)
    read_failed mid moment (Full name length) there other why = absurd why
    read_failed mid moment NoMemory there other why = absurd (other refl)

    -- nothing was done but the opening
    module _ (opened : Tells before.disk (f.disk start.folder) (LeavesOnly (λ image. StandsFor image opening))) (faulted : s.faults start.servers ≡ before.faults) (earlier : before.disk_faults ≤ f.faults start.folder) where
      idle : last ≡ start → IsIdle s.functions s.honest docs seed opening before after AtEnd
      idle is =
          let left_ = stops [] (subst (λ (x : Scene F C). s.may_follow x.servers []) (sym is) at.stands.child.follows) in
          record {
            moments = subst (λ (x : Scene F C). Tells before.disk (f.disk x.folder) (LeavesOnly (λ image. StandsFor image opening))) (sym is) opened;
            holds = subst (λ (x : Scene F C). IfTold (f.disk x.folder) (λ d. Holds d.now opening)) (sym is)
                (holds_at s.functions s.honest (f.disk start.folder) (s.may_follow start.servers) (s.faults start.servers) start.engine (at_start opening width before.faults) at.stands);
            faulted = same ∙ ap (λ (x : Scene F C). s.faults x.servers) is ∙ faulted;
            at_end = record { added = left_.added; only = left_.only; follows = left_.follows; stopped = λ slot below. left_.stopped.stopped slot (subst (λ (w : ℕ). slot ≤ w) (sym wide) below) };
          }

      line_cause : (gained : List ℕ) (fault : StepFault) → HasComeTo f s start text last gained (loop_end.Stopped fault) → fault ≡ DiskFault → Rose before.disk_faults (f.faults last.folder)
      line_cause gained fault came is = Rose-earlier before.disk_faults (f.faults start.folder) (f.faults last.folder) earlier (came.cause (ap loop_end.Stopped is))

      -- a line that wasn't answered cut the run short
      abbrev cut_at : (gained : List ℕ) (fault : StepFault) (came : HasComeTo f s start text last gained (loop_end.Stopped fault))
          → IsCutShort s.functions s.honest [] opening first (record after { left = came.left; held = ended_by (Some gained) fault }) AtEnd (fault_status fault)
      cut_at gained fault came =
          let came_ = came.come origin at in
          cut_now [] opening f s first came.left (ended_by (Some gained) fault) last (scene stopped.engine last.folder stopped.servers) stops wide same refl (Some gained) came_.bytes fault (fault_status fault) came_.reads came_.counts (line_cause gained fault came) (ends_of came_) (closes_by (Some gained) fault)

      read_cause : (mid : F) (fault : StepFault) → f.faults start.folder ≤ f.faults mid → IsReadReasonOf f last.engine mid last.folder fault → fault ≡ DiskFault → Rose before.disk_faults (f.faults last.folder)
      read_cause mid fault later why is =
          Rose-earlier before.disk_faults (f.faults mid) (f.faults last.folder) (omega (arith, earlier, later)) (subst (IsReadReasonOf f last.engine mid last.folder) is why)

      unread : (fault : StepFault) (status : ℕ) → fault ≢ NoMemory → HasNotRead f s start text last fault → Closes before.held held [] fault status → IsUnread s.functions s.honest docs seed opening before after AtEnd status
      unread fault status other is closes =
          let mid = is.ran.mid in
          let ended_ = ends_of (is.ran.come.come origin at) in
          record {
            fault = fault;
            ran = served is.gained is.ran is.done;
            halts = other;
            room = read_room f last mid fault is.why;
            whole = told_first s.functions s.honest origin (f.disk mid) (f.disk mid) (ended_.moment).world ended_.has_come.moved (fault ≡ DiskFault) (read_failed mid ended_.moment fault ended_.has_come.stands.documents other is.why);
            cause = read_cause mid fault is.ran.come.count is.why;
            closes = closes;
          }

      -- memory ran out as the documents were read
      read_spent : (status : ℕ) → HasNotRead f s start text last NoMemory → Closes before.held held [] NoMemory status → Does status
      read_spent status is closes = inl (none, inr (inr (inr (record { closes = closes; served = inr (inl (0, begun is.gained InputEnded is.ran)) }))))

      unread_as : (fault : StepFault) (status : ℕ) → HasNotRead f s start text last fault → Closes before.held held [] fault status → Does status
      unread_as NoMemory status is closes = read_spent status is closes
      unread_as DiskFault status is closes = inl (none, inr (inr (inl (unread DiskFault status (λ same. let never : ⊥ = cc in never) is closes))))
      unread_as (Damaged name place) status is closes = inl (none, inr (inr (inl (unread (Damaged name place) status (λ same. let never : ⊥ = cc in never) is closes))))
      unread_as (Full name length) status is closes = inl (none, inr (inr (inl (unread (Full name length) status (λ same. let never : ⊥ = cc in never) is closes))))

      -- memory ran out
      given_up : RunsOut f s start text last → IsIdle s.functions s.honest docs seed opening before after AtEnd ⊎ (((end : ℕ) × HasBegun s.functions s.honest docs seed opening before after AtEnd end) ⊎ IsCut s.functions s.honest docs seed opening before after AtEnd)
      given_up (inl still) = inl (idle still)
      given_up (inr (inl (gained, end, ran, counted))) = inr (inl (status_of end, begun gained end ran))
      given_up (inr (inr (gained, met, came, want))) =
          let off = ends_of (came.come origin at) in
          inr (inr (record { left = came.left; gained = ended_by (Some gained) met; status = fault_status met; cut = cut_at gained met came; wants = subst HasWant off.wrote want }))

      -- something was in the way
      pub loads_not : (fault : StepFault) (status : ℕ) → StopsEarly f s start text last fault → Closes before.held held [] fault status → Does status
      loads_not fault status (inl (gained, came, done)) closes =
          let off = ends_of (came.come origin at) in
          inl (
            none,
            inr (inl (record {
              fault = fault;
              left = came.left;
              gained = ended_by (Some gained) fault;
              cut = cut_at gained fault came;
              is = refl;
              done = none_wants gained off.exchanges (written_of Step replied (at_start opening width before.faults) off.moment off.exchanges off.leads) off.wrote done;
              closes = closes;
            })),
          )
      loads_not fault status (inr (inl unread_)) closes = unread_as fault status unread_ closes
      loads_not fault status (inr (inr (is, out))) closes = inl (none, inr (inr (inr (record { closes = subst (λ (x : StepFault). Closes before.held held [] x status) is closes; served = given_up out }))))
