-- What serving did, from the end of its session.
use Rattle.std.specs.Prelude.{◌≡◌, ◌≤◌, ◌++◌, ℕ, List, [], ◌∷◌, Option, Some, None, length}
use Rattle.std.proofs.Common.{refl, sym, ap, ◌∙◌, subst, inl, inr, ⊎_elim}
use Rattle.std.proofs.KnownBytes.{Appends-trans}
use Rattle.std.specs.Io.KnownBytes.{Appends, Consumes, IsAtEnd}
use Rattle.view_ports.specs.declared.file_name.FileName.{FileName}
use Rattle.view_ports.specs.declared.run_end.RunEnd.{RunEnd}
use Rattle.view_ports.specs.declared.run_end.RunEnd.TheVariants.{InputEnded, SinkFailed}
use Rattle.line_loop.specs.declared.loop_end.LoopEnd.{LoopEnd}
use Rattle.line_loop.specs.declared.loop_end.LoopEnd.TheVariants as loop_end
use Rattle.view_ports.specs.Calls.{Call}
use Rattle.view_ports.specs.Disk.{Disk, IfTold, IsImageOf, LeavesOnly, Tells}
use Rattle.view_ports.specs.Faults.{Rose}
use Rattle.view_ports.specs.Exchanges.{Exchange, IsPrefixOf, LeadsTo, text_of}
use Rattle.view_ports.specs.Functions.{Functions}
use Rattle.view_ports.specs.Runs.{HasRead, status_of, input_limit}
use Rattle.view_ports.proofs.Moments.{at_end}
use Rattle.view_ports.proofs.Told.{told_after, told_all}
use Rattle.view_engine.specs.declared.halt.StepFault.{StepFault}
use Rattle.view_engine.specs.declared.halt.StepFault.TheVariants.{Damaged, DiskFault, Full}
use Rattle.view_engine.specs.Engine.{HasStopped}
use Rattle.view_engine.specs.Moments.{Moment}
use Rattle.view_engine.specs.Accepted.{accepted}
use Rattle.view_engine.specs.Steps.{Answers, MayHaveCalled}
use Rattle.view_engine.specs.World.{World}
use Rattle.view_engine.specs.Worlds.{at_start, StandsAround, StandsFor, width as width_of}
use Rattle.view_engine.proofs.AcceptedWrites.{LeadsTo-accepted}
use Rattle.view_engine.proofs.Worlds.{holds_at, images_at}
use Rattle.couchview_cli.specs.Closing.{closing_of, Closes}
use Rattle.couchview_cli.specs.Serving.{AreLeft, Clashes, Finishes, IsCutShort, IsUnopened, Outside, Steps, width}
use Rattle.view_ports.specs.declared.folder.Folder.{Ghosts as Folders}
use Rattle.view_ports.specs.declared.servers.Servers.{Ghosts as Servers}
use Rattle.view_engine.specs.Calls.{Scene}
use Rattle.view_engine.specs.Refusals.{request_of}
use Rattle.couchview_cli.specs.Ends.{CutOff, Ended, HasClashed}
use Rattle.couchview_cli.specs.Session.{Origin}
use Rattle.couchview_cli.proofs.Clashing.{longer}
use Rattle.couchview_cli.proofs.Keeping.{IsHalted-of}
use Rattle.couchview_cli.proofs.Moving.{moved_halted, told_first, Told}

-- where a session began
abbrev pub origin_of : List (List ℕ × List ℕ) → World → Outside → Origin
origin_of languages opening before = record { languages = languages; opening = opening; disk = before.disk; faults = before.faults }

-- what was written before the last line
pub closes_after : (before mid after : Option (List ℕ)) (text : List ℕ) (fault : StepFault) (status : ℕ) → Appends before mid text → Closes mid after [] fault status → Closes before after text fault status
closes_after before mid after text fault status wrote (inl whole) = inl (whole.0, Appends-trans before mid after text _ wrote whole.1)
closes_after before mid after text fault status wrote (inr failed) = inr (failed.0, ((failed.1).0, (failed.1).1, Appends-trans before mid after text _ wrote (failed.1).2))

abbrev pub ran_to : RunEnd → LoopEnd StepFault
ran_to end = loop_end.Run end

pub input_ended : (end : RunEnd) → ran_to end ≡ ran_to InputEnded → status_of end ≡ 0
input_ended end is = let same : end ≡ InputEnded = cc in ap status_of same

pub sink_failed : (end : RunEnd) → ran_to end ≡ ran_to SinkFailed → status_of end ≡ 4
sink_failed end is = let same : end ≡ SinkFailed = cc in ap status_of same

-- a session that met designs that clash, and then was ended by a fault, which the last line names
pub clashed_then : {F C : Type 0} (f : Folders F) (s : Servers C) (languages : List (List ℕ × List ℕ)) (opening : World) (before after : Outside) (mid : Option (List ℕ)) (bytes : List ℕ) (now : Scene F C) (fault : StepFault) (status : ℕ)
    → Consumes before.left after.left bytes → length bytes ≤ input_limit → HasClashed f s (origin_of languages opening before) (IsAtEnd after.left) before.held mid bytes now (loop_end.Stopped fault) → Closes mid after.held [] fault status
    → after.disk ≡ f.disk now.folder → Clashes s.functions s.honest languages opening before after status
clashed_then f s languages opening before after mid bytes now fault status reads counts met closes same = by_close closes
  where
    begins : IsPrefixOf (text_of (met.meets).exchanges) met.gained
    begins = ⊎_elim (λ is. is) (λ failed. let stopped : LoopEnd StepFault = loop_end.Stopped fault in let clash : stopped ≡ ran_to SinkFailed = failed.0 in let no : ⊥ = cc in absurd no) met.replies

    closed_with : (more : List ℕ) → Appends mid after.held more → Clashes s.functions s.honest languages opening before after status
    closed_with more wrote = record {
      bytes = bytes;
      gained = met.gained ++ more;
      reads = reads;
      counts = counts;
      writes = Appends-trans before.held mid after.held met.gained more met.wrote wrote;
      meets = met.meets;
      replies = inl (longer (text_of (met.meets).exchanges) met.gained more begins);
      whole = λ other. met.whole (λ ended. let stopped : LoopEnd StepFault = loop_end.Stopped fault in let clash : stopped ≡ ran_to InputEnded = ended in let no : ⊥ = cc in no);
      since = subst (λ (d : Option (Disk FileName)). Tells (met.meets).mid d (LeavesOnly (λ image. Unit {0}))) (sym same) met.since;
    }

    by_close : Closes mid after.held [] fault status → Clashes s.functions s.honest languages opening before after status
    by_close (inl whole) = closed_with (closing_of fault) whole.1
    by_close (inr failed) = closed_with (failed.1).0 (failed.1).2

module _ (functions : List ℕ → Functions) (honest : List ℕ → Type 0) (languages : List (List ℕ × List ℕ)) where
  leads_answers : (opening : World) (d : Disk FileName) (start : Moment) (exchanges : List Exchange) (moment : Moment) → LeadsTo (Steps functions honest languages opening (Some d)) start exchanges moment
      → LeadsTo (Answers functions honest languages) start exchanges moment
  leads_answers opening d start [] moment leads = leads
  leads_answers opening d start (e ∷ es) moment leads = (leads.0, ((leads.1).1).0, leads_answers opening d leads.0 es moment leads.2)

  pub leads_accepted : (opening : World) (disk : Told) (start : Moment) (exchanges : List Exchange) (moment : Moment) → LeadsTo (Steps functions honest languages opening disk) start exchanges moment
      → IfTold disk (λ d. (moment.world).history ≡ (accepted start.world exchanges).history)
  leads_accepted opening None start exchanges moment leads = tt
  leads_accepted opening (Some d) start exchanges moment leads = LeadsTo-accepted functions honest languages start exchanges moment (leads_answers opening d start exchanges moment leads)

  -- each image now stands for the world before the line or the one that it makes
  pub images_around : (old new : Told) (world : World) (line : List ℕ) → Tells old new (LeavesOnly (StandsAround functions honest languages world (request_of line)))
      → IfTold new (λ d. (image : FileName → List ℕ) → IsImageOf d.now image → StandsAround functions honest languages world (request_of line) image)
  images_around old new world line moments =
      let around = StandsAround functions honest languages world (request_of line) in
      told_after old new (λ d. Unit {0}) (λ d. (image : FileName → List ℕ) → IsImageOf d.now image → around image) (LeavesOnly around) (λ a b known leaves. at_end around a b leaves)
      (told_all old (λ d. Unit {0}) (λ d. tt)) moments

module _ (languages : List (List ℕ × List ℕ)) (opening : World) where
  module _ {F C : Type 0} (f : Folders F) (s : Servers C) (before : Outside) (left held : Option (List ℕ)) (now stopped : Scene F C)
      (stops : (calls : List Call) → s.may_follow now.servers calls → HasStopped (s.may_follow stopped.servers) stopped.engine calls) (wide : width_of stopped.engine ≡ width) (same : s.faults stopped.servers ≡ s.faults now.servers) (same_folder : stopped.folder ≡ now.folder) where
    abbrev after_at : F → Outside
    after_at folder = record { left = left; held = held; disk = f.disk folder; disk_faults = f.faults folder; faults = s.faults stopped.servers }

    pub are_left : (moment : Moment) → s.may_follow now.servers moment.calls → AreLeft (s.may_follow stopped.servers) moment.calls
    are_left moment follows = let left = stops moment.calls follows in record { added = left.added; only = left.only; follows = left.follows; stopped = λ slot below. left.stopped.stopped slot (subst (λ (w : ℕ). slot ≤ w) (sym wide) below) }

    -- a session that came to its end, and then the children were ended
    abbrev pub finished_at : (bytes : List ℕ) (end : RunEnd) → Consumes before.left left bytes → HasRead end (length bytes) → Ended f s (origin_of languages opening before) (IsAtEnd left) before.held held bytes now end
        → Finishes s.functions s.honest languages opening before (after_at now.folder) (AreLeft (s.may_follow stopped.servers)) (status_of end)
    finished_at bytes end reads counts ended =
        let stands = ended.has_come.stands in
        record {
          bytes = bytes;
          gained = ended.gained;
          end = end;
          moment = ended.moment;
          ends = refl;
          reads = reads;
          counts = counts;
          writes = ended.wrote;
          runs = ended.run;
          keeps = leads_accepted s.functions s.honest languages opening before.disk (at_start opening width before.faults) ended.run.exchanges ended.moment ended.run.leads;
          goes = ended.has_come.moved.grew;
          sound = ended.has_come.moved.sound;
          fits = ended.fits;
          moments = ended.has_come.moved.moments;
          images = images_at s.functions s.honest (f.disk now.folder) (s.may_follow now.servers) (s.faults now.servers) now.engine ended.moment stands;
          holds = holds_at s.functions s.honest (f.disk now.folder) (s.may_follow now.servers) (s.faults now.servers) now.engine ended.moment stands;
          faulted = same ∙ stands.child.counts;
          at_end = are_left ended.moment stands.child.follows;
        }

    pub finishes : (bytes : List ℕ) (end : RunEnd) → Consumes before.left left bytes → HasRead end (length bytes) → Ended f s (origin_of languages opening before) (IsAtEnd left) before.held held bytes now end
        → Finishes s.functions s.honest languages opening before (after_at stopped.folder) (AreLeft (s.may_follow stopped.servers)) (status_of end)
    finishes bytes end reads counts ended =
        subst (λ (folder : F). Finishes s.functions s.honest languages opening before (after_at folder) (AreLeft (s.may_follow stopped.servers)) (status_of end)) (sym same_folder) (finished_at bytes end reads counts ended)

    -- a session that was cut short, and then the children were ended and the last line was written
    abbrev pub cut_now : (mid : Option (List ℕ)) (bytes : List ℕ) (fault : StepFault) (status : ℕ) → Consumes before.left left bytes → length bytes ≤ input_limit
        → (fault ≡ DiskFault → Rose before.disk_faults (f.faults now.folder)) → CutOff f s (origin_of languages opening before) (IsAtEnd left) before.held mid bytes now fault → Closes mid held [] fault status
        → IsCutShort s.functions s.honest languages opening before (after_at now.folder) (AreLeft (s.may_follow stopped.servers)) status
    cut_now mid bytes fault status reads counts cause off closes =
        let come = off.has_come in
        let halted = IsHalted-of languages off.line come.languages (off.halts.halts off.moment come.stands off.fit) in
        let old = f.disk off.mid.folder in
        let new = f.disk now.folder in
        let begun = origin_of languages opening before in
        let world = (off.moment).world in
        record {
          bytes = bytes;
          exchanges = off.exchanges;
          lines = off.lines;
          rest = off.rest;
          line = off.line;
          more = off.more;
          moment = off.moment;
          fault = fault;
          reads = reads;
          counts = counts;
          cut = off.cut;
          answered = off.answered;
          leads = off.leads;
          keeps = leads_accepted s.functions s.honest languages opening before.disk (at_start opening width before.faults) off.exchanges off.moment off.leads;
          goes = come.moved.grew;
          sound = come.moved.sound;
          closes = closes_after before.held mid held (text_of off.exchanges) fault status off.wrote closes;
          halts = off.halts.found.halts;
          cause = cause;
          whole = told_first s.functions s.honest begun old new world come.moved ((name : FileName) (at : ℕ) → fault ≡ Damaged name at → ⊥) halted.whole;
          mid = old;
          until = come.moved.moments;
          holds = holds_at s.functions s.honest old (s.may_follow off.mid.servers) (s.faults off.mid.servers) off.mid.engine off.moment come.stands;
          fits = off.fits;
          full = halted.full;
          filled = halted.filled;
          room = halted.room;
          kept = off.halts.kept;
          since = halted.moments;
          moments = moved_halted s.functions s.honest begun old new world come.moved off.line halted.moments;
          images = images_around s.functions s.honest languages old new world off.line halted.moments;
          last = halted.last;
          called = told_first s.functions s.honest begun old new world come.moved (MayHaveCalled s.functions s.honest languages off.moment (request_of off.line) halted.last) halted.called;
          faulted = same ∙ halted.left.counts;
          at_end = are_left halted.last halted.left.follows;
        }

    pub cut_short : (mid : Option (List ℕ)) (bytes : List ℕ) (fault : StepFault) (status : ℕ) → Consumes before.left left bytes → length bytes ≤ input_limit
        → (fault ≡ DiskFault → Rose before.disk_faults (f.faults now.folder)) → CutOff f s (origin_of languages opening before) (IsAtEnd left) before.held mid bytes now fault → Closes mid held [] fault status
        → IsCutShort s.functions s.honest languages opening before (after_at stopped.folder) (AreLeft (s.may_follow stopped.servers)) status
    cut_short mid bytes fault status reads counts cause off closes =
        subst (λ (folder : F). IsCutShort s.functions s.honest languages opening before (after_at folder) (AreLeft (s.may_follow stopped.servers)) status) (sym same_folder) (cut_now mid bytes fault status reads counts cause off closes)

module _ (functions : List ℕ → Functions) (honest : List ℕ → Type 0) (languages : List (List ℕ × List ℕ)) (opening : World) where
  module _ (before : Outside) (held : Option (List ℕ)) (disk : Told) (disk_faults : ℕ) (may_follow : List Call → Type 0) (follows : may_follow []) (opened : Tells before.disk disk (LeavesOnly (λ image. StandsFor image opening))) where
    abbrev now : Outside
    now = record { left = before.left; held = held; disk = disk; disk_faults = disk_faults; faults = before.faults }

    abbrev none_left : AreLeft may_follow []
    none_left = record { added = []; only = tt; follows = follows; stopped = λ slot below. refl }

    -- the folder could not be opened
    pub unopened : (fault : StepFault) (status : ℕ) → Closes before.held held [] fault status → (fault ≡ DiskFault → Rose before.disk_faults disk_faults) → IfTold before.disk (λ d. (name : FileName) (at : ℕ) → fault ≡ Damaged name at → ⊥)
        → ((name : FileName) (length : Option ℕ) → fault ≡ Full name length → ⊥)
        → IsUnopened functions honest languages opening before now (AreLeft may_follow) status
    unopened fault status closes cause whole room = record {
      fault = fault;
      unread = refl;
      closes = closes;
      cause = cause;
      whole = whole;
      room = room;
      moments = opened;
      faulted = refl;
      at_end = none_left;
    }
