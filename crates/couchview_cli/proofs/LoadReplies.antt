-- What a load replied, whatever the folder holds, from what was shown of it.
use Rattle.std.proofs.Common.{◌≡◌, ◌≤◌, ◌<◌, ◌^◌, ◌∙◌, ℕ, List, [], Option, inl, inr, refl, sym, subst, ◌≢◌, ap}
use Rattle.std.specs.List.{flat_map}
use Rattle.view_ports.specs.Disk.{IfTold, MovesNone, Tells}
use Rattle.view_ports.specs.Exchanges.{Exchange}
use Rattle.view_ports.specs.Lines.{ended}
use Rattle.view_ports.specs.declared.file_name.FileName.{FileName}
use Rattle.view_ports.specs.declared.folder.Folder.{Ghosts as Folders}
use Rattle.view_ports.specs.declared.run_end.RunEnd.TheVariants.{InputEnded}
use Rattle.view_ports.specs.declared.servers.Servers.{Ghosts as Servers}
use Rattle.line_loop.specs.declared.loop_end.LoopEnd.{LoopEnd}
use Rattle.line_loop.specs.declared.loop_end.LoopEnd.TheVariants as loop_end
use Rattle.view_engine.specs.declared.engine.Engine.{Engine}
use Rattle.view_engine.specs.declared.halt.StepFault.{StepFault}
use Rattle.view_engine.specs.declared.halt.StepFault.TheVariants.{Damaged, DiskFault, Full, NoMemory}
use Rattle.view_engine.specs.Calls.{Scene, scene}
use Rattle.view_engine.specs.Disks.{IsReadReasonOf, LiesOpen}
use Rattle.view_engine.specs.Halts.{IsDamage}
use Rattle.view_engine.specs.Openings.{IsMovedByOpening}
use Rattle.view_engine.specs.Worlds.{update_seq, HasBodyDamage, IsOpen}
use Rattle.view_ports.proofs.Told.{told_all, told_pair}
use Rattle.view_engine.proofs.Worlds.{stays_still}
use Rattle.couchview_cli.specs.Closing.{Closes}
use Rattle.couchview_cli.specs.Loading.{load_lines, load_text, AnswersLoad, HasRunOver, IsOfReading, IsPrinted}
use Rattle.couchview_cli.specs.Reading.{IsOpenAt, Replies}
use Rattle.couchview_cli.specs.Replied.{IsReplied}
use Rattle.couchview_cli.specs.Serving.{Outside}
use Rattle.couchview_cli.specs.Showing.{HasComeTo, HasNotRead, HasShown, RunsOut, StopsEarly}
use Rattle.couchview_cli.proofs.Loaded.{read_room, shown_text}
use Rattle.couchview_cli.proofs.LoadRequests.{each_line}
use Rattle.couchview_cli.proofs.Shown.{run_lines}

replied : (a : Unit {0}) (e : Exchange) (b : Unit {0}) → Replies a e b → IsReplied e.line e.text
replied a e b step = step

module _ {F C : Type 0} (f : Folders F) (s : Servers C) (docs seed : ℕ) (ports : Outside) (held : Option (List ℕ)) (start last stopped : Scene F C) (same : s.faults stopped.servers ≡ s.faults last.servers) where
  abbrev text : List ℕ
  text = flat_map ended (load_lines docs seed)

  abbrev before : Outside
  before = record ports { faults = s.faults start.servers }

  abbrev after : Outside
  after = record { left = ports.left; held = held; disk = f.disk last.folder; disk_faults = f.faults last.folder; faults = s.faults stopped.servers }

  module _ (moved : Tells before.disk (f.disk start.folder) IsMovedByOpening) (is_open : LiesOpen f start.engine start.folder) (zero : update_seq start.engine ≡ 0) where
    abbrev has_replies : (gained : List ℕ) (end : LoopEnd StepFault) (mid : F) → HasComeTo f s start text (scene last.engine mid last.servers) gained end → Tells (f.disk mid) (f.disk last.folder) MovesNone → HasRunOver docs seed before after end
    has_replies gained end mid come read = record {
      opened = f.disk start.folder;
      seq = update_seq start.engine;
      mid = f.disk mid;
      left = come.left;
      gained = gained;
      moved = moved;
      opens = (start.engine, is_open, refl);
      new = zero;
      faults = s.faults last.servers;
      counted = same;
      replied = come.replied;
      read = read;
    }

    pub answers_all : seed < 2 ^ 31 → docs ≤ 20000 → (shown : List ℕ) (status : ℕ) → HasShown f s start text docs seed last shown → IsPrinted before.held held shown status → AnswersLoad docs seed before after status
    answers_all low few shown status has prints =
        let come = has.ran.come in
        let ended_ = come.replied.ends in
        let run = ended_.run in
        let lines = run_lines Replies _ tt tt (load_lines docs seed) come.replied.bytes ended_.gained come.left (each_line docs seed low few) come.replied.reads (come.over refl) run in
        let is : shown ≡ load_text docs seed run.exchanges has.fresh = shown_text Replies replied tt tt run.exchanges docs seed has.gained has.fresh shown run.leads lines (ended_.wrote ∙ run.written) has.is in
        inl (has_replies has.gained (loop_end.Run InputEnded) has.ran.mid come has.ran.read, has.fresh, subst (λ (t : List ℕ). IsPrinted before.held held t status) is prints)

    damaged_there : (engine : Engine) (mid : F) (fault : StepFault) → LiesOpen f engine mid → IsReadReasonOf f engine mid last.folder fault → IfTold (f.disk mid) (λ d. (name : FileName) (at : ℕ) → fault ≡ Damaged name at → HasBodyDamage d.now name at)
    damaged_there engine mid (Damaged file place) is_open why =
        told_pair (f.disk mid) (λ d. IsOpen engine d.now) (λ d. IsDamage engine.docs d.now file place) (λ d. (name : FileName) (at : ℕ) → Damaged file place ≡ Damaged name at → HasBodyDamage d.now name at)
        (λ d here damage name at same. let one : file ≡ name = cc in let two : place ≡ at = cc in subst (λ (n : FileName). HasBodyDamage d.now n at) one
        (subst (λ (a : ℕ). HasBodyDamage d.now file a) two (record { docs = engine.docs; is_open = here.documents; damage = damage }))) is_open why.0
    damaged_there engine mid DiskFault is_open why = told_all (f.disk mid) _ (λ d name at same. absurd cc)
    damaged_there engine mid (Full file size) is_open why = absurd why
    damaged_there engine mid NoMemory is_open why = told_all (f.disk mid) _ (λ d name at same. absurd cc)

    of_reading : (fault : StepFault) (unread : HasNotRead f s start text last fault) → IsOfReading (f.disk unread.ran.mid) fault
    of_reading fault unread = record {
      damaged = damaged_there last.engine unread.ran.mid fault unread.is_open unread.why;
      room = read_room f last unread.ran.mid fault unread.why;
    }

    module _ (begun : f.faults start.folder ≡ before.disk_faults) where
      spared_by : (gained : List ℕ) (end : LoopEnd StepFault) (mid : F) → HasComeTo f s start text (scene last.engine mid last.servers) gained end → f.faults last.folder ≡ f.faults mid → end ≢ loop_end.Stopped DiskFault → f.faults last.folder ≡ before.disk_faults
      spared_by gained end mid come same_count other = same_count ∙ come.spared other ∙ begun

      -- memory ran out
      answers_spent : (status : ℕ) → RunsOut f s start text last → Closes before.held held [] NoMemory status → AnswersLoad docs seed before after status
      answers_spent status (inl still) closes =
          inr (inr (inl (record {
            moved = subst (λ (x : Scene F C). Tells before.disk (f.disk x.folder) IsMovedByOpening) (sym still) moved;
            seq = 0;
            opens = subst (λ (x : Scene F C). IsOpenAt (f.disk x.folder) 0) (sym still) (start.engine, is_open, zero);
            spared = ap (λ (x : Scene F C). f.faults x.folder) still ∙ begun;
            ends = inr (refl, closes);
          })))
      answers_spent status (inr (inl (gained, end, ran, counted))) closes =
          inr (inl (record {
            end = loop_end.Run end;
            fault = NoMemory;
            ran = has_replies gained (loop_end.Run end) ran.mid ran.come ran.read;
            why = inl refl;
            spared = λ other named. spared_by gained (loop_end.Run end) ran.mid ran.come counted other;
            closes = closes;
          }))
      answers_spent status (inr (inr (gained, met, came, want))) closes =
          inr (inl (record {
            end = loop_end.Stopped met;
            fault = NoMemory;
            ran = has_replies gained (loop_end.Stopped met) last.folder came (stays_still (f.disk last.folder));
            why = inr (refl, want);
            spared = λ other named. spared_by gained (loop_end.Stopped met) last.folder came refl other;
            closes = closes;
          }))

      pub answers_not : (fault : StepFault) (status : ℕ) → StopsEarly f s start text last fault → Closes before.held held [] fault status → AnswersLoad docs seed before after status
      answers_not fault status (inl (gained, came, done)) closes =
          inr (inl (record {
            end = loop_end.Stopped fault;
            fault = fault;
            ran = has_replies gained (loop_end.Stopped fault) last.folder came (stays_still (f.disk last.folder));
            why = inl refl;
            spared = λ other named. spared_by gained (loop_end.Stopped fault) last.folder came refl other;
            closes = closes;
          }))
      answers_not fault status (inr (inl unread)) closes =
          inr (inl (record {
            end = loop_end.Run InputEnded;
            fault = fault;
            ran = has_replies unread.gained (loop_end.Run InputEnded) unread.ran.mid unread.ran.come unread.ran.read;
            why = inr (refl, of_reading fault unread);
            spared = λ other named. spared_by unread.gained (loop_end.Run InputEnded) unread.ran.mid unread.ran.come (unread.spared named) other;
            closes = closes;
          }))
      answers_not fault status (inr (inr (is, out))) closes = answers_spent status out (subst (λ (x : StepFault). Closes before.held held [] x status) is closes)
