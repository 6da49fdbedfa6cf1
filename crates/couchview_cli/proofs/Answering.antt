-- What a step of the engine is to a session.
use Rattle.std.specs.Prelude.{◌≡◌, ◌≢◌, ◌⊎◌, ◌++◌, ℕ, List, [], true, IfErr, Result, Ok, Err}
use Rattle.std.proofs.Common.{refl, sym, ap, ◌∙◌, subst, inl, inr, ⊎_elim}
use Rattle.std.proofs.lemmas.Result.{IfErr-weaker}
use Rattle.view_ports.specs.Calls.{Call}
use Rattle.view_ports.specs.Disk.{Tells}
use Rattle.view_ports.specs.Faults.{Rose}
use Rattle.view_ports.specs.Functions.{Functions}
use Rattle.view_ports.specs.declared.file_name.FileName.{FileName}
use Rattle.view_ports.specs.Lines.{ended}
use Rattle.view_ports.proofs.DiskRuns.{moves_wider, none_wider}
use Rattle.view_ports.proofs.Told.{told_all, told_map, told_now, told_pair}
use Rattle.tree_groups.specs.Cleans.{IsIndexFile}
use Rattle.view_engine.specs.declared.engine.Engine.{Engine}
use Rattle.view_engine.specs.declared.halt.StepFault.{StepFault}
use Rattle.view_engine.specs.declared.halt.StepFault.TheVariants as halt
use Rattle.view_engine.specs.declared.refusal.Refusal.{Refusal}
use Rattle.view_engine.specs.declared.refusal.Refusal.TheVariants.{NoMemory}
use Rattle.view_engine.specs.declared.request.Request.{Request}
use Rattle.view_engine.specs.declared.request.Request.TheVariants.{Cleanup, View}
use Rattle.view_engine.specs.Engine.{Appends as StepAppends, IsAt, Leaves}
use Rattle.view_engine.specs.Moments.{Moment}
use Rattle.view_engine.specs.Refusals.{refusal_text, request_of}
use Rattle.view_engine.specs.Steps.{Answers, Does, MayHaveCalled}
use Rattle.view_engine.specs.Worlds.{HasRoomAt}
use Rattle.view_engine.specs.Calls.{IsStep, Scene}
use Rattle.view_engine.specs.Disks.{IsFitFor, IsOnIndexes, IsReasonOf, LiesOpen, MovesIndexes, MovesIndexOf, SparesStep}
use Rattle.view_engine.specs.ViewQuery.{view_query}
use Rattle.view_engine.specs.Worlds.{languages as languages_of}
use Rattle.view_engine.proofs.Stepping.{step_damaged, step_filled, step_full, step_full_in, step_kept, step_room_left, step_sound, step_on, step_still, step_stopped}
use Rattle.view_ports.specs.declared.folder.Folder.{Ghosts as Folders}
use Rattle.view_ports.specs.declared.servers.Servers.{Ghosts as Servers}
use Rattle.couchview_cli.specs.Reading.{MovesIndexFiles}
use Rattle.couchview_cli.specs.Session.{Answered, IsAnswered, IsUnanswered}
use Rattle.couchview_cli.proofs.Counting.{spent_counts, step_counts}
use Rattle.couchview_cli.proofs.Keeping.{answers_no_memory}
use Rattle.couchview_cli.proofs.Moving.{Told}
use Rattle.view_engine.specs.Accepted.{is_ok}
use Rattle.view_engine.proofs.ReplyLines.{refusal_line}
use Rattle.view_engine.proofs.Rooms.{constant_no_ok, step_room}
use Rattle.view_engine.proofs.ServerFaults.{appended_fault, constant_no_fault}

module _ (functions : List ℕ → Functions) (honest : List ℕ → Type 0) (languages : List (List ℕ × List ℕ)) (before : Moment) (old new : Told) (may_follow : List Call → Type 0) (faults : ℕ) (engine : Engine) where
  -- a line that was done
  pub answered_done : (line start out : List ℕ) → start ≡ [] → StepAppends functions honest old new may_follow faults engine before (Does functions honest languages before line) start out
      → Answered functions honest languages old new before line out (IsAt functions honest new may_follow faults engine)
  answered_done line start out empty done =
      let left = done.leaves in
      let same : done.text ≡ out = sym (done.appended ∙ ap (λ (front : List ℕ). front ++ done.text) empty) in
      subst (λ (text : List ℕ). Answered functions honest languages old new before line text (IsAt functions honest new may_follow faults engine)) same
      (record {
        after = left.after;
        answers = told_now old (λ d. Does functions honest languages before line done.text left.after) (λ d. Answers functions honest languages before (record { line = line; text = done.text }) left.after) (λ d does. inl does) left.allowed;
        moments = left.moments;
        stands = left.is_at;
      })

  -- a line for which memory ran out
  pub answered_spent : (line : List ℕ) → line ≢ [] → Leaves functions honest old new may_follow faults engine before (MayHaveCalled functions honest languages before (request_of line))
      → Answered functions honest languages old new before line (ended (refusal_text NoMemory)) (IsAt functions honest new may_follow faults engine)
  answered_spent line some left = record {
    after = left.after;
    answers = told_now old (λ d. MayHaveCalled functions honest languages before (request_of line) left.after) (λ d. Answers functions honest languages before (record { line = line; text = ended (refusal_text NoMemory) }) left.after)
        (λ d called. answers_no_memory functions honest languages before line left.after some called) left.allowed;
    moments = left.moments;
    stands = left.is_at;
  }

-- a line that is no request is answered with the constant where memory ran out
spent_refused : (request : Result Request Refusal)
    → IfErr request (λ refusal. (ended (refusal_text NoMemory) ≡ ended (refusal_text refusal)) ⊎ (ended (refusal_text NoMemory) ≡ ended (refusal_text NoMemory)))
spent_refused (Ok request) = tt
spent_refused (Err refusal) = inr refl

-- a fault of the disk is the folder's
disk_rose : {F : Type 0} (f : Folders F) (engine engine' : Engine) (old new : F) (request : Result Request Refusal) → IsReasonOf f engine engine' old new request halt.DiskFault → Rose (f.faults old) (f.faults new)
disk_rose f engine engine' old new request (inl why) = why.0
disk_rose f engine engine' old new request (inr why) = absurd why

-- a view or a cleanup changes files of indexes alone
index_files : {F : Type 0} (f : Folders F) (engine : Engine) (old new : F) (request : Result Request Refusal) → IsOnIndexes request → MovesIndexes f engine old new request → Tells (f.disk old) (f.disk new) MovesIndexFiles
index_files f engine old new (Ok (View view query)) is moves =
    told_map (f.disk old) (f.disk new) (MovesIndexOf engine (view_query view query)) MovesIndexFiles
    (λ a b moved. ⊎_elim (λ none. none_wider IsIndexFile (λ image. Unit {0}) (λ files. Unit {0}) a b (λ image here. tt) (λ same. tt) none)
    (λ one. moves_wider _ IsIndexFile (λ image. Unit {0}) (λ image. Unit {0}) (λ files. Unit {0}) (λ files. Unit {0}) a b (λ name own. (_, own)) (λ image framed. tt) (λ others ended. tt) one.2) moved.files)
    moves
index_files f engine old new (Ok Cleanup) is moves = moves
index_files f engine old new other is moves = absurd is

module _ {F C : Type 0} {f : Folders F} {s : Servers C} {old new : Scene F C} {line start out : List ℕ} where
  -- a step of the engine that is done is an answer
  pub answered_by : start ≡ [] → IsStep f s old new line start out (Ok tt) → SparesStep f old.folder new.folder (Ok tt) → IsAnswered f s old new line out
  answered_by empty step spares = record {
    answers = λ before at fit.
        answered_done s.functions s.honest (languages_of old.engine) before (f.disk old.folder) (f.disk new.folder) (s.may_follow new.servers) (s.faults new.servers) new.engine line start out empty
        (step.does before at fit);
    room = step_room step empty;
    prints = record {
      none = λ none. step.prints.none none ∙ empty;
      some = λ some. let printed = step.prints.some some in (printed.0, printed.1, printed.2 ∙ ap (λ (front : List ℕ). front ++ ended printed.0) empty);
      refused = λ some. IfErr-weaker (request_of line) (λ refusal. out ≡ start ++ ended (refusal_text refusal)) _
          (λ refusal told. inl (told ∙ ap (λ (front : List ℕ). front ++ ended (refusal_text refusal)) empty)) (step.refused some);
    };
    counts = step_counts line empty step;
    blames = λ is. step.blames (appended_fault line start out empty is);
    still = step_still step;
    own = λ never. (step.disk.documents never).own;
    on = step_on step;
    is_open = step.disk.is_open tt;
    spares = spares (λ is. let no : ⊥ = cc in no);
    stays = step.stays;
  }

  -- where it had no memory the answer is a constant
  pub answered_constant : IsStep f s old new line start out (Err halt.NoMemory) → SparesStep f old.folder new.folder (Err halt.NoMemory) → IsAnswered f s old new line (ended (refusal_text NoMemory))
  answered_constant step spares = record {
    answers = λ before at fit.
        answered_spent s.functions s.honest (languages_of old.engine) before (f.disk old.folder) (f.disk new.folder) (s.may_follow new.servers) (s.faults new.servers) new.engine line step.asked
        (step.does before at fit);
    room = λ before at. told_all (f.disk old.folder) (λ d. is_ok (ended (refusal_text NoMemory)) ≡ true → HasRoomAt d.now before.world (request_of line)) (λ d ok. absurd (constant_no_ok ok));
    prints = record { none = λ none. absurd (step.asked none); some = λ some. (refusal_text NoMemory, refusal_line NoMemory, refl); refused = λ some. spent_refused (request_of line) };
    counts = spent_counts line (step.asked) step;
    blames = λ is. absurd (constant_no_fault line is);
    still = step_still step;
    own = λ never. (step.disk.documents never).own;
    on = step_on step;
    is_open = step.disk.is_open tt;
    spares = spares (λ is. let no : ⊥ = cc in no);
    stays = step.stays;
  }

  -- after each other fault the line is not answered
  pub unanswered_by : (fault : StepFault) → fault ≢ halt.NoMemory → LiesOpen f old.engine old.folder → IsStep f s old new line start out (Err fault) → SparesStep f old.folder new.folder (Err fault)
      → IsUnanswered f s old new line fault
  unanswered_by fault other is_open step spares = record {
    halts = λ before at fit.
        let stopped = step_stopped step before at fit other in
        record {
          moments = stopped.0;
          whole = told_pair (f.disk old.folder) (λ d. (name : FileName) (at : ℕ) → fault ≡ halt.Damaged name at → IsIndexFile name × (IsFitFor (request_of line) before.world → ⊥)) (λ d. IsFitFor (request_of line) before.world)
              (λ d. (name : FileName) (at : ℕ) → fault ≡ halt.Damaged name at → ⊥) (λ d unsound is_fit name at is. (unsound name at is).1 is_fit) (step_sound step before at fit) fit;
          full = step_full step before at fit;
          filled = told_now (f.disk new.folder) _ _ (λ d full name length is view. (old.engine.cache, new.engine.cache, full name length is view)) (step_filled step before at fit);
          room = step_room_left step before at fit;
          last = (stopped.1).after;
          called = (stopped.1).allowed;
          left = (stopped.1).child;
        };
    cause = λ is. disk_rose f old.engine new.engine old.folder new.folder (request_of line) (subst (IsReasonOf f old.engine new.engine old.folder new.folder (request_of line)) is step.why);
    spares = λ apart. spares (λ is. apart (let same : fault ≡ halt.DiskFault = cc in same));
    found = record {
      halts = other;
      asks = IfErr-weaker (request_of line) (λ refusal. fault ≡ halt.NoMemory) (λ refusal. ⊥) (λ refusal is. other is) step.refused;
      damaged = step_damaged is_open step;
      full = step_full_in is_open step;
    };
    still = step_still step;
    own = λ never. (step.disk.documents never).own;
    on = step_on step;
    kept = step_kept step;
    indexed = λ is. index_files f old.engine old.folder new.folder (request_of line) is step.disk.indexes;
    stays = step.stays;
  }
