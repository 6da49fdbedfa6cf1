-- A line is answered as what is kept of it.
use Rattle.std.specs.Prelude.{◌≡◌, ◌≢◌, ◌⊎◌, ◌+◌, ℕ, Option, List, [], true, cond, IfErr, Result}
use Rattle.std.proofs.Common.{refl, sym, ap, ◌∙◌, subst, inl, inr}
use Rattle.view_ports.specs.Functions.{Functions}
use Rattle.view_engine.specs.Moments.{Moment}
use Rattle.view_engine.specs.declared.refusal.Refusal.{Refusal}
use Rattle.view_engine.specs.declared.refusal.Refusal.TheVariants.{NoMemory}
use Rattle.view_engine.specs.declared.request.Request.{Request}
use Rattle.view_engine.specs.Refusals.{request_limit, refusal_text, request_of}
use Rattle.view_ports.specs.Lines.{ended, kept}
use Rattle.view_ports.proofs.KeptLines.{kept-cases, kept-nil, kept-none}
use Rattle.view_engine.specs.Steps.{Answers, MayHaveCalled}
use Rattle.view_ports.specs.Disk.{IfTold, LeavesOnly, Tells}
use Rattle.view_ports.specs.declared.file_name.FileName.{FileName}
use Rattle.view_ports.proofs.Told.{told_now}
use Rattle.view_engine.specs.declared.halt.StepFault.{StepFault}
use Rattle.view_engine.specs.declared.halt.StepFault.TheVariants.{DiskFault, Full}
use Rattle.view_engine.specs.World.{World}
use Rattle.view_engine.specs.Worlds.{update_seq, HasBodyDamage, HasRoomAt, IsFullAt, IsFullIn, StandsAround}
use Rattle.view_ports.specs.declared.folder.Folder.{Ghosts as Folders}
use Rattle.view_ports.specs.declared.servers.Servers.{Ghosts as Servers}
use Rattle.view_engine.specs.Accepted.{is_ok}
use Rattle.view_engine.specs.Calls.{Scene}
use Rattle.view_engine.proofs.RequestLimit.{Answers-cut, request_limit-is, request_of-long}
use Rattle.view_engine.specs.Disks.{ChangesFiles, IsFitFor, IsOfIndex, IsOfSomeIndex, IsOnIndexes, IsView, MeetsFullIndexIn, MeetsIndexDamageIn, ReadsDocuments}
use Rattle.view_engine.specs.FullIndex.{IsIndexFullOf}
use Rattle.view_engine.specs.Halts.{Writes}
use Rattle.view_engine.specs.ServerFaults.{says_server_fault}
use Rattle.couchview_cli.specs.Reading.{says_written, IsFoundOn}
use Rattle.couchview_cli.specs.Replied.{IsReplied}
use Rattle.couchview_cli.specs.Session.{Answered, IsAnswered, IsUnanswered, IsHalted}
use Rattle.couchview_cli.proofs.Moving.{Told}

module _ (functions : List ℕ → Functions) (honest : List ℕ → Type 0) (languages : List (List ℕ × List ℕ)) where
  -- a line is answered as what is kept of it
  pub Answers-kept : (before : Moment) (line text : List ℕ) (after : Moment) → Answers functions honest languages before (record { line = kept request_limit line; text = text }) after
      → Answers functions honest languages before (record { line = line; text = text }) after
  Answers-kept before line text after answers =
      elim (kept-cases request_limit line) [
        | inl long ↦ Answers-cut functions honest languages before line text after long.0 answers
        | inr whole ↦ subst (λ (l : List ℕ). Answers functions honest languages before (record { line = l; text = text }) after) whole answers
      ]

  -- where memory ran out the answer is a constant
  pub answers_no_memory : (before : Moment) (line : List ℕ) (after : Moment) → line ≢ [] → MayHaveCalled functions honest languages before (request_of line) after
      → Answers functions honest languages before (record { line = line; text = ended (refusal_text NoMemory) }) after
  answers_no_memory before line after some called = inr (some, refl, called)

-- a line is the request that what is kept of it is
pub request_kept : (line : List ℕ) → request_of (kept request_limit line) ≡ request_of line
request_kept line =
    elim (kept-cases request_limit line) [
      | inl long ↦ request_of-long (kept request_limit line) long.1 ∙ sym (request_of-long line long.0)
      | inr whole ↦ ap request_of whole
    ]

module _ {functions : List ℕ → Functions} {honest : List ℕ → Type 0} {languages : List (List ℕ × List ℕ)} {old new : Told} {before : Moment} {text : List ℕ} {Stands : Moment → Type 0} where
  -- the same languages, written in another way
  pub Answered-of : (languages' : List (List ℕ × List ℕ)) (line : List ℕ) → languages ≡ languages' → Answered functions honest languages old new before line text Stands
      → Answered functions honest languages' old new before line text Stands
  Answered-of languages' line same answered = subst (λ (ls : List (List ℕ × List ℕ)). Answered functions honest ls old new before line text Stands) same answered

  pub Answered-kept : (line : List ℕ) → Answered functions honest languages old new before (kept request_limit line) text Stands → Answered functions honest languages old new before line text Stands
  Answered-kept line answered = record {
    after = answered.after;
    answers = told_now old (λ d. Answers functions honest languages before (record { line = kept request_limit line; text = text }) answered.after) (λ d. Answers functions honest languages before (record { line = line; text = text }) answered.after)
        (λ d answers. Answers-kept functions honest languages before line text answered.after answers) answered.answers;
    moments = answered.moments;
    stands = answered.stands;
  }

module _ {functions : List ℕ → Functions} {honest : List ℕ → Type 0} {languages : List (List ℕ × List ℕ)} {fault : StepFault} {old new : Told} {before : Moment} {HasLeft : Moment → Type 0} where
  pub IsHalted-of : (languages' : List (List ℕ × List ℕ)) (line : List ℕ) → languages ≡ languages' → IsHalted functions honest languages fault old new before line HasLeft
      → IsHalted functions honest languages' fault old new before line HasLeft
  IsHalted-of languages' line same halted = subst (λ (ls : List (List ℕ × List ℕ)). IsHalted functions honest ls fault old new before line HasLeft) same halted

  pub IsHalted-kept : (line : List ℕ) → IsHalted functions honest languages fault old new before (kept request_limit line) HasLeft → IsHalted functions honest languages fault old new before line HasLeft
  IsHalted-kept line halted = record {
    moments = subst (λ r. Tells old new (LeavesOnly (StandsAround functions honest languages before.world r))) (request_kept line) halted.moments;
    whole = halted.whole;
    full = subst (λ r. IfTold old (λ d. (name : FileName) (length : Option ℕ) → fault ≡ Full name length → IsFullAt d.now before.world r name length ⊎ IsOfIndex d.now r name)) (request_kept line) halted.full;
    filled = subst (λ r. IfTold new (λ d. (name : FileName) (length : Option ℕ) → fault ≡ Full name length → IsView r → IsIndexFullOf functions honest languages d.now before.world r name length)) (request_kept line) halted.filled;
    room = subst (λ r. IfTold old (λ d. fault ≡ DiskFault → HasRoomAt d.now before.world r)) (request_kept line) halted.room;
    last = halted.last;
    called = subst (λ r. IfTold old (λ d. MayHaveCalled functions honest languages before r halted.last)) (request_kept line) halted.called;
    left = halted.left;
  }

-- a line has a reply where what is kept of it has
replied_kept : (line text : List ℕ) → IsReplied (kept request_limit line) text → IsReplied line text
replied_kept line text replied = record {
  none = λ none. replied.none (ap (kept request_limit) none ∙ kept-nil request_limit);
  some = λ some. replied.some (λ none. some (kept-none request_limit line none));
  refused = λ some. subst (λ request. IfErr request (λ refusal. (text ≡ ended (refusal_text refusal)) ⊎ (text ≡ ended (refusal_text NoMemory)))) (request_kept line)
      (replied.refused (λ none. some (kept-none request_limit line none)));
}

-- a line's request has a property where that of what is kept of it has, and not where that has not
unless_kept : {P : Type 0} (Q : Result Request Refusal → Type 0) (line : List ℕ) → ((Q (request_of (kept request_limit line)) → ⊥) → P) → (Q (request_of line) → ⊥) → P
unless_kept {P} Q line unless = subst (λ request. (Q request → ⊥) → P) (request_kept line) unless

found_kept : {before now : Told} {fault : StepFault} (line : List ℕ) → IsFoundOn before now (kept request_limit line) fault → IsFoundOn before now line fault
found_kept {before = before} {now = now} line found = record {
  halts = found.halts;
  asks = subst (λ request. IfErr request (λ refusal. ⊥)) (request_kept line) found.asks;
  damaged = λ name at is. subst (λ request. (ReadsDocuments request × IfTold now (λ d. HasBodyDamage d.now name at)) ⊎ (IsOnIndexes request × Tells before now (λ a b. MeetsIndexDamageIn a.now b.now request name at))) (request_kept line) (found.damaged name at is);
  full = λ name length is. subst (λ request. (Writes request × IfTold now (λ d. IsFullIn d.now request name length)) ⊎ (IsOfSomeIndex request name × Tells before now (λ a b. MeetsFullIndexIn a.now b.now request name length))) (request_kept line) (found.full name length is);
}

-- what is supposed for a line's request is supposed for that of what is kept of it
fit_kept : (old : Told) (line : List ℕ) (world : World) → IfTold old (λ d. IsFitFor (request_of line) world) → IfTold old (λ d. IsFitFor (request_of (kept request_limit line)) world)
fit_kept old line world fit = subst (λ request. IfTold old (λ d. IsFitFor request world)) (sym (request_kept line)) fit

-- what a responder is given of a line is what is kept of it
is_kept : (line given : List ℕ) → given ≡ kept 2097152 line → given ≡ kept request_limit line
is_kept line given is = is ∙ ap (λ (limit : ℕ). kept limit line) (sym request_limit-is)

module _ {F C : Type 0} {f : Folders F} {s : Servers C} {old new : Scene F C} (line given : List ℕ) (is : given ≡ kept 2097152 line) where
  pub answered_whole : (text : List ℕ) → IsAnswered f s old new given text → IsAnswered f s old new line text
  answered_whole text answered =
      let kept_answered : IsAnswered f s old new (kept request_limit line) text = subst (λ (l : List ℕ). IsAnswered f s old new l text) (is_kept line given is) answered in
      record { answers = λ before at fit. Answered-kept line (kept_answered.answers before at (fit_kept (f.disk old.folder) line before.world fit)); room = λ before at. subst (λ request. IfTold (f.disk old.folder) (λ d. is_ok text ≡ true → HasRoomAt d.now before.world request)) (request_kept line) (kept_answered.room before at); prints = replied_kept line text kept_answered.prints; counts = subst (λ request. update_seq new.engine ≡ update_seq old.engine + cond (says_written request text) 1 0) (request_kept line) kept_answered.counts; blames = λ fault. kept_answered.blames (ap (λ request. says_server_fault request text) (request_kept line) ∙ fault); still = unless_kept ChangesFiles line kept_answered.still; own = unless_kept IsOnIndexes line kept_answered.own; on = answered.on; is_open = answered.is_open; spares = answered.spares; stays = answered.stays }

  pub unanswered_whole : (fault : StepFault) → IsUnanswered f s old new given fault → IsUnanswered f s old new line fault
  unanswered_whole fault cut =
      let kept_unanswered : IsUnanswered f s old new (kept request_limit line) fault = subst (λ (l : List ℕ). IsUnanswered f s old new l fault) (is_kept line given is) cut in
      record { halts = λ before at fit. IsHalted-kept line (kept_unanswered.halts before at (fit_kept (f.disk old.folder) line before.world fit)); cause = cut.cause; spares = cut.spares; found = found_kept line kept_unanswered.found; own = unless_kept IsOnIndexes line kept_unanswered.own; on = cut.on; still = unless_kept ChangesFiles line kept_unanswered.still; kept = λ other. unless_kept IsOnIndexes line (kept_unanswered.kept other); indexed = λ is. kept_unanswered.indexed (subst IsOnIndexes (sym (request_kept line)) is); stays = cut.stays }
