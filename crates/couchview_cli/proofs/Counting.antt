-- The update sequence rises by one for each write that is accepted, whatever the folder holds.
use Rattle.std.specs.Prelude.{◌&&◌, cond}
use Rattle.std.proofs.Common.{◌≡◌, ◌≢◌, ◌+◌, ◌++◌, ◌∙◌, ℕ, List, [], ◌∷◌, Bool, true, false, Option, Result, Ok, Err, inl, inr, refl, sym, ap, subst, arith}
use Rattle.std.proofs.lemmas.List.Sums.{sum_by-cons}
use Rattle.view_ports.specs.Exchanges.{Exchange}
use Rattle.view_ports.specs.Lines.{ended}
use Rattle.view_ports.specs.declared.folder.Folder.{Ghosts as Folders}
use Rattle.view_ports.specs.declared.servers.Servers.{Ghosts as Servers}
use Rattle.json_terms.specs.Json.{members_of, object}
use Rattle.design_docs.specs.Documents.{id_of}
use Rattle.doc_file.specs.declared.docs.Docs.{Docs}
use Rattle.doc_file.specs.Docs.{seq_of, IsSame}
use Rattle.view_engine.specs.declared.halt.StepFault.TheVariants as halt
use Rattle.view_engine.specs.declared.refusal.Refusal.{Refusal}
use Rattle.view_engine.specs.declared.refusal.Refusal.TheVariants.{NoMemory}
use Rattle.view_engine.specs.declared.request.Request.{Request}
use Rattle.view_engine.specs.declared.request.Request.TheVariants.{Delete, Put}
use Rattle.view_engine.specs.Accepted.{is_ok}
use Rattle.view_engine.specs.Calls.{FitsDesign, IsStep, Scene}
use Rattle.view_engine.specs.InMemory.{AnswersRequest, IsDoneBy}
use Rattle.view_engine.specs.Refusals.{refusal_text, request_of}
use Rattle.view_engine.specs.Replies.{accepted_reply}
use Rattle.couchview_cli.specs.Reading.{is_write, says_written, writes_in}

-- what isn't answered `ok` is no write that is accepted
not_written : (request : Result Request Refusal) (text : List ℕ) → is_ok text ≡ false → says_written request text ≡ false
not_written request text other = ap (λ (ok : Bool). is_write request && ok) other ∙ either (is_write request)
  where
    either : (b : Bool) → b && false ≡ false
    either true = refl
    either false = refl

-- a reply line of an accepted write is `ok`, and a refusal is not
ok_line : (docs : Docs) (id out reply start : List ℕ) → start ≡ [] → reply ≡ accepted_reply docs id → out ≡ start ++ ended reply → is_ok out ≡ true
ok_line docs id out reply start empty is appended = ap is_ok (appended ∙ ap (λ (front : List ℕ). front ++ ended reply) empty ∙ ap ended is)

refused_line : (refusal : Refusal) (out start : List ℕ) → start ≡ [] → out ≡ start ++ ended (refusal_text refusal) → is_ok out ≡ false
refused_line refusal out start empty appended = ap is_ok (appended ∙ ap (λ (front : List ℕ). front ++ ended (refusal_text refusal)) empty)

module _ (docs docs' : Docs) where
  -- the sequence after a request that was answered with this text
  abbrev Counts : Result Request Refusal → List ℕ → Type 0
  Counts request text = seq_of docs' ≡ seq_of docs + cond (says_written request text) 1 0

  none_counted : (request : Result Request Refusal) (text : List ℕ) → IsSame docs docs' → says_written request text ≡ false → Counts request text
  none_counted request text same other = let none : ◌≡◌ {A = ℕ} (cond (says_written request text) 1 0) 0 = ap (λ (b : Bool). cond b 1 0) other in omega (arith, same.seq, none)

  one_counted : (request : Result Request Refusal) (text : List ℕ) → seq_of docs' ≡ seq_of docs + 1 → says_written request text ≡ true → Counts request text
  one_counted request text one is = let some : ◌≡◌ {A = ℕ} (cond (says_written request text) 1 0) 1 = ap (λ (b : Bool). cond b 1 0) is in omega (arith, one, some)

module _ {F : Type 0} (f : Folders F) (docs docs' : Docs) (old new : F) (start out : List ℕ) where
  done_counted : start ≡ [] → (request : Request) → IsDoneBy f docs docs' old new start out request → Counts docs docs' (Ok request) out
  done_counted empty (Put document) done =
      one_counted docs docs' (Ok (Put document)) out (done.wrote).1.counted (ok_line docs (id_of (object (members_of document))) out done.reply start empty done.is done.appended)
  done_counted empty (Delete id given) done = one_counted docs docs' (Ok (Delete id given)) out (done.wrote).1.counted (ok_line docs id out done.reply start empty done.is done.appended)
  done_counted empty other done = none_counted docs docs' (Ok other) out (done.kept (λ never. never)).documents refl

  module _ (Fits : Option Refusal → Type 0) where
    answered_counted : start ≡ [] → (request : Result Request Refusal) → AnswersRequest f docs docs' old new start out Fits request (Ok tt) → Counts docs docs' request out
    answered_counted empty (Ok request) (inl done) = done_counted empty request done.0
    answered_counted empty (Ok request) (inr told) = none_counted docs docs' (Ok request) out told.kept.documents (not_written (Ok request) out (refused_line told.refusal out start empty told.appended))
    answered_counted empty (Err refusal) untouched = none_counted docs docs' (Err refusal) out untouched.documents refl

    spent_counted : (request : Result Request Refusal) → AnswersRequest f docs docs' old new start out Fits request (Err halt.NoMemory) → Counts docs docs' request (ended (refusal_text NoMemory))
    spent_counted (Ok request) untouched = none_counted docs docs' (Ok request) (ended (refusal_text NoMemory)) untouched.documents (not_written (Ok request) (ended (refusal_text NoMemory)) refl)
    spent_counted (Err refusal) untouched = none_counted docs docs' (Err refusal) (ended (refusal_text NoMemory)) untouched.documents refl

module _ {F C : Type 0} {f : Folders F} {s : Servers C} {old new : Scene F C} {start out : List ℕ} where
  -- a step that is done
  pub step_counts : (line : List ℕ) → start ≡ [] → IsStep f s old new line start out (Ok tt) → Counts old.engine.docs new.engine.docs (request_of line) out
  step_counts [] empty step =
      let same : new.engine.docs ≡ old.engine.docs = ap (λ (x : Scene F C). x.engine.docs) (step.idle refl) in
      let silent : out ≡ [] = step.prints.none refl ∙ empty in
      none_counted old.engine.docs new.engine.docs (request_of []) out (subst (IsSame old.engine.docs) (sym same) (record { file = refl; seq = refl; entries = refl })) (not_written (request_of []) out (ap is_ok silent))
  step_counts (byte ∷ bytes) empty step =
      let line = byte ∷ bytes in
      answered_counted f old.engine.docs new.engine.docs old.folder new.folder start out (FitsDesign f s old new (request_of line)) empty (request_of line) (step.follows (λ none. let never : ⊥ = cc in never))

  -- one for which memory ran out
  pub spent_counts : (line : List ℕ) → line ≢ [] → IsStep f s old new line start out (Err halt.NoMemory) → Counts old.engine.docs new.engine.docs (request_of line) (ended (refusal_text NoMemory))
  spent_counts line some step = spent_counted f old.engine.docs new.engine.docs old.folder new.folder start out (FitsDesign f s old new (request_of line)) (request_of line) (step.follows some)

-- one more line
pub writes_more : (e : Exchange) (es : List Exchange) (before mid now : ℕ) → mid ≡ before + cond (says_written (request_of e.line) e.text) 1 0 → now ≡ mid + writes_in es → now ≡ before + writes_in (e ∷ es)
writes_more e es before mid now here rest = let more = sum_by-cons (λ (x : Exchange). cond (says_written (request_of x.line) x.text) 1 0) e es in omega (arith, here, rest, more)
