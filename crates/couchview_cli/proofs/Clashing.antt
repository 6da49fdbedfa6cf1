-- A line that asks for a view of designs that clash, among the lines of a run.
use Rattle.std.specs.Prelude.{◌≡◌, ◌≢◌, ◌⊎◌, ◌++◌, ◌≤◌, ℕ, List, [], ◌∷◌, Option, Some, None, Result, Ok}
use Rattle.std.proofs.Common.{refl, sym, ap, ◌∙◌, subst, inl, inr, arith, append_assoc, append-nil}
use Rattle.view_ports.specs.Disk.{Disk, IfTold, Tells}
use Rattle.view_ports.specs.Exchanges.{Exchange, IsPrefixOf, lines_of, text_of}
use Rattle.view_ports.specs.Lines.{last_line}
use Rattle.view_ports.specs.Runs.{input_limit, AreFirst, AreLines, HasRead, IsAnswered, IsWritten}
use Rattle.view_ports.specs.declared.file_name.FileName.{FileName}
use Rattle.view_ports.specs.declared.run_end.RunEnd.{RunEnd}
use Rattle.view_ports.specs.declared.run_end.RunEnd.TheVariants.{InputEnded, InputTooLong, OutOfMemory, SinkFailed, SourceFailed}
use Rattle.view_engine.specs.declared.refusal.Refusal.{Refusal}
use Rattle.view_engine.specs.declared.request.Request.{Request}
use Rattle.view_engine.specs.declared.request.Request.TheVariants.{View}
use Rattle.view_engine.specs.Disks.{IsFitFor, IsView}
use Rattle.view_engine.specs.Updating.{HasClash}
use Rattle.view_engine.specs.World.{World}
use Rattle.view_engine.proofs.Fits.{fit_or_clash}

abbrev Told : Type 0
Told = Option (Disk FileName)

-- ---- one request

-- over a disk that is told it asks for a view of designs that clash
pub record IsClashOn (disk : Told) (request : Result Request Refusal) (world : World) : Type 0 where
  pub told : Disk FileName
  pub is_told : disk ≡ Some told
  pub asks : IsView request
  pub clash : HasClash world.history

pub fit_or_met : (disk : Told) (request : Result Request Refusal) (world : World) → IfTold disk (λ d. IsFitFor request world) ⊎ IsClashOn disk request world
fit_or_met None request world = inl tt
fit_or_met (Some d) (Ok (View view query)) world = elim (fit_or_clash world.history) [
  | inl fit ↦ inl fit
  | inr clash ↦ inr (record { told = d; is_told = refl; asks = tt; clash = clash })
]
fit_or_met (Some d) other world = inl tt

-- a disk that came behind one that is told is told only where that is
pub on_origin : (R : Disk FileName → Disk FileName → Type 0) (first disk : Told) (request : Result Request Refusal) (world : World) → Tells first disk R → IsClashOn disk request world → IsClashOn first request world
on_origin R None None request world moves clash = absurd (let never : None ≡ Some clash.told = clash.is_told in let no : ⊥ = cc in no)
on_origin R None (Some b) request world moves clash = absurd moves
on_origin R (Some a) disk request world moves clash = record { told = a; is_told = refl; asks = clash.asks; clash = clash.clash }

-- ---- first parts of lines

pub prefix_then : (a b c : List (List ℕ)) → IsPrefixOf a b → IsPrefixOf b c → IsPrefixOf a c
prefix_then a b c first second =
    (first.0 ++ second.0, second.1 ∙ ap (λ (l : List (List ℕ)). l ++ second.0) first.1 ∙ append_assoc a first.0 second.0)

-- the first of the lines behind some
pub one_of : (front : List (List ℕ)) (line : List ℕ) (more : List (List ℕ)) → IsPrefixOf (front ++ line ∷ []) (front ++ line ∷ more)
one_of front line more = (more, sym (append_assoc front (line ∷ []) more))

pub first_of_lines : (IsOver : Type 0) (lines : List (List ℕ)) (rest : List ℕ) (all : List (List ℕ)) → AreLines IsOver lines rest all → IsPrefixOf all (lines ++ last_line rest)
first_of_lines IsOver lines rest all (inl are) = (last_line rest, ap (λ (l : List (List ℕ)). l ++ last_line rest) (sym are))
first_of_lines IsOver lines rest all (inr are) = ([], sym are.1 ∙ sym (append-nil all))

-- the lines that a run answered are first ones
pub first_of_run : (IsOver : Type 0) (end : RunEnd) (lines : List (List ℕ)) (rest : List ℕ) (answered : List (List ℕ)) → IsAnswered IsOver end lines rest answered → IsPrefixOf answered (lines ++ last_line rest)
first_of_run IsOver InputEnded lines rest answered is = ([], sym is ∙ sym (append-nil answered))
first_of_run IsOver SinkFailed lines rest answered is = prefix_then answered is.0 (lines ++ last_line rest) is.2 (first_of_lines IsOver lines rest is.0 is.1)
first_of_run IsOver SourceFailed lines rest answered is = first_of_lines IsOver lines rest answered (inl is)
first_of_run IsOver OutOfMemory lines rest answered is = prefix_then answered is.0 (lines ++ last_line rest) is.2 (first_of_lines IsOver lines rest is.0 is.1)
first_of_run IsOver InputTooLong lines rest answered is = first_of_lines IsOver lines rest answered (inl is)

-- how much a run has read
pub read_within : (end : RunEnd) (count : ℕ) → HasRead end count → count ≤ input_limit
read_within InputEnded count read = omega (arith, read)
read_within SinkFailed count read = read
read_within SourceFailed count read = omega (arith, read)
read_within OutOfMemory count read = read
read_within InputTooLong count read = omega (arith, read)

pub lines_until : (first : List Exchange) (e : Exchange) (more : List Exchange) → IsPrefixOf (lines_of first ++ e.line ∷ []) (lines_of (first ++ e ∷ more))
lines_until [] e more = (lines_of more, refl)
lines_until (x ∷ first) e more = let rest = lines_until first e more in (rest.0, ap (λ (l : List (List ℕ)). x.line ∷ l) rest.1)

-- ---- what was written

pub text_until : (first : List Exchange) (e : Exchange) (more : List Exchange) → IsPrefixOf (text_of first) (text_of (first ++ e ∷ more))
text_until [] e more = (text_of (e ∷ more), refl)
text_until (x ∷ first) e more =
    let rest = text_until first e more in
    (rest.0, ap (λ (l : List ℕ). x.text ++ l) rest.1 ∙ sym (append_assoc x.text (text_of first) rest.0))

-- of two first parts of one text the one is a first part of the other
comparable : (a b text : List ℕ) → IsPrefixOf a text → IsPrefixOf b text → IsPrefixOf a b ⊎ IsPrefixOf b a
comparable [] b text one other = inl (b, refl)
comparable (x ∷ a) [] text one other = inr (x ∷ a, refl)
comparable (x ∷ a) (y ∷ b) [] one other = let clash : [] ≡ x ∷ (a ++ one.0) = one.1 in let no : ⊥ = cc in absurd no
comparable (x ∷ a) (y ∷ b) (z ∷ text) one other =
    let first : z ∷ text ≡ x ∷ (a ++ one.0) = one.1 in
    let second : z ∷ text ≡ y ∷ (b ++ other.0) = other.1 in
    let heads : x ≡ y = cc in
    let mine : text ≡ a ++ one.0 = cc in
    let others : text ≡ b ++ other.0 = cc in
    elim (comparable a b text (one.0, mine) (other.0, others)) [
      | inl is ↦ inl (is.0, ap (λ (n : ℕ). n ∷ b) (sym heads) ∙ ap (λ (l : List ℕ). x ∷ l) is.1)
      | inr is ↦ inr (is.0, ap (λ (n : ℕ). n ∷ a) heads ∙ ap (λ (l : List ℕ). y ∷ l) is.1)
    ]

-- what a run wrote begins with a first part of the text of its replies, unless the sink failed in that
pub begins_with : (end : RunEnd) (front text gained : List ℕ) → IsPrefixOf front text → IsWritten end text gained → IsPrefixOf front gained ⊎ ((end ≡ SinkFailed) × IsPrefixOf gained front)
begins_with InputEnded front text gained part is = inl (part.0, is ∙ part.1)
begins_with SinkFailed front text gained part is = elim (comparable front gained text part is) [
  | inl begins ↦ inl begins
  | inr failed ↦ inr (refl, failed)
]
begins_with SourceFailed front text gained part is = inl (part.0, is ∙ part.1)
begins_with OutOfMemory front text gained part is = inl (part.0, is ∙ part.1)
begins_with InputTooLong front text gained part is = inl (part.0, is ∙ part.1)

-- what is written behind it changes nothing of that
pub longer : (front gained more : List ℕ) → IsPrefixOf front gained → IsPrefixOf front (gained ++ more)
longer front gained more part = (part.0 ++ more, ap (λ (l : List ℕ). l ++ more) part.1 ∙ append_assoc front part.0 more)

-- ---- which lines were answered

-- unless the input ended, a first part of what was answered is one of the lines that ended, or the input did
pub first_unless_ended : (IsOver : Type 0) (end : RunEnd) (lines : List (List ℕ)) (rest : List ℕ) (answered front : List (List ℕ)) → IsAnswered IsOver end lines rest answered → IsPrefixOf front answered → end ≢ InputEnded → AreFirst IsOver lines rest front
first_unless_ended IsOver InputEnded lines rest answered front is part never = absurd (never refl)
first_unless_ended IsOver SinkFailed lines rest answered front is part never = (is.0, is.1, prefix_then front answered is.0 part is.2)
first_unless_ended IsOver SourceFailed lines rest answered front is part never = (lines, inl refl, subst (λ (l : List (List ℕ)). IsPrefixOf front l) is part)
first_unless_ended IsOver OutOfMemory lines rest answered front is part never = (is.0, is.1, prefix_then front answered is.0 part is.2)
first_unless_ended IsOver InputTooLong lines rest answered front is part never = (lines, inl refl, subst (λ (l : List (List ℕ)). IsPrefixOf front l) is part)
