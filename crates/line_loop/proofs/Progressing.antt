-- How a run over lines goes on: from the start, over a line that ends, and over bytes without a newline.
use Rattle.std.specs.Prelude.{◌≡◌, ℕ, List, [], ◌++◌, Option}
use Rattle.std.proofs.Common.{refl, sym, ap, ◌∙◌, subst}
use Rattle.std.proofs.KnownBytes.{Appends-nil, Appends-trans}
use Rattle.std.specs.Io.KnownBytes.{Appends}
use Rattle.view_ports.specs.Lines.{IsLine, ended, kept}
use Rattle.view_ports.proofs.KeptLines.{kept-more, kept-nil}
use Rattle.view_ports.proofs.Exchanging.{text_of-push}
use Rattle.view_ports.proofs.Reaching.{reached_start, reached_more, reached_line}
use Rattle.line_loop.specs.declared.responder.Responder.{Ghosts as Responds}
use Rattle.line_loop.specs.Loops.{Progress, Scene, Steps, scene}

pub Progress-start : {R E : Type 0} (r : Responds R E) (responder : R) (line : List ℕ) (held : Option (List ℕ)) → line ≡ [] → Progress r responder held [] (scene responder line held)
Progress-start r responder line held none = record {
  reached = reached_start (Steps r) responder;
  stands = refl;
  pending = none ∙ sym (kept-nil r.line_limit);
  wrote = Appends-nil held;
}

-- what is kept by one limit is kept by another that is equal to it
pub kept_at : (line part : List ℕ) (limit limit' : ℕ) → part ≡ kept limit line → limit ≡ limit' → part ≡ kept limit' line
kept_at line part limit limit' is same = is ∙ ap (λ (n : ℕ). kept n line) same

module _ {R E : Type 0} {r : Responds R E} {start : R} {first : Option (List ℕ)} {bytes : List ℕ} {now : Scene R} (progress : Progress r start first bytes now) where
  pub Progress-same : (bytes' : List ℕ) → bytes ≡ bytes' → Progress r start first bytes' now
  Progress-same bytes' same = subst (λ (bs : List ℕ). Progress r start first bs now) same progress

  -- a line that the responder answered is a step from where the run stands
  pub step_here : (line : List ℕ) (after : R) → r.answers now.responder line after → Steps r progress.reached.after (record { line = line; text = r.text after }) after
  step_here line after answers = (subst (λ (x : R). r.answers x line after) progress.stands answers, refl)

  -- what is kept of the line that these bytes end, is kept of the whole line
  pub kept_here : (end given : List ℕ) → given ≡ kept r.line_limit (now.line ++ end) → given ≡ kept r.line_limit (progress.reached.rest ++ end)
  kept_here end given is =
      is ∙ ap (λ (front : List ℕ). kept r.line_limit (front ++ end)) progress.pending ∙ kept-more r.line_limit progress.reached.rest end

  -- a line ended and was answered
  pub Progress-line : (end : List ℕ) → IsLine end → (after : R) (line : List ℕ) (held : Option (List ℕ)) → r.answers now.responder (progress.reached.rest ++ end) after → Appends now.held held (r.text after)
      → line ≡ [] → Progress r start first (bytes ++ ended end) (scene after line held)
  Progress-line end plain after line held answers wrote none = record {
    reached = reached_line progress.reached end plain (r.text after) after (step_here (progress.reached.rest ++ end) after answers);
    stands = refl;
    pending = none ∙ sym (kept-nil r.line_limit);
    wrote =
        subst (Appends first held) (sym (text_of-push progress.reached.exchanges (record { line = progress.reached.rest ++ end; text = r.text after }))) (Appends-trans _ _ _ _ _ progress.wrote wrote);
  }

  -- bytes without a newline were kept
  pub Progress-kept : (more : List ℕ) → IsLine more → (line : List ℕ) → line ≡ kept r.line_limit (now.line ++ more) → Progress r start first (bytes ++ more) (scene now.responder line now.held)
  Progress-kept more plain line is = record {
    reached = reached_more progress.reached more plain;
    stands = progress.stands;
    pending = kept_here more line is;
    wrote = progress.wrote;
  }
