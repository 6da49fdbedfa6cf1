-- The ends of a run over lines.
use Rattle.std.specs.Prelude.{◌≡◌, ◌≢◌, ◌<◌, ℕ, List, [], ◌∷◌, ◌++◌, Option, length}
use Rattle.std.proofs.Common.{refl, sym, ap, subst, append_assoc, arith, inl, inr}
use Rattle.std.proofs.KnownBytes.{Appends-trans}
use Rattle.std.specs.Io.KnownBytes.{Appends, Consumes, IsAtEnd}
use Rattle.view_ports.specs.declared.run_end.RunEnd.TheVariants.{InputEnded, SinkFailed, SourceFailed, OutOfMemory, InputTooLong}
use Rattle.view_ports.specs.Lines.{IsCut, IsLine, ended}
use Rattle.view_ports.specs.Exchanges.{Exchange, lines_of, text_of}
use Rattle.view_ports.specs.Runs.{AreLines, Run, input_limit}
use Rattle.view_ports.proofs.Cutting.{IsCut-extended, IsCut-more, IsCut-newline, IsCut-same, last_line-some}
use Rattle.view_ports.proofs.Exchanging.{IsPrefixOf-after, IsPrefixOf-text_of-push}
use Rattle.view_ports.proofs.Reaching.{AreLines-map, Run-map, reached_line, Run-ended, Run-ended_last, Run-source_failed, Run-too_long, Run-out_of_memory, Run-sink_failed, Run-sink_failed_last}
use Rattle.line_loop.specs.declared.loop_end.LoopEnd.{LoopEnd}
use Rattle.line_loop.specs.declared.loop_end.LoopEnd.TheVariants as loop_end
use Rattle.line_loop.specs.declared.responder.Responder.{Ghosts as Responds}
use Rattle.line_loop.specs.Loops.{Ends, FailsIn, FailsInto, Finishes, HasReadBy, IsCutShort, IsEarly, Loops, Progress, Scene, Steps}
use Rattle.line_loop.proofs.Progressing.{step_here}

pub Ends-same : {R E : Type 0} (r : Responds R E) (Ended : Type 0) (start after : R) (first now : Option (List ℕ)) (bytes bytes' : List ℕ) (end : LoopEnd E) → bytes ≡ bytes'
    → Ends r Ended start after first now bytes end → Ends r Ended start after first now bytes' end
Ends-same r Ended start after first now bytes bytes' end same ends = subst (λ (bs : List ℕ). Ends r Ended start after first now bs end) same ends

-- the same end, where one says of the input what follows from the other
pub Ends-map : {R E : Type 0} (r : Responds R E) {Ended Ended' : Type 0} (so : Ended → Ended') (start after : R) (first now : Option (List ℕ)) (bytes : List ℕ) (end : LoopEnd E)
    → Ends r Ended start after first now bytes end → Ends r Ended' start after first now bytes end
Ends-map r so start after first now bytes (loop_end.Run end) ends = record { gained = ends.gained; run = Run-map so ends.run; wrote = ends.wrote }
Ends-map r so start after first now bytes (loop_end.Stopped error) ends = record {
  exchanges = ends.exchanges;
  lines = ends.lines;
  rest = ends.rest;
  line = ends.line;
  more = ends.more;
  mid = ends.mid;
  cut = ends.cut;
  answered = AreLines-map so ends.lines ends.rest _ ends.answered;
  leads = ends.leads;
  stops = ends.stops;
  wrote = ends.wrote;
}

module _ {R E : Type 0} {r : Responds R E} {start : R} {first : Option (List ℕ)} {bytes : List ℕ} {now : Scene R} (progress : Progress r start first bytes now) where
  -- the sink failed in the text of a line that ended
  Finishes-line : {Ended : Type 0} → (end more : List ℕ) → IsLine end → (after : R) (held : Option (List ℕ)) → r.answers now.responder (progress.reached.rest ++ end) after → FailsIn now.held held (r.text after)
      → Finishes r Ended start after first held (bytes ++ ended end ++ more) SinkFailed
  Finishes-line end more plain after held answers failed =
      let exchange : Exchange = record { line = progress.reached.rest ++ end; text = r.text after } in
      let part = failed.0 in record {
        gained = text_of progress.reached.exchanges ++ part;
        run =
            Run-sink_failed (reached_line progress.reached end plain (r.text after) after (step_here progress (progress.reached.rest ++ end) after answers)) more (text_of progress.reached.exchanges ++ part)
            (IsPrefixOf-text_of-push progress.reached.exchanges exchange part failed.1);
        wrote = Appends-trans _ _ _ _ _ progress.wrote failed.2;
      }

  -- there was no memory to keep what comes next
  pub Finishes-out_of_memory : {Ended : Type 0} → (more : List ℕ) → Finishes r Ended start progress.reached.after first now.held (bytes ++ more) OutOfMemory
  Finishes-out_of_memory more = record {
    gained = text_of progress.reached.exchanges;
    run = Run-out_of_memory progress.reached more;
    wrote = progress.wrote;
  }

  Finishes-source_failed : {Ended : Type 0} → Finishes r Ended start progress.reached.after first now.held bytes SourceFailed
  Finishes-source_failed = record {
    gained = text_of progress.reached.exchanges;
    run = Run-source_failed progress.reached;
    wrote = progress.wrote;
  }

  Finishes-too_long : {Ended : Type 0} → Finishes r Ended start progress.reached.after first now.held bytes InputTooLong
  Finishes-too_long = record {
    gained = text_of progress.reached.exchanges;
    run = Run-too_long progress.reached;
    wrote = progress.wrote;
  }

  -- the input ended behind a newline, or was empty
  Finishes-input : {Ended : Type 0} → progress.reached.rest ≡ [] → Finishes r Ended start progress.reached.after first now.held bytes InputEnded
  Finishes-input none = record {
    gained = text_of progress.reached.exchanges;
    run = Run-ended progress.reached none;
    wrote = progress.wrote;
  }

  pub Ends-out_of_memory : (Ended : Type 0) (more : List ℕ) → Ends r Ended start now.responder first now.held (bytes ++ more) (loop_end.Run OutOfMemory)
  Ends-out_of_memory Ended more = subst (λ (x : R). Finishes r Ended start x first now.held (bytes ++ more) OutOfMemory) (sym progress.stands) (Finishes-out_of_memory more)

  pub Ends-source_failed : (Ended : Type 0) → Ends r Ended start now.responder first now.held bytes (loop_end.Run SourceFailed)
  Ends-source_failed Ended = subst (λ (x : R). Finishes r Ended start x first now.held bytes SourceFailed) (sym progress.stands) Finishes-source_failed

  pub Ends-too_long : (Ended : Type 0) → Ends r Ended start now.responder first now.held bytes (loop_end.Run InputTooLong)
  Ends-too_long Ended = subst (λ (x : R). Finishes r Ended start x first now.held bytes InputTooLong) (sym progress.stands) Finishes-too_long

  pub Ends-input : (Ended : Type 0) → progress.reached.rest ≡ [] → Ends r Ended start now.responder first now.held bytes (loop_end.Run InputEnded)
  Ends-input Ended none = subst (λ (x : R). Finishes r Ended start x first now.held bytes InputEnded) (sym progress.stands) (Finishes-input none)

  -- the input ended in a line without a newline, which was answered
  pub Ends-last : (Ended : Type 0) → progress.reached.rest ≢ [] → (after : R) (held : Option (List ℕ)) → r.answers now.responder progress.reached.rest after → Appends now.held held (r.text after)
      → Ends r Ended start after first held bytes (loop_end.Run InputEnded)
  Ends-last Ended some after held answers wrote = record {
    gained = text_of progress.reached.exchanges ++ r.text after;
    run = Run-ended_last progress.reached some (r.text after) after (step_here progress progress.reached.rest after answers);
    wrote = Appends-trans _ _ _ _ _ progress.wrote wrote;
  }

  -- the sink failed in the text of that line
  Finishes-last_failed : {Ended : Type 0} → Ended → progress.reached.rest ≢ [] → (after : R) (held : Option (List ℕ)) → r.answers now.responder progress.reached.rest after → FailsIn now.held held (r.text after)
      → Finishes r Ended start after first held bytes SinkFailed
  Finishes-last_failed is_end some after held answers failed =
      let gained = text_of progress.reached.exchanges ++ failed.0 in record {
        gained = gained;
        run =
            Run-sink_failed_last progress.reached is_end some (r.text after) after (step_here progress progress.reached.rest after answers) gained
            (IsPrefixOf-after (text_of progress.reached.exchanges) failed.0 (r.text after) failed.1);
        wrote = Appends-trans _ _ _ _ _ progress.wrote failed.2;
      }

  -- the bytes up to a line's newline and behind it, with the line among the lines
  line_cut : (end more : List ℕ) → IsLine end
      → (lines : List (List ℕ)) × (rest : List ℕ) × (later : List (List ℕ)) × IsCut (bytes ++ ended end ++ more) lines rest × (lines ≡ lines_of progress.reached.exchanges ++ (progress.reached.rest ++ end) ∷ later)
  line_cut end more plain =
      let line = progress.reached.rest ++ end in
      let before = lines_of progress.reached.exchanges in
      let whole = IsCut-newline (bytes ++ end) before line (IsCut-more bytes end before progress.reached.rest progress.reached.cut plain) in
      let there = IsCut-same (ended (bytes ++ end)) (bytes ++ ended end) (before ++ line ∷ []) (before ++ line ∷ []) [] (append_assoc bytes end _) refl whole in
      let longer = IsCut-extended more (bytes ++ ended end) (before ++ line ∷ []) [] there in (
        (before ++ line ∷ []) ++ longer.0,
        longer.1,
        longer.0,
        longer.2,
        append_assoc before (line ∷ []) longer.0,
      )

  module _ (error : E) (line : List ℕ) (after : R) (held : Option (List ℕ)) (stops : r.stops now.responder line error after) (silent : held ≡ now.held) where
    cut_in : {Ended : Type 0} (all : List ℕ) (lines : List (List ℕ)) (rest : List ℕ) (more : List (List ℕ)) → IsCut all lines rest
        → AreLines Ended lines rest (lines_of progress.reached.exchanges ++ line ∷ more) → IsCutShort r Ended start after first held all error
    cut_in all lines rest more cut answered = record {
      exchanges = progress.reached.exchanges;
      lines = lines;
      rest = rest;
      line = line;
      more = more;
      mid = progress.reached.after;
      cut = cut;
      answered = answered;
      leads = progress.reached.leads;
      stops = subst (λ (x : R). r.stops x line error after) progress.stands stops;
      wrote = subst (λ (h : Option (List ℕ)). Appends first h (text_of progress.reached.exchanges)) (sym silent) progress.wrote;
    }

  -- a line that ended was not answered, or the sink failed in its text
  pub Ends-line : (Ended : Type 0) (stop : LoopEnd E) (end more : List ℕ) → IsLine end → (after : R) (held : Option (List ℕ)) → FailsInto r now.responder after now.held held stop (progress.reached.rest ++ end)
      → Ends r Ended start after first held (bytes ++ ended end ++ more) stop
  Ends-line Ended (loop_end.Run InputEnded) end more plain after held fails = absurd fails
  Ends-line Ended (loop_end.Run SinkFailed) end more plain after held fails = Finishes-line end more plain after held fails.0 fails.1
  Ends-line Ended (loop_end.Run SourceFailed) end more plain after held fails = absurd fails
  Ends-line Ended (loop_end.Run OutOfMemory) end more plain after held fails = absurd fails
  Ends-line Ended (loop_end.Run InputTooLong) end more plain after held fails = absurd fails
  Ends-line Ended (loop_end.Stopped error) end more plain after held fails =
      let cut = line_cut end more plain in
      cut_in error (progress.reached.rest ++ end) after held fails.0 fails.1 (bytes ++ ended end ++ more) cut.0 cut.1 cut.2 cut.3 (inl (sym cut.4))

  -- the same of the last line, without a newline
  pub Ends-last_fails : (Ended : Type 0) → Ended → (stop : LoopEnd E) → progress.reached.rest ≢ [] → (after : R) (held : Option (List ℕ)) → FailsInto r now.responder after now.held held stop progress.reached.rest
      → Ends r Ended start after first held bytes stop
  Ends-last_fails Ended is_end (loop_end.Run InputEnded) some after held fails = absurd fails
  Ends-last_fails Ended is_end (loop_end.Run SinkFailed) some after held fails = Finishes-last_failed is_end some after held fails.0 fails.1
  Ends-last_fails Ended is_end (loop_end.Run SourceFailed) some after held fails = absurd fails
  Ends-last_fails Ended is_end (loop_end.Run OutOfMemory) some after held fails = absurd fails
  Ends-last_fails Ended is_end (loop_end.Run InputTooLong) some after held fails = absurd fails
  Ends-last_fails Ended is_end (loop_end.Stopped error) some after held fails =
      cut_in error progress.reached.rest after held fails.0 fails.1 bytes (lines_of progress.reached.exchanges) progress.reached.rest [] progress.reached.cut
      (inr (is_end, ap (λ (last : List (List ℕ)). lines_of progress.reached.exchanges ++ last) (sym (last_line-some progress.reached.rest some))))

pub Loops-ended : {R E : Type 0} (r : Responds R E) (start after : R) (left left' held held' : Option (List ℕ)) (bytes : List ℕ) (end : LoopEnd E) → Consumes left left' bytes → HasReadBy end (length bytes)
    → Ends r (IsAtEnd left') start after held held' bytes end → Loops r start after left left' held held' end
Loops-ended r start after left left' held held' bytes end reads counts ends = record { bytes = bytes; reads = reads; counts = counts; ends = ends }

-- where the responder's reason is want of memory, a run that was cut short is one that ended so
pub Run-cut_short : {R E : Type 0} {r : Responds R E} {Ended : Type 0} {start after : R} {first now : Option (List ℕ)} {bytes : List ℕ} {error : E} (cut : IsCutShort r Ended start after first now bytes error)
    → Run (Steps r) Ended start bytes (text_of cut.exchanges) OutOfMemory cut.mid
Run-cut_short cut = record {
  exchanges = cut.exchanges;
  lines = cut.lines;
  rest = cut.rest;
  cut = cut.cut;
  answered = (lines_of cut.exchanges ++ cut.line ∷ cut.more, cut.answered, (cut.line ∷ cut.more, refl));
  leads = cut.leads;
  written = refl;
}

-- a run that ends in a line has not come to the end of its input, and its source has not failed
pub early_unended : {E : Type 0} (end : LoopEnd E) → IsEarly end → end ≡ loop_end.Run InputEnded → ⊥
early_unended end early is = let fewer : input_limit < input_limit = subst (λ e. HasReadBy e input_limit) is (early input_limit (omega arith)) in omega arith

pub early_unfailed : {E : Type 0} (end : LoopEnd E) → IsEarly end → end ≡ loop_end.Run SourceFailed → ⊥
early_unfailed end early is = let fewer : input_limit < input_limit = subst (λ e. HasReadBy e input_limit) is (early input_limit (omega arith)) in omega arith
