-- How far a run has come, as more bytes are read, and the run that it makes at each end.
use Rattle.std.proofs.Common.{◌≡◌, ◌≢◌, ℕ, List, [], ◌∷◌, ◌++◌, refl, sym, ap, ◌∙◌, subst, append_assoc, append-nil, inl, inr}
use Rattle.view_ports.specs.declared.run_end.RunEnd.TheVariants.{InputEnded, SinkFailed, SourceFailed, OutOfMemory, InputTooLong}
use Rattle.view_ports.specs.Lines.{newline, IsLine, ended, IsCut, last_line}
use Rattle.view_ports.specs.Exchanges.{Exchange, lines_of, text_of, IsPrefixOf}
use Rattle.view_ports.specs.declared.run_end.RunEnd.{RunEnd}
use Rattle.view_ports.specs.Runs.{AreFirst, AreLines, IsAnswered, Run, Reached}
use Rattle.view_ports.proofs.Cutting.{IsCut-nil, IsCut-same, IsCut-more, IsCut-newline, IsCut-extended, last_line-some}
use Rattle.view_ports.proofs.Exchanging.{LeadsTo-push, lines_of-push, text_of-push, IsPrefixOf-refl}

-- before the first byte
abbrev pub reached_start : {W : Type 0} (step : W → Exchange → W → Type 0) (before : W) → Reached step before []
reached_start step before = record { exchanges = []; rest = []; after = before; cut = IsCut-nil; leads = refl }

module _ {W : Type 0} {step : W → Exchange → W → Type 0} {before : W} {bytes : List ℕ} (reached : Reached step before bytes) where
  -- the same, with the bytes written in another way
  abbrev pub reached_same : (bytes' : List ℕ) → bytes ≡ bytes' → Reached step before bytes'
  reached_same bytes' same = record {
    exchanges = reached.exchanges;
    rest = reached.rest;
    after = reached.after;
    cut = IsCut-same _ _ _ _ _ same refl reached.cut;
    leads = reached.leads;
  }

  -- bytes without a newline were read
  abbrev pub reached_more : (more : List ℕ) → IsLine more → Reached step before (bytes ++ more)
  reached_more more plain = record {
    exchanges = reached.exchanges;
    rest = reached.rest ++ more;
    after = reached.after;
    cut = IsCut-more _ _ _ _ reached.cut plain;
    leads = reached.leads;
  }

  -- the exchange for the rest, once a newline was read
  abbrev pub next_exchange : List ℕ → Exchange
  next_exchange text = record { line = reached.rest; text = text }

  -- a newline was read, and the line that it ended was answered
  abbrev pub reached_newline : (text : List ℕ) (after : W) → step reached.after (next_exchange text) after → Reached step before (ended bytes)
  reached_newline text after answers = record {
    exchanges = reached.exchanges ++ next_exchange text ∷ [];
    rest = [];
    after = after;
    cut =
        IsCut-same _ _ _ _ _ refl (sym (lines_of-push reached.exchanges (next_exchange text))) (IsCut-newline _ _ _ reached.cut);
    leads = LeadsTo-push step before reached.after after reached.exchanges (next_exchange text) reached.leads answers;
  }

  -- the lines that are answered stay the first of all lines, however the bytes go on
  stay_first : {Ended : Type 0} (more : List ℕ) → (lines : List (List ℕ)) × (rest : List ℕ) × IsCut (bytes ++ more) lines rest × AreFirst Ended lines rest (lines_of reached.exchanges)
  stay_first more =
      let longer = IsCut-extended more bytes (lines_of reached.exchanges) reached.rest reached.cut in
      let lines = lines_of reached.exchanges ++ longer.0 in (
        lines,
        longer.1,
        longer.2,
        (lines, inl refl, (longer.0, refl)),
      )

  -- the input ended after a newline, or was empty
  pub Run-ended : {Ended : Type 0} → reached.rest ≡ [] → Run step Ended before bytes (text_of reached.exchanges) InputEnded reached.after
  Run-ended none = record {
    exchanges = reached.exchanges;
    lines = lines_of reached.exchanges;
    rest = reached.rest;
    cut = reached.cut;
    answered = sym (ap (λ rest. lines_of reached.exchanges ++ last_line rest) none ∙ append-nil (lines_of reached.exchanges));
    leads = reached.leads;
    written = refl;
  }

  -- the input ended in a line without a newline, and that line was answered
  pub Run-ended_last : {Ended : Type 0} → reached.rest ≢ [] → (text : List ℕ) (after : W) → step reached.after (next_exchange text) after → Run step Ended before bytes (text_of reached.exchanges ++ text) InputEnded after
  Run-ended_last some text after answers = record {
    exchanges = reached.exchanges ++ next_exchange text ∷ [];
    lines = lines_of reached.exchanges;
    rest = reached.rest;
    cut = reached.cut;
    answered =
        lines_of-push reached.exchanges (next_exchange text) ∙
        sym (ap (λ last. lines_of reached.exchanges ++ last) (last_line-some reached.rest some));
    leads = LeadsTo-push step before reached.after after reached.exchanges (next_exchange text) reached.leads answers;
    written = sym (text_of-push reached.exchanges (next_exchange text));
  }

  -- the source failed after these bytes
  pub Run-source_failed : {Ended : Type 0} → Run step Ended before bytes (text_of reached.exchanges) SourceFailed reached.after
  Run-source_failed = record {
    exchanges = reached.exchanges;
    lines = lines_of reached.exchanges;
    rest = reached.rest;
    cut = reached.cut;
    answered = refl;
    leads = reached.leads;
    written = refl;
  }

  -- no further byte may be read
  pub Run-too_long : {Ended : Type 0} → Run step Ended before bytes (text_of reached.exchanges) InputTooLong reached.after
  Run-too_long = record {
    exchanges = reached.exchanges;
    lines = lines_of reached.exchanges;
    rest = reached.rest;
    cut = reached.cut;
    answered = refl;
    leads = reached.leads;
    written = refl;
  }

  -- there was no memory for the next line, with some bytes read that it was not looked for in
  pub Run-out_of_memory : {Ended : Type 0} (more : List ℕ) → Run step Ended before (bytes ++ more) (text_of reached.exchanges) OutOfMemory reached.after
  Run-out_of_memory more =
      let all = stay_first more in record {
        exchanges = reached.exchanges;
        lines = all.0;
        rest = all.1;
        cut = all.2;
        answered = all.3;
        leads = reached.leads;
        written = refl;
      }

  -- the sink took only the front of what was written, with some bytes read that were not looked at
  pub Run-sink_failed : {Ended : Type 0} (more gained : List ℕ) → IsPrefixOf gained (text_of reached.exchanges) → Run step Ended before (bytes ++ more) gained SinkFailed reached.after
  Run-sink_failed more gained front =
      let all = stay_first more in record {
        exchanges = reached.exchanges;
        lines = all.0;
        rest = all.1;
        cut = all.2;
        answered = all.3;
        leads = reached.leads;
        written = front;
      }

  -- the same in the reply to a last line without a newline
  pub Run-sink_failed_last : {Ended : Type 0} → Ended → reached.rest ≢ [] → (text : List ℕ) (after : W) → step reached.after (next_exchange text) after → (gained : List ℕ) → IsPrefixOf gained (text_of reached.exchanges ++ text)
      → Run step Ended before bytes gained SinkFailed after
  Run-sink_failed_last {Ended} is_end some text after answers gained front =
      let run : Run step Ended before bytes (text_of reached.exchanges ++ text) InputEnded after = Run-ended_last some text after answers in record {
        exchanges = run.exchanges;
        lines = run.lines;
        rest = run.rest;
        cut = run.cut;
        answered = (lines_of run.exchanges, inr (is_end, run.answered), IsPrefixOf-refl _);
        leads = run.leads;
        written = subst (IsPrefixOf gained) run.written front;
      }

-- a piece without a newline and then a newline were read, and the line that it ended was answered
abbrev pub reached_line : {W : Type 0} {step : W → Exchange → W → Type 0} {before : W} {bytes : List ℕ} (reached : Reached step before bytes) (piece : List ℕ) (plain : IsLine piece) (text : List ℕ) (after : W)
    → step reached.after (record { line = reached.rest ++ piece; text = text }) after → Reached step before (bytes ++ ended piece)
reached_line {bytes = bytes} reached piece plain text after answers =
    reached_same (reached_newline (reached_more reached piece plain) text after answers) (bytes ++ ended piece) (append_assoc bytes piece (newline ∷ []))

module _ {Ended Ended' : Type 0} (same : Ended → Ended') where
  -- all lines where the one holds are all lines where the other does, which follows from it
  pub AreLines-map : (lines : List (List ℕ)) (rest : List ℕ) (all : List (List ℕ)) → AreLines Ended lines rest all → AreLines Ended' lines rest all
  AreLines-map lines rest all (inl is) = inl is
  AreLines-map lines rest all (inr (is_end, is)) = inr (same is_end, is)

  AreFirst-map : (lines : List (List ℕ)) (rest : List ℕ) (first : List (List ℕ)) → AreFirst Ended lines rest first → AreFirst Ended' lines rest first
  AreFirst-map lines rest first are = (are.0, AreLines-map lines rest are.0 are.1, are.2)

  IsAnswered-map : (end : RunEnd) (lines : List (List ℕ)) (rest : List ℕ) (answered : List (List ℕ)) → IsAnswered Ended end lines rest answered → IsAnswered Ended' end lines rest answered
  IsAnswered-map InputEnded lines rest answered is = is
  IsAnswered-map SinkFailed lines rest answered is = AreFirst-map lines rest answered is
  IsAnswered-map SourceFailed lines rest answered is = is
  IsAnswered-map OutOfMemory lines rest answered is = AreFirst-map lines rest answered is
  IsAnswered-map InputTooLong lines rest answered is = is

  -- so a run is one with the other
  pub Run-map : {W : Type 0} {step : W → Exchange → W → Type 0} {before after : W} {bytes gained : List ℕ} {end : RunEnd} → Run step Ended before bytes gained end after → Run step Ended' before bytes gained end after
  Run-map {end = end} run = record {
    exchanges = run.exchanges;
    lines = run.lines;
    rest = run.rest;
    cut = run.cut;
    answered = IsAnswered-map end run.lines run.rest _ run.answered;
    leads = run.leads;
    written = run.written;
  }
