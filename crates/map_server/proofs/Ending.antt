-- What serving did, by what the loop over its lines did.
use Rattle.std.specs.Prelude.{◌≡◌, ◌<◌, ◌⊎◌, ℕ, List, [], Option, Some, None, length}
use Rattle.std.proofs.Common.{refl, sym, ap, ◌∙◌, subst, arith, inl, inr, length-append, lit≤}
use Rattle.std.proofs.KnownBytes.{Consumes-nil, Appends-nil}
use Rattle.std.specs.Io.KnownBytes.{Consumes}
use Rattle.view_ports.specs.declared.run_end.RunEnd.{RunEnd}
use Rattle.view_ports.specs.declared.run_end.RunEnd.TheVariants.{InputEnded, SinkFailed, SourceFailed, OutOfMemory, InputTooLong}
use Rattle.view_ports.specs.Exchanges.{Exchange, text_of}
use Rattle.view_ports.specs.Runs.{HasRead, Run, status_of, input_limit}
use Rattle.view_ports.proofs.Reaching.{reached_start, Run-out_of_memory}
use Rattle.json_terms.specs.declared.fault.NoMemory.{NoMemory}
use Rattle.line_loop.specs.declared.loop_end.LoopEnd.TheVariants as loop_end
use Rattle.line_loop.specs.declared.responder.Responder.{Ghosts as Responds}
use Rattle.line_loop.specs.Loops.{Loops, Steps}
use Rattle.line_loop.proofs.Ending.{Run-cut_short}
use Rattle.line_loop.proofs.Seeing.{Run-seen}
use Rattle.map_server.specs.declared.dialogue.Dialogue.{Dialogue}
use Rattle.map_server.specs.Serving.{AnswersLine, Outside, Serves, StopsAtLimit, IsShort}

-- the session has these sources
abbrev HasSources : Dialogue → List (List ℕ) → Type 0
HasSources dialogue sources = dialogue.session ≡ sources

module _ (r : Responds Dialogue NoMemory) (steps : (before after : Dialogue) (e : Exchange) → Steps r before e after → AnswersLine before.session e after.session) where
  -- what the loop did is a run of answers, from the sources that the session has
  run_of : {Ended : Type 0} (start after : Dialogue) (bytes gained : List ℕ) (end : RunEnd) → start.session ≡ [] → Run (Steps r) Ended start bytes gained end after
      → (sources : List (List ℕ)) × Run AnswersLine Ended [] bytes gained end sources × HasSources after sources
  run_of start after bytes gained end none run =
      Run-seen HasSources
      (λ before next sources e seen step. (next.session, subst (λ (ss : List (List ℕ)). AnswersLine ss e next.session) seen (steps before next e step), refl))
      start after [] bytes gained end none run

  -- the loop ended as a run ends
  pub Serves-ended : (start last : Dialogue) (before after : Outside) (end : RunEnd) → start.session ≡ [] → Loops r start last before.left after.left before.held after.held (loop_end.Run end) → Serves before after (status_of end)
  Serves-ended start last before after end none loops =
      let seen = run_of start last loops.bytes loops.ends.gained end none loops.ends.run in record {
        bytes = loops.bytes;
        gained = loops.ends.gained;
        end = end;
        sources = seen.0;
        ends = refl;
        reads = loops.reads;
        counts = loops.counts;
        writes = loops.ends.wrote;
        runs = seen.1;
      }

  -- there was no memory to answer a line
  pub Serves-stopped : (start last : Dialogue) (before after : Outside) (error : NoMemory) → start.session ≡ [] → Loops r start last before.left after.left before.held after.held (loop_end.Stopped error)
      → Serves before after (status_of OutOfMemory)
  Serves-stopped start last before after error none loops =
      let cut = loops.ends in
      let seen = run_of start cut.mid loops.bytes (text_of cut.exchanges) OutOfMemory none (Run-cut_short cut) in record {
        bytes = loops.bytes;
        gained = text_of cut.exchanges;
        end = OutOfMemory;
        sources = seen.0;
        ends = refl;
        reads = loops.reads;
        counts = loops.counts;
        writes = cut.wrote;
        runs = seen.1;
      }

-- nothing was read or written, since there was no memory to begin
pub Serves-unopened : (outside : Outside) → Serves outside outside (status_of OutOfMemory)
Serves-unopened outside = record {
  bytes = [];
  gained = [];
  end = OutOfMemory;
  sources = [];
  ends = refl;
  reads = Consumes-nil outside.left;
  counts = lit≤ tt;
  writes = Appends-nil outside.held;
  runs = Run-out_of_memory (reached_start AnswersLine []) [];
}

-- what is consumed is no longer than what was left
consumed_short : (before after : Option (List ℕ)) (bytes : List ℕ) → Consumes before after bytes → IsShort before → length bytes < input_limit
consumed_short None after bytes reads short = absurd short
consumed_short (Some left) None bytes reads short = absurd reads
consumed_short (Some left) (Some rest) bytes reads short = omega (arith, ap length reads, length-append bytes rest, short)

-- what each failure's status says of the end
is_sink_failed : (end : RunEnd) → status_of end ≡ 4 → end ≡ SinkFailed
is_sink_failed InputEnded is = absurd (omega arith)
is_sink_failed SinkFailed is = refl
is_sink_failed SourceFailed is = absurd (omega arith)
is_sink_failed OutOfMemory is = absurd (omega arith)
is_sink_failed InputTooLong is = absurd (omega arith)

is_source_failed : (end : RunEnd) → status_of end ≡ 5 → end ≡ SourceFailed
is_source_failed InputEnded is = absurd (omega arith)
is_source_failed SinkFailed is = absurd (omega arith)
is_source_failed SourceFailed is = refl
is_source_failed OutOfMemory is = absurd (omega arith)
is_source_failed InputTooLong is = absurd (omega arith)

complete : (end : RunEnd) (status count : ℕ) → status ≡ status_of end → HasRead end count → count < input_limit → (status ≡ 4 → ⊥) → (status ≡ 5 → ⊥) → (status ≡ 0) ⊎ (status ≡ 6)
complete InputEnded status count is counts short sink source = inl is
complete SinkFailed status count is counts short sink source = absurd (sink is)
complete SourceFailed status count is counts short sink source = absurd (source is)
complete OutOfMemory status count is counts short sink source = inr is
complete InputTooLong status count is counts short sink source = absurd (omega arith)

-- input that is short enough is read to its end, unless a port fails or memory runs out
pub Serves-complete : (before after : Outside) (end : RunEnd) (status : ℕ) → status ≡ status_of end → Serves before after (status_of end) → IsShort before.left
    → (end ≡ SinkFailed → ⊥) → (end ≡ SourceFailed → ⊥) → (status ≡ 0) ⊎ (status ≡ 6)
Serves-complete before after end status is serves short sink source =
    complete serves.end status (length serves.bytes) (is ∙ serves.ends) serves.counts (consumed_short before.left after.left serves.bytes serves.reads short)
    (λ four. sink (is_sink_failed end (sym is ∙ four))) (λ five. source (is_source_failed end (sym is ∙ five)))

at_limit : (end : RunEnd) (count : ℕ) → HasRead end count → status_of end ≡ 8 → count ≡ input_limit
at_limit InputEnded count counts is = absurd (omega arith)
at_limit SinkFailed count counts is = absurd (omega arith)
at_limit SourceFailed count counts is = absurd (omega arith)
at_limit OutOfMemory count counts is = absurd (omega arith)
at_limit InputTooLong count counts is = counts

stops : (end : RunEnd) (count : ℕ) → HasRead end count → count ≡ input_limit → (status_of end ≡ 8) ⊎ ((status_of end ≡ 4) ⊎ (status_of end ≡ 6))
stops InputEnded count counts is = absurd (omega arith)
stops SinkFailed count counts is = inr (inl refl)
stops SourceFailed count counts is = absurd (omega arith)
stops OutOfMemory count counts is = inr (inr refl)
stops InputTooLong count counts is = inl refl

-- a run that read as many bytes as a run reads at most ends there
pub Serves-limit : (before after : Outside) (status status' : ℕ) → status ≡ status' → Serves before after status' → StopsAtLimit before.left after.left status
Serves-limit before after status status' is serves = record {
  bytes = serves.bytes;
  reads = serves.reads;
  limited = λ eight. at_limit serves.end (length serves.bytes) serves.counts (sym serves.ends ∙ sym is ∙ eight);
  stopped = λ full. subst (λ (s : ℕ). (s ≡ 8) ⊎ ((s ≡ 4) ⊎ (s ≡ 6))) (sym (is ∙ serves.ends)) (stops serves.end (length serves.bytes) serves.counts full);
}
