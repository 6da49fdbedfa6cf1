-- What a run did with lines, from what its session replied.
use Rattle.std.specs.Prelude.{◌≡◌, ℕ, List, [], Option}
use Rattle.std.proofs.Common.{inl, inr}
use Rattle.view_ports.specs.declared.run_end.RunEnd.{RunEnd}
use Rattle.view_ports.specs.Runs.{status_of}
use Rattle.line_loop.specs.declared.loop_end.LoopEnd.TheVariants as loop_end
use Rattle.view_ports.specs.Disk.{Tells}
use Rattle.view_engine.specs.declared.halt.StepFault.{StepFault}
use Rattle.view_engine.specs.Openings.{IsMovedByOpening}
use Rattle.couchview_cli.specs.Closing.{Closes}
use Rattle.couchview_cli.specs.Reading.{AnswersLines, HasReplied, IsOpenAt, Told}
use Rattle.couchview_cli.specs.Serving.{Outside}

module _ (before after : Outside) (status : ℕ) (opened : Told) (moved : Tells before.disk opened IsMovedByOpening) (seq : ℕ) (opens : IsOpenAt opened seq) where
  -- the session came to the end of a run
  pub reads_on : (end : RunEnd) → status ≡ status_of end → HasReplied before.left after.left before.held after.held opened after.disk seq before.faults after.faults (loop_end.Run end) → AnswersLines before after status
  reads_on end is replied =
      inl (record {
        bytes = replied.bytes;
        end = end;
        ends = is;
        reads = replied.reads;
        counts = replied.counts;
        opened = opened;
        moved = moved;
        seq = seq;
        opens = opens;
        replies = replied.ends;
      })

  -- it was stopped in a line, and then the last line was written
  pub is_cut_off : (held : Option (List ℕ)) (fault : StepFault) → HasReplied before.left after.left before.held held opened after.disk seq before.faults after.faults (loop_end.Stopped fault) → Closes held after.held [] fault status
      → AnswersLines before after status
  is_cut_off held fault replied closes =
      inr (inl (record {
        bytes = replied.bytes;
        fault = fault;
        held = held;
        reads = replied.reads;
        counts = replied.counts;
        opened = opened;
        moved = moved;
        seq = seq;
        opens = opens;
        replies = replied.ends;
        closes = closes;
      }))
