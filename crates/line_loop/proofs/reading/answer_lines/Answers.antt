-- Where there is no memory for the piece nothing is read.
use Rattle.std.proofs.Common.{[], lit≤, refl}
use Rattle.std.proofs.KnownBytes.{Consumes-nil}
use Rattle.view_ports.specs.declared.run_end.RunEnd.TheVariants.{OutOfMemory}
use Rattle.line_loop.specs.declared.loop_end.LoopEnd.TheVariants as loop_end
use Rattle.line_loop.proofs.Progressing.{Progress-start}
use Rattle.line_loop.proofs.Ending.{Ends-out_of_memory, Loops-ended}
use Rattle.line_loop.proofs.reading.answer_lines.Goals as goal

pub returns-in_default-clause-loops : goal.returns-in_default-clause-loops
returns-in_default-clause-loops g c =
    Loops-ended g.R.Responder _ _ _ _ _ _ [] (loop_end.Run OutOfMemory) (Consumes-nil _) (lit≤ tt)
    (Ends-out_of_memory (Progress-start g.R.Responder c.args.responder.now [] (g.K.Sink.held c.args.sink.now) refl) _ [])
