use Rattle.std.proofs.Common.{◌≡◌, ◌≤◌, ◌++◌, List, ℕ, length}
use Rattle.line_loop.specs.Loops.{Goes, scene}
use Rattle.line_loop.proofs.lines.feed.Given as goal

-- the lines that ended in the front of the piece are answered
abbrev pub invariant-loop-end : goal.invariant-loop-end
invariant-loop-end g l =
    let held = g.K.Sink.held in
    (front : List ℕ) × (l.piece ≡ front ++ l.rest) ×
    Goes g.R.Responder (scene l.initial.responder l.initial.pending.line.items (held l.initial.sink)) (scene l.responder l.pending.line.items (held l.sink)) front ×
    g.R.Responder.is_ready l.responder × (l.pending.limit ≡ l.initial.pending.limit) ×
    (g.K.Sink.faults l.initial.sink ≤ g.K.Sink.faults l.sink)

abbrev pub decreases-loop-end : goal.decreases-loop-end
decreases-loop-end g l = length l.rest
