use Rattle.std.proofs.Common.{◌≡◌, ◌≤◌, ◌-◌, ℕ, List, length}
use Rattle.std.specs.Io.KnownBytes.{Consumes}
use Rattle.line_loop.specs.Loops.{Progress, scene}
use Rattle.line_loop.proofs.reading.run.Given as goal

-- the bytes that were taken are the input so far, and no fault was taken back
abbrev pub invariant-loop-taken : goal.invariant-loop-taken
invariant-loop-taken g l =
    let held = g.K.Sink.held in
    (bytes : List ℕ) × Consumes (g.S.Source.left l.initial.source) (g.S.Source.left l.source) bytes × (length bytes ≡ l.taken) × (l.taken ≤ 1099511627776) ×
    Progress g.R.Responder l.initial.responder (held l.initial.sink) bytes (scene l.responder l.pending.line.items (held l.sink)) ×
    g.R.Responder.is_ready l.responder × (l.pending.limit ≡ g.R.Responder.line_limit) ×
    (g.S.Source.faults l.initial.source ≤ g.S.Source.faults l.source) × (g.K.Sink.faults l.initial.sink ≤ g.K.Sink.faults l.sink)

abbrev pub decreases-loop-taken : goal.decreases-loop-taken
decreases-loop-taken g l = 1099511627776 - l.taken
