-- The lines that end in a piece are answered one after another, and what stands behind is kept.
use Rattle.std.proofs.Common.{◌≡◌, ◌++◌, List, ℕ, [], sym, ap, ◌∙◌, append_assoc, append-nil, refl, arith}
use Rattle.view_ports.specs.Lines.{ended}
use Rattle.view_ports.specs.declared.run_end.RunEnd.TheVariants.{OutOfMemory}
use Rattle.line_loop.specs.declared.loop_end.LoopEnd.TheVariants as loop_end
use Rattle.line_loop.proofs.Progressing.{Progress-same, Progress-kept, kept_at}
use Rattle.line_loop.proofs.Ending.{Ends-same, Ends-out_of_memory}
use Rattle.line_loop.proofs.lines.feed.Goals as goal

pub loop-end-init : goal.loop-end-init
loop-end-init g c = ([], refl, λ start first bytes progress. Progress-same progress (bytes ++ []) (sym (append-nil bytes)), c.requires.ready, refl, omega arith)

pub returns-in-Err-clause-err : goal.returns-in-Err-clause-err
returns-in-Err-clause-err g c =
    let done = c.loop-end.invariant in
    let front = done.0 in
    let line = ended c.in-Some.end.now in
    let more = c.in-Some.behind.now in
    let joined : front ++ (line ++ more) ≡ c.args.piece.now = ap (λ (l : List ℕ). front ++ l) (sym c.in-Some.ensures.1) ∙ sym done.1 in
    λ start first bytes progress. Ends-same g.R.Responder ⊥ start c.end_line.new.responder first (g.K.Sink.held c.end_line.new.sink) (bytes ++ front ++ line ++ more) (bytes ++ c.args.piece.now) c.in-Err.end
    (append_assoc (bytes ++ front) line more ∙ append_assoc bytes front (line ++ more) ∙ ap (λ (l : List ℕ). bytes ++ l) joined)
    (c.in-Err.ensures.err start first (bytes ++ front) more (done.2 start first bytes progress))

pub loop-end-preserved : goal.loop-end-preserved
loop-end-preserved g c =
    let done = c.loop-end.invariant in
    let front = done.0 in
    let line = ended c.in-Some.end.now in
    let more = c.in-Some.behind.now in (
      front ++ line,
      done.1 ∙ ap (λ (l : List ℕ). front ++ l) c.in-Some.ensures.1 ∙ sym (append_assoc front line more),
      λ start first bytes progress. Progress-same (c.in-Ok.ensures.ok start first (bytes ++ front) (done.2 start first bytes progress)) (bytes ++ (front ++ line)) (append_assoc bytes front line),
      c.in-Ok.ensures.ready,
      c.end_line.ensures.limit ∙ done.4,
      omega (arith, done.5, c.in-Ok.ensures.cause.later),
    )

pub returns-in-Ok-keep-clause-ok : goal.returns-in-Ok-keep-clause-ok
returns-in-Ok-keep-clause-ok g c =
    let done = c.loop-end.invariant in
    let front = done.0 in
    let rest = c.loop-end.rest.now in
    λ start first bytes progress. Progress-same (Progress-kept (done.2 start first bytes progress) rest c.in_default.ensures _ (kept_at _ _ _ _ c.in-Ok-keep.ensures.ok (done.4 ∙ c.requires.limit))) (bytes ++ c.args.piece.now)
    (append_assoc bytes front rest ∙ ap (λ (l : List ℕ). bytes ++ l) (sym done.1))

pub returns-in-Err-keep-clause-err : goal.returns-in-Err-keep-clause-err
returns-in-Err-keep-clause-err g c =
    let done = c.loop-end.invariant in
    let front = done.0 in
    let rest = c.loop-end.rest.now in
    λ start first bytes progress. Ends-same g.R.Responder ⊥ start c.loop-end.responder first (g.K.Sink.held c.loop-end.sink) (bytes ++ front ++ rest) (bytes ++ c.args.piece.now) (loop_end.Run OutOfMemory)
    (append_assoc bytes front rest ∙ ap (λ (l : List ℕ). bytes ++ l) (sym done.1))
    (Ends-out_of_memory (done.2 start first bytes progress) ⊥ rest)
