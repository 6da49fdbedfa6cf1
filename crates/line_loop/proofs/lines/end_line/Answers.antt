-- A line that ends is answered, or ends the run.
use Rattle.std.proofs.Common.{◌≡◌, ◌++◌, ◌+◌, ◌-◌, List, ℕ, [], length, take, min, refl, sym, ap, ◌∙◌, append_assoc, arith}
use Rattle.std.proofs.lemmas.List.{nil_from_length}
use Rattle.std.proofs.lemmas.Bool.{eqb-true}
use Rattle.view_ports.specs.Lines.{ended, kept}
use Rattle.view_ports.specs.declared.run_end.RunEnd.TheVariants.{OutOfMemory}
use Rattle.view_ports.proofs.KeptLines.{kept-is, take-filled}
use Rattle.view_ports.proofs.Results.{OnOk-map, IfErr-map}
use Rattle.line_loop.specs.declared.loop_end.LoopEnd.TheVariants as loop_end
use Rattle.line_loop.proofs.Progressing.{Progress-line, kept_at, kept_here}
use Rattle.line_loop.proofs.Ending.{Ends-line, Ends-out_of_memory, Ends-same}
use Rattle.line_loop.proofs.lines.end_line.Goals as goal

-- the first bytes of a line are what is kept of it, where nothing stands before it
first_kept : (limit count : ℕ) (line end : List ℕ) → line ≡ [] → count ≡ min (length end) (limit + 1) → take count end ≡ kept limit (line ++ end)
first_kept limit count line end none is =
    take-filled (limit + 1) [] end count (omega arith) (let same : limit + 1 - 0 ≡ limit + 1 = omega arith in is ∙ ap (λ (n : ℕ). min (length end) n) (sym same)) ∙ kept-is limit (limit + 1) end refl ∙ ap (λ (front : List ℕ). kept limit (front ++ end)) (sym none)

pub returns-then-is_empty-clause-ok : goal.returns-then-is_empty-clause-ok
returns-then-is_empty-clause-ok g c =
    let line = c.args.pending.now.line in
    let end = c.args.end.now in
    let size : length line.items ≡ 0 = omega (arith, line.ok, eqb-true _ _ (sym c.if-is_empty.ensures)) in
    let none : line.items ≡ [] = nil_from_length line.items size in
    let given = first_kept c.args.pending.now.limit c.min-count.result line.items end none c.min-count.ensures in
    OnOk-map c.answer.result _ _
    (λ answered start first bytes progress.
    let all = answered _ (kept_here progress end _ (kept_at _ _ _ _ given c.requires.limit)) in
    Progress-line progress end c.requires.plain _ _ _ all.0 all.1 none)
    c.answer.ensures.ok

pub returns-then-is_empty-clause-err : goal.returns-then-is_empty-clause-err
returns-then-is_empty-clause-err g c =
    let line = c.args.pending.now.line in
    let end = c.args.end.now in
    let size : length line.items ≡ 0 = omega (arith, line.ok, eqb-true _ _ (sym c.if-is_empty.ensures)) in
    let none : line.items ≡ [] = nil_from_length line.items size in
    let given = first_kept c.args.pending.now.limit c.min-count.result line.items end none c.min-count.ensures in
    IfErr-map c.answer.result _ _
    (λ stop fails start first bytes more progress.
    Ends-line progress ⊥ stop end more c.requires.plain _ _ (fails _ (kept_here progress end _ (kept_at _ _ _ _ given c.requires.limit))))
    c.answer.ensures.err

pub returns-in-Err-clause-err : goal.returns-in-Err-clause-err
returns-in-Err-clause-err g c = λ start first bytes more progress.
    let now = g.K.Sink.held c.args.sink.now in
    let end = ended c.args.end.now in
    Ends-same g.R.Responder ⊥ start c.args.responder.now first now (bytes ++ (end ++ more)) (bytes ++ end ++ more) (loop_end.Run OutOfMemory) (sym (append_assoc bytes end more)) (Ends-out_of_memory progress ⊥ (end ++ more))

pub returns-in-Err-answer-clause-err : goal.returns-in-Err-answer-clause-err
returns-in-Err-answer-clause-err g c = λ start first bytes more progress.
    let end = c.args.end.now in
    Ends-line progress ⊥ c.in-Err-answer.end end more c.requires.plain _ _
    (c.in-Err-answer.ensures.err _ (kept_here progress end c.deref.result.now (c.deref.ensures.value ∙ kept_at _ _ _ _ c.in-Ok.ensures.ok c.requires.limit)))

pub returns-clause-ok : goal.returns-clause-ok
returns-clause-ok g c = λ start first bytes progress.
    let end = c.args.end.now in
    let all = c.in-Ok-answer.ensures.ok _ (kept_here progress end c.deref.result.now (c.deref.ensures.value ∙ kept_at _ _ _ _ c.in-Ok.ensures.ok c.requires.limit)) in
    Progress-line progress end c.requires.plain _ _ _ all.0 all.1 c.clear.ensures.items
