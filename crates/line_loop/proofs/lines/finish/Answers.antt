-- The last line is answered where the input ended without a newline.
use Rattle.std.proofs.Common.{◌≡◌, ◌≢◌, [], length, sym, ◌∙◌, arith}
use Rattle.std.proofs.lemmas.Bool.{eqb-false, eqb-true}
use Rattle.std.proofs.lemmas.List.{nil_from_length}
use Rattle.view_ports.proofs.KeptLines.{kept-none, kept-some}
use Rattle.view_ports.proofs.Results.{OnOk-map, IfErr-map}
use Rattle.line_loop.proofs.Ending.{Ends-input, Ends-last, Ends-last_fails}
use Rattle.line_loop.proofs.lines.finish.Goals as goal

pub returns-then-is_empty-clause-ok : goal.returns-then-is_empty-clause-ok
returns-then-is_empty-clause-ok g c = λ start first bytes progress.
    let line = c.args.pending.now.line in
    let size : length line.items ≡ 0 = omega (arith, line.ok, eqb-true _ _ (sym c.if-is_empty.ensures)) in
    let none : line.items ≡ [] = nil_from_length line.items size in
    Ends-input progress (Unit {0}) (kept-none g.R.Responder.line_limit progress.reached.rest (sym progress.pending ∙ none))

pub returns-clause-ok : goal.returns-clause-ok
returns-clause-ok g c =
    let line = c.args.pending.now.line in
    let some : length line.items ≢ 0 = λ none. eqb-false _ _ (sym c.if-is_empty.ensures) (omega arith) in
    OnOk-map c.answer.result _ _
    (λ answered start first bytes progress.
    let all = answered progress.reached.rest (c.deref.ensures.value ∙ progress.pending) in
    Ends-last progress (Unit {0}) (kept-some g.R.Responder.line_limit progress.reached.rest line.items progress.pending some) _ _ all.0 all.1)
    c.answer.ensures.ok

pub returns-clause-err : goal.returns-clause-err
returns-clause-err g c =
    let line = c.args.pending.now.line in
    let some : length line.items ≢ 0 = λ none. eqb-false _ _ (sym c.if-is_empty.ensures) (omega arith) in
    IfErr-map c.answer.result _ _
    (λ end fails start first bytes progress.
    Ends-last_fails progress (Unit {0}) tt end (kept-some g.R.Responder.line_limit progress.reached.rest line.items progress.pending some) _ _
    (fails progress.reached.rest (c.deref.ensures.value ∙ progress.pending)))
    c.answer.ensures.err
