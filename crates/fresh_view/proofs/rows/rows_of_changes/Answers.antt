-- One change's rows follow those of the changes before it.
use Rattle.std.specs.Prelude.{◌≡◌, ◌+◌, ◌++◌, ℕ, List, [], ◌∷◌, take}
use Rattle.std.specs.List.{flat_map}
use Rattle.std.proofs.Common.{ap, sym, ◌∙◌}
use Rattle.std.proofs.lemmas.List.{take_more}
use Rattle.json_terms.specs.declared.term.Row.{Row}
use Rattle.doc_file.specs.declared.docs.changes.Change.{Change}
use Rattle.map_lang.specs.Syntax.{Stmts}
use Rattle.fresh_view.specs.Programs.{program_rows}
use Rattle.fresh_view.proofs.Changes.{left, rows-push}
use Rattle.fresh_view.proofs.rows.rows_of_changes.Goals as goal

pub loop-change-preserved : goal.loop-change-preserved
loop-change-preserved c =
    let program : Stmts = c.args.program.now in
    let all : List Change = c.args.changes.now in
    let at : ℕ = c.loop-change.change-index in
    let change : Change = c.change-item.result in
    let next : take (at + 1) all ≡ take at all ++ change ∷ [] = take_more all at change c.loop-change-test.true ∙ ap (λ (x : Change). take at all ++ x ∷ []) (sym c.change-item.is) in
    c.in_ok-add_change.ensures
    ∙ ap (λ (rows : List Row). rows ++ flat_map (program_rows program) (left (change ∷ []))) c.loop-change.invariant
    ∙ sym (rows-push program (take at all) change)
    ∙ ap (λ changes. flat_map (program_rows program) (left changes)) (sym next)
