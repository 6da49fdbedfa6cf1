-- The row that is inserted is that of the emission in this place.
use Rattle.std.proofs.Common.{◌≡◌, ◌∙◌, ◌<◌, ◌++◌, ℕ, suc, List, [], ◌∷◌, length, map, drop, sym, ap, arith, rules, add-one, append_assoc}
use Rattle.json_terms.specs.Emitted.{key_value}
use Rattle.json_terms.specs.declared.term.Row.{Row}
use Rattle.view_model.specs.Rows.{rows_from}
use Rattle.reduce_tree.specs.declared.edit.Edit.{Edit}
use Rattle.reduce_tree.specs.declared.edit.Edit.TheVariants.{Insert}
use Rattle.row_exchange.proofs.Emitted.{row_of, rows_step}
use Rattle.index_trees.proofs.row_edits.add_insertions.Goals as goal

pub loop-place-preserved : goal.loop-place-preserved
loop-place-preserved c =
    let place = c.loop-place.place in
    let id = c.args.id.now in
    let emissions = c.args.emissions.now in
    let e = c.index-emissions-place.result in
    let edits = c.loop-place.edits.items in
    let rest : List (Edit Row) = map Insert (rows_from (suc place) id (map key_value (drop (suc place) emissions))) in
    let within : place < length emissions = omega arith in
    let placed : c.in-Ok.place ≡ place = search rules in
    let row : Row = record { key = c.in_ok-copy_term.field-0; id = c.in_ok-from_text.field-0; place = c.in-Ok.place; value = c.in_ok-copy_term-2.field-0 } in
    let same : row ≡ row_of place id e = λ i. record { key = c.in_ok-copy_term.ensures i; id = c.in_ok-from_text.ensures i; place = placed i; value = c.in_ok-copy_term-2.ensures i } in
    let pushed : c.push.new.self.items ≡ edits ++ (Insert c.in_ok-item.field-0 ∷ []) = c.in_ok-push.ensures.items in
    ap (λ (n : ℕ). c.push.new.self.items ++ map Insert (rows_from n id (map key_value (drop n emissions)))) (add-one place)
    ∙ ap (λ (items : List (Edit Row)). items ++ rest) pushed
    ∙ append_assoc edits (Insert c.in_ok-item.field-0 ∷ []) rest
    ∙ ap (λ (r : Row). edits ++ (Insert r ∷ rest)) (c.in_ok-item.ensures ∙ same)
    ∙ ap (λ (rows : List Row). edits ++ map Insert rows) (sym (rows_step place id emissions place e within c.index-emissions-place.is))
    ∙ c.loop-place.invariant
