-- The places that are added are those in the view with this number.
use Rattle.std.proofs.Common.{◌≡◌, ◌∙◌, ◌<◌, ◌++◌, ℕ, suc, List, length, map, drop, sym, ap, arith, rules, add-one, append_assoc}
use Rattle.json_terms.specs.Json.{Json}
use Rattle.raw_collation.specs.Sorting.{sorted_rows}
use Rattle.view_model.specs.Rows.{rows_from}
use Rattle.index_items.specs.declared.back_row.BackRow.{BackRow}
use Rattle.index_items.specs.BackIndex.{back_row}
use Rattle.index_trees.specs.Edits.{new_places}
use Rattle.index_trees.proofs.BackSteps.{places_step}
use Rattle.index_trees.proofs.back_edits.new_places.Goals as goal

pub loop-view-preserved : goal.loop-view-preserved
loop-view-preserved c =
    let view : ℕ = c.loop-view.view in
    let id : List ℕ = c.args.id.now in
    let lists : List (List (Json × Json)) = c.args.lists.now in
    let list : List (Json × Json) = c.index-lists-view.result in
    let places : List BackRow = c.loop-view.places.items in
    let within : view < length lists = omega arith in
    let number : c.in-Ok.view ≡ view = search rules in
    let added : c.add_places.new.places.items ≡ places ++ map (back_row view) (sorted_rows (rows_from 0 id list)) =
    c.in_ok-add_places.ensures ∙ (λ i. places ++ map (back_row (number i)) (sorted_rows (rows_from 0 id (c.as_slice.ensures i)))) in
    let rest : List BackRow = new_places (suc view) id (drop (suc view) lists) in
    ap (λ (n : ℕ). c.add_places.new.places.items ++ new_places n id (drop n lists)) (add-one view)
    ∙ ap (λ (l : List BackRow). l ++ rest) added
    ∙ append_assoc places (map (back_row view) (sorted_rows (rows_from 0 id list))) rest
    ∙ ap (λ (l : List BackRow). places ++ l) (sym (places_step view id lists view list within c.index-lists-view.is))
    ∙ c.loop-view.invariant
