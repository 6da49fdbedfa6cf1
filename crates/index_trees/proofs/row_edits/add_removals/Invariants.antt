use Rattle.std.proofs.Common.{◌≡◌, ◌++◌, ◌&&◌, map, filter, nat_eq, not, take}
use Rattle.json_terms.specs.Emitted.{key_value}
use Rattle.view_model.specs.Rows.{rows_from}
use Rattle.reduce_tree.specs.declared.edit.Edit.TheVariants.{Remove}
use Rattle.index_trees.specs.Edits.{is_replaced, row_at}
use Rattle.index_trees.proofs.row_edits.add_removals.Given as goal

-- the removals so far are those of the old rows that were passed
abbrev pub invariant-loop-here : goal.invariant-loop-here
invariant-loop-here l =
    l.edits.items ≡ l.initial.edits.items ++ map (λ here. Remove (row_at l.id here))
    (filter (λ here. nat_eq here.view l.view && not (is_replaced (rows_from 0 l.id (map key_value l.emissions)) here)) (take l.here-index l.old))
