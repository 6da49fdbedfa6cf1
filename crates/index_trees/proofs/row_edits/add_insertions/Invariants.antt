use Rattle.std.proofs.Common.{◌≡◌, ◌++◌, map, drop}
use Rattle.json_terms.specs.Emitted.{key_value}
use Rattle.view_model.specs.Rows.{rows_from}
use Rattle.reduce_tree.specs.declared.edit.Edit.TheVariants.{Insert}
use Rattle.index_trees.proofs.row_edits.add_insertions.Given as goal

-- the insertions so far and those of the emissions that are left are all
abbrev pub invariant-loop-place : goal.invariant-loop-place
invariant-loop-place l = l.edits.items ++ map Insert (rows_from l.place l.id (map key_value (drop l.place l.emissions))) ≡ l.initial.edits.items ++ map Insert (rows_from 0 l.id (map key_value l.emissions))
