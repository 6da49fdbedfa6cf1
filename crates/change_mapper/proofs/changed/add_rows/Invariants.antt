use Rattle.std.specs.Prelude.{◌≡◌, ◌++◌, length}
use Rattle.std.specs.Vec.Iter.{into_iter_items, into_iter_len}
use Rattle.change_mapper.proofs.RowsSoFar.{left_of, rows_of}
use Rattle.change_mapper.proofs.changed.add_rows.Given as goal

-- the rows of the documents so far are added, and the lists that they left
abbrev pub invariant-loop-id : goal.invariant-loop-id
invariant-loop-id l =
    (goal.iterator-loop-id).can_next l.id-iterator ×
    (goal.iterator-loop-id).is_finite l.id-iterator ×
    (l.rows.items ≡ l.initial.rows.items ++ rows_of l.views l.yielded l.fn.lists) ×
    (into_iter_items l.lists ≡ left_of l.yielded l.fn.lists) ×
    (into_iter_len l.lists ≡ length (into_iter_items l.lists))
