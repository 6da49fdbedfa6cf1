use Rattle.std.specs.Prelude.{◌≡◌, ◌++◌, length, map}
use Rattle.json_terms.specs.Emitted.{key_value}
use Rattle.view_model.specs.Rows.{rows_from}
use Rattle.fresh_view.proofs.rows.add_rows.Given as goal

-- the place is the number of the emissions so far, whose rows follow those that were there
abbrev pub invariant-loop-emission : goal.invariant-loop-emission
invariant-loop-emission l = (l.place ≡ length l.yielded) × (l.rows.items ≡ l.initial.rows.items ++ rows_from 0 l.id (map key_value l.yielded))
