use Rattle.std.specs.Prelude.{◌≡◌, [], replicate}
use Rattle.change_mapper.proofs.changed.no_rows.Given as goal

-- none so far in each view
abbrev pub invariant-loop-view : goal.invariant-loop-view
invariant-loop-view l = l.rows ≡ replicate l._view []
