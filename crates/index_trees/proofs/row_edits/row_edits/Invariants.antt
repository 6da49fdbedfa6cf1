use Rattle.std.proofs.Common.{◌≡◌, ◌++◌, drop, length}
use Rattle.index_trees.specs.Edits.{view_edits}
use Rattle.index_trees.proofs.row_edits.row_edits.Given as goal

-- the edits so far and those of the documents that are left are all
abbrev pub invariant-loop-change : goal.invariant-loop-change
invariant-loop-change l = l.edits.items ++ view_edits l.view (drop (length l.yielded) l.changes) (drop (length l.yielded) l.olds) ≡ view_edits l.view l.changes l.olds
