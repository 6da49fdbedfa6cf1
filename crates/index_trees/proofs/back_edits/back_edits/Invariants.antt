use Rattle.std.proofs.Common.{◌≡◌, ◌++◌, drop, length}
use Rattle.index_trees.specs.Edits.{back_edits}
use Rattle.index_trees.proofs.back_edits.back_edits.Given as goal

-- the edits so far and those of the documents that are left are all
abbrev pub invariant-loop-change : goal.invariant-loop-change
invariant-loop-change l =
    let done = length l.yielded in
    l.edits.items ++ back_edits (drop done l.changes) (drop done l.olds) ≡ back_edits l.changes l.olds
