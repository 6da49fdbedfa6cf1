use Rattle.crash_disk.specs.State.{told}
use Rattle.tree_index_tests.specs.Indexes.{IsHeld}
use Rattle.tree_index_tests.proofs.indexes.put_shown.Given as goal

abbrev pub invariant-loop-view : goal.invariant-loop-view
invariant-loop-view g l = IsHeld l.index (told l.bench.folder)
