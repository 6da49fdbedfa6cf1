use Rattle.crash_disk.specs.State.{told}
use Rattle.tree_index_tests.specs.Indexes.{IsHeld}
use Rattle.tree_index_tests.proofs.indexes.play.Given as goal

abbrev pub invariant-loop-request : goal.invariant-loop-request
invariant-loop-request g l = IsHeld l.index (told l.bench.folder)
