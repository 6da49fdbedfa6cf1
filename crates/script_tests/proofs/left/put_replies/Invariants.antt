use Rattle.view_ports.specs.Disk.{IfTold}
use Rattle.crash_disk.specs.State.{told}
use Rattle.view_engine.specs.Worlds.{IsOpen}
use Rattle.script_tests.proofs.left.put_replies.Given as goal

-- the engine lies open
abbrev pub invariant-loop-line : goal.invariant-loop-line
invariant-loop-line g l = IfTold (told l.folder) (λ d. IsOpen l.engine d.now)
