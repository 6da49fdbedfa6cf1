use Rattle.view_ports.specs.Disk.{IfTold}
use Rattle.crash_disk.specs.State.{told}
use Rattle.view_engine.specs.Worlds.{IsOpen}
use Rattle.script_tests.proofs.stage.Stage.run.Given as goal

-- the engine lies open
abbrev pub invariant-loop : goal.invariant-loop
invariant-loop g l = IfTold (told l.self.folder) (λ d. IsOpen l.engine d.now)
