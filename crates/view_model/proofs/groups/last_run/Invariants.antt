use Rattle.std.proofs.Common.{◌<◌, length}
use Rattle.view_model.proofs.RunParts.{AreOneRun}
use Rattle.view_model.proofs.groups.last_run.Given as goal

abbrev pub invariant-loop-start : goal.invariant-loop-start
invariant-loop-start l = record {
  within : l.start < length l.rows;
  together : AreOneRun l.level l.rows l.start (length l.rows);
}

abbrev pub decreases-loop-start : goal.decreases-loop-start
decreases-loop-start l = l.start
