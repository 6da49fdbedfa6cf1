use Rattle.std.specs.Prelude.{length}
use Rattle.couchview_cli.proofs.Shown.{NoneYet}
use Rattle.couchview_cli.proofs.load.has_want.Given as goal

-- no line so far is the refusal
abbrev pub invariant-loop-reply : goal.invariant-loop-reply
invariant-loop-reply l = NoneYet l.written l.rest

abbrev pub decreases-loop-reply : goal.decreases-loop-reply
decreases-loop-reply l = length l.rest
