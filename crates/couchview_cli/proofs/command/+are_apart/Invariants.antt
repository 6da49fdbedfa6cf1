use Rattle.std.proofs.Common.{length}
use Rattle.couchview_cli.proofs.command.+are_apart.Given as goal

abbrev pub decreases-are_apart : goal.decreases-are_apart
decreases-are_apart l = length l.words.now
