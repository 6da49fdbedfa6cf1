use Rattle.std.proofs.Common.{refl}
use Rattle.couchview_cli.specs.Command.{usage_line}
use Rattle.couchview_cli.proofs.command.usage.Goals as goal

pub returns : goal.returns
unfolding usage_line
returns c = refl
