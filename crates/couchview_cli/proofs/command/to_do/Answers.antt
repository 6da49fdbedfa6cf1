-- Words that name a command that isn't built name no other.
use Rattle.couchview_cli.proofs.Called.{built_of}
use Rattle.couchview_cli.proofs.command.to_do.Goals as goal

pub returns-in-Ok-clause-none : goal.returns-in-Ok-clause-none
returns-in-Ok-clause-none c = λ none todo. c.only_built.ensures.none (cc) (built_of c.args.words.now c.in-Ok.command todo.0 c.in-Ok.ensures.named todo.1)
