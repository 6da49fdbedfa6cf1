use Rattle.couchview_cli.proofs.Naming.{apart_named}
use Rattle.couchview_cli.proofs.command.is_apart.Goals as goal

pub returns-in-Some : goal.returns-in-Some
returns-in-Some c = apart_named _ c.in-Some.language.now c.in-Some._path.now c.args.others.now c.is_named.result c.in-Some.ensures c.is_named.ensures
