use Rattle.std.proofs.lemmas.List.{nil_from_length}
use Rattle.couchview_cli.proofs.Naming.{apart_else, apart_none, apart_then}
use Rattle.couchview_cli.proofs.command.+are_apart.Goals as goal

pub returns-then-is_apart : goal.returns-then-is_apart
returns-then-is_apart t c =
    apart_then c.args.words.now c.in-Some.first.now c.in-Some.others.now c.in-Some.ensures.cases.0 c.as_str.result.now c.as_str.ensures.value c.are_apart.result (c.is_apart.ensures.0 c.if-is_apart.true) c.are_apart.ensures

pub returns-else-is_apart : goal.returns-else-is_apart
returns-else-is_apart t c = apart_else c.args.words.now c.in-Some.first.now c.in-Some.others.now c.in-Some.ensures.cases.0 c.as_str.result.now c.as_str.ensures.value c.is_apart.result c.if-is_apart.false c.is_apart.ensures.1

pub returns-in-None : goal.returns-in-None
returns-in-None t c = apart_none c.args.words.now (nil_from_length c.args.words.now c.in-None.ensures.cases)
