-- The program that is parsed is the source's, and a source that is refused has none.
use Rattle.std.proofs.Common.{is_some, ap}
use Rattle.map_server.specs.Programs.{program_of-complete, program_of-none}
use Rattle.fresh_view.proofs.afresh.compile.Goals as goal

pub returns-in-Ok-clause-program : goal.returns-in-Ok-clause-program
returns-in-Ok-clause-program c = program_of-complete c.args.source.now c.in-Ok.program c.utf8.source c.in-Ok.ensures.found

pub returns-in-Err-Refused-clause-refused : goal.returns-in-Err-Refused-clause-refused
returns-in-Err-Refused-clause-refused c = λ is. ap is_some (program_of-none c.args.source.now (c.in-Err-Refused.ensures.refused c.in-Err-Refused.field-0-is))
