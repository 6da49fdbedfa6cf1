-- The rows are reduced as the view has it.
use Rattle.std.proofs.Common.{◌∙◌, ap, refl, sym}
use Rattle.child_pool.specs.ReduceTalk.{reduce_source}
use Rattle.child_pool.specs.SummerLaws.{summers_steps}
use Rattle.child_pool.proofs.ViewJoins.{no_memory, source_fails, source_goes}
use Rattle.child_pool.proofs.summers.SummersSummer.leaf.Goals as goal

pub returns-in-Ok-clause-goes : goal.returns-in-Ok-clause-goes
returns-in-Ok-clause-goes g c = source_goes g.C.Servers c.args.self.now _ c.in-Some-Source.source c.as_str-language.result.now c.as_str.result.now (sym c.in-Some-Source.ensures ∙ c.in-Some-Source.field-0-is) refl refl c.as_str-language.ensures c.as_str.ensures c.in-Ok.ensures.talks

pub returns-in-Err-clause-cause : goal.returns-in-Err-clause-cause
returns-in-Err-clause-cause g c = source_fails g.C.Servers c.args.self.now _ c.in-Some-Source.source c.as_str-language.result.now c.as_str.result.now c.in-Err.fault (sym c.in-Some-Source.ensures ∙ c.in-Some-Source.field-0-is) refl refl c.as_str-language.ensures c.as_str.ensures c.in-Err.ensures.cause c.in-Err.ensures.stage

pub returns-in-Err-leaf-clause-cause : goal.returns-in-Err-leaf-clause-cause
returns-in-Err-leaf-clause-cause g c = no_memory g.C.Servers c.args.self.now (ap reduce_source (sym c.in-Some-Builtin.ensures ∙ c.in-Some-Builtin.field-0-is))

pub returns-in-Ok-leaf-clause-goes : goal.returns-in-Ok-leaf-clause-goes
returns-in-Ok-leaf-clause-goes g c = (summers_steps g.C.Servers).none c.args.self.now

pub returns-in-Some-Absent-clause-goes : goal.returns-in-Some-Absent-clause-goes
returns-in-Some-Absent-clause-goes g c = (summers_steps g.C.Servers).none c.args.self.now
