-- The values are joined as the view has it.
use Rattle.std.proofs.Common.{◌∙◌, ℕ, List, ap, map, refl, subst, sym}
use Rattle.json_terms.specs.Seen.{json}
use Rattle.child_pool.specs.declared.view_sum.ViewSum.TheVariants.{Child}
use Rattle.child_pool.specs.ReduceTalk.{Rejoins, reduce_source}
use Rattle.child_pool.specs.SummerLaws.{summers_steps}
use Rattle.child_pool.proofs.ViewJoins.{has_source, join_builtin, join_source, no_memory, source_fails, source_goes}
use Rattle.child_pool.specs.Summers.{reduce_of}
use Rattle.child_pool.proofs.summers.SummersSummer.join.Goals as goal

pub returns-in_default-clause-cause : goal.returns-in_default-clause-cause
returns-in_default-clause-cause g c = record {
  design = refl;
  view = refl;
  slot = c.spend.ensures.fails c.args.self.now.design.now.language (reduce_source (reduce_of g.C.Servers c.args.self.now));
  given_up = λ some. c.spend.ensures.stage;
  idle = λ none. absurd (has_source (reduce_of g.C.Servers c.args.self.now) c.in-Some-Source.source (sym c.in-Some-Source.ensures ∙ c.in-Some-Source.field-0-is) none);
}

pub returns-in-Ok-rereduce-clause-value : goal.returns-in-Ok-rereduce-clause-value
returns-in-Ok-rereduce-clause-value g c =
    let sums = c.as_slice.result.now in
    let right = c.in-Ok-rereduce.ensures.right in
    let here = subst (λ (l : List ℕ). Rejoins g.C.Servers l c.in-Some-Source.source c.args.self.now.slot sums (json c.in-Ok-rereduce.value)) c.as_str-language.ensures
    (subst (λ (t : List ℕ). Rejoins g.C.Servers c.as_str-language.result.now t c.args.self.now.slot sums (json c.in-Ok-rereduce.value)) c.as_str.ensures right) in
    rw c.of.ensures
    (join_source g.C.Servers c.args.self.now.design.now.language c.args.self.now.slot _ c.in-Some-Source.source c.args.parts.now sums (json c.in-Ok-rereduce.value) (sym c.in-Some-Source.ensures ∙ c.in-Some-Source.field-0-is)
    (ap (map Child) c.as_slice.ensures.value ∙ c.in-Ok.ensures) here)

pub returns-in-Ok-rereduce-clause-goes : goal.returns-in-Ok-rereduce-clause-goes
returns-in-Ok-rereduce-clause-goes g c = source_goes g.C.Servers c.args.self.now _ c.in-Some-Source.source c.as_str-language.result.now c.as_str.result.now (sym c.in-Some-Source.ensures ∙ c.in-Some-Source.field-0-is) refl refl c.as_str-language.ensures c.as_str.ensures c.in-Ok-rereduce.ensures.talks

pub returns-in-Some-Source-clause-cause : goal.returns-in-Some-Source-clause-cause
returns-in-Some-Source-clause-cause g c = source_fails g.C.Servers c.args.self.now _ c.in-Some-Source.source c.as_str-language.result.now c.as_str.result.now c.in-Err.fault (sym c.in-Some-Source.ensures ∙ c.in-Some-Source.field-0-is) refl refl c.as_str-language.ensures c.as_str.ensures c.in-Err.ensures.cause c.in-Err.ensures.stage

pub returns-in-Ok-join_builtins-clause-value : goal.returns-in-Ok-join_builtins-clause-value
returns-in-Ok-join_builtins-clause-value g c =
    join_builtin g.C.Servers c.args.self.now.design.now.language c.args.self.now.slot _ c.in-Some-Builtin.kind c.args.parts.now c.in-Ok-join_builtins.sum (sym c.in-Some-Builtin.ensures ∙ c.in-Some-Builtin.field-0-is) c.in-Ok-join_builtins.ensures.value

pub returns-in-Some-Builtin-clause-cause : goal.returns-in-Some-Builtin-clause-cause
returns-in-Some-Builtin-clause-cause g c = no_memory g.C.Servers c.args.self.now (ap reduce_source (sym c.in-Some-Builtin.ensures ∙ c.in-Some-Builtin.field-0-is))

pub returns-in-Ok-join_builtins-clause-goes : goal.returns-in-Ok-join_builtins-clause-goes
returns-in-Ok-join_builtins-clause-goes g c = (summers_steps g.C.Servers).none c.args.self.now

pub returns-clause-goes : goal.returns-clause-goes
returns-clause-goes g c = (summers_steps g.C.Servers).none c.args.self.now
