use Rattle.std.proofs.Common.{◌≡◌, Some, None, IsUtf8, cond, is_some, subst, sym, ap}
use Rattle.map_server.specs.Programs.{program_of, program_of-complete, program_of-none}
use Rattle.map_server.proofs.map_function.MapFunction.compile.Goals as goal

pub invariant_of-result : goal.invariant_of-result
invariant_of-result c =
    let utf8 : IsUtf8 c.args.source = subst IsUtf8 c.as_str.ensures c.as_str.utf8 in
    let found = rw c.as_str.ensures at c.in-Ok.ensures.found in
    record { compiled = program_of-complete c.args.source c.in-Ok.program utf8 found }

pub returns-in-Err-Refused : goal.returns-in-Err-Refused
returns-in-Err-Refused c =
    let refused = rw c.as_str.ensures at (c.in-Err-Refused.ensures.refused c.in-Err-Refused.field-0-is) in
    let none : program_of c.args.source ≡ None = program_of-none c.args.source refused in
    ap (λ o. cond (is_some o) (Some c.args.source) None) (sym none)
