-- The values so far, and those of the parts that are left.
use Rattle.std.proofs.Common.{◌≡◌, ◌+◌, ◌*◌, ◌++◌, map, drop, option_map}
use Rattle.map_lang.specs.Syntax.{nesting, exprs_of, exprs_nesting}
use Rattle.map_lang.specs.SeenExpressions.{expr_of}
use Rattle.map_lang.specs.Meaning.{values_of}
use Rattle.map_lang.specs.Bound.{scope_of}
use Rattle.map_lang.proofs.value.+evaluate.Given as goal

abbrev pub decreases-evaluate : goal.decreases-evaluate
decreases-evaluate l = 2 * nesting (expr_of l.expression.now)

abbrev pub decreases-evaluate_all : goal.decreases-evaluate_all
decreases-evaluate_all l = 2 * exprs_nesting (exprs_of (map expr_of l.parts.now)) + 1

abbrev pub invariant-evaluate_all-loop-part : goal.invariant-evaluate_all-loop-part
invariant-evaluate_all-loop-part l =
    values_of (scope_of l.document l.bound) (exprs_of (map expr_of l.parts))
    ≡ option_map (λ ts. l.terms ++ ts) (values_of (scope_of l.document l.bound) (exprs_of (map expr_of (drop l.part-index l.parts))))
