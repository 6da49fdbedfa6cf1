-- Each part of an array nests less deep than the array.
use Rattle.std.specs.Prelude.{◌≤◌, suc, List, [], ◌∷◌, map}
use Rattle.std.proofs.Common.{arith}
use denote.Param.Weighed.{most}
use Rattle.map_lang.specs.declared.syntax.Expression.{Expression}
use Rattle.map_lang.specs.declared.syntax.Expression.TheVariants.{Path, Literal, Array}
use Rattle.map_lang.specs.declared.syntax.Expressions.TheDeep.{deep-Expression}
use Rattle.map_lang.specs.Syntax.{nesting, exprs_of, exprs_nesting}
use Rattle.map_lang.specs.SeenExpressions.{expr_of}

deep_le-nesting : (e : Expression) → deep-Expression e ≤ suc (nesting (expr_of e))
deep_le-nesting (Path name steps) = omega arith
deep_le-nesting (Literal l) = omega arith
deep_le-nesting (Array es) = omega arith

pub most_le-exprs_nesting : (es : List Expression) → most deep-Expression es ≤ suc (exprs_nesting (exprs_of (map expr_of es)))
most_le-exprs_nesting [] = omega arith
most_le-exprs_nesting (e ∷ es) = omega (arith, deep_le-nesting e, most_le-exprs_nesting es)
