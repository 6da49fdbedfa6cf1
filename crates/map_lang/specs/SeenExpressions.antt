-- The data that an `Expression` of the code is.
use Rattle.map_lang.specs.declared.syntax.Expression.{Expression}
use Rattle.map_lang.specs.declared.syntax.Expression.TheVariants.{Path, Literal, Array}
use Rattle.map_lang.specs.Syntax.{Expr, path, literal, array, exprs_of}

abbrev pub expr_of : Expression → Expr
expr_of (Path name steps) = path name steps.items
expr_of (Literal l) = literal l
expr_of (Array es) = array (exprs_of es)
