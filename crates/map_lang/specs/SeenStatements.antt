-- The data that a `Statement` of the code is.
use Rattle.map_lang.specs.declared.syntax.Statement.{Statement}
use Rattle.map_lang.specs.declared.syntax.Statement.TheVariants.{Emit, If, For}
use Rattle.map_lang.specs.Syntax.{Stmt, emit, when, each, stmts_of}
use Rattle.map_lang.specs.SeenExpressions.{expr_of}

abbrev pub stmt_of : Statement → Stmt
stmt_of (Emit key value) = emit (expr_of key) (expr_of value)
stmt_of (If left right block) = when (expr_of left) (expr_of right) (stmts_of block)
stmt_of (For name source block) = each name (expr_of source) (stmts_of block)
