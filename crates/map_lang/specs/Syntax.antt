-- Programs as data: statements, expressions, and the steps of paths.
use Rattle.std.specs.Prelude.{ℕ, suc, max, List, [], ◌∷◌}
use Rattle.map_lang.specs.declared.syntax.Step.{Step}
use Rattle.map_lang.specs.declared.syntax.Literal.{Literal}

mutual
  pub data Expr : Type 0 where
    path : List ℕ → List Step → Expr
    literal : Literal → Expr
    array : Exprs → Expr

  pub data Exprs : Type 0 where
    no_exprs : Exprs
    expr : Expr → Exprs → Exprs

mutual
  pub data Stmt : Type 0 where
    emit : Expr → Expr → Stmt
    when : Expr → Expr → Stmts → Stmt
    each : List ℕ → Expr → Stmts → Stmt

  pub data Stmts : Type 0 where
    no_stmts : Stmts
    stmt : Stmt → Stmts → Stmts

-- the parts of an array, from their list
abbrev pub exprs_of : List Expr → Exprs
exprs_of [] = no_exprs
exprs_of (e ∷ es) = expr e (exprs_of es)

-- the statements of a block, from their list
abbrev pub stmts_of : List Stmt → Stmts
stmts_of [] = no_stmts
stmts_of (s ∷ ss) = stmt s (stmts_of ss)

-- how deep arrays nest: one more than their deepest part
abbrev mutual
  pub nesting : Expr → ℕ
  nesting (path name steps) = 0
  nesting (literal l) = 0
  nesting (array es) = suc (exprs_nesting es)

  pub exprs_nesting : Exprs → ℕ
  exprs_nesting no_exprs = 0
  exprs_nesting (expr e es) = max (nesting e) (exprs_nesting es)

-- how deep blocks and arrays nest together; the sides of an `if` and the array of a `for` stand outside the block
abbrev mutual
  pub stmt_nesting : Stmt → ℕ
  stmt_nesting (emit key value) = max (nesting key) (nesting value)
  stmt_nesting (when left right block) = max (max (nesting left) (nesting right)) (suc (stmts_nesting block))
  stmt_nesting (each name source block) = max (nesting source) (suc (stmts_nesting block))

  pub stmts_nesting : Stmts → ℕ
  stmts_nesting no_stmts = 0
  stmts_nesting (stmt s ss) = max (stmt_nesting s) (stmts_nesting ss)
