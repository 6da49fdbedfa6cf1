-- The grammar: the tokens of each form, and which programs there are. `f x rest` are the tokens of x, and then the rest.
use Rattle.std.specs.Prelude.{◌≡◌, ℕ, ◌≤◌, List, [], ◌∷◌, ◌++◌, Bool, true, false, ◌||◌, None, codes, bytes_eq}
use Rattle.map_lang.specs.declared.token.Token.{Token}
use Rattle.map_lang.specs.declared.token.Token.TheVariants.{Word, Integer, Text, Mark}
use Rattle.map_lang.specs.declared.token.Mark.TheVariants.{Comma, Equals, Dot, OpenBrace, CloseBrace, OpenBracket, CloseBracket}
use Rattle.map_lang.specs.declared.token.Keyword.{Keyword}
use Rattle.map_lang.specs.declared.token.Keyword.TheVariants as keyword
use Rattle.map_lang.specs.declared.syntax.Step.{Step}
use Rattle.map_lang.specs.declared.syntax.Step.TheVariants.{Member, Element, Key}
use Rattle.map_lang.specs.declared.syntax.Literal.{Literal}
use Rattle.map_lang.specs.declared.syntax.Literal.TheVariants as value
use Rattle.map_lang.specs.Syntax.{Expr, path, literal, array, Exprs, no_exprs, expr, Stmt, emit, when, each, Stmts, no_stmts, stmt, stmts_nesting}
use Rattle.map_lang.specs.Tokens.{spelling, keyword_of, AreTokens}

abbrev pub word : Keyword → Token
word k = Word (spelling k)

abbrev pub literal_token : Literal → Token
literal_token (value.Integer n) = Integer n
literal_token (value.Text t) = Text t
literal_token value.True = word keyword.True
literal_token value.False = word keyword.False
literal_token value.Null = word keyword.Null

abbrev pub step_before : Step → List Token → List Token
step_before (Member name) rest = Mark Dot ∷ Word name ∷ rest
step_before (Element n) rest = Mark OpenBracket ∷ Integer n ∷ Mark CloseBracket ∷ rest
step_before (Key name) rest = Mark OpenBracket ∷ Text name ∷ Mark CloseBracket ∷ rest

abbrev pub steps_before : List Step → List Token → List Token
steps_before [] rest = rest
steps_before (s ∷ ss) rest = step_before s (steps_before ss rest)

abbrev mutual
  pub expr_before : Expr → List Token → List Token
  expr_before (path name steps) rest = Word name ∷ steps_before steps rest
  expr_before (literal l) rest = literal_token l ∷ rest
  expr_before (array es) rest = Mark OpenBracket ∷ exprs_before es rest

  -- the parts of an array, and its closing bracket
  pub exprs_before : Exprs → List Token → List Token
  exprs_before no_exprs rest = Mark CloseBracket ∷ rest
  exprs_before (expr e es) rest = expr_before e (more_before es rest)

  -- the parts behind the first
  pub more_before : Exprs → List Token → List Token
  more_before no_exprs rest = Mark CloseBracket ∷ rest
  more_before (expr e es) rest = Mark Comma ∷ expr_before e (more_before es rest)

abbrev mutual
  pub stmt_before : Stmt → List Token → List Token
  stmt_before (emit key value) rest = word keyword.Emit ∷ expr_before key (Mark Comma ∷ expr_before value rest)
  stmt_before (when left right block) rest = word keyword.If ∷ expr_before left (Mark Equals ∷ expr_before right (Mark OpenBrace ∷ stmts_before block (Mark CloseBrace ∷ rest)))
  stmt_before (each name source block) rest = word keyword.For ∷ Word name ∷ word keyword.In ∷ expr_before source (Mark OpenBrace ∷ stmts_before block (Mark CloseBrace ∷ rest))

  pub stmts_before : Stmts → List Token → List Token
  stmts_before no_stmts rest = rest
  stmts_before (stmt s ss) rest = stmt_before s (stmts_before ss rest)

abbrev pub tokens_of : Stmts → List Token
tokens_of program = stmts_before program []

-- the name is among these
abbrev pub is_among : List ℕ → List (List ℕ) → Bool
is_among name [] = false
is_among name (n ∷ ns) = bytes_eq n name || is_among name ns

-- Each variable is among the names that are bound, and no keyword.
abbrev mutual
  pub IsScoped : List (List ℕ) → Expr → Type 0
  IsScoped bound (path name steps) = (keyword_of name ≡ None) × (is_among name bound ≡ true)
  IsScoped bound (literal l) = Unit {0}
  IsScoped bound (array es) = AreScoped bound es

  pub AreScoped : List (List ℕ) → Exprs → Type 0
  AreScoped bound no_exprs = Unit {0}
  AreScoped bound (expr e es) = IsScoped bound e × AreScoped bound es

-- A `for` binds a name that isn't bound and is no keyword, in its block alone.
abbrev mutual
  pub IsScopedStmt : List (List ℕ) → Stmt → Type 0
  IsScopedStmt bound (emit key value) = IsScoped bound key × IsScoped bound value
  IsScopedStmt bound (when left right block) = IsScoped bound left × IsScoped bound right × AreScopedStmts bound block
  IsScopedStmt bound (each name source block) =
      (keyword_of name ≡ None) × (is_among name bound ≡ false) × IsScoped bound source × AreScopedStmts (bound ++ name ∷ []) block

  pub AreScopedStmts : List (List ℕ) → Stmts → Type 0
  AreScopedStmts bound no_stmts = Unit {0}
  AreScopedStmts bound (stmt s ss) = IsScopedStmt bound s × AreScopedStmts bound ss

-- the name that the document has in each program
abbrev pub document_name : List ℕ
document_name = codes "doc"

-- how deep blocks and arrays may nest
abbrev pub nesting_limit : ℕ
nesting_limit = 16

-- The source compiles as this program.
pub record Compiles (source : List ℕ) (program : Stmts) : Type 0 where
  pub tokens : AreTokens source (tokens_of program)
  pub scoped : AreScopedStmts (document_name ∷ []) program
  pub nests : stmts_nesting program ≤ nesting_limit
