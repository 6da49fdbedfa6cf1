-- What is read from the front of a list of tokens. For private clauses.
use Rattle.std.specs.Prelude.{◌≡◌, ℕ, ◌≤◌, List, [], ◌∷◌, Bool, true, false, Option, Some, None}
use Rattle.json_terms.specs.declared.term.Chars.{Chars}
use Rattle.map_lang.specs.declared.token.Mark as marks
use Rattle.map_lang.specs.declared.token.Keyword.{Keyword}
use Rattle.map_lang.specs.Tokens.{keyword_of}
use Rattle.map_lang.specs.declared.token.Token.{Token}
use Rattle.map_lang.specs.declared.token.Token.TheVariants.{Word, Integer, Text, Mark}
use Rattle.map_lang.specs.declared.token.Mark.TheVariants.{Comma, Equals, Dot, OpenBrace, CloseBrace, OpenBracket, CloseBracket}
use Rattle.map_lang.specs.declared.syntax.Step.{Step}
use Rattle.map_lang.specs.Syntax.{Expr, path, literal, array, Exprs, Stmt, emit, when, each, Stmts, nesting, exprs_nesting, stmt_nesting, stmts_nesting}
use Rattle.map_lang.specs.Grammar.{word, steps_before, expr_before, exprs_before, stmt_before, stmts_before, IsScoped, AreScoped, IsScopedStmt, AreScopedStmts}

-- a step begins here
abbrev pub begins_step : List Token → Bool
begins_step [] = false
begins_step (Word w ∷ ts) = false
begins_step (Integer n ∷ ts) = false
begins_step (Text t ∷ ts) = false
begins_step (Mark Comma ∷ ts) = false
begins_step (Mark Equals ∷ ts) = false
begins_step (Mark Dot ∷ ts) = true
begins_step (Mark OpenBrace ∷ ts) = false
begins_step (Mark CloseBrace ∷ ts) = false
begins_step (Mark OpenBracket ∷ ts) = true
begins_step (Mark CloseBracket ∷ ts) = false

-- a block ends here: at its closing brace, or with the source
abbrev pub ends_block : List Token → Bool
ends_block [] = true
ends_block (Word w ∷ ts) = false
ends_block (Integer n ∷ ts) = false
ends_block (Text t ∷ ts) = false
ends_block (Mark Comma ∷ ts) = false
ends_block (Mark Equals ∷ ts) = false
ends_block (Mark Dot ∷ ts) = false
ends_block (Mark OpenBrace ∷ ts) = false
ends_block (Mark CloseBrace ∷ ts) = true
ends_block (Mark OpenBracket ∷ ts) = false
ends_block (Mark CloseBracket ∷ ts) = false

-- a path takes each step that follows
abbrev pub EndsExpr : Expr → List Token → Type 0
EndsExpr (path name steps) rest = begins_step rest ≡ false
EndsExpr (literal l) rest = Unit {0}
EndsExpr (array es) rest = Unit {0}

abbrev pub EndsStmt : Stmt → List Token → Type 0
EndsStmt (emit key value) rest = EndsExpr value rest
EndsStmt (when left right block) rest = Unit {0}
EndsStmt (each name source block) rest = Unit {0}

pub record ReadsSteps (tokens : List Token) (steps : List Step) (rest : List Token) : Type 0 where
  pub spelled : tokens ≡ steps_before steps rest
  pub ends : begins_step rest ≡ false

pub record ReadsExpr (bound : List (List ℕ)) (room : ℕ) (tokens : List Token) (e : Expr) (rest : List Token) : Type 0 where
  pub spelled : tokens ≡ expr_before e rest
  pub ends : EndsExpr e rest
  pub scoped : IsScoped bound e
  pub nests : nesting e ≤ room

-- the parts of an array, and its closing bracket
pub record ReadsExprs (bound : List (List ℕ)) (room : ℕ) (tokens : List Token) (es : Exprs) (rest : List Token) : Type 0 where
  pub spelled : tokens ≡ exprs_before es rest
  pub scoped : AreScoped bound es
  pub nests : exprs_nesting es ≤ room

pub record ReadsStmt (bound : List (List ℕ)) (room : ℕ) (tokens : List Token) (s : Stmt) (rest : List Token) : Type 0 where
  pub spelled : tokens ≡ stmt_before s rest
  pub ends : EndsStmt s rest
  pub scoped : IsScopedStmt bound s
  pub nests : stmt_nesting s ≤ room

pub record ReadsStmts (bound : List (List ℕ)) (room : ℕ) (tokens : List Token) (ss : Stmts) (rest : List Token) : Type 0 where
  pub spelled : tokens ≡ stmts_before ss rest
  pub ends : ends_block rest ≡ true
  pub scoped : AreScopedStmts bound ss
  pub nests : stmts_nesting ss ≤ room

-- a block in braces
pub record ReadsBlock (bound : List (List ℕ)) (room : ℕ) (tokens : List Token) (ss : Stmts) (rest : List Token) : Type 0 where
  pub spelled : tokens ≡ Mark OpenBrace ∷ stmts_before ss (Mark CloseBrace ∷ rest)
  pub scoped : AreScopedStmts bound ss
  pub nests : stmts_nesting ss ≤ room

-- the mark that stands first
abbrev pub first_mark : List Token → Option marks.Mark
first_mark [] = None
first_mark (Word w ∷ ts) = None
first_mark (Integer n ∷ ts) = None
first_mark (Text t ∷ ts) = None
first_mark (Mark m ∷ ts) = Some m

-- the mark is taken from the front, or it doesn't stand there and nothing is
abbrev pub TakesIf : marks.Mark → Bool → List Token → List Token → Type 0
TakesIf mark true old new = old ≡ Mark mark ∷ new
TakesIf mark false old new = (new ≡ old) × ((rest : List Token) → old ≡ Mark mark ∷ rest → ⊥)

-- the keyword that stands first
abbrev pub first_keyword : List Token → Option Keyword
first_keyword [] = None
first_keyword (Word w ∷ ts) = keyword_of w
first_keyword (Integer n ∷ ts) = None
first_keyword (Text t ∷ ts) = None
first_keyword (Mark m ∷ ts) = None

abbrev pub TakesKeywordIf : Keyword → Bool → List Token → List Token → Type 0
TakesKeywordIf k true old new = old ≡ word k ∷ new
TakesKeywordIf k false old new = (new ≡ old) × ((rest : List Token) → old ≡ word k ∷ rest → ⊥)

abbrev pub TakesName : Option Chars → List Token → List Token → Type 0
TakesName None old new = (name : List ℕ) (rest : List Token) → keyword_of name ≡ None → old ≡ Word name ∷ rest → ⊥
TakesName (Some name) old new = (keyword_of name ≡ None) × (old ≡ Word name ∷ new)
