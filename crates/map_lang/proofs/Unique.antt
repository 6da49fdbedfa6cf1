-- Tokens are read in one way.
use Rattle.std.specs.Prelude.{◌≡◌, ℕ, List, [], ◌∷◌, ◌++◌, true, false, Option, Some, None, refl}
use Rattle.std.proofs.Common.{◌∙◌, sym, ap, subst}
use Rattle.map_lang.specs.declared.token.Token.{Token}
use Rattle.map_lang.specs.declared.token.Token.TheVariants.{Word, Integer, Text, Mark}
use Rattle.map_lang.specs.declared.token.Mark.TheVariants.{Comma, Equals, Dot, OpenBrace, CloseBrace, OpenBracket, CloseBracket}
use Rattle.map_lang.specs.declared.token.Keyword.{Keyword}
use Rattle.map_lang.specs.declared.token.Keyword.TheVariants as keyword
use Rattle.map_lang.specs.declared.syntax.Step.{Step}
use Rattle.map_lang.specs.declared.syntax.Step.TheVariants.{Member, Element, Key}
use Rattle.map_lang.specs.declared.syntax.Literal.{Literal}
use Rattle.map_lang.specs.declared.syntax.Literal.TheVariants as value
use Rattle.map_lang.specs.Syntax.{Expr, path, literal, array, Exprs, no_exprs, expr, Stmt, emit, when, each, Stmts, no_stmts, stmt}
use Rattle.map_lang.specs.Tokens.{spelling, keyword_of}
use Rattle.map_lang.specs.Grammar.{literal_token, step_before, steps_before, expr_before, exprs_before, more_before, stmt_before, stmts_before, IsScoped, AreScoped, IsScopedStmt, AreScopedStmts}
use Rattle.map_lang.specs.Readings.{begins_step, ends_block, EndsExpr, EndsStmt}

-- the keyword that a token is
abbrev pub keyword_at : Token → Option Keyword
keyword_at (Word w) = keyword_of w
keyword_at (Integer n) = None
keyword_at (Text t) = None
keyword_at (Mark m) = None

-- the first token, or else a mark
abbrev pub first : List Token → Token
first [] = Mark Comma
first (t ∷ ts) = t

abbrev pub behind : List Token → List Token
behind [] = []
behind (t ∷ ts) = ts

abbrev front : List Token → Option Keyword
front ts = keyword_at (first ts)

literal_unique : (l m : Literal) → literal_token l ≡ literal_token m → l ≡ m
literal_unique value.True value.True e = refl
literal_unique value.False value.False e = refl
literal_unique value.Null value.Null e = refl
literal_unique value.True value.False e = let k : Some keyword.True ≡ Some keyword.False = ap keyword_at e in cc
literal_unique value.True value.Null e = let k : Some keyword.True ≡ Some keyword.Null = ap keyword_at e in cc
literal_unique value.False value.True e = let k : Some keyword.False ≡ Some keyword.True = ap keyword_at e in cc
literal_unique value.False value.Null e = let k : Some keyword.False ≡ Some keyword.Null = ap keyword_at e in cc
literal_unique value.Null value.True e = let k : Some keyword.Null ≡ Some keyword.True = ap keyword_at e in cc
literal_unique value.Null value.False e = let k : Some keyword.Null ≡ Some keyword.False = ap keyword_at e in cc
literal_unique (value.Integer a) (value.Integer b) e = let s : a ≡ b = cc in ap value.Integer s
literal_unique (value.Text a) (value.Text b) e = let s : a ≡ b = cc in ap value.Text s
literal_unique (value.Integer a) m e = cc
literal_unique (value.Text a) m e = cc
literal_unique l m e = cc

pub path_not_literal : (n : List ℕ) (l : Literal) (x y : List Token) → Word n ∷ x ≡ literal_token l ∷ y → keyword_of n ≡ None → ⊥
path_not_literal n (value.Integer m) x y e k = cc
path_not_literal n (value.Text t) x y e k = cc
path_not_literal n value.True x y e k = let f : keyword_of n ≡ Some keyword.True = ap front e in cc
path_not_literal n value.False x y e k = let f : keyword_of n ≡ Some keyword.False = ap front e in cc
path_not_literal n value.Null x y e k = let f : keyword_of n ≡ Some keyword.Null = ap front e in cc

pub literal_not_mark : (l : Literal) (m : _) (x y : List Token) → literal_token l ∷ x ≡ Mark m ∷ y → ⊥
literal_not_mark (value.Integer n) m x y e = cc
literal_not_mark (value.Text t) m x y e = cc
literal_not_mark value.True m x y e = cc
literal_not_mark value.False m x y e = cc
literal_not_mark value.Null m x y e = cc

pub step_begins : (s : Step) (x : List Token) → begins_step (step_before s x) ≡ true
step_begins (Member n) x = refl
step_begins (Element n) x = refl
step_begins (Key n) x = refl

pub step_unique : (s t : Step) (r q : List Token) → step_before s r ≡ step_before t q → (s ≡ t) × (r ≡ q)
step_unique (Member m) (Member n) r q e = (cc, cc)
step_unique (Element m) (Element n) r q e = (cc, cc)
step_unique (Key m) (Key n) r q e = (cc, cc)
step_unique s t r q e = (cc, cc)

pub steps_unique : (ss ts : List Step) (r q : List Token) → steps_before ss r ≡ steps_before ts q → begins_step r ≡ false → begins_step q ≡ false → (ss ≡ ts) × (r ≡ q)
steps_unique [] [] r q e er eq = (refl, e)
steps_unique [] (t ∷ ts) r q e er eq = let h : begins_step r ≡ true = ap begins_step e ∙ step_begins t (steps_before ts q) in (cc, cc)
steps_unique (s ∷ ss) [] r q e er eq = let h : begins_step q ≡ true = ap begins_step (sym e) ∙ step_begins s (steps_before ss r) in (cc, cc)
steps_unique (s ∷ ss) (t ∷ ts) r q e er eq =
    let one = step_unique s t (steps_before ss r) (steps_before ts q) e in
    let rest = steps_unique ss ts r q one.1 er eq in
    let a = one.0 in
    let b = rest.0 in
    (cc, rest.1)

pub ends_at : (e : Expr) (ts : List Token) → begins_step ts ≡ false → EndsExpr e ts
ends_at (path n ss) ts h = h
ends_at (literal l) ts h = tt
ends_at (array es) ts h = tt

more_no_step : (es : Exprs) (r : List Token) → begins_step (more_before es r) ≡ false
more_no_step no_exprs r = refl
more_no_step (expr e es) r = refl

pub ends_more : (e : Expr) (es : Exprs) (r : List Token) → EndsExpr e (more_before es r)
ends_more e es r = ends_at e (more_before es r) (more_no_step es r)

pub expr_not_close : (e : Expr) (x y : List Token) → expr_before e x ≡ Mark CloseBracket ∷ y → ⊥
expr_not_close (path n ss) x y h = cc
expr_not_close (literal l) x y h = literal_not_mark l CloseBracket x y h
expr_not_close (array es) x y h = cc

mutual
  pub expr_unique : (b : List (List ℕ)) (e f : Expr) (r q : List Token) → expr_before e r ≡ expr_before f q → EndsExpr e r → EndsExpr f q → IsScoped b e → IsScoped b f → (e ≡ f) × (r ≡ q)
  expr_unique b (path m ss) (path n ts) r q h er eq se sf =
      let tail : steps_before ss r ≡ steps_before ts q = ap behind h in
      let rest = steps_unique ss ts r q tail er eq in
      let steps = rest.0 in
      (cc, rest.1)
  expr_unique b (path m ss) (literal l) r q h er eq se sf = absurd (path_not_literal m l (steps_before ss r) q h se.0)
  expr_unique b (path m ss) (array fs) r q h er eq se sf = (cc, cc)
  expr_unique b (literal l) (path n ts) r q h er eq se sf = absurd (path_not_literal n l (steps_before ts q) r (sym h) sf.0)
  expr_unique b (literal l) (literal m) r q h er eq se sf =
      let same = literal_unique l m (ap first h) in
      (ap literal same, ap behind h)
  expr_unique b (literal l) (array fs) r q h er eq se sf = absurd (literal_not_mark l OpenBracket r (exprs_before fs q) h)
  expr_unique b (array es) (path n ts) r q h er eq se sf = (cc, cc)
  expr_unique b (array es) (literal m) r q h er eq se sf = absurd (literal_not_mark m OpenBracket q (exprs_before es r) (sym h))
  expr_unique b (array es) (array fs) r q h er eq se sf =
      let rest = exprs_unique b es fs r q (ap behind h) se sf in
      (ap array rest.0, rest.1)

  pub exprs_unique : (b : List (List ℕ)) (es fs : Exprs) (r q : List Token) → exprs_before es r ≡ exprs_before fs q → AreScoped b es → AreScoped b fs → (es ≡ fs) × (r ≡ q)
  exprs_unique b no_exprs no_exprs r q h se sf = (refl, ap behind h)
  exprs_unique b no_exprs (expr f fs) r q h se sf = absurd (expr_not_close f (more_before fs q) r (sym h))
  exprs_unique b (expr e es) no_exprs r q h se sf = absurd (expr_not_close e (more_before es r) q h)
  exprs_unique b (expr e es) (expr f fs) r q h se sf =
      let one = expr_unique b e f (more_before es r) (more_before fs q) h (ends_more e es r) (ends_more f fs q) se.0 sf.0 in
      let rest = more_unique b es fs r q one.1 se.1 sf.1 in
      let x = one.0 in
      let y = rest.0 in
      (cc, rest.1)

  pub more_unique : (b : List (List ℕ)) (es fs : Exprs) (r q : List Token) → more_before es r ≡ more_before fs q → AreScoped b es → AreScoped b fs → (es ≡ fs) × (r ≡ q)
  more_unique b no_exprs no_exprs r q h se sf = (refl, ap behind h)
  more_unique b no_exprs (expr f fs) r q h se sf = (cc, cc)
  more_unique b (expr e es) no_exprs r q h se sf = (cc, cc)
  more_unique b (expr e es) (expr f fs) r q h se sf =
      let one = expr_unique b e f (more_before es r) (more_before fs q) (ap behind h) (ends_more e es r) (ends_more f fs q) se.0 sf.0 in
      let rest = more_unique b es fs r q one.1 se.1 sf.1 in
      let x = one.0 in
      let y = rest.0 in
      (cc, rest.1)

pub end_no_step : (ts : List Token) → ends_block ts ≡ true → begins_step ts ≡ false
end_no_step [] h = refl
end_no_step (Word w ∷ ts) h = refl
end_no_step (Integer n ∷ ts) h = refl
end_no_step (Text t ∷ ts) h = refl
end_no_step (Mark Comma ∷ ts) h = refl
end_no_step (Mark Equals ∷ ts) h = refl
end_no_step (Mark Dot ∷ ts) h = cc
end_no_step (Mark OpenBrace ∷ ts) h = refl
end_no_step (Mark CloseBrace ∷ ts) h = refl
end_no_step (Mark OpenBracket ∷ ts) h = cc
end_no_step (Mark CloseBracket ∷ ts) h = refl

pub stmt_no_end : (s : Stmt) (x : List Token) → ends_block (stmt_before s x) ≡ false
stmt_no_end (emit k v) x = refl
stmt_no_end (when a c ss) x = refl
stmt_no_end (each n e ss) x = refl

stmts_no_step : (ss : Stmts) (r : List Token) → ends_block r ≡ true → begins_step (stmts_before ss r) ≡ false
stmts_no_step no_stmts r h = end_no_step r h
stmts_no_step (stmt (emit k v) ss) r h = refl
stmts_no_step (stmt (when a c bs) ss) r h = refl
stmts_no_step (stmt (each n e bs) ss) r h = refl

pub ends_stmts : (s : Stmt) (ss : Stmts) (r : List Token) → ends_block r ≡ true → EndsStmt s (stmts_before ss r)
ends_stmts (emit k v) ss r h = ends_at v (stmts_before ss r) (stmts_no_step ss r h)
ends_stmts (when a c bs) ss r h = tt
ends_stmts (each n e bs) ss r h = tt

mutual
  pub stmt_unique : (b : List (List ℕ)) (s t : Stmt) (r q : List Token) → stmt_before s r ≡ stmt_before t q → EndsStmt s r → EndsStmt t q → IsScopedStmt b s → IsScopedStmt b t → (s ≡ t) × (r ≡ q)
  stmt_unique b (emit k v) (emit l w) r q h er eq ss st =
      let keys = expr_unique b k l (Mark Comma ∷ expr_before v r) (Mark Comma ∷ expr_before w q) (ap behind h) (ends_at k _ refl) (ends_at l _ refl) ss.0 st.0 in
      let values = expr_unique b v w r q (ap behind keys.1) er eq ss.1 st.1 in
      let x = keys.0 in
      let y = values.0 in
      (cc, values.1)
  stmt_unique b (when a c ss) (when d e ts) r q h er eq sa sb =
      let left = expr_unique b a d (Mark Equals ∷ expr_before c (Mark OpenBrace ∷ stmts_before ss (Mark CloseBrace ∷ r))) (Mark Equals ∷ expr_before e (Mark OpenBrace ∷ stmts_before ts (Mark CloseBrace ∷ q))) (ap behind h) (ends_at a _ refl) (ends_at d _ refl) sa.0 sb.0 in
      let right = expr_unique b c e (Mark OpenBrace ∷ stmts_before ss (Mark CloseBrace ∷ r)) (Mark OpenBrace ∷ stmts_before ts (Mark CloseBrace ∷ q)) (ap behind left.1) (ends_at c _ refl) (ends_at e _ refl) sa.1 sb.1 in
      let block = stmts_unique b ss ts (Mark CloseBrace ∷ r) (Mark CloseBrace ∷ q) (ap behind right.1) refl refl sa.2 sb.2 in
      let x = left.0 in
      let y = right.0 in
      let z = block.0 in
      (cc, ap behind block.1)
  stmt_unique b (each m e ss) (each n f ts) r q h er eq sa sb =
      let named : Word m ≡ Word n = ap (λ ts. first (behind ts)) h in
      let name : m ≡ n = cc in
      let source = expr_unique b e f (Mark OpenBrace ∷ stmts_before ss (Mark CloseBrace ∷ r)) (Mark OpenBrace ∷ stmts_before ts (Mark CloseBrace ∷ q)) (ap (λ ts. behind (behind (behind ts))) h) (ends_at e _ refl) (ends_at f _ refl) sa.2 sb.2 in
      let scoped : AreScopedStmts (b ++ m ∷ []) ts = subst (λ k. AreScopedStmts (b ++ k ∷ []) ts) (sym name) sb.3 in
      let block = stmts_unique (b ++ m ∷ []) ss ts (Mark CloseBrace ∷ r) (Mark CloseBrace ∷ q) (ap behind source.1) refl refl sa.3 scoped in
      let x = source.0 in
      let z = block.0 in
      (cc, ap behind block.1)
  stmt_unique b (emit k v) (when a c ts) r q h er eq ss st = let k : Some keyword.Emit ≡ Some keyword.If = ap front h in (cc, cc)
  stmt_unique b (emit k v) (each n e ts) r q h er eq ss st = let k : Some keyword.Emit ≡ Some keyword.For = ap front h in (cc, cc)
  stmt_unique b (when a c ts) (emit k v) r q h er eq ss st = let k : Some keyword.If ≡ Some keyword.Emit = ap front h in (cc, cc)
  stmt_unique b (when a c ts) (each n e us) r q h er eq ss st = let k : Some keyword.If ≡ Some keyword.For = ap front h in (cc, cc)
  stmt_unique b (each n e us) (emit k v) r q h er eq ss st = let k : Some keyword.For ≡ Some keyword.Emit = ap front h in (cc, cc)
  stmt_unique b (each n e us) (when a c ts) r q h er eq ss st = let k : Some keyword.For ≡ Some keyword.If = ap front h in (cc, cc)

  pub stmts_unique : (b : List (List ℕ)) (ss ts : Stmts) (r q : List Token) → stmts_before ss r ≡ stmts_before ts q → ends_block r ≡ true → ends_block q ≡ true → AreScopedStmts b ss → AreScopedStmts b ts → (ss ≡ ts) × (r ≡ q)
  stmts_unique b no_stmts no_stmts r q h er eq sa sb = (refl, h)
  stmts_unique b no_stmts (stmt t ts) r q h er eq sa sb = let k : ends_block r ≡ false = ap ends_block h ∙ stmt_no_end t (stmts_before ts q) in (cc, cc)
  stmts_unique b (stmt s ss) no_stmts r q h er eq sa sb = let k : ends_block q ≡ false = ap ends_block (sym h) ∙ stmt_no_end s (stmts_before ss r) in (cc, cc)
  stmts_unique b (stmt s ss) (stmt t ts) r q h er eq sa sb =
      let one = stmt_unique b s t (stmts_before ss r) (stmts_before ts q) h (ends_stmts s ss r er) (ends_stmts t ts q eq) sa.0 sb.0 in
      let rest = stmts_unique b ss ts r q one.1 er eq sa.1 sb.1 in
      let x = one.0 in
      let y = rest.0 in
      (cc, rest.1)

pub keyword_spelled : (k : Keyword) → keyword_of (spelling k) ≡ Some k
keyword_spelled keyword.Emit = refl
keyword_spelled keyword.If = refl
keyword_spelled keyword.For = refl
keyword_spelled keyword.In = refl
keyword_spelled keyword.True = refl
keyword_spelled keyword.False = refl
keyword_spelled keyword.Null = refl
