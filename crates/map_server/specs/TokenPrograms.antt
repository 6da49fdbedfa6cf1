-- The program that tokens spell, if they spell one.
use Rattle.std.specs.Prelude.{◌≡◌, ℕ, zero, suc, ◌+◌, ◌*◌, ◌≤◌, List, [], ◌∷◌, ◌++◌, length, Bool, true, false, cond, ◌&&◌, not, refl, ℤ, pos, negsuc, Option, Some, None, ◌⊎◌, bytes_eq, nat_le}
use Rattle.std.proofs.Common.{◌∙◌, sym, ap, inl, inr, arith, eqb}
use Rattle.std.proofs.lemmas.Bool.{false≢true, and_parts, and_from, eqb-true, eq-eqb, leb-true, le-leb, not-true, not_from_false}
use Rattle.std.proofs.lemmas.Slice.Eq.{bytes_eq-Decides}
use Rattle.map_lang.specs.declared.token.Token.{Token}
use Rattle.map_lang.specs.declared.token.Token.TheVariants.{Word, Integer, Text, Mark}
use Rattle.map_lang.specs.declared.token.Mark as marks
use Rattle.map_lang.specs.declared.token.Mark.TheVariants.{Comma, Equals, Dot, OpenBrace, CloseBrace, OpenBracket, CloseBracket}
use Rattle.map_lang.specs.declared.token.Keyword.{Keyword}
use Rattle.map_lang.specs.declared.token.Keyword.TheVariants as keyword
use Rattle.map_lang.specs.declared.syntax.Step.{Step}
use Rattle.map_lang.specs.declared.syntax.Step.TheVariants.{Member, Element, Key}
use Rattle.map_lang.specs.declared.syntax.Literal.TheVariants as value
use Rattle.map_lang.specs.Syntax.{Expr, path, literal, array, Exprs, no_exprs, expr, Stmt, emit, when, each, Stmts, no_stmts, stmt, stmts_nesting}
use Rattle.map_lang.specs.Tokens.{keyword_of}
use Rattle.map_lang.specs.Grammar.{steps_before, expr_before, exprs_before, more_before, stmt_before, stmts_before, tokens_of, is_among, IsScoped, AreScoped, IsScopedStmt, AreScopedStmts, document_name, nesting_limit}
use Rattle.map_lang.specs.Readings.{begins_step, ends_block, first_keyword, EndsExpr, EndsStmt}
use Rattle.map_lang.proofs.Unique.{behind, ends_at, ends_more, ends_stmts, stmt_no_end}
use Rattle.map_lang.proofs.Continued.{expr_longer, stmt_longer}

-- ---- reading: a value, and the tokens behind it. What doesn't begin like one reads as anything.

abbrev with_step : Step → List Step × List Token → List Step × List Token
with_step s read = (s ∷ read.0, read.1)

steps_from : List Token → List Step × List Token
steps_from (Mark Dot ∷ Word name ∷ ts) = with_step (Member name) (steps_from ts)
steps_from (Mark OpenBracket ∷ Integer n ∷ Mark CloseBracket ∷ ts) = with_step (Element n) (steps_from ts)
steps_from (Mark OpenBracket ∷ Text name ∷ Mark CloseBracket ∷ ts) = with_step (Key name) (steps_from ts)
steps_from ts = ([], ts)

abbrev path_of : List ℕ → List Step × List Token → Expr × List Token
path_of name read = (path name read.0, read.1)

worded : Option Keyword → List ℕ → List Token → Expr × List Token
worded None w ts = path_of w (steps_from ts)
worded (Some keyword.True) w ts = (literal value.True, ts)
worded (Some keyword.False) w ts = (literal value.False, ts)
worded (Some k) w ts = (literal value.Null, ts)

abbrev array_of : Exprs × List Token → Expr × List Token
array_of read = (array read.0, read.1)

-- a closing bracket stands first
closes : List Token → Bool
closes (Mark CloseBracket ∷ ts) = true
closes ts = false

abbrev with_expr : Expr → Exprs × List Token → Exprs × List Token
with_expr e read = (expr e read.0, read.1)

mutual
  expr_from : ℕ → List Token → Expr × List Token
  expr_from zero ts = (literal value.Null, ts)
  expr_from (suc n) [] = (literal value.Null, [])
  expr_from (suc n) (Word w ∷ ts) = worded (keyword_of w) w ts
  expr_from (suc n) (Integer i ∷ ts) = (literal (value.Integer i), ts)
  expr_from (suc n) (Text t ∷ ts) = (literal (value.Text t), ts)
  expr_from (suc n) (Mark m ∷ ts) = array_of (exprs_from n ts)

  -- the parts of an array, and its closing bracket
  exprs_from : ℕ → List Token → Exprs × List Token
  exprs_from zero ts = (no_exprs, ts)
  exprs_from (suc n) ts = cond (closes ts) (no_exprs, behind ts) (with_expr (expr_from n ts).0 (more_from n (expr_from n ts).1))

  -- the parts behind the first
  more_from : ℕ → List Token → Exprs × List Token
  more_from zero ts = (no_exprs, ts)
  more_from (suc n) ts = cond (closes ts) (no_exprs, behind ts) (with_expr (expr_from n (behind ts)).0 (more_from n (expr_from n (behind ts)).1))

-- the word that stands first
name_at : List Token → List ℕ
name_at (Word w ∷ ts) = w
name_at ts = []

abbrev emission : ℕ → List Token → Stmt × List Token
emission n ts = (emit (expr_from n ts).0 (expr_from n (behind (expr_from n ts).1)).0, (expr_from n (behind (expr_from n ts).1)).1)

abbrev when_of : Expr → Expr → Stmts × List Token → Stmt × List Token
when_of left right block = (when left right block.0, behind block.1)

abbrev each_of : List ℕ → Expr → Stmts × List Token → Stmt × List Token
each_of name source block = (each name source block.0, behind block.1)

abbrev with_stmt : Stmt → Stmts × List Token → Stmts × List Token
with_stmt s read = (stmt s read.0, read.1)

-- by the keyword: `emit`, `if` or `for`
choose : Option Keyword → Stmt × List Token → Stmt × List Token → Stmt × List Token → Stmt × List Token
choose (Some keyword.If) emission condition repetition = condition
choose (Some keyword.For) emission condition repetition = repetition
choose k emission condition repetition = emission

mutual
  stmt_from : ℕ → List Token → Stmt × List Token
  stmt_from zero ts = (emit (literal value.Null) (literal value.Null), ts)
  stmt_from (suc n) ts =
      choose (first_keyword ts) (emission n (behind ts))
      (when_of (expr_from n (behind ts)).0 (expr_from n (behind (expr_from n (behind ts)).1)).0 (stmts_from n (behind (expr_from n (behind (expr_from n (behind ts)).1)).1)))
      (each_of (name_at (behind ts)) (expr_from n (behind (behind (behind ts)))).0 (stmts_from n (behind (expr_from n (behind (behind (behind ts)))).1)))

  stmts_from : ℕ → List Token → Stmts × List Token
  stmts_from zero ts = (no_stmts, ts)
  stmts_from (suc n) ts = cond (ends_block ts) (no_stmts, ts) (with_stmt (stmt_from n ts).0 (stmts_from n (stmt_from n ts).1))

-- ---- what is written is read back

no_steps : (r : List Token) → begins_step r ≡ false → steps_from r ≡ ([], r)
unfolding steps_from
no_steps [] h = refl
no_steps (Word w ∷ ts) h = refl
no_steps (Integer n ∷ ts) h = refl
no_steps (Text t ∷ ts) h = refl
no_steps (Mark Comma ∷ ts) h = refl
no_steps (Mark Equals ∷ ts) h = refl
no_steps (Mark Dot ∷ ts) h = absurd (false≢true (sym h))
no_steps (Mark OpenBrace ∷ ts) h = refl
no_steps (Mark CloseBrace ∷ ts) h = refl
no_steps (Mark OpenBracket ∷ ts) h = absurd (false≢true (sym h))
no_steps (Mark CloseBracket ∷ ts) h = refl

steps_back : (ss : List Step) (r : List Token) → begins_step r ≡ false → steps_from (steps_before ss r) ≡ (ss, r)
unfolding steps_from
steps_back [] r h = no_steps r h
steps_back (Member name ∷ ss) r h = ap (with_step (Member name)) (steps_back ss r h)
steps_back (Element n ∷ ss) r h = ap (with_step (Element n)) (steps_back ss r h)
steps_back (Key name ∷ ss) r h = ap (with_step (Key name)) (steps_back ss r h)

expr_opens : (e : Expr) (r : List Token) → closes (expr_before e r) ≡ false
unfolding closes
expr_opens (path name ss) r = refl
expr_opens (literal (value.Integer n)) r = refl
expr_opens (literal (value.Text t)) r = refl
expr_opens (literal value.True) r = refl
expr_opens (literal value.False) r = refl
expr_opens (literal value.Null) r = refl
expr_opens (array es) r = refl

mutual
  unfolding expr_from exprs_from more_from worded closes

  expr_back : (n : ℕ) (b : List (List ℕ)) (e : Expr) (r : List Token) → 2 * length (expr_before e r) ≤ n → EndsExpr e r → IsScoped b e → expr_from n (expr_before e r) ≡ (e, r)
  expr_back zero b (path name ss) r short ends scoped = absurd (omega arith)
  expr_back zero b (literal l) r short ends scoped = absurd (omega arith)
  expr_back zero b (array es) r short ends scoped = absurd (omega arith)
  expr_back (suc n) b (path name ss) r short ends scoped = ap (λ k. worded k name (steps_before ss r)) scoped.0 ∙ ap (path_of name) (steps_back ss r ends)
  expr_back (suc n) b (literal (value.Integer i)) r short ends scoped = refl
  expr_back (suc n) b (literal (value.Text t)) r short ends scoped = refl
  expr_back (suc n) b (literal value.True) r short ends scoped = refl
  expr_back (suc n) b (literal value.False) r short ends scoped = refl
  expr_back (suc n) b (literal value.Null) r short ends scoped = refl
  expr_back (suc n) b (array es) r short ends scoped = ap array_of (exprs_back n b es r (omega arith) scoped)

  exprs_back : (n : ℕ) (b : List (List ℕ)) (es : Exprs) (r : List Token) → 2 * length (exprs_before es r) + 1 ≤ n → AreScoped b es → exprs_from n (exprs_before es r) ≡ (es, r)
  exprs_back zero b es r short scoped = absurd (omega arith)
  exprs_back (suc n) b no_exprs r short scoped = refl
  exprs_back (suc n) b (expr e es) r short scoped =
      let longer = expr_longer e (more_before es r) in
      ap (λ c. cond c (no_exprs, behind (expr_before e (more_before es r))) (with_expr (expr_from n (expr_before e (more_before es r))).0 (more_from n (expr_from n (expr_before e (more_before es r))).1))) (expr_opens e (more_before es r)) ∙
      ap (λ read. with_expr read.0 (more_from n read.1)) (expr_back n b e (more_before es r) (omega arith) (ends_more e es r) scoped.0) ∙
      ap (with_expr e) (more_back n b es r (omega arith) scoped.1)

  more_back : (n : ℕ) (b : List (List ℕ)) (es : Exprs) (r : List Token) → 2 * length (more_before es r) ≤ n → AreScoped b es → more_from n (more_before es r) ≡ (es, r)
  more_back zero b no_exprs r short scoped = absurd (omega arith)
  more_back zero b (expr e es) r short scoped = absurd (omega arith)
  more_back (suc n) b no_exprs r short scoped = refl
  more_back (suc n) b (expr e es) r short scoped =
      let longer = expr_longer e (more_before es r) in
      ap (λ read. with_expr read.0 (more_from n read.1)) (expr_back n b e (more_before es r) (omega arith) (ends_more e es r) scoped.0) ∙
      ap (with_expr e) (more_back n b es r (omega arith) scoped.1)

mutual
  unfolding stmt_from stmts_from choose name_at

  stmt_back : (n : ℕ) (b : List (List ℕ)) (s : Stmt) (r : List Token) → 2 * length (stmt_before s r) ≤ n → EndsStmt s r → IsScopedStmt b s → stmt_from n (stmt_before s r) ≡ (s, r)
  stmt_back zero b (emit key value) r short ends scoped = absurd (omega arith)
  stmt_back zero b (when left right block) r short ends scoped = absurd (omega arith)
  stmt_back zero b (each name source block) r short ends scoped = absurd (omega arith)
  stmt_back (suc n) b (emit key value) r short ends scoped =
      let shorter = expr_longer key (Mark Comma ∷ expr_before value r) in
      ap (λ read. (emit read.0 (expr_from n (behind read.1)).0, (expr_from n (behind read.1)).1)) (expr_back n b key (Mark Comma ∷ expr_before value r) (omega arith) (ends_at key _ refl) scoped.0) ∙
      ap (λ read. (emit key read.0, read.1)) (expr_back n b value r (omega arith) ends scoped.1)
  stmt_back (suc n) b (when left right block) r short ends scoped =
      let inner = stmts_before block (Mark CloseBrace ∷ r) in
      let one = expr_longer left (Mark Equals ∷ expr_before right (Mark OpenBrace ∷ inner)) in
      let two = expr_longer right (Mark OpenBrace ∷ inner) in
      ap (λ read. when_of read.0 (expr_from n (behind read.1)).0 (stmts_from n (behind (expr_from n (behind read.1)).1))) (expr_back n b left (Mark Equals ∷ expr_before right (Mark OpenBrace ∷ inner)) (omega arith) (ends_at left _ refl) scoped.0) ∙
      ap (λ read. when_of left read.0 (stmts_from n (behind read.1))) (expr_back n b right (Mark OpenBrace ∷ inner) (omega arith) (ends_at right _ refl) scoped.1) ∙
      ap (when_of left right) (stmts_back n b block (Mark CloseBrace ∷ r) (omega arith) refl scoped.2)
  stmt_back (suc n) b (each name source block) r short ends scoped =
      let inner = stmts_before block (Mark CloseBrace ∷ r) in
      let one = expr_longer source (Mark OpenBrace ∷ inner) in
      ap (λ read. each_of name read.0 (stmts_from n (behind read.1))) (expr_back n b source (Mark OpenBrace ∷ inner) (omega arith) (ends_at source _ refl) scoped.2) ∙
      ap (each_of name source) (stmts_back n (b ++ name ∷ []) block (Mark CloseBrace ∷ r) (omega arith) refl scoped.3)

  stmts_back : (n : ℕ) (b : List (List ℕ)) (ss : Stmts) (r : List Token) → 2 * length (stmts_before ss r) + 1 ≤ n → ends_block r ≡ true → AreScopedStmts b ss → stmts_from n (stmts_before ss r) ≡ (ss, r)
  stmts_back zero b ss r short ends scoped = absurd (omega arith)
  stmts_back (suc n) b no_stmts r short ends scoped = ap (λ c. cond c (no_stmts, r) (with_stmt (stmt_from n r).0 (stmts_from n (stmt_from n r).1))) ends
  stmts_back (suc n) b (stmt s ss) r short ends scoped =
      let ts = stmt_before s (stmts_before ss r) in
      let longer = stmt_longer s (stmts_before ss r) in
      ap (λ c. cond c (no_stmts, ts) (with_stmt (stmt_from n ts).0 (stmts_from n (stmt_from n ts).1))) (stmt_no_end s (stmts_before ss r)) ∙
      ap (λ read. with_stmt read.0 (stmts_from n read.1)) (stmt_back n b s (stmts_before ss r) (omega arith) (ends_stmts s ss r ends) scoped.0) ∙
      ap (with_stmt s) (stmts_back n b ss r (omega arith) ends scoped.1)

-- ---- which programs are scoped, and which tokens are the same

is_name : Option Keyword → Bool
is_name None = true
is_name (Some k) = false

mutual
  is_scoped : List (List ℕ) → Expr → Bool
  is_scoped b (path name ss) = is_name (keyword_of name) && is_among name b
  is_scoped b (literal l) = true
  is_scoped b (array es) = are_scoped b es

  are_scoped : List (List ℕ) → Exprs → Bool
  are_scoped b no_exprs = true
  are_scoped b (expr e es) = is_scoped b e && are_scoped b es

mutual
  is_scoped_stmt : List (List ℕ) → Stmt → Bool
  is_scoped_stmt b (emit key value) = is_scoped b key && is_scoped b value
  is_scoped_stmt b (when left right block) = is_scoped b left && (is_scoped b right && are_scoped_stmts b block)
  is_scoped_stmt b (each name source block) =
      is_name (keyword_of name) && (not (is_among name b) && (is_scoped b source && are_scoped_stmts (b ++ name ∷ []) block))

  are_scoped_stmts : List (List ℕ) → Stmts → Bool
  are_scoped_stmts b no_stmts = true
  are_scoped_stmts b (stmt s ss) = is_scoped_stmt b s && are_scoped_stmts b ss

name-sound : (k : Option Keyword) → is_name k ≡ true → k ≡ None
unfolding is_name
name-sound None h = refl
name-sound (Some k) h = absurd (false≢true h)

name-complete : (k : Option Keyword) → k ≡ None → is_name k ≡ true
unfolding is_name
name-complete k h = ap is_name h

mutual
  unfolding is_scoped are_scoped

  scoped-sound : (b : List (List ℕ)) (e : Expr) → is_scoped b e ≡ true → IsScoped b e
  scoped-sound b (path name ss) h = let p = and_parts _ _ h in (name-sound (keyword_of name) p.0, p.1)
  scoped-sound b (literal l) h = tt
  scoped-sound b (array es) h = all_scoped-sound b es h

  all_scoped-sound : (b : List (List ℕ)) (es : Exprs) → are_scoped b es ≡ true → AreScoped b es
  all_scoped-sound b no_exprs h = tt
  all_scoped-sound b (expr e es) h = let p = and_parts _ _ h in (scoped-sound b e p.0, all_scoped-sound b es p.1)

mutual
  unfolding is_scoped are_scoped

  scoped-complete : (b : List (List ℕ)) (e : Expr) → IsScoped b e → is_scoped b e ≡ true
  scoped-complete b (path name ss) h = and_from _ _ (name-complete (keyword_of name) h.0) h.1
  scoped-complete b (literal l) h = refl
  scoped-complete b (array es) h = all_scoped-complete b es h

  all_scoped-complete : (b : List (List ℕ)) (es : Exprs) → AreScoped b es → are_scoped b es ≡ true
  all_scoped-complete b no_exprs h = refl
  all_scoped-complete b (expr e es) h = and_from _ _ (scoped-complete b e h.0) (all_scoped-complete b es h.1)

mutual
  unfolding is_scoped_stmt are_scoped_stmts

  stmt-sound : (b : List (List ℕ)) (s : Stmt) → is_scoped_stmt b s ≡ true → IsScopedStmt b s
  stmt-sound b (emit key value) h = let p = and_parts _ _ h in (scoped-sound b key p.0, scoped-sound b value p.1)
  stmt-sound b (when left right block) h =
      let p = and_parts _ _ h in
      let q = and_parts _ _ p.1 in
      (scoped-sound b left p.0, scoped-sound b right q.0, stmts-sound b block q.1)
  stmt-sound b (each name source block) h =
      let p = and_parts _ _ h in
      let q = and_parts _ _ p.1 in
      let r = and_parts _ _ q.1 in
      (name-sound (keyword_of name) p.0, not-true (is_among name b) q.0, scoped-sound b source r.0, stmts-sound (b ++ name ∷ []) block r.1)

  stmts-sound : (b : List (List ℕ)) (ss : Stmts) → are_scoped_stmts b ss ≡ true → AreScopedStmts b ss
  stmts-sound b no_stmts h = tt
  stmts-sound b (stmt s ss) h = let p = and_parts _ _ h in (stmt-sound b s p.0, stmts-sound b ss p.1)

mutual
  unfolding is_scoped_stmt are_scoped_stmts

  stmt-complete : (b : List (List ℕ)) (s : Stmt) → IsScopedStmt b s → is_scoped_stmt b s ≡ true
  stmt-complete b (emit key value) h = and_from _ _ (scoped-complete b key h.0) (scoped-complete b value h.1)
  stmt-complete b (when left right block) h = and_from _ _ (scoped-complete b left h.0) (and_from _ _ (scoped-complete b right h.1) (stmts-complete b block h.2))
  stmt-complete b (each name source block) h =
      and_from _ _ (name-complete (keyword_of name) h.0) (and_from _ _ (not_from_false (is_among name b) h.1) (and_from _ _ (scoped-complete b source h.2) (stmts-complete (b ++ name ∷ []) block h.3)))

  stmts-complete : (b : List (List ℕ)) (ss : Stmts) → AreScopedStmts b ss → are_scoped_stmts b ss ≡ true
  stmts-complete b no_stmts h = refl
  stmts-complete b (stmt s ss) h = and_from _ _ (stmt-complete b s h.0) (stmts-complete b ss h.1)

mark_number : marks.Mark → ℕ
mark_number Comma = 0
mark_number Equals = 1
mark_number Dot = 2
mark_number OpenBrace = 3
mark_number CloseBrace = 4
mark_number OpenBracket = 5
mark_number CloseBracket = 6

mark_number-once : (m n : marks.Mark) → mark_number m ≡ mark_number n → m ≡ n
unfolding mark_number
mark_number-once Comma Comma h = refl
mark_number-once Equals Equals h = refl
mark_number-once Dot Dot h = refl
mark_number-once OpenBrace OpenBrace h = refl
mark_number-once CloseBrace CloseBrace h = refl
mark_number-once OpenBracket OpenBracket h = refl
mark_number-once CloseBracket CloseBracket h = refl
mark_number-once m n h = absurd (omega arith)

same_number : ℤ → ℤ → Bool
same_number (pos m) (pos n) = eqb m n
same_number (negsuc m) (negsuc n) = eqb m n
same_number m n = false

same_number-sound : (y z : ℤ) → same_number y z ≡ true → y ≡ z
unfolding same_number
same_number-sound (pos m) (pos n) h = ap pos (eqb-true m n h)
same_number-sound (negsuc m) (negsuc n) h = ap negsuc (eqb-true m n h)
same_number-sound y z h = absurd (false≢true h)

same_number-complete : (z : ℤ) → same_number z z ≡ true
unfolding same_number
same_number-complete (pos n) = eq-eqb n n refl
same_number-complete (negsuc n) = eq-eqb n n refl

same_token : Token → Token → Bool
same_token (Word w) (Word v) = bytes_eq w v
same_token (Integer m) (Integer n) = same_number m n
same_token (Text t) (Text u) = bytes_eq t u
same_token (Mark m) (Mark n) = eqb (mark_number m) (mark_number n)
same_token t u = false

same_token-sound : (t u : Token) → same_token t u ≡ true → t ≡ u
unfolding same_token
same_token-sound (Word w) (Word v) h = ap Word ((bytes_eq-Decides w v).0 h)
same_token-sound (Integer m) (Integer n) h = ap Integer (same_number-sound m n h)
same_token-sound (Text t) (Text u) h = ap Text ((bytes_eq-Decides t u).0 h)
same_token-sound (Mark m) (Mark n) h = ap Mark (mark_number-once m n (eqb-true (mark_number m) (mark_number n) h))
same_token-sound t u h = absurd (false≢true h)

same_token-complete : (t : Token) → same_token t t ≡ true
unfolding same_token
same_token-complete (Word w) = (bytes_eq-Decides w w).1 refl
same_token-complete (Integer n) = same_number-complete n
same_token-complete (Text t) = (bytes_eq-Decides t t).1 refl
same_token-complete (Mark m) = eq-eqb (mark_number m) (mark_number m) refl

same_tokens : List Token → List Token → Bool
same_tokens [] [] = true
same_tokens (t ∷ ts) (u ∷ us) = same_token t u && same_tokens ts us
same_tokens ts us = false

same_tokens-sound : (ts us : List Token) → same_tokens ts us ≡ true → ts ≡ us
unfolding same_tokens
same_tokens-sound [] [] h = refl
same_tokens-sound (t ∷ ts) (u ∷ us) h =
    let p = and_parts _ _ h in
    let first = same_token-sound t u p.0 in
    let rest = same_tokens-sound ts us p.1 in
    cc
same_tokens-sound ts us h = absurd (false≢true h)

same_tokens-complete : (ts : List Token) → same_tokens ts ts ≡ true
unfolding same_tokens
same_tokens-complete [] = refl
same_tokens-complete (t ∷ ts) = and_from _ _ (same_token-complete t) (same_tokens-complete ts)

-- ---- the program of tokens

-- what the tokens read as
reads_as : List Token → Stmts
reads_as ts = (stmts_from (2 * length ts + 1) ts).0

-- the tokens are those of a program that is scoped and doesn't nest too deep
pub record IsProgramOf (tokens : List Token) (program : Stmts) : Type 0 where
  pub spelled : tokens ≡ tokens_of program
  pub scoped : AreScopedStmts (document_name ∷ []) program
  pub nests : stmts_nesting program ≤ nesting_limit

is_program_of : List Token → Stmts → Bool
is_program_of tokens program = same_tokens (tokens_of program) tokens && (are_scoped_stmts (document_name ∷ []) program && nat_le (stmts_nesting program) nesting_limit)

program-sound : (tokens : List Token) (program : Stmts) → is_program_of tokens program ≡ true → IsProgramOf tokens program
unfolding is_program_of
program-sound tokens program h =
    let p = and_parts _ _ h in
    let q = and_parts _ _ p.1 in
    record {
      spelled = sym (same_tokens-sound (tokens_of program) tokens p.0);
      scoped = stmts-sound (document_name ∷ []) program q.0;
      nests = leb-true (stmts_nesting program) nesting_limit q.1;
    }

program-complete : (tokens : List Token) (program : Stmts) → IsProgramOf tokens program → is_program_of tokens program ≡ true
unfolding is_program_of
program-complete tokens program h =
    let same : same_tokens (tokens_of program) tokens ≡ true = ap (same_tokens (tokens_of program)) h.spelled ∙ same_tokens-complete (tokens_of program) in
    and_from _ _ same (and_from _ _ (stmts-complete (document_name ∷ []) program h.scoped) (le-leb (stmts_nesting program) nesting_limit h.nests))

reads_back : (tokens : List Token) (program : Stmts) → IsProgramOf tokens program → reads_as tokens ≡ program
unfolding reads_as
reads_back tokens program h =
    ap (λ ts. (stmts_from (2 * length ts + 1) ts).0) h.spelled ∙ ap (λ read. read.0) (stmts_back (2 * length (tokens_of program) + 1) (document_name ∷ []) program [] (omega arith) refl h.scoped)

-- whether tokens are those of a program
abbrev pub HasProgram : List Token → Type 0
HasProgram tokens = ((program : Stmts) × IsProgramOf tokens program) ⊎ ((program : Stmts) → IsProgramOf tokens program → ⊥)

has_program_by : (tokens : List Token) (b : Bool) → is_program_of tokens (reads_as tokens) ≡ b → HasProgram tokens
has_program_by tokens true h = inl (reads_as tokens, program-sound tokens (reads_as tokens) h)
has_program_by tokens false h = inr (λ program is. false≢true (sym h ∙ ap (is_program_of tokens) (reads_back tokens program is) ∙ program-complete tokens program is))

-- Tokens are those of a program, or of none.
pub has_program : (tokens : List Token) → HasProgram tokens
has_program tokens = has_program_by tokens (is_program_of tokens (reads_as tokens)) refl
