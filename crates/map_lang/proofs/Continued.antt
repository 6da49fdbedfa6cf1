-- How readings of parts make up the reading of a whole.
use Rattle.std.specs.Prelude.{◌≡◌, ℕ, ◌≤◌, ◌<◌, List, [], ◌∷◌, ◌++◌, length, true, false, Option, Some, None, refl, ◌-◌, Result, Ok, Err, IfErr}
use Rattle.std.proofs.Common.{◌∙◌, sym, ap, subst, arith, append_assoc}
use Rattle.std.proofs.lemmas.Bool.{false≢true}
use Rattle.map_lang.specs.declared.token.Token.{Token}
use Rattle.map_lang.specs.declared.token.Token.TheVariants.{Word, Mark}
use Rattle.map_lang.specs.declared.token.Mark.TheVariants.{Comma, Equals, OpenBrace, CloseBrace, CloseBracket}
use Rattle.map_lang.specs.declared.syntax.Step.{Step}
use Rattle.map_lang.specs.declared.syntax.Step.TheVariants.{Member, Element, Key}
use Rattle.map_lang.specs.Syntax.{Expr, path, literal, array, Exprs, no_exprs, expr, exprs_of, exprs_nesting, Stmt, emit, when, each, Stmts, no_stmts, stmt, stmts_of}
use Rattle.map_lang.specs.declared.token.Keyword.{Keyword}
use Rattle.map_lang.specs.declared.token.Keyword.TheVariants as keyword
use Rattle.map_lang.specs.Tokens.{keyword_of}
use Rattle.map_lang.specs.Grammar.{word, is_among, step_before, steps_before, expr_before, exprs_before, more_before, stmt_before, stmts_before, AreScoped}
use Rattle.map_lang.specs.Readings.{begins_step, ends_block, EndsStmt, ReadsSteps, ReadsExpr, ReadsExprs, ReadsStmt, ReadsStmts, ReadsBlock}
use Rattle.map_lang.proofs.Unique.{keyword_at, first, behind, ends_at, step_begins, step_unique, steps_unique, expr_unique, stmt_unique, stmts_unique, ends_more, ends_stmts}

pub steps_once : (ts r q : List Token) (ss us : List Step) → ReadsSteps ts ss r → ReadsSteps ts us q → (ss ≡ us) × (r ≡ q)
steps_once ts r q ss us x y = steps_unique ss us r q (sym x.spelled ∙ y.spelled) x.ends y.ends

pub expr_once : (b : List (List ℕ)) (m n : ℕ) (ts r q : List Token) (e f : Expr) → ReadsExpr b m ts e r → ReadsExpr b n ts f q → (e ≡ f) × (r ≡ q)
expr_once b m n ts r q e f x y = expr_unique b e f r q (sym x.spelled ∙ y.spelled) x.ends y.ends x.scoped y.scoped

pub stmt_once : (b : List (List ℕ)) (m n : ℕ) (ts r q : List Token) (s t : Stmt) → ReadsStmt b m ts s r → ReadsStmt b n ts t q → (s ≡ t) × (r ≡ q)
stmt_once b m n ts r q s t x y = stmt_unique b s t r q (sym x.spelled ∙ y.spelled) x.ends y.ends x.scoped y.scoped

pub stmts_once : (b : List (List ℕ)) (m n : ℕ) (ts r q : List Token) (ss us : Stmts) → ReadsStmts b m ts ss r → ReadsStmts b n ts us q → (ss ≡ us) × (r ≡ q)
stmts_once b m n ts r q ss us x y = stmts_unique b ss us r q (sym x.spelled ∙ y.spelled) x.ends y.ends x.scoped y.scoped

-- Reading shortens what is left.

steps_longer : (ss : List Step) (r : List Token) → length r ≤ length (steps_before ss r)
steps_longer [] r = omega arith
steps_longer (Member n ∷ ss) r = omega (arith, steps_longer ss r)
steps_longer (Element n ∷ ss) r = omega (arith, steps_longer ss r)
steps_longer (Key n ∷ ss) r = omega (arith, steps_longer ss r)

mutual
  pub expr_longer : (e : Expr) (r : List Token) → length r < length (expr_before e r)
  expr_longer (path n ss) r = omega (arith, steps_longer ss r)
  expr_longer (literal l) r = omega arith
  expr_longer (array es) r = omega (arith, exprs_longer es r)

  pub exprs_longer : (es : Exprs) (r : List Token) → length r < length (exprs_before es r)
  exprs_longer no_exprs r = omega arith
  exprs_longer (expr e es) r = omega (arith, expr_longer e (more_before es r), more_longer es r)

  pub more_longer : (es : Exprs) (r : List Token) → length r < length (more_before es r)
  more_longer no_exprs r = omega arith
  more_longer (expr e es) r = omega (arith, expr_longer e (more_before es r), more_longer es r)

mutual
  pub stmt_longer : (s : Stmt) (r : List Token) → length r < length (stmt_before s r)
  stmt_longer (emit k v) r = omega (arith, expr_longer k (Mark Comma ∷ expr_before v r), expr_longer v r)
  stmt_longer (when a c ss) r =
      omega (arith, expr_longer a (Mark Equals ∷ expr_before c (Mark OpenBrace ∷ stmts_before ss (Mark CloseBrace ∷ r))), expr_longer c (Mark OpenBrace ∷ stmts_before ss (Mark CloseBrace ∷ r)), stmts_longer ss (Mark CloseBrace ∷ r))
  stmt_longer (each n e ss) r = omega (arith, expr_longer e (Mark OpenBrace ∷ stmts_before ss (Mark CloseBrace ∷ r)), stmts_longer ss (Mark CloseBrace ∷ r))

  pub stmts_longer : (ss : Stmts) (r : List Token) → length r ≤ length (stmts_before ss r)
  stmts_longer no_stmts r = omega arith
  stmts_longer (stmt s ss) r = omega (arith, stmt_longer s (stmts_before ss r), stmts_longer ss r)

pub expr_shortens : (b : List (List ℕ)) (m : ℕ) (ts r : List Token) (e : Expr) → ReadsExpr b m ts e r → length r < length ts
expr_shortens b m ts r e x = omega (arith, ap length x.spelled, expr_longer e r)

pub stmt_shortens : (b : List (List ℕ)) (m : ℕ) (ts r : List Token) (s : Stmt) → ReadsStmt b m ts s r → length r < length ts
stmt_shortens b m ts r s x = omega (arith, ap length x.spelled, stmt_longer s r)

-- Steps that were read, and more.

pub steps_append : (ss us : List Step) (r : List Token) → steps_before (ss ++ us) r ≡ steps_before ss (steps_before us r)
steps_append [] us r = refl
steps_append (s ∷ ss) us r = ap (step_before s) (steps_append ss us r)

-- These steps were read; the steps of the whole are these, more that stand here, and no others.
pub record StepsSoFar (whole : List Token) (read : List Step) (now : List Token) : Type 0 where
  pub grows : whole ≡ steps_before read now
  pub only : (all : List Step) (r : List Token) → ReadsSteps whole all r → (more : List Step) × (all ≡ read ++ more) × ReadsSteps now more r

pub steps_start : (whole : List Token) → StepsSoFar whole [] whole
steps_start whole = record { grows = refl; only = λ all r h. (all, refl, h) }

-- a step stands here, so the steps that stand here begin with it
steps_first : (now new r : List Token) (s : Step) (more : List Step) → now ≡ step_before s new → ReadsSteps now more r → (ts : List Step) × (more ≡ s ∷ ts) × ReadsSteps new ts r
steps_first now new r s [] e h = let k : begins_step r ≡ true = ap begins_step (sym h.spelled ∙ e) ∙ step_begins s new in absurd (false≢true (sym h.ends ∙ k))
steps_first now new r s (t ∷ ts) e h =
    let one = step_unique t s (steps_before ts r) new (sym h.spelled ∙ e) in
    (ts, ap (λ x. x ∷ ts) one.0, record { spelled = sym one.1; ends = h.ends })

steps_next-only : (whole now new : List Token) (read : List Step) (s : Step) → StepsSoFar whole read now → now ≡ step_before s new → (all : List Step) (r : List Token) → ReadsSteps whole all r → (more : List Step) × (all ≡ (read ++ s ∷ []) ++ more) × ReadsSteps new more r
steps_next-only whole now new read s h e all r a =
    let m = h.only all r a in
    let f = steps_first now new r s m.0 e m.2 in
    (f.0, m.1 ∙ ap (λ x. read ++ x) f.1 ∙ sym (append_assoc read (s ∷ []) f.0), f.2)

pub steps_next : (whole now new : List Token) (read : List Step) (s : Step) → StepsSoFar whole read now → now ≡ step_before s new → StepsSoFar whole (read ++ s ∷ []) new
steps_next whole now new read s h e = record { grows = h.grows ∙ ap (steps_before read) e ∙ sym (steps_append read (s ∷ []) new); only = steps_next-only whole now new read s h e }

steps_stop : (now r : List Token) (more : List Step) → begins_step now ≡ true → ((s : Step) (rest : List Token) → now ≡ step_before s rest → ⊥) → ReadsSteps now more r → ⊥
steps_stop now r [] b none h = false≢true (sym h.ends ∙ ap begins_step (sym h.spelled) ∙ b)
steps_stop now r (t ∷ ts) b none h = none t (steps_before ts r) h.spelled

pub steps_refused : (whole now : List Token) (read : List Step) → StepsSoFar whole read now → begins_step now ≡ true → ((s : Step) (rest : List Token) → now ≡ step_before s rest → ⊥) → (all : List Step) (r : List Token) → ReadsSteps whole all r → ⊥
steps_refused whole now read h b none all r a = let m = h.only all r a in steps_stop now r m.0 b none m.2

pub steps_end : (whole now : List Token) (read : List Step) → StepsSoFar whole read now → begins_step now ≡ false → ReadsSteps whole read now
steps_end whole now read h b = record { spelled = h.grows; ends = b }

pub step_shortens : (s : Step) (ts r : List Token) → ts ≡ step_before s r → length r < length ts
step_shortens (Member n) ts r e = omega (arith, ap length e)
step_shortens (Element n) ts r e = omega (arith, ap length e)
step_shortens (Key n) ts r e = omega (arith, ap length e)

-- Parts that were read, and more.

abbrev pub exprs_onto : List Expr → Exprs → Exprs
exprs_onto [] fs = fs
exprs_onto (e ∷ es) fs = expr e (exprs_onto es fs)

pub exprs_onto-push : (es : List Expr) (e : Expr) (fs : Exprs) → exprs_onto (es ++ e ∷ []) fs ≡ exprs_onto es (expr e fs)
exprs_onto-push [] e fs = refl
exprs_onto-push (d ∷ es) e fs = ap (expr d) (exprs_onto-push es e fs)

pub exprs_onto-none : (es : List Expr) → exprs_onto es no_exprs ≡ exprs_of es
exprs_onto-none [] = refl
exprs_onto-none (e ∷ es) = ap (expr e) (exprs_onto-none es)

-- From here on there are one part or more, behind those that were read: the parts of the whole are these and no others.
pub record PartsSoFar (b : List (List ℕ)) (m : ℕ) (whole : List Token) (read : List Expr) (now : List Token) : Type 0 where
  pub grows : (e : Expr) (es : Exprs) (r : List Token) → ReadsExprs b m now (expr e es) r → ReadsExprs b m whole (exprs_onto read (expr e es)) r
  pub only : (all : Exprs) (r : List Token) → ReadsExprs b m whole all r → (e : Expr) × (es : Exprs) × (all ≡ exprs_onto read (expr e es)) × ReadsExprs b m now (expr e es) r

first_part : (b : List (List ℕ)) (m : ℕ) (whole : List Token) → ((r : List Token) → whole ≡ Mark CloseBracket ∷ r → ⊥) → (all : Exprs) (r : List Token) → ReadsExprs b m whole all r → (e : Expr) × (es : Exprs) × (all ≡ exprs_onto [] (expr e es)) × ReadsExprs b m whole (expr e es) r
first_part b m whole open_ no_exprs r h = absurd (open_ r h.spelled)
first_part b m whole open_ (expr e es) r h = (e, es, refl, h)

pub parts_start : (b : List (List ℕ)) (m : ℕ) (whole : List Token) → ((r : List Token) → whole ≡ Mark CloseBracket ∷ r → ⊥) → PartsSoFar b m whole [] whole
parts_start b m whole open_ = record { grows = λ e es r h. h; only = first_part b m whole open_ }

parts_first : (b : List (List ℕ)) (m : ℕ) (now new r : List Token) (x e : Expr) (es : Exprs) → ReadsExpr b m now x new → ReadsExprs b m now (expr e es) r → (x ≡ e) × (new ≡ more_before es r)
parts_first b m now new r x e es one h = expr_unique b x e new (more_before es r) (sym one.spelled ∙ h.spelled) one.ends (ends_more e es r) one.scoped h.scoped.0

-- the part that stands here can't be read
pub parts_no_part : (b : List (List ℕ)) (m : ℕ) (whole now : List Token) (read : List Expr) → PartsSoFar b m whole read now → ((e : Expr) (r : List Token) → ReadsExpr b m now e r → ⊥) → (all : Exprs) (r : List Token) → ReadsExprs b m whole all r → ⊥
parts_no_part b m whole now read h none all r a =
    let p = h.only all r a in
    none p.0 (more_before p.1 r) (record { spelled = p.3.spelled; ends = ends_more p.0 p.1 r; scoped = p.3.scoped.0; nests = omega (arith, p.3.nests) })

more_marks : (es : Exprs) (r : List Token) → ((rest : List Token) → more_before es r ≡ Mark CloseBracket ∷ rest → ⊥) → ((rest : List Token) → more_before es r ≡ Mark Comma ∷ rest → ⊥) → ⊥
more_marks no_exprs r close comma = close r refl
more_marks (expr e es) r close comma = comma (expr_before e (more_before es r)) refl

-- neither a comma nor the closing bracket stands behind the part
pub parts_no_mark : (b : List (List ℕ)) (m : ℕ) (whole now new : List Token) (read : List Expr) (x : Expr) → PartsSoFar b m whole read now → ReadsExpr b m now x new → ((rest : List Token) → new ≡ Mark CloseBracket ∷ rest → ⊥) → ((rest : List Token) → new ≡ Mark Comma ∷ rest → ⊥) → (all : Exprs) (r : List Token) → ReadsExprs b m whole all r → ⊥
parts_no_mark b m whole now new read x h one close comma all r a =
    let p = h.only all r a in
    let f = parts_first b m now new r x p.0 p.1 one p.3 in
    more_marks p.1 r (λ rest e. close rest (f.1 ∙ e)) (λ rest e. comma rest (f.1 ∙ e))

pub parts_end : (b : List (List ℕ)) (m : ℕ) (whole now new left : List Token) (read : List Expr) (x : Expr) → PartsSoFar b m whole read now → ReadsExpr b m now x new → new ≡ Mark CloseBracket ∷ left → ReadsExprs b m whole (exprs_of (read ++ x ∷ [])) left
parts_end b m whole now new left read x h one e =
    let last : ReadsExprs b m now (expr x no_exprs) left = record { spelled = one.spelled ∙ ap (expr_before x) e; scoped = (one.scoped, tt); nests = omega (arith, one.nests) } in
    subst (λ es. ReadsExprs b m whole es left) (sym (exprs_onto-push read x no_exprs) ∙ exprs_onto-none (read ++ x ∷ [])) (h.grows x no_exprs left last)

more_comma : (es : Exprs) (r left : List Token) → more_before es r ≡ Mark Comma ∷ left → (f : Expr) × (fs : Exprs) × (es ≡ expr f fs) × (left ≡ expr_before f (more_before fs r))
more_comma no_exprs r left e = absurd cc
more_comma (expr f fs) r left e = (f, fs, refl, sym (ap behind e))

parts_next-only : (b : List (List ℕ)) (m : ℕ) (whole now new left : List Token) (read : List Expr) (x : Expr) → PartsSoFar b m whole read now → ReadsExpr b m now x new → new ≡ Mark Comma ∷ left → (all : Exprs) (r : List Token) → ReadsExprs b m whole all r → (e : Expr) × (es : Exprs) × (all ≡ exprs_onto (read ++ x ∷ []) (expr e es)) × ReadsExprs b m left (expr e es) r
parts_next-only b m whole now new left read x h one e all r a =
    let p = h.only all r a in
    let f = parts_first b m now new r x p.0 p.1 one p.3 in
    let g = more_comma p.1 r left (sym f.1 ∙ e) in
    let scoped : AreScoped b (expr g.0 g.1) = subst (AreScoped b) g.2 p.3.scoped.1 in
    let nests : exprs_nesting (expr g.0 g.1) ≤ m = subst (λ es. exprs_nesting es ≤ m) g.2 (omega (arith, p.3.nests)) in
    (g.0, g.1, p.2 ∙ ap (λ y. exprs_onto read (expr y p.1)) (sym f.0) ∙ ap (λ ys. exprs_onto read (expr x ys)) g.2 ∙ sym (exprs_onto-push read x (expr g.0 g.1)), record { spelled = g.3; scoped = scoped; nests = nests })

parts_next-grows : (b : List (List ℕ)) (m : ℕ) (whole now new left : List Token) (read : List Expr) (x : Expr) → PartsSoFar b m whole read now → ReadsExpr b m now x new → new ≡ Mark Comma ∷ left → (e : Expr) (es : Exprs) (r : List Token) → ReadsExprs b m left (expr e es) r → ReadsExprs b m whole (exprs_onto (read ++ x ∷ []) (expr e es)) r
parts_next-grows b m whole now new left read x h one c e es r a =
    let longer : ReadsExprs b m now (expr x (expr e es)) r = record { spelled = one.spelled ∙ ap (expr_before x) (c ∙ ap (λ ts. Mark Comma ∷ ts) a.spelled); scoped = (one.scoped, a.scoped); nests = omega (arith, one.nests, a.nests) } in
    subst (λ fs. ReadsExprs b m whole fs r) (sym (exprs_onto-push read x (expr e es))) (h.grows x (expr e es) r longer)

pub parts_next : (b : List (List ℕ)) (m : ℕ) (whole now new left : List Token) (read : List Expr) (x : Expr) → PartsSoFar b m whole read now → ReadsExpr b m now x new → new ≡ Mark Comma ∷ left → PartsSoFar b m whole (read ++ x ∷ []) left
parts_next b m whole now new left read x h one e = record { grows = parts_next-grows b m whole now new left read x h one e; only = parts_next-only b m whole now new left read x h one e }

-- Statements that were read, and more.

abbrev pub stmts_onto : List Stmt → Stmts → Stmts
stmts_onto [] ts = ts
stmts_onto (s ∷ ss) ts = stmt s (stmts_onto ss ts)

pub stmts_onto-push : (ss : List Stmt) (s : Stmt) (ts : Stmts) → stmts_onto (ss ++ s ∷ []) ts ≡ stmts_onto ss (stmt s ts)
stmts_onto-push [] s ts = refl
stmts_onto-push (x ∷ ss) s ts = ap (stmt x) (stmts_onto-push ss s ts)

pub stmts_onto-none : (ss : List Stmt) → stmts_onto ss no_stmts ≡ stmts_of ss
stmts_onto-none [] = refl
stmts_onto-none (s ∷ ss) = ap (stmt s) (stmts_onto-none ss)

-- These statements were read; the statements of the whole are these, more that stand here, and no others.
pub record StmtsSoFar (b : List (List ℕ)) (m : ℕ) (whole : List Token) (read : List Stmt) (now : List Token) : Type 0 where
  pub grows : (ss : Stmts) (r : List Token) → ReadsStmts b m now ss r → ReadsStmts b m whole (stmts_onto read ss) r
  pub only : (all : Stmts) (r : List Token) → ReadsStmts b m whole all r → (more : Stmts) × (all ≡ stmts_onto read more) × ReadsStmts b m now more r

pub stmts_start : (b : List (List ℕ)) (m : ℕ) (whole : List Token) → StmtsSoFar b m whole [] whole
stmts_start b m whole = record { grows = λ ss r h. h; only = λ all r h. (all, refl, h) }

stmts_first : (b : List (List ℕ)) (m : ℕ) (now new r : List Token) (s : Stmt) (more : Stmts) → ends_block now ≡ false → ReadsStmt b m now s new → ReadsStmts b m now more r → (ts : Stmts) × (more ≡ stmt s ts) × ReadsStmts b m new ts r
stmts_first b m now new r s no_stmts open_ one h = absurd (false≢true (sym open_ ∙ ap ends_block h.spelled ∙ h.ends))
stmts_first b m now new r s (stmt t ts) open_ one h =
    let same = stmt_unique b t s (stmts_before ts r) new (sym h.spelled ∙ one.spelled) (ends_stmts t ts r h.ends) one.ends h.scoped.0 one.scoped in
    (ts, ap (λ x. stmt x ts) same.0, record { spelled = sym same.1; ends = h.ends; scoped = h.scoped.1; nests = omega (arith, h.nests) })

stmts_next-only : (b : List (List ℕ)) (m : ℕ) (whole now new : List Token) (read : List Stmt) (s : Stmt) → StmtsSoFar b m whole read now → ends_block now ≡ false → ReadsStmt b m now s new → (all : Stmts) (r : List Token) → ReadsStmts b m whole all r → (more : Stmts) × (all ≡ stmts_onto (read ++ s ∷ []) more) × ReadsStmts b m new more r
stmts_next-only b m whole now new read s h open_ one all r a =
    let p = h.only all r a in
    let f = stmts_first b m now new r s p.0 open_ one p.2 in
    (f.0, p.1 ∙ ap (stmts_onto read) f.1 ∙ sym (stmts_onto-push read s f.0), f.2)

-- where the statements behind it end, the statement ends too
pub ends_before_stmts : (s : Stmt) (new : List Token) (ss : Stmts) (r : List Token) → new ≡ stmts_before ss r → ends_block r ≡ true → EndsStmt s new
ends_before_stmts s new ss r e h = subst (EndsStmt s) (sym e) (ends_stmts s ss r h)

stmts_next-grows : (b : List (List ℕ)) (m : ℕ) (whole now new : List Token) (read : List Stmt) (s : Stmt) → StmtsSoFar b m whole read now → ReadsStmt b m now s new → (ss : Stmts) (r : List Token) → ReadsStmts b m new ss r → ReadsStmts b m whole (stmts_onto (read ++ s ∷ []) ss) r
stmts_next-grows b m whole now new read s h one ss r a =
    let longer : ReadsStmts b m now (stmt s ss) r = record { spelled = one.spelled ∙ ap (stmt_before s) a.spelled; ends = a.ends; scoped = (one.scoped, a.scoped); nests = omega (arith, one.nests, a.nests) } in
    subst (λ ts. ReadsStmts b m whole ts r) (sym (stmts_onto-push read s ss)) (h.grows (stmt s ss) r longer)

pub stmts_next : (b : List (List ℕ)) (m : ℕ) (whole now new : List Token) (read : List Stmt) (s : Stmt) → StmtsSoFar b m whole read now → ends_block now ≡ false → ReadsStmt b m now s new → StmtsSoFar b m whole (read ++ s ∷ []) new
stmts_next b m whole now new read s h open_ one = record { grows = stmts_next-grows b m whole now new read s h one; only = stmts_next-only b m whole now new read s h open_ one }

stmts_stop : (b : List (List ℕ)) (m : ℕ) (now r : List Token) (more : Stmts) → ends_block now ≡ false → ((s : Stmt) (rest : List Token) → ReadsStmt b m now s rest → ⊥) → ReadsStmts b m now more r → ⊥
stmts_stop b m now r no_stmts open_ none h = false≢true (sym open_ ∙ ap ends_block h.spelled ∙ h.ends)
stmts_stop b m now r (stmt t ts) open_ none h = none t (stmts_before ts r) (record { spelled = h.spelled; ends = ends_stmts t ts r h.ends; scoped = h.scoped.0; nests = omega (arith, h.nests) })

pub stmts_refused : (b : List (List ℕ)) (m : ℕ) (whole now : List Token) (read : List Stmt) → StmtsSoFar b m whole read now → ends_block now ≡ false → ((s : Stmt) (rest : List Token) → ReadsStmt b m now s rest → ⊥) → (all : Stmts) (r : List Token) → ReadsStmts b m whole all r → ⊥
stmts_refused b m whole now read h open_ none all r a = let p = h.only all r a in stmts_stop b m now r p.0 open_ none p.2

pub stmts_end : (b : List (List ℕ)) (m : ℕ) (whole now : List Token) (read : List Stmt) → StmtsSoFar b m whole read now → ends_block now ≡ true → ReadsStmts b m whole (stmts_of read) now
stmts_end b m whole now read h e =
    subst (λ ss. ReadsStmts b m whole ss now) (stmts_onto-none read) (h.grows no_stmts now (record { spelled = refl; ends = e; scoped = tt; nests = omega arith }))

-- What a statement that begins with this keyword is made of.

abbrev front : List Token → Option Keyword
front ts = keyword_at (first ts)

pub emit_form : (b : List (List ℕ)) (m : ℕ) (whole r : List Token) (s : Stmt) → ReadsStmt b m (word keyword.Emit ∷ whole) s r → (k : Expr) × (v : Expr) × (s ≡ emit k v) × ReadsExpr b m whole k (Mark Comma ∷ expr_before v r) × ReadsExpr b m (expr_before v r) v r
emit_form b m whole r (emit k v) h =
    (k, v, refl, record { spelled = ap behind h.spelled; ends = ends_at k (Mark Comma ∷ expr_before v r) refl; scoped = h.scoped.0; nests = omega (arith, h.nests) }, record { spelled = refl; ends = h.ends; scoped = h.scoped.1; nests = omega (arith, h.nests) })
emit_form b m whole r (when a c ss) h = let f : Some keyword.Emit ≡ Some keyword.If = ap front h.spelled in absurd cc
emit_form b m whole r (each n e ss) h = let f : Some keyword.Emit ≡ Some keyword.For = ap front h.spelled in absurd cc

pub emit_no_comma : (b : List (List ℕ)) (m : ℕ) (whole new : List Token) (key : Expr) → ReadsExpr b m whole key new → ((rest : List Token) → new ≡ Mark Comma ∷ rest → ⊥) → (s : Stmt) (r : List Token) → ReadsStmt b m (word keyword.Emit ∷ whole) s r → ⊥
emit_no_comma b m whole new key one none s r h =
    let f = emit_form b m whole r s h in
    none (expr_before f.1 r) (expr_once b m m whole new (Mark Comma ∷ expr_before f.1 r) key f.0 one f.3).1

pub emit_no_value : (b : List (List ℕ)) (m : ℕ) (whole new left : List Token) (key : Expr) → ReadsExpr b m whole key new → new ≡ Mark Comma ∷ left → ((v : Expr) (rest : List Token) → ReadsExpr b m left v rest → ⊥) → (s : Stmt) (r : List Token) → ReadsStmt b m (word keyword.Emit ∷ whole) s r → ⊥
emit_no_value b m whole new left key one e none s r h =
    let f = emit_form b m whole r s h in
    let same : left ≡ expr_before f.1 r = ap behind (sym e ∙ (expr_once b m m whole new (Mark Comma ∷ expr_before f.1 r) key f.0 one f.3).1) in
    none f.1 r (subst (λ ts. ReadsExpr b m ts f.1 r) (sym same) f.4)

-- the tokens of a block in braces, and then the rest
abbrev pub block_before : Stmts → List Token → List Token
block_before ss r = Mark OpenBrace ∷ stmts_before ss (Mark CloseBrace ∷ r)

pub record WhenForm (b : List (List ℕ)) (m : ℕ) (whole r : List Token) (s : Stmt) : Type 0 where
  pub left : Expr
  pub right : Expr
  pub block : Stmts
  pub is : s ≡ when left right block
  pub reads_left : ReadsExpr b m whole left (Mark Equals ∷ expr_before right (block_before block r))
  pub reads_right : ReadsExpr b m (expr_before right (block_before block r)) right (block_before block r)
  pub room : 0 < m
  pub reads_block : ReadsBlock b (m - 1) (block_before block r) block r

pub when_form : (b : List (List ℕ)) (m : ℕ) (whole r : List Token) (s : Stmt) → ReadsStmt b m (word keyword.If ∷ whole) s r → WhenForm b m whole r s
when_form b m whole r (when a c ss) h = record {
  left = a;
  right = c;
  block = ss;
  is = refl;
  reads_left = record { spelled = ap behind h.spelled; ends = ends_at a (Mark Equals ∷ expr_before c (block_before ss r)) refl; scoped = h.scoped.0; nests = omega (arith, h.nests) };
  reads_right = record { spelled = refl; ends = ends_at c (block_before ss r) refl; scoped = h.scoped.1; nests = omega (arith, h.nests) };
  room = omega (arith, h.nests);
  reads_block = record { spelled = refl; scoped = h.scoped.2; nests = omega (arith, h.nests) };
}
when_form b m whole r (emit k v) h = let f : Some keyword.If ≡ Some keyword.Emit = ap front h.spelled in absurd cc
when_form b m whole r (each n e ss) h = let f : Some keyword.If ≡ Some keyword.For = ap front h.spelled in absurd cc

pub when_no_equals : (b : List (List ℕ)) (m : ℕ) (whole new : List Token) (left : Expr) → ReadsExpr b m whole left new → ((rest : List Token) → new ≡ Mark Equals ∷ rest → ⊥) → (s : Stmt) (r : List Token) → ReadsStmt b m (word keyword.If ∷ whole) s r → ⊥
when_no_equals b m whole new left one none s r h =
    let f = when_form b m whole r s h in
    none (expr_before f.right (block_before f.block r)) (expr_once b m m whole new _ left f.left one f.reads_left).1

-- what stands behind the equals sign
when_right : (b : List (List ℕ)) (m : ℕ) (whole new more r : List Token) (left : Expr) (s : Stmt) (f : WhenForm b m whole r s) → ReadsExpr b m whole left new → new ≡ Mark Equals ∷ more → more ≡ expr_before f.right (block_before f.block r)
when_right b m whole new more r left s f one e = ap behind (sym e ∙ (expr_once b m m whole new _ left f.left one f.reads_left).1)

pub when_no_right : (b : List (List ℕ)) (m : ℕ) (whole new more : List Token) (left : Expr) → ReadsExpr b m whole left new → new ≡ Mark Equals ∷ more → ((e : Expr) (rest : List Token) → ReadsExpr b m more e rest → ⊥) → (s : Stmt) (r : List Token) → ReadsStmt b m (word keyword.If ∷ whole) s r → ⊥
when_no_right b m whole new more left one e none s r h =
    let f = when_form b m whole r s h in
    none f.right (block_before f.block r) (subst (λ ts. ReadsExpr b m ts f.right (block_before f.block r)) (sym (when_right b m whole new more r left s f one e)) f.reads_right)

pub when_no_block : (b : List (List ℕ)) (m : ℕ) (whole new more last : List Token) (left right : Expr) → ReadsExpr b m whole left new → new ≡ Mark Equals ∷ more → ReadsExpr b m more right last → ((ss : Stmts) (rest : List Token) → ReadsBlock b (m - 1) last ss rest → ⊥) → (s : Stmt) (r : List Token) → ReadsStmt b m (word keyword.If ∷ whole) s r → ⊥
when_no_block b m whole new more last left right one e two none s r h =
    let f = when_form b m whole r s h in
    let right_too = subst (λ ts. ReadsExpr b m ts f.right (block_before f.block r)) (sym (when_right b m whole new more r left s f one e)) f.reads_right in
    let same = (expr_once b m m more last (block_before f.block r) right f.right two right_too).1 in
    none f.block r (subst (λ ts. ReadsBlock b (m - 1) ts f.block r) (sym same) f.reads_block)

pub record EachForm (b : List (List ℕ)) (m : ℕ) (whole r : List Token) (s : Stmt) : Type 0 where
  pub name : List ℕ
  pub source : Expr
  pub block : Stmts
  pub is : s ≡ each name source block
  pub spelled : whole ≡ Word name ∷ word keyword.In ∷ expr_before source (block_before block r)
  pub plain : keyword_of name ≡ None
  pub unbound : is_among name b ≡ false
  pub reads_source : ReadsExpr b m (expr_before source (block_before block r)) source (block_before block r)
  pub room : 0 < m
  pub reads_block : ReadsBlock (b ++ name ∷ []) (m - 1) (block_before block r) block r

pub each_form : (b : List (List ℕ)) (m : ℕ) (whole r : List Token) (s : Stmt) → ReadsStmt b m (word keyword.For ∷ whole) s r → EachForm b m whole r s
each_form b m whole r (each n e ss) h = record {
  name = n;
  source = e;
  block = ss;
  is = refl;
  spelled = ap behind h.spelled;
  plain = h.scoped.0;
  unbound = h.scoped.1;
  reads_source = record { spelled = refl; ends = ends_at e (block_before ss r) refl; scoped = h.scoped.2; nests = omega (arith, h.nests) };
  room = omega (arith, h.nests);
  reads_block = record { spelled = refl; scoped = h.scoped.3; nests = omega (arith, h.nests) };
}
each_form b m whole r (emit k v) h = let f : Some keyword.For ≡ Some keyword.Emit = ap front h.spelled in absurd cc
each_form b m whole r (when a c ss) h = let f : Some keyword.For ≡ Some keyword.If = ap front h.spelled in absurd cc

pub each_no_in : (b : List (List ℕ)) (m : ℕ) (whole left : List Token) (name : List ℕ) → whole ≡ Word name ∷ left → ((rest : List Token) → left ≡ word keyword.In ∷ rest → ⊥) → (s : Stmt) (r : List Token) → ReadsStmt b m (word keyword.For ∷ whole) s r → ⊥
each_no_in b m whole left name e none s r h =
    let f = each_form b m whole r s h in
    none (expr_before f.source (block_before f.block r)) (ap behind (sym e ∙ f.spelled))

pub each_no_block : (b : List (List ℕ)) (m : ℕ) (whole left more last : List Token) (name : List ℕ) (source : Expr) → whole ≡ Word name ∷ left → left ≡ word keyword.In ∷ more → ReadsExpr b m more source last → ((ss : Stmts) (rest : List Token) → ReadsBlock (b ++ name ∷ []) (m - 1) last ss rest → ⊥) → (s : Stmt) (r : List Token) → ReadsStmt b m (word keyword.For ∷ whole) s r → ⊥
each_no_block b m whole left more last name source e k one none s r h =
    let f = each_form b m whole r s h in
    let all : Word name ∷ word keyword.In ∷ more ≡ Word f.name ∷ word keyword.In ∷ expr_before f.source (block_before f.block r) = ap (λ ts. Word name ∷ ts) (sym k) ∙ sym e ∙ f.spelled in
    let named : f.name ≡ name = cc in
    let source_here : more ≡ expr_before f.source (block_before f.block r) = ap (λ ts. behind (behind ts)) all in
    let source_too = subst (λ ts. ReadsExpr b m ts f.source (block_before f.block r)) (sym source_here) f.reads_source in
    let same = (expr_once b m m more last (block_before f.block r) source f.source one source_too).1 in
    let here = subst (λ ts. ReadsBlock (b ++ f.name ∷ []) (m - 1) ts f.block r) (sym same) f.reads_block in
    none f.block r (subst (λ n. ReadsBlock (b ++ n ∷ []) (m - 1) last f.block r) named here)

-- the statements were read, and no brace closes the block
pub block_no_close : (b : List (List ℕ)) (m : ℕ) (whole left last : List Token) (read : Stmts) → whole ≡ Mark OpenBrace ∷ left → ReadsStmts b m left read last → ((rest : List Token) → last ≡ Mark CloseBrace ∷ rest → ⊥) → (ss : Stmts) (r : List Token) → ReadsBlock b m whole ss r → ⊥
block_no_close b m whole left last read e one none ss r h =
    let inside : ReadsStmts b m left ss (Mark CloseBrace ∷ r) = record { spelled = ap behind (sym e ∙ h.spelled); ends = refl; scoped = h.scoped; nests = h.nests } in
    none r (stmts_once b m m left last (Mark CloseBrace ∷ r) read ss one inside).1

-- a statement begins with one of three keywords
pub no_statement : (b : List (List ℕ)) (m : ℕ) (whole : List Token) → ((rest : List Token) → whole ≡ word keyword.Emit ∷ rest → ⊥) → ((rest : List Token) → whole ≡ word keyword.If ∷ rest → ⊥) → ((rest : List Token) → whole ≡ word keyword.For ∷ rest → ⊥) → (s : Stmt) (r : List Token) → ReadsStmt b m whole s r → ⊥
no_statement b m whole x y z (emit k v) r h = x _ h.spelled
no_statement b m whole x y z (when a c ss) r h = y _ h.spelled
no_statement b m whole x y z (each n e ss) r h = z _ h.spelled

pub err_weaker : {X Y : Type 0} (r : Result X Y) (P Q : Y → Type 0) → ((y : Y) → P y → Q y) → IfErr r P → IfErr r Q
err_weaker (Ok x) P Q f h = tt
err_weaker (Err y) P Q f h = f y h
