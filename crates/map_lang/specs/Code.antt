-- How the logic stores a program: as a tree of numbers that tells any two programs apart.
use Rattle.std.specs.Prelude.{◌≡◌, ℕ, List}
use Rattle.std.proofs.Common.{ap, arith, refl}
use Rattle.std.specs.Coded.{Coded, coded_list, coded_ℕ, coded_ℤ}
use base.Stored.{Gv, gnil, gnum, gcons, num}
use Rattle.map_lang.specs.declared.syntax.Step.{Step}
use Rattle.map_lang.specs.declared.syntax.Step.TheVariants.{Member, Element, Key}
use Rattle.map_lang.specs.declared.syntax.Literal.{Literal}
use Rattle.map_lang.specs.declared.syntax.Literal.TheVariants.{Integer, Text, True, False, Null}
use Rattle.map_lang.specs.Syntax.{Expr, path, literal, array, Exprs, no_exprs, expr, Stmt, emit, when, each, Stmts, no_stmts, stmt}

abbrev head : Gv → Gv
head gnil = gnil
head (gnum n) = gnil
head (gcons a b) = a

abbrev tail : Gv → Gv
tail gnil = gnil
tail (gnum n) = gnil
tail (gcons a b) = b

abbrev bytes_code : List ℕ → Gv
bytes_code = (coded_list coded_ℕ).code

abbrev step_code : Step → Gv
step_code (Member name) = gcons (gnum 0) (bytes_code name)
step_code (Element n) = gcons (gnum 1) (coded_ℤ.code n)
step_code (Key name) = gcons (gnum 2) (bytes_code name)

-- the number in front, which tells the kinds apart
abbrev tag : Gv → ℕ
tag g = num (head g)

pub step_code_inj : (s t : Step) → step_code s ≡ step_code t → s ≡ t
step_code_inj (Member m) (Member n) p = ap Member ((coded_list coded_ℕ).inj m n (ap tail p))
step_code_inj (Element m) (Element n) p = ap Element (coded_ℤ.inj m n (ap tail p))
step_code_inj (Key m) (Key n) p = ap Key ((coded_list coded_ℕ).inj m n (ap tail p))
step_code_inj s t p = let e : tag (step_code s) ≡ tag (step_code t) = ap tag p in absurd (omega arith)

abbrev coded_step : Coded Step
coded_step = record { code = step_code; inj = step_code_inj }

abbrev literal_code : Literal → Gv
literal_code (Integer n) = gcons (gnum 0) (coded_ℤ.code n)
literal_code (Text s) = gcons (gnum 1) (bytes_code s)
literal_code True = gcons (gnum 2) gnil
literal_code False = gcons (gnum 3) gnil
literal_code Null = gcons (gnum 4) gnil

pub literal_code_inj : (l m : Literal) → literal_code l ≡ literal_code m → l ≡ m
literal_code_inj (Integer m) (Integer n) p = ap Integer (coded_ℤ.inj m n (ap tail p))
literal_code_inj (Text s) (Text t) p = ap Text ((coded_list coded_ℕ).inj s t (ap tail p))
literal_code_inj True True p = refl
literal_code_inj False False p = refl
literal_code_inj Null Null p = refl
literal_code_inj l m p = let e : tag (literal_code l) ≡ tag (literal_code m) = ap tag p in absurd (omega arith)

abbrev mutual
  pub code : Expr → Gv
  code (path name steps) = gcons (gnum 0) (gcons (bytes_code name) ((coded_list coded_step).code steps))
  code (literal l) = gcons (gnum 1) (literal_code l)
  code (array es) = gcons (gnum 2) (exprs_code es)

  pub exprs_code : Exprs → Gv
  exprs_code no_exprs = gcons (gnum 0) gnil
  exprs_code (expr e es) = gcons (gnum 1) (gcons (code e) (exprs_code es))

mutual
  pub code_inj : (e f : Expr) → code e ≡ code f → e ≡ f
  code_inj (path m ss) (path n ts) p =
      λ i. path ((coded_list coded_ℕ).inj m n (ap (λ g. head (tail g)) p) i) ((coded_list coded_step).inj ss ts (ap (λ g. tail (tail g)) p) i)
  code_inj (literal l) (literal m) p = ap literal (literal_code_inj l m (ap tail p))
  code_inj (array es) (array fs) p = ap array (exprs_code_inj es fs (ap tail p))
  code_inj e f p = let t : tag (code e) ≡ tag (code f) = ap tag p in absurd (omega arith)

  pub exprs_code_inj : (es fs : Exprs) → exprs_code es ≡ exprs_code fs → es ≡ fs
  exprs_code_inj no_exprs no_exprs p = refl
  exprs_code_inj (expr e es) (expr f fs) p =
      λ i. expr (code_inj e f (ap (λ g. head (tail g)) p) i) (exprs_code_inj es fs (ap (λ g. tail (tail g)) p) i)
  exprs_code_inj es fs p = let t : tag (exprs_code es) ≡ tag (exprs_code fs) = ap tag p in absurd (omega arith)

abbrev pub coded_expr : Coded Expr
coded_expr = record { code = code; inj = code_inj }

abbrev mutual
  pub stmt_code : Stmt → Gv
  stmt_code (emit k v) = gcons (gnum 0) (gcons (code k) (code v))
  stmt_code (when a b ss) = gcons (gnum 1) (gcons (code a) (gcons (code b) (stmts_code ss)))
  stmt_code (each n e ss) = gcons (gnum 2) (gcons (bytes_code n) (gcons (code e) (stmts_code ss)))

  pub stmts_code : Stmts → Gv
  stmts_code no_stmts = gcons (gnum 0) gnil
  stmts_code (stmt s ss) = gcons (gnum 1) (gcons (stmt_code s) (stmts_code ss))

mutual
  pub stmt_code_inj : (s t : Stmt) → stmt_code s ≡ stmt_code t → s ≡ t
  stmt_code_inj (emit k v) (emit l w) p =
      λ i. emit (code_inj k l (ap (λ g. head (tail g)) p) i) (code_inj v w (ap (λ g. tail (tail g)) p) i)
  stmt_code_inj (when a b ss) (when c d ts) p =
      λ i. when (code_inj a c (ap (λ g. head (tail g)) p) i) (code_inj b d (ap (λ g. head (tail (tail g))) p) i) (stmts_code_inj ss ts (ap (λ g. tail (tail (tail g))) p) i)
  stmt_code_inj (each m e ss) (each n f ts) p =
      λ i. each ((coded_list coded_ℕ).inj m n (ap (λ g. head (tail g)) p) i) (code_inj e f (ap (λ g. head (tail (tail g))) p) i) (stmts_code_inj ss ts (ap (λ g. tail (tail (tail g))) p) i)
  stmt_code_inj s t p = let u : tag (stmt_code s) ≡ tag (stmt_code t) = ap tag p in absurd (omega arith)

  pub stmts_code_inj : (ss ts : Stmts) → stmts_code ss ≡ stmts_code ts → ss ≡ ts
  stmts_code_inj no_stmts no_stmts p = refl
  stmts_code_inj (stmt s ss) (stmt t ts) p =
      λ i. stmt (stmt_code_inj s t (ap (λ g. head (tail g)) p) i) (stmts_code_inj ss ts (ap (λ g. tail (tail g)) p) i)
  stmts_code_inj ss ts p = let u : tag (stmts_code ss) ≡ tag (stmts_code ts) = ap tag p in absurd (omega arith)

abbrev pub coded_stmt : Coded Stmt
coded_stmt = record { code = stmt_code; inj = stmt_code_inj }

abbrev pub coded_stmts : Coded Stmts
coded_stmts = record { code = stmts_code; inj = stmts_code_inj }
