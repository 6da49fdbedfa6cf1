-- The program that a source compiles as.
use Rattle.std.specs.Prelude.{◌≡◌, ℕ, List, [], ◌∷◌, Bool, true, false, refl, Option, Some, None, ◌⊎◌, IsUtf8, FitsSigned}
use Rattle.std.proofs.Common.{◌∙◌, sym, ap, subst, inl, inr}
use Rattle.std.specs.List.{AllByRecursion}
use Rattle.std.specs.Int.{w64}
use Rattle.std.specs.Str.{is_utf8}
use Rattle.std.proofs.lemmas.Bool.{false≢true}
use Rattle.std.proofs.lemmas.Str.{IsUtf8-from_is_utf8, is_utf8-from_IsUtf8}
use Rattle.map_lang.specs.declared.token.Token.{Token}
use Rattle.map_lang.specs.declared.syntax.Step.{Step}
use Rattle.map_lang.specs.declared.syntax.Step.TheVariants.{Member, Element, Key}
use Rattle.map_lang.specs.declared.syntax.Literal.{Literal}
use Rattle.map_lang.specs.declared.syntax.Literal.TheVariants as value
use Rattle.map_lang.specs.Syntax.{Expr, path, literal, array, Exprs, no_exprs, expr, Stmt, emit, when, each, Stmts, no_stmts, stmt}
use Rattle.map_lang.specs.Tokens.{AreTokens}
use Rattle.map_lang.specs.Grammar.{literal_token, steps_before, expr_before, exprs_before, more_before, stmt_before, stmts_before, tokens_of, Compiles}
use Rattle.map_lang.proofs.Lexed.{tokens_once}
use Rattle.map_lang.proofs.Compiled.{compiled_once}
use Rattle.map_server.specs.SourceTokens.{IsProperToken, HasTokens, has_tokens}
use Rattle.map_server.specs.TokenPrograms.{HasProgram, has_program}

-- ---- each number of a program has 64 bits, and each text is UTF-8

abbrev pub IsProperLiteral : Literal → Type 0
IsProperLiteral (value.Integer n) = FitsSigned w64 n
IsProperLiteral (value.Text t) = IsUtf8 t
IsProperLiteral value.True = Unit {0}
IsProperLiteral value.False = Unit {0}
IsProperLiteral value.Null = Unit {0}

abbrev mutual
  pub IsProper : Expr → Type 0
  IsProper (path name steps) = Unit {0}
  IsProper (literal l) = IsProperLiteral l
  IsProper (array es) = AreProper es

  pub AreProper : Exprs → Type 0
  AreProper no_exprs = Unit {0}
  AreProper (expr e es) = IsProper e × AreProper es

abbrev mutual
  pub IsProperStmt : Stmt → Type 0
  IsProperStmt (emit key value) = IsProper key × IsProper value
  IsProperStmt (when left right block) = IsProper left × IsProper right × AreProperStmts block
  IsProperStmt (each name source block) = IsProper source × AreProperStmts block

  pub AreProperStmts : Stmts → Type 0
  AreProperStmts no_stmts = Unit {0}
  AreProperStmts (stmt s ss) = IsProperStmt s × AreProperStmts ss

abbrev Each : List Token → Type 0
Each ts = AllByRecursion IsProperToken ts

steps_proper : (ss : List Step) (r : List Token) → Each (steps_before ss r) → Each r
steps_proper [] r h = h
steps_proper (Member name ∷ ss) r h = steps_proper ss r h.1.1
steps_proper (Element n ∷ ss) r h = steps_proper ss r h.1.1.1
steps_proper (Key name ∷ ss) r h = steps_proper ss r h.1.1.1

literal_proper : (l : Literal) → IsProperToken (literal_token l) → IsProperLiteral l
literal_proper (value.Integer n) h = h
literal_proper (value.Text t) h = h
literal_proper value.True h = tt
literal_proper value.False h = tt
literal_proper value.Null h = tt

mutual
  expr_proper : (e : Expr) (r : List Token) → Each (expr_before e r) → IsProper e × Each r
  expr_proper (path name ss) r h = (tt, steps_proper ss r h.1)
  expr_proper (literal l) r h = (literal_proper l h.0, h.1)
  expr_proper (array es) r h = exprs_proper es r h.1

  exprs_proper : (es : Exprs) (r : List Token) → Each (exprs_before es r) → AreProper es × Each r
  exprs_proper no_exprs r h = (tt, h.1)
  exprs_proper (expr e es) r h =
      let first = expr_proper e (more_before es r) h in
      let rest = more_proper es r first.1 in
      ((first.0, rest.0), rest.1)

  more_proper : (es : Exprs) (r : List Token) → Each (more_before es r) → AreProper es × Each r
  more_proper no_exprs r h = (tt, h.1)
  more_proper (expr e es) r h =
      let first = expr_proper e (more_before es r) h.1 in
      let rest = more_proper es r first.1 in
      ((first.0, rest.0), rest.1)

mutual
  stmt_proper : (s : Stmt) (r : List Token) → Each (stmt_before s r) → IsProperStmt s × Each r
  stmt_proper (emit key value) r h =
      let first = expr_proper key _ h.1 in
      let second = expr_proper value r first.1.1 in
      ((first.0, second.0), second.1)
  stmt_proper (when left right block) r h =
      let first = expr_proper left _ h.1 in
      let second = expr_proper right _ first.1.1 in
      let inner = stmts_proper block _ second.1.1 in
      ((first.0, second.0, inner.0), inner.1.1)
  stmt_proper (each name source block) r h =
      let first = expr_proper source _ h.1.1.1 in
      let inner = stmts_proper block _ first.1.1 in
      ((first.0, inner.0), inner.1.1)

  stmts_proper : (ss : Stmts) (r : List Token) → Each (stmts_before ss r) → AreProperStmts ss × Each r
  stmts_proper no_stmts r h = (tt, h)
  stmts_proper (stmt s ss) r h =
      let first = stmt_proper s (stmts_before ss r) h in
      let rest = stmts_proper ss r first.1 in
      ((first.0, rest.0), rest.1)

-- ---- whether a source compiles

record IsFound (source : List ℕ) (program : Stmts) : Type 0 where
  compiles : Compiles source program
  proper : AreProperStmts program

abbrev HasCompiled : List ℕ → Type 0
HasCompiled source = ((program : Stmts) × IsFound source program) ⊎ ((program : Stmts) → Compiles source program → ⊥)

has_compiled_as : (source : List ℕ) (ts : List Token) → AreTokens source ts → Each ts → HasProgram ts → HasCompiled source
has_compiled_as source ts x all (inl (program, is)) =
    inl (
      program,
      record {
        compiles = record { tokens = subst (AreTokens source) is.spelled x; scoped = is.scoped; nests = is.nests };
        proper = (stmts_proper program [] (subst Each is.spelled all)).0;
      },
    )
has_compiled_as source ts x all (inr none) =
    inr (λ program c. none program (record { spelled = tokens_once source ts (tokens_of program) x c.tokens; scoped = c.scoped; nests = c.nests }))

has_compiled_from : (source : List ℕ) → HasTokens source → HasCompiled source
has_compiled_from source (inl (ts, x, all)) = has_compiled_as source ts x all (has_program ts)
has_compiled_from source (inr none) = inr (λ program c. none (tokens_of program) c.tokens)

found_in : (source : List ℕ) → HasCompiled source → Option Stmts
found_in source (inl (program, is)) = Some program
found_in source (inr none) = None

-- a source that is no UTF-8 compiles as nothing
program_of_text : (source : List ℕ) (b : Bool) → is_utf8 source ≡ b → Option Stmts
program_of_text source true e = found_in source (has_compiled_from source (has_tokens source (IsUtf8-from_is_utf8 source e)))
program_of_text source false e = None

-- the one program that the source compiles as, where there is one
pub program_of : List ℕ → Option Stmts
program_of source = program_of_text source (is_utf8 source) refl

-- ---- what it says

found_in-sound : (source : List ℕ) (h : HasCompiled source) (program : Stmts) → found_in source h ≡ Some program → IsFound source program
unfolding found_in
found_in-sound source (inl (p, is)) program e = let same : p ≡ program = cc in subst (IsFound source) same is
found_in-sound source (inr none) program e = absurd cc

found_in-complete : (source : List ℕ) (h : HasCompiled source) (program : Stmts) → Compiles source program → found_in source h ≡ Some program
unfolding found_in
found_in-complete source (inl (p, is)) program c = ap Some (compiled_once source p program is.compiles c)
found_in-complete source (inr none) program c = absurd (none program c)

text-sound : (source : List ℕ) (b : Bool) (u : is_utf8 source ≡ b) (program : Stmts) → program_of_text source b u ≡ Some program → IsUtf8 source × IsFound source program
unfolding program_of_text
text-sound source true u program e =
    (IsUtf8-from_is_utf8 source u, found_in-sound source (has_compiled_from source (has_tokens source (IsUtf8-from_is_utf8 source u))) program e)
text-sound source false u program e = absurd cc

text-complete : (source : List ℕ) (b : Bool) (u : is_utf8 source ≡ b) (program : Stmts) → IsUtf8 source → Compiles source program → program_of_text source b u ≡ Some program
unfolding program_of_text
text-complete source true u program utf8 c = found_in-complete source (has_compiled_from source (has_tokens source (IsUtf8-from_is_utf8 source u))) program c
text-complete source false u program utf8 c = absurd (false≢true (sym u ∙ is_utf8-from_IsUtf8 source utf8))

pub program_of-sound : (source : List ℕ) (program : Stmts) → program_of source ≡ Some program → IsUtf8 source × Compiles source program
unfolding program_of
program_of-sound source program e = let h = text-sound source (is_utf8 source) refl program e in (h.0, h.1.compiles)

pub program_of-proper : (source : List ℕ) (program : Stmts) → program_of source ≡ Some program → AreProperStmts program
unfolding program_of
program_of-proper source program e = (text-sound source (is_utf8 source) refl program e).1.proper

pub program_of-complete : (source : List ℕ) (program : Stmts) → IsUtf8 source → Compiles source program → program_of source ≡ Some program
unfolding program_of
program_of-complete source program utf8 c = text-complete source (is_utf8 source) refl program utf8 c

found_in-none : (source : List ℕ) (h : HasCompiled source) → ((program : Stmts) → Compiles source program → ⊥) → found_in source h ≡ None
unfolding found_in
found_in-none source (inl (p, is)) refused = absurd (refused p is.compiles)
found_in-none source (inr none) refused = refl

text-none : (source : List ℕ) (b : Bool) (u : is_utf8 source ≡ b) → ((program : Stmts) → Compiles source program → ⊥) → program_of_text source b u ≡ None
unfolding program_of_text
text-none source true u refused = found_in-none source (has_compiled_from source (has_tokens source (IsUtf8-from_is_utf8 source u))) refused
text-none source false u refused = refl

pub program_of-none : (source : List ℕ) → ((program : Stmts) → Compiles source program → ⊥) → program_of source ≡ None
unfolding program_of
program_of-none source refused = text-none source (is_utf8 source) refl refused
