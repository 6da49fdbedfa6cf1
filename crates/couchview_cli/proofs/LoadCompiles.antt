-- The map source of a load compiles.
use Rattle.std.proofs.Common.{◌≡◌, ◌++◌, ℕ, List, [], ◌∷◌, true, codes, refl, ap, arith}
use Rattle.std.specs.Prelude.{is_some}
use Rattle.map_lang.specs.declared.syntax.Step.TheVariants.{Member}
use Rattle.map_lang.specs.declared.token.Keyword.TheVariants.{Emit}
use Rattle.map_lang.specs.declared.token.Mark.TheVariants.{CloseBracket, Comma, Dot, OpenBracket}
use Rattle.map_lang.specs.declared.token.Token.{Token}
use Rattle.map_lang.specs.declared.token.Token.TheVariants.{Mark, Word}
use Rattle.map_lang.specs.Grammar.{tokens_of, word, Compiles}
use Rattle.map_lang.specs.Syntax.{Expr, Stmts, array, emit, expr, no_exprs, no_stmts, path, stmt}
use Rattle.map_lang.specs.Tokens.{text_of, AreTokens, Begins, IsWhole}
use Rattle.map_server.specs.Pick.{pick}
use Rattle.map_server.specs.Programs.{program_of-complete}
use Rattle.load_lines.specs.Documents.{load_map}
use Rattle.load_lines.proofs.Revisions.{IsUtf8-of}

-- a member of the document
abbrev member_of : List ℕ → Expr
member_of name = path (codes "doc") (Member name ∷ [])

abbrev load_program : Stmts
load_program = stmt (emit (array (expr (member_of (codes "group")) (expr (member_of (codes "amount")) no_exprs))) (member_of (codes "amount"))) no_stmts

-- a token at the beginning of a source, or behind a space
at_once : (token : Token) (rest : List ℕ) → IsWhole token rest → Begins (text_of token ++ rest) token rest
at_once token rest whole = record { blanks = []; are_blanks = refl; whole = refl; token_whole = whole }

spaced : (token : Token) (rest : List ℕ) → IsWhole token rest → Begins (32 ∷ (text_of token ++ rest)) token rest
spaced token rest whole = record { blanks = 32 ∷ []; are_blanks = refl; whole = refl; token_whole = whole }

-- token by token
tokens : AreTokens load_map (tokens_of load_program)
tokens = (codes " [doc.group, doc.amount], doc.amount", at_once (word Emit) _ (refl, refl, refl), (codes "doc.group, doc.amount], doc.amount", spaced (Mark OpenBracket) _ tt, (codes ".group, doc.amount], doc.amount", at_once (Word (codes "doc")) _ (refl, refl, refl), (codes "group, doc.amount], doc.amount", at_once (Mark Dot) _ tt, (codes ", doc.amount], doc.amount", at_once (Word (codes "group")) _ (refl, refl, refl), (codes " doc.amount], doc.amount", at_once (Mark Comma) _ tt, (codes ".amount], doc.amount", spaced (Word (codes "doc")) _ (refl, refl, refl), (codes "amount], doc.amount", at_once (Mark Dot) _ tt, (codes "], doc.amount", at_once (Word (codes "amount")) _ (refl, refl, refl), (codes ", doc.amount", at_once (Mark CloseBracket) _ tt, (codes " doc.amount", at_once (Mark Comma) _ tt, (codes ".amount", spaced (Word (codes "doc")) _ (refl, refl, refl), (codes "amount", at_once (Mark Dot) _ tt, ([], at_once (Word (codes "amount")) _ (refl, refl, refl), refl))))))))))))))

compiles : Compiles load_map load_program
compiles = record { tokens = tokens; scoped = ((((refl, refl), ((refl, refl), tt)), (refl, refl)), tt); nests = omega arith }

pub load_map_compiles : pick.compiles load_map ≡ true
load_map_compiles = ap is_some (program_of-complete load_map load_program (IsUtf8-of load_map refl) compiles)
