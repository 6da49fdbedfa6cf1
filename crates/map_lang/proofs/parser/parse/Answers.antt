-- The program is read from the tokens of the source, to their end.
use Rattle.std.proofs.Common.{◌≡◌, ◌==◌, ℕ, [], ◌∷◌, false, length, refl, sym, ap, subst, ◌∙◌, arith}
use Rattle.std.proofs.lemmas.Result.{err_from_is_err_and}
use Rattle.std.proofs.lemmas.Bool.Decides.{nat_tests}
use Rattle.map_lang.specs.Syntax.{stmts_of}
use Rattle.map_lang.specs.Grammar.{document_name, nesting_limit}
use Rattle.map_lang.specs.Readings.{ReadsStmts}
use Rattle.map_lang.proofs.Continued.{stmts_once}
use Rattle.map_lang.proofs.Compiled.{compiled_reads}
use Rattle.map_lang.proofs.parser.parse.Goals as goal

not_zero : (n : ℕ) → (n == 0) ≡ false → n ≡ 0 → ⊥
not_zero n h e = grind (arith, nat_tests)

pub returns-in_err-statements-clause-refused : goal.returns-in_err-statements-clause-refused
returns-in_err-statements-clause-refused c =
    let p = err_from_is_err_and c.from_residual-in_err-statements.result c.from_residual-in_err-statements.ensures.1 in
    let bound : c.push.new.self.items ≡ document_name ∷ [] = rw (c.in_ok-push.ensures.items, c.new-bound.ensures.items, c.in_ok-from_text.ensures) refl in
    rw p.1 (λ h program x. c.in_err-statements.ensures.refused (cc) program []
    (subst (λ b. ReadsStmts b nesting_limit c.in_ok-tokens.tokens.items program []) (sym bound) (compiled_reads c.args.source.now c.in_ok-tokens.tokens.items program c.in_ok-tokens.ensures.found x)))

pub returns-then-not-is_empty-clause-refused : goal.returns-then-not-is_empty-clause-refused
returns-then-not-is_empty-clause-refused c =
    let bound : c.push.new.self.items ≡ document_name ∷ [] = rw (c.in_ok-push.ensures.items, c.new-bound.ensures.items, c.in_ok-from_text.ensures) refl in
    let found = subst (λ b. ReadsStmts b nesting_limit c.in_ok-tokens.tokens.items (stmts_of c.in_ok-statements.statements) c.block.new.tokens.items) bound c.in_ok-statements.ensures.found in
    λ _ program x.
    let gone : c.block.new.tokens.items ≡ [] = (stmts_once (document_name ∷ []) nesting_limit nesting_limit c.in_ok-tokens.tokens.items c.block.new.tokens.items [] (stmts_of c.in_ok-statements.statements) program found (compiled_reads c.args.source.now c.in_ok-tokens.tokens.items program c.in_ok-tokens.ensures.found x)).1 in
    let filled : c.is_empty.result ≡ false = cc in
    let none : c.block.new.tokens.len ≡ 0 = c.block.new.tokens.ok.0 ∙ ap length gone in
    not_zero c.block.new.tokens.len (sym c.is_empty.ensures ∙ filled) none
