use Rattle.std.proofs.Common.{◌≡◌, ◌<◌, ◌==◌, ℕ, List, [], ◌∷◌, length, true, false, refl, arith}
use Rattle.std.proofs.lemmas.Bool.Decides.{nat_tests}
use Rattle.std.proofs.lemmas.Result.{err_from_is_err_and}
use Rattle.map_lang.proofs.Lexed.{tokens_start, tokens_next, tokens_refused, tokens_end}
use Rattle.map_lang.proofs.lex.lex.Goals as goal

pub tokens-init : goal.tokens-init
tokens-init c = rw c.new-tokens.ensures.items (tokens_start c.args.source.now c.after_blanks-rest.result.now c.after_blanks-rest.ensures, c.after_blanks-rest.ensures.3, c.after_blanks-rest.utf8)

pub is_empty-requires-text-self : goal.is_empty-requires-text-self
is_empty-requires-text-self c = λ _. c.tokens.invariant.2

not_empty : (n : ℕ) → false ≡ (n == 0) → 0 < n
not_empty n h = grind (arith, nat_tests)

is_empty : (bs : List ℕ) → true ≡ (length bs == 0) → bs ≡ []
is_empty [] h = refl
is_empty (b ∷ bs) h = let none : length (b ∷ bs) ≡ 0 = grind (arith, nat_tests) in absurd (omega arith)

pub returns-in_err-token-clause-refused : goal.returns-in_err-token-clause-refused
returns-in_err-token-clause-refused c =
    let p = err_from_is_err_and c.from_residual.result c.from_residual.ensures.1 in
    let some = not_empty (length c.tokens.rest.now) c.tokens-test.ensures in
    rw p.1 (λ h. tokens_refused c.args.source.now c.tokens.rest.now c.tokens.tokens.items c.tokens.invariant.0 some c.tokens.invariant.1 (c.in_err-token.ensures.refused cc))

pub tokens-preserved : goal.tokens-preserved
tokens-preserved c =
    let blanks = rw c.range_from.ensures.value at c.after_blanks-rest-in-tokens.ensures in (
      rw c.in_ok-push_back.ensures.items (tokens_next c.args.source.now c.tokens.rest.now c.after_blanks-rest-in-tokens.result.now c.tokens.tokens.items c.in_ok-token.token c.in_ok-token.len c.tokens.invariant.0 c.in_ok-token.ensures.found blanks),
      c.after_blanks-rest-in-tokens.ensures.3,
      c.after_blanks-rest-in-tokens.utf8,
    )

pub returns-clause-found : goal.returns-clause-found
returns-clause-found c = tokens_end c.args.source.now c.tokens.rest.now c.tokens.tokens.items c.tokens.invariant.0 (is_empty c.tokens.rest.now c.tokens-test.ensures)
