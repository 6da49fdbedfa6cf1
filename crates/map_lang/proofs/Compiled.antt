-- What a source compiles as.
use Rattle.std.specs.Prelude.{ℕ, List, [], ◌∷◌, refl}
use Rattle.map_lang.specs.declared.token.Token.{Token}
use Rattle.map_lang.specs.Syntax.{Stmts}
use Rattle.map_lang.specs.Tokens.{AreTokens}
use Rattle.map_lang.specs.Grammar.{Compiles, tokens_of, document_name, nesting_limit}
use Rattle.map_lang.specs.Readings.{ReadsStmts}
use Rattle.map_lang.specs.Laws.{CompilesOnce}
use Rattle.map_lang.proofs.Unique.{stmts_unique}
use Rattle.map_lang.proofs.Lexed.{tokens_once}

pub compiled_once : CompilesOnce
compiled_once source p q x y =
    let same = tokens_once source (tokens_of p) (tokens_of q) x.tokens y.tokens in
    (stmts_unique (document_name ∷ []) p q [] [] same refl refl x.scoped y.scoped).0

-- the program is read from the tokens of its source, to their end
pub compiled_reads : (source : List ℕ) (ts : List Token) (p : Stmts) → AreTokens source ts → Compiles source p → ReadsStmts (document_name ∷ []) nesting_limit ts p []
compiled_reads source ts p found x = record { spelled = tokens_once source ts (tokens_of p) found x.tokens; ends = refl; scoped = x.scoped; nests = x.nests }
