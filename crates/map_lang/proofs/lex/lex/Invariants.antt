use Rattle.std.proofs.Common.{◌≡◌, false, length}
use Rattle.std.specs.Str.{IsUtf8}
use Rattle.map_lang.specs.Tokens.{first_passes, is_blank}
use Rattle.map_lang.proofs.Lexed.{TokensSoFar}
use Rattle.map_lang.proofs.lex.lex.Given as goal

abbrev pub invariant-tokens : goal.invariant-tokens
invariant-tokens l = TokensSoFar l.source l.tokens.items l.rest × (first_passes is_blank l.rest ≡ false) × IsUtf8 l.rest

abbrev pub decreases-tokens : goal.decreases-tokens
decreases-tokens l = length l.rest
