-- What the definitions of the language's functions rest on.
use Rattle.std.specs.Prelude.{◌≡◌, ◌↔◌, ℕ, List, Some, IsUtf8}
use Rattle.map_lang.specs.Syntax.{Stmts}
use Rattle.map_lang.specs.Grammar.{Compiles}
use Rattle.map_server.specs.Programs.{program_of}

-- The program of a source is what the source compiles as by the grammar. A source that isn't UTF-8 has none.
abbrev pub FollowsGrammar : Type 0
FollowsGrammar = (source : List ℕ) (program : Stmts) → (program_of source ≡ Some program) ↔ (IsUtf8 source × Compiles source program)
