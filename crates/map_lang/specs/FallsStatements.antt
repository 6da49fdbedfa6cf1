-- Each statement of a block nests less deep than what the block belongs to.
use Rattle.std.specs.Prelude.{◌≤◌, suc, List, [], ◌∷◌, map}
use Rattle.std.proofs.Common.{arith}
use denote.Param.Weighed.{most}
use Rattle.map_lang.specs.declared.syntax.Statement.{Statement}
use Rattle.map_lang.specs.declared.syntax.Statement.TheVariants.{Emit, If, For}
use Rattle.map_lang.specs.declared.syntax.Block.TheDeep.{deep-Statement}
use Rattle.map_lang.specs.Syntax.{stmt_nesting, stmts_of, stmts_nesting}
use Rattle.map_lang.specs.SeenStatements.{stmt_of}

deep_le-nesting : (s : Statement) → deep-Statement s ≤ suc (stmt_nesting (stmt_of s))
deep_le-nesting (Emit key value) = omega arith
deep_le-nesting (If left right block) = omega arith
deep_le-nesting (For name source block) = omega arith

pub most_le-stmts_nesting : (ss : List Statement) → most deep-Statement ss ≤ suc (stmts_nesting (stmts_of (map stmt_of ss)))
most_le-stmts_nesting [] = omega arith
most_le-stmts_nesting (s ∷ ss) = omega (arith, deep_le-nesting s, most_le-stmts_nesting ss)
