-- What has happened and what is left to happen are the whole.
use Rattle.std.proofs.Common.{◌≡◌, ◌+◌, ◌*◌, ◌∷◌, ◌++◌, [], map, drop, length, reverse}
use Rattle.json_terms.specs.Seen.{json}
use Rattle.map_lang.specs.Syntax.{stmt_nesting, stmts_of, stmts_nesting}
use Rattle.map_lang.specs.SeenStatements.{stmt_of}
use Rattle.map_lang.specs.Meaning.{after, all_events, each_turn}
use Rattle.map_lang.specs.Bound.{scope_of}
use Rattle.map_lang.specs.Running.{run_of}
use Rattle.map_lang.proofs.run.+run.Given as goal

abbrev pub decreases-run_block : goal.decreases-run_block
decreases-run_block l = 3 * stmts_nesting (stmts_of (map stmt_of l.statements.now)) + 1

abbrev pub decreases-run_statement : goal.decreases-run_statement
decreases-run_statement l = 3 * stmt_nesting (stmt_of l.statement.now)

abbrev pub decreases-repeat : goal.decreases-repeat
decreases-repeat l = 3 * stmts_nesting (stmts_of (map stmt_of l.block.now)) + 2

abbrev pub invariant-run_block-loop-statement : goal.invariant-run_block-loop-statement
invariant-run_block-loop-statement l =
    (after (run_of l.progress) (all_events (stmts_of (map stmt_of (drop l.statement-index l.statements))) (scope_of l.document l.fn.bound.items))
    ≡ after (run_of l.fn.progress) (all_events (stmts_of (map stmt_of l.statements)) (scope_of l.document l.fn.bound.items)))
    × (l.bound.items ≡ l.fn.bound.items)

abbrev pub invariant-repeat-values : goal.invariant-repeat-values
invariant-repeat-values l =
    (after (run_of l.progress) (each_turn (λ v. all_events (stmts_of (map stmt_of l.block)) (scope_of l.document l.fn.bound.items ++ (l.name, v) ∷ [])) (map json (reverse l.values.items)))
    ≡ after (run_of l.fn.progress) (each_turn (λ v. all_events (stmts_of (map stmt_of l.block)) (scope_of l.document l.fn.bound.items ++ (l.name, v) ∷ [])) (map json l.fn.values.items)))
    × (l.bound.items ≡ l.fn.bound.items)

abbrev pub decreases-repeat-values : goal.decreases-repeat-values
decreases-repeat-values l = length l.values.items
