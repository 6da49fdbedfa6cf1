-- A statement is less deep than its block, and nothing happens in a run that has ended.
use Rattle.std.proofs.Common.{◌∷◌, [], ◌++◌, map, sym, arith}
use Rattle.map_lang.specs.Syntax.{stmts_of}
use Rattle.map_lang.specs.SeenStatements.{stmt_of}
use Rattle.map_lang.specs.Meaning.{all_events, events_of}
use Rattle.map_lang.specs.Bound.{scope_of}
use Rattle.map_lang.specs.Running.{run_of}
use Rattle.map_lang.proofs.Ended.{stmt_nesting_at, after_ended, turns_ended}
use Rattle.map_lang.proofs.run.+run.Goals as goal

pub repeat-returns-then-progress-clause-run : goal.repeat-returns-then-progress-clause-run
repeat-returns-then-progress-clause-run t c =
    turns_ended (λ v. all_events (stmts_of (map stmt_of c.args.block.now)) (scope_of c.args.document.now c.args.bound.now.items ++ (c.args.name.now, v) ∷ []))
    (run_of c.values.progress) (run_of c.turn.new.self) _ c.values.values.items c.pop.new.self.items c.in-Some.value c.in-Some.ensures.items c.turn.ensures c.if-progress.true c.values.invariant.0

pub run_block-run_statement-requires : goal.run_block-run_statement-requires
run_block-run_statement-requires t c =
    let less = stmt_nesting_at c.args.statements.now c.loop-statement.statement-index c.statement-item.result c.loop-statement-test.true c.statement-item.is in
    (omega (arith, less), tt)

pub run_statement-returns-then-progress-clause-run : goal.run_statement-returns-then-progress-clause-run
run_statement-returns-then-progress-clause-run t c =
    sym (after_ended (run_of c.args.progress.now) (events_of (stmt_of c.args.statement.now) (scope_of c.args.document.now c.args.bound.now.items)) c.if-progress.true)
