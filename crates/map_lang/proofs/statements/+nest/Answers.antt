-- What is read of a part and what is left make up the whole.
use Rattle.std.proofs.Common.{◌≡◌, ◌∷◌, [], ◌++◌, ◌-◌, refl, false, sym, subst, ◌∙◌, arith}
use Rattle.std.proofs.lemmas.Result.{err_from_is_err_and}
use Rattle.map_lang.specs.Syntax.{stmts_of}
use Rattle.map_lang.specs.Readings.{ReadsExpr, ReadsStmt, ReadsBlock, ends_block}
use Rattle.map_lang.specs.SeenExpressions.{expr_of}
use Rattle.map_lang.specs.SeenStatements.{stmt_of}
use Rattle.map_lang.proofs.Continued.{stmts_refused, stmts_next, stmts_end, stmt_shortens, when_no_equals, when_no_right, when_no_block, each_no_block, block_no_close}
use Rattle.map_lang.proofs.statements.+nest.Goals as goal

pub block-returns-in_err-next-clause-refused : goal.block-returns-in_err-next-clause-refused
block-returns-in_err-next-clause-refused t c =
    let p = err_from_is_err_and c.from_residual.result c.from_residual.ensures.1 in
    let goes_on : ends_block c.statements.tokens.items ≡ false = cc in
    rw p.1 (λ h. stmts_refused c.args.bound.now.items c.args.room c.args.tokens.now.items c.statements.tokens.items c.statements.statements c.statements.invariant.0 goes_on
    (λ s rest reads. c.in_err-next.ensures.refused (cc) s rest (subst (λ b. ReadsStmt b c.args.room c.statements.tokens.items s rest) (sym c.statements.invariant.1) reads)))

pub block-statements-smaller : goal.block-statements-smaller
block-statements-smaller t c =
    let shorter = stmt_shortens c.statements.bound.items c.args.room c.statements.tokens.items c.statement.new.tokens.items (stmt_of c.in_ok-next.next) c.in_ok-next.ensures.found in
    omega (arith, shorter)

pub block-statements-preserved : goal.block-statements-preserved
block-statements-preserved t c =
    let goes_on : ends_block c.statements.tokens.items ≡ false = cc in
    let found = subst (λ b. ReadsStmt b c.args.room c.statements.tokens.items (stmt_of c.in_ok-next.next) c.statement.new.tokens.items) c.statements.invariant.1 c.in_ok-next.ensures.found in (
      rw c.in_ok-push.ensures (stmts_next c.args.bound.now.items c.args.room c.args.tokens.now.items c.statements.tokens.items c.statement.new.tokens.items c.statements.statements (stmt_of c.in_ok-next.next) c.statements.invariant.0 goes_on found),
      c.in_ok-next.ensures.bound ∙ c.statements.invariant.1,
    )

pub block-returns-clause-found : goal.block-returns-clause-found
block-returns-clause-found t c =
    stmts_end c.args.bound.now.items c.args.room c.args.tokens.now.items c.statements.tokens.items c.statements.statements c.statements.invariant.0 cc

pub braced-returns-then-not-take-2-clause-refused : goal.braced-returns-then-not-take-2-clause-refused
braced-returns-then-not-take-2-clause-refused t c =
    λ _. block_no_close c.args.bound.now.items c.args.room c.args.tokens.now.items c.take.new.tokens.items c.block.new.tokens.items (stmts_of c.in_ok-inner.inner) c.if-not-take.ensures c.in_ok-inner.ensures.found c.if-not-take-2.ensures.1

pub condition-returns-then-not-take-clause-refused : goal.condition-returns-then-not-take-clause-refused
condition-returns-then-not-take-clause-refused t c =
    let found = rw c.deref.ensures.value at c.in_ok-left.ensures.found in
    λ _. when_no_equals c.args.bound.now.items c.args.room c.args.tokens.now.items c.expression.new.tokens.items (expr_of c.in_ok-left.left) found c.if-not-take.ensures.1

pub condition-returns-in_err-right-clause-refused : goal.condition-returns-in_err-right-clause-refused
condition-returns-in_err-right-clause-refused t c =
    let p = err_from_is_err_and c.from_residual-in_err-right.result c.from_residual-in_err-right.ensures.1 in
    let found = rw c.deref.ensures.value at c.in_ok-left.ensures.found in
    rw p.1 (λ h. when_no_right c.args.bound.now.items c.args.room c.args.tokens.now.items c.expression.new.tokens.items c.take.new.tokens.items (expr_of c.in_ok-left.left) found c.if-not-take.ensures
    (λ e rest reads. c.in_err-right.ensures.refused (cc) e rest (subst (λ b. ReadsExpr b c.args.room c.take.new.tokens.items e rest) (sym c.deref-2.ensures.value) reads)))

pub condition-returns-in_err-inner-clause-refused : goal.condition-returns-in_err-inner-clause-refused
condition-returns-in_err-inner-clause-refused t c =
    let p = err_from_is_err_and c.from_residual-in_err-inner.result c.from_residual-in_err-inner.ensures.1 in
    let found = rw c.deref.ensures.value at c.in_ok-left.ensures.found in
    let right = rw c.deref-2.ensures.value at c.in_ok-right.ensures.found in
    rw p.1 (λ h. when_no_block c.args.bound.now.items c.args.room c.args.tokens.now.items c.expression.new.tokens.items c.take.new.tokens.items c.expression-2.new.tokens.items (expr_of c.in_ok-left.left) (expr_of c.in_ok-right.right) found c.if-not-take.ensures right
    (c.in_err-inner.ensures.refused cc))

pub repetition-returns-in_err-inner-clause-refused : goal.repetition-returns-in_err-inner-clause-refused
repetition-returns-in_err-inner-clause-refused t c =
    let p = err_from_is_err_and c.from_residual-in_err-inner.result c.from_residual-in_err-inner.ensures.1 in
    let found = rw c.deref-2.ensures.value at c.in_ok-source.ensures.found in
    let pushed : c.push.new.self.items ≡ c.args.bound.now.items ++ c.in-Some.name ∷ [] = rw (c.in_ok-push.ensures.items, c.in_ok-copy.ensures) refl in
    rw p.1 (λ h. each_no_block c.args.bound.now.items c.args.room c.args.tokens.now.items c.take_name.new.tokens.items c.take_keyword.new.tokens.items c.expression.new.tokens.items c.in-Some.name (expr_of c.in_ok-source.source) c.in-Some.ensures.1 c.if-not-take_keyword.ensures found
    (λ ss rest reads. c.in_err-inner.ensures.refused (cc) ss rest (subst (λ b. ReadsBlock b (c.args.room - 1) c.expression.new.tokens.items ss rest) (sym pushed) reads)))
