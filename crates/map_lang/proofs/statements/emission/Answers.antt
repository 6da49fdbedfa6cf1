use Rattle.std.proofs.lemmas.Result.{err_from_is_err_and}
use Rattle.map_lang.specs.SeenExpressions.{expr_of}
use Rattle.map_lang.proofs.Continued.{emit_no_comma, emit_no_value}
use Rattle.map_lang.proofs.statements.emission.Goals as goal

pub returns-then-not-take-clause-refused : goal.returns-then-not-take-clause-refused
returns-then-not-take-clause-refused c =
    λ _. emit_no_comma c.args.bound.now c.args.room c.args.tokens.now.items c.expression.new.tokens.items (expr_of c.in_ok-key.key) c.in_ok-key.ensures.found c.if-not-take.ensures.1

pub returns-in_err-value-clause-refused : goal.returns-in_err-value-clause-refused
returns-in_err-value-clause-refused c =
    let p = err_from_is_err_and c.from_residual-in_err-value.result c.from_residual-in_err-value.ensures.1 in
    rw p.1 (λ h. emit_no_value c.args.bound.now c.args.room c.args.tokens.now.items c.expression.new.tokens.items c.take.new.tokens.items (expr_of c.in_ok-key.key) c.in_ok-key.ensures.found c.if-not-take.ensures (c.in_err-value.ensures.refused cc))
