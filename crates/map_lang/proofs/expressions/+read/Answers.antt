-- What is read of a part and what is left make up the whole.
use Rattle.std.proofs.Common.{◌≡◌, ◌∷◌, length, sym, ap, subst, ◌∙◌, arith}
use Rattle.std.proofs.lemmas.Result.{IfOk-weaker, err_from_is_err_and}
use Rattle.map_lang.specs.declared.token.Token.{Token}
use Rattle.map_lang.specs.declared.token.Token.TheVariants.{Word}
use Rattle.map_lang.specs.Readings.{ReadsExpr}
use Rattle.map_lang.specs.SeenExpressions.{expr_of}
use Rattle.map_lang.proofs.Continued.{err_weaker, expr_shortens, parts_start, parts_no_part, parts_no_mark, parts_end, parts_next}
use Rattle.map_lang.proofs.expressions.+read.Goals as goal

pub expression-returns-in-Some-Word-clause-found : goal.expression-returns-in-Some-Word-clause-found
expression-returns-in-Some-Word-clause-found t c =
    let front : Word c.in-Some-Word.word ∷ c.pop_front.new.self.items ≡ c.args.tokens.now.items = sym (c.in-Some-Word.ensures.items ∙ ap (λ (x : Token). x ∷ c.pop_front.new.self.items) c.in-Some-Word.field-0-is) in
    IfOk-weaker c.worded.result _ _ (λ e h. subst (λ ts. ReadsExpr c.args.bound.now c.args.room ts (expr_of e) c.worded.new.tokens.items) front (h c.args.room)) c.worded.ensures.found

pub expression-returns-in-Some-Word-clause-refused : goal.expression-returns-in-Some-Word-clause-refused
expression-returns-in-Some-Word-clause-refused t c =
    let front : c.args.tokens.now.items ≡ Word c.in-Some-Word.word ∷ c.pop_front.new.self.items = c.in-Some-Word.ensures.items ∙ ap (λ (x : Token). x ∷ c.pop_front.new.self.items) c.in-Some-Word.field-0-is in
    err_weaker c.worded.result _ _ (λ fault h same e rest reads. h same c.args.room e rest (subst (λ ts. ReadsExpr c.args.bound.now c.args.room ts e rest) front reads)) c.worded.ensures.refused

pub parts-parts-init : goal.parts-parts-init
parts-parts-init t c = rw (c.new-items.ensures, c.if-take.ensures.0) (parts_start c.args.bound.now c.args.room c.args.tokens.now.items c.if-take.ensures.1)

pub parts-returns-in_err-part-clause-refused : goal.parts-returns-in_err-part-clause-refused
parts-returns-in_err-part-clause-refused t c =
    let p = err_from_is_err_and c.from_residual.result c.from_residual.ensures.1 in
    rw p.1 (λ h. parts_no_part c.args.bound.now c.args.room c.args.tokens.now.items c.parts.tokens.items c.parts.items c.parts.invariant (c.in_err-part.ensures.refused cc))

pub parts-returns-then-take-2-clause-found : goal.parts-returns-then-take-2-clause-found
parts-returns-then-take-2-clause-found t c =
    rw c.in_ok-push.ensures (parts_end c.args.bound.now c.args.room c.args.tokens.now.items c.parts.tokens.items c.expression.new.tokens.items c.take-in-parts.new.tokens.items c.parts.items (expr_of c.in_ok-part.part) c.parts.invariant c.in_ok-part.ensures.found c.if-take-2.ensures)

pub parts-returns-then-not-take-clause-refused : goal.parts-returns-then-not-take-clause-refused
parts-returns-then-not-take-clause-refused t c =
    λ _. parts_no_mark c.args.bound.now c.args.room c.args.tokens.now.items c.parts.tokens.items c.expression.new.tokens.items c.parts.items (expr_of c.in_ok-part.part) c.parts.invariant c.in_ok-part.ensures.found c.if-take-2.ensures.1 (λ rest e. c.if-not-take.ensures.1 rest (c.if-take-2.ensures.0 ∙ e))

pub parts-parts-smaller : goal.parts-parts-smaller
parts-parts-smaller t c =
    let shorter = expr_shortens c.args.bound.now c.args.room c.parts.tokens.items c.expression.new.tokens.items (expr_of c.in_ok-part.part) c.in_ok-part.ensures.found in
    let same = ap length c.if-take-2.ensures.0 in
    let comma = ap length c.if-not-take.ensures in
    omega (arith, shorter, same, comma)

pub parts-parts-preserved : goal.parts-parts-preserved
parts-parts-preserved t c =
    rw c.in_ok-push.ensures (parts_next c.args.bound.now c.args.room c.args.tokens.now.items c.parts.tokens.items c.expression.new.tokens.items c.take-in-parts-2.new.tokens.items c.parts.items (expr_of c.in_ok-part.part) c.parts.invariant c.in_ok-part.ensures.found (sym c.if-take-2.ensures.0 ∙ c.if-not-take.ensures))
