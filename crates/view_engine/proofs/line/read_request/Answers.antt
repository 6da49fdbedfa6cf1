use Rattle.std.specs.Prelude.{Err}
use Rattle.std.proofs.Common.{sym, ap, ◌∙◌}
use Rattle.json_terms.specs.Seen.{json}
use Rattle.view_engine.specs.Refusals.{unread}
use Rattle.view_engine.proofs.RequestLimit.{request_limit-is, request_of-long, request_of-form, request_of-no_form, request_of-unread}
use Rattle.view_engine.proofs.line.read_request.Goals as goal

pub returns-then-line-gt-REQUEST_LIMIT-clause-err : goal.returns-then-line-gt-REQUEST_LIMIT-clause-err
returns-then-line-gt-REQUEST_LIMIT-clause-err c = λ _. request_of-long c.args.line.now (rw request_limit-is c.if-line-gt-REQUEST_LIMIT.true)

pub returns-in-Some-clause-ok : goal.returns-in-Some-clause-ok
returns-in-Some-clause-ok c =
    request_of-form c.args.line.now (json c.in-Ok.term) c.in-Some.request c.if-line-gt-REQUEST_LIMIT.false c.in-Ok.ensures.ok (sym c.recognize.ensures ∙ c.in-Some.is)

pub returns-in-None-clause-err : goal.returns-in-None-clause-err
returns-in-None-clause-err c = λ _.
    request_of-no_form c.args.line.now (json c.in-Ok.term) c.if-line-gt-REQUEST_LIMIT.false c.in-Ok.ensures.ok (sym c.recognize.ensures ∙ c.in-None.is)

pub returns-in-Err-clause-err : goal.returns-in-Err-clause-err
returns-in-Err-clause-err c = λ other.
    let reads = c.in-Err.ensures.err (λ same. other (c.from.ensures ∙ ap unread same)) in
    request_of-unread c.args.line.now c.in-Err.fault c.if-line-gt-REQUEST_LIMIT.false reads ∙ ap Err (sym c.from.ensures)
