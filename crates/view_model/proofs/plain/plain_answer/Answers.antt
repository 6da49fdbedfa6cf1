use Rattle.std.proofs.Common.{◌≡◌, ◌∙◌, ◌++◌, IfSome, ap, is_ok}
use Rattle.design_docs.specs.declared.design.Builtin.TheVariants.{Count}
use Rattle.raw_collation.specs.Sorting.{sorted_rows}
use Rattle.raw_collation.proofs.SortedRows.{sorted_rows_is_sorted}
use Rattle.view_model.specs.Adding.{AddsAnswer}
use Rattle.view_model.specs.Answer.{answer}
use Rattle.view_model.specs.Values.{builtin_text}
use Rattle.view_model.specs.Written.{before_of, written_of}
use Rattle.view_model.proofs.PlainAnswers.{both_on_ok, by_reduce}
use Rattle.view_model.proofs.plain.plain_answer.Goals as goal

pub answer-printed-requires : goal.answer-printed-requires
answer-printed-requires c =
    let same = c.as_slice.ensures.value ∙ c.sort_rows.ensures in
    rw same (sorted_rows_is_sorted c.in_ok-sorted.sorted.items)

pub returns-clause-by_reduce : goal.returns-clause-by_reduce
returns-clause-by_reduce c =
    let query = c.args.query.now in
    let rows = sorted_rows c.args.rows.now in
    let listed = c.as_slice.result.now in
    let same : listed ≡ rows = c.as_slice.ensures.value ∙ c.sort_rows.ensures ∙ ap sorted_rows c.in_ok-sorted.ensures in
    let kind = c.unwrap_or.result in
    let old = c.behind-reply.result in
    let new = c.answer-printed.new.reply in
    both_on_ok c.answer-printed.result c.close.result (AddsAnswer (λ group text. text ≡ builtin_text kind group) query c.args.seq listed old new)
    (c.close.new.out.items ≡ before_of new ++ written_of new)
    (IfSome c.args.reduce (λ own. c.close.new.out.items ≡ c.args.out.now.items ++ answer (builtin_text own) query c.args.seq rows))
    (ap is_ok c.close.ensures.same ∙ c.map_err.ensures.variant) c.answer-printed.ensures.ok c.close.ensures.ok
    (λ added is. by_reduce query c.args.seq rows listed same old new c.args.out.now.items c.close.new.out.items c.args.reduce Count kind c.unwrap_or.ensures added
    c.behind-reply.ensures.before c.behind-reply.ensures.empty c.answer-printed.ensures.before is)
