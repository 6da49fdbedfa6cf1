-- What was read are the last writes.
use Rattle.std.proofs.Common.{◌≡◌, ◌∙◌, ◌++◌, ℕ, List, Err, map, sym, ap, true, true≢false}
use Rattle.view_ports.proofs.Told.{told_now}
use Rattle.design_docs.specs.declared.design.Builtin.TheVariants.{Stats}
use Rattle.doc_file.specs.Changes.{numbered}
use Rattle.view_model.specs.Answer.{answer}
use Rattle.view_model.specs.Values.{builtin_text}
use Rattle.fresh_view.specs.Fresh.{fresh_rows}
use Rattle.map_server.specs.Pick.{pick}
use Rattle.couchview_cli.proofs.LoadCompiles.{load_map_compiles}
use Rattle.couchview_cli.proofs.FreshAnswer.{fresh_same}
use Rattle.couchview_cli.proofs.load.fresh_answer.Goals as goal

pub returns-in-Ok-clause-answer : goal.returns-in-Ok-clause-answer
returns-in-Ok-clause-answer g c = λ world.
    let query = c.in_ok-query.query in
    let source = c.load_map.result.now in
    let seq = c.update_seq.result in
    let changes = map numbered c.as_slice.result.now in
    told_now (g.F.Folder.disk c.args.folder.now) _ _
    (λ d listed here. c.in-Ok.ensures.answers ∙ ap (λ (front : List ℕ). front ++ answer (builtin_text Stats) query seq (fresh_rows source changes)) c.new-text.ensures.items
    ∙ fresh_same query source seq changes world.history c.in_ok-query.ensures c.load_map.ensures (c.update_seq.ensures.counts d.now world here) (ap (map numbered) c.as_slice.ensures ∙ listed here))
    (c.in_ok-changes.ensures.listed world)

-- its source compiles
pub unreachable-requires : goal.unreachable-requires
unreachable-requires g c =
    let compiles : pick.compiles c.load_map.result.now ≡ true = ap pick.compiles c.load_map.ensures ∙ load_map_compiles in
    true≢false (sym compiles ∙ c.answer_afresh.ensures.refused (c.in-Err-DoesNotCompile.is ∙ ap Err c.in-Err-DoesNotCompile.field-0-is))
