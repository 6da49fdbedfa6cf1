use Rattle.std.proofs.Common.{◌∙◌, codes}
use Rattle.json_terms.specs.Seen.{json}
use Rattle.json_terms.specs.Text.{text_of}
use Rattle.view_model.specs.Written.{written_of}
use Rattle.view_model.proofs.GroupAnswers.{one_group_added}
use Rattle.view_model.proofs.GroupTexts.{group_line, key_first}
use Rattle.view_model.proofs.Pieces.{appended5}
use Rattle.view_model.proofs.groups.print_whole.Goals as goal

pub returns-clause-ok : goal.returns-clause-ok
returns-clause-ok g c =
    let group = c.args.group.now in
    let key = json c.in_ok-key.key in
    let value = c.in_ok-print.ensures.ok in
    one_group_added (g.V.GroupValues.is_value c.args.values.now) c.args.level group key value.text c.args.reply.now _ value.is
    (c.in_ok-key.ensures ∙ key_first c.args.level group c.index-group-0.result c.requires)
    (appended5 (written_of c.args.reply.now) (codes "{\"key\":") (text_of key) (codes ",\"value\":") value.text (codes "}")
    c.in_ok-put.ensures.ok c.in_ok-put_term.ensures.ok c.in_ok-put-2.ensures.ok value.adds c.in_ok-put-3.ensures.ok)
    (group_line key value.text c.text_is_line.ensures value.line)
