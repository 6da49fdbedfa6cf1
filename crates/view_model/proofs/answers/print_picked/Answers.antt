-- What is due of the range, or of the listed keys' rows, is what the query picks.
use Rattle.std.proofs.Common.{◌∙◌, ◌++◌, ℕ, List, ap, subst, map}
use Rattle.std.proofs.lemmas.Result.{on_ok_weaker}
use Rattle.json_terms.specs.Seen.{json}
use Rattle.view_ports.specs.Lines.{IsLine}
use Rattle.view_model.specs.Written.{written_of}
use Rattle.view_model.proofs.Printed.{listed, in_range}
use Rattle.view_model.proofs.answers.print_picked.Goals as goal

pub returns-in-Some-clause-ok : goal.returns-in-Some-clause-ok
returns-in-Some-clause-ok c =
    let same = listed c.args.query.now c.start-start.result c.args.rows.now c.in-Some.keys (map json c.as_slice.result.now) c.start-start.ensures c.in-Some.is c.as_slice.ensures in
    on_ok_weaker c.print_keys.result (λ added. added ∙ ap (λ text. written_of c.args.reply.now ++ text) same) c.print_keys.ensures.ok

pub returns-in-Some-clause-line : goal.returns-in-Some-clause-line
returns-in-Some-clause-line c =
    let same = listed c.args.query.now c.start-start.result c.args.rows.now c.in-Some.keys (map json c.as_slice.result.now) c.start-start.ensures c.in-Some.is c.as_slice.ensures in
    on_ok_weaker c.print_keys.result (λ plain. subst (λ (text : List ℕ). IsLine text) same plain) c.print_keys.ensures.line

pub returns-in_ok-print_part-in-None-clause-ok : goal.returns-in_ok-print_part-in-None-clause-ok
returns-in_ok-print_part-in-None-clause-ok c =
    c.in_ok-print_part-in-None.ensures.ok
    ∙ ap (λ text. written_of c.args.reply.now ++ text) (in_range c.args.query.now c.start-start.result c.args.rows.now c.ranged.result.now c.start-start.ensures c.in-None.is c.ranged.ensures)

pub returns-in_ok-print_part-in-None-clause-line : goal.returns-in_ok-print_part-in-None-clause-line
returns-in_ok-print_part-in-None-clause-line c =
    subst (λ (text : List ℕ). IsLine text) (in_range c.args.query.now c.start-start.result c.args.rows.now c.ranged.result.now c.start-start.ensures c.in-None.is c.ranged.ensures) c.in_ok-print_part-in-None.ensures.line
