-- What is due of the range's runs, or of the listed keys' groups, is what the query picks.
use Rattle.std.proofs.Common.{◌∙◌, List, false, map, subst}
use Rattle.std.proofs.lemmas.Result.{on_ok_weaker}
use Rattle.json_terms.specs.Seen.{json}
use Rattle.json_terms.specs.declared.term.Row.{Row}
use Rattle.view_model.specs.Adding.{AddsGroups}
use Rattle.view_model.proofs.GroupTexts.{picked_listed, picked_ranged}
use Rattle.view_model.proofs.groups.print_groups.Goals as goal

pub returns-in-Some-clause-ok : goal.returns-in-Some-clause-ok
returns-in-Some-clause-ok g c =
    let query = c.args.query.now in
    let same = picked_listed query c.args.rows.now c.in-Some.keys (map json c.as_slice.result.now) c.in-Some.is c.as_slice.ensures in
    on_ok_weaker c.print_listed.result
    (λ added. subst (λ (groups : List (List Row)). AddsGroups (g.V.GroupValues.is_value c.args.values.now) query.level false groups c.args.reply.now c.print_listed.new.reply) same added)
    c.print_listed.ensures.ok

pub returns-in-None-clause-ok : goal.returns-in-None-clause-ok
returns-in-None-clause-ok g c =
    let query = c.args.query.now in
    let same = picked_ranged query c.args.rows.now c.ranged.result.now c.in-None.is c.ranged.ensures in
    on_ok_weaker c.print_runs.result
    (λ added. subst (λ (groups : List (List Row)). AddsGroups (g.V.GroupValues.is_value c.args.values.now) query.level false groups c.args.reply.now c.print_runs.new.reply) same added)
    c.print_runs.ensures.ok

pub returns-in-Some-clause-idle : goal.returns-in-Some-clause-idle
returns-in-Some-clause-idle g c none =
    c.print_listed.ensures.idle
    (picked_listed c.args.query.now c.args.rows.now c.in-Some.keys (map json c.as_slice.result.now) c.in-Some.is c.as_slice.ensures ∙ none)

pub returns-in-None-clause-idle : goal.returns-in-None-clause-idle
returns-in-None-clause-idle g c none =
    c.print_runs.ensures.idle (picked_ranged c.args.query.now c.args.rows.now c.ranged.result.now c.in-None.is c.ranged.ensures ∙ none)
