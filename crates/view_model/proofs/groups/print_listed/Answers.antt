-- The group of one more key, and what is left is one key less.
use Rattle.std.proofs.Common.{◌≡◌, ◌∙◌, ◌<◌, ◌≤◌, ◌+◌, [], List, ap, arith, drop, get_or, length, map, rules}
use Rattle.std.proofs.lemmas.List.{drop_all}
use Rattle.json_terms.specs.Seen.{json}
use Rattle.json_terms.specs.declared.term.Row.{Row}
use Rattle.view_model.specs.declared.print.Progress.{Progress}
use Rattle.view_model.specs.Groups.{groups_of_keys, one_group}
use Rattle.view_model.specs.Progress.{due}
use Rattle.view_model.proofs.GroupAnswers.{groups_before, no_groups, part_of_groups}
use Rattle.view_model.proofs.GroupTexts.{key_less, nil_due, none_due, none_parts}
use Rattle.view_model.proofs.groups.print_listed.Goals as goal
use Rattle.view_model.proofs.groups.print_listed.Goals.{else-loop-key-test, then-loop-key-test+then-is_done}

pub loop-key-preserved : goal.loop-key-preserved
loop-key-preserved g c =
    let rows = c.args.rows.now in
    let keys = c.args.keys.now in
    let query = c.args.query.now in
    let progress = c.loop-key.progress in
    let i = c.loop-key.key-index in
    let key = c.key-item.result in
    let part = one_group c.rows_of-group.result.now in
    let below : i < length keys = omega arith in
    let here : get_or keys i key ≡ key = search rules in
    let rest = groups_of_keys rows (map json (drop (i + 1) keys)) in
    let old = groups_of_keys rows (map json (drop i keys)) in
    let left = key_less rows c.rows_of-group.result.now keys i key below here c.rows_of-group.ensures in
    let step = c.in_ok-progress.ensures in
    let before = c.loop-key.invariant in
    let first = c.args.values.now in
    let printed = groups_before g.met.V.GroupValues.keeps first c.loop-key.values before.goes query.level progress.printed (due progress part)
    c.loop-key.reply c.print_group.new.reply step.ok in
    record {
      whole = λ end others. before.whole end
          (part_of_groups (g.V.GroupValues.is_value first) query.level progress c.in_ok-progress.progress part old rest c.loop-key.reply
          c.print_group.new.reply end left step.progress printed others);
      before = step.before ∙ before.before;
      goes = g.met.V.GroupValues.are_steps.both first c.loop-key.values c.print_group.new.values before.goes step.goes;
      idle = λ none.
          let so_far = before.idle none in
          let parts = none_parts (List Row) progress part rest old left so_far.0 in
          (ap (λ (p : Progress). due p rest) step.progress ∙ parts.1, step.idle parts.0 ∙ so_far.1);
    }

pub returns-in_err-progress-clause-idle : goal.returns-in_err-progress-clause-idle
returns-in_err-progress-clause-idle g c none =
    let rows = c.args.rows.now in
    let keys = c.args.keys.now in
    let i = c.loop-key.key-index in
    let key = c.key-item.result in
    let group = c.rows_of-group.result.now in
    let below : i < length keys = omega arith in
    let here : get_or keys i key ≡ key = search rules in
    let rest = groups_of_keys rows (map json (drop (i + 1) keys)) in
    let old = groups_of_keys rows (map json (drop i keys)) in
    let so_far = c.loop-key.invariant.idle none in
    let parts = none_parts (List Row) c.loop-key.progress (one_group group) rest old (key_less rows group keys i key below here c.rows_of-group.ensures) so_far.0 in
    c.in_err-progress.ensures.idle parts.0 ∙ so_far.1

pub returns-clause-ok : goal.returns-clause-ok
returns-clause-ok g c =
    let rows = c.args.rows.now in
    let keys = c.args.keys.now in
    let progress = c.loop-key.progress in
    let left = groups_of_keys rows (map json (drop c.loop-key.key-index keys)) in
    let none : due progress left ≡ [] = elim c.loop-key-test.branch [
      | else-loop-key-test w ↦
          let past_all : length keys ≤ c.loop-key.key-index = omega arith in
          nil_due (List Row) progress left (ap (λ ks. groups_of_keys rows (map json ks)) (drop_all c.loop-key.key-index keys past_all))
      | then-loop-key-test+then-is_done w ↦ none_due (List Row) progress left (w.is_done.ensures.0 w.if-is_done.true)
    ] in
    c.loop-key.invariant.whole c.loop-key.reply
    (no_groups (g.V.GroupValues.is_value c.args.values.now) c.args.query.now.level progress.printed (due progress left) c.loop-key.reply none)
