use Rattle.std.proofs.Common.{◌≡◌, [], false, length}
use Rattle.view_model.specs.declared.reply.Reply.{Reply}
use Rattle.view_model.specs.Adding.{AddsGroups}
use Rattle.view_model.specs.Groups.{runs}
use Rattle.view_model.specs.Progress.{due, start_of, walked}
use Rattle.view_model.specs.Written.{before_of}
use Rattle.view_model.proofs.groups.print_runs.Given as goal

-- once what is due of the rows that are left is printed too, all that is due is; and nothing before it has changed.
-- Where nothing is due, nothing is of what is left, and no value was asked for.
abbrev pub invariant-loop-progress : goal.invariant-loop-progress
invariant-loop-progress g l =
    let is_value = g.V.GroupValues.is_value l.initial.values in
    let all = walked l.query.descending (runs l.query.level l.rows) in
    let left = walked l.query.descending (runs l.query.level l.left) in record {
      whole : (end : Reply) → AddsGroups is_value l.query.level l.progress.printed (due l.progress left) l.reply end
          → AddsGroups is_value l.query.level false (due (start_of l.query) all) l.initial.reply end;
      before : before_of l.reply ≡ before_of l.initial.reply;
      goes : g.V.GroupValues.goes l.initial.values l.values;
      idle : due (start_of l.query) all ≡ [] → (due l.progress left ≡ []) × (l.values ≡ l.initial.values);
    }

abbrev pub decreases-loop-progress : goal.decreases-loop-progress
decreases-loop-progress g l = length l.left
