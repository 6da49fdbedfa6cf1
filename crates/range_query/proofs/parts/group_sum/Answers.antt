use Rattle.std.proofs.Common.{◌≤◌, arith, length}
use Rattle.builtin_reduces.specs.Kept.{IsKept}
use Rattle.tree_laws.specs.Meaning.{IsJoinValue, item_limit}
use Rattle.range_query.proofs.PartSums.{join_before, joined_sum}
use Rattle.range_query.proofs.parts.group_sum.Goals as goal

pub returns-in-Ok-clause-value : goal.returns-in-Ok-clause-value
returns-in-Ok-clause-value g c =
    let first = c.args.summer.now in
    let next = c.part_sums.new.summer in
    let group = c.args.group.now in
    let sum = c.in-Ok.sum in
    let sums = c.in_ok-sums.sums.items in
    let few : length group ≤ item_limit = omega arith in
    let is : IsJoinValue IsKept (g.M.Summer.lawful next) (g.M.Summer.meaning next) sums sum = rw c.as_slice.ensures.value at c.in-Ok.ensures.value in
    joined_sum (g.M.Summer.lawful first) (g.M.Summer.meaning first) group sums sum c.in_ok-sums.ensures.value c.requires c.in_ok-sums.ensures.kept few
    (join_before g.met.M.Summer.keeps first next c.in_ok-sums.ensures.goes sums sum is)
