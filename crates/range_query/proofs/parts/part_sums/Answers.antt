use Rattle.std.proofs.Common.{◌≡◌, ◌∙◌, ◌<◌, [], ◌∷◌, ◌++◌, All, ap, append_assoc, length, refl, rules, subst, sym}
use Rattle.std.proofs.lemmas.List.Elements.{All-append, All-nil}
use Rattle.builtin_reduces.specs.Kept.{IsKept}
use Rattle.range_query.proofs.PartSums.{all_kept, all_sums, both_parts, more_fit, more_sums, no_rows, no_sums, sum_before}
use Rattle.range_query.proofs.parts.part_sums.Goals as goal

pub loop-left-init : goal.loop-left-init
loop-left-init g c = record {
  done = [];
  both = refl;
  sums = no_sums (g.M.Summer.lawful c.args.summer.now) (g.M.Summer.meaning c.args.summer.now) c.new-sums.result.items c.new-sums.ensures.items;
  fits = subst (All (g.M.Summer.fits c.args.summer.now)) (sym c.new-sums.ensures.items) (All-nil (g.M.Summer.fits c.args.summer.now));
  kept = All-nil IsKept;
  goes = g.met.M.Summer.are_steps.none c.args.summer.now;
}

pub loop-left-preserved : goal.loop-left-preserved
loop-left-preserved g c =
    let first = c.args.summer.now in
    let before = c.loop-left.invariant in
    let part = c.split_at.result.0.now in
    let rest = c.split_at.result.1.now in
    let all : part ++ rest ≡ c.loop-left.left.now =
    both_parts c.loop-left.left.now part rest c.min.result c.split_at.ensures.front c.split_at.ensures.back in
    let some : 0 < length part = search rules in
    let pushed : c.push.new.self.items ≡ c.loop-left.sums.items ++ c.in_ok-sum.sum ∷ [] = search rules in
    record {
      done = before.done ++ part;
      both = append_assoc before.done part rest ∙ ap (λ rows. before.done ++ rows) all ∙ before.both;
      sums = more_sums (g.M.Summer.lawful first) (g.M.Summer.meaning first) before.done part c.loop-left.sums.items c.push.new.self.items c.in_ok-sum.sum before.sums some
          (sum_before g.met.M.Summer.keeps first c.loop-left.summer before.goes part c.in_ok-sum.sum c.in_ok-sum.ensures.value) pushed;
      fits = more_fit g.met.M.Summer.keeps first c.loop-left.summer before.goes c.loop-left.sums.items c.push.new.self.items c.in_ok-sum.sum before.fits c.in_ok-sum.ensures.fits pushed;
      kept = All-append IsKept before.done part before.kept c.in_ok-sum.ensures.kept;
      goes = g.met.M.Summer.are_steps.both first c.loop-left.summer c.part_sum.new.summer before.goes c.in_ok-sum.ensures.goes;
    }

pub returns-clause-value : goal.returns-clause-value
returns-clause-value g c =
    let first = c.args.summer.now in
    let before = c.loop-left.invariant in
    let left = c.loop-left.left.now in
    all_sums (g.M.Summer.lawful first) (g.M.Summer.meaning first) before.done left c.args.group.now c.loop-left.sums.items
    (no_rows left c.is_empty.result c.is_empty.ensures c.loop-left-test.false) before.both before.sums

pub returns-clause-kept : goal.returns-clause-kept
returns-clause-kept g c =
    let before = c.loop-left.invariant in
    let left = c.loop-left.left.now in
    all_kept before.done left c.args.group.now (no_rows left c.is_empty.result c.is_empty.ensures c.loop-left-test.false) before.both before.kept
