-- One part after another is asked for.
use Rattle.std.proofs.Common.{◌≡◌, ◌<◌, ◌++◌, List, [], length, map, take-append-drop, ap, sym, subst, arith}
use Rattle.json_terms.specs.Json.{Json}
use Rattle.json_terms.specs.Seen.{json}
use Rattle.child_pool.proofs.Folds.{Folding, fails_before, folded_blames, folding_more, folding_none, talks_both, talks_on}
use Rattle.child_pool.proofs.reduce_slot.ReduceSlot.reduce.Goals as goal

pub loop-left-init : goal.loop-left-init
loop-left-init g c =
    let none : map json c.new-values.result.items ≡ [] = ap (map json) c.new-values.ensures.items in
    let long : length c.new-values.result.items ≡ 0 = ap length c.new-values.ensures.items in (
      omega (arith, long),
      subst (λ (v : List Json). Folding g.C.Servers c.args.language.now c.args.source.now c.args.self.now c.args.self.now c.args.items.now c.args.items.now v) (sym none)
          (folding_none g.C.Servers c.args.language.now c.args.source.now c.args.self.now c.args.items.now),
    )

pub returns-in-Err-clause-cause : goal.returns-in-Err-clause-cause
returns-in-Err-clause-cause g c =
    fails_before g.C.Servers c.args.language.now c.args.source.now c.args.self.now c.loop-left.self c.ask_rows.new.self c.in-Err.fault c.loop-left.invariant.1.talks c.in-Err.ensures.cause

pub returns-in-Err-fold-clause-cause : goal.returns-in-Err-fold-clause-cause
returns-in-Err-fold-clause-cause g c =
    let asked = talks_both g.C.Servers c.args.language.now c.args.source.now c.args.self.now c.loop-left.self c.ask_rows.new.self c.loop-left.invariant.1.talks c.in-Ok.ensures.talks in
    fails_before g.C.Servers c.args.language.now c.args.source.now c.args.self.now c.ask_rows.new.self c.fold.new.self c.in-Err-fold.fault asked c.in-Err-fold.ensures.cause

pub loop-left-preserved : goal.loop-left-preserved
loop-left-preserved g c =
    let left = c.loop-left.left.now in
    let part = c.split_at.result.0.now in
    let rest = c.split_at.result.1.now in
    let cut : left ≡ part ++ rest = (let front = c.split_at.ensures.front in let back = c.split_at.ensures.back in let whole = take-append-drop c.min.result left in cc) in
    let some : 0 < length part = grind (arith, c.split_at.ensures.front_len, c.loop-left-test.ensures) in (
      c.in-Ok-fold.ensures.short,
      folding_more g.C.Servers c.args.language.now c.args.source.now c.args.self.now c.loop-left.self c.ask_rows.new.self c.fold.new.self c.args.items.now left part rest (map json c.loop-left.values.items) (map json c.fold.new.values.items) (json c.in-Ok.value) cut some
          c.loop-left.invariant.1 c.in-Ok.ensures.talks c.in-Ok.ensures.compiles c.in-Ok.ensures.right c.in-Ok-fold.ensures.talks c.in-Ok-fold.ensures.bounded c.in-Ok-fold.ensures.folds,
    )

pub returns-clause-talks : goal.returns-clause-talks
returns-clause-talks g c = talks_on g.C.Servers c.args.language.now c.args.source.now c.args.self.now c.loop-left.self c.whole.new.self c.whole.result c.loop-left.invariant.1.talks c.whole.ensures.talks

pub returns-clause-cause : goal.returns-clause-cause
returns-clause-cause g c = folded_blames g.C.Servers c.args.language.now c.args.source.now c.args.self.now c.loop-left.self c.whole.new.self c.whole.result c.loop-left.invariant.1.talks c.whole.ensures.cause
