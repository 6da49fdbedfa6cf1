-- One value after another is taken in.
use Rattle.std.proofs.Common.{◌≡◌, ◌<◌, ◌+◌, ◌++◌, ◌∷◌, ◌∙◌, List, [], get_or, length, map, take, ap, sym, subst, arith}
use Rattle.std.proofs.lemmas.List.{take_all, take_more}
use Rattle.json_terms.specs.Json.{Json}
use Rattle.json_terms.specs.Seen.{json}
use Rattle.child_pool.proofs.Folds.{Refolding, fails_before, folded_blames, refolded, refolding_more, refolding_none, talks_on}
use Rattle.child_pool.proofs.reduce_slot.ReduceSlot.rereduce.Goals as goal

pub loop-sum-init : goal.loop-sum-init
loop-sum-init g c =
    let none : map json c.new-values.result.items ≡ [] = ap (map json) c.new-values.ensures.items in
    let long : length c.new-values.result.items ≡ 0 = ap length c.new-values.ensures.items in (
      omega (arith, long),
      subst (λ (v : List Json). Refolding g.C.Servers c.args.language.now c.args.source.now c.args.self.now c.args.self.now [] v) (sym none) (refolding_none g.C.Servers c.args.language.now c.args.source.now c.args.self.now),
    )

pub returns-in_default-clause-cause : goal.returns-in_default-clause-cause
returns-in_default-clause-cause g c =
    fails_before g.C.Servers c.args.language.now c.args.source.now c.args.self.now c.loop-sum.self c.spend.new.self c.spend.result c.loop-sum.invariant.1.talks (λ reduces among. c.spend.ensures.fails c.args.language.now reduces)

pub returns-in-Err-clause-cause : goal.returns-in-Err-clause-cause
returns-in-Err-clause-cause g c =
    fails_before g.C.Servers c.args.language.now c.args.source.now c.args.self.now c.loop-sum.self c.fold.new.self c.in-Err.fault c.loop-sum.invariant.1.talks c.in-Err.ensures.cause

pub loop-sum-preserved : goal.loop-sum-preserved
loop-sum-preserved g c =
    let sums = c.args.sums.now in
    let i = c.loop-sum.sum-index in
    let within : i < length sums = omega arith in
    let value = json c.in-Ok.value in
    let own = json c.sum.inside.term in
    let copied : value ≡ own = ap json c.in-Ok.ensures in
    let here : own ≡ get_or sums i own = c.sum.view_is ∙ c.sum-item.is ∙ ap (get_or sums i) (sym c.sum.view_is) in
    let is : value ≡ get_or sums i value = copied ∙ here ∙ ap (get_or sums i) (sym copied) in
    let more : take (i + 1) sums ≡ take i sums ++ value ∷ [] = take_more sums i value within ∙ ap (λ (v : Json). take i sums ++ v ∷ []) (sym is) in (
      c.in-Ok-fold.ensures.short,
      subst (λ (done : List Json). Refolding g.C.Servers c.args.language.now c.args.source.now c.args.self.now c.fold.new.self done (map json c.fold.new.values.items)) (sym more)
          (refolding_more g.C.Servers c.args.language.now c.args.source.now c.args.self.now c.loop-sum.self c.fold.new.self (take i sums) (map json c.loop-sum.values.items) (map json c.fold.new.values.items) value
          c.loop-sum.invariant.1 c.in-Ok-fold.ensures.talks c.in-Ok-fold.ensures.bounded c.in-Ok-fold.ensures.folds),
    )

pub returns-clause-talks : goal.returns-clause-talks
returns-clause-talks g c = talks_on g.C.Servers c.args.language.now c.args.source.now c.args.self.now c.loop-sum.self c.whole.new.self c.whole.result c.loop-sum.invariant.1.talks c.whole.ensures.talks

pub returns-clause-right : goal.returns-clause-right
returns-clause-right g c =
    let sums = c.args.sums.now in
    let all : take c.loop-sum.sum-index sums ≡ sums = take_all c.loop-sum.sum-index sums (omega arith) in
    let was = subst (λ (done : List Json). Refolding g.C.Servers c.args.language.now c.args.source.now c.args.self.now c.loop-sum.self done (map json c.loop-sum.values.items)) all c.loop-sum.invariant.1 in
    refolded g.C.Servers c.args.language.now c.args.source.now c.args.self.now c.loop-sum.self sums (map json c.loop-sum.values.items) c.whole.result was c.whole.ensures.whole

pub returns-clause-cause : goal.returns-clause-cause
returns-clause-cause g c = folded_blames g.C.Servers c.args.language.now c.args.source.now c.args.self.now c.loop-sum.self c.whole.new.self c.whole.result c.loop-sum.invariant.1.talks c.whole.ensures.cause
