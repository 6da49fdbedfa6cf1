use Rattle.std.proofs.Common.{◌≡◌, ◌<◌, ◌≤◌, ◌∷◌, ◌++◌, ◌==◌, ◌-◌, ◌+◌, suc, [], OnOk, drop, take, length, sym, ap, subst, ◌∙◌, arith, refl, append_assoc}
use Rattle.std.proofs.lemmas.List.{append-nil}
use Rattle.std.proofs.lemmas.Result.{err_from_is_err_and}
use Rattle.tree_laws.specs.declared.node.Node.TheVariants.{Inner}
use Rattle.tree_laws.specs.declared.tree.Fill.TheVariants.{Below}
use Rattle.tree_laws.specs.Nodes.{is_leaf}
use Rattle.tree_laws.specs.SummerTrees.{AreChildren, Has, Stands}
use Rattle.tree_query.specs.Ranges.{Gathered, numbered}
use Rattle.tree_query.proofs.Lists.{level_above, none_from_test, none_long, some_from_test}
use Rattle.tree_query.proofs.Ranges.{cutting, first_long, gathered_same, none_below, numbered_cut, numbered_empty, numbered_front, numbered_parted}
use Rattle.tree_query.proofs.Reached.{has_got}
use Rattle.tree_query.proofs.Sums.{BothLaws, all_of, back_of, first_of, front_of, got_fails, later_of, node_got, of_on, ok_is, ok_on, sum_none, sum_ran_err, sum_ran_on, summed_ran}
use Rattle.tree_laws.specs.Values.{values_of}
use Rattle.tree_query.specs.Leading.{IsLedTo}
use Rattle.tree_query.specs.Summaries.{BeginsInFirst, Cuts, RangeStops, RowIsRead, count_in}
use Rattle.tree_query.proofs.Leading.{blames_err, led_row, row_back, row_child, row_front}
use Rattle.tree_query.proofs.Stops.{cuts, gap_stops, is_cut, summed_blames}
use Rattle.tree_query.proofs.Summaries.{first_within, is_leaf_read, node_read, row_append, row_before, row_head, row_none}
use Rattle.tree_query.proofs.range.+inside.Goals as goal

pub returns-in-Leaf-clause-ran : goal.returns-in-Leaf-clause-ran
returns-in-Leaf-clause-ran g t c first tree since goes met =
    let i = g.M.Unit.Item in
    let m = g.M.Summer in
    let s = g.S.NodeSource in
    let laws : BothLaws s m = record { steps = g.met.S.NodeSource.are_steps; caused = g.met.S.NodeSource.stays_caused; sum_steps = g.met.M.Summer.are_steps; sum_caused = g.met.M.Summer.stays_caused; sum_keeps = g.met.M.Summer.keeps } in
    let s0 = c.args.store.now in
    let u0 = c.args.summer.now in
    let told = s.nodes s0 in
    summed_ran i s m laws first tree since _ s0 u0 c.add_leaf.new.summer c.add_leaf.result c.add_leaf.ensures.ran

pub returns-then-not-is_empty-clause-items : goal.returns-then-not-is_empty-clause-items
returns-then-not-is_empty-clause-items g t c first there done items is-told goes long has h =
    let i = g.M.Unit.Item in
    let m = g.M.Summer in
    let cs = c.in-Inner.children in
    let low = c.args.level - 1 in
    let kind : is_leaf (Inner cs) ≡ (c.args.level == 0) = subst (λ x. is_leaf x ≡ (c.args.level == 0)) c.in-Inner.is c.requires.kind in
    let up : c.args.level ≡ suc low = level_above c.args.level kind in
    let P = Stands i m first there low in
    let has0 : Has i m first there c.args.level (Inner cs) items = subst (λ x. Has i m first there c.args.level x items) c.in-Inner.is has in
    let has1 : AreChildren i m first P cs items = subst (λ l. Has i m first there l (Inner cs) items) up has0 in
    let o = c.cut-offset.result.2 in
    let rest = c.cut-offset.result.1.now in
    let mid = c.cut-left.result.0.now in
    let after = c.cut-left.result.1.now in
    let left = c.cut-left.result.2 in
    let end = c.args.to - c.args.from + o in
    let e : cs ≡ c.cut-offset.result.0.now ++ rest = sym c.as_slice.ensures ∙ c.cut-offset.ensures.whole in
    let k = cutting i m first P c.cut-offset.result.0.now rest c.args.from o items (subst (λ ds. AreChildren i m first P ds items) e has1) c.cut-offset.ensures.count in
    let j = cutting i m first P mid after end left k.ys (subst (λ ds. AreChildren i m first P ds k.ys) c.cut-left.ensures.whole k.at_back) c.cut-left.ensures.count in
    let n1 : numbered c.args.from c.args.to items ≡ numbered o end k.ys = ap (numbered c.args.from c.args.to) k.whole ∙ numbered_cut k.xs k.ys c.args.from c.args.to o end k.number c.requires.range refl in
    let some : 0 < length mid = some_from_test (length mid) c.is_empty.result c.is_empty.ensures c.if-not-is_empty.true in
    let within : BeginsInFirst mid o = λ d ds w. c.cut-offset.ensures.inside d (ds ++ after) (c.cut-left.ensures.whole ∙ ap (λ t. t ++ after) w) in
    let f = c.in_ok-tail_row-in-Inner.ensures.items first there done j.xs is-told goes within j.at_front h in
    let s = first_long i m first P mid j.xs o j.at_front some within in
    let later = g.met.M.Summer.are_steps.both first c.args.summer.now c.tail_row.new.summer goes c.in_ok-tail_row-in-Inner.ensures.goes in
    let r = c.head_row.ensures.items first there (done ++ drop o j.xs) j.ys (c.in_ok-tail_row-in-Inner.ensures.reads.nodes ∙ is-told) later c.cut-left.ensures.inside j.at_back f in
    let whole : (done ++ drop o j.xs) ++ take left j.ys ≡ done ++ numbered c.args.from c.args.to items =
    append_assoc done (drop o j.xs) (take left j.ys) ∙ ap (λ t. done ++ t) (sym (n1 ∙ ap (numbered o end) j.whole ∙ numbered_parted j.xs j.ys o end left j.number s)) in
    subst (λ zs. OnOk c.head_row.result (Gathered m first c.head_row.new.parts.items zs)) whole r

pub returns-then-not-is_empty-clause-ran : goal.returns-then-not-is_empty-clause-ran
returns-then-not-is_empty-clause-ran g t c first tree since goes met =
    let i = g.M.Unit.Item in
    let m = g.M.Summer in
    let s = g.S.NodeSource in
    let laws : BothLaws s m = record { steps = g.met.S.NodeSource.are_steps; caused = g.met.S.NodeSource.stays_caused; sum_steps = g.met.M.Summer.are_steps; sum_caused = g.met.M.Summer.stays_caused; sum_keeps = g.met.M.Summer.keeps } in
    let s0 = c.args.store.now in
    let u0 = c.args.summer.now in
    let told = s.nodes s0 in
    let cs = c.in-Inner.children in
    let low = c.args.level - 1 in
    let kind : is_leaf (Inner cs) ≡ (c.args.level == 0) = subst (λ x. is_leaf x ≡ (c.args.level == 0)) c.in-Inner.is c.requires.kind in
    let up : c.args.level ≡ suc low = level_above c.args.level kind in
    let o = c.cut-offset.result.2 in
    let rest = c.cut-offset.result.1.now in
    let mid = c.cut-left.result.0.now in
    let after = c.cut-left.result.1.now in
    let left = c.cut-left.result.2 in
    let end = c.args.to - c.args.from + o in
    let e : cs ≡ c.cut-offset.result.0.now ++ rest = sym c.as_slice.ensures ∙ c.cut-offset.ensures.whole in
    let all = all_of i s m laws first tree since s0 c.args.at c.args.level low c.args.node cs met c.in-Inner.is up in
    let rest_of = back_of i s m laws first tree since s0 c.args.at low cs c.cut-offset.result.0.now rest e all in
    let mid_of = front_of i s m laws first tree since s0 c.args.at low rest mid after c.cut-left.ensures.whole rest_of in
    let after_of = back_of i s m laws first tree since s0 c.args.at low rest mid after c.cut-left.ensures.whole rest_of in
    let ran = c.in_ok-tail_row-in-Inner.ensures.ran first tree since goes mid_of in
    let same = c.in_ok-tail_row-in-Inner.ensures.reads.nodes in
    let u1 = c.tail_row.new.summer in
    let later = laws.sum_steps.both first u0 u1 goes ran.1 in
    sum_ran_on i s m laws first tree since _ s0 c.tail_row.new.store c.head_row.new.store u0 u1 c.head_row.new.summer c.head_row.result same ran.0 ran.1 (c.head_row.ensures.ran first tree since c.args.at later (of_on i s m laws first tree since s0 c.tail_row.new.store c.args.at low after same ran.0 after_of))

pub returns-then-not-is_empty-clause-goes : goal.returns-then-not-is_empty-clause-goes
returns-then-not-is_empty-clause-goes g t c =
    let u0 = c.args.summer.now in
    ok_on _ _ (λ h. g.met.M.Summer.are_steps.both u0 c.tail_row.new.summer c.head_row.new.summer c.in_ok-tail_row-in-Inner.ensures.goes h) c.head_row.result c.head_row.ensures.goes

pub returns-in_err-tail_row-in-Inner-clause-ran : goal.returns-in_err-tail_row-in-Inner-clause-ran
returns-in_err-tail_row-in-Inner-clause-ran g t c first tree since goes met =
    let i = g.M.Unit.Item in
    let m = g.M.Summer in
    let s = g.S.NodeSource in
    let laws : BothLaws s m = record { steps = g.met.S.NodeSource.are_steps; caused = g.met.S.NodeSource.stays_caused; sum_steps = g.met.M.Summer.are_steps; sum_caused = g.met.M.Summer.stays_caused; sum_keeps = g.met.M.Summer.keeps } in
    let s0 = c.args.store.now in
    let u0 = c.args.summer.now in
    let told = s.nodes s0 in
    let cs = c.in-Inner.children in
    let low = c.args.level - 1 in
    let kind : is_leaf (Inner cs) ≡ (c.args.level == 0) = subst (λ x. is_leaf x ≡ (c.args.level == 0)) c.in-Inner.is c.requires.kind in
    let up : c.args.level ≡ suc low = level_above c.args.level kind in
    let o = c.cut-offset.result.2 in
    let rest = c.cut-offset.result.1.now in
    let mid = c.cut-left.result.0.now in
    let after = c.cut-left.result.1.now in
    let left = c.cut-left.result.2 in
    let end = c.args.to - c.args.from + o in
    let e : cs ≡ c.cut-offset.result.0.now ++ rest = sym c.as_slice.ensures ∙ c.cut-offset.ensures.whole in
    let all = all_of i s m laws first tree since s0 c.args.at c.args.level low c.args.node cs met c.in-Inner.is up in
    let rest_of = back_of i s m laws first tree since s0 c.args.at low cs c.cut-offset.result.0.now rest e all in
    let mid_of = front_of i s m laws first tree since s0 c.args.at low rest mid after c.cut-left.ensures.whole rest_of in
    let after_of = back_of i s m laws first tree since s0 c.args.at low rest mid after c.cut-left.ensures.whole rest_of in
    let q = c.from_residual in
    let p = err_from_is_err_and q.result q.ensures.1 in
    sum_ran_err i s m laws first tree since _ s0 c.tail_row.new.store u0 c.tail_row.new.summer q.result c.in_err-tail_row-in-Inner.field-0.0 p.0 p.2 p.1 (c.in_err-tail_row-in-Inner.ensures.ran first tree since goes mid_of)

pub returns-in-None-clause-items : goal.returns-in-None-clause-items
returns-in-None-clause-items g t c first there done items is-told goes long has h =
    let i = g.M.Unit.Item in
    let m = g.M.Summer in
    let cs = c.in-Inner.children in
    let low = c.args.level - 1 in
    let kind : is_leaf (Inner cs) ≡ (c.args.level == 0) = subst (λ x. is_leaf x ≡ (c.args.level == 0)) c.in-Inner.is c.requires.kind in
    let up : c.args.level ≡ suc low = level_above c.args.level kind in
    let P = Stands i m first there low in
    let has0 : Has i m first there c.args.level (Inner cs) items = subst (λ x. Has i m first there c.args.level x items) c.in-Inner.is has in
    let has1 : AreChildren i m first P cs items = subst (λ l. Has i m first there l (Inner cs) items) up has0 in
    let o = c.cut-offset.result.2 in
    let rest = c.cut-offset.result.1.now in
    let mid = c.cut-left.result.0.now in
    let after = c.cut-left.result.1.now in
    let left = c.cut-left.result.2 in
    let end = c.args.to - c.args.from + o in
    let e : cs ≡ c.cut-offset.result.0.now ++ rest = sym c.as_slice.ensures ∙ c.cut-offset.ensures.whole in
    let k = cutting i m first P c.cut-offset.result.0.now rest c.args.from o items (subst (λ ds. AreChildren i m first P ds items) e has1) c.cut-offset.ensures.count in
    let j = cutting i m first P mid after end left k.ys (subst (λ ds. AreChildren i m first P ds k.ys) c.cut-left.ensures.whole k.at_back) c.cut-left.ensures.count in
    let n1 : numbered c.args.from c.args.to items ≡ numbered o end k.ys = ap (numbered c.args.from c.args.to) k.whole ∙ numbered_cut k.xs k.ys c.args.from c.args.to o end k.number c.requires.range refl in
    let none : mid ≡ [] = none_long mid (none_from_test (length mid) c.is_empty.result c.is_empty.ensures c.if-not-is_empty.false) in
    let x : j.xs ≡ [] = none_below i m first P mid j.xs j.at_front none in
    let y : j.ys ≡ [] = none_below i m first P after j.ys j.at_back (none_long after c.in-None.ensures.cases) in
    let z : k.ys ≡ [] = j.whole ∙ ap (λ u. u ++ j.ys) x ∙ y in
    let all : numbered c.args.from c.args.to items ≡ [] = n1 ∙ ap (numbered o end) z ∙ numbered_empty o end in
    gathered_same i m first c.args.parts.now.items done (done ++ numbered c.args.from c.args.to items) (sym (ap (λ u. done ++ u) all ∙ append-nil done)) h

pub returns-in-None-clause-ran : goal.returns-in-None-clause-ran
returns-in-None-clause-ran g t c first tree since goes met =
    let i = g.M.Unit.Item in
    let m = g.M.Summer in
    let s = g.S.NodeSource in
    let laws : BothLaws s m = record { steps = g.met.S.NodeSource.are_steps; caused = g.met.S.NodeSource.stays_caused; sum_steps = g.met.M.Summer.are_steps; sum_caused = g.met.M.Summer.stays_caused; sum_keeps = g.met.M.Summer.keeps } in
    let s0 = c.args.store.now in
    let u0 = c.args.summer.now in
    let told = s.nodes s0 in
    (sum_none i s m laws first tree since s0, laws.sum_steps.none u0)

pub returns-in-None-clause-goes : goal.returns-in-None-clause-goes
returns-in-None-clause-goes g t c =
    g.met.M.Summer.are_steps.none c.args.summer.now

pub returns-in_err-below-in-Inner-clause-ran : goal.returns-in_err-below-in-Inner-clause-ran
returns-in_err-below-in-Inner-clause-ran g t c first tree since goes met =
    let i = g.M.Unit.Item in
    let m = g.M.Summer in
    let s = g.S.NodeSource in
    let laws : BothLaws s m = record { steps = g.met.S.NodeSource.are_steps; caused = g.met.S.NodeSource.stays_caused; sum_steps = g.met.M.Summer.are_steps; sum_caused = g.met.M.Summer.stays_caused; sum_keeps = g.met.M.Summer.keeps } in
    let s0 = c.args.store.now in
    let u0 = c.args.summer.now in
    let told = s.nodes s0 in
    let cs = c.in-Inner.children in
    let low = c.args.level - 1 in
    let kind : is_leaf (Inner cs) ≡ (c.args.level == 0) = subst (λ x. is_leaf x ≡ (c.args.level == 0)) c.in-Inner.is c.requires.kind in
    let up : c.args.level ≡ suc low = level_above c.args.level kind in
    let o = c.cut-offset.result.2 in
    let rest = c.cut-offset.result.1.now in
    let mid = c.cut-left.result.0.now in
    let after = c.cut-left.result.1.now in
    let left = c.cut-left.result.2 in
    let end = c.args.to - c.args.from + o in
    let e : cs ≡ c.cut-offset.result.0.now ++ rest = sym c.as_slice.ensures ∙ c.cut-offset.ensures.whole in
    let all = all_of i s m laws first tree since s0 c.args.at c.args.level low c.args.node cs met c.in-Inner.is up in
    let rest_of = back_of i s m laws first tree since s0 c.args.at low cs c.cut-offset.result.0.now rest e all in
    let mid_of = front_of i s m laws first tree since s0 c.args.at low rest mid after c.cut-left.ensures.whole rest_of in
    let after_of = back_of i s m laws first tree since s0 c.args.at low rest mid after c.cut-left.ensures.whole rest_of in
    let child = c.in-Some.pair.0.now in
    let others = c.in-Some.pair.1.now in
    let some : after ≡ child ∷ others = c.in-Some.ensures.cases.0 in
    let reached = first_of i s m laws first tree since s0 c.args.at low after child others some after_of in
    let q = c.from_residual-in_err-below-in-Inner in
    let p = err_from_is_err_and q.result q.ensures.1 in
    sum_ran_err i s m laws first tree since _ s0 c.fetch.new.store u0 u0 q.result c.in_err-below-in-Inner.field-0.0 p.0 p.2 p.1 (got_fails i s m laws first tree since s0 c.fetch.new.store u0 _ (c.in_err-below-in-Inner.ensures.ran tree reached))

pub returns-in_ok-below-in-Inner-clause-items : goal.returns-in_ok-below-in-Inner-clause-items
returns-in_ok-below-in-Inner-clause-items g t c first there done items is-told goes long has h =
    let i = g.M.Unit.Item in
    let m = g.M.Summer in
    let cs = c.in-Inner.children in
    let low = c.args.level - 1 in
    let kind : is_leaf (Inner cs) ≡ (c.args.level == 0) = subst (λ x. is_leaf x ≡ (c.args.level == 0)) c.in-Inner.is c.requires.kind in
    let up : c.args.level ≡ suc low = level_above c.args.level kind in
    let P = Stands i m first there low in
    let has0 : Has i m first there c.args.level (Inner cs) items = subst (λ x. Has i m first there c.args.level x items) c.in-Inner.is has in
    let has1 : AreChildren i m first P cs items = subst (λ l. Has i m first there l (Inner cs) items) up has0 in
    let o = c.cut-offset.result.2 in
    let rest = c.cut-offset.result.1.now in
    let mid = c.cut-left.result.0.now in
    let after = c.cut-left.result.1.now in
    let left = c.cut-left.result.2 in
    let end = c.args.to - c.args.from + o in
    let e : cs ≡ c.cut-offset.result.0.now ++ rest = sym c.as_slice.ensures ∙ c.cut-offset.ensures.whole in
    let k = cutting i m first P c.cut-offset.result.0.now rest c.args.from o items (subst (λ ds. AreChildren i m first P ds items) e has1) c.cut-offset.ensures.count in
    let j = cutting i m first P mid after end left k.ys (subst (λ ds. AreChildren i m first P ds k.ys) c.cut-left.ensures.whole k.at_back) c.cut-left.ensures.count in
    let n1 : numbered c.args.from c.args.to items ≡ numbered o end k.ys = ap (numbered c.args.from c.args.to) k.whole ∙ numbered_cut k.xs k.ys c.args.from c.args.to o end k.number c.requires.range refl in
    let none : mid ≡ [] = none_long mid (none_from_test (length mid) c.is_empty.result c.is_empty.ensures c.if-not-is_empty.false) in
    let x : j.xs ≡ [] = none_below i m first P mid j.xs j.at_front none in
    let child = c.in-Some.pair.0.now in
    let others = c.in-Some.pair.1.now in
    let some : after ≡ child ∷ others = c.in-Some.ensures.cases.0 in
    let below = c.in_ok-below-in-Inner.below in
    let kk : AreChildren i m first P (child ∷ others) j.ys = subst (λ ds. AreChildren i m first P ds j.ys) some j.at_back in
    let small : end ≤ length kk.front = omega (arith, c.cut-left.ensures.inside child others some, kk.at_front.count, j.number, ap length x) in
    let has2 : Has i m first there low below kk.front = has_got i (values_of m first) g.met.M.Unit.Item.one_spelling there (Has i m first there low) child.at low child.count Below Below kk.front below (c.in_ok-below-in-Inner.ensures.stands there is-told) kk.at_front.stands in
    let r = c.inside.ensures.items first there done kk.front (c.in_ok-below-in-Inner.ensures.reads.nodes ∙ is-told) goes small has2 h in
    let z : k.ys ≡ kk.front ++ kk.back = j.whole ∙ ap (λ u. u ++ j.ys) x ∙ kk.whole in
    let all : numbered c.args.from c.args.to items ≡ numbered o end kk.front = n1 ∙ ap (numbered o end) z ∙ numbered_front kk.front kk.back o end small in
    subst (λ zs. OnOk c.inside.result (Gathered m first c.inside.new.parts.items zs)) (ap (λ u. done ++ u) (sym all)) r

pub returns-in_ok-below-in-Inner-clause-ran : goal.returns-in_ok-below-in-Inner-clause-ran
returns-in_ok-below-in-Inner-clause-ran g t c first tree since goes met =
    let i = g.M.Unit.Item in
    let m = g.M.Summer in
    let s = g.S.NodeSource in
    let laws : BothLaws s m = record { steps = g.met.S.NodeSource.are_steps; caused = g.met.S.NodeSource.stays_caused; sum_steps = g.met.M.Summer.are_steps; sum_caused = g.met.M.Summer.stays_caused; sum_keeps = g.met.M.Summer.keeps } in
    let s0 = c.args.store.now in
    let u0 = c.args.summer.now in
    let told = s.nodes s0 in
    let cs = c.in-Inner.children in
    let low = c.args.level - 1 in
    let kind : is_leaf (Inner cs) ≡ (c.args.level == 0) = subst (λ x. is_leaf x ≡ (c.args.level == 0)) c.in-Inner.is c.requires.kind in
    let up : c.args.level ≡ suc low = level_above c.args.level kind in
    let o = c.cut-offset.result.2 in
    let rest = c.cut-offset.result.1.now in
    let mid = c.cut-left.result.0.now in
    let after = c.cut-left.result.1.now in
    let left = c.cut-left.result.2 in
    let end = c.args.to - c.args.from + o in
    let e : cs ≡ c.cut-offset.result.0.now ++ rest = sym c.as_slice.ensures ∙ c.cut-offset.ensures.whole in
    let all = all_of i s m laws first tree since s0 c.args.at c.args.level low c.args.node cs met c.in-Inner.is up in
    let rest_of = back_of i s m laws first tree since s0 c.args.at low cs c.cut-offset.result.0.now rest e all in
    let mid_of = front_of i s m laws first tree since s0 c.args.at low rest mid after c.cut-left.ensures.whole rest_of in
    let after_of = back_of i s m laws first tree since s0 c.args.at low rest mid after c.cut-left.ensures.whole rest_of in
    let child = c.in-Some.pair.0.now in
    let others = c.in-Some.pair.1.now in
    let some : after ≡ child ∷ others = c.in-Some.ensures.cases.0 in
    let reached = first_of i s m laws first tree since s0 c.args.at low after child others some after_of in
    let below = c.in_ok-below-in-Inner.below in
    let same = c.in_ok-below-in-Inner.ensures.reads.nodes in
    let at_child = node_got i s m laws first tree since s0 c.fetch.new.store child.at low child.count Below below c.in_ok-below-in-Inner.ensures.gets (later_of i s m laws first tree since s0 c.args.at low after after_of) reached c.in_ok-below-in-Inner.ensures.stands in
    sum_ran_on i s m laws first tree since _ s0 c.fetch.new.store c.inside.new.store u0 u0 c.inside.new.summer c.inside.result same (c.in_ok-below-in-Inner.ensures.ran tree reached) (laws.sum_steps.none u0) (c.inside.ensures.ran first tree since goes (λ there is. at_child there (sym same ∙ is)))

pub returns-then-not-is_empty-clause-fits : goal.returns-then-not-is_empty-clause-fits
returns-then-not-is_empty-clause-fits g t c first goes h =
    let later = g.met.M.Summer.are_steps.both first c.args.summer.now c.tail_row.new.summer goes c.in_ok-tail_row-in-Inner.ensures.goes in
    c.head_row.ensures.fits first later (c.in_ok-tail_row-in-Inner.ensures.fits first goes h)

pub returns-in-Leaf-clause-sums : goal.returns-in-Leaf-clause-sums
returns-in-Leaf-clause-sums g t c first there is-told goes =
    ok_is _ c.add_leaf.result (is_leaf_read g.M.Unit.Item (values_of g.M.Summer first) there c.args.level c.args.node c.in-Leaf.items c.args.from c.args.to c.in-Leaf.is)

pub returns-then-not-is_empty-clause-sums : goal.returns-then-not-is_empty-clause-sums
returns-then-not-is_empty-clause-sums g t c first there is-told goes =
    let i = g.M.Unit.Item in
    let m = g.M.Summer in
    let v = values_of m first in
    let cs = c.in-Inner.children in
    let low = c.args.level - 1 in
    let kind : is_leaf (Inner cs) ≡ (c.args.level == 0) = subst (λ x. is_leaf x ≡ (c.args.level == 0)) c.in-Inner.is c.requires.kind in
    let up : c.args.level ≡ suc low = level_above c.args.level kind in
    let front = c.cut-offset.result.0.now in
    let rest = c.cut-offset.result.1.now in
    let o = c.cut-offset.result.2 in
    let e : cs ≡ front ++ rest = sym c.as_slice.ensures ∙ c.cut-offset.ensures.whole in
    let mid = c.cut-left.result.0.now in
    let after = c.cut-left.result.1.now in
    let left = c.cut-left.result.2 in
    let from = c.args.from in
    let to = c.args.to in
    let end = to - from + o in
    let before = row_before i v there low front from to (omega (arith, c.cut-offset.ensures.count)) in
    let begins : o ≡ from - count_in front = omega (arith, c.cut-offset.ensures.count) in
    let ends : end ≡ to - count_in front = omega (arith, c.cut-offset.ensures.count, c.requires.range) in
    let some : 0 < length mid = some_from_test (length mid) c.is_empty.result c.is_empty.ensures c.if-not-is_empty.true in
    let within : BeginsInFirst mid o = λ d ds w. c.cut-offset.ensures.inside d (ds ++ after) (c.cut-left.ensures.whole ∙ ap (λ t. t ++ after) w) in
    let first_read = c.in_ok-tail_row-in-Inner.ensures.sums first there end is-told goes within (omega (arith, c.cut-left.ensures.count)) in
    let later = g.met.M.Summer.are_steps.both first c.args.summer.now c.tail_row.new.summer goes c.in_ok-tail_row-in-Inner.ensures.goes in
    let none : 0 ≡ o - count_in mid = omega (arith, first_within mid o some within) in
    let over : left ≡ end - count_in mid = omega (arith, c.cut-left.ensures.count) in
    ok_on _ _ (λ h. node_read i v there c.args.level low c.args.node cs front rest from to o end c.in-Inner.is up e begins ends before (subst (λ ds. RowIsRead i v there low ds o end) (sym c.cut-left.ensures.whole) (row_append i v there low mid after o end 0 left none over first_read h))) c.head_row.result
    (c.head_row.ensures.sums first there (c.in_ok-tail_row-in-Inner.ensures.reads.nodes ∙ is-told) later c.cut-left.ensures.inside)

pub returns-in-None-clause-sums : goal.returns-in-None-clause-sums
returns-in-None-clause-sums g t c first there is-told goes =
    let i = g.M.Unit.Item in
    let m = g.M.Summer in
    let v = values_of m first in
    let cs = c.in-Inner.children in
    let low = c.args.level - 1 in
    let kind : is_leaf (Inner cs) ≡ (c.args.level == 0) = subst (λ x. is_leaf x ≡ (c.args.level == 0)) c.in-Inner.is c.requires.kind in
    let up : c.args.level ≡ suc low = level_above c.args.level kind in
    let front = c.cut-offset.result.0.now in
    let rest = c.cut-offset.result.1.now in
    let o = c.cut-offset.result.2 in
    let e : cs ≡ front ++ rest = sym c.as_slice.ensures ∙ c.cut-offset.ensures.whole in
    let mid = c.cut-left.result.0.now in
    let after = c.cut-left.result.1.now in
    let left = c.cut-left.result.2 in
    let from = c.args.from in
    let to = c.args.to in
    let end = to - from + o in
    let before = row_before i v there low front from to (omega (arith, c.cut-offset.ensures.count)) in
    let begins : o ≡ from - count_in front = omega (arith, c.cut-offset.ensures.count) in
    let ends : end ≡ to - count_in front = omega (arith, c.cut-offset.ensures.count, c.requires.range) in
    let none : mid ≡ [] = none_long mid (none_from_test (length mid) c.is_empty.result c.is_empty.ensures c.if-not-is_empty.false) in
    let empty : rest ≡ [] = c.cut-left.ensures.whole ∙ ap (λ t. t ++ after) none ∙ none_long after c.in-None.ensures.cases in
    node_read i v there c.args.level low c.args.node cs front rest from to o end c.in-Inner.is up e begins ends before (row_none i v there low rest o end empty)

pub returns-in_ok-below-in-Inner-clause-sums : goal.returns-in_ok-below-in-Inner-clause-sums
returns-in_ok-below-in-Inner-clause-sums g t c first there is-told goes =
    let i = g.M.Unit.Item in
    let m = g.M.Summer in
    let v = values_of m first in
    let cs = c.in-Inner.children in
    let low = c.args.level - 1 in
    let kind : is_leaf (Inner cs) ≡ (c.args.level == 0) = subst (λ x. is_leaf x ≡ (c.args.level == 0)) c.in-Inner.is c.requires.kind in
    let up : c.args.level ≡ suc low = level_above c.args.level kind in
    let front = c.cut-offset.result.0.now in
    let rest = c.cut-offset.result.1.now in
    let o = c.cut-offset.result.2 in
    let e : cs ≡ front ++ rest = sym c.as_slice.ensures ∙ c.cut-offset.ensures.whole in
    let mid = c.cut-left.result.0.now in
    let after = c.cut-left.result.1.now in
    let left = c.cut-left.result.2 in
    let from = c.args.from in
    let to = c.args.to in
    let end = to - from + o in
    let before = row_before i v there low front from to (omega (arith, c.cut-offset.ensures.count)) in
    let begins : o ≡ from - count_in front = omega (arith, c.cut-offset.ensures.count) in
    let ends : end ≡ to - count_in front = omega (arith, c.cut-offset.ensures.count, c.requires.range) in
    let none : mid ≡ [] = none_long mid (none_from_test (length mid) c.is_empty.result c.is_empty.ensures c.if-not-is_empty.false) in
    let child = c.in-Some.pair.0.now in
    let others = c.in-Some.pair.1.now in
    let some : after ≡ child ∷ others = c.in-Some.ensures.cases.0 in
    let is : rest ≡ child ∷ others = c.cut-left.ensures.whole ∙ ap (λ t. t ++ after) none ∙ some in
    let zero_in : count_in mid ≡ 0 = ap count_in none in
    let less : end < child.count = omega (arith, c.cut-left.ensures.inside child others some, c.cut-left.ensures.count, zero_in) in
    let below = c.in_ok-below-in-Inner.below in
    let stands = c.in_ok-below-in-Inner.ensures.stands there is-told in
    ok_on _ _ (λ h. node_read i v there c.args.level low c.args.node cs front rest from to o end c.in-Inner.is up e begins ends before (subst (λ ds. RowIsRead i v there low ds o end) (sym is) (row_head i v there low child others below stands o end h less))) c.inside.result
    (c.inside.ensures.sums first there (c.in_ok-below-in-Inner.ensures.reads.nodes ∙ is-told) goes)

pub returns-in-Leaf-clause-stops : goal.returns-in-Leaf-clause-stops
returns-in-Leaf-clause-stops g t c first tree there begin end start is-told goes led rising begins ends =
    let i = g.M.Unit.Item in
    let m = g.M.Summer in
    let keeps = g.met.M.Summer.keeps in
    summed_blames m (RangeStops i there tree begin end (values_of m first)) c.args.summer.now c.add_leaf.new.summer c.add_leaf.result c.add_leaf.ensures.ran

pub returns-in_err-tail_row-in-Inner-clause-stops : goal.returns-in_err-tail_row-in-Inner-clause-stops
returns-in_err-tail_row-in-Inner-clause-stops g t c first tree there begin end start is-told goes led rising begins ends =
    let i = g.M.Unit.Item in
    let m = g.M.Summer in
    let keeps = g.met.M.Summer.keeps in
    let Bad = RangeStops i there tree begin end (values_of m first) in
    let cs = c.in-Inner.children in
    let low = c.args.level - 1 in
    let kind : is_leaf (Inner cs) ≡ (c.args.level == 0) = subst (λ x. is_leaf x ≡ (c.args.level == 0)) c.in-Inner.is c.requires.kind in
    let up : c.args.level ≡ suc low = level_above c.args.level kind in
    let front = c.cut-offset.result.0.now in
    let rest = c.cut-offset.result.1.now in
    let o = c.cut-offset.result.2 in
    let mid = c.cut-left.result.0.now in
    let after = c.cut-left.result.1.now in
    let left = c.cut-left.result.2 in
    let e : cs ≡ front ++ ((mid ++ after) ++ []) = sym c.as_slice.ensures ∙ c.cut-offset.ensures.whole ∙ ap (λ t. front ++ t) (c.cut-left.ensures.whole ∙ sym (append-nil (mid ++ after))) in
    let row = led_row i there tree (Cuts begin end) c.args.at c.args.level low start c.args.node cs front (mid ++ after) [] c.in-Inner.is up e led in
    let later = start + count_in front in
    let mid_row = row_front i there tree (Cuts begin end) c.args.at low later mid after row in
    let within : BeginsInFirst mid o = λ d ds w. c.cut-offset.ensures.inside d (ds ++ after) (c.cut-left.ensures.whole ∙ ap (λ t. t ++ after) w) in
    let numbers : o ≡ begin - later = omega (arith, begins, c.cut-offset.ensures.count) in
    let most : later + count_in mid ≤ end = omega (arith, ends, c.cut-offset.ensures.count, c.cut-left.ensures.count, c.requires.range) in
    let q = c.from_residual in
    let p = err_from_is_err_and q.result q.ensures.1 in
    blames_err Bad q.result c.in_err-tail_row-in-Inner.field-0.0 p.0 p.2 p.1 (c.in_err-tail_row-in-Inner.ensures.stops first tree there begin end later is-told goes mid_row within numbers most)

pub returns-then-not-is_empty-clause-stops : goal.returns-then-not-is_empty-clause-stops
returns-then-not-is_empty-clause-stops g t c first tree there begin end start is-told goes led rising begins ends =
    let i = g.M.Unit.Item in
    let m = g.M.Summer in
    let keeps = g.met.M.Summer.keeps in
    let cs = c.in-Inner.children in
    let low = c.args.level - 1 in
    let kind : is_leaf (Inner cs) ≡ (c.args.level == 0) = subst (λ x. is_leaf x ≡ (c.args.level == 0)) c.in-Inner.is c.requires.kind in
    let up : c.args.level ≡ suc low = level_above c.args.level kind in
    let front = c.cut-offset.result.0.now in
    let rest = c.cut-offset.result.1.now in
    let o = c.cut-offset.result.2 in
    let mid = c.cut-left.result.0.now in
    let after = c.cut-left.result.1.now in
    let left = c.cut-left.result.2 in
    let e : cs ≡ front ++ ((mid ++ after) ++ []) = sym c.as_slice.ensures ∙ c.cut-offset.ensures.whole ∙ ap (λ t. front ++ t) (c.cut-left.ensures.whole ∙ sym (append-nil (mid ++ after))) in
    let row = led_row i there tree (Cuts begin end) c.args.at c.args.level low start c.args.node cs front (mid ++ after) [] c.in-Inner.is up e led in
    let later = start + count_in front in
    let within : BeginsInFirst mid o = λ d ds w. c.cut-offset.ensures.inside d (ds ++ after) (c.cut-left.ensures.whole ∙ ap (λ t. t ++ after) w) in
    let after_row = row_back i there tree (Cuts begin end) c.args.at low later mid after row in
    let some : 0 < length mid = some_from_test (length mid) c.is_empty.result c.is_empty.ensures c.if-not-is_empty.true in
    let passed = first_within mid o some within in
    let goes2 = g.met.M.Summer.are_steps.both first c.args.summer.now c.tail_row.new.summer goes c.in_ok-tail_row-in-Inner.ensures.goes in
    c.head_row.ensures.stops first tree there begin end c.args.at (later + count_in mid) (c.in_ok-tail_row-in-Inner.ensures.reads.nodes ∙ is-told) goes2 after_row c.cut-left.ensures.inside
    (omega (arith, begins, passed, c.cut-offset.ensures.count)) (omega (arith, ends, c.cut-offset.ensures.count, c.cut-left.ensures.count, c.requires.range))

pub returns-in_err-below-in-Inner-clause-stops : goal.returns-in_err-below-in-Inner-clause-stops
returns-in_err-below-in-Inner-clause-stops g t c first tree there begin end start is-told goes led rising begins ends =
    let i = g.M.Unit.Item in
    let m = g.M.Summer in
    let keeps = g.met.M.Summer.keeps in
    let Bad = RangeStops i there tree begin end (values_of m first) in
    let cs = c.in-Inner.children in
    let low = c.args.level - 1 in
    let kind : is_leaf (Inner cs) ≡ (c.args.level == 0) = subst (λ x. is_leaf x ≡ (c.args.level == 0)) c.in-Inner.is c.requires.kind in
    let up : c.args.level ≡ suc low = level_above c.args.level kind in
    let front = c.cut-offset.result.0.now in
    let rest = c.cut-offset.result.1.now in
    let o = c.cut-offset.result.2 in
    let mid = c.cut-left.result.0.now in
    let after = c.cut-left.result.1.now in
    let left = c.cut-left.result.2 in
    let e : cs ≡ front ++ ((mid ++ after) ++ []) = sym c.as_slice.ensures ∙ c.cut-offset.ensures.whole ∙ ap (λ t. front ++ t) (c.cut-left.ensures.whole ∙ sym (append-nil (mid ++ after))) in
    let row = led_row i there tree (Cuts begin end) c.args.at c.args.level low start c.args.node cs front (mid ++ after) [] c.in-Inner.is up e led in
    let later = start + count_in front in
    let child = c.in-Some.pair.0.now in
    let others = c.in-Some.pair.1.now in
    let some : after ≡ child ∷ others = c.in-Some.ensures.cases.0 in
    let none : mid ≡ [] = none_long mid (none_from_test (length mid) c.is_empty.result c.is_empty.ensures c.if-not-is_empty.false) in
    let zero_in : count_in mid ≡ 0 = ap count_in none in
    let is : mid ++ after ≡ child ∷ others = ap (λ t. t ++ after) none ∙ some in
    let less = c.cut-left.ensures.inside child others some in
    let first_less = c.cut-offset.ensures.inside child others (c.cut-left.ensures.whole ∙ is) in
    let cut = is_cut begin end later child.count (omega (arith, begins, c.cut-offset.ensures.count, first_less)) (omega (arith, ends, rising, c.cut-offset.ensures.count))
    (λ b d. omega (arith, d, ends, less, zero_in, c.cut-left.ensures.count, c.cut-offset.ensures.count, rising)) in
    let leads = row_child i there tree (Cuts begin end) c.args.at low later (mid ++ after) others child is (cuts begin end later child cut) row in
    let q = c.from_residual-in_err-below-in-Inner in
    let p = err_from_is_err_and q.result q.ensures.1 in
    blames_err Bad q.result c.in_err-below-in-Inner.field-0.0 p.0 p.2 p.1 (gap_stops i m keeps first there tree begin end child.at low child.count later Below _ leads (c.in_err-below-in-Inner.ensures.bad there is-told))

pub returns-in_ok-below-in-Inner-clause-stops : goal.returns-in_ok-below-in-Inner-clause-stops
returns-in_ok-below-in-Inner-clause-stops g t c first tree there begin end start is-told goes led rising begins ends =
    let i = g.M.Unit.Item in
    let m = g.M.Summer in
    let keeps = g.met.M.Summer.keeps in
    let cs = c.in-Inner.children in
    let low = c.args.level - 1 in
    let kind : is_leaf (Inner cs) ≡ (c.args.level == 0) = subst (λ x. is_leaf x ≡ (c.args.level == 0)) c.in-Inner.is c.requires.kind in
    let up : c.args.level ≡ suc low = level_above c.args.level kind in
    let front = c.cut-offset.result.0.now in
    let rest = c.cut-offset.result.1.now in
    let o = c.cut-offset.result.2 in
    let mid = c.cut-left.result.0.now in
    let after = c.cut-left.result.1.now in
    let left = c.cut-left.result.2 in
    let e : cs ≡ front ++ ((mid ++ after) ++ []) = sym c.as_slice.ensures ∙ c.cut-offset.ensures.whole ∙ ap (λ t. front ++ t) (c.cut-left.ensures.whole ∙ sym (append-nil (mid ++ after))) in
    let row = led_row i there tree (Cuts begin end) c.args.at c.args.level low start c.args.node cs front (mid ++ after) [] c.in-Inner.is up e led in
    let later = start + count_in front in
    let child = c.in-Some.pair.0.now in
    let others = c.in-Some.pair.1.now in
    let some : after ≡ child ∷ others = c.in-Some.ensures.cases.0 in
    let none : mid ≡ [] = none_long mid (none_from_test (length mid) c.is_empty.result c.is_empty.ensures c.if-not-is_empty.false) in
    let zero_in : count_in mid ≡ 0 = ap count_in none in
    let is : mid ++ after ≡ child ∷ others = ap (λ t. t ++ after) none ∙ some in
    let less = c.cut-left.ensures.inside child others some in
    let first_less = c.cut-offset.ensures.inside child others (c.cut-left.ensures.whole ∙ is) in
    let cut = is_cut begin end later child.count (omega (arith, begins, c.cut-offset.ensures.count, first_less)) (omega (arith, ends, rising, c.cut-offset.ensures.count))
    (λ b d. omega (arith, d, ends, less, zero_in, c.cut-left.ensures.count, c.cut-offset.ensures.count, rising)) in
    let leads = row_child i there tree (Cuts begin end) c.args.at low later (mid ++ after) others child is (cuts begin end later child cut) row in
    let below = c.in_ok-below-in-Inner.below in
    let to : IsLedTo i there tree (Cuts begin end) child.at low later below = record { count = child.count; fill = Below; leads = leads; stands = c.in_ok-below-in-Inner.ensures.stands there is-told } in
    c.inside.ensures.stops first tree there begin end later (c.in_ok-below-in-Inner.ensures.reads.nodes ∙ is-told) goes to (omega (arith, rising)) (omega (arith, begins, c.cut-offset.ensures.count)) (omega (arith, ends, rising, c.cut-offset.ensures.count))
