use Rattle.std.proofs.Common.{◌≡◌, ◌<◌, ◌≤◌, ◌∷◌, ◌++◌, ◌==◌, ◌+◌, ◌-◌, zero, suc, [], OnOk, drop, length, sym, ap, subst, ◌∙◌, arith, refl, append_assoc}
use Rattle.std.proofs.lemmas.List.{append-nil, drop-append-le}
use Rattle.std.proofs.lemmas.Result.{err_from_is_err_and}
use Rattle.tree_laws.specs.declared.node.Node.TheVariants.{Inner}
use Rattle.tree_laws.specs.declared.tree.Fill.TheVariants.{Below}
use Rattle.tree_laws.specs.Nodes.{is_leaf}
use Rattle.tree_laws.specs.SummerTrees.{AreChildren, Has, Stands}
use Rattle.tree_query.specs.Ranges.{Gathered}
use Rattle.tree_query.proofs.Lists.{level_above, none_long}
use Rattle.tree_query.proofs.Ranges.{cutting}
use Rattle.tree_query.proofs.Reached.{has_got}
use Rattle.tree_query.proofs.Sums.{BothLaws, all_of, back_of, first_of, got_fails, later_of, node_got, of_on, ok_is, ok_on, read_ran, sum_fails_on, sum_none, sum_ran_err, sum_ran_on, sum_went_on, summed_ran}
use Rattle.tree_laws.specs.Values.{values_of}
use Rattle.tree_laws.specs.Fitting.{item_count}
use Rattle.tree_query.specs.Leading.{AreLedTo, IsLedTo}
use Rattle.tree_query.specs.Summaries.{Cuts, RangeStops, RowIsRead, count_in}
use Rattle.tree_query.proofs.Leading.{blames_err, led_row, row_back, row_child}
use Rattle.tree_query.proofs.Stops.{cuts, gap_stops, is_cut, result_stops, summed_blames}
use Rattle.tree_query.proofs.Counts.{count_append, count_cons}
use Rattle.tree_query.proofs.Summaries.{back_within, is_leaf_read, node_read, row_before, row_none, row_tail, row_whole}
use Rattle.tree_query.proofs.range.+tail.Goals as goal

pub tail-returns-in-Inner-clause-items : goal.tail-returns-in-Inner-clause-items
tail-returns-in-Inner-clause-items g t c first there done items is-told goes long has h =
    let i = g.M.Unit.Item in
    let m = g.M.Summer in
    let cs = c.in-Inner.children in
    let low = c.args.level - 1 in
    let kind : is_leaf (Inner cs) ≡ (c.args.level == 0) = subst (λ x. is_leaf x ≡ (c.args.level == 0)) c.in-Inner.is c.requires.kind in
    let up : c.args.level ≡ suc low = level_above c.args.level kind in
    let P = Stands i m first there low in
    let has0 : Has i m first there c.args.level (Inner cs) items = subst (λ x. Has i m first there c.args.level x items) c.in-Inner.is has in
    let has1 : AreChildren i m first P cs items = subst (λ l. Has i m first there l (Inner cs) items) up has0 in
    let e : cs ≡ c.cut-offset.result.0.now ++ c.cut-offset.result.1.now = sym c.as_slice.ensures ∙ c.cut-offset.ensures.whole in
    let k = cutting i m first P c.cut-offset.result.0.now c.cut-offset.result.1.now c.args.from c.cut-offset.result.2 items (subst (λ ds. AreChildren i m first P ds items) e has1) c.cut-offset.ensures.count in
    let r = c.tail_row.ensures.items first there done k.ys is-told goes c.cut-offset.ensures.inside k.at_back h in
    subst (λ zs. OnOk c.tail_row.result (Gathered m first c.tail_row.new.parts.items (done ++ zs))) (sym k.dropped) r

pub tail-returns-in-Inner-clause-ran : goal.tail-returns-in-Inner-clause-ran
tail-returns-in-Inner-clause-ran g t c first tree since goes met =
    let i = g.M.Unit.Item in
    let m = g.M.Summer in
    let s = g.S.NodeSource in
    let laws : BothLaws s m = record { steps = g.met.S.NodeSource.are_steps; caused = g.met.S.NodeSource.stays_caused; sum_steps = g.met.M.Summer.are_steps; sum_caused = g.met.M.Summer.stays_caused; sum_keeps = g.met.M.Summer.keeps } in
    let s0 = c.args.store.now in
    let u0 = c.args.summer.now in
    let told = s.nodes s0 in
    let cs = c.in-Inner.children in
    let low = c.args.level - 1 in
    let kind : is_leaf (Inner cs) ≡ (c.args.level == 0) = subst (λ x. is_leaf x ≡ (c.args.level == 0)) c.in-Inner.is c.requires.kind in
    let up : c.args.level ≡ suc low = level_above c.args.level kind in
    let e : cs ≡ c.cut-offset.result.0.now ++ c.cut-offset.result.1.now = sym c.as_slice.ensures ∙ c.cut-offset.ensures.whole in
    let of = all_of i s m laws first tree since s0 c.args.at c.args.level low c.args.node cs met c.in-Inner.is up in
    c.tail_row.ensures.ran first tree since goes (back_of i s m laws first tree since s0 c.args.at low cs c.cut-offset.result.0.now c.cut-offset.result.1.now e of)

pub tail-returns-in-Leaf-clause-ran : goal.tail-returns-in-Leaf-clause-ran
tail-returns-in-Leaf-clause-ran g t c first tree since goes met =
    let i = g.M.Unit.Item in
    let m = g.M.Summer in
    let s = g.S.NodeSource in
    let laws : BothLaws s m = record { steps = g.met.S.NodeSource.are_steps; caused = g.met.S.NodeSource.stays_caused; sum_steps = g.met.M.Summer.are_steps; sum_caused = g.met.M.Summer.stays_caused; sum_keeps = g.met.M.Summer.keeps } in
    let s0 = c.args.store.now in
    let u0 = c.args.summer.now in
    let told = s.nodes s0 in
    summed_ran i s m laws first tree since _ s0 u0 c.add_leaf.new.summer c.add_leaf.result c.add_leaf.ensures.ran

pub tail_row-returns-then-from-eq0-clause-items : goal.tail_row-returns-then-from-eq0-clause-items
tail_row-returns-then-from-eq0-clause-items g t c first there done items is-told goes inside are h =
    let m = g.M.Summer in
    let z : c.args.from ≡ zero = omega (arith, c.if-from-eq0.true) in
    subst (λ n. OnOk c.add_whole.result (Gathered m first c.add_whole.new.parts.items (done ++ drop n items))) (sym z) (c.add_whole.ensures.items first there c.args.low done items goes are h)

pub tail_row-returns-then-from-eq0-clause-ran : goal.tail_row-returns-then-from-eq0-clause-ran
tail_row-returns-then-from-eq0-clause-ran g t c first tree since goes of =
    let i = g.M.Unit.Item in
    let m = g.M.Summer in
    let s = g.S.NodeSource in
    let laws : BothLaws s m = record { steps = g.met.S.NodeSource.are_steps; caused = g.met.S.NodeSource.stays_caused; sum_steps = g.met.M.Summer.are_steps; sum_caused = g.met.M.Summer.stays_caused; sum_keeps = g.met.M.Summer.keeps } in
    let s0 = c.args.store.now in
    let u0 = c.args.summer.now in
    let told = s.nodes s0 in
    read_ran i s m laws first tree since _ s0 u0 c.args.at c.args.low c.args.children.now c.add_whole.result goes of c.add_whole.ensures.cause

pub tail_row-returns-clause-items : goal.tail_row-returns-clause-items
tail_row-returns-clause-items g t c first there done items is-told goes inside are h =
    let i = g.M.Unit.Item in
    let m = g.M.Summer in
    let s = g.S.NodeSource in
    let laws : BothLaws s m = record { steps = g.met.S.NodeSource.are_steps; caused = g.met.S.NodeSource.stays_caused; sum_steps = g.met.M.Summer.are_steps; sum_caused = g.met.M.Summer.stays_caused; sum_keeps = g.met.M.Summer.keeps } in
    let s0 = c.args.store.now in
    let u0 = c.args.summer.now in
    let told = s.nodes s0 in
    let low = c.args.low in
    let child = c.in-Some.pair.0.now in
    let after = c.in-Some.pair.1.now in
    let e : c.args.children.now ≡ child ∷ after = c.in-Some.ensures.cases.0 in
    let P = Stands i m first there low in
    let from = c.args.from in
    let k : AreChildren i m first P (child ∷ after) items = subst (λ ds. AreChildren i m first P ds items) e are in
    let small : from ≤ length k.front = omega (arith, inside child after e, k.at_front.count) in
    let has : Has i m first there low c.in_ok-node.node k.front = has_got i (values_of m first) g.met.M.Unit.Item.one_spelling there (Has i m first there low) child.at low child.count Below Below k.front c.in_ok-node.node (c.in_ok-node.ensures.stands there is-told) k.at_front.stands in
    let r = c.in_ok-tail.ensures.items first there done k.front (c.in_ok-node.ensures.reads.nodes ∙ is-told) goes small has h in
    let later = laws.sum_steps.both first u0 c.tail.new.summer goes c.in_ok-tail.ensures.goes in
    let all = c.add_whole-2.ensures.items first there low (done ++ drop from k.front) k.back later k.at_back r in
    let whole : (done ++ drop from k.front) ++ k.back ≡ done ++ drop from items =
    append_assoc done (drop from k.front) k.back ∙ ap (λ t. done ++ t) (sym (drop-append-le from k.front k.back small) ∙ ap (drop from) (sym k.whole)) in
    subst (λ zs. OnOk c.add_whole-2.result (Gathered m first c.add_whole-2.new.parts.items zs)) whole all

pub tail_row-returns-in_err-node-clause-ran : goal.tail_row-returns-in_err-node-clause-ran
tail_row-returns-in_err-node-clause-ran g t c first tree since goes of =
    let i = g.M.Unit.Item in
    let m = g.M.Summer in
    let s = g.S.NodeSource in
    let laws : BothLaws s m = record { steps = g.met.S.NodeSource.are_steps; caused = g.met.S.NodeSource.stays_caused; sum_steps = g.met.M.Summer.are_steps; sum_caused = g.met.M.Summer.stays_caused; sum_keeps = g.met.M.Summer.keeps } in
    let s0 = c.args.store.now in
    let u0 = c.args.summer.now in
    let told = s.nodes s0 in
    let low = c.args.low in
    let child = c.in-Some.pair.0.now in
    let after = c.in-Some.pair.1.now in
    let e : c.args.children.now ≡ child ∷ after = c.in-Some.ensures.cases.0 in
    let reached = first_of i s m laws first tree since s0 c.args.at low c.args.children.now child after e of in
    let q = c.from_residual in
    let p = err_from_is_err_and q.result q.ensures.1 in
    sum_ran_err i s m laws first tree since _ s0 c.fetch.new.store u0 u0 q.result c.in_err-node.field-0.0 p.0 p.2 p.1 (got_fails i s m laws first tree since s0 c.fetch.new.store u0 _ (c.in_err-node.ensures.ran tree reached))

pub tail_row-returns-in_err-tail-clause-ran : goal.tail_row-returns-in_err-tail-clause-ran
tail_row-returns-in_err-tail-clause-ran g t c first tree since goes of =
    let i = g.M.Unit.Item in
    let m = g.M.Summer in
    let s = g.S.NodeSource in
    let laws : BothLaws s m = record { steps = g.met.S.NodeSource.are_steps; caused = g.met.S.NodeSource.stays_caused; sum_steps = g.met.M.Summer.are_steps; sum_caused = g.met.M.Summer.stays_caused; sum_keeps = g.met.M.Summer.keeps } in
    let s0 = c.args.store.now in
    let u0 = c.args.summer.now in
    let told = s.nodes s0 in
    let low = c.args.low in
    let child = c.in-Some.pair.0.now in
    let after = c.in-Some.pair.1.now in
    let e : c.args.children.now ≡ child ∷ after = c.in-Some.ensures.cases.0 in
    let reached = first_of i s m laws first tree since s0 c.args.at low c.args.children.now child after e of in
    let same = c.in_ok-node.ensures.reads.nodes in
    let met = node_got i s m laws first tree since s0 c.fetch.new.store child.at low child.count Below c.in_ok-node.node c.in_ok-node.ensures.gets (later_of i s m laws first tree since s0 c.args.at low c.args.children.now of) reached c.in_ok-node.ensures.stands in
    let first_goes = c.in_ok-node.ensures.ran tree reached in
    let q = c.from_residual-in_err-tail in
    let p = err_from_is_err_and q.result q.ensures.1 in
    let fails = c.in_err-tail.ensures.ran first tree since goes (λ there is. met there (sym same ∙ is)) in
    sum_ran_err i s m laws first tree since _ s0 c.tail.new.store u0 c.tail.new.summer q.result c.in_err-tail.field-0.0 p.0 p.2 p.1 (sum_fails_on i s m laws first tree since s0 c.fetch.new.store c.tail.new.store u0 u0 c.tail.new.summer _ same first_goes (laws.sum_steps.none u0) fails)

pub tail_row-returns-clause-ran : goal.tail_row-returns-clause-ran
tail_row-returns-clause-ran g t c first tree since goes of =
    let i = g.M.Unit.Item in
    let m = g.M.Summer in
    let s = g.S.NodeSource in
    let laws : BothLaws s m = record { steps = g.met.S.NodeSource.are_steps; caused = g.met.S.NodeSource.stays_caused; sum_steps = g.met.M.Summer.are_steps; sum_caused = g.met.M.Summer.stays_caused; sum_keeps = g.met.M.Summer.keeps } in
    let s0 = c.args.store.now in
    let u0 = c.args.summer.now in
    let told = s.nodes s0 in
    let low = c.args.low in
    let child = c.in-Some.pair.0.now in
    let after = c.in-Some.pair.1.now in
    let e : c.args.children.now ≡ child ∷ after = c.in-Some.ensures.cases.0 in
    let reached = first_of i s m laws first tree since s0 c.args.at low c.args.children.now child after e of in
    let same = c.in_ok-node.ensures.reads.nodes in
    let met = node_got i s m laws first tree since s0 c.fetch.new.store child.at low child.count Below c.in_ok-node.node c.in_ok-node.ensures.gets (later_of i s m laws first tree since s0 c.args.at low c.args.children.now of) reached c.in_ok-node.ensures.stands in
    let first_goes = c.in_ok-node.ensures.ran tree reached in
    let ran = c.in_ok-tail.ensures.ran first tree since goes (λ there is. met there (sym same ∙ is)) in
    let s2 = c.tail.new.store in
    let u1 = c.tail.new.summer in
    let same2 = c.in_ok-tail.ensures.reads.nodes ∙ same in
    let went = sum_went_on i s m laws first tree since s0 c.fetch.new.store s2 same first_goes ran.0 in
    let rest = back_of i s m laws first tree since s0 c.args.at low c.args.children.now (child ∷ []) after e of in
    let read = read_ran i s m laws first tree since _ s2 u1 c.args.at low after c.add_whole-2.result (laws.sum_steps.both first u0 u1 goes ran.1) (of_on i s m laws first tree since s0 s2 c.args.at low after same2 went rest) c.add_whole-2.ensures.cause in
    sum_ran_on i s m laws first tree since _ s0 s2 s2 u0 u1 u1 c.add_whole-2.result same2 went ran.1 read

pub tail_row-returns-in-None-clause-ran : goal.tail_row-returns-in-None-clause-ran
tail_row-returns-in-None-clause-ran g t c first tree since goes of =
    let i = g.M.Unit.Item in
    let m = g.M.Summer in
    let s = g.S.NodeSource in
    let laws : BothLaws s m = record { steps = g.met.S.NodeSource.are_steps; caused = g.met.S.NodeSource.stays_caused; sum_steps = g.met.M.Summer.are_steps; sum_caused = g.met.M.Summer.stays_caused; sum_keeps = g.met.M.Summer.keeps } in
    let s0 = c.args.store.now in
    let u0 = c.args.summer.now in
    let told = s.nodes s0 in
    (sum_none i s m laws first tree since s0, laws.sum_steps.none u0)

pub tail_row-returns-in-None-clause-goes : goal.tail_row-returns-in-None-clause-goes
tail_row-returns-in-None-clause-goes g t c =
    g.met.M.Summer.are_steps.none c.args.summer.now

pub tail_row-returns-clause-fits : goal.tail_row-returns-clause-fits
tail_row-returns-clause-fits g t c first goes h =
    let later = g.met.M.Summer.are_steps.both first c.args.summer.now c.tail.new.summer goes c.in_ok-tail.ensures.goes in
    c.add_whole-2.ensures.fits first later (c.in_ok-tail.ensures.fits first goes h)

pub tail-returns-in-Leaf-clause-sums : goal.tail-returns-in-Leaf-clause-sums
tail-returns-in-Leaf-clause-sums g t c first there to is-told goes long =
    ok_is _ c.add_leaf.result (is_leaf_read g.M.Unit.Item (values_of g.M.Summer first) there c.args.level c.args.node c.in-Leaf.items c.args.from to c.in-Leaf.is)

pub tail-returns-in-Inner-clause-sums : goal.tail-returns-in-Inner-clause-sums
tail-returns-in-Inner-clause-sums g t c first there to is-told goes long =
    let i = g.M.Unit.Item in
    let m = g.M.Summer in
    let v = values_of m first in
    let cs = c.in-Inner.children in
    let low = c.args.level - 1 in
    let kind : is_leaf (Inner cs) ≡ (c.args.level == 0) = subst (λ x. is_leaf x ≡ (c.args.level == 0)) c.in-Inner.is c.requires.kind in
    let up : c.args.level ≡ suc low = level_above c.args.level kind in
    let front = c.cut-offset.result.0.now in
    let back = c.cut-offset.result.1.now in
    let o = c.cut-offset.result.2 in
    let e : cs ≡ front ++ back = sym c.as_slice.ensures ∙ c.cut-offset.ensures.whole in
    let from = c.args.from in
    let before = row_before i v there low front from to (omega (arith, c.cut-offset.ensures.count)) in
    let begins : o ≡ from - count_in front = omega (arith, c.cut-offset.ensures.count) in
    ok_on _ _ (λ h. node_read i v there c.args.level low c.args.node cs front back from to o (to - count_in front) c.in-Inner.is up e begins refl before h) c.tail_row.result
    (c.tail_row.ensures.sums first there (to - count_in front) is-told goes c.cut-offset.ensures.inside (back_within i v there c.args.node cs front back to c.in-Inner.is e long))

pub tail_row-returns-then-from-eq0-clause-sums : goal.tail_row-returns-then-from-eq0-clause-sums
tail_row-returns-then-from-eq0-clause-sums g t c first there to is-told goes inside long =
    let i = g.M.Unit.Item in
    let m = g.M.Summer in
    let v = values_of m first in
    let none : c.args.from ≡ 0 = omega (arith, c.if-from-eq0.true) in
    ok_on _ _ (λ all. row_whole i v there c.args.low c.args.children.now c.args.from to none long all) c.add_whole.result (c.add_whole.ensures.sums first goes)

pub tail_row-returns-in-None-clause-sums : goal.tail_row-returns-in-None-clause-sums
tail_row-returns-in-None-clause-sums g t c first there to is-told goes inside long =
    row_none g.M.Unit.Item (values_of g.M.Summer first) there c.args.low c.args.children.now c.args.from to (none_long c.args.children.now c.in-None.ensures.cases)

pub tail_row-returns-clause-sums : goal.tail_row-returns-clause-sums
tail_row-returns-clause-sums g t c first there to is-told goes inside long =
    let i = g.M.Unit.Item in
    let m = g.M.Summer in
    let v = values_of m first in
    let low = c.args.low in
    let child = c.in-Some.pair.0.now in
    let after = c.in-Some.pair.1.now in
    let e : c.args.children.now ≡ child ∷ after = c.in-Some.ensures.cases.0 in
    let from = c.args.from in
    let node = c.in_ok-node.node in
    let stands = c.in_ok-node.ensures.stands there is-told in
    let some : 0 < from = omega (arith, c.if-from-eq0.false) in
    let all : count_in (child ∷ after) ≤ to = subst (λ ds. count_in ds ≤ to) e long in
    let many : item_count node ≤ to = omega (arith, stands.place.items, all, count_cons child after) in
    let read = c.in_ok-tail.ensures.sums first there to (c.in_ok-node.ensures.reads.nodes ∙ is-told) goes many in
    let later = g.met.M.Summer.are_steps.both first c.args.summer.now c.tail.new.summer goes c.in_ok-tail.ensures.goes in
    ok_on _ _ (λ others. subst (λ ds. RowIsRead i v there low ds from to) (sym e) (row_tail i v there low child after node stands from to read some (inside child after e) all others)) c.add_whole-2.result (c.add_whole-2.ensures.sums first later)

pub tail-returns-in-Leaf-clause-stops : goal.tail-returns-in-Leaf-clause-stops
tail-returns-in-Leaf-clause-stops g t c first tree there begin end start is-told goes led begins ends =
    let i = g.M.Unit.Item in
    let m = g.M.Summer in
    let keeps = g.met.M.Summer.keeps in
    summed_blames m (RangeStops i there tree begin end (values_of m first)) c.args.summer.now c.add_leaf.new.summer c.add_leaf.result c.add_leaf.ensures.ran

pub tail-returns-in-Inner-clause-stops : goal.tail-returns-in-Inner-clause-stops
tail-returns-in-Inner-clause-stops g t c first tree there begin end start is-told goes led begins ends =
    let i = g.M.Unit.Item in
    let m = g.M.Summer in
    let keeps = g.met.M.Summer.keeps in
    let cs = c.in-Inner.children in
    let low = c.args.level - 1 in
    let kind : is_leaf (Inner cs) ≡ (c.args.level == 0) = subst (λ x. is_leaf x ≡ (c.args.level == 0)) c.in-Inner.is c.requires.kind in
    let up : c.args.level ≡ suc low = level_above c.args.level kind in
    let front = c.cut-offset.result.0.now in
    let back = c.cut-offset.result.1.now in
    let e : cs ≡ front ++ (back ++ []) = sym c.as_slice.ensures ∙ c.cut-offset.ensures.whole ∙ ap (λ t. front ++ t) (sym (append-nil back)) in
    let row = led_row i there tree (Cuts begin end) c.args.at c.args.level low start c.args.node cs front back [] c.in-Inner.is up e led in
    let all : item_count c.args.node ≡ count_in front + count_in back = ap item_count c.in-Inner.is ∙ ap count_in (sym c.as_slice.ensures ∙ c.cut-offset.ensures.whole) ∙ count_append front back in
    c.tail_row.ensures.stops first tree there begin end (start + count_in front) is-told goes row c.cut-offset.ensures.inside (omega (arith, begins, c.cut-offset.ensures.count)) (omega (arith, ends, all))

pub tail_row-returns-then-from-eq0-clause-stops : goal.tail_row-returns-then-from-eq0-clause-stops
tail_row-returns-then-from-eq0-clause-stops g t c first tree there begin end start is-told goes led inside begins ends =
    let i = g.M.Unit.Item in
    let m = g.M.Summer in
    let keeps = g.met.M.Summer.keeps in
    result_stops i m keeps first there tree begin end c.args.summer.now c.args.at c.args.low start c.args.children.now c.add_whole.result goes led (omega (arith, begins, c.if-from-eq0.true)) ends c.add_whole.ensures.cause

pub tail_row-returns-in_err-node-clause-stops : goal.tail_row-returns-in_err-node-clause-stops
tail_row-returns-in_err-node-clause-stops g t c first tree there begin end start is-told goes led inside begins ends =
    let i = g.M.Unit.Item in
    let m = g.M.Summer in
    let keeps = g.met.M.Summer.keeps in
    let Bad = RangeStops i there tree begin end (values_of m first) in
    let low = c.args.low in
    let child = c.in-Some.pair.0.now in
    let after = c.in-Some.pair.1.now in
    let e : c.args.children.now ≡ child ∷ after = c.in-Some.ensures.cases.0 in
    let long : start + count_in (child ∷ after) ≤ end = subst (λ ds. start + count_in ds ≤ end) e ends in
    let less = inside child after e in
    let cut = is_cut begin end start child.count (omega (arith, begins, less, c.if-from-eq0.false)) (omega (arith, long, less, count_cons child after)) (λ b d. omega (arith, b, begins, c.if-from-eq0.false)) in
    let leads = row_child i there tree (Cuts begin end) c.args.at low start c.args.children.now after child e (cuts begin end start child cut) led in
    let q = c.from_residual in
    let p = err_from_is_err_and q.result q.ensures.1 in
    blames_err Bad q.result c.in_err-node.field-0.0 p.0 p.2 p.1 (gap_stops i m keeps first there tree begin end child.at low child.count start Below _ leads (c.in_err-node.ensures.bad there is-told))

pub tail_row-returns-in_err-tail-clause-stops : goal.tail_row-returns-in_err-tail-clause-stops
tail_row-returns-in_err-tail-clause-stops g t c first tree there begin end start is-told goes led inside begins ends =
    let i = g.M.Unit.Item in
    let m = g.M.Summer in
    let keeps = g.met.M.Summer.keeps in
    let Bad = RangeStops i there tree begin end (values_of m first) in
    let low = c.args.low in
    let child = c.in-Some.pair.0.now in
    let after = c.in-Some.pair.1.now in
    let e : c.args.children.now ≡ child ∷ after = c.in-Some.ensures.cases.0 in
    let long : start + count_in (child ∷ after) ≤ end = subst (λ ds. start + count_in ds ≤ end) e ends in
    let less = inside child after e in
    let cut = is_cut begin end start child.count (omega (arith, begins, less, c.if-from-eq0.false)) (omega (arith, long, less, count_cons child after)) (λ b d. omega (arith, b, begins, c.if-from-eq0.false)) in
    let leads = row_child i there tree (Cuts begin end) c.args.at low start c.args.children.now after child e (cuts begin end start child cut) led in
    let node = c.in_ok-node.node in
    let to : IsLedTo i there tree (Cuts begin end) child.at low start node = record { count = child.count; fill = Below; leads = leads; stands = c.in_ok-node.ensures.stands there is-told } in
    let same = c.in_ok-node.ensures.reads.nodes in
    let many : start + item_count node ≤ end = omega (arith, to.stands.place.items, long, count_cons child after) in
    let q = c.from_residual-in_err-tail in
    let p = err_from_is_err_and q.result q.ensures.1 in
    blames_err Bad q.result c.in_err-tail.field-0.0 p.0 p.2 p.1 (c.in_err-tail.ensures.stops first tree there begin end start (same ∙ is-told) goes to begins many)

pub tail_row-returns-clause-stops : goal.tail_row-returns-clause-stops
tail_row-returns-clause-stops g t c first tree there begin end start is-told goes led inside begins ends =
    let i = g.M.Unit.Item in
    let m = g.M.Summer in
    let keeps = g.met.M.Summer.keeps in
    let low = c.args.low in
    let child = c.in-Some.pair.0.now in
    let after = c.in-Some.pair.1.now in
    let e : c.args.children.now ≡ child ∷ after = c.in-Some.ensures.cases.0 in
    let long : start + count_in (child ∷ after) ≤ end = subst (λ ds. start + count_in ds ≤ end) e ends in
    let less = inside child after e in
    let cut = is_cut begin end start child.count (omega (arith, begins, less, c.if-from-eq0.false)) (omega (arith, long, less, count_cons child after)) (λ b d. omega (arith, b, begins, c.if-from-eq0.false)) in
    let leads = row_child i there tree (Cuts begin end) c.args.at low start c.args.children.now after child e (cuts begin end start child cut) led in
    let later = g.met.M.Summer.are_steps.both first c.args.summer.now c.tail.new.summer goes c.in_ok-tail.ensures.goes in
    let whole : AreLedTo i there tree (Cuts begin end) c.args.at low start (child ∷ after) = subst (AreLedTo i there tree (Cuts begin end) c.args.at low start) e led in
    let rest = row_back i there tree (Cuts begin end) c.args.at low start (child ∷ []) after whole in
    let one : count_in (child ∷ []) ≡ child.count + 0 = count_cons child [] in
    result_stops i m keeps first there tree begin end c.tail.new.summer c.args.at low (start + count_in (child ∷ [])) after c.add_whole-2.result later rest (omega (arith, one, begins, less)) (omega (arith, one, long, count_cons child after)) c.add_whole-2.ensures.cause
