use Rattle.std.proofs.Common.{◌≡◌, ◌≤◌, ◌∷◌, ◌++◌, ◌==◌, ◌+◌, ◌-◌, [], suc, OnOk, take, length, sym, ap, subst, ◌∙◌, arith, refl, append_assoc}
use Rattle.std.proofs.lemmas.List.{append-nil, take-append-le}
use Rattle.std.proofs.lemmas.Result.{err_from_is_err_and}
use Rattle.tree_laws.specs.declared.node.Node.TheVariants.{Inner}
use Rattle.tree_laws.specs.declared.tree.Fill.TheVariants.{Below}
use Rattle.tree_laws.specs.Nodes.{is_leaf}
use Rattle.tree_laws.specs.SummerTrees.{AreChildren, Has, Stands}
use Rattle.tree_query.specs.Ranges.{Gathered}
use Rattle.tree_query.proofs.Lists.{level_above, none_long}
use Rattle.tree_query.proofs.Ranges.{cutting}
use Rattle.tree_query.proofs.Reached.{has_got}
use Rattle.tree_query.proofs.Sums.{BothLaws, all_of, back_of, first_of, front_of, got_fails, later_of, node_got, ok_is, ok_on, read_fails, sum_none, sum_ran_err, sum_ran_on, summed_ran}
use Rattle.tree_laws.specs.Values.{values_of}
use Rattle.tree_query.specs.Leading.{IsLedTo}
use Rattle.tree_query.specs.Summaries.{Cuts, RangeStops, RowIsRead, count_in}
use Rattle.tree_query.proofs.Leading.{blames_err, led_row, row_child}
use Rattle.tree_query.proofs.Stops.{cuts, gap_stops, is_cut, row_stops, summed_blames}
use Rattle.tree_query.proofs.Summaries.{is_leaf_read, node_read, row_after, row_head, row_none, row_whole}
use Rattle.tree_query.proofs.range.+head.Goals as goal

pub head-returns-in_ok-add_whole-in-Inner-clause-items : goal.head-returns-in_ok-add_whole-in-Inner-clause-items
head-returns-in_ok-add_whole-in-Inner-clause-items g t c first there done items is-told goes long has h =
    let i = g.M.Unit.Item in
    let m = g.M.Summer in
    let cs = c.in-Inner.children in
    let low = c.args.level - 1 in
    let kind : is_leaf (Inner cs) ≡ (c.args.level == 0) = subst (λ x. is_leaf x ≡ (c.args.level == 0)) c.in-Inner.is c.requires.kind in
    let up : c.args.level ≡ suc low = level_above c.args.level kind in
    let P = Stands i m first there low in
    let has0 : Has i m first there c.args.level (Inner cs) items = subst (λ x. Has i m first there c.args.level x items) c.in-Inner.is has in
    let has1 : AreChildren i m first P cs items = subst (λ l. Has i m first there l (Inner cs) items) up has0 in
    let e : cs ≡ c.cut-offset.result.0.now ++ c.cut-offset.result.1.now = sym c.as_slice.ensures ∙ c.cut-offset.ensures.whole in
    let offset = c.cut-offset.result.2 in
    let k = cutting i m first P c.cut-offset.result.0.now c.cut-offset.result.1.now c.args.to offset items (subst (λ ds. AreChildren i m first P ds items) e has1) c.cut-offset.ensures.count in
    let f = c.in_ok-add_whole-in-Inner.ensures.items first there low done k.xs goes k.at_front h in
    let r = c.head_row.ensures.items first there (done ++ k.xs) k.ys is-told goes c.cut-offset.ensures.inside k.at_back f in
    let whole : (done ++ k.xs) ++ take offset k.ys ≡ done ++ take c.args.to items = append_assoc done k.xs (take offset k.ys) ∙ ap (λ t. done ++ t) (sym k.taken) in
    subst (λ zs. OnOk c.head_row.result (Gathered m first c.head_row.new.parts.items zs)) whole r

pub head-returns-in_ok-add_whole-in-Inner-clause-ran : goal.head-returns-in_ok-add_whole-in-Inner-clause-ran
head-returns-in_ok-add_whole-in-Inner-clause-ran g t c first tree since goes met =
    let i = g.M.Unit.Item in
    let m = g.M.Summer in
    let s = g.S.NodeSource in
    let laws : BothLaws s m = record { steps = g.met.S.NodeSource.are_steps; caused = g.met.S.NodeSource.stays_caused; sum_steps = g.met.M.Summer.are_steps; sum_caused = g.met.M.Summer.stays_caused; sum_keeps = g.met.M.Summer.keeps } in
    let s0 = c.args.store.now in
    let u0 = c.args.summer.now in
    let told = s.nodes s0 in
    let cs = c.in-Inner.children in
    let low = c.args.level - 1 in
    let kind : is_leaf (Inner cs) ≡ (c.args.level == 0) = subst (λ x. is_leaf x ≡ (c.args.level == 0)) c.in-Inner.is c.requires.kind in
    let up : c.args.level ≡ suc low = level_above c.args.level kind in
    let e : cs ≡ c.cut-offset.result.0.now ++ c.cut-offset.result.1.now = sym c.as_slice.ensures ∙ c.cut-offset.ensures.whole in
    let of = all_of i s m laws first tree since s0 c.args.at c.args.level low c.args.node cs met c.in-Inner.is up in
    c.head_row.ensures.ran first tree since c.args.at goes (back_of i s m laws first tree since s0 c.args.at low cs c.cut-offset.result.0.now c.cut-offset.result.1.now e of)

pub head-returns-in_err-add_whole-in-Inner-clause-ran : goal.head-returns-in_err-add_whole-in-Inner-clause-ran
head-returns-in_err-add_whole-in-Inner-clause-ran g t c first tree since goes met =
    let i = g.M.Unit.Item in
    let m = g.M.Summer in
    let s = g.S.NodeSource in
    let laws : BothLaws s m = record { steps = g.met.S.NodeSource.are_steps; caused = g.met.S.NodeSource.stays_caused; sum_steps = g.met.M.Summer.are_steps; sum_caused = g.met.M.Summer.stays_caused; sum_keeps = g.met.M.Summer.keeps } in
    let s0 = c.args.store.now in
    let u0 = c.args.summer.now in
    let told = s.nodes s0 in
    let cs = c.in-Inner.children in
    let low = c.args.level - 1 in
    let kind : is_leaf (Inner cs) ≡ (c.args.level == 0) = subst (λ x. is_leaf x ≡ (c.args.level == 0)) c.in-Inner.is c.requires.kind in
    let up : c.args.level ≡ suc low = level_above c.args.level kind in
    let e : cs ≡ c.cut-offset.result.0.now ++ c.cut-offset.result.1.now = sym c.as_slice.ensures ∙ c.cut-offset.ensures.whole in
    let of = all_of i s m laws first tree since s0 c.args.at c.args.level low c.args.node cs met c.in-Inner.is up in
    let front = front_of i s m laws first tree since s0 c.args.at low cs c.cut-offset.result.0.now c.cut-offset.result.1.now e of in
    let q = c.from_residual in
    let p = err_from_is_err_and q.result q.ensures.1 in
    sum_ran_err i s m laws first tree since _ s0 s0 u0 u0 q.result c.in_err-add_whole-in-Inner.field-0.0 p.0 p.2 p.1 (read_fails i s m laws first tree since s0 u0 c.args.at low c.cut-offset.result.0.now _ goes front c.in_err-add_whole-in-Inner.ensures.cause)

pub head-returns-in-Leaf-clause-ran : goal.head-returns-in-Leaf-clause-ran
head-returns-in-Leaf-clause-ran g t c first tree since goes met =
    let i = g.M.Unit.Item in
    let m = g.M.Summer in
    let s = g.S.NodeSource in
    let laws : BothLaws s m = record { steps = g.met.S.NodeSource.are_steps; caused = g.met.S.NodeSource.stays_caused; sum_steps = g.met.M.Summer.are_steps; sum_caused = g.met.M.Summer.stays_caused; sum_keeps = g.met.M.Summer.keeps } in
    let s0 = c.args.store.now in
    let u0 = c.args.summer.now in
    let told = s.nodes s0 in
    summed_ran i s m laws first tree since _ s0 u0 c.add_leaf.new.summer c.add_leaf.result c.add_leaf.ensures.ran

pub head_row-returns-then-to-eq0-clause-ran : goal.head_row-returns-then-to-eq0-clause-ran
head_row-returns-then-to-eq0-clause-ran g t c first tree since at goes of =
    let i = g.M.Unit.Item in
    let m = g.M.Summer in
    let s = g.S.NodeSource in
    let laws : BothLaws s m = record { steps = g.met.S.NodeSource.are_steps; caused = g.met.S.NodeSource.stays_caused; sum_steps = g.met.M.Summer.are_steps; sum_caused = g.met.M.Summer.stays_caused; sum_keeps = g.met.M.Summer.keeps } in
    let s0 = c.args.store.now in
    let u0 = c.args.summer.now in
    let told = s.nodes s0 in
    (sum_none i s m laws first tree since s0, laws.sum_steps.none u0)

pub head_row-returns-then-to-eq0-clause-goes : goal.head_row-returns-then-to-eq0-clause-goes
head_row-returns-then-to-eq0-clause-goes g t c =
    g.met.M.Summer.are_steps.none c.args.summer.now

pub head_row-returns-in-None-clause-ran : goal.head_row-returns-in-None-clause-ran
head_row-returns-in-None-clause-ran g t c first tree since at goes of =
    let i = g.M.Unit.Item in
    let m = g.M.Summer in
    let s = g.S.NodeSource in
    let laws : BothLaws s m = record { steps = g.met.S.NodeSource.are_steps; caused = g.met.S.NodeSource.stays_caused; sum_steps = g.met.M.Summer.are_steps; sum_caused = g.met.M.Summer.stays_caused; sum_keeps = g.met.M.Summer.keeps } in
    let s0 = c.args.store.now in
    let u0 = c.args.summer.now in
    let told = s.nodes s0 in
    (sum_none i s m laws first tree since s0, laws.sum_steps.none u0)

pub head_row-returns-in-None-clause-goes : goal.head_row-returns-in-None-clause-goes
head_row-returns-in-None-clause-goes g t c =
    g.met.M.Summer.are_steps.none c.args.summer.now

pub head_row-returns-in_err-node-clause-ran : goal.head_row-returns-in_err-node-clause-ran
head_row-returns-in_err-node-clause-ran g t c first tree since at goes of =
    let i = g.M.Unit.Item in
    let m = g.M.Summer in
    let s = g.S.NodeSource in
    let laws : BothLaws s m = record { steps = g.met.S.NodeSource.are_steps; caused = g.met.S.NodeSource.stays_caused; sum_steps = g.met.M.Summer.are_steps; sum_caused = g.met.M.Summer.stays_caused; sum_keeps = g.met.M.Summer.keeps } in
    let s0 = c.args.store.now in
    let u0 = c.args.summer.now in
    let told = s.nodes s0 in
    let low = c.args.low in
    let child = c.in-Some.pair.0.now in
    let after = c.in-Some.pair.1.now in
    let e : c.args.children.now ≡ child ∷ after = c.in-Some.ensures.cases.0 in
    let reached = first_of i s m laws first tree since s0 at low c.args.children.now child after e of in
    let q = c.from_residual in
    let p = err_from_is_err_and q.result q.ensures.1 in
    sum_ran_err i s m laws first tree since _ s0 c.fetch.new.store u0 u0 q.result c.in_err-node.field-0.0 p.0 p.2 p.1 (got_fails i s m laws first tree since s0 c.fetch.new.store u0 _ (c.in_err-node.ensures.ran tree reached))

pub head_row-returns-clause-ran : goal.head_row-returns-clause-ran
head_row-returns-clause-ran g t c first tree since at goes of =
    let i = g.M.Unit.Item in
    let m = g.M.Summer in
    let s = g.S.NodeSource in
    let laws : BothLaws s m = record { steps = g.met.S.NodeSource.are_steps; caused = g.met.S.NodeSource.stays_caused; sum_steps = g.met.M.Summer.are_steps; sum_caused = g.met.M.Summer.stays_caused; sum_keeps = g.met.M.Summer.keeps } in
    let s0 = c.args.store.now in
    let u0 = c.args.summer.now in
    let told = s.nodes s0 in
    let low = c.args.low in
    let child = c.in-Some.pair.0.now in
    let after = c.in-Some.pair.1.now in
    let e : c.args.children.now ≡ child ∷ after = c.in-Some.ensures.cases.0 in
    let reached = first_of i s m laws first tree since s0 at low c.args.children.now child after e of in
    let same = c.in_ok-node.ensures.reads.nodes in
    let met = node_got i s m laws first tree since s0 c.fetch.new.store child.at low child.count Below c.in_ok-node.node c.in_ok-node.ensures.gets (later_of i s m laws first tree since s0 at low c.args.children.now of) reached c.in_ok-node.ensures.stands in
    let first_goes = c.in_ok-node.ensures.ran tree reached in
    sum_ran_on i s m laws first tree since _ s0 c.fetch.new.store c.head.new.store u0 u0 c.head.new.summer c.head.result same first_goes (laws.sum_steps.none u0) (c.head.ensures.ran first tree since goes (λ there is. met there (sym same ∙ is)))

pub head_row-returns-clause-items : goal.head_row-returns-clause-items
head_row-returns-clause-items g t c first there done items is-told goes inside are h =
    let i = g.M.Unit.Item in
    let m = g.M.Summer in
    let s = g.S.NodeSource in
    let laws : BothLaws s m = record { steps = g.met.S.NodeSource.are_steps; caused = g.met.S.NodeSource.stays_caused; sum_steps = g.met.M.Summer.are_steps; sum_caused = g.met.M.Summer.stays_caused; sum_keeps = g.met.M.Summer.keeps } in
    let s0 = c.args.store.now in
    let u0 = c.args.summer.now in
    let told = s.nodes s0 in
    let low = c.args.low in
    let child = c.in-Some.pair.0.now in
    let after = c.in-Some.pair.1.now in
    let e : c.args.children.now ≡ child ∷ after = c.in-Some.ensures.cases.0 in
    let P = Stands i m first there low in
    let to = c.args.to in
    let k : AreChildren i m first P (child ∷ after) items = subst (λ ds. AreChildren i m first P ds items) e are in
    let small : to ≤ length k.front = omega (arith, inside child after e, k.at_front.count) in
    let has : Has i m first there low c.in_ok-node.node k.front = has_got i (values_of m first) g.met.M.Unit.Item.one_spelling there (Has i m first there low) child.at low child.count Below Below k.front c.in_ok-node.node (c.in_ok-node.ensures.stands there is-told) k.at_front.stands in
    let r = c.head.ensures.items first there done k.front (c.in_ok-node.ensures.reads.nodes ∙ is-told) goes small has h in
    let whole : done ++ take to k.front ≡ done ++ take to items = ap (λ t. done ++ t) (sym (take-append-le to k.front k.back small) ∙ ap (take to) (sym k.whole)) in
    subst (λ zs. OnOk c.head.result (Gathered m first c.head.new.parts.items zs)) whole r

pub head-returns-in_ok-add_whole-in-Inner-clause-fits : goal.head-returns-in_ok-add_whole-in-Inner-clause-fits
head-returns-in_ok-add_whole-in-Inner-clause-fits g t c first goes h =
    c.head_row.ensures.fits first goes (c.in_ok-add_whole-in-Inner.ensures.fits first goes h)

pub head-returns-in-Leaf-clause-sums : goal.head-returns-in-Leaf-clause-sums
head-returns-in-Leaf-clause-sums g t c first there is-told goes =
    ok_is _ c.add_leaf.result (is_leaf_read g.M.Unit.Item (values_of g.M.Summer first) there c.args.level c.args.node c.in-Leaf.items 0 c.args.to c.in-Leaf.is)

pub head-returns-in_ok-add_whole-in-Inner-clause-sums : goal.head-returns-in_ok-add_whole-in-Inner-clause-sums
head-returns-in_ok-add_whole-in-Inner-clause-sums g t c first there is-told goes =
    let i = g.M.Unit.Item in
    let m = g.M.Summer in
    let v = values_of m first in
    let cs = c.in-Inner.children in
    let low = c.args.level - 1 in
    let kind : is_leaf (Inner cs) ≡ (c.args.level == 0) = subst (λ x. is_leaf x ≡ (c.args.level == 0)) c.in-Inner.is c.requires.kind in
    let up : c.args.level ≡ suc low = level_above c.args.level kind in
    let front = c.cut-offset.result.0.now in
    let back = c.cut-offset.result.1.now in
    let o = c.cut-offset.result.2 in
    let e : cs ≡ front ++ back = sym c.as_slice.ensures ∙ c.cut-offset.ensures.whole in
    let to = c.args.to in
    let whole = row_whole i v there low front 0 to refl (omega (arith, c.cut-offset.ensures.count)) (c.in_ok-add_whole-in-Inner.ensures.sums first goes) in
    let ends : o ≡ to - count_in front = omega (arith, c.cut-offset.ensures.count) in
    ok_on _ _ (λ h. node_read i v there c.args.level low c.args.node cs front back 0 to 0 o c.in-Inner.is up e (omega arith) ends whole h) c.head_row.result
    (c.head_row.ensures.sums first there is-told goes c.cut-offset.ensures.inside)

pub head_row-returns-then-to-eq0-clause-sums : goal.head_row-returns-then-to-eq0-clause-sums
head_row-returns-then-to-eq0-clause-sums g t c first there is-told goes inside =
    row_after g.M.Unit.Item (values_of g.M.Summer first) there c.args.low c.args.children.now 0 c.args.to (omega (arith, c.if-to-eq0.true))

pub head_row-returns-in-None-clause-sums : goal.head_row-returns-in-None-clause-sums
head_row-returns-in-None-clause-sums g t c first there is-told goes inside =
    row_none g.M.Unit.Item (values_of g.M.Summer first) there c.args.low c.args.children.now 0 c.args.to (none_long c.args.children.now c.in-None.ensures.cases)

pub head_row-returns-clause-sums : goal.head_row-returns-clause-sums
head_row-returns-clause-sums g t c first there is-told goes inside =
    let i = g.M.Unit.Item in
    let m = g.M.Summer in
    let v = values_of m first in
    let low = c.args.low in
    let child = c.in-Some.pair.0.now in
    let after = c.in-Some.pair.1.now in
    let e : c.args.children.now ≡ child ∷ after = c.in-Some.ensures.cases.0 in
    let to = c.args.to in
    let stands = c.in_ok-node.ensures.stands there is-told in
    ok_on _ _ (λ h. subst (λ ds. RowIsRead i v there low ds 0 to) (sym e) (row_head i v there low child after c.in_ok-node.node stands 0 to h (inside child after e))) c.head.result (c.head.ensures.sums first there (c.in_ok-node.ensures.reads.nodes ∙ is-told) goes)

pub head-returns-in-Leaf-clause-stops : goal.head-returns-in-Leaf-clause-stops
head-returns-in-Leaf-clause-stops g t c first tree there begin end start is-told goes led begins ends =
    let i = g.M.Unit.Item in
    let m = g.M.Summer in
    let keeps = g.met.M.Summer.keeps in
    summed_blames m (RangeStops i there tree begin end (values_of m first)) c.args.summer.now c.add_leaf.new.summer c.add_leaf.result c.add_leaf.ensures.ran

pub head-returns-in_err-add_whole-in-Inner-clause-stops : goal.head-returns-in_err-add_whole-in-Inner-clause-stops
head-returns-in_err-add_whole-in-Inner-clause-stops g t c first tree there begin end start is-told goes led begins ends =
    let i = g.M.Unit.Item in
    let m = g.M.Summer in
    let keeps = g.met.M.Summer.keeps in
    let Bad = RangeStops i there tree begin end (values_of m first) in
    let cs = c.in-Inner.children in
    let low = c.args.level - 1 in
    let kind : is_leaf (Inner cs) ≡ (c.args.level == 0) = subst (λ x. is_leaf x ≡ (c.args.level == 0)) c.in-Inner.is c.requires.kind in
    let up : c.args.level ≡ suc low = level_above c.args.level kind in
    let front = c.cut-offset.result.0.now in
    let back = c.cut-offset.result.1.now in
    let whole : cs ≡ front ++ back = sym c.as_slice.ensures ∙ c.cut-offset.ensures.whole in
    let row = led_row i there tree (Cuts begin end) c.args.at c.args.level low start c.args.node cs [] front back c.in-Inner.is up whole led in
    let q = c.from_residual in
    let p = err_from_is_err_and q.result q.ensures.1 in
    blames_err Bad q.result c.in_err-add_whole-in-Inner.field-0.0 p.0 p.2 p.1 (row_stops i m keeps first there tree begin end c.args.summer.now c.args.at low (start + 0) front _ goes row (omega (arith, begins)) (omega (arith, ends, c.cut-offset.ensures.count)) c.in_err-add_whole-in-Inner.ensures.cause)

pub head-returns-in_ok-add_whole-in-Inner-clause-stops : goal.head-returns-in_ok-add_whole-in-Inner-clause-stops
head-returns-in_ok-add_whole-in-Inner-clause-stops g t c first tree there begin end start is-told goes led begins ends =
    let i = g.M.Unit.Item in
    let m = g.M.Summer in
    let keeps = g.met.M.Summer.keeps in
    let cs = c.in-Inner.children in
    let low = c.args.level - 1 in
    let kind : is_leaf (Inner cs) ≡ (c.args.level == 0) = subst (λ x. is_leaf x ≡ (c.args.level == 0)) c.in-Inner.is c.requires.kind in
    let up : c.args.level ≡ suc low = level_above c.args.level kind in
    let front = c.cut-offset.result.0.now in
    let back = c.cut-offset.result.1.now in
    let whole : cs ≡ front ++ back = sym c.as_slice.ensures ∙ c.cut-offset.ensures.whole in
    let e : cs ≡ front ++ (back ++ []) = whole ∙ ap (λ t. front ++ t) (sym (append-nil back)) in
    let row = led_row i there tree (Cuts begin end) c.args.at c.args.level low start c.args.node cs front back [] c.in-Inner.is up e led in
    c.head_row.ensures.stops first tree there begin end c.args.at (start + count_in front) is-told goes row c.cut-offset.ensures.inside (omega (arith, begins)) (omega (arith, ends, c.cut-offset.ensures.count))

pub head_row-returns-in_err-node-clause-stops : goal.head_row-returns-in_err-node-clause-stops
head_row-returns-in_err-node-clause-stops g t c first tree there begin end at start is-told goes led inside begins ends =
    let i = g.M.Unit.Item in
    let m = g.M.Summer in
    let keeps = g.met.M.Summer.keeps in
    let Bad = RangeStops i there tree begin end (values_of m first) in
    let low = c.args.low in
    let child = c.in-Some.pair.0.now in
    let after = c.in-Some.pair.1.now in
    let e : c.args.children.now ≡ child ∷ after = c.in-Some.ensures.cases.0 in
    let less = inside child after e in
    let cut = is_cut begin end start child.count (omega (arith, begins, less)) (omega (arith, ends, c.if-to-eq0.false)) (λ b d. omega (arith, d, ends, less)) in
    let leads = row_child i there tree (Cuts begin end) at low start c.args.children.now after child e (cuts begin end start child cut) led in
    let q = c.from_residual in
    let p = err_from_is_err_and q.result q.ensures.1 in
    blames_err Bad q.result c.in_err-node.field-0.0 p.0 p.2 p.1 (gap_stops i m keeps first there tree begin end child.at low child.count start Below _ leads (c.in_err-node.ensures.bad there is-told))

pub head_row-returns-clause-stops : goal.head_row-returns-clause-stops
head_row-returns-clause-stops g t c first tree there begin end at start is-told goes led inside begins ends =
    let i = g.M.Unit.Item in
    let m = g.M.Summer in
    let keeps = g.met.M.Summer.keeps in
    let low = c.args.low in
    let child = c.in-Some.pair.0.now in
    let after = c.in-Some.pair.1.now in
    let e : c.args.children.now ≡ child ∷ after = c.in-Some.ensures.cases.0 in
    let less = inside child after e in
    let cut = is_cut begin end start child.count (omega (arith, begins, less)) (omega (arith, ends, c.if-to-eq0.false)) (λ b d. omega (arith, d, ends, less)) in
    let leads = row_child i there tree (Cuts begin end) at low start c.args.children.now after child e (cuts begin end start child cut) led in
    let node = c.in_ok-node.node in
    let to : IsLedTo i there tree (Cuts begin end) child.at low start node = record { count = child.count; fill = Below; leads = leads; stands = c.in_ok-node.ensures.stands there is-told } in
    c.head.ensures.stops first tree there begin end start (c.in_ok-node.ensures.reads.nodes ∙ is-told) goes to begins ends
