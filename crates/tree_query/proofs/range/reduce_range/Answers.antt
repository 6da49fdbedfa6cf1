use Rattle.std.proofs.Common.{◌≡◌, ◌≢◌, ◌<◌, ◌≤◌, ◌-◌, ◌^◌, [], All, take, length, sym, ap, subst, ◌∙◌, arith}
use Rattle.std.proofs.lemmas.Result.{err_from_is_err_and}
use Rattle.tree_laws.specs.declared.tree.Fill.TheVariants.{Root}
use Rattle.tree_laws.specs.SummerTrees.{Has}
use Rattle.tree_query.specs.Ranges.{Gathered, numbered}
use Rattle.tree_laws.specs.Reaching.{root}
use Rattle.tree_query.proofs.Ranges.{gathered_none, numbered_length, numbered_none}
use Rattle.tree_query.proofs.Reached.{has_got, root_at}
use Rattle.tree_query.proofs.Sums.{BothLaws, got_fails, node_got, none_blamed, sum_bad, sum_fails_on, sum_none, sum_ran_err, sum_went_on, summed_fails}
use Rattle.std.proofs.lemmas.List.Elements.{All-drop, All-nil, All-take}
use Rattle.tree_laws.proofs.SummerTrees.{items_fit}
use Rattle.tree_query.proofs.Lists.{some_height}
use Rattle.tree_query.proofs.Since.{later_none}
use Rattle.tree_laws.specs.Values.{values_of}
use Rattle.tree_query.specs.Leading.{IsLedTo, to_root}
use Rattle.tree_query.specs.Summaries.{Cuts, RangeStops}
use Rattle.tree_query.proofs.Leading.{blames_err}
use Rattle.tree_query.proofs.Stops.{gap_stops, summed_fault}
use Rattle.tree_query.proofs.Summaries.{range_read}
use Rattle.tree_query.proofs.range.reduce_range.Goals as goal

pub overflow_sub-level : goal.overflow_sub-level
overflow_sub-level g c = some_height c.args.tree.height c.args.tree.count c.requires.size.empty (omega (arith, c.requires.range, c.requires.within, c.if-from-to.false))

pub returns-then-from-to-clause-value : goal.returns-then-from-to-clause-value
returns-then-from-to-clause-value g c first there items is-told goes is =
    let same : c.args.from ≡ c.args.to = omega (arith, c.if-from-to.true) in
    subst (λ n. numbered c.args.from n items ≡ []) same (numbered_none c.args.from items)

pub returns-then-from-to-clause-ran : goal.returns-then-from-to-clause-ran
returns-then-from-to-clause-ran g c =
    let tree = c.args.tree in
    let first = c.args.summer.now in
    let i = g.M.Unit.Item in
    let m = g.M.Summer in
    let s = g.S.NodeSource in
    let laws : BothLaws s m = record { steps = g.met.S.NodeSource.are_steps; caused = g.met.S.NodeSource.stays_caused; sum_steps = g.met.M.Summer.are_steps; sum_caused = g.met.M.Summer.stays_caused; sum_keeps = g.met.M.Summer.keeps } in
    let s0 = c.args.store.now in
    let u0 = c.args.summer.now in
    let told = s.nodes s0 in
    let since = s.gets s0 in
    (sum_none i s m laws first tree since s0, laws.sum_steps.none u0)

pub returns-clause-value : goal.returns-clause-value
returns-clause-value g c first there items is-told goes is =
    let i = g.M.Unit.Item in
    let m = g.M.Summer in
    let tree = c.args.tree in
    let level = tree.height - 1 in
    let some : 0 < tree.height = some_height tree.height tree.count c.requires.size.empty (omega (arith, c.requires.range, c.requires.within, c.if-from-to.false)) in
    let from = c.args.from in
    let to = c.args.to in
    let range = numbered from to items in
    let stands = c.in_ok-root.ensures.stands there is-told in
    let has : Has i m first there level c.in_ok-root.root items = has_got i (values_of m first) g.met.M.Unit.Item.one_spelling there (Has i m first there level) tree.root level tree.count Root Root items c.in_ok-root.root stands (root_at i (values_of m first) g.met.M.Unit.Item.one_spelling there tree.root tree.height items some is.root) in
    let long : to ≤ length items = omega (arith, c.requires.within, is.count) in
    let count = numbered_length from to items long in
    let full : range ≢ [] = λ none. omega (arith, count, ap length none, c.requires.range, c.if-from-to.false) in
    let few : length range ≤ 2 ^ 63 = omega (arith, count, c.requires.within, c.requires.size.most) in
    let fit = All-drop i.fits from (take to items) (All-take i.fits to items (items_fit i m first there level c.in_ok-root.root items stands.fits has)) in
    let begun : Gathered m first c.new-parts.result.items [] = subst (λ sums. Gathered m first sums []) (sym c.new-parts.ensures.items) (gathered_none i m first) in
    let r = c.in_ok-inside.ensures.items first there [] items (c.in_ok-root.ensures.reads.nodes ∙ is-told) goes long has begun in
    let later = g.met.M.Summer.are_steps.both first c.args.summer.now c.inside.new.summer goes c.in_ok-inside.ensures.goes in
    (full, c.in_ok-sum.ensures.value first range later full fit few (subst (λ sums. Gathered m first sums range) (sym c.as_slice.ensures.value) r))

pub returns-in_err-root-clause-ran : goal.returns-in_err-root-clause-ran
returns-in_err-root-clause-ran g c =
    let i = g.M.Unit.Item in
    let m = g.M.Summer in
    let s = g.S.NodeSource in
    let laws : BothLaws s m = record { steps = g.met.S.NodeSource.are_steps; caused = g.met.S.NodeSource.stays_caused; sum_steps = g.met.M.Summer.are_steps; sum_caused = g.met.M.Summer.stays_caused; sum_keeps = g.met.M.Summer.keeps } in
    let s0 = c.args.store.now in
    let u0 = c.args.summer.now in
    let told = s.nodes s0 in
    let since = s.gets s0 in
    let tree = c.args.tree in
    let level = tree.height - 1 in
    let some : 0 < tree.height = some_height tree.height tree.count c.requires.size.empty (omega (arith, c.requires.range, c.requires.within, c.if-from-to.false)) in
    let first = u0 in
    let goes = laws.sum_steps.none u0 in
    let q = c.from_residual in
    let p = err_from_is_err_and q.result q.ensures.1 in
    sum_ran_err i s m laws first tree since _ s0 c.fetch.new.store u0 u0 q.result c.in_err-root.field-0.0 p.0 p.2 p.1 (got_fails i s m laws first tree since s0 c.fetch.new.store u0 _ (c.in_err-root.ensures.ran tree (λ there is. root some)))

pub returns-in_err-root-clause-sound : goal.returns-in_err-root-clause-sound
returns-in_err-root-clause-sound g c first there items at is-told goes is e =
    let i = g.M.Unit.Item in
    let m = g.M.Summer in
    let s = g.S.NodeSource in
    let laws : BothLaws s m = record { steps = g.met.S.NodeSource.are_steps; caused = g.met.S.NodeSource.stays_caused; sum_steps = g.met.M.Summer.are_steps; sum_caused = g.met.M.Summer.stays_caused; sum_keeps = g.met.M.Summer.keeps } in
    let s0 = c.args.store.now in
    let u0 = c.args.summer.now in
    let told = s.nodes s0 in
    let since = s.gets s0 in
    let tree = c.args.tree in
    let level = tree.height - 1 in
    let some : 0 < tree.height = some_height tree.height tree.count c.requires.size.empty (omega (arith, c.requires.range, c.requires.within, c.if-from-to.false)) in
    let q = c.from_residual in
    let p = err_from_is_err_and q.result q.ensures.1 in
    let ran = sum_ran_err i s m laws first tree since _ s0 c.fetch.new.store u0 u0 q.result c.in_err-root.field-0.0 p.0 p.2 p.1 (got_fails i s m laws first tree since s0 c.fetch.new.store u0 _ (c.in_err-root.ensures.ran tree (λ there is. root some))) in
    none_blamed i m first g.met.M.Unit.Item.one_spelling there tree items is since since (s.gets c.fetch.new.store) at (sum_bad i s m laws first tree since _ s0 c.fetch.new.store u0 u0 there q.result at ran is-told e)

pub returns-in_err-inside-clause-ran : goal.returns-in_err-inside-clause-ran
returns-in_err-inside-clause-ran g c =
    let i = g.M.Unit.Item in
    let m = g.M.Summer in
    let s = g.S.NodeSource in
    let laws : BothLaws s m = record { steps = g.met.S.NodeSource.are_steps; caused = g.met.S.NodeSource.stays_caused; sum_steps = g.met.M.Summer.are_steps; sum_caused = g.met.M.Summer.stays_caused; sum_keeps = g.met.M.Summer.keeps } in
    let s0 = c.args.store.now in
    let u0 = c.args.summer.now in
    let told = s.nodes s0 in
    let since = s.gets s0 in
    let tree = c.args.tree in
    let level = tree.height - 1 in
    let some : 0 < tree.height = some_height tree.height tree.count c.requires.size.empty (omega (arith, c.requires.range, c.requires.within, c.if-from-to.false)) in
    let first = u0 in
    let goes = laws.sum_steps.none u0 in
    let q = c.from_residual-in_err-inside in
    let p = err_from_is_err_and q.result q.ensures.1 in
    let same = c.in_ok-root.ensures.reads.nodes in
    let met = node_got i s m laws first tree since s0 c.fetch.new.store tree.root level tree.count Root c.in_ok-root.root c.in_ok-root.ensures.gets (λ there is. later_none since) (λ there is. root some) c.in_ok-root.ensures.stands in
    let got = c.in_ok-root.ensures.ran tree (λ there is. root some) in
    sum_ran_err i s m laws first tree since _ s0 c.inside.new.store u0 c.inside.new.summer q.result c.in_err-inside.field-0.0 p.0 p.2 p.1 (sum_fails_on i s m laws first tree since s0 c.fetch.new.store c.inside.new.store u0 u0 c.inside.new.summer _ same got (laws.sum_steps.none u0) (c.in_err-inside.ensures.ran first tree since goes (λ there is. met there (sym same ∙ is))))

pub returns-in_err-inside-clause-sound : goal.returns-in_err-inside-clause-sound
returns-in_err-inside-clause-sound g c first there items at is-told goes is e =
    let i = g.M.Unit.Item in
    let m = g.M.Summer in
    let s = g.S.NodeSource in
    let laws : BothLaws s m = record { steps = g.met.S.NodeSource.are_steps; caused = g.met.S.NodeSource.stays_caused; sum_steps = g.met.M.Summer.are_steps; sum_caused = g.met.M.Summer.stays_caused; sum_keeps = g.met.M.Summer.keeps } in
    let s0 = c.args.store.now in
    let u0 = c.args.summer.now in
    let told = s.nodes s0 in
    let since = s.gets s0 in
    let tree = c.args.tree in
    let level = tree.height - 1 in
    let some : 0 < tree.height = some_height tree.height tree.count c.requires.size.empty (omega (arith, c.requires.range, c.requires.within, c.if-from-to.false)) in
    let q = c.from_residual-in_err-inside in
    let p = err_from_is_err_and q.result q.ensures.1 in
    let same = c.in_ok-root.ensures.reads.nodes in
    let met = node_got i s m laws first tree since s0 c.fetch.new.store tree.root level tree.count Root c.in_ok-root.root c.in_ok-root.ensures.gets (λ there is. later_none since) (λ there is. root some) c.in_ok-root.ensures.stands in
    let got = c.in_ok-root.ensures.ran tree (λ there is. root some) in
    let ran = sum_ran_err i s m laws first tree since _ s0 c.inside.new.store u0 c.inside.new.summer q.result c.in_err-inside.field-0.0 p.0 p.2 p.1 (sum_fails_on i s m laws first tree since s0 c.fetch.new.store c.inside.new.store u0 u0 c.inside.new.summer _ same got (laws.sum_steps.none u0) (c.in_err-inside.ensures.ran first tree since goes (λ there is. met there (sym same ∙ is)))) in
    none_blamed i m first g.met.M.Unit.Item.one_spelling there tree items is since since (s.gets c.inside.new.store) at (sum_bad i s m laws first tree since _ s0 c.inside.new.store u0 c.inside.new.summer there q.result at ran is-told e)

pub returns-in_err-sum-clause-ran : goal.returns-in_err-sum-clause-ran
returns-in_err-sum-clause-ran g c =
    let i = g.M.Unit.Item in
    let m = g.M.Summer in
    let s = g.S.NodeSource in
    let laws : BothLaws s m = record { steps = g.met.S.NodeSource.are_steps; caused = g.met.S.NodeSource.stays_caused; sum_steps = g.met.M.Summer.are_steps; sum_caused = g.met.M.Summer.stays_caused; sum_keeps = g.met.M.Summer.keeps } in
    let s0 = c.args.store.now in
    let u0 = c.args.summer.now in
    let told = s.nodes s0 in
    let since = s.gets s0 in
    let tree = c.args.tree in
    let level = tree.height - 1 in
    let some : 0 < tree.height = some_height tree.height tree.count c.requires.size.empty (omega (arith, c.requires.range, c.requires.within, c.if-from-to.false)) in
    let first = u0 in
    let goes = laws.sum_steps.none u0 in
    let q = c.from_residual-in_err-sum in
    let p = err_from_is_err_and q.result q.ensures.1 in
    let same = c.in_ok-root.ensures.reads.nodes in
    let met = node_got i s m laws first tree since s0 c.fetch.new.store tree.root level tree.count Root c.in_ok-root.root c.in_ok-root.ensures.gets (λ there is. later_none since) (λ there is. root some) c.in_ok-root.ensures.stands in
    let got = c.in_ok-root.ensures.ran tree (λ there is. root some) in
    let ran1 = c.in_ok-inside.ensures.ran first tree since goes (λ there is. met there (sym same ∙ is)) in
    let same2 = c.in_ok-inside.ensures.reads.nodes ∙ same in
    let s2 = c.inside.new.store in
    let u1 = c.inside.new.summer in
    let u2 = c.join_parts.new.summer in
    sum_ran_err i s m laws first tree since _ s0 s2 u0 u2 q.result c.in_err-sum.field-0.0 p.0 p.2 p.1 (sum_fails_on i s m laws first tree since s0 s2 s2 u0 u1 u2 _ same2 (sum_went_on i s m laws first tree since s0 c.fetch.new.store s2 same got ran1.0) ran1.1 (summed_fails i s m laws first tree since g.row.M-Sum.Denot s2 u1 u2 _ c.in_err-sum.ensures.ran))

pub returns-in_err-sum-clause-sound : goal.returns-in_err-sum-clause-sound
returns-in_err-sum-clause-sound g c first there items at is-told goes is e =
    let i = g.M.Unit.Item in
    let m = g.M.Summer in
    let s = g.S.NodeSource in
    let laws : BothLaws s m = record { steps = g.met.S.NodeSource.are_steps; caused = g.met.S.NodeSource.stays_caused; sum_steps = g.met.M.Summer.are_steps; sum_caused = g.met.M.Summer.stays_caused; sum_keeps = g.met.M.Summer.keeps } in
    let s0 = c.args.store.now in
    let u0 = c.args.summer.now in
    let told = s.nodes s0 in
    let since = s.gets s0 in
    let tree = c.args.tree in
    let level = tree.height - 1 in
    let some : 0 < tree.height = some_height tree.height tree.count c.requires.size.empty (omega (arith, c.requires.range, c.requires.within, c.if-from-to.false)) in
    let q = c.from_residual-in_err-sum in
    let p = err_from_is_err_and q.result q.ensures.1 in
    let same = c.in_ok-root.ensures.reads.nodes in
    let met = node_got i s m laws first tree since s0 c.fetch.new.store tree.root level tree.count Root c.in_ok-root.root c.in_ok-root.ensures.gets (λ there is. later_none since) (λ there is. root some) c.in_ok-root.ensures.stands in
    let got = c.in_ok-root.ensures.ran tree (λ there is. root some) in
    let ran1 = c.in_ok-inside.ensures.ran first tree since goes (λ there is. met there (sym same ∙ is)) in
    let same2 = c.in_ok-inside.ensures.reads.nodes ∙ same in
    let s2 = c.inside.new.store in
    let u1 = c.inside.new.summer in
    let u2 = c.join_parts.new.summer in
    let ran = sum_ran_err i s m laws first tree since _ s0 s2 u0 u2 q.result c.in_err-sum.field-0.0 p.0 p.2 p.1 (sum_fails_on i s m laws first tree since s0 s2 s2 u0 u1 u2 _ same2 (sum_went_on i s m laws first tree since s0 c.fetch.new.store s2 same got ran1.0) ran1.1 (summed_fails i s m laws first tree since g.row.M-Sum.Denot s2 u1 u2 _ c.in_err-sum.ensures.ran)) in
    none_blamed i m first g.met.M.Unit.Item.one_spelling there tree items is since since (s.gets s2) at (sum_bad i s m laws first tree since _ s0 s2 u0 u2 there q.result at ran is-told e)

pub returns-clause-ran : goal.returns-clause-ran
returns-clause-ran g c =
    let i = g.M.Unit.Item in
    let m = g.M.Summer in
    let s = g.S.NodeSource in
    let laws : BothLaws s m = record { steps = g.met.S.NodeSource.are_steps; caused = g.met.S.NodeSource.stays_caused; sum_steps = g.met.M.Summer.are_steps; sum_caused = g.met.M.Summer.stays_caused; sum_keeps = g.met.M.Summer.keeps } in
    let s0 = c.args.store.now in
    let u0 = c.args.summer.now in
    let told = s.nodes s0 in
    let since = s.gets s0 in
    let tree = c.args.tree in
    let level = tree.height - 1 in
    let some : 0 < tree.height = some_height tree.height tree.count c.requires.size.empty (omega (arith, c.requires.range, c.requires.within, c.if-from-to.false)) in
    let first = u0 in
    let goes = laws.sum_steps.none u0 in
    let same = c.in_ok-root.ensures.reads.nodes in
    let met = node_got i s m laws first tree since s0 c.fetch.new.store tree.root level tree.count Root c.in_ok-root.root c.in_ok-root.ensures.gets (λ there is. later_none since) (λ there is. root some) c.in_ok-root.ensures.stands in
    let got = c.in_ok-root.ensures.ran tree (λ there is. root some) in
    let ran1 = c.in_ok-inside.ensures.ran first tree since goes (λ there is. met there (sym same ∙ is)) in
    (sum_went_on i s m laws first tree since s0 c.fetch.new.store c.inside.new.store same got ran1.0, laws.sum_steps.both u0 c.inside.new.summer c.join_parts.new.summer ran1.1 c.in_ok-sum.ensures.ran)

pub returns-clause-fits : goal.returns-clause-fits
returns-clause-fits g c =
    let u0 = c.args.summer.now in
    let fits = g.M.Summer.fits u0 in
    let begun = subst (All fits) (sym c.new-parts.ensures.items) (All-nil fits) in
    let all = c.in_ok-inside.ensures.fits u0 (g.met.M.Summer.are_steps.none u0) begun in
    c.in_ok-sum.ensures.fits u0 c.in_ok-inside.ensures.goes (subst (All fits) (sym c.as_slice.ensures.value) all)

pub returns-clause-sums : goal.returns-clause-sums
returns-clause-sums g c there is-told =
    let i = g.M.Unit.Item in
    let m = g.M.Summer in
    let u0 = c.args.summer.now in
    let read = c.in_ok-inside.ensures.sums u0 there (c.in_ok-root.ensures.reads.nodes ∙ is-told) (g.met.M.Summer.are_steps.none u0) in
    range_read i (values_of m u0) there g.met.M.Unit.Item.one_spelling c.args.tree c.args.from c.args.to c.in_ok-root.root (c.in_ok-root.ensures.stands there is-told) read

pub returns-in_err-root-clause-stops : goal.returns-in_err-root-clause-stops
returns-in_err-root-clause-stops g c there is-told =
    let i = g.M.Unit.Item in
    let m = g.M.Summer in
    let keeps = g.met.M.Summer.keeps in
    let u0 = c.args.summer.now in
    let tree = c.args.tree in
    let level = tree.height - 1 in
    let from = c.args.from in
    let to = c.args.to in
    let some : 0 < tree.height = some_height tree.height tree.count c.requires.size.empty (omega (arith, c.requires.range, c.requires.within, c.if-from-to.false)) in
    let Bad = RangeStops i there tree from to (values_of m u0) in
    let q = c.from_residual in
    let p = err_from_is_err_and q.result q.ensures.1 in
    blames_err Bad q.result c.in_err-root.field-0.0 p.0 p.2 p.1 (gap_stops i m keeps u0 there tree from to tree.root level tree.count 0 Root _ (to_root some) (c.in_err-root.ensures.bad there is-told))

pub returns-in_err-inside-clause-stops : goal.returns-in_err-inside-clause-stops
returns-in_err-inside-clause-stops g c there is-told =
    let i = g.M.Unit.Item in
    let m = g.M.Summer in
    let keeps = g.met.M.Summer.keeps in
    let u0 = c.args.summer.now in
    let tree = c.args.tree in
    let level = tree.height - 1 in
    let from = c.args.from in
    let to = c.args.to in
    let some : 0 < tree.height = some_height tree.height tree.count c.requires.size.empty (omega (arith, c.requires.range, c.requires.within, c.if-from-to.false)) in
    let Bad = RangeStops i there tree from to (values_of m u0) in
    let led : IsLedTo i there tree (Cuts from to) tree.root level 0 c.in_ok-root.root = record { count = tree.count; fill = Root; leads = to_root some; stands = c.in_ok-root.ensures.stands there is-told } in
    let rising : from < to = omega (arith, c.requires.range, c.if-from-to.false) in
    let q = c.from_residual-in_err-inside in
    let p = err_from_is_err_and q.result q.ensures.1 in
    blames_err Bad q.result c.in_err-inside.field-0.0 p.0 p.2 p.1 (c.in_err-inside.ensures.stops u0 tree there from to 0 (c.in_ok-root.ensures.reads.nodes ∙ is-told) (g.met.M.Summer.are_steps.none u0) led rising (omega arith) (omega arith))

pub returns-in_err-sum-clause-stops : goal.returns-in_err-sum-clause-stops
returns-in_err-sum-clause-stops g c there is-told =
    let i = g.M.Unit.Item in
    let m = g.M.Summer in
    let keeps = g.met.M.Summer.keeps in
    let u0 = c.args.summer.now in
    let tree = c.args.tree in
    let level = tree.height - 1 in
    let from = c.args.from in
    let to = c.args.to in
    let some : 0 < tree.height = some_height tree.height tree.count c.requires.size.empty (omega (arith, c.requires.range, c.requires.within, c.if-from-to.false)) in
    let Bad = RangeStops i there tree from to (values_of m u0) in
    let q = c.from_residual-in_err-sum in
    let p = err_from_is_err_and q.result q.ensures.1 in
    blames_err Bad q.result c.in_err-sum.field-0.0 p.0 p.2 p.1 (summed_fault m Bad c.inside.new.summer c.join_parts.new.summer g.row.M-Sum.Denot c.in_err-sum.field-0.0 c.in_err-sum.ensures.ran)
