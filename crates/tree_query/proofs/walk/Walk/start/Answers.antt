use Rattle.std.proofs.Common.{◌≡◌, ◌<◌, ◌≤◌, ◌++◌, ◌-◌, [], drop, take, length, sym, ap, subst, ◌∙◌, arith, refl, if◌then◌else◌}
use Rattle.std.proofs.lemmas.List.{append-nil}
use Rattle.std.proofs.lemmas.List.Elements.{All-nil}
use Rattle.std.proofs.lemmas.Result.{err_from_is_err_and}
use Rattle.tree_laws.specs.declared.tree.Fill.TheVariants.{Root}
use Rattle.tree_laws.specs.Reaching.{root}
use Rattle.tree_laws.specs.Values.{no_values}
use Rattle.tree_query.specs.Bare.{HasItems}
use Rattle.tree_query.specs.Ranges.{numbered}
use Rattle.tree_query.specs.Walking.{Ahead, AreOver, turned}
use Rattle.tree_query.proofs.Calls.{Laws, fails_on, ran_bad, ran_err, went_none, went_on}
use Rattle.tree_query.proofs.Lists.{some_height}
use Rattle.tree_query.proofs.Ranges.{numbered_length, numbered_none}
use Rattle.tree_query.proofs.Reached.{has_got, node_met, none_unfit, root_at}
use Rattle.tree_query.proofs.Walks.{range_turned, skip_below, turned_empty, turned_length, turned_twice}
use Rattle.tree_laws.specs.Fitting.{item_count}
use Rattle.tree_query.specs.Leading.{to_root}
use Rattle.tree_query.specs.Numbers.{HasNumber, first_edge, number_at}
use Rattle.tree_query.proofs.Leading.{down_err, gap_at}
use Rattle.tree_query.proofs.Numbers.{first_found, found_stands, none_at_hand, root_by_all, rows_none, skipped_past, tree_past}
use Rattle.tree_query.proofs.walk.Walk.start.Goals as goal

pub overflow_sub-level : goal.overflow_sub-level
overflow_sub-level g c = some_height c.args.tree.height c.args.tree.count c.requires.size.empty (omega (arith, c.requires.range, c.requires.within, c.if-from-to.false))

pub go_to-requires-clause-inside : goal.go_to-requires-clause-inside
go_to-requires-clause-inside g c =
    let rising : c.args.from < c.args.to = omega (arith, c.requires.range, c.if-from-to.false) in
    let less = skip_below c.args.descending c.args.tree.count c.args.from c.args.to c.skipped-skip.result c.skipped-skip.ensures rising c.requires.within in
    omega (arith, less, c.in_ok-root.ensures.fit.items)

pub returns-clause-items : goal.returns-clause-items
returns-clause-items g c there items is-told is =
    let i = g.T.Item in
    let tree = c.args.tree in
    let level = tree.height - 1 in
    let some : 0 < tree.height = some_height tree.height tree.count c.requires.size.empty (omega (arith, c.requires.range, c.requires.within, c.if-from-to.false)) in
    let flag = c.args.descending in
    let from = c.args.from in
    let to = c.args.to in
    let skip = c.skipped-skip.result in
    let xs = turned flag items in
    let at = root_at i no_values g.met.T.Item.one_spelling there tree.root tree.height items some is.root in
    let has : HasItems i there level c.in_ok-root.root items = has_got i no_values g.met.T.Item.one_spelling there (HasItems i there level) tree.root level tree.count Root Root items c.in_ok-root.root (c.in_ok-root.ensures.stands there is-told) at in
    let has1 : HasItems i there level c.in_ok-root.root (turned flag xs) = subst (λ ys. HasItems i there level c.in_ok-root.root ys) (sym (turned_twice flag items)) has in
    let long : to ≤ length items = omega (arith, c.requires.within, is.count) in
    let e : skip ≡ (if flag then length items - to else from) = subst (λ n. skip ≡ (if flag then n - to else from)) is.count c.skipped-skip.ensures in
    let says = c.in_ok-leaf.ensures.items there xs [] (c.in_ok-root.ensures.reads.nodes ∙ is-told) has1 (subst (λ rs. Ahead i flag there rs []) (sym c.new-rows.ensures.items) refl) in
    record {
      all = drop skip xs ++ [];
      brings = record { front = says.front; back = says.back; whole = says.whole; at_front = says.at_front; at_back = c.next_child-next.ensures.items there flag says.back says.at_back };
      whole = range_turned flag from to skip items c.requires.range long e ∙ ap (take (to - from)) (sym (append-nil (drop skip xs)));
      count = sym (turned_length flag (numbered from to items) ∙ numbered_length from to items long);
    }

pub returns-then-from-to-clause-items : goal.returns-then-from-to-clause-items
returns-then-from-to-clause-items g c there items is-told is =
    let i = g.T.Item in
    let flag = c.args.descending in
    let same : c.args.from ≡ c.args.to = omega (arith, c.if-from-to.true) in
    let none : numbered c.args.from c.args.to items ≡ [] = ap (λ n. numbered c.args.from n items) (sym same) ∙ numbered_none c.args.from items in
    let all : turned flag (numbered c.args.from c.args.to items) ≡ [] = ap (turned flag) none ∙ turned_empty flag in
    record {
      all = [];
      brings = record { front = []; back = []; whole = refl; at_front = sym c.new.ensures.items; at_back = refl };
      whole = all;
      count = sym (ap length all);
    }

pub returns-then-from-to-clause-over : goal.returns-then-from-to-clause-over
returns-then-from-to-clause-over g c there is-told =
    let i = g.T.Item in
    let tree = c.args.tree in
    subst (λ rs. AreOver i there tree rs) (sym c.new-rows.ensures.items) (All-nil _)

pub returns-then-from-to-clause-ran : goal.returns-then-from-to-clause-ran
returns-then-from-to-clause-ran g c =
    let i = g.T.Item in
    let s = g.S.NodeSource in
    let laws : Laws s = record { steps = g.met.S.NodeSource.are_steps; caused = g.met.S.NodeSource.stays_caused } in
    went_none i s laws c.args.tree c.args.store.now

pub returns-clause-over : goal.returns-clause-over
returns-clause-over g c there is-told =
    let i = g.T.Item in
    let s = g.S.NodeSource in
    let laws : Laws s = record { steps = g.met.S.NodeSource.are_steps; caused = g.met.S.NodeSource.stays_caused } in
    let s0 = c.args.store.now in
    let told = s.nodes s0 in
    let tree = c.args.tree in
    let level = tree.height - 1 in
    let some : 0 < tree.height = some_height tree.height tree.count c.requires.size.empty (omega (arith, c.requires.range, c.requires.within, c.if-from-to.false)) in
    let same = c.in_ok-root.ensures.reads.nodes in
    let met = node_met i tree told tree.root level tree.count Root c.in_ok-root.root (λ there is. root some) c.in_ok-root.ensures.stands in
    let got = c.in_ok-root.ensures.ran tree (λ there is. root some) in
    c.next_child-next.ensures.over there tree (c.in_ok-leaf.ensures.over tree tree.root there (same ∙ is-told) (met there is-told) (subst (λ rs. AreOver i there tree rs) (sym c.new-rows.ensures.items) (All-nil _)))

pub returns-clause-ran : goal.returns-clause-ran
returns-clause-ran g c =
    let i = g.T.Item in
    let s = g.S.NodeSource in
    let laws : Laws s = record { steps = g.met.S.NodeSource.are_steps; caused = g.met.S.NodeSource.stays_caused } in
    let s0 = c.args.store.now in
    let told = s.nodes s0 in
    let tree = c.args.tree in
    let level = tree.height - 1 in
    let some : 0 < tree.height = some_height tree.height tree.count c.requires.size.empty (omega (arith, c.requires.range, c.requires.within, c.if-from-to.false)) in
    let same = c.in_ok-root.ensures.reads.nodes in
    let met = node_met i tree told tree.root level tree.count Root c.in_ok-root.root (λ there is. root some) c.in_ok-root.ensures.stands in
    let got = c.in_ok-root.ensures.ran tree (λ there is. root some) in
    went_on i s laws tree s0 c.fetch.new.store c.go_to.new.store same got (c.in_ok-leaf.ensures.ran tree tree.root (λ there is. met there (sym same ∙ is)))

pub returns-in_err-root-clause-ran : goal.returns-in_err-root-clause-ran
returns-in_err-root-clause-ran g c =
    let i = g.T.Item in
    let s = g.S.NodeSource in
    let laws : Laws s = record { steps = g.met.S.NodeSource.are_steps; caused = g.met.S.NodeSource.stays_caused } in
    let s0 = c.args.store.now in
    let told = s.nodes s0 in
    let tree = c.args.tree in
    let level = tree.height - 1 in
    let some : 0 < tree.height = some_height tree.height tree.count c.requires.size.empty (omega (arith, c.requires.range, c.requires.within, c.if-from-to.false)) in
    let q = c.from_residual in
    let p = err_from_is_err_and q.result q.ensures.1 in
    ran_err i s laws tree _ _ s0 c.fetch.new.store q.result c.in_err-root.field-0.0 p.0 p.2 p.1 (c.in_err-root.ensures.ran tree (λ there is. root some))

pub returns-in_err-root-clause-sound : goal.returns-in_err-root-clause-sound
returns-in_err-root-clause-sound g c there items at is-told is e =
    let i = g.T.Item in
    let s = g.S.NodeSource in
    let laws : Laws s = record { steps = g.met.S.NodeSource.are_steps; caused = g.met.S.NodeSource.stays_caused } in
    let s0 = c.args.store.now in
    let told = s.nodes s0 in
    let tree = c.args.tree in
    let level = tree.height - 1 in
    let some : 0 < tree.height = some_height tree.height tree.count c.requires.size.empty (omega (arith, c.requires.range, c.requires.within, c.if-from-to.false)) in
    let q = c.from_residual in
    let p = err_from_is_err_and q.result q.ensures.1 in
    let ran = ran_err i s laws tree _ _ s0 c.fetch.new.store q.result c.in_err-root.field-0.0 p.0 p.2 p.1 (c.in_err-root.ensures.ran tree (λ there is. root some)) in
    none_unfit i no_values g.met.T.Item.one_spelling there tree items is at (ran_bad i s laws tree _ _ s0 c.fetch.new.store there q.result at ran is-told e)

pub returns-in_err-leaf-clause-ran : goal.returns-in_err-leaf-clause-ran
returns-in_err-leaf-clause-ran g c =
    let i = g.T.Item in
    let s = g.S.NodeSource in
    let laws : Laws s = record { steps = g.met.S.NodeSource.are_steps; caused = g.met.S.NodeSource.stays_caused } in
    let s0 = c.args.store.now in
    let told = s.nodes s0 in
    let tree = c.args.tree in
    let level = tree.height - 1 in
    let some : 0 < tree.height = some_height tree.height tree.count c.requires.size.empty (omega (arith, c.requires.range, c.requires.within, c.if-from-to.false)) in
    let q = c.from_residual-in_err-leaf in
    let p = err_from_is_err_and q.result q.ensures.1 in
    let same = c.in_ok-root.ensures.reads.nodes in
    let met = node_met i tree told tree.root level tree.count Root c.in_ok-root.root (λ there is. root some) c.in_ok-root.ensures.stands in
    let got = c.in_ok-root.ensures.ran tree (λ there is. root some) in
    ran_err i s laws tree _ _ s0 c.go_to.new.store q.result c.in_err-leaf.field-0.0 p.0 p.2 p.1 (fails_on i s laws tree _ s0 c.fetch.new.store c.go_to.new.store _ same got (c.in_err-leaf.ensures.ran tree tree.root (λ there is. met there (sym same ∙ is))))

pub returns-in_err-leaf-clause-sound : goal.returns-in_err-leaf-clause-sound
returns-in_err-leaf-clause-sound g c there items at is-told is e =
    let i = g.T.Item in
    let s = g.S.NodeSource in
    let laws : Laws s = record { steps = g.met.S.NodeSource.are_steps; caused = g.met.S.NodeSource.stays_caused } in
    let s0 = c.args.store.now in
    let told = s.nodes s0 in
    let tree = c.args.tree in
    let level = tree.height - 1 in
    let some : 0 < tree.height = some_height tree.height tree.count c.requires.size.empty (omega (arith, c.requires.range, c.requires.within, c.if-from-to.false)) in
    let q = c.from_residual-in_err-leaf in
    let p = err_from_is_err_and q.result q.ensures.1 in
    let same = c.in_ok-root.ensures.reads.nodes in
    let met = node_met i tree told tree.root level tree.count Root c.in_ok-root.root (λ there is. root some) c.in_ok-root.ensures.stands in
    let got = c.in_ok-root.ensures.ran tree (λ there is. root some) in
    let ran = ran_err i s laws tree _ _ s0 c.go_to.new.store q.result c.in_err-leaf.field-0.0 p.0 p.2 p.1 (fails_on i s laws tree _ s0 c.fetch.new.store c.go_to.new.store _ same got (c.in_err-leaf.ensures.ran tree tree.root (λ there is. met there (sym same ∙ is)))) in
    none_unfit i no_values g.met.T.Item.one_spelling there tree items is at (ran_bad i s laws tree _ _ s0 c.go_to.new.store there q.result at ran is-told e)

pub returns-then-from-to-clause-edge : goal.returns-then-from-to-clause-edge
returns-then-from-to-clause-edge g c there is-told =
    let i = g.T.Item in
    let edge = first_edge c.args.descending c.args.from c.args.to in
    record { to = edge; goes = record { mid = edge; at_hand = none_at_hand i there c.args.tree c.args.descending c.new.result.items edge c.new.ensures.items; finds = refl } }

pub returns-then-from-to-clause-down : goal.returns-then-from-to-clause-down
returns-then-from-to-clause-down g c there is-told rising = absurd (omega (arith, rising, c.if-from-to.true))

pub returns-clause-edge : goal.returns-clause-edge
returns-clause-edge g c there is-told =
    let i = g.T.Item in
    let tree = c.args.tree in
    let level = tree.height - 1 in
    let flag = c.args.descending in
    let from = c.args.from in
    let to = c.args.to in
    let edge = first_edge flag from to in
    let some : 0 < tree.height = some_height tree.height tree.count c.requires.size.empty (omega (arith, c.requires.range, c.requires.within, c.if-from-to.false)) in
    let begin = first_edge flag 0 tree.count in
    let end = first_edge flag tree.count 0 in
    let node = c.in_ok-root.root in
    let stands = c.in_ok-root.ensures.stands there is-told in
    let same = c.in_ok-root.ensures.reads.nodes in
    let led = root_by_all i there tree flag node some stands in
    let long = tree_past flag tree.count (item_count node) stands.place.items in
    let skipped = skipped_past flag tree.count from to c.skipped-skip.result c.requires.within c.skipped-skip.ensures in
    let k = c.in_ok-leaf.ensures.edge tree there tree.root begin end edge end (same ∙ is-told) led long skipped (rows_none i there tree flag c.new-rows.result.items end c.new-rows.ensures.items) in
    record { to = end; goes = record { mid = k.mid; at_hand = k.at_hand; finds = c.next_child-next.ensures.edge there tree flag k.mid end k.ahead } }

pub returns-clause-down : goal.returns-clause-down
returns-clause-down g c there is-told rising =
    let i = g.T.Item in
    let tree = c.args.tree in
    let level = tree.height - 1 in
    let flag = c.args.descending in
    let from = c.args.from in
    let to = c.args.to in
    let edge = first_edge flag from to in
    let some : 0 < tree.height = some_height tree.height tree.count c.requires.size.empty (omega (arith, c.requires.range, c.requires.within, c.if-from-to.false)) in
    let begin = first_edge flag 0 tree.count in
    let end = first_edge flag tree.count 0 in
    let node = c.in_ok-root.root in
    let stands = c.in_ok-root.ensures.stands there is-told in
    let same = c.in_ok-root.ensures.reads.nodes in
    let led = root_by_all i there tree flag node some stands in
    let long = tree_past flag tree.count (item_count node) stands.place.items in
    let skipped = skipped_past flag tree.count from to c.skipped-skip.result c.requires.within c.skipped-skip.ensures in
    let k = c.in_ok-leaf.ensures.edge tree there tree.root begin end edge end (same ∙ is-told) led long skipped (rows_none i there tree flag c.new-rows.result.items end c.new-rows.ensures.items) in
    let leaf = c.in_ok-leaf.leaf in
    let full : 0 < length leaf.items = omega (arith, c.in_ok-leaf.ensures.some, leaf.ok.0) in
    found_stands i there tree g.met.T.Item.one_spelling (number_at flag edge) (first_found i there tree flag leaf.items edge k.mid full k.at_hand)

pub returns-in_err-root-clause-down : goal.returns-in_err-root-clause-down
returns-in_err-root-clause-down g c there is-told rising =
    let i = g.T.Item in
    let tree = c.args.tree in
    let level = tree.height - 1 in
    let flag = c.args.descending in
    let from = c.args.from in
    let to = c.args.to in
    let edge = first_edge flag from to in
    let some : 0 < tree.height = some_height tree.height tree.count c.requires.size.empty (omega (arith, c.requires.range, c.requires.within, c.if-from-to.false)) in
    let Picks = HasNumber (number_at flag edge) in
    let q = c.from_residual in
    let p = err_from_is_err_and q.result q.ensures.1 in
    down_err i there tree Picks q.result c.in_err-root.field-0.0 p.0 p.2 p.1 (gap_at i there tree Picks tree.root level tree.count 0 Root _ (to_root some) (c.in_err-root.ensures.bad there is-told))

pub returns-in_err-leaf-clause-down : goal.returns-in_err-leaf-clause-down
returns-in_err-leaf-clause-down g c there is-told rising =
    let i = g.T.Item in
    let tree = c.args.tree in
    let level = tree.height - 1 in
    let flag = c.args.descending in
    let from = c.args.from in
    let to = c.args.to in
    let edge = first_edge flag from to in
    let some : 0 < tree.height = some_height tree.height tree.count c.requires.size.empty (omega (arith, c.requires.range, c.requires.within, c.if-from-to.false)) in
    let begin = first_edge flag 0 tree.count in
    let end = first_edge flag tree.count 0 in
    let node = c.in_ok-root.root in
    let stands = c.in_ok-root.ensures.stands there is-told in
    let same = c.in_ok-root.ensures.reads.nodes in
    let led = root_by_all i there tree flag node some stands in
    let long = tree_past flag tree.count (item_count node) stands.place.items in
    let skipped = skipped_past flag tree.count from to c.skipped-skip.result c.requires.within c.skipped-skip.ensures in
    let Picks = HasNumber (number_at flag edge) in
    let q = c.from_residual-in_err-leaf in
    let p = err_from_is_err_and q.result q.ensures.1 in
    down_err i there tree Picks q.result c.in_err-leaf.field-0.0 p.0 p.2 p.1 (c.in_err-leaf.ensures.gap tree there tree.root begin end edge (same ∙ is-told) led long skipped)
