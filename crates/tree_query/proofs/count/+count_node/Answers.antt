use Rattle.std.proofs.lemmas.List.{append-nil}
use Rattle.std.proofs.Common.{◌≡◌, ◌∷◌, ◌++◌, ◌==◌, ◌+◌, ◌-◌, suc, [], false, length, sym, ap, subst, ◌∙◌, arith}
use Rattle.std.specs.List.{filter}
use Rattle.std.specs.List.Sorted.{IsStrictlySortedBy}
use Rattle.std.proofs.lemmas.Result.{err_from_is_err_and}
use Rattle.tree_laws.specs.declared.node.Node.TheVariants.{Inner}
use Rattle.tree_laws.specs.declared.tree.Fill.TheVariants.{Below}
use Rattle.tree_laws.specs.Nodes.{is_leaf}
use Rattle.tree_laws.specs.Trees.{AreChildren}
use Rattle.tree_laws.specs.Values.{no_values}
use Rattle.tree_query.specs.Bare.{HasItems, StandItems}
use Rattle.tree_query.proofs.Before.{count_all, count_cut, front_count}
use Rattle.tree_query.proofs.Calls.{Laws, fails_on, ran_err, went_none, went_on}
use Rattle.tree_query.specs.Bounds.{FirstNotBefore}
use Rattle.tree_query.specs.Leading.{IsLedTo, count_in}
use Rattle.tree_query.proofs.Leading.{all_stand, bound_once, down_err, gap_at, leaf_stands, led_child, none_stops}
use Rattle.tree_query.proofs.Lists.{level_above, none_long}
use Rattle.tree_query.proofs.Order.{first_of_rest}
use Rattle.tree_query.proofs.Reached.{first_reached, has_got, has_leaf, node_met}
use Rattle.tree_query.proofs.count.+count_node.Goals as goal

pub returns-in-Leaf-clause-count : goal.returns-in-Leaf-clause-count
returns-in-Leaf-clause-count g t c there items told sorted has =
    let i = g.B.Unit.Item in
    let p = g.B.Bound.front c.args.bound.now in
    let xs = c.as_slice.result.now in
    let e : items ≡ xs = has_leaf i no_values there c.args.level c.in-Leaf.items items (subst (λ x. HasItems i there c.args.level x items) c.in-Leaf.is has) ∙ sym c.as_slice.ensures in
    let n = front_count i.order p (g.met.B.Bound.is_front c.args.bound.now) xs c.count_front.result (subst (λ ys. IsStrictlySortedBy i.order ys) e sorted) c.count_front.ensures.within c.count_front.ensures.before
    (λ x rest d. let r = first_of_rest xs c.count_front.result x rest d in subst (λ y. p y ≡ false) r.1 (c.count_front.ensures.stops x r.0)) in
    n ∙ ap (λ ys. length (filter p ys)) (sym e)

pub returns-in-None-clause-count : goal.returns-in-None-clause-count
returns-in-None-clause-count g t c there items told sorted has =
    let i = g.B.Unit.Item in
    let p = g.B.Bound.front c.args.bound.now in
    let cs = c.in-Inner.children in
    let low = c.args.level - 1 in
    let P = StandItems i there low in
    let kind : is_leaf (Inner cs) ≡ (c.args.level == 0) = subst (λ x. is_leaf x ≡ (c.args.level == 0)) c.in-Inner.is c.requires.kind in
    let up : c.args.level ≡ suc low = level_above c.args.level kind in
    let has0 : HasItems i there c.args.level (Inner cs) items = subst (λ x. HasItems i there c.args.level x items) c.in-Inner.is has in
    let has1 : AreChildren no_values P cs items = subst (λ l. HasItems i there l (Inner cs) items) up has0 in
    let e : cs ≡ c.pass.result.0.now ++ c.pass.result.1.now = sym c.as_slice-in-Inner.ensures ∙ c.pass.ensures.whole in
    let has2 = subst (λ ds. AreChildren no_values P ds items) e has1 in
    let none : c.pass.result.1.now ≡ [] = none_long c.pass.result.1.now c.in-None.ensures.cases in
    let k = count_all i no_values P p (g.met.B.Bound.is_front c.args.bound.now) c.pass.result.0.now c.pass.result.1.now items none has2 sorted c.pass.ensures.passed in
    omega (arith, k.0, k.1, c.count_items-count.ensures)

pub returns-in_ok-more-in-Inner-clause-count : goal.returns-in_ok-more-in-Inner-clause-count
returns-in_ok-more-in-Inner-clause-count g t c there items told sorted has =
    let i = g.B.Unit.Item in
    let p = g.B.Bound.front c.args.bound.now in
    let cs = c.in-Inner.children in
    let low = c.args.level - 1 in
    let P = StandItems i there low in
    let child = c.in-Some.pair.0.now in
    let rest = c.in-Some.pair.1.now in
    let below = c.in_ok-below-in-Inner.below in
    let kind : is_leaf (Inner cs) ≡ (c.args.level == 0) = subst (λ x. is_leaf x ≡ (c.args.level == 0)) c.in-Inner.is c.requires.kind in
    let up : c.args.level ≡ suc low = level_above c.args.level kind in
    let has0 : HasItems i there c.args.level (Inner cs) items = subst (λ x. HasItems i there c.args.level x items) c.in-Inner.is has in
    let has1 : AreChildren no_values P cs items = subst (λ l. HasItems i there l (Inner cs) items) up has0 in
    let some : c.pass.result.1.now ≡ child ∷ rest = c.in-Some.ensures.cases.0 in
    let e : cs ≡ c.pass.result.0.now ++ (child ∷ rest) = sym c.as_slice-in-Inner.ensures ∙ c.pass.ensures.whole ∙ ap (λ ds. c.pass.result.0.now ++ ds) some in
    let has2 = subst (λ ds. AreChildren no_values P ds items) e has1 in
    let k = count_cut i no_values P p (g.met.B.Bound.is_front c.args.bound.now) c.pass.result.0.now child rest items has2 sorted c.pass.ensures.passed (c.pass.ensures.stops child rest some) in
    let has3 : HasItems i there low below k.mid = has_got i no_values g.met.B.Unit.Item.one_spelling there (HasItems i there low) child.at low child.count Below Below k.mid below (c.in_ok-below-in-Inner.ensures.stands there told) k.at_mid.stands in
    let more = c.in_ok-more-in-Inner.ensures.count there k.mid (c.in_ok-below-in-Inner.ensures.reads.nodes ∙ told) k.sorted has3 in
    omega (arith, more, k.count, c.count_items-count.ensures)

pub returns-in_err-below-in-Inner-clause-ran : goal.returns-in_err-below-in-Inner-clause-ran
returns-in_err-below-in-Inner-clause-ran g t c tree at met =
    let i = g.B.Unit.Item in
    let s = g.S.NodeSource in
    let laws : Laws s = record { steps = g.met.S.NodeSource.are_steps; caused = g.met.S.NodeSource.stays_caused } in
    let cs = c.in-Inner.children in
    let low = c.args.level - 1 in
    let child = c.in-Some.pair.0.now in
    let rest = c.in-Some.pair.1.now in
    let kind : is_leaf (Inner cs) ≡ (c.args.level == 0) = subst (λ x. is_leaf x ≡ (c.args.level == 0)) c.in-Inner.is c.requires.kind in
    let up : c.args.level ≡ suc low = level_above c.args.level kind in
    let e : cs ≡ c.pass.result.0.now ++ (child ∷ rest) = sym c.as_slice-in-Inner.ensures ∙ c.pass.ensures.whole ∙ ap (λ ds. c.pass.result.0.now ++ ds) c.in-Some.ensures.cases.0 in
    let reached = first_reached i tree (s.nodes c.args.store.now) at c.args.level low c.args.node cs c.pass.result.0.now rest child met c.in-Inner.is up e in
    let q = c.from_residual in
    let p = err_from_is_err_and q.result q.ensures.1 in
    ran_err i s laws tree _ _ _ _ q.result c.in_err-below-in-Inner.field-0.0 p.0 p.2 p.1 (c.in_err-below-in-Inner.ensures.ran tree reached)

pub returns-in_err-more-in-Inner-clause-ran : goal.returns-in_err-more-in-Inner-clause-ran
returns-in_err-more-in-Inner-clause-ran g t c tree at met =
    let i = g.B.Unit.Item in
    let s = g.S.NodeSource in
    let laws : Laws s = record { steps = g.met.S.NodeSource.are_steps; caused = g.met.S.NodeSource.stays_caused } in
    let cs = c.in-Inner.children in
    let low = c.args.level - 1 in
    let child = c.in-Some.pair.0.now in
    let rest = c.in-Some.pair.1.now in
    let below = c.in_ok-below-in-Inner.below in
    let kind : is_leaf (Inner cs) ≡ (c.args.level == 0) = subst (λ x. is_leaf x ≡ (c.args.level == 0)) c.in-Inner.is c.requires.kind in
    let up : c.args.level ≡ suc low = level_above c.args.level kind in
    let e : cs ≡ c.pass.result.0.now ++ (child ∷ rest) = sym c.as_slice-in-Inner.ensures ∙ c.pass.ensures.whole ∙ ap (λ ds. c.pass.result.0.now ++ ds) c.in-Some.ensures.cases.0 in
    let told = s.nodes c.args.store.now in
    let reached = first_reached i tree told at c.args.level low c.args.node cs c.pass.result.0.now rest child met c.in-Inner.is up e in
    let met' = node_met i tree told child.at low child.count Below below reached c.in_ok-below-in-Inner.ensures.stands in
    let same = c.in_ok-below-in-Inner.ensures.reads.nodes in
    let fails = c.in_err-more-in-Inner.ensures.ran tree child.at (λ there is. met' there (sym same ∙ is)) in
    let q = c.from_residual-in_err-more-in-Inner in
    let p = err_from_is_err_and q.result q.ensures.1 in
    ran_err i s laws tree _ _ _ _ q.result c.in_err-more-in-Inner.field-0.0 p.0 p.2 p.1
    (fails_on i s laws tree _ c.args.store.now c.fetch.new.store c.count_node.new.store _ same (c.in_ok-below-in-Inner.ensures.ran tree reached) fails)

pub returns-in_ok-more-in-Inner-clause-ran : goal.returns-in_ok-more-in-Inner-clause-ran
returns-in_ok-more-in-Inner-clause-ran g t c tree at met =
    let i = g.B.Unit.Item in
    let s = g.S.NodeSource in
    let cs = c.in-Inner.children in
    let low = c.args.level - 1 in
    let child = c.in-Some.pair.0.now in
    let rest = c.in-Some.pair.1.now in
    let below = c.in_ok-below-in-Inner.below in
    let kind : is_leaf (Inner cs) ≡ (c.args.level == 0) = subst (λ x. is_leaf x ≡ (c.args.level == 0)) c.in-Inner.is c.requires.kind in
    let up : c.args.level ≡ suc low = level_above c.args.level kind in
    let e : cs ≡ c.pass.result.0.now ++ (child ∷ rest) = sym c.as_slice-in-Inner.ensures ∙ c.pass.ensures.whole ∙ ap (λ ds. c.pass.result.0.now ++ ds) c.in-Some.ensures.cases.0 in
    let told = s.nodes c.args.store.now in
    let reached = first_reached i tree told at c.args.level low c.args.node cs c.pass.result.0.now rest child met c.in-Inner.is up e in
    let met' = node_met i tree told child.at low child.count Below below reached c.in_ok-below-in-Inner.ensures.stands in
    let same = c.in_ok-below-in-Inner.ensures.reads.nodes in
    let laws : Laws s = record { steps = g.met.S.NodeSource.are_steps; caused = g.met.S.NodeSource.stays_caused } in
    went_on i s laws tree c.args.store.now c.fetch.new.store c.count_node.new.store same (c.in_ok-below-in-Inner.ensures.ran tree reached) (c.in_ok-more-in-Inner.ensures.ran tree child.at (λ there is. met' there (sym same ∙ is)))

pub returns-in-Leaf-clause-ran : goal.returns-in-Leaf-clause-ran
returns-in-Leaf-clause-ran g t c tree at met =
    let i = g.B.Unit.Item in
    let s = g.S.NodeSource in
    let laws : Laws s = record { steps = g.met.S.NodeSource.are_steps; caused = g.met.S.NodeSource.stays_caused } in
    went_none i s laws tree c.args.store.now

pub returns-in-None-clause-ran : goal.returns-in-None-clause-ran
returns-in-None-clause-ran g t c tree at met =
    let i = g.B.Unit.Item in
    let s = g.S.NodeSource in
    let laws : Laws s = record { steps = g.met.S.NodeSource.are_steps; caused = g.met.S.NodeSource.stays_caused } in
    went_none i s laws tree c.args.store.now

pub returns-in-Leaf-clause-down : goal.returns-in-Leaf-clause-down
returns-in-Leaf-clause-down g t c tree there at start told led =
    let i = g.B.Unit.Item in
    let before = g.B.Bound.front c.args.bound.now in
    let Picks = FirstNotBefore before in
    leaf_stands i there tree Picks g.met.B.Unit.Item.one_spelling (bound_once before) at c.args.level start c.args.node c.in-Leaf.items c.in-Leaf.is led

pub returns-in-None-clause-down : goal.returns-in-None-clause-down
returns-in-None-clause-down g t c tree there at start told led =
    let i = g.B.Unit.Item in
    let before = g.B.Bound.front c.args.bound.now in
    let Picks = FirstNotBefore before in
    let cs = c.in-Inner.children in
    let low = c.args.level - 1 in
    let kind : is_leaf (Inner cs) ≡ (c.args.level == 0) = subst (λ x. is_leaf x ≡ (c.args.level == 0)) c.in-Inner.is c.requires.kind in
    let up : c.args.level ≡ suc low = level_above c.args.level kind in
    let front = c.pass.result.0.now in
    let e : cs ≡ front = sym c.as_slice-in-Inner.ensures ∙ c.pass.ensures.whole ∙ ap (λ ds. front ++ ds) (none_long c.pass.result.1.now c.in-None.ensures.cases) ∙ append-nil front in
    all_stand i there tree Picks g.met.B.Unit.Item.one_spelling (bound_once before) at c.args.level start c.args.node led
    (λ f b d is picked.
    let both : Inner cs ≡ Inner (f ++ d ∷ b) = sym c.in-Inner.is ∙ is in
    let lists : cs ≡ f ++ d ∷ b = cc in
    none_stops before front f b d c.pass.ensures.passed (sym e ∙ lists) picked.stops)

pub returns-in_err-below-in-Inner-clause-down : goal.returns-in_err-below-in-Inner-clause-down
returns-in_err-below-in-Inner-clause-down g t c tree there at start told led =
    let i = g.B.Unit.Item in
    let before = g.B.Bound.front c.args.bound.now in
    let Picks = FirstNotBefore before in
    let cs = c.in-Inner.children in
    let low = c.args.level - 1 in
    let kind : is_leaf (Inner cs) ≡ (c.args.level == 0) = subst (λ x. is_leaf x ≡ (c.args.level == 0)) c.in-Inner.is c.requires.kind in
    let up : c.args.level ≡ suc low = level_above c.args.level kind in
    let front = c.pass.result.0.now in
    let child = c.in-Some.pair.0.now in
    let rest = c.in-Some.pair.1.now in
    let some : c.pass.result.1.now ≡ child ∷ rest = c.in-Some.ensures.cases.0 in
    let e : cs ≡ front ++ child ∷ rest = sym c.as_slice-in-Inner.ensures ∙ c.pass.ensures.whole ∙ ap (λ ds. front ++ ds) some in
    let picked : Picks start front child = record { passed = c.pass.ensures.passed; stops = c.pass.ensures.stops child rest some } in
    let leads = led_child i there tree Picks at c.args.level low start c.args.node cs front rest child c.in-Inner.is up e picked led in
    let q = c.from_residual in
    let p = err_from_is_err_and q.result q.ensures.1 in
    down_err i there tree Picks q.result c.in_err-below-in-Inner.field-0.0 p.0 p.2 p.1 (gap_at i there tree Picks child.at low child.count _ Below _ leads (c.in_err-below-in-Inner.ensures.bad there told))

pub returns-in_err-more-in-Inner-clause-down : goal.returns-in_err-more-in-Inner-clause-down
returns-in_err-more-in-Inner-clause-down g t c tree there at start told led =
    let i = g.B.Unit.Item in
    let before = g.B.Bound.front c.args.bound.now in
    let Picks = FirstNotBefore before in
    let cs = c.in-Inner.children in
    let low = c.args.level - 1 in
    let kind : is_leaf (Inner cs) ≡ (c.args.level == 0) = subst (λ x. is_leaf x ≡ (c.args.level == 0)) c.in-Inner.is c.requires.kind in
    let up : c.args.level ≡ suc low = level_above c.args.level kind in
    let front = c.pass.result.0.now in
    let child = c.in-Some.pair.0.now in
    let rest = c.in-Some.pair.1.now in
    let some : c.pass.result.1.now ≡ child ∷ rest = c.in-Some.ensures.cases.0 in
    let e : cs ≡ front ++ child ∷ rest = sym c.as_slice-in-Inner.ensures ∙ c.pass.ensures.whole ∙ ap (λ ds. front ++ ds) some in
    let picked : Picks start front child = record { passed = c.pass.ensures.passed; stops = c.pass.ensures.stops child rest some } in
    let leads = led_child i there tree Picks at c.args.level low start c.args.node cs front rest child c.in-Inner.is up e picked led in
    let below = c.in_ok-below-in-Inner.below in
    let to : IsLedTo i there tree Picks child.at low (start + count_in front) below = record { count = child.count; fill = Below; leads = leads; stands = c.in_ok-below-in-Inner.ensures.stands there told } in
    let q = c.from_residual-in_err-more-in-Inner in
    let p = err_from_is_err_and q.result q.ensures.1 in
    down_err i there tree Picks q.result c.in_err-more-in-Inner.field-0.0 p.0 p.2 p.1 (c.in_err-more-in-Inner.ensures.down tree there child.at (start + count_in front) (c.in_ok-below-in-Inner.ensures.reads.nodes ∙ told) to)

pub returns-in_ok-more-in-Inner-clause-down : goal.returns-in_ok-more-in-Inner-clause-down
returns-in_ok-more-in-Inner-clause-down g t c tree there at start told led =
    let i = g.B.Unit.Item in
    let before = g.B.Bound.front c.args.bound.now in
    let Picks = FirstNotBefore before in
    let cs = c.in-Inner.children in
    let low = c.args.level - 1 in
    let kind : is_leaf (Inner cs) ≡ (c.args.level == 0) = subst (λ x. is_leaf x ≡ (c.args.level == 0)) c.in-Inner.is c.requires.kind in
    let up : c.args.level ≡ suc low = level_above c.args.level kind in
    let front = c.pass.result.0.now in
    let child = c.in-Some.pair.0.now in
    let rest = c.in-Some.pair.1.now in
    let some : c.pass.result.1.now ≡ child ∷ rest = c.in-Some.ensures.cases.0 in
    let e : cs ≡ front ++ child ∷ rest = sym c.as_slice-in-Inner.ensures ∙ c.pass.ensures.whole ∙ ap (λ ds. front ++ ds) some in
    let picked : Picks start front child = record { passed = c.pass.ensures.passed; stops = c.pass.ensures.stops child rest some } in
    let leads = led_child i there tree Picks at c.args.level low start c.args.node cs front rest child c.in-Inner.is up e picked led in
    let below = c.in_ok-below-in-Inner.below in
    let to : IsLedTo i there tree Picks child.at low (start + count_in front) below = record { count = child.count; fill = Below; leads = leads; stands = c.in_ok-below-in-Inner.ensures.stands there told } in
    c.in_ok-more-in-Inner.ensures.down tree there child.at (start + count_in front) (c.in_ok-below-in-Inner.ensures.reads.nodes ∙ told) to
