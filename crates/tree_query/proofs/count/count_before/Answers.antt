use Rattle.std.proofs.Common.{◌<◌, ◌-◌, sym, ◌∙◌, arith}
use Rattle.std.proofs.lemmas.Result.{err_from_is_err_and}
use Rattle.tree_laws.specs.declared.tree.Fill.TheVariants.{Root}
use Rattle.tree_laws.specs.Values.{no_values}
use Rattle.tree_laws.specs.Reaching.{root}
use Rattle.tree_query.specs.Bare.{HasItems}
use Rattle.tree_query.specs.Bounds.{FirstNotBefore}
use Rattle.tree_query.specs.Leading.{IsLedTo, to_root}
use Rattle.tree_query.proofs.Leading.{down_err, gap_at, level_within}
use Rattle.tree_query.proofs.Calls.{Laws, ran_bad, ran_err, ran_on, went_none}
use Rattle.tree_query.proofs.Reached.{has_got, node_met, none_unfit, root_at}
use Rattle.tree_query.proofs.count.count_before.Goals as goal

pub returns-clause-count : goal.returns-clause-count
returns-clause-count g c there items told is =
    let i = g.B.Unit.Item in
    let tree = c.args.tree in
    let level = tree.height - 1 in
    let some : 0 < tree.height = omega (arith, c.if-tree-eq0.false) in
    let at = root_at i no_values g.met.B.Unit.Item.one_spelling there tree.root tree.height items some is.root in
    let has : HasItems i there level c.in_ok-root.root items = has_got i no_values g.met.B.Unit.Item.one_spelling there (HasItems i there level) tree.root level tree.count Root Root items c.in_ok-root.root (c.in_ok-root.ensures.stands there told) at in
    c.count_node.ensures.count there items (c.in_ok-root.ensures.reads.nodes ∙ told) is.rises has

pub returns-clause-ran : goal.returns-clause-ran
returns-clause-ran g c =
    let i = g.B.Unit.Item in
    let s = g.S.NodeSource in
    let laws : Laws s = record { steps = g.met.S.NodeSource.are_steps; caused = g.met.S.NodeSource.stays_caused } in
    let tree = c.args.tree in
    let level = tree.height - 1 in
    let some : 0 < tree.height = omega (arith, c.if-tree-eq0.false) in
    let same = c.in_ok-root.ensures.reads.nodes in
    let met = node_met i tree (s.nodes c.args.store.now) tree.root level tree.count Root c.in_ok-root.root (λ there told. root some) c.in_ok-root.ensures.stands in
    ran_on i s laws tree _ _ c.args.store.now c.fetch.new.store c.count_node.new.store c.count_node.result same (c.in_ok-root.ensures.ran tree (λ there told. root some)) (c.count_node.ensures.ran tree tree.root (λ there told. met there (sym same ∙ told)))

pub returns-clause-sound : goal.returns-clause-sound
returns-clause-sound g c there items at told is e =
    let i = g.B.Unit.Item in
    let s = g.S.NodeSource in
    let laws : Laws s = record { steps = g.met.S.NodeSource.are_steps; caused = g.met.S.NodeSource.stays_caused } in
    let tree = c.args.tree in
    let level = tree.height - 1 in
    let some : 0 < tree.height = omega (arith, c.if-tree-eq0.false) in
    let same = c.in_ok-root.ensures.reads.nodes in
    let met = node_met i tree (s.nodes c.args.store.now) tree.root level tree.count Root c.in_ok-root.root (λ there told. root some) c.in_ok-root.ensures.stands in
    let bad = ran_bad i s laws tree _ _ c.fetch.new.store c.count_node.new.store there c.count_node.result at (c.count_node.ensures.ran tree tree.root (λ there told. met there (sym same ∙ told))) (same ∙ told) e in
    none_unfit i no_values g.met.B.Unit.Item.one_spelling there tree items is at bad

pub returns-in_err-root-clause-ran : goal.returns-in_err-root-clause-ran
returns-in_err-root-clause-ran g c =
    let i = g.B.Unit.Item in
    let s = g.S.NodeSource in
    let laws : Laws s = record { steps = g.met.S.NodeSource.are_steps; caused = g.met.S.NodeSource.stays_caused } in
    let some : 0 < c.args.tree.height = omega (arith, c.if-tree-eq0.false) in
    let p = err_from_is_err_and c.from_residual.result c.from_residual.ensures.1 in
    ran_err i s laws c.args.tree _ _ _ _ c.from_residual.result c.in_err-root.field-0.0 p.0 p.2 p.1 (c.in_err-root.ensures.ran c.args.tree (λ there told. root some))

pub returns-in_err-root-clause-sound : goal.returns-in_err-root-clause-sound
returns-in_err-root-clause-sound g c there items at told is e =
    let i = g.B.Unit.Item in
    let s = g.S.NodeSource in
    let laws : Laws s = record { steps = g.met.S.NodeSource.are_steps; caused = g.met.S.NodeSource.stays_caused } in
    let tree = c.args.tree in
    let some : 0 < tree.height = omega (arith, c.if-tree-eq0.false) in
    let p = err_from_is_err_and c.from_residual.result c.from_residual.ensures.1 in
    let ran = ran_err i s laws tree _ _ _ _ c.from_residual.result c.in_err-root.field-0.0 p.0 p.2 p.1 (c.in_err-root.ensures.ran tree (λ there told. root some)) in
    none_unfit i no_values g.met.B.Unit.Item.one_spelling there tree items is at (ran_bad i s laws tree _ _ c.args.store.now c.fetch.new.store there c.from_residual.result at ran told e)

pub returns-then-tree-eq0-clause-ran : goal.returns-then-tree-eq0-clause-ran
returns-then-tree-eq0-clause-ran g c =
    let i = g.B.Unit.Item in
    let s = g.S.NodeSource in
    let laws : Laws s = record { steps = g.met.S.NodeSource.are_steps; caused = g.met.S.NodeSource.stays_caused } in
    went_none i s laws c.args.tree c.args.store.now

pub returns-then-tree-eq0-clause-down : goal.returns-then-tree-eq0-clause-down
returns-then-tree-eq0-clause-down g c there told at level count start fill leads =
    let within = level_within g.B.Unit.Item there c.args.tree (FirstNotBefore (g.B.Bound.front c.args.bound.now)) at level count start fill leads in
    absurd (omega (arith, within, c.if-tree-eq0.true))

pub returns-in_err-root-clause-down : goal.returns-in_err-root-clause-down
returns-in_err-root-clause-down g c there told =
    let i = g.B.Unit.Item in
    let tree = c.args.tree in
    let Picks = FirstNotBefore (g.B.Bound.front c.args.bound.now) in
    let some : 0 < tree.height = omega (arith, c.if-tree-eq0.false) in
    let q = c.from_residual in
    let p = err_from_is_err_and q.result q.ensures.1 in
    down_err i there tree Picks q.result c.in_err-root.field-0.0 p.0 p.2 p.1 (gap_at i there tree Picks tree.root (tree.height - 1) tree.count 0 Root _ (to_root some) (c.in_err-root.ensures.bad there told))

pub returns-clause-down : goal.returns-clause-down
returns-clause-down g c there told =
    let i = g.B.Unit.Item in
    let tree = c.args.tree in
    let Picks = FirstNotBefore (g.B.Bound.front c.args.bound.now) in
    let some : 0 < tree.height = omega (arith, c.if-tree-eq0.false) in
    let led : IsLedTo i there tree Picks tree.root (tree.height - 1) 0 c.in_ok-root.root = record { count = tree.count; fill = Root; leads = to_root some; stands = c.in_ok-root.ensures.stands there told } in
    c.count_node.ensures.down tree there tree.root 0 (c.in_ok-root.ensures.reads.nodes ∙ told) led
