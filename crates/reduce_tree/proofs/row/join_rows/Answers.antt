use Rattle.std.proofs.Common.{◌≡◌, ◌++◌, [], sym, subst, ap, ◌∙◌, arith, refl}
use Rattle.std.proofs.lemmas.List.{append-nil}
use Rattle.tree_laws.specs.Nodes.{entries}
use Rattle.tree_laws.specs.Fitting.{item_count}
use Rattle.tree_laws.specs.SummerTrees.{Has}
use Rattle.reduce_tree.specs.Calls.{places}
use Rattle.reduce_tree.proofs.Calls.{Laws, goes_none, on_err}
use Rattle.reduce_tree.proofs.Nodes.{has_none, none_counted, none_from_test}
use Rattle.reduce_tree.proofs.Puts.{leaf_none, put_none, put_on}
use Rattle.reduce_tree.specs.Rows.{leaf_items}
use Rattle.reduce_tree.proofs.Sound.{if_sound}
use Rattle.std.proofs.lemmas.Result.{err_from_is_err_and}
use Rattle.reduce_tree.proofs.Pieces.{pieces_none, on_match}
use Rattle.tree_laws.specs.declared.tree.Fill.TheVariants.{Below}
use Rattle.reduce_tree.proofs.Charge.{some_by_test, slack_some}
use Rattle.reduce_tree.proofs.Given.{took_fault, took_none}
use Rattle.reduce_tree.proofs.Had.{known_none, knew_err}
use Rattle.reduce_tree.proofs.row.join_rows.Goals as goal

pub returns-then-is_empty-clause-items : goal.returns-then-is_empty-clause-items
returns-then-is_empty-clause-items g c first xs ys known hx hy =
    let there = places (g.S.NodeSource.nodes c.args.store.now) in
    let none = none_from_test (entries c.args.front.node) c.is_empty.result c.is_empty.ensures c.if-is_empty.true in
    let e : xs ≡ [] = has_none g.M.Unit.Item g.M.Summer first there c.args.front.level c.args.front.node xs none hx in
    rw (c.changed.ensures.level, c.changed.ensures.node) (subst (λ t. Has g.M.Unit.Item g.M.Summer first there c.args.back.level c.args.back.node (t ++ ys)) (sym e) hy)

pub returns-then-is_empty-clause-count : goal.returns-then-is_empty-clause-count
returns-then-is_empty-clause-count g c =
    let none = none_from_test (entries c.args.front.node) c.is_empty.result c.is_empty.ensures c.if-is_empty.true in
    omega (arith, none_counted c.args.front.node none, ap item_count c.changed.ensures.node)

pub returns-then-is_empty-clause-ran : goal.returns-then-is_empty-clause-ran
returns-then-is_empty-clause-ran g c =
    let laws : Laws g.S.NodeSource g.M.Summer = record { store_steps = g.met.S.NodeSource.are_steps; store_keeps = g.met.S.NodeSource.keeps; store_caused = g.met.S.NodeSource.stays_caused; summer_steps = g.met.M.Summer.are_steps; summer_keeps = g.met.M.Summer.keeps; summer_caused = g.met.M.Summer.stays_caused; summer_asked = g.met.M.Summer.stays_asked; summer_gave = g.met.M.Summer.stays_given } in
    goes_none g.M.Unit.Item g.S.NodeSource g.M.Summer laws c.args.store.now c.args.summer.now

pub returns-then-is_empty-2-clause-items : goal.returns-then-is_empty-2-clause-items
returns-then-is_empty-2-clause-items g c first xs ys known hx hy =
    let there = places (g.S.NodeSource.nodes c.args.store.now) in
    let none = none_from_test (entries c.args.back.node) c.is_empty-2.result c.is_empty-2.ensures c.if-is_empty-2.true in
    let e : ys ≡ [] = has_none g.M.Unit.Item g.M.Summer first there c.args.back.level c.args.back.node ys none hy in
    rw (c.changed-then-is_empty-2.ensures.level, c.changed-then-is_empty-2.ensures.node) (subst (λ t. Has g.M.Unit.Item g.M.Summer first there c.args.front.level c.args.front.node t) (sym (ap (λ t. xs ++ t) e ∙ append-nil xs)) hx)

pub returns-then-is_empty-2-clause-count : goal.returns-then-is_empty-2-clause-count
returns-then-is_empty-2-clause-count g c =
    let none = none_from_test (entries c.args.back.node) c.is_empty-2.result c.is_empty-2.ensures c.if-is_empty-2.true in
    omega (arith, none_counted c.args.back.node none, ap item_count c.changed-then-is_empty-2.ensures.node)

pub returns-then-is_empty-2-clause-ran : goal.returns-then-is_empty-2-clause-ran
returns-then-is_empty-2-clause-ran g c =
    let laws : Laws g.S.NodeSource g.M.Summer = record { store_steps = g.met.S.NodeSource.are_steps; store_keeps = g.met.S.NodeSource.keeps; store_caused = g.met.S.NodeSource.stays_caused; summer_steps = g.met.M.Summer.are_steps; summer_keeps = g.met.M.Summer.keeps; summer_caused = g.met.M.Summer.stays_caused; summer_asked = g.met.M.Summer.stays_asked; summer_gave = g.met.M.Summer.stays_given } in
    goes_none g.M.Unit.Item g.S.NodeSource g.M.Summer laws c.args.store.now c.args.summer.now

pub returns-then-is_empty-clause-leaf : goal.returns-then-is_empty-clause-leaf
returns-then-is_empty-clause-leaf g c =
    let none = none_from_test (entries c.args.front.node) c.is_empty.result c.is_empty.ensures c.if-is_empty.true in
    let z = leaf_none c.args.front.node none in
    let n = ap leaf_items c.changed.ensures.node in
    put_none (omega (arith, z, n))

pub returns-then-is_empty-2-clause-leaf : goal.returns-then-is_empty-2-clause-leaf
returns-then-is_empty-2-clause-leaf g c =
    let none = none_from_test (entries c.args.back.node) c.is_empty-2.result c.is_empty-2.ensures c.if-is_empty-2.true in
    let z = leaf_none c.args.back.node none in
    let n = ap leaf_items c.changed-then-is_empty-2.ensures.node in
    put_none (omega (arith, z, n))

pub returns-in_err-node-clause-items : goal.returns-in_err-node-clause-items
returns-in_err-node-clause-items g c first xs ys known hx hy =
    let p = err_from_is_err_and c.from_residual.result c.from_residual.ensures.1 in
    if_sound _ c.from_residual.result c.in_err-node.field-0.0 p.0 p.2 p.1 (c.in_err-node.ensures.items first xs ys known hx hy)

pub returns-in_err-node-2-clause-items : goal.returns-in_err-node-2-clause-items
returns-in_err-node-2-clause-items g c first xs ys known hx hy =
    let p = err_from_is_err_and c.from_residual-in_err-node-2.result c.from_residual-in_err-node-2.ensures.1 in
    if_sound _ c.from_residual-in_err-node-2.result c.in_err-node-2.field-0.0 p.0 p.2 p.1 (c.in_err-node-2.ensures.items first ys xs known hy hx)

pub returns-clause-leaf : goal.returns-clause-leaf
returns-clause-leaf g c = put_on c.in_ok-node-2.ensures.leaf (omega arith) (omega arith) (λ u. u) (omega arith)

pub returns-then-is_empty-clause-pieces : goal.returns-then-is_empty-clause-pieces
returns-then-is_empty-clause-pieces g c first xs ys among known hx hy ax ay =
    pieces_none g.M.Unit.Item g.M.Summer first among (places (g.S.NodeSource.nodes c.args.store.now)) Below (g.S.NodeSource.puts c.args.store.now) (g.S.NodeSource.puts c.args.store.now) refl

pub returns-then-is_empty-2-clause-pieces : goal.returns-then-is_empty-2-clause-pieces
returns-then-is_empty-2-clause-pieces g c first xs ys among known hx hy ax ay =
    pieces_none g.M.Unit.Item g.M.Summer first among (places (g.S.NodeSource.nodes c.args.store.now)) Below (g.S.NodeSource.puts c.args.store.now) (g.S.NodeSource.puts c.args.store.now) refl

pub returns-clause-pieces : goal.returns-clause-pieces
returns-clause-pieces g c first xs ys among known hx hy ax ay = c.in_ok-node-2.ensures.pieces first ys xs among known hy hx ay ax

pub returns-in_err-node-clause-spent : goal.returns-in_err-node-clause-spent
returns-in_err-node-clause-spent g c top f b =
    let some = some_by_test (entries c.args.front.node) c.is_empty.result c.is_empty.ensures c.if-is_empty.false in
    let s = slack_some top c.args.front.level (entries c.args.front.node) some in
    let k = c.in_err-node.ensures.spent in
    on_err c.from_residual.result _ (record { steps = let a = k.steps in omega (arith, s, f, b, a); puts = let a = k.puts in omega (arith, a) })

pub returns-in_err-node-2-clause-spent : goal.returns-in_err-node-2-clause-spent
returns-in_err-node-2-clause-spent g c top f b =
    let some = some_by_test (entries c.args.back.node) c.is_empty-2.result c.is_empty-2.ensures c.if-is_empty-2.false in
    let s = slack_some top c.args.back.level (entries c.args.back.node) some in
    let k = c.in_err-node-2.ensures.spent in
    on_err c.from_residual-in_err-node-2.result _ (record { steps = let a = k.steps in omega (arith, s, f, b, a); puts = let a = k.puts in omega (arith, a) })

pub returns-in_err-node-clause-pieces : goal.returns-in_err-node-clause-pieces
returns-in_err-node-clause-pieces g c first xs ys among known hx hy ax ay =
    let p = err_from_is_err_and c.from_residual.result c.from_residual.ensures.1 in
    on_match c.from_residual.result _ _ _ p.0 p.2 p.1 (c.in_err-node.ensures.pieces first xs ys among known hx hy ax ay)

pub returns-in_err-node-2-clause-pieces : goal.returns-in_err-node-2-clause-pieces
returns-in_err-node-2-clause-pieces g c first xs ys among known hx hy ax ay =
    let p = err_from_is_err_and c.from_residual-in_err-node-2.result c.from_residual-in_err-node-2.ensures.1 in
    on_match c.from_residual-in_err-node-2.result _ _ _ p.0 p.2 p.1 (c.in_err-node-2.ensures.pieces first ys xs among known hy hx ay ax)

pub returns-then-is_empty-clause-met : goal.returns-then-is_empty-clause-met
returns-then-is_empty-clause-met g c first tree pieces under front back =
    let laws : Laws g.S.NodeSource g.M.Summer = record { store_steps = g.met.S.NodeSource.are_steps; store_keeps = g.met.S.NodeSource.keeps; store_caused = g.met.S.NodeSource.stays_caused; summer_steps = g.met.M.Summer.are_steps; summer_keeps = g.met.M.Summer.keeps; summer_caused = g.met.M.Summer.stays_caused; summer_asked = g.met.M.Summer.stays_asked; summer_gave = g.met.M.Summer.stays_given } in
    let i = g.M.Unit.Item in let s = g.S.NodeSource in let m = g.M.Summer in let s0 = c.args.store.now in let u0 = c.args.summer.now in
    (took_none i s m laws first tree pieces s0 s0 refl, rw (c.changed.ensures.level, c.changed.ensures.node) back)

pub returns-then-is_empty-2-clause-met : goal.returns-then-is_empty-2-clause-met
returns-then-is_empty-2-clause-met g c first tree pieces under front back =
    let laws : Laws g.S.NodeSource g.M.Summer = record { store_steps = g.met.S.NodeSource.are_steps; store_keeps = g.met.S.NodeSource.keeps; store_caused = g.met.S.NodeSource.stays_caused; summer_steps = g.met.M.Summer.are_steps; summer_keeps = g.met.M.Summer.keeps; summer_caused = g.met.M.Summer.stays_caused; summer_asked = g.met.M.Summer.stays_asked; summer_gave = g.met.M.Summer.stays_given } in
    let i = g.M.Unit.Item in let s = g.S.NodeSource in let m = g.M.Summer in let s0 = c.args.store.now in let u0 = c.args.summer.now in
    (took_none i s m laws first tree pieces s0 s0 refl, rw (c.changed-then-is_empty-2.ensures.level, c.changed-then-is_empty-2.ensures.node) front)

pub returns-in_err-node-clause-met : goal.returns-in_err-node-clause-met
returns-in_err-node-clause-met g c first tree pieces under front back =
    let laws : Laws g.S.NodeSource g.M.Summer = record { store_steps = g.met.S.NodeSource.are_steps; store_keeps = g.met.S.NodeSource.keeps; store_caused = g.met.S.NodeSource.stays_caused; summer_steps = g.met.M.Summer.are_steps; summer_keeps = g.met.M.Summer.keeps; summer_caused = g.met.M.Summer.stays_caused; summer_asked = g.met.M.Summer.stays_asked; summer_gave = g.met.M.Summer.stays_given } in
    let i = g.M.Unit.Item in let s = g.S.NodeSource in let m = g.M.Summer in let s0 = c.args.store.now in let u0 = c.args.summer.now in
    let p = err_from_is_err_and c.from_residual.result c.from_residual.ensures.1 in
    took_fault i s m laws first tree pieces c.from_residual.result _ s0 c.join_front.new.store c.in_err-node.field-0.0 p.0 p.2 p.1 (c.in_err-node.ensures.met first tree pieces under front back).0

pub returns-in_err-node-2-clause-met : goal.returns-in_err-node-2-clause-met
returns-in_err-node-2-clause-met g c first tree pieces under front back =
    let laws : Laws g.S.NodeSource g.M.Summer = record { store_steps = g.met.S.NodeSource.are_steps; store_keeps = g.met.S.NodeSource.keeps; store_caused = g.met.S.NodeSource.stays_caused; summer_steps = g.met.M.Summer.are_steps; summer_keeps = g.met.M.Summer.keeps; summer_caused = g.met.M.Summer.stays_caused; summer_asked = g.met.M.Summer.stays_asked; summer_gave = g.met.M.Summer.stays_given } in
    let i = g.M.Unit.Item in let s = g.S.NodeSource in let m = g.M.Summer in let s0 = c.args.store.now in let u0 = c.args.summer.now in
    let p = err_from_is_err_and c.from_residual-in_err-node-2.result c.from_residual-in_err-node-2.ensures.1 in
    took_fault i s m laws first tree pieces c.from_residual-in_err-node-2.result _ s0 c.join_back.new.store c.in_err-node-2.field-0.0 p.0 p.2 p.1 (c.in_err-node-2.ensures.met first tree pieces under back front).0

pub returns-clause-met : goal.returns-clause-met
returns-clause-met g c first tree pieces under front back =
    let all = c.in_ok-node-2.ensures.met first tree pieces under back front in
    (all.0, all.1)

pub returns-then-is_empty-clause-sums : goal.returns-then-is_empty-clause-sums
returns-then-is_empty-clause-sums g c first begun way front back = known_none g.M.Unit.Item g.S.NodeSource g.M.Summer first begun c.args.summer.now c.args.store.now c.args.store.now refl

pub returns-then-is_empty-2-clause-sums : goal.returns-then-is_empty-2-clause-sums
returns-then-is_empty-2-clause-sums g c first begun way front back = known_none g.M.Unit.Item g.S.NodeSource g.M.Summer first begun c.args.summer.now c.args.store.now c.args.store.now refl

pub returns-in_err-node-clause-sums : goal.returns-in_err-node-clause-sums
returns-in_err-node-clause-sums g c first begun way front back =
    let p = err_from_is_err_and c.from_residual.result c.from_residual.ensures.1 in
    knew_err g.M.Unit.Item g.S.NodeSource g.M.Summer first begun _ _ _ c.from_residual.result c.in_err-node.field-0.0 p.0 p.2 p.1 (c.in_err-node.ensures.sums first begun way front back)

pub returns-in_err-node-2-clause-sums : goal.returns-in_err-node-2-clause-sums
returns-in_err-node-2-clause-sums g c first begun way front back =
    let p = err_from_is_err_and c.from_residual-in_err-node-2.result c.from_residual-in_err-node-2.ensures.1 in
    knew_err g.M.Unit.Item g.S.NodeSource g.M.Summer first begun _ _ _ c.from_residual-in_err-node-2.result c.in_err-node-2.field-0.0 p.0 p.2 p.1 (c.in_err-node-2.ensures.sums first begun way back front)

pub returns-clause-sums : goal.returns-clause-sums
returns-clause-sums g c first begun way front back = c.in_ok-node-2.ensures.sums first begun way back front

pub returns-then-is_empty-clause-known : goal.returns-then-is_empty-clause-known
returns-then-is_empty-clause-known g c first begun way front back = rw c.changed.ensures.node back

pub returns-then-is_empty-2-clause-known : goal.returns-then-is_empty-2-clause-known
returns-then-is_empty-2-clause-known g c first begun way front back = rw c.changed-then-is_empty-2.ensures.node front

pub returns-clause-known : goal.returns-clause-known
returns-clause-known g c first begun way front back = c.in_ok-node-2.ensures.known first begun way back front
