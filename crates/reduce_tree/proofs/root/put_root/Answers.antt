use Rattle.std.proofs.Common.{◌≡◌, refl, sym, arith}
use Rattle.tree_laws.specs.declared.tree.Fill.TheVariants.{Root}
use Rattle.tree_laws.specs.Nodes.{entries}
use Rattle.reduce_tree.specs.Calls.{places}
use Rattle.reduce_tree.proofs.Calls.{Laws, goes_none}
use Rattle.reduce_tree.proofs.Charge.{some_by_test, slack_some}
use Rattle.reduce_tree.proofs.Nodes.{has_none, lone_count, lone_root, lone_size, none_counted, none_from_test, root_at, root_fill, root_size, level_below}
use Rattle.reduce_tree.proofs.Puts.{leaf_lone, leaf_none, put_none}
use Rattle.reduce_tree.proofs.Pieces.{pieces_none, on_match}
use Rattle.std.proofs.lemmas.Result.{err_from_is_err_and}
use Rattle.reduce_tree.proofs.Had.{known_none, knew_err}
use Rattle.reduce_tree.proofs.root.put_root.Goals as goal

pub returns-then-is_empty-clause-root : goal.returns-then-is_empty-clause-root
returns-then-is_empty-clause-root g c first items known has =
    let none = none_from_test (entries c.args.node) c.is_empty.result c.is_empty.ensures c.if-is_empty.true in
    has_none g.M.Unit.Item g.M.Summer first (places (g.S.NodeSource.nodes c.args.store.now)) c.args.level c.args.node items none has

pub returns-then-is_empty-clause-count : goal.returns-then-is_empty-clause-count
returns-then-is_empty-clause-count g c =
    let none = none_from_test (entries c.args.node) c.is_empty.result c.is_empty.ensures c.if-is_empty.true in
    sym (none_counted c.args.node none)

pub returns-then-is_empty-clause-ran : goal.returns-then-is_empty-clause-ran
returns-then-is_empty-clause-ran g c =
    let laws : Laws g.S.NodeSource g.M.Summer = record { store_steps = g.met.S.NodeSource.are_steps; store_keeps = g.met.S.NodeSource.keeps; store_caused = g.met.S.NodeSource.stays_caused; summer_steps = g.met.M.Summer.are_steps; summer_keeps = g.met.M.Summer.keeps; summer_caused = g.met.M.Summer.stays_caused; summer_asked = g.met.M.Summer.stays_asked; summer_gave = g.met.M.Summer.stays_given } in
    goes_none g.M.Unit.Item g.S.NodeSource g.M.Summer laws c.args.store.now c.args.summer.now

pub returns-in-Some-clause-root : goal.returns-in-Some-clause-root
returns-in-Some-clause-root g c first items known has =
    lone_root g.M.Unit.Item g.M.Summer first (places (g.S.NodeSource.nodes c.args.store.now)) c.args.level c.args.node c.in-Some.child items c.in-Some.ensures has

pub returns-in-Some-clause-count : goal.returns-in-Some-clause-count
returns-in-Some-clause-count g c = lone_count c.args.node c.in-Some.child c.in-Some.ensures

pub returns-in-Some-clause-size : goal.returns-in-Some-clause-size
returns-in-Some-clause-size g c = lone_size c.args.level c.args.node c.in-Some.child c.in-Some.ensures c.requires.kind c.requires.large c.requires.few

pub returns-in-Some-clause-ran : goal.returns-in-Some-clause-ran
returns-in-Some-clause-ran g c =
    let laws : Laws g.S.NodeSource g.M.Summer = record { store_steps = g.met.S.NodeSource.are_steps; store_keeps = g.met.S.NodeSource.keeps; store_caused = g.met.S.NodeSource.stays_caused; summer_steps = g.met.M.Summer.are_steps; summer_keeps = g.met.M.Summer.keeps; summer_caused = g.met.M.Summer.stays_caused; summer_asked = g.met.M.Summer.stays_asked; summer_gave = g.met.M.Summer.stays_given } in
    goes_none g.M.Unit.Item g.S.NodeSource g.M.Summer laws c.args.store.now c.args.summer.now

pub returns-clause-root : goal.returns-clause-root
returns-clause-root g c first items known has =
    let some : entries c.args.node ≡ 0 → ⊥ = λ e. let s = some_by_test (entries c.args.node) c.is_empty.result c.is_empty.ensures c.if-is_empty.false in omega (arith, e, s) in
    let fill = root_fill c.args.node some c.in_default.ensures c.requires.most in
    root_at g.M.Unit.Item g.M.Summer first (places (g.S.NodeSource.nodes c.place.new.store)) c.args.level c.in_ok-top.top.at items (c.in_ok-top.ensures.stands first c.args.level Root items known fill has)

pub returns-clause-size : goal.returns-clause-size
returns-clause-size g c =
    let some : entries c.args.node ≡ 0 → ⊥ = λ e. let s = some_by_test (entries c.args.node) c.is_empty.result c.is_empty.ensures c.if-is_empty.false in omega (arith, e, s) in
    root_size c.args.level c.args.node c.in_ok-top.top.at c.in_ok-top.top.count some c.requires.kind c.requires.large c.requires.few c.in_ok-top.ensures.count

pub returns-then-is_empty-clause-size : goal.returns-then-is_empty-clause-size
returns-then-is_empty-clause-size g c = record { most = omega arith; empty = (λ e. refl, λ e. refl); least = λ s. absurd (omega (arith, s)) }

pub returns-then-is_empty-clause-leaf : goal.returns-then-is_empty-clause-leaf
returns-then-is_empty-clause-leaf g c =
    let none = none_from_test (entries c.args.node) c.is_empty.result c.is_empty.ensures c.if-is_empty.true in
    let z = leaf_none c.args.node none in
    put_none (omega (arith, z))

pub returns-in-Some-clause-leaf : goal.returns-in-Some-clause-leaf
returns-in-Some-clause-leaf g c =
    let z = leaf_lone c.args.node c.in-Some.child c.in-Some.ensures in
    put_none (omega (arith, z))

pub returns-then-is_empty-clause-pieces : goal.returns-then-is_empty-clause-pieces
returns-then-is_empty-clause-pieces g c first items among known has all =
    pieces_none g.M.Unit.Item g.M.Summer first among (places (g.S.NodeSource.nodes c.args.store.now)) Root (g.S.NodeSource.puts c.args.store.now) (g.S.NodeSource.puts c.args.store.now) refl

pub returns-in-Some-clause-pieces : goal.returns-in-Some-clause-pieces
returns-in-Some-clause-pieces g c first items among known has all =
    pieces_none g.M.Unit.Item g.M.Summer first among (places (g.S.NodeSource.nodes c.args.store.now)) Root (g.S.NodeSource.puts c.args.store.now) (g.S.NodeSource.puts c.args.store.now) refl

pub returns-clause-pieces : goal.returns-clause-pieces
returns-clause-pieces g c first items among known has all =
    let some : entries c.args.node ≡ 0 → ⊥ = λ e. let s = some_by_test (entries c.args.node) c.is_empty.result c.is_empty.ensures c.if-is_empty.false in omega (arith, e, s) in
    let fill = root_fill c.args.node some c.in_default.ensures c.requires.most in
    c.in_ok-top.ensures.pieces first c.args.level Root items among known fill has all

pub returns-then-is_empty-clause-within : goal.returns-then-is_empty-clause-within
returns-then-is_empty-clause-within g c top few = record { steps = omega arith; puts = omega arith }

pub returns-in-Some-clause-within : goal.returns-in-Some-clause-within
returns-in-Some-clause-within g c top few = record { steps = omega arith; puts = omega arith }

pub returns-in_err-top-clause-within : goal.returns-in_err-top-clause-within
returns-in_err-top-clause-within g c top few =
    let some = some_by_test (entries c.args.node) c.is_empty.result c.is_empty.ensures c.if-is_empty.false in
    let s = slack_some top c.args.level (entries c.args.node) some in
    let low = level_below c.args.level top c.args.node c.requires.kind c.requires.large some few in
    let k = c.in_err-top.ensures.spent in
    record { steps = let a = k.steps in omega (arith, s, low, a); puts = let a = k.puts in omega (arith, s, low, a) }

pub returns-clause-within : goal.returns-clause-within
returns-clause-within g c top few =
    let some = some_by_test (entries c.args.node) c.is_empty.result c.is_empty.ensures c.if-is_empty.false in
    let s = slack_some top c.args.level (entries c.args.node) some in
    let low = level_below c.args.level top c.args.node c.requires.kind c.requires.large some few in
    let k = c.in_ok-top.ensures in
    record { steps = omega (arith, s, low, k.steps); puts = omega (arith, s, low, k.steps, k.puts) }

pub returns-in_err-top-clause-pieces : goal.returns-in_err-top-clause-pieces
returns-in_err-top-clause-pieces g c first items among known has all =
    let some : entries c.args.node ≡ 0 → ⊥ = λ e. let s = some_by_test (entries c.args.node) c.is_empty.result c.is_empty.ensures c.if-is_empty.false in omega (arith, e, s) in
    let fill = root_fill c.args.node some c.in_default.ensures c.requires.most in
    let p = err_from_is_err_and c.from_residual.result c.from_residual.ensures.1 in
    on_match c.from_residual.result _ _ _ p.0 p.2 p.1
    (c.in_err-top.ensures.pieces first c.args.level Root items among known fill has all)

pub returns-then-is_empty-clause-sums : goal.returns-then-is_empty-clause-sums
returns-then-is_empty-clause-sums g c first begun knows = known_none g.M.Unit.Item g.S.NodeSource g.M.Summer first begun c.args.summer.now c.args.store.now c.args.store.now refl

pub returns-in-Some-clause-sums : goal.returns-in-Some-clause-sums
returns-in-Some-clause-sums g c first begun knows = known_none g.M.Unit.Item g.S.NodeSource g.M.Summer first begun c.args.summer.now c.args.store.now c.args.store.now refl

pub returns-in_err-top-clause-sums : goal.returns-in_err-top-clause-sums
returns-in_err-top-clause-sums g c first begun knows =
    let p = err_from_is_err_and c.from_residual.result c.from_residual.ensures.1 in
    knew_err g.M.Unit.Item g.S.NodeSource g.M.Summer first begun _ _ _ c.from_residual.result c.in_err-top.field-0.0 p.0 p.2 p.1 (c.in_err-top.ensures.sums first begun knows)

pub returns-clause-sums : goal.returns-clause-sums
returns-clause-sums g c first begun knows = c.in_ok-top.ensures.sums first begun knows
