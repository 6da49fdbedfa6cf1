use Rattle.std.proofs.Common.{Contains, ◌≡◌, refl, sym, arith}
use Rattle.tree_laws.specs.declared.tree.Fill.TheVariants.{Root}
use Rattle.tree_laws.specs.Nodes.{entries}
use Rattle.reduce_tree.specs.Calls.{places}
use Rattle.reduce_tree.proofs.Calls.{Laws, goes_none}
use Rattle.reduce_tree.proofs.Charge.{some_by_test}
use Rattle.reduce_tree.proofs.Fills.{top_fill}
use Rattle.reduce_tree.proofs.Nodes.{has_none, none_counted, none_from_test, root_at, root_size}
use Rattle.reduce_tree.proofs.Puts.{leaf_none}
use Rattle.std.proofs.lemmas.Result.{err_from_is_err_and}
use Rattle.reduce_tree.proofs.Working.{filled_none, filled_wider, refused_on}
use Rattle.reduce_tree.proofs.Had.{had_none}
use Rattle.reduce_tree.proofs.builder.put_top.Goals as goal

pub returns-then-is_empty-clause-root : goal.returns-then-is_empty-clause-root
returns-then-is_empty-clause-root g c first items known has =
    let none = none_from_test (entries c.args.node) c.is_empty.result c.is_empty.ensures c.if-is_empty.true in
    has_none g.M.Unit.Item g.M.Summer first (places (g.S.NodeSource.nodes c.args.store.now)) c.args.level c.args.node items none has

pub returns-then-is_empty-clause-count : goal.returns-then-is_empty-clause-count
returns-then-is_empty-clause-count g c =
    let none = none_from_test (entries c.args.node) c.is_empty.result c.is_empty.ensures c.if-is_empty.true in
    sym (none_counted c.args.node none)

pub returns-then-is_empty-clause-size : goal.returns-then-is_empty-clause-size
returns-then-is_empty-clause-size g c = record { most = omega arith; empty = (λ e. refl, λ e. refl); least = λ s. absurd (omega (arith, s)) }

pub returns-then-is_empty-clause-height : goal.returns-then-is_empty-clause-height
returns-then-is_empty-clause-height g c s =
    let none = none_from_test (entries c.args.node) c.is_empty.result c.is_empty.ensures c.if-is_empty.true in
    absurd (omega (arith, s, none))

pub returns-then-is_empty-clause-stored : goal.returns-then-is_empty-clause-stored
returns-then-is_empty-clause-stored g c there told s =
    let none = none_from_test (entries c.args.node) c.is_empty.result c.is_empty.ensures c.if-is_empty.true in
    absurd (omega (arith, s, none))

pub returns-then-is_empty-clause-takes : goal.returns-then-is_empty-clause-takes
returns-then-is_empty-clause-takes g c s =
    let none = none_from_test (entries c.args.node) c.is_empty.result c.is_empty.ensures c.if-is_empty.true in
    absurd (omega (arith, s, none))

pub returns-clause-none : goal.returns-clause-none
returns-clause-none g c e =
    let s = some_by_test (entries c.args.node) c.is_empty.result c.is_empty.ensures c.if-is_empty.false in
    absurd (omega (arith, e, s))

pub returns-then-is_empty-clause-leaf : goal.returns-then-is_empty-clause-leaf
returns-then-is_empty-clause-leaf g c =
    let none = none_from_test (entries c.args.node) c.is_empty.result c.is_empty.ensures c.if-is_empty.true in
    omega (arith, leaf_none c.args.node none)

pub returns-then-is_empty-clause-usable : goal.returns-then-is_empty-clause-usable
returns-then-is_empty-clause-usable g c s =
    let none = none_from_test (entries c.args.node) c.is_empty.result c.is_empty.ensures c.if-is_empty.true in
    absurd (omega (arith, s, leaf_none c.args.node none))

pub returns-then-is_empty-clause-ran : goal.returns-then-is_empty-clause-ran
returns-then-is_empty-clause-ran g c =
    let laws : Laws g.S.NodeSource g.M.Summer = record { store_steps = g.met.S.NodeSource.are_steps; store_keeps = g.met.S.NodeSource.keeps; store_caused = g.met.S.NodeSource.stays_caused; summer_steps = g.met.M.Summer.are_steps; summer_keeps = g.met.M.Summer.keeps; summer_caused = g.met.M.Summer.stays_caused; summer_asked = g.met.M.Summer.stays_asked; summer_gave = g.met.M.Summer.stays_given } in
    goes_none g.M.Unit.Item g.S.NodeSource g.M.Summer laws c.args.store.now c.args.summer.now

pub put_node-requires-clause-some : goal.put_node-requires-clause-some
put_node-requires-clause-some g c = some_by_test (entries c.args.node) c.is_empty.result c.is_empty.ensures c.if-is_empty.false

pub returns-clause-root : goal.returns-clause-root
returns-clause-root g c first items known has =
    let s = some_by_test (entries c.args.node) c.is_empty.result c.is_empty.ensures c.if-is_empty.false in
    let fill = top_fill c.args.level c.args.node c.requires.kind s c.requires.two c.requires.most in
    root_at g.M.Unit.Item g.M.Summer first (places (g.S.NodeSource.nodes c.put_node.new.store)) c.args.level c.in_ok-top.top.at items (c.in_ok-top.ensures.stands first c.args.level Root items known fill has)

pub returns-clause-size : goal.returns-clause-size
returns-clause-size g c =
    let some : entries c.args.node ≡ 0 → ⊥ = λ e. let s = some_by_test (entries c.args.node) c.is_empty.result c.is_empty.ensures c.if-is_empty.false in omega (arith, e, s) in
    root_size c.args.level c.args.node c.in_ok-top.top.at c.in_ok-top.top.count some c.requires.kind c.requires.large c.requires.few c.in_ok-top.ensures.count

pub returns-then-is_empty-clause-filled : goal.returns-then-is_empty-clause-filled
returns-then-is_empty-clause-filled g c = filled_none g.M.Unit.Item _ _ (g.S.NodeSource.puts c.args.store.now)

pub returns-in_err-top-clause-filled : goal.returns-in_err-top-clause-filled
returns-in_err-top-clause-filled g c =
    let some = some_by_test (entries c.args.node) c.is_empty.result c.is_empty.ensures c.if-is_empty.false in
    filled_wider g.M.Unit.Item _ _ 1 32 (omega (arith, some)) c.requires.most _ _ c.in_err-top.ensures.filled

pub returns-clause-filled : goal.returns-clause-filled
returns-clause-filled g c =
    let some = some_by_test (entries c.args.node) c.is_empty.result c.is_empty.ensures c.if-is_empty.false in
    filled_wider g.M.Unit.Item _ _ 1 32 (omega (arith, some)) c.requires.most _ _ c.in_ok-top.ensures.filled

pub returns-in_err-top-clause-refused : goal.returns-in_err-top-clause-refused
returns-in_err-top-clause-refused g c =
    let p = err_from_is_err_and c.from_residual.result c.from_residual.ensures.1 in
    refused_on _ _ c.from_residual.result c.in_err-top.field-0.0 p.0 p.2 p.1 (λ e. e) c.in_err-top.ensures.refused

pub returns-then-is_empty-clause-sums : goal.returns-then-is_empty-clause-sums
returns-then-is_empty-clause-sums g c first had keeps = had_none g.M.Unit.Item g.M.Summer (Contains had) first c.args.summer.now (g.S.NodeSource.puts c.args.store.now)

pub returns-in_err-top-clause-sums : goal.returns-in_err-top-clause-sums
returns-in_err-top-clause-sums g c first had keeps = c.in_err-top.ensures.sums first had keeps

pub returns-clause-sums : goal.returns-clause-sums
returns-clause-sums g c first had keeps = c.in_ok-top.ensures.sums first had keeps
