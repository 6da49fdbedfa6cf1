use Rattle.std.proofs.Common.{arith}
use Rattle.tree_tools.proofs.Insertions.{insertions_within}
use Rattle.tree_tests.proofs.Asked.{asks_ran}
use Rattle.tree_tests.proofs.noting_tests.edit_noted.Goals as goal

pub apply-requires-clause-few : goal.apply-requires-clause-few
apply-requires-clause-few g c =
    let few = insertions_within c.args.edits.now in
    let small = c.if-tree-gt1000000.false in
    let short = c.if-edits-gt1000000.false in
    omega arith

pub returns-in_err-after : goal.returns-in_err-after
returns-in_err-after g c =
    let asks = asks_ran c.args.store.now c.apply.new.store c.args.summer.now c.apply.new.summer c.apply.result c.apply.ensures.ran in
    asks.puts

pub returns : goal.returns
returns g c =
    let asks = asks_ran c.args.store.now c.apply.new.store c.args.summer.now c.apply.new.summer c.apply.result c.apply.ensures.ran in
    asks.puts
