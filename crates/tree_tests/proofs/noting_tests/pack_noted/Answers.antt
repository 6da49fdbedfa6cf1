use Rattle.std.proofs.Common.{arith}
use Rattle.tree_tests.proofs.Asked.{asks_then}
use Rattle.tree_tests.proofs.noting_tests.pack_noted.Goals as goal

pub returns-in_err-push : goal.returns-in_err-push
returns-in_err-push c =
    let asks = asks_then c.args.store.now c.loop-place.store c.push.new.store c.args.summer.now c.loop-place.summer c.push.new.summer c.push.result c.loop-place.invariant.asks c.push.ensures.ran in
    asks.puts

pub loop-place-preserved : goal.loop-place-preserved
loop-place-preserved c = record {
  whole = c.in_ok-push.ensures.whole;
  pushed = omega (arith, c.in_ok-push.ensures.pushed, c.loop-place.invariant.pushed);
  within = omega (arith, c.loop-place-test.true);
  asks = asks_then c.args.store.now c.loop-place.store c.push.new.store c.args.summer.now c.loop-place.summer c.push.new.summer c.push.result c.loop-place.invariant.asks c.push.ensures.ran;
}

pub returns-in_err-tree : goal.returns-in_err-tree
returns-in_err-tree c =
    let asks = asks_then c.args.store.now c.loop-place.store c.finish.new.store c.args.summer.now c.loop-place.summer c.finish.new.summer c.finish.result c.loop-place.invariant.asks c.finish.ensures.ran in
    asks.puts

pub returns : goal.returns
returns c =
    let asks = asks_then c.args.store.now c.loop-place.store c.finish.new.store c.args.summer.now c.loop-place.summer c.finish.new.summer c.finish.result c.loop-place.invariant.asks c.finish.ensures.ran in
    asks.puts
