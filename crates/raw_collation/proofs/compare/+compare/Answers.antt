-- A part is less deep than the whole, and where the loop ends the lengths decide.
use Rattle.std.proofs.Common.{length, rules, arith}
use Rattle.std.proofs.lemmas.Slice.Zip.{zip_turn, zip_end}
use Rattle.json_terms.proofs.Depths.{depth_at, member_depth_at}
use Rattle.raw_collation.proofs.Steps.{items_end, members_end}
use Rattle.raw_collation.proofs.compare.+compare.Goals as goal

pub compare_items-raw_cmp-order-requires : goal.compare_items-raw_cmp-order-requires
compare_items-raw_cmp-order-requires t c =
    let s = c.loop-x in
    let turn = zip_turn c.args.xs.now c.args.ys.now s.yielded c.into_iter-x-iterator.result s.x-iterator c.next.new.self c.next.result
    (search rules) (search rules) s.yielded_by (c.in-Some.x, c.in-Some.y) c.in-Some.is c.next.ensures.steps in
    let part = depth_at c.args.xs.now (length s.yielded) c.in-Some.x.now turn.0 (turn.2 c.in-Some.x.now) in
    (omega arith, tt)

pub compare_items-returns : goal.compare_items-returns
compare_items-returns t c =
    let s = c.loop-x in
    let ended = zip_end c.args.xs.now c.args.ys.now s.yielded c.into_iter-x-iterator.result s.x-iterator c.next.new.self c.next.result
    (search rules) (search rules) s.yielded_by c.in-None.is c.next.ensures.steps in
    let rest = items_end c.args.xs.now c.args.ys.now (length s.yielded) ended in
    cc (c.cmp.ensures, s.invariant)

pub compare_members-raw_cmp-values-requires : goal.compare_members-raw_cmp-values-requires
compare_members-raw_cmp-values-requires t c =
    let s = c.loop-m in
    let turn = zip_turn c.args.ms.now c.args.ns.now s.yielded c.into_iter-m-iterator.result s.m-iterator c.next.new.self c.next.result
    (search rules) (search rules) s.yielded_by (c.in-Some.m, c.in-Some.n) c.in-Some.is c.next.ensures.steps in
    let part = member_depth_at c.args.ms.now (length s.yielded) c.in-Some.m.now turn.0 (turn.2 c.in-Some.m.now) in
    (omega arith, tt)

pub compare_members-returns : goal.compare_members-returns
compare_members-returns t c =
    let s = c.loop-m in
    let ended = zip_end c.args.ms.now c.args.ns.now s.yielded c.into_iter-m-iterator.result s.m-iterator c.next.new.self c.next.result
    (search rules) (search rules) s.yielded_by c.in-None.is c.next.ensures.steps in
    let rest = members_end c.args.ms.now c.args.ns.now (length s.yielded) ended in
    cc (c.cmp.ensures, s.invariant)
