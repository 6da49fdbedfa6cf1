-- An element is less deep than its array, and a member than its object.
use Rattle.std.proofs.Common.{◌<◌, length, arith}
use Rattle.json_terms.proofs.Depths.{depth_at, member_depth_at}
use Rattle.json_terms.proofs.write.+put.Goals as goal

pub put_terms-put_term-requires : goal.put_terms-put_term-requires
put_terms-put_term-requires t c =
    let within : c.loop-term.term-index < length c.args.terms.now = omega arith in
    let less = depth_at c.args.terms.now c.loop-term.term-index c.term-item.result within c.term-item.is in
    (omega (arith, less), tt)

pub put_members-put_term-requires : goal.put_members-put_term-requires
put_members-put_term-requires t c =
    let within : c.loop-member.member-index < length c.args.members.now = omega arith in
    let less = member_depth_at c.args.members.now c.loop-member.member-index c.member-item.result within c.member-item.is in
    (omega (arith, less), tt)
