-- An element is less deep than its array, a member than its object, and a name comes after those that were copied before it.
use Rattle.std.proofs.Common.{◌≡◌, ◌<◌, map, length, sym, ap, subst, arith}
use Rattle.json_terms.specs.Json.{members_of, members_depth}
use Rattle.json_terms.specs.Seen.{pair_of}
use Rattle.json_terms.specs.Terms.{AreMembers}
use Rattle.json_terms.proofs.Depths.{depth_at, member_depth_at}
use Rattle.json_terms.proofs.Pushed.{ComesAfter-at}
use Rattle.json_terms.proofs.copy.+copy.Goals as goal

pub copy_terms-copy_term-requires : goal.copy_terms-copy_term-requires
copy_terms-copy_term-requires t c =
    let within : c.loop-term.term-index < length c.args.terms.now = omega arith in
    let less = depth_at c.args.terms.now c.loop-term.term-index c.term-item.result within c.term-item.is in
    (omega (arith, less), tt)

pub copy_members-copy_term-requires : goal.copy_members-copy_term-requires
copy_members-copy_term-requires t c =
    let entries = c.as_slice-entries.result.now in
    let within : c.loop-member.member-index < length entries = omega arith in
    let less = member_depth_at entries c.loop-member.member-index c.member-item.result within c.member-item.is in
    let same : members_depth (members_of (map pair_of entries)) ≡ members_depth (members_of c.args.members.now) = ap (λ ms. members_depth (members_of ms)) c.as_slice-entries.ensures in
    (omega (arith, less, same), tt)

pub copy_members-push-requires : goal.copy_members-push-requires
copy_members-push-requires t c =
    let entries = c.as_slice-entries.result.now in
    let within : c.loop-member.member-index < length entries = omega arith in
    let all = subst (λ ms. AreMembers (members_of ms)) (sym c.as_slice-entries.ensures) c.validity.ensures in
    rw (c.in_ok-copy.ensures, c.loop-member.invariant) (ComesAfter-at entries c.loop-member.member-index c.member-item.result within c.member-item.is all)
