-- At each turn one more is done and one fewer is left, and at the end none is left.
use Rattle.std.proofs.Common.{length, sym, ap, ◌∙◌, subst, arith}
use Rattle.std.proofs.lemmas.List.{nil_from_length}
use Rattle.std.specs.Vec.Iter.{into_iter_items}
use Rattle.json_terms.specs.Seen.{json}
use Rattle.json_terms.proofs.Converted.{AreItemsWith, AreItemsWith-push, AreItemsWith-end, Entry, AreMembersWith, AreMembersWith-push, AreMembersWith-end, ComeAfter, ComeAfter-push}
use Rattle.json_terms.proofs.read.+convert.Goals as goal

pub convert_items-loop-value-preserved : goal.convert_items-loop-value-preserved
convert_items-loop-value-preserved t c =
    let l = c.loop-value in
    let v = c.in-Some.value in
    let left = into_iter_items c.next.new.self in
    let so_far = subst (AreItemsWith c.args.values.items l.terms) c.in-Some.ensures.steps.0 l.invariant.3 in (
      tt,
      tt,
      omega (arith, ap length c.in-Some.ensures.steps.0),
      rw c.in_ok-push.ensures.ok (AreItemsWith-push c.args.values.items l.terms v (json c.in_ok-convert.field-0) left so_far c.in_ok-convert.ensures.ok),
    )

pub convert_items-returns-clause-ok : goal.convert_items-returns-clause-ok
convert_items-returns-clause-ok t c =
    let l = c.loop-value in
    let left = into_iter_items l.value-iterator in
    AreItemsWith-end c.args.values.items l.terms left l.invariant.3 (nil_from_length left (sym l.invariant.2 ∙ c.in-None.ensures.steps.0))

pub convert_members-loop-name-preserved : goal.convert_members-loop-name-preserved
convert_members-loop-name-preserved t c =
    let l = c.loop-name in
    let e : Entry = (c.in-Some.name, c.in-Some.value) in
    let left = c.next.new.self in
    let so_far = subst (AreMembersWith c.args.map.entries l.members) c.in-Some.ensures.steps l.invariant.2 in
    let come = subst (ComeAfter l.members) c.in-Some.ensures.steps l.invariant.3 in (
      tt,
      tt,
      rw (c.in_ok-push.ensures.ok, c.new.ensures) (AreMembersWith-push c.args.map.entries l.members e (json c.in_ok-term.term) left so_far c.in_ok-term.ensures.ok),
      rw (c.in_ok-push.ensures.ok, c.new.ensures) (ComeAfter-push l.members e (json c.in_ok-term.term) left come),
    )

pub convert_members-returns-clause-ok : goal.convert_members-returns-clause-ok
convert_members-returns-clause-ok t c =
    let l = c.loop-name in
    AreMembersWith-end c.args.map.entries l.members l.name-iterator l.invariant.2 c.in-None.ensures.steps.0
