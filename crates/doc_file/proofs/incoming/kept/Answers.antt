-- The names of what is left rise, as those of the members do.
use Rattle.std.proofs.Common.{◌≡◌, ◌&&◌, List, map, take, length, not, true, false, codes, bytes_eq, sym, ap, ◌∙◌, subst}
use Rattle.std.proofs.lemmas.Iterator.Adapters.{YieldsList-from_vec}
use Rattle.std.proofs.lemmas.Iterator.Consumers.{YieldsList-so_far, YieldsList-turn}
use Rattle.json_terms.specs.declared.term.Member.{Member}
use Rattle.json_terms.specs.Json.{members_of}
use Rattle.json_terms.specs.Seen.{pair_of}
use Rattle.json_terms.specs.Terms.{AreMembers, ComesAfter}
use Rattle.doc_file.proofs.Left.{kept, ComesAfter-kept, kept-taken, kept-left, itself}
use Rattle.doc_file.proofs.incoming.kept.Goals as goal

pub push-requires : goal.push-requires
push-requires c =
    let l = c.loop-member in
    let entries : List Member = c.into_vec-member-items.result.items in
    let given = c.into_iter-member-iterator.ensures.into_iter_gives in
    let road = YieldsList-from_vec {s = c.into_iter-member-iterator.result} entries given.0 (given.1 ∙ c.into_vec-member-items.result.ok.0) in
    let so_far : l.yielded ≡ take (length l.yielded) entries = sym (itself l.yielded) ∙ YieldsList-so_far road l.yielded l.member-iterator l.yielded_by in
    let turn = YieldsList-turn road l.yielded l.member-iterator l.yielded_by c.next.result c.next.new.self c.in-Some.member c.in-Some.is c.next.ensures.steps in
    let all : AreMembers (members_of (map pair_of entries)) = subst (λ ms. AreMembers (members_of ms)) (sym c.into_vec-member-items.ensures) c.validity.ensures in
    let after = ComesAfter-kept entries (length l.yielded) c.in-Some.member all turn.0 turn.1 in
    subst (ComesAfter c.in-Some.member.name) (sym (l.invariant.2 ∙ ap (λ ms. kept (members_of (map pair_of ms))) so_far)) after

pub loop-member-preserved : goal.loop-member-preserved
loop-member-preserved c =
    let m : Member = c.in-Some.member in
    let told : c.is_kept.result ≡ true = cc in
    let stays : (not (bytes_eq m.name (codes "_rev")) && not (bytes_eq m.name (codes "_deleted"))) ≡ true =
    ap (λ n. not (bytes_eq n (codes "_rev")) && not (bytes_eq n (codes "_deleted"))) (sym c.as_str.ensures) ∙ sym c.is_kept.ensures ∙ told in
    (tt, tt, ap members_of c.in_ok-push.ensures.ok ∙ kept-taken c.loop-member.left c.loop-member.yielded m c.loop-member.invariant.2 stays)

pub loop-member-preserved-then-not-is_kept : goal.loop-member-preserved-then-not-is_kept
loop-member-preserved-then-not-is_kept c =
    let m : Member = c.in-Some.member in
    let told : c.is_kept.result ≡ false = cc in
    let goes : (not (bytes_eq m.name (codes "_rev")) && not (bytes_eq m.name (codes "_deleted"))) ≡ false =
    ap (λ n. not (bytes_eq n (codes "_rev")) && not (bytes_eq n (codes "_deleted"))) (sym c.as_str.ensures) ∙ sym c.is_kept.ensures ∙ told in
    (tt, tt, kept-left c.loop-member.left c.loop-member.yielded m c.loop-member.invariant.2 goes)
