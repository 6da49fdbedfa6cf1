-- A part is less deep than the whole, and within the limits as the whole is.
use Rattle.std.proofs.Common.{◌≡◌, ◌<◌, ◌++◌, OnOk, length, map, sym, ap, ◌∙◌, subst, arith}
use Rattle.json_terms.specs.Json.{depth, items_of, items_depth, members_of, members_depth}
use Rattle.json_terms.specs.Seen.{json, pair_of}
use Rattle.json_terms.proofs.Depths.{depth_at, member_depth_at}
use Rattle.term_codec.specs.Spelling.{spelling, items_spelling, members_spelling, count_bytes}
use Rattle.term_codec.specs.SpelledAt.{CountsFit, ItemsFit, MembersFit}
use Rattle.term_codec.proofs.Counts.{CountsFit-at, MemberFits-at, items_count-items_of, members_count-members_of, put_array, put_object}
use Rattle.term_codec.proofs.encode.+put.Goals as goal

pub put_term-put_count-requires : goal.put_term-put_count-requires
put_term-put_count-requires t c =
    let fit = subst (λ u. CountsFit (json u)) c.in-Object.is c.requires in
    omega (arith, fit.0, members_count-members_of c.in-Object.members, c.len.ensures)

pub put_term-put_count-requires-in-Array : goal.put_term-put_count-requires-in-Array
put_term-put_count-requires-in-Array t c =
    let fit = subst (λ u. CountsFit (json u)) c.in-Array.is c.requires in
    omega (arith, fit.0, items_count-items_of c.in-Array.terms, c.len-in-Array.ensures)

pub put_term-put_members-requires : goal.put_term-put_members-requires
put_term-put_members-requires t c =
    let fit = subst (λ u. CountsFit (json u)) c.in-Object.is c.requires in
    let same : members_depth (members_of (map pair_of c.as_slice.result.now)) ≡ members_depth (members_of c.in-Object.members) = ap (λ ms. members_depth (members_of ms)) c.as_slice.ensures in
    (omega (arith, same, ap (λ u. depth (json u)) c.in-Object.is), subst (λ ms. MembersFit (members_of ms)) (sym c.as_slice.ensures) fit.1)

pub put_term-put_terms-requires : goal.put_term-put_terms-requires
put_term-put_terms-requires t c =
    let fit = subst (λ u. CountsFit (json u)) c.in-Array.is c.requires in
    let same : items_depth (items_of (map json c.as_slice-in-Array.result.now)) ≡ items_depth (items_of c.in-Array.terms) = ap (λ ts. items_depth (items_of ts)) c.as_slice-in-Array.ensures in
    (omega (arith, same, ap (λ u. depth (json u)) c.in-Array.is), subst (λ ts. ItemsFit (items_of ts)) (sym c.as_slice-in-Array.ensures) fit.1)

pub put_terms-put_term-requires : goal.put_terms-put_term-requires
put_terms-put_term-requires t c =
    let within : c.loop-term.term-index < length c.args.terms.now = omega arith in
    let less = depth_at c.args.terms.now c.loop-term.term-index c.term-item.result within c.term-item.is in
    (omega (arith, less), CountsFit-at c.args.terms.now c.loop-term.term-index c.term-item.result within c.term-item.is c.requires)

pub put_members-put_text-requires : goal.put_members-put_text-requires
put_members-put_text-requires t c =
    let within : c.loop-member.member-index < length c.args.members.now = omega arith in
    let fit = MemberFits-at c.args.members.now c.loop-member.member-index c.member-item.result within c.member-item.is c.requires in
    omega (arith, fit.0, ap length c.as_str.ensures)

pub put_members-put_term-requires : goal.put_members-put_term-requires
put_members-put_term-requires t c =
    let within : c.loop-member.member-index < length c.args.members.now = omega arith in
    let less = member_depth_at c.args.members.now c.loop-member.member-index c.member-item.result within c.member-item.is in
    (omega (arith, less), (MemberFits-at c.args.members.now c.loop-member.member-index c.member-item.result within c.member-item.is c.requires).1)

pub put_term-returns-in_ok-put_count-in-Object : goal.put_term-returns-in_ok-put_count-in-Object
put_term-returns-in_ok-put_count-in-Object t c =
    let old = c.args.out.now.items in
    let slice = map pair_of c.as_slice.result.now in
    let written = ap (λ bs. bs ++ members_spelling (members_of slice)) (c.in_ok-put_count-in-Object.ensures.ok ∙ ap (λ bs. bs ++ count_bytes c.len.result) c.in_ok-push-in-Object.ensures.items)
    ∙ put_object old c.len.result c.in-Object.members slice c.as_slice.ensures c.len.ensures ∙ ap (λ u. old ++ spelling (json u)) (sym c.in-Object.is) in
    subst (λ bs. OnOk c.put_members.result (c.put_members.new.out.items ≡ bs)) written c.put_members.ensures

pub put_term-returns-in_ok-put_count-in-Array : goal.put_term-returns-in_ok-put_count-in-Array
put_term-returns-in_ok-put_count-in-Array t c =
    let old = c.args.out.now.items in
    let slice = map json c.as_slice-in-Array.result.now in
    let written = ap (λ bs. bs ++ items_spelling (items_of slice)) (c.in_ok-put_count-in-Array.ensures.ok ∙ ap (λ bs. bs ++ count_bytes c.len-in-Array.result) c.in_ok-push-in-Array.ensures.items)
    ∙ put_array old c.len-in-Array.result c.in-Array.terms slice c.as_slice-in-Array.ensures c.len-in-Array.ensures ∙ ap (λ u. old ++ spelling (json u)) (sym c.in-Array.is) in
    subst (λ bs. OnOk c.put_terms.result (c.put_terms.new.out.items ≡ bs)) written c.put_terms.ensures
