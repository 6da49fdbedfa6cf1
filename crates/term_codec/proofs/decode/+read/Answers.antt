-- Each answer is the case of the definition that the calls before it tell.
use Rattle.std.proofs.Common.{◌≡◌, ◌-◌, ◌+◌, List, ℕ, suc, None, Some, IfOk, option_map, sym, ap, ◌∙◌, subst, arith}
use Rattle.json_terms.specs.Json.{Json}
use Rattle.json_terms.specs.Seen.{json, pair_of}
use Rattle.term_codec.specs.Reading.{reading, member_after, items_from, members_from}
use Rattle.term_codec.proofs.Parts.{array_in-none, array_in-count, object_in-none, object_in-count, array_of_count-is, object_of_count-is, items_from-next, items_from-none, items_from-end, members_from-next, members_from-none, members_from-end}
use Rattle.term_codec.proofs.Follows.{ComesAfter-follows}
use Rattle.term_codec.proofs.Read.{reading-read, member-read}
use Rattle.term_codec.proofs.decode.+read.Goals as goal

pub read_array-returns-in-Some : goal.read_array-returns-in-Some
read_array-returns-in-Some t c =
    subst (λ a. IfOk c.read_terms.result (λ found. option_map {U = Json × List ℕ} (λ r. (json r.0, r.1.now)) found ≡ a))
    (sym (array_in-count (reading c.args.limit) c.args.bytes.now c.in-Some.count c.in-Some.rest.now (sym c.in-Some.ensures))) c.read_terms.ensures

pub read_array-returns-in-None : goal.read_array-returns-in-None
read_array-returns-in-None t c = sym (array_in-none (reading c.args.limit) c.args.bytes.now (sym c.in-None.ensures))

pub read_object-returns-in-Some : goal.read_object-returns-in-Some
read_object-returns-in-Some t c =
    subst (λ a. IfOk c.read_members.result (λ found. option_map {U = Json × List ℕ} (λ r. (json r.0, r.1.now)) found ≡ a))
    (sym (object_in-count (reading c.args.limit) c.args.bytes.now c.in-Some.count c.in-Some.rest.now (sym c.in-Some.ensures))) c.read_members.ensures

pub read_object-returns-in-None : goal.read_object-returns-in-None
read_object-returns-in-None t c = sym (object_in-none (reading c.args.limit) c.args.bytes.now (sym c.in-None.ensures))

pub read_terms-returns-in-None : goal.read_terms-returns-in-None
read_terms-returns-in-None t c =
    let l = c.loop-index in
    let one = reading c.args.limit in
    let k : ℕ = c.args.count - (l._index + 1) in
    let more : c.args.count - l._index ≡ suc k = omega arith in
    let none : one l.rest.now ≡ None = sym (sym (ap (option_map {U = Json × List ℕ} (λ r. (json r.0, r.1.now))) c.in-None.is) ∙ c.in_ok-term.ensures) in
    sym (array_of_count-is one c.args.count c.args.bytes.now None (omega arith) (l.invariant ∙ items_from-none one l.terms (c.args.count - l._index) k l.rest.now more none))

pub read_terms-returns : goal.read_terms-returns
read_terms-returns t c =
    let l = c.loop-index in
    let one = reading c.args.limit in
    sym (array_of_count-is one c.args.count c.args.bytes.now (Some (l.terms, l.rest.now)) (omega arith) (l.invariant ∙ items_from-end one l.terms (c.args.count - l._index) l.rest.now (omega arith)))

pub read_members-push-requires : goal.read_members-push-requires
read_members-push-requires t c =
    let l = c.loop-index in
    let found = sym (sym (ap (option_map {U = (List ℕ × Json) × List ℕ} (λ r. (pair_of r.0, r.1.now))) c.in-Some.is) ∙ c.in_ok-member.ensures) in
    let read = member-read c.args.limit (reading c.args.limit) (reading-read c.args.limit) l.members l.rest.now (pair_of c.in-Some.member) c.in-Some.behind.now found in
    ComesAfter-follows l.members c.in-Some.member.name read.rises

pub read_members-returns-in-None : goal.read_members-returns-in-None
read_members-returns-in-None t c =
    let l = c.loop-index in
    let one = reading c.args.limit in
    let k : ℕ = c.args.count - (l._index + 1) in
    let more : c.args.count - l._index ≡ suc k = omega arith in
    let none : member_after one l.members l.rest.now ≡ None = sym (sym (ap (option_map {U = (List ℕ × Json) × List ℕ} (λ r. (pair_of r.0, r.1.now))) c.in-None.is) ∙ c.in_ok-member.ensures) in
    sym (object_of_count-is one c.args.count c.args.bytes.now None (omega arith) (l.invariant ∙ members_from-none one l.members (c.args.count - l._index) k l.rest.now more none))

pub read_members-returns : goal.read_members-returns
read_members-returns t c =
    let l = c.loop-index in
    let one = reading c.args.limit in
    sym (object_of_count-is one c.args.count c.args.bytes.now (Some (l.members, l.rest.now)) (omega arith) (l.invariant ∙ members_from-end one l.members (c.args.count - l._index) l.rest.now (omega arith)))

pub read_terms-loop-index-preserved : goal.read_terms-loop-index-preserved
read_terms-loop-index-preserved t c =
    let l = c.loop-index in
    let one = reading c.args.limit in
    let k : ℕ = c.args.count - (l._index + 1) in
    let more : c.args.count - l._index ≡ suc k = omega arith in
    let found = sym (sym (ap (option_map {U = Json × List ℕ} (λ r. (json r.0, r.1.now))) c.in-Some.is) ∙ c.in_ok-term.ensures) in
    l.invariant ∙ items_from-next one l.terms (c.args.count - l._index) k l.rest.now (json c.in-Some.term) c.in-Some.behind.now more found
    ∙ ap (λ ts. items_from one ts k c.in-Some.behind.now) (sym c.in_ok-push-in-Some.ensures.ok)

pub read_members-loop-index-preserved : goal.read_members-loop-index-preserved
read_members-loop-index-preserved t c =
    let l = c.loop-index in
    let one = reading c.args.limit in
    let k : ℕ = c.args.count - (l._index + 1) in
    let more : c.args.count - l._index ≡ suc k = omega arith in
    let found = sym (sym (ap (option_map {U = (List ℕ × Json) × List ℕ} (λ r. (pair_of r.0, r.1.now))) c.in-Some.is) ∙ c.in_ok-member.ensures) in
    l.invariant ∙ members_from-next one l.members (c.args.count - l._index) k l.rest.now (pair_of c.in-Some.member) c.in-Some.behind.now more found
    ∙ ap (λ ms. members_from one ms k c.in-Some.behind.now) (sym c.in_ok-push-in-Some.ensures.ok)
