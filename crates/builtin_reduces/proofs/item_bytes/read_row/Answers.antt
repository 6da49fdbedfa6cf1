-- Each part of a row is read, and what is read is the row.
use Rattle.std.proofs.Common.{◌≡◌, ◌++◌, List, [], ℕ, Some, IfSome, Bor, sym, ◌∙◌, subst}
use Rattle.std.proofs.lemmas.List.{append-nil}
use Rattle.std.proofs.Math.Facts.{Fits-of_lt}
use Rattle.json_terms.specs.Seen.{json}
use Rattle.json_terms.specs.declared.term.Term.{Term}
use Rattle.term_codec.specs.Spelling.{spelling}
use Rattle.term_codec.proofs.Texts.{text_in-read}
use Rattle.term_codec.proofs.Words.{some-pair, count_in-read}
use Rattle.builtin_reduces.specs.ItemLaws.{behind_key, behind_id, id_read, place_read}
use Rattle.builtin_reduces.specs.Sizes.{part_within}
use Rattle.builtin_reduces.proofs.ItemParts.{none_read, read_is, no_bytes, some_bytes, row_read}
use Rattle.builtin_reduces.proofs.item_bytes.read_row.Goals as goal

pub returns-in_default-clause-whole : goal.returns-in_default-clause-whole
returns-in_default-clause-whole c = λ row kept is.
    absurd (none_read c.in_ok-key.field-0 row.key (behind_key row) c.in_default.is (c.in_ok-key.ensures.whole row.key (behind_key row) kept.key.valid (part_within (json row.key) kept.key) (sym is)))

pub returns-in_default-read_text-clause-whole : goal.returns-in_default-read_text-clause-whole
returns-in_default-read_text-clause-whole c = λ row kept is.
    let key = read_is c.in_ok-key.field-0 c.in-Some.key c.in-Some.rest row.key (behind_key row) c.in-Some.is (c.in_ok-key.ensures.whole row.key (behind_key row) kept.key.valid (part_within (json row.key) kept.key) (sym is)) in
    let both = c.in_default-read_text.ensures ∙ id_read row c.in-Some.rest.now kept key.1 in
    absurd cc

pub returns-in_default-read_count-clause-whole : goal.returns-in_default-read_count-clause-whole
returns-in_default-read_count-clause-whole c = λ row kept is.
    let key = read_is c.in_ok-key.field-0 c.in-Some.key c.in-Some.rest row.key (behind_key row) c.in-Some.is (c.in_ok-key.ensures.whole row.key (behind_key row) kept.key.valid (part_within (json row.key) kept.key) (sym is)) in
    let id = some-pair (c.in-Some-read_text.id.now, c.in-Some-read_text.rest.now) (row.id, behind_id row) (c.in-Some-read_text.ensures ∙ id_read row c.in-Some.rest.now kept key.1) in
    let both = c.in_default-read_count.ensures ∙ place_read row c.in-Some-read_text.rest.now kept id.1 in
    absurd cc

pub returns-in_default-2-clause-whole : goal.returns-in_default-2-clause-whole
returns-in_default-2-clause-whole c = λ row kept is.
    let key = read_is c.in_ok-key.field-0 c.in-Some.key c.in-Some.rest row.key (behind_key row) c.in-Some.is (c.in_ok-key.ensures.whole row.key (behind_key row) kept.key.valid (part_within (json row.key) kept.key) (sym is)) in
    let id = some-pair (c.in-Some-read_text.id.now, c.in-Some-read_text.rest.now) (row.id, behind_id row) (c.in-Some-read_text.ensures ∙ id_read row c.in-Some.rest.now kept key.1) in
    let place = some-pair (c.in-Some-read_count.place, c.in-Some-read_count.rest.now) (row.place, spelling (json row.value)) (c.in-Some-read_count.ensures ∙ place_read row c.in-Some-read_text.rest.now kept id.1) in
    absurd (none_read c.in_ok-value.field-0 row.value [] c.in_default-2.is (c.in_ok-value.ensures.whole row.value [] kept.value.valid (part_within (json row.value) kept.value) (place.1 ∙ sym (append-nil (spelling (json row.value))))))

pub overflow_cast-place : goal.overflow_cast-place
overflow_cast-place c = Fits-of_lt ((count_in-read c.in-Some-read_text.rest.now c.in-Some-read_count.place c.in-Some-read_count.rest.now (sym c.in-Some-read_count.ensures)).0)

pub returns-then-not-is_empty-clause-whole : goal.returns-then-not-is_empty-clause-whole
returns-then-not-is_empty-clause-whole c = λ row kept is.
    let key = read_is c.in_ok-key.field-0 c.in-Some.key c.in-Some.rest row.key (behind_key row) c.in-Some.is (c.in_ok-key.ensures.whole row.key (behind_key row) kept.key.valid (part_within (json row.key) kept.key) (sym is)) in
    let id = some-pair (c.in-Some-read_text.id.now, c.in-Some-read_text.rest.now) (row.id, behind_id row) (c.in-Some-read_text.ensures ∙ id_read row c.in-Some.rest.now kept key.1) in
    let place = some-pair (c.in-Some-read_count.place, c.in-Some-read_count.rest.now) (row.place, spelling (json row.value)) (c.in-Some-read_count.ensures ∙ place_read row c.in-Some-read_text.rest.now kept id.1) in
    let value = read_is c.in_ok-value.field-0 c.in-Some-2.value c.in-Some-2.rest row.value [] c.in-Some-2.is (c.in_ok-value.ensures.whole row.value [] kept.value.valid (part_within (json row.value) kept.value) (place.1 ∙ sym (append-nil (spelling (json row.value))))) in
    absurd (some_bytes c.in-Some-2.rest.now c.is_empty.result value.1 c.is_empty.ensures c.if-not-is_empty.true)

pub returns-clause-sound : goal.returns-clause-sound
returns-clause-sound c =
    let bytes = c.args.bytes.now in
    let key = subst (λ found. IfSome found (λ (r : Term × Bor (List ℕ)). bytes ≡ spelling (json r.0) ++ r.1.now)) c.in-Some.is c.in_ok-key.ensures.sound in
    let id = text_in-read c.in-Some.rest.now c.in-Some-read_text.id.now c.in-Some-read_text.rest.now (sym c.in-Some-read_text.ensures) in
    let place = count_in-read c.in-Some-read_text.rest.now c.in-Some-read_count.place c.in-Some-read_count.rest.now (sym c.in-Some-read_count.ensures) in
    let value = subst (λ found. IfSome found (λ (r : Term × Bor (List ℕ)). c.in-Some-read_count.rest.now ≡ spelling (json r.0) ++ r.1.now)) c.in-Some-2.is c.in_ok-value.ensures.sound in
    let none = no_bytes c.in-Some-2.rest.now (sym c.is_empty.ensures ∙ c.if-not-is_empty.false) in
    row_read c.in-Some.key c.in-Some-2.value c.in_ok-id.id c.in-Some-read_text.id.now c.in-Some-read_count.place bytes c.in-Some.rest.now c.in-Some-read_text.rest.now c.in-Some-read_count.rest.now c.in-Some-2.rest.now key id.is place.1 value none c.in_ok-id.ensures

pub returns-clause-whole : goal.returns-clause-whole
returns-clause-whole c = λ row kept is.
    let key = read_is c.in_ok-key.field-0 c.in-Some.key c.in-Some.rest row.key (behind_key row) c.in-Some.is (c.in_ok-key.ensures.whole row.key (behind_key row) kept.key.valid (part_within (json row.key) kept.key) (sym is)) in
    let id = some-pair (c.in-Some-read_text.id.now, c.in-Some-read_text.rest.now) (row.id, behind_id row) (c.in-Some-read_text.ensures ∙ id_read row c.in-Some.rest.now kept key.1) in
    let place = some-pair (c.in-Some-read_count.place, c.in-Some-read_count.rest.now) (row.place, spelling (json row.value)) (c.in-Some-read_count.ensures ∙ place_read row c.in-Some-read_text.rest.now kept id.1) in
    let value = read_is c.in_ok-value.field-0 c.in-Some-2.value c.in-Some-2.rest row.value [] c.in-Some-2.is (c.in_ok-value.ensures.whole row.value [] kept.value.valid (part_within (json row.value) kept.value) (place.1 ∙ sym (append-nil (spelling (json row.value))))) in
    λ i. Some (record { key = key.0 i; id = (c.in_ok-id.ensures ∙ id.0) i; place = place.0 i; value = value.0 i })
