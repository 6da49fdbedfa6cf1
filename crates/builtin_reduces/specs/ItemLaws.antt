-- The order of items is total, and no two items have the same bytes.
use Rattle.std.proofs.Common.{◌≡◌, ◌++◌, ℕ, List, [], Some, refl, sym, ap, ◌∙◌, arith}
use Rattle.std.specs.Cmp.{IsTotalOrder}
use Rattle.std.proofs.lemmas.Cmp.{nat_cmp_total, nat_list_cmp_total, on_total, then_total}
use Rattle.std.proofs.lemmas.List.{append-nil}
use Rattle.json_terms.specs.Seen.{json}
use Rattle.json_terms.specs.declared.term.Row.{Row}
use Rattle.json_terms.proofs.Sames.{json_inj}
use Rattle.raw_collation.proofs.Totals.{json_cmp_total}
use Rattle.term_codec.specs.Spelling.{spelling, text_bytes, count_bytes}
use Rattle.term_codec.specs.Reading.{text_in, count_in}
use Rattle.term_codec.proofs.Words.{some-pair, count_in-spelled}
use Rattle.term_codec.proofs.Texts.{text_in-spelled}
use Rattle.term_codec.proofs.Spelled.{spelling-prefix_free}
use Rattle.tree_laws.specs.Spelled.{IsSpelledOnce}
use Rattle.builtin_reduces.specs.Kept.{IsKept, item_cmp, item_bytes}
use Rattle.builtin_reduces.specs.Sizes.{part_within}

pub item_cmp_total : IsTotalOrder item_cmp
item_cmp_total =
    then_total (on_total (λ (r : Row). json r.key) json_cmp_total)
    (then_total (on_total (λ (r : Row). r.id) nat_list_cmp_total)
    (on_total (λ (r : Row). r.place) nat_cmp_total))

-- what stands behind the id, and behind the key
abbrev pub behind_id : Row → List ℕ
behind_id row = count_bytes row.place ++ spelling (json row.value)

abbrev pub behind_key : Row → List ℕ
behind_key row = text_bytes row.id ++ behind_id row

pub id_read : (row : Row) (bytes : List ℕ) → IsKept row → bytes ≡ behind_key row → text_in bytes ≡ Some (row.id, behind_id row)
id_read row bytes kept is = ap text_in is ∙ text_in-spelled row.id (behind_id row) kept.utf8 (omega (arith, kept.short))

pub place_read : (row : Row) (bytes : List ℕ) → IsKept row → bytes ≡ behind_id row → count_in bytes ≡ Some (row.place, spelling (json row.value))
place_read row bytes kept is = ap count_in is ∙ count_in-spelled row.place (spelling (json row.value)) kept.place

pub items_spelled_once : IsSpelledOnce IsKept item_bytes
items_spelled_once x y kx ky same =
    let key = spelling-prefix_free (json x.key) (json y.key) (behind_key x) (behind_key y) kx.key.valid (part_within (json x.key) kx.key) ky.key.valid (part_within (json y.key) ky.key) same in
    let id = some-pair (x.id, behind_id x) (y.id, behind_id y) (sym (id_read x (behind_key y) kx (sym key.1)) ∙ id_read y (behind_key y) ky refl) in
    let place = some-pair (x.place, spelling (json x.value)) (y.place, spelling (json y.value)) (sym (place_read x (behind_id y) kx (sym id.1)) ∙ place_read y (behind_id y) ky refl) in
    let value = spelling-prefix_free (json x.value) (json y.value) [] [] kx.value.valid (part_within (json x.value) kx.value) ky.value.valid (part_within (json y.value) ky.value)
    (append-nil (spelling (json x.value)) ∙ place.1 ∙ sym (append-nil (spelling (json y.value)))) in
    let keys = json_inj x.key y.key key.0 in
    let vals = json_inj x.value y.value value.0 in
    λ i. record { key = keys i; id = id.0 i; place = place.0 i; value = vals i }
