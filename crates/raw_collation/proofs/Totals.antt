-- The orders of terms and of rows are total.
use Rattle.std.specs.Prelude.{◌≡◌, []}
use Rattle.std.proofs.Common.{◌∙◌, subst}
use Rattle.std.specs.declared.cmp.Ordering.{Ordering}
use Rattle.std.specs.Ordering.{int_cmp}
use Rattle.std.specs.Cmp.{IsTotalOrder}
use Rattle.std.specs.Cmp.Lexicographic.{slice_cmp}
use Rattle.std.proofs.lemmas.Cmp.{nat_cmp_total, int_cmp_total, nat_list_cmp_total, lists_total, on_total, then_total}
use Rattle.json_terms.specs.Json.{Json}
use Rattle.json_terms.specs.Seen.{json}
use Rattle.json_terms.specs.declared.term.Row.{Row}
use Rattle.raw_collation.specs.Collation.{json_cmp, rows_cmp}
use Rattle.raw_collation.proofs.Spelled.{spell, slice_cmp-spell, ordering_then-Equal}

by_spelling : (x y : Json) → slice_cmp int_cmp (spell x []) (spell y []) ≡ json_cmp x y
by_spelling x y = slice_cmp-spell x y [] [] ∙ ordering_then-Equal (json_cmp x y)

pub json_cmp_total : IsTotalOrder json_cmp
json_cmp_total =
    let P : (Json → Json → Ordering) → Type 0 = λ cmp. IsTotalOrder cmp in
    subst P (λ i x y. by_spelling x y i) (on_total (λ x. spell x []) (lists_total int_cmp_total))

pub rows_cmp_total : IsTotalOrder rows_cmp
rows_cmp_total =
    then_total (on_total (λ (r : Row). json r.key) json_cmp_total)
    (then_total (on_total (λ (r : Row). r.id) nat_list_cmp_total)
    (then_total (on_total (λ (r : Row). r.place) nat_cmp_total)
    (on_total (λ (r : Row). json r.value) json_cmp_total)))
