-- The rows of the items are added one by one.
use Rattle.std.proofs.Common.{◌≡◌, ◌<◌, ◌≤◌, ◌^◌, ◌∙◌, length, get_or, refl, ap, sym, arith}
use Rattle.json_terms.specs.Seen.{json}
use Rattle.builtin_reduces.proofs.Appended.{one_row_more}
use Rattle.builtin_reduces.proofs.ValueFits.{fits_with_row}
use Rattle.builtin_reduces.proofs.leaves.leaf_of_items.Goals as goal

pub loop-item-preserved : goal.loop-item-preserved
loop-item-preserved c =
    let rows = c.args.items.now in
    let i = c.loop-item.item-index in
    let row = c.item.inside.row in
    let below : i < length rows = omega arith in
    let few : length rows ≤ 2 ^ 63 = omega arith in
    let is : row ≡ get_or rows i row = c.item.view_is ∙ c.item-item.is ∙ ap (get_or rows i) (sym c.item.view_is) in
    let step = one_row_more c.args.kind rows i row c.loop-item.total _ c.in_ok-total.total below few is c.validity.ensures c.loop-item.invariant.total c.loop-item.invariant.terms refl c.in_ok-total.ensures.value in
    record {
      total = step.0;
      terms = step.1;
      fits = fits_with_row c.args.kind (json row.value) c.loop-item.total _ c.in_ok-total.total c.item.invariant.value refl c.in_ok-total.ensures.value c.loop-item.invariant.fits;
    }
