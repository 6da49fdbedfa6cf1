-- The value at this place is compared with the best before it.
use Rattle.std.proofs.Common.{◌≡◌, ◌<◌, length, get_or, arith, sym, ap, ◌∙◌}
use Rattle.std.specs.Ordering.{is_gt}
use Rattle.raw_collation.specs.Collation.{json_cmp}
use Rattle.std.proofs.lemmas.List.{get_or_default}
use Rattle.map_lang.proofs.Parts.{greatest_takes, greatest_keeps}
use Rattle.map_lang.proofs.reduce.greatest_of.Goals as goal
use Rattle.map_lang.proofs.reduce.greatest_of.Goals.{then-is_gt, else-is_gt}

pub loop-place-preserved : goal.loop-place-preserved
loop-place-preserved g c =
    let xs = c.args.holders.now in
    let value = g.V.Valued.value_of in
    let i = c.loop-place.place in
    let before = c.loop-place.best in
    let inv = c.loop-place.invariant in
    let low : 0 < i = omega arith in
    let within : i < length xs = omega arith in
    let earlier : before < length xs = omega arith in
    let tested = λ (holder : g.row.V.Denot).
    let at_best : value c.index-holders-best.result ≡ value (get_or xs before holder) = ap value (c.index-holders-best.is ∙ get_or_default xs before _ holder earlier) in
    let at_place : value c.index-holders-place.result ≡ value (get_or xs i holder) = ap value (c.index-holders-place.is ∙ get_or_default xs i _ holder within) in
    let found : c.is_gt.result ≡ is_gt (json_cmp (value (get_or xs i holder)) (value (get_or xs before holder))) = cc in
    found in
    elim c.if-is_gt.branch [
      | then-is_gt w ↦ (omega arith, λ holder. rw w.best-is (greatest_takes value xs i holder _ low within (inv.1 holder) (sym (tested holder) ∙ w.if-is_gt.true)))
      | else-is_gt w ↦ (omega arith, λ holder. rw w.best-is (greatest_keeps value xs i holder _ low within (inv.1 holder) (sym (tested holder) ∙ w.if-is_gt.false)))
    ]
