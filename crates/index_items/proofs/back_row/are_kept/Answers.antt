use Rattle.std.proofs.Common.{All, refl, subst, arith}
use Rattle.std.proofs.lemmas.List.{take_all}
use Rattle.std.proofs.lemmas.List.Elements.{All-more}
use Rattle.index_items.specs.BackRows.{IsKeptRow}
use Rattle.index_items.proofs.back_row.are_kept.Goals as goal

pub loop-row-preserved : goal.loop-row-preserved
loop-row-preserved c =
    All-more IsKeptRow c.args.rows.now c.loop-row.row-index c.row-item.result c.loop-row-test.true c.loop-row.invariant
    (subst IsKeptRow c.row-item.is (c.in_ok-is_kept.ensures.0 c.if-not-branch.false))

pub returns : goal.returns
returns c = (
  λ passes. record { few = omega (arith, c.if-rows.false); each = subst (All IsKeptRow) (take_all c.loop-row.row-index c.args.rows.now c.loop-row-test.false) c.loop-row.invariant },
  λ kept. refl,
)
