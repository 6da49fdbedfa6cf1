use Rattle.std.proofs.Common.{ap, sym, ◌∙◌}
use Rattle.raw_collation.specs.Collation.{rows_cmp}
use Rattle.raw_collation.proofs.Totals.{rows_cmp_total}
use Rattle.raw_collation.proofs.Equals.{rows_cmp-equal, rows_cmp-refl}
use Rattle.raw_collation.proofs.laws.rows_are_ordered.Goals as goal

pub returns : goal.returns
returns c = record {
  total = rows_cmp_total;
  consistent = λ r s. (rows_cmp-equal r s, λ same. ap (rows_cmp r) (sym same) ∙ rows_cmp-refl r);
}
