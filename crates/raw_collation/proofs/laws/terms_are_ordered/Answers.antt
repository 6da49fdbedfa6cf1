use Rattle.std.proofs.Common.{ap, sym, ◌∙◌}
use Rattle.json_terms.specs.Seen.{json}
use Rattle.raw_collation.specs.Collation.{json_cmp}
use Rattle.raw_collation.proofs.Totals.{json_cmp_total}
use Rattle.json_terms.proofs.Sames.{json_inj}
use Rattle.raw_collation.proofs.Equals.{json_cmp-equal, json_cmp-refl}
use Rattle.raw_collation.proofs.laws.terms_are_ordered.Goals as goal

pub returns : goal.returns
returns c = record {
  total = json_cmp_total;
  consistent = λ x y. (json_cmp-equal x y, λ same. ap (json_cmp x) (sym same) ∙ json_cmp-refl x);
  one_to_one = λ t u. (json_inj t u, ap json);
}
