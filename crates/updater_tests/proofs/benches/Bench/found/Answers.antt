-- The place that was answered is that of an open index.
use Rattle.std.proofs.Common.{rules, ⊎_elim}
use Rattle.updater_tests.proofs.benches.Bench.found.Goals as goal

pub index-index-requires : goal.index-index-requires
index-index-requires g c = ⊎_elim (λ opens. let it = opens.place in (it.0, it.1.there)) (λ want. let is = want.0 in let no : ⊥ = cc in absurd no) c.in_ok-place.ensures
