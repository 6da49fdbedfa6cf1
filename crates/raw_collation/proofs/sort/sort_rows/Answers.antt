-- A sorted permutation of the rows is the one that inserting them gives.
use Rattle.std.proofs.Common.{rules}
use Rattle.std.specs.Ordering.{is_lt}
use Rattle.std.proofs.lemmas.List.Sorted.{ranks_by, answers_always}
use Rattle.raw_collation.specs.Collation.{rows_cmp}
use Rattle.raw_collation.proofs.Totals.{rows_cmp_total}
use Rattle.raw_collation.proofs.SortedRows.{sorted_rows-only}
use Rattle.raw_collation.proofs.sort.sort_rows.Goals as goal

pub returns : goal.returns
returns c =
    let sort = c.sort_unstable_by.ensures in
    sorted_rows-only _ _ sort.permutation
    (sort.sorted (λ r s. is_lt (rows_cmp r s)) (ranks_by rows_cmp_total (λ r. r))
    (answers_always _ _ _ (λ f a r g h. search rules)))
