use Rattle.raw_collation.proofs.SortedRows.{sorted_rows_permutes, sorted_rows_is_sorted, sorted_rows-only, sorted_rows-permutation}
use Rattle.raw_collation.proofs.laws.rows_sort_in_one_way.Goals as goal

pub returns : goal.returns
returns c = record {
  sorts = λ rows. (sorted_rows_permutes rows, sorted_rows_is_sorted rows);
  only = sorted_rows-only;
  any_order = sorted_rows-permutation;
}
