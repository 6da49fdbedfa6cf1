-- Rows have one sorted order.
use Rattle.std.specs.Prelude.{◌≡◌, List, [], ◌∷◌, ◌++◌, IsPermutation, IsSorted}
use Rattle.json_terms.specs.declared.term.Row.{Row}
use Rattle.raw_collation.specs.Collation.{rows_cmp}
use Rattle.raw_collation.specs.Sorting.{insert_row, sorted_rows}
use Rattle.raw_collation.proofs.Totals.{rows_cmp_total}
use Rattle.raw_collation.proofs.Equals.{rows_cmp-equal}
use Rattle.raw_collation.proofs.Sorted.{insert_by-commute, sorted_by-permutation, sorted_by-push, sorted_by-sorted, sorted_by-only, insert_by_keeps_sorted, sorted_by_is_sorted, insert_by_permutes, sorted_by_permutes}

-- two rows may be inserted in either order
pub insert_row-commute : (r s : Row) (rows : List Row) → insert_row r (insert_row s rows) ≡ insert_row s (insert_row r rows)
insert_row-commute = insert_by-commute rows_cmp rows_cmp_total rows_cmp-equal

pub insert_row_keeps_sorted : (row : Row) (rows : List Row) → IsSorted rows_cmp rows → IsSorted rows_cmp (insert_row row rows)
insert_row_keeps_sorted = insert_by_keeps_sorted rows_cmp rows_cmp_total rows_cmp-equal

pub insert_row_permutes : (row : Row) (rows : List Row) → IsPermutation (row ∷ rows) (insert_row row rows)
insert_row_permutes = insert_by_permutes rows_cmp rows_cmp_total rows_cmp-equal

pub sorted_rows_is_sorted : (rows : List Row) → IsSorted rows_cmp (sorted_rows rows)
sorted_rows_is_sorted = sorted_by_is_sorted rows_cmp rows_cmp_total rows_cmp-equal

pub sorted_rows_permutes : (rows : List Row) → IsPermutation rows (sorted_rows rows)
sorted_rows_permutes = sorted_by_permutes rows_cmp rows_cmp_total rows_cmp-equal

-- the order in which rows come makes no difference
pub sorted_rows-permutation : (xs ys : List Row) → IsPermutation xs ys → sorted_rows xs ≡ sorted_rows ys
sorted_rows-permutation = sorted_by-permutation rows_cmp rows_cmp_total rows_cmp-equal

pub sorted_rows-push : (rows : List Row) (row : Row) → sorted_rows (rows ++ row ∷ []) ≡ insert_row row (sorted_rows rows)
sorted_rows-push = sorted_by-push rows_cmp rows_cmp_total rows_cmp-equal

-- rows in order stay as they are
pub sorted_rows-sorted : (rows : List Row) → IsSorted rows_cmp rows → sorted_rows rows ≡ rows
sorted_rows-sorted = sorted_by-sorted rows_cmp rows_cmp_total rows_cmp-equal

-- whatever puts rows in order gives this list
pub sorted_rows-only : (xs ys : List Row) → IsPermutation xs ys → IsSorted rows_cmp ys → ys ≡ sorted_rows xs
sorted_rows-only = sorted_by-only rows_cmp rows_cmp_total rows_cmp-equal
