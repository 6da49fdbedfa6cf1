-- Lists in order, and the rows of a view in raw order.
use Rattle.std.specs.Prelude.{List, [], ◌∷◌, if◌then◌else◌}
use Rattle.std.specs.declared.cmp.Ordering.{Ordering}
use Rattle.std.specs.Ordering.{is_lt}
use Rattle.json_terms.specs.declared.term.Row.{Row}
use Rattle.raw_collation.specs.Collation.{rows_cmp}

-- x goes before the first element that is greater, and at the end where none is
abbrev pub insert_by : {X : Type 0} → (X → X → Ordering) → X → List X → List X
insert_by cmp x [] = x ∷ []
insert_by cmp x (y ∷ ys) = if is_lt (cmp x y) then x ∷ y ∷ ys else y ∷ insert_by cmp x ys

-- the elements, inserted one after another into the empty list, the last of them first
abbrev pub sorted_by : {X : Type 0} → (X → X → Ordering) → List X → List X
sorted_by cmp [] = []
sorted_by cmp (x ∷ xs) = insert_by cmp x (sorted_by cmp xs)

abbrev pub insert_row : Row → List Row → List Row
insert_row = insert_by rows_cmp

abbrev pub sorted_rows : List Row → List Row
sorted_rows = sorted_by rows_cmp
