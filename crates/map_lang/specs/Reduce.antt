-- The five reduces: of the values of rows, and of the results of parts.
use Rattle.std.specs.Prelude.{ℕ, ◌-◌, ◌^◌, min, List, [], ◌∷◌, length, sum_by, fold, pos, Option, Some, None, codes, bytes_eq, if◌then◌else◌}
use Rattle.std.specs.Ordering.{is_gt}
use Rattle.json_terms.specs.Json.{Json, number, is_null}
use Rattle.raw_collation.specs.Collation.{json_cmp}
use Rattle.map_lang.specs.declared.reduce.PickReduce.{PickReduce}
use Rattle.map_lang.specs.declared.reduce.PickReduce.TheVariants.{Rows, Min, Max, First, Last}

-- the one reduce that a source names
abbrev pub reduce_named : List ℕ → Option PickReduce
reduce_named source =
    if bytes_eq source (codes "rows") then Some Rows
    else (if bytes_eq source (codes "min") then Some Min
    else (if bytes_eq source (codes "max") then Some Max
    else (if bytes_eq source (codes "first") then Some First
    else (if bytes_eq source (codes "last") then Some Last else None))))

-- a count as a number of JSON, which ends at the greatest `i64`
abbrev pub count : ℕ → Json
count n = number (pos (min n (2 ^ 63 - 1)))

-- what a part's number of rows counts: a part that isn't a number of 0 or more counts 0
abbrev pub counted : Json → ℕ
counted (number (pos n)) = n
counted part = 0

-- the one that comes first in raw order
abbrev pub lesser : Json → Json → Json
lesser a b = if is_gt (json_cmp a b) then b else a

-- the one that comes last in raw order
abbrev pub greater : Json → Json → Json
greater a b = if is_gt (json_cmp b a) then b else a

abbrev pub least : List Json → Json
least [] = is_null
least (v ∷ vs) = fold lesser v vs

abbrev pub greatest : List Json → Json
greatest [] = is_null
greatest (v ∷ vs) = fold greater v vs

abbrev pub first : List Json → Json
first [] = is_null
first (v ∷ vs) = v

abbrev pub last : List Json → Json
last [] = is_null
last (v ∷ []) = v
last (v ∷ w ∷ vs) = last (w ∷ vs)

-- of the values of rows
abbrev pub reduce_of : PickReduce → List Json → Json
reduce_of Rows vs = count (length vs)
reduce_of Min vs = least vs
reduce_of Max vs = greatest vs
reduce_of First vs = first vs
reduce_of Last vs = last vs

-- of the results of parts
abbrev pub rereduce_of : PickReduce → List Json → Json
rereduce_of Rows vs = count (sum_by counted vs)
rereduce_of Min vs = least vs
rereduce_of Max vs = greatest vs
rereduce_of First vs = first vs
rereduce_of Last vs = last vs
