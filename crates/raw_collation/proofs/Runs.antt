-- The keys of one group stand side by side: first elements keep the order of arrays.
use Rattle.std.specs.Prelude.{◌≡◌, ℕ, zero, suc, IsTrue, refl}
use Rattle.std.proofs.Common.{ap, sym, ◌∙◌, subst}
use Rattle.std.specs.declared.cmp.Ordering.{Ordering}
use Rattle.std.specs.declared.cmp.Ordering.TheVariants.{Less, Equal, Greater}
use Rattle.std.specs.Ordering.{is_le, ordering_then, ordering_reverse}
use Rattle.json_terms.specs.Json.{Json, number, is_false, is_null, is_true, object, array, string, Items, no_items, item}
use Rattle.raw_collation.specs.declared.group.Level.{Level}
use Rattle.raw_collation.specs.declared.group.Level.TheVariants.{All, First, Whole}
use Rattle.raw_collation.specs.Collation.{json_cmp, items_cmp}
use Rattle.raw_collation.specs.Groups.{first_items, by_first, group_of, AreRuns}
use Rattle.raw_collation.proofs.Totals.{json_cmp_total}
use Rattle.raw_collation.proofs.Equals.{json_cmp-equal, json_cmp-refl}

then_le : (o p q : Ordering) → IsTrue (is_le (ordering_then o p)) → (IsTrue (is_le p) → IsTrue (is_le q)) → IsTrue (is_le (ordering_then o q))
then_le Less p q h next = refl
then_le Equal p q h next = next h
then_le Greater p q h next = cc

first_items-le : (n : ℕ) (xs ys : Items) → IsTrue (is_le (items_cmp xs ys)) → IsTrue (is_le (items_cmp (first_items n xs) (first_items n ys)))
first_items-le zero xs ys h = refl
first_items-le (suc n) no_items no_items h = refl
first_items-le (suc n) no_items (item y ys) h = refl
first_items-le (suc n) (item x xs) no_items h = cc
first_items-le (suc n) (item x xs) (item y ys) h =
    then_le (json_cmp x y) (items_cmp xs ys) (items_cmp (first_items n xs) (first_items n ys)) h (first_items-le n xs ys)

-- an array stays an array, so the kinds that decide between two keys of different kinds stay
by_first-le : (n : ℕ) (x y : Json) → IsTrue (is_le (json_cmp x y)) → IsTrue (is_le (json_cmp (by_first n x) (by_first n y)))
by_first-le n (array xs) (array ys) h = first_items-le n xs ys h
by_first-le n x (array ys) h = h
by_first-le n x y h = h

group_of-le : (level : Level) (x y : Json) → IsTrue (is_le (json_cmp x y)) → IsTrue (is_le (json_cmp (group_of level x) (group_of level y)))
group_of-le All x y h = refl
group_of-le (First n) x y h = by_first-le n x y h
group_of-le Whole x y h = h

-- what is neither less nor greater is the same
between : (x y : Json) → IsTrue (is_le (json_cmp x y)) → IsTrue (is_le (json_cmp y x)) → x ≡ y
between x y below above =
    json_cmp-equal x y (by_both (json_cmp x y) (json_cmp y x) (json_cmp_total.antisymm x y) below above)
  where
    by_both : (o p : Ordering) → o ≡ ordering_reverse p → IsTrue (is_le o) → IsTrue (is_le p) → o ≡ Equal
    by_both Less Less back below above = cc
    by_both Less Equal back below above = cc
    by_both Less Greater back below above = cc
    by_both Equal p back below above = refl
    by_both Greater p back below above = cc

pub are_runs : (level : Level) → AreRuns level
are_runs level a b c below above same =
    let up = group_of-le level a b below in
    let down = subst (λ group. IsTrue (is_le (json_cmp (group_of level b) group))) (sym same) (group_of-le level b c above) in
    sym (between (group_of level a) (group_of level b) up down)
