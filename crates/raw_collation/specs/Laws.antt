-- The laws that sorting and searching rest on.
use Rattle.std.specs.Prelude.{◌≡◌, ◌↔◌, List, IsPermutation, IsSorted}
use Rattle.std.specs.declared.cmp.Ordering.{Ordering}
use Rattle.std.specs.declared.cmp.Ordering.TheVariants.{Equal}

-- the order answers `Equal` just where the two are one
abbrev pub IsConsistentWithEquality : {X : Type 0} → (X → X → Ordering) → Type 0
IsConsistentWithEquality {X} cmp = (x y : X) → (cmp x y ≡ Equal) ↔ (x ≡ y)

-- sort gives the elements of a list in order
abbrev pub Sorts : {X : Type 0} → (X → X → Ordering) → (List X → List X) → Type 0
Sorts {X} cmp sort = (xs : List X) → IsPermutation xs (sort xs) × IsSorted cmp (sort xs)

-- the elements of a list have no other order than the one that sort gives
abbrev pub IsOnlySorting : {X : Type 0} → (X → X → Ordering) → (List X → List X) → Type 0
IsOnlySorting {X} cmp sort = (xs ys : List X) → IsPermutation xs ys → IsSorted cmp ys → ys ≡ sort xs

-- the order in which the elements come makes no difference
abbrev pub IgnoresOrder : {X : Type 0} → (List X → List X) → Type 0
IgnoresOrder {X} sort = (xs ys : List X) → IsPermutation xs ys → sort xs ≡ sort ys
