-- The items of a range, and their value.
use Rattle.std.specs.Prelude.{◌≡◌, ◌≢◌, ℕ, Option, Some, None, List, [], All, map, take, drop}
use Rattle.tree_laws.specs.declared.summer.Summer.{Ghosts as Summers}
use Rattle.tree_laws.specs.Meaning.{joined}

-- the items with the numbers `from` to `to - 1`
abbrev pub numbered : {T : Type 0} → ℕ → ℕ → List T → List T
numbered from to items = drop from (take to items)

module _ {T M Sum Fault : Type 0} (m : Summers M T Sum Fault) (first : M) where
  -- values of the parts of some items, of which none is empty
  pub record Gathered (sums : List Sum) (items : List T) : Type 0 where
    pub parts : List (List T)
    pub whole : items ≡ joined parts
    pub some : All (λ part. part ≢ []) parts
    pub values : m.lawful first → sums ≡ map (m.meaning first).value parts

  -- the value of all items where the summer is lawful, and none where there are no items
  abbrev pub IsValue : List T → Option Sum → Type 0
  IsValue items None = items ≡ []
  IsValue items (Some sum) = (items ≢ []) × (m.lawful first → sum ≡ (m.meaning first).value items)
