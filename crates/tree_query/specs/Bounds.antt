-- Where a bound between items leads.
use Rattle.std.specs.Prelude.{◌≡◌, ℕ, Bool, true, false, List, All}
use Rattle.tree_laws.specs.declared.node.Child.{Child}

-- The first child whose last item doesn't stand before the bound is picked, whatever the numbers of items.
pub record FirstNotBefore {T : Type 0} (before : T → Bool) (start : ℕ) (front : List (Child T)) (child : Child T) : Type 0 where
  pub passed : All (λ c. before c.last ≡ true) front
  pub stops : before child.last ≡ false
