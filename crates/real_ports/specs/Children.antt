-- Query servers that are child processes: what they tell, and which slots have a child.
use Rattle.std.specs.Prelude.{◌≡◌, ◌≢◌, ℕ, List, Bool, None, is_some, Result, is_ok, slice_index_or}
use Rattle.view_ports.specs.Calls.{Call}
use Rattle.real_ports.specs.declared.real_servers.RealServers.{RealServers}

-- nothing is told: whatever the calls were, anything may come of them
abbrev pub Anything : List Call → Type 0
Anything calls = Unit {0}

-- whether there is a child in the slot
abbrev pub has_child : RealServers → ℕ → Bool
has_child servers slot = is_some (slice_index_or servers.children.items slot None)

-- the other slots have the children that they had, as they were
abbrev pub SameElsewhere : ℕ → RealServers → RealServers → Type 0
SameElsewhere slot old new = (other : ℕ) → other ≢ slot → slice_index_or new.children.items other None ≡ slice_index_or old.children.items other None

-- A call leaves a child in the slot exactly where it succeeds.
pub record LeavesChild {T E : Type 0} (slot : ℕ) (old new : RealServers) (result : Result T E) : Type 0 where
  pub here : has_child new slot ≡ is_ok result
  pub elsewhere : SameElsewhere slot old new
