-- What callers see of a store in memory.
use Rattle.std.specs.Prelude.{◌≡◌, ◌≤◌, ◌+◌, ◌^◌, ◌-◌, ◌⊎◌, ℕ, min, List, None, Bool, IsTrue, nat_eq, slice_get}
use Rattle.std.specs.List.{list_any}
use Rattle.tree_laws.specs.declared.memory.MemoryFault.{MemoryFault}
use Rattle.tree_laws.specs.declared.memory.MemoryFault.TheVariants as memory_fault
use Rattle.tree_laws.specs.Stores.{Extends, Growing, Places, pieces_size}

-- the nodes by their places, the numbers of the calls that fail, how many calls were made, how many of them were of `get`, and what
-- the calls were made with
pub record MemoryState : Type 0 where
  pub nodes : List (List ℕ)
  pub fail : List ℕ
  pub calls : ℕ
  pub reads : ℕ
  pub gets : List ℕ
  pub puts : List (List ℕ)

abbrev pub places : MemoryState → Places
places s = slice_get s.nodes

-- each node takes its bytes and 8 more
abbrev pub nodes_size : List (List ℕ) → ℕ
nodes_size nodes = pieces_size nodes

-- whether the call with this number is one of those that fail
abbrev pub is_listed : List ℕ → ℕ → Bool
is_listed fail call = list_any (λ number. nat_eq number call) fail

-- a count after one more: it stands still at the largest `u64`
abbrev pub next_count : ℕ → ℕ
next_count count = min (count + 1) (2 ^ 64 - 1)

-- what calls may do: the same calls fail, and what stands there stays
pub record Goes (old new : MemoryState) : Type 0 where
  pub fail : new.fail ≡ old.fail
  pub calls : old.calls ≤ new.calls
  pub kept : Extends (places old) (places new)
  pub grows : Growing old.puts new.puts (nodes_size old.nodes) (nodes_size new.nodes)

-- a call was made that is one of those that fail: it came at the old count or later, and the new one counts it
pub record CameListed (old new : MemoryState) : Type 0 where
  pub call : ℕ
  pub listed : IsTrue (is_listed old.fail call)
  pub later : old.calls ≤ call
  pub counted : next_count call ≤ new.calls

-- why a call failed
abbrev pub FailsBy : MemoryState → MemoryState → MemoryFault → Type 0
FailsBy old new memory_fault.Failed = CameListed old new
FailsBy old new (memory_fault.NoNode at) = places old at ≡ None
FailsBy old new memory_fault.NoMemory = Unit {0}

-- what stands there stays where a call fails too
pub record Fails (old new : MemoryState) (fault : MemoryFault) : Type 0 where
  pub goes : Goes old new
  pub cause : FailsBy old new fault

-- nothing stands at the place, or memory ran out
abbrev pub IsMissing : Places → ℕ → MemoryFault → Type 0
IsMissing there at fault = ((fault ≡ memory_fault.NoNode at) × (there at ≡ None)) ⊎ (fault ≡ memory_fault.NoMemory)
