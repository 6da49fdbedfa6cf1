-- The path of a design's language, and the functions by which its query servers answer where it is honest.
use Rattle.std.specs.Prelude.{◌≡◌, ℕ, List, Option, Some, None}
use Rattle.view_ports.specs.Calls.{Call}
use Rattle.view_ports.specs.Functions.{Functions}
use Rattle.view_ports.specs.declared.servers.Servers.{Ghosts as Servers}
use Rattle.design_docs.specs.declared.design.Design.{Design}
use Rattle.child_pool.specs.declared.pool.Pool.{Pool}
use Rattle.child_pool.specs.PoolCalls.{path_for}
use Rattle.child_pool.specs.Pools.{HasItsChildren}

module _ {C : Type 0} (s : Servers C) (servers : C) (pool : Pool) (design : Design) where
  -- the design's language has this path, and the pool its children, by calls that may have been made
  pub record IsPathOf (path : List ℕ) : Type 0 where
    pub known : path_for pool design ≡ Some path
    pub calls : List Call
    pub follows : s.may_follow servers calls
    pub children : HasItsChildren pool calls

  -- so it is by the functions of that path, where it is honest
  abbrev pub OnHonest : (Functions → Type 0) → Type 0
  OnHonest P = (path : List ℕ) → IsPathOf path → s.honest path → P (s.functions path)

  -- the functions, where they are known, are those of that path, and it is honest
  abbrev pub AreFunctionsBy : Option Functions → Type 0
  AreFunctionsBy None = Unit {0}
  AreFunctionsBy (Some functions) = (path : List ℕ) × IsPathOf path × s.honest path × (s.functions path ≡ functions)
