-- How a function on the query servers ends.
use Rattle.std.specs.Prelude.{◌≡◌, ◌≢◌, ◌≤◌, ℕ, List, length, Bool, true, Result, Ok, Err}
use Rattle.view_ports.specs.declared.servers.Servers.{Ghosts as Servers}
use Rattle.view_ports.specs.Faults.{Rose, RoseBy}
use Rattle.child_pool.specs.declared.pool_fault.PoolFault.{PoolFault}
use Rattle.child_pool.specs.declared.pool_fault.PoolFault.TheVariants.{ServerFault, UnknownLanguage}

-- a stage that there is, which is the first where the child is fresh
abbrev pub IsStageOf : List (List ℕ) → ℕ → Bool → Type 0
IsStageOf sources stage fresh = (stage ≤ length sources) × (fresh ≡ true → stage ≡ 0)

module _ {C : Type 0} (s : Servers C) (old new : C) where
  -- a fault was counted
  abbrev pub HasRisen : Type 0
  HasRisen = Rose (s.faults old) (s.faults new)

  -- One attempt: the count of faults never falls, and it rose where a call failed. An attempt never fails twice, and knows no
  -- language.
  pub record EndsOnce {T : Type 0} (nothing : T) (result : Result T PoolFault) : Type 0 where
    pub later : s.faults old ≤ s.faults new
    pub failed : result ≡ Ok nothing → HasRisen
    pub no_fault : result ≢ Err ServerFault
    pub language : result ≢ Err UnknownLanguage

  -- The same of two attempts on each prompt: where both failed, two faults were counted.
  pub record EndsTwice {T : Type 0} (result : Result T PoolFault) : Type 0 where
    pub later : s.faults old ≤ s.faults new
    pub twice : result ≡ Err ServerFault → RoseBy 2 (s.faults old) (s.faults new)
    pub language : result ≢ Err UnknownLanguage
