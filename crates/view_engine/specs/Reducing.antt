-- What the child that reduces is asked for, from one moment to another.
use Rattle.std.specs.Prelude.{◌⊎◌, ℕ, List}
use Rattle.view_ports.specs.Calls.{Call}
use Rattle.view_ports.specs.Faults.{Rose}
use Rattle.child_pool.specs.declared.pool_fault.PoolFault.{PoolFault}
use Rattle.child_pool.specs.Reductions.{HasReduced, IsReducingGivenUp}
use Rattle.view_engine.specs.Moments.{CalledReducing, Moment, children_at}

module _ (path : List ℕ) (reduces : List (List ℕ)) (before after : Moment) where
  abbrev pub AllHad : List Call → Type 0
  AllHad added = HasReduced path reduces before.width (Rose before.faults after.faults) (children_at before) (children_at after) added

  abbrev pub AreGivenUp : PoolFault → List Call → List Call → Type 0
  AreGivenUp f added now = IsReducingGivenUp path reduces before.width (Rose before.faults after.faults) (children_at before) (children_at after) f added now

  -- all values that were asked for were had
  abbrev pub Reduced : Type 0
  Reduced = CalledReducing path reduces before after (λ added now. AllHad added)

  -- or they were given up
  abbrev pub ReducedSomehow : Type 0
  ReducedSomehow = CalledReducing path reduces before after (λ added now. AllHad added ⊎ ((f : PoolFault) × AreGivenUp f added now))
