-- Causes of the faults of a call that can be refused for other reasons too.
use Rattle.std.specs.Prelude.{ℕ, ◌+◌, ◌≤◌, max, Result, IfErr}
use Rattle.view_ports.specs.Faults.{Rose, next_count}

-- the count of faults never falls, and a refusal that is a fault comes only where it rose
pub record HasCauseIf {T E : Type 0} (IsFault : E → Type 0) (before now : ℕ) (result : Result T E) : Type 0 where
  pub later : before ≤ now
  pub failed : IfErr result (λ error. IsFault error → Rose before now)

-- a number of calls after one more: it never falls, and no longer rises once it is the largest `u64`
abbrev pub one_more : ℕ → ℕ
one_more count = max count (next_count count)

-- a number that never falls rose by so much at most
pub record RisesBy (most before now : ℕ) : Type 0 where
  pub later : before ≤ now
  pub within : now ≤ before + most
