-- Counts of faults: the only cause for which a port may answer that it failed.
use Rattle.std.specs.Prelude.{◌≡◌, ◌≢◌, ℕ, ◌+◌, ◌-◌, ◌^◌, ◌≤◌, min, Result, Err, IfErr, OnOk, OnErr}

-- a count after one more: it stands still at the largest `u64`
abbrev pub next_count : ℕ → ℕ
next_count count = min (count + 1) (2 ^ 64 - 1)

-- the count rose by one or more, or stands at the largest `u64`
abbrev pub Rose : ℕ → ℕ → Type 0
Rose before now = next_count before ≤ now

-- the count of faults never falls, and a call fails only where it rose
pub record HasCause {T E : Type 0} (before now : ℕ) (result : Result T E) : Type 0 where
  pub later : before ≤ now
  pub failed : OnErr result (Rose before now)

-- the count rose by so many or more, or stands at the largest `u64`
abbrev pub RoseBy : ℕ → ℕ → ℕ → Type 0
RoseBy more before now = min (before + more) (2 ^ 64 - 1) ≤ now

-- the same of one among several faults: only this one says that the count rose
pub record HasCauseOf {T E : Type 0} (fault : E) (before now : ℕ) (result : Result T E) : Type 0 where
  pub later : before ≤ now
  pub failed : result ≡ Err fault → Rose before now

-- one refusal is the fault that is counted: it comes only where the count rose, and no other answer lets the count rise
pub record CountsFor {T E : Type 0} (fault : E) (before now : ℕ) (result : Result T E) : Type 0 where
  pub later : before ≤ now
  pub failed : IfErr result (λ error. error ≡ fault → Rose before now)
  pub still : result ≢ Err fault → now ≡ before

-- a call that succeeds counts no fault, and one that fails counts one at most
pub record CountsOnce {T E : Type 0} (before now : ℕ) (result : Result T E) : Type 0 where
  pub still : OnOk result (now ≡ before)
  pub once : now ≤ before + 1

-- the same of one among several faults: only this one is counted
pub record CountsOnly {T E : Type 0} (fault : E) (before now : ℕ) (result : Result T E) : Type 0 where
  pub still : result ≢ Err fault → now ≡ before
  pub once : now ≤ before + 1
