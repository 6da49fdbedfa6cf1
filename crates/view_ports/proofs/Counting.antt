-- Causes of failures over several calls.
use Rattle.std.proofs.Common.{ℕ, ◌≤◌, Result, Ok, Err, arith}
use Rattle.view_ports.specs.Faults.{Rose, HasCause}

-- what rose over a part of the time rose over the whole
pub Rose-within : (before start stop now : ℕ) → before ≤ start → Rose start stop → stop ≤ now → Rose before now
Rose-within before start stop now first rose last = omega arith

pub Rose-earlier : (before start now : ℕ) → before ≤ start → Rose start now → Rose before now
Rose-earlier before start now first rose = omega arith

pub Rose-later : (before stop now : ℕ) → Rose before stop → stop ≤ now → Rose before now
Rose-later before stop now rose last = omega arith

-- a result that has its cause in the last part of the time
pub HasCause-earlier : {T E : Type 0} (before start now : ℕ) (result : Result T E) → before ≤ start → HasCause start now result → HasCause before now result
HasCause-earlier before start now (Ok value) first cause = record { later = omega (arith, cause.later); failed = tt }
HasCause-earlier before start now (Err fault) first cause =
    record { later = omega (arith, cause.later); failed = Rose-earlier before start now first cause.failed }

-- a result that has its cause in the first part of the time
pub HasCause-later : {T E : Type 0} (before stop now : ℕ) (result : Result T E) → HasCause before stop result → stop ≤ now → HasCause before now result
HasCause-later before stop now (Ok value) cause last = record { later = omega (arith, cause.later); failed = tt }
HasCause-later before stop now (Err fault) cause last =
    record { later = omega (arith, cause.later); failed = Rose-later before stop now cause.failed last }
