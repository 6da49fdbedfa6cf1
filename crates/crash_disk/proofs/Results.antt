-- Clauses on results.
use Rattle.std.proofs.Common.{ℕ, Result, Ok, Err, OnErr}
use Rattle.view_ports.specs.Faults.{HasCause, Rose}

any_err : {T E : Type 0} (result : Result T E) (P : Type 0) → P → OnErr result P
any_err (Ok value) P holds = tt
any_err (Err error) P holds = holds

-- a cause of one result is a cause of every other
pub cause_of : {T U E F : Type 0} (before now : ℕ) (error : E) (result : Result U F) → HasCause {T = T} before now (Err error) → HasCause before now result
cause_of before now error result cause = record { later = cause.later; failed = any_err result (Rose before now) cause.failed }
