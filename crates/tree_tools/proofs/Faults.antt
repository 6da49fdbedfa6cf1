-- What is so whatever a call answered is so where it answered a fault.
use Rattle.std.proofs.Common.{Result, Ok, Err, IfErr}

pub each_fault : {X F P : Type 0} (result : Result X F) → P → IfErr result (λ fault. P)
each_fault (Ok x) p = tt
each_fault (Err fault) p = p
