-- Pieces that are written one after another, of which the sink may fail in one.
use Rattle.std.proofs.Common.{◌∙◌, ◌++◌, ℕ, List, Option, Result, Ok, Err, OnErr, sym, ap, append_assoc, true≢false}
use Rattle.std.specs.Prelude.{◌≡◌, IsErr, IsErrAnd}
use Rattle.std.specs.Io.KnownBytes.{Appends}
use Rattle.std.proofs.KnownBytes.{Appends-trans}
use Rattle.line_loop.specs.Loops.{FailsIn}

pub on_err : {T E : Type 0} (result : Result T E) (P : Type 0) → P → OnErr result P
on_err (Ok value) P known = tt
on_err (Err error) P known = known

-- the sink failed in the first piece
pub in_front : (a b : Option (List ℕ)) (piece rest : List ℕ) → FailsIn a b piece → FailsIn a b (piece ++ rest)
in_front a b piece rest stopped =
    let left = (stopped.1).0 in
    (stopped.0, (left ++ rest, ap (λ (p : List ℕ). p ++ rest) (stopped.1).1 ∙ append_assoc stopped.0 left rest), stopped.2)

-- the sink failed behind the first piece
pub behind : (a b c : Option (List ℕ)) (piece rest : List ℕ) → Appends a b piece → FailsIn b c rest → FailsIn a c (piece ++ rest)
behind a b c piece rest wrote stopped =
    let part = stopped.0 in
    (piece ++ part, ((stopped.1).0, ap (λ (r : List ℕ). piece ++ r) (stopped.1).1 ∙ sym (append_assoc piece part (stopped.1).0)), Appends-trans a b c piece part wrote stopped.2)

-- a fault that is passed on
pub failed_as : {T E : Type 0} (result : Result T E) (fault : E) → IsErr result × IsErrAnd result (λ e. e ≡ fault) → result ≡ Err fault
failed_as (Ok value) fault is = absurd (true≢false (sym is.0))
failed_as (Err error) fault is = ap Err is.1
