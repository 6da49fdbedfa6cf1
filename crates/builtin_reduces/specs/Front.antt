-- What was read from the front of bytes, and the bytes behind it. For private clauses.
use Rattle.std.specs.Prelude.{ℕ, List, Option, option_map}
use Rattle.std.specs.Borrow.{Bor}

-- what was read and the bytes behind it
abbrev pub read_of : {A : Type 0} → Option (A × Bor (List ℕ)) → Option (A × List ℕ)
read_of {A} found = option_map {U = A × List ℕ} (λ r. (r.0, r.1.now)) found
