-- What a call on the query servers tells of the calls so far.
use Rattle.std.specs.Prelude.{ℕ, List, ◌∷◌, Option, Some, None, Result, Ok, Err, Vec}
use Rattle.std.specs.declared.alloc.Global.{Global}
use Rattle.view_ports.specs.Calls.{Call}

-- Whatever the calls before may have been, the calls now may be those and this one.
abbrev pub Goes : (List Call → Type 0) → (List Call → Type 0) → Call → Type 0
Goes before now call = (calls : List Call) → before calls → now (call ∷ calls)

-- the line that was received, or none
abbrev pub line_of : {E : Type 0} → Result (Vec ℕ Global) E → Option (List ℕ)
line_of (Ok line) = Some line.items
line_of (Err fault) = None
