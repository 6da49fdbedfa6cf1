-- so many slots, and no child in any
use Rattle.std.proofs.Common.{◌≡◌, ◌<◌, ℕ, None, get_or, vec_len}
use Rattle.view_ports.proofs.in_process.InProcess.new.Given as goal

abbrev pub invariant-loop-slot : goal.invariant-loop-slot
invariant-loop-slot g l = (vec_len l.children ≡ l._slot) × ((k : ℕ) → k < l._slot → get_or l.children.items k None ≡ None)
