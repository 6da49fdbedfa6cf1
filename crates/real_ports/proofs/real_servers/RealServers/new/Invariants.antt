use Rattle.std.proofs.Common.{◌≡◌, ℕ, false, is_some, None, get_or, vec_len}
use Rattle.real_ports.proofs.real_servers.RealServers.new.Given as goal

-- one place was made for each slot so far, with no child in it
abbrev pub invariant-loop-slot : goal.invariant-loop-slot
invariant-loop-slot l = (vec_len l.children ≡ l._slot) × ((k : ℕ) → is_some (get_or l.children.items k None) ≡ false)
