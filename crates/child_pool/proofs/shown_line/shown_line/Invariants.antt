-- the bytes so far are shown
use Rattle.std.proofs.Common.{◌≡◌, map, take, string_bytes}
use Rattle.child_pool.specs.Shown.{shown_byte}
use Rattle.child_pool.proofs.shown_line.shown_line.Given as goal

abbrev pub invariant-loop-byte : goal.invariant-loop-byte
invariant-loop-byte l = string_bytes l.text ≡ map shown_byte (take l.byte-index l.byte-items)
