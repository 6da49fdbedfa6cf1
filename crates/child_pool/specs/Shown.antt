-- A received line, as a refusal shows it.
use Rattle.std.specs.Prelude.{ℕ, List, map, take, nat_le, ◌&&◌, if◌then◌else◌}

-- so many bytes at most are shown
abbrev pub shown_limit : ℕ
shown_limit = 1000

-- a printable byte of ASCII, or a question mark
abbrev pub shown_byte : ℕ → ℕ
shown_byte byte = if nat_le 32 byte && nat_le byte 126 then byte else 63

abbrev pub shown : List ℕ → List ℕ
shown line = map shown_byte (take shown_limit line)
