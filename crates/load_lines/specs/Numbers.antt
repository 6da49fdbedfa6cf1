-- The numbers that a load is made from: a linear congruential generator modulo 2^31.
use Rattle.std.specs.Prelude.{ℕ, zero, suc, ◌+◌, ◌*◌, ◌/◌, ◌%◌, ◌^◌}

-- the number that comes behind this one
abbrev pub next_number : ℕ → ℕ
next_number x = (1103515245 * x + 12345) % 2 ^ 31

-- the number of document k, where `seed` stands before the first
unfoldable pub draw : ℕ → ℕ → ℕ
draw seed zero = seed
draw seed (suc k) = next_number (draw seed k)

-- its upper bits, which document k is made of
abbrev pub value : ℕ → ℕ → ℕ
value seed k = draw seed k / 65536
