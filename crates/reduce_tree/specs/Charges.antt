-- What is charged for the nodes that an edit gets and puts.
use Rattle.std.specs.Prelude.{ℕ, zero, suc, ◌-◌, ◌+◌, ◌*◌, ◌<◌, ◌≤◌, ◌==◌, ◌&&◌, ◌||◌, Bool, nat_le, if◌then◌else◌}

-- how far a row that isn't empty lies below a level
abbrev pub slack : ℕ → ℕ → ℕ → ℕ
slack top level zero = 0
slack top level (suc n) = top - level

-- a row of n entries is empty, or can be put as it is below the children of a level
abbrev pub ready : ℕ → ℕ → ℕ → Bool
ready low level n = (n == 0) || ((level == low) && nat_le 8 n)

-- the gets that are kept back for a row that can't be put yet: those down to its level, and one more
abbrev pub pending : ℕ → ℕ → ℕ → ℕ
pending low level n = if ready low level n then 0 else ((low + 1) - level)

-- the entries that the nodes of a row may lack, kept back while there is a row
abbrev pub rounding : ℕ → ℕ
rounding zero = 0
rounding (suc n) = 31

-- Of the items that come in, so many go out in a leaf again. For each of the others 8 bytes were put at least, and they were given
-- to a summer that was usable.
pub record ArePut (before now : ℕ) (Usable : Type 0) (come go : ℕ) : Type 0 where
  pub size : before + 8 * come ≤ now + 8 * go
  pub usable : go < come → Usable

-- What a call that gave up may have cost: 31 is charged for a step, and 93 for a put, of which a step gives back 62. The levels and
-- the rows are what is kept back for them.
pub record Spent (old new before now levels rows : ℕ) : Type 0 where
  pub steps : 31 * new ≤ 31 * old + levels
  pub puts : 93 * now + 62 * old ≤ 93 * before + (62 * new + rows)
