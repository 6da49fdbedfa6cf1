-- What is counted over calls.
use Rattle.std.specs.Prelude.{ℕ, ◌+◌, ◌*◌, ◌^◌, ◌≤◌}

-- the reads never fall, and rise by two for each step at most
abbrev pub ReadsFor : ℕ → ℕ → ℕ → ℕ → Type 0
ReadsFor before now old new = (before ≤ now) × (now + 2 * old ≤ before + 2 * new)

-- what a node of 32 entries takes at most in a store, where no item is spelled in more bytes than this, and no summary in more than
-- 2^23: the numbers and lengths of an entry and its share of what goes before a piece are within 40
abbrev pub node_size : ℕ → ℕ
node_size longest = 32 * (longest + 2 ^ 23 + 40)
