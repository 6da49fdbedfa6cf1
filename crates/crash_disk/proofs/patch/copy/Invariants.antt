use Rattle.std.proofs.Common.{◌≡◌, ◌⊎◌, ℕ, ◌<◌, ◌≤◌, length, get_or}
use Rattle.crash_disk.proofs.patch.copy.Given as goal

-- the places so far have what `from` has, and the others what they had
abbrev pub invariant-loop-place : goal.invariant-loop-place
invariant-loop-place l =
    (length l.image.items ≡ length l.initial.image.items)
    × ((place : ℕ) → l.start ≤ place → place < l.place → get_or l.image.items place 0 ≡ get_or l.from place 0)
    × ((place : ℕ) → (place < l.start) ⊎ (l.place ≤ place) → get_or l.image.items place 0 ≡ get_or l.initial.image.items place 0)
