-- The paths of the query servers in the process.
use Rattle.std.specs.Prelude.{◌||◌, ℕ, List, Bool, bytes_eq, codes}

abbrev pub is_built_in : List ℕ → Bool
is_built_in path = bytes_eq path (codes "builtin:field") || bytes_eq path (codes "builtin:pick")
