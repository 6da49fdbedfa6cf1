-- What callers see of a cache.
use Rattle.std.specs.Prelude.{◌≡◌, ℕ, List, ◌∷◌}
use Rattle.node_file.specs.declared.cache.NodeCache.{NodeCache}

-- how many nodes it keeps at most
abbrev pub capacity_of : NodeCache → ℕ
capacity_of cache = cache.capacity

-- the places that nodes were got from through it, the newest first
abbrev pub gets_of : NodeCache → List ℕ
gets_of cache = cache.log.gets

-- and the pieces that were put
abbrev pub puts_of : NodeCache → List (List ℕ)
puts_of cache = cache.log.puts

-- nothing was got or put
pub record NotesNone (old new : NodeCache) : Type 0 where
  pub capacity : capacity_of new ≡ capacity_of old
  pub gets : gets_of new ≡ gets_of old
  pub puts : puts_of new ≡ puts_of old

-- a node was asked for at this place
pub record NotesGet (at : ℕ) (old new : NodeCache) : Type 0 where
  pub capacity : capacity_of new ≡ capacity_of old
  pub gets : gets_of new ≡ at ∷ gets_of old
  pub puts : puts_of new ≡ puts_of old

-- this piece was put
pub record NotesPut (piece : List ℕ) (old new : NodeCache) : Type 0 where
  pub capacity : capacity_of new ≡ capacity_of old
  pub gets : gets_of new ≡ gets_of old
  pub puts : puts_of new ≡ piece ∷ puts_of old
