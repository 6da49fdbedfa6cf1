-- The history up to a write, and the writes since.
use Rattle.std.specs.Prelude.{ℕ, List, [], ◌∷◌, Bool, nat_lt, length, bytes_eq, if◌then◌else◌}
use Rattle.std.specs.List.{filter_map, list_any}
use Rattle.json_terms.specs.Json.{Json}
use Rattle.design_docs.specs.History.{Write, mapped_by}

-- the first `count` writes, or all where there are no more
abbrev pub first : ℕ → List Write → List Write
first count [] = []
first count (write ∷ older) = if nat_lt count (length (write ∷ older)) then first count older else write ∷ older

-- one of these writes is of the id
abbrev pub is_among : List (ℕ × Write) → List ℕ → Bool
is_among changes id = list_any (λ change. bytes_eq id (change.1).id) changes

-- what these writes leave to be mapped, in their order
abbrev pub mapped_of : List (ℕ × Write) → List (List ℕ × Json)
mapped_of changes = filter_map (λ change. mapped_by change.1) changes
