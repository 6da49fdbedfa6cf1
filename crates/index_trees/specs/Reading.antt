-- Reading the rows of a tree from what stands in a store. Over a tree it gives exactly the tree's rows. For specifications alone.
use Rattle.std.specs.Prelude.{ℕ, zero, suc, List, [], ◌∷◌, take, drop, bytes_eq, ◌==◌, if◌then◌else◌, Option, Some, None, option_map, option_and_then, unwrap_or}
use Rattle.std.specs.List.{flat_map}
use Rattle.json_terms.specs.Seen.{term}
use Rattle.json_terms.specs.declared.term.Row.{Row}
use Rattle.term_codec.specs.Reading.{count_in, reading, text_in, whole_in}
use Rattle.tree_laws.specs.declared.tree.Tree.{Tree}
use Rattle.tree_laws.specs.Stores.{Places}

-- what is made of a value at the front of bytes and of the bytes behind it, where one is found
unfoldable pub after : {A B : Type 0} → Option (A × List ℕ) → (A → List ℕ → Option B) → Option B
after None next = None
after (Some found) next = next found.0 found.1

-- the row whose bytes these are: its key, its id, its place and its value, and nothing behind
unfoldable pub item_in : List ℕ → Option Row
item_in bytes =
    after (reading 100 bytes) (λ key behind_key.
    after (text_in behind_key) (λ id behind_id.
    after (count_in behind_id) (λ place behind_place.
    after (reading 100 behind_place) (λ value behind.
    if bytes_eq behind [] then Some (record { key = term key; id = id; place = place; value = term value }) else None))))

-- bytes behind their length, as far as they go
abbrev pub sized_in : List ℕ → Option (List ℕ × List ℕ)
sized_in bytes = after (whole_in bytes) (λ size behind. Some (take size behind, drop size behind))

-- a row behind the length of its bytes
abbrev pub row_in : List ℕ → Option (Row × List ℕ)
row_in bytes = after (sized_in bytes) (λ own behind. option_map (λ row. (row, behind)) (item_in own))

-- the place of a child, with its count, its last item and its summary passed over
abbrev pub place_in : List ℕ → Option (ℕ × List ℕ)
place_in bytes =
    after (whole_in bytes) (λ place behind_place.
    after (whole_in behind_place) (λ count behind_count.
    after (sized_in behind_count) (λ last behind_last.
    after (sized_in behind_last) (λ sum behind. Some (place, behind)))))

-- by how an entry of a node is read
module _ {X : Type 0} (one : List ℕ → Option (X × List ℕ)) where
  -- so many entries, one behind another
  abbrev pub many_in : ℕ → List ℕ → Option (List X)
  many_in zero bytes = Some []
  many_in (suc count) bytes = after (one bytes) (λ x behind. option_map (λ xs. x ∷ xs) (many_in count behind))

  -- the entries of a node of this kind: behind its kind and their number
  abbrev pub entries_in : ℕ → List ℕ → Option (List X)
  entries_in kind (own ∷ count ∷ bytes) = if own == kind then many_in count bytes else None
  entries_in kind bytes = None

  -- those of the node at a place, or nothing where no such node stands
  abbrev pub entries_at : Places → ℕ → ℕ → List X
  entries_at there kind at = unwrap_or (option_and_then (entries_in kind) (there at)) []

-- the rows below a node of this level: those of a leaf at level 0, and those below each child further up
abbrev pub rows_below : Places → ℕ → ℕ → List Row
rows_below there zero at = entries_at row_in there 0 at
rows_below there (suc level) at = flat_map (rows_below there level) (entries_at place_in there 1 at)

-- those below a root, with so many levels
abbrev pub rows_of_height : Places → ℕ → ℕ → List Row
rows_of_height there zero root = []
rows_of_height there (suc level) root = rows_below there level root

-- the rows of a tree, whatever its summaries are
unfoldable pub rows_in : Places → Tree → List Row
rows_in there tree = rows_of_height there tree.height tree.root
