-- How lists are packed in nodes, and how many bytes the nodes of a packed tree take.
use Rattle.std.specs.Prelude.{◌≡◌, ◌==◌, ℕ, zero, suc, ◌+◌, ◌-◌, ◌/◌, ◌%◌, nat_le, nat_lt, if◌then◌else◌, List, [], ◌∷◌, ◌++◌, length, map, take, drop}
use Rattle.std.specs.List.{repeat, sum_by}
use Rattle.tree_laws.specs.Meaning.{Meaning, joined}

-- q nodes of 32, where r entries remain; too few of them take 8 of the last node's
abbrev pub fills_of : ℕ → ℕ → List ℕ
fills_of q r = if r == 0 then repeat q (32 ∷ []) else if nat_lt r 8 then repeat (q - 1) (32 ∷ []) ++ (24 ∷ (8 + r) ∷ []) else repeat q (32 ∷ []) ++ (r ∷ [])

-- how many entries each node takes of n
abbrev pub fills : ℕ → List ℕ
fills n = if nat_le n 32 then n ∷ [] else fills_of (n / 32) (n % 32)

-- the pieces are the list cut so
pub record IsPacked {X : Type 0} (pieces : List (List X)) (xs : List X) : Type 0 where
  pub whole : xs ≡ joined pieces
  pub cut : map length pieces ≡ fills (length xs)

-- a list in pieces of these lengths
abbrev pub cut_in : {X : Type 0} → List ℕ → List X → List (List X)
cut_in [] xs = []
cut_in (n ∷ ns) xs = take n xs ∷ cut_in ns (drop n xs)

-- ---- the packed length of a list: an entry is known by the items that stand in it, or below it

module _ {T S : Type 0} (spelled : T → List ℕ) (meaning : Meaning T S) where
  -- what the last of the items takes, with 8 bytes for its length
  abbrev pub last_size : List T → ℕ
  last_size [] = 0
  last_size (x ∷ []) = 8 + length (spelled x)
  last_size (x ∷ y ∷ items) = last_size (y ∷ items)

  -- an entry of a leaf is one item
  abbrev pub leaf_entry : List T → ℕ
  leaf_entry items = last_size items

  -- one of an inner node is a place and a number, in 8 bytes each, the last item and the value of all, with 8 bytes for its length
  abbrev pub inner_entry : List T → ℕ
  inner_entry items = 16 + last_size items + (8 + length (meaning.spelled (meaning.value items)))

  -- a node of such entries, with a byte for its kind, one for their number, and the 8 that a store takes for its length
  abbrev pub node_takes : (List T → ℕ) → List (List T) → ℕ
  node_takes entry parts = 10 + sum_by entry parts

  -- the entries are cut into nodes. Where these are more than one, the level above is made of them in the same way: so many levels at
  -- most
  abbrev pub levels_take : (List T → ℕ) → ℕ → List (List T) → ℕ
  levels_take entry zero parts = 0
  levels_take entry (suc most) parts =
      let nodes = cut_in (fills (length parts)) parts in
      sum_by (node_takes entry) nodes + (if nat_le (length nodes) 1 then 0 else levels_take inner_entry most (map joined nodes))

  -- how many bytes all nodes of the packed tree of these items take. There are no more levels than items, and of no items no node
  abbrev pub packed_size : List T → ℕ
  packed_size items = levels_take leaf_entry (length items) (map (λ x. x ∷ []) items)
