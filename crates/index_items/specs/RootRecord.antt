-- The root record of an index in bytes: a length, and behind it so many bytes with the sequence that the index stands at, how
-- many views it has, the tree of each view, and the tree of the back-index. The low byte of a number comes first.
use Rattle.std.specs.Prelude.{◌≡◌, ◌*◌, ◌<◌, ◌≤◌, ◌^◌, ℕ, List, ◌++◌, All, length}
use Rattle.std.specs.List.{flat_map}
use Rattle.term_codec.specs.Spelling.{count_bytes, whole_bytes, short_bytes}
use Rattle.tree_laws.specs.declared.tree.Tree.{Tree}
use Rattle.tree_laws.specs.Nodes.{sized}
use Rattle.tree_laws.specs.Trees.{IsTreeSize}

-- the place of the root, the height, and the number of items
abbrev pub tree_bytes : Tree → List ℕ
tree_bytes tree = whole_bytes tree.root ++ (count_bytes tree.height ++ whole_bytes tree.count)

-- what stands behind the length
abbrev pub body_bytes : ℕ → List Tree → Tree → List ℕ
body_bytes seq views back = whole_bytes seq ++ (short_bytes (length views) ++ (flat_map tree_bytes views ++ tree_bytes back))

abbrev pub root_bytes : ℕ → List Tree → Tree → List ℕ
root_bytes seq views back = sized (body_bytes seq views back)

-- each number of the tree fits its bytes
pub record IsTypedTree (tree : Tree) : Type 0 where
  pub root : tree.root < 2 ^ 64
  pub height : tree.height < 2 ^ 32
  pub count : tree.count < 2 ^ 64

-- the tree may stand before this offset of a file: its numbers are those of a tree, and each item takes 8 bytes at least
pub record IsFitTree (offset : ℕ) (tree : Tree) : Type 0 where
  pub size : IsTreeSize tree
  pub room : 8 * tree.count ≤ offset

-- what a root record at this offset may say of a tree
pub record IsTreeAt (offset : ℕ) (tree : Tree) : Type 0 where
  pub typed : IsTypedTree tree
  pub fit : IsFitTree offset tree

-- what a root record of so many views may say at this offset
pub record IsContent (count offset seq : ℕ) (views : List Tree) (back : Tree) : Type 0 where
  pub small : seq < 2 ^ 64
  pub number : length views ≡ count
  pub few : count < 2 ^ 16
  pub each : All (IsTreeAt offset) views
  pub back_fits : IsTreeAt offset back

-- behind the length stand these
pub record IsBodyOf (count offset : ℕ) (bytes : List ℕ) (seq : ℕ) (views : List Tree) (back : Tree) : Type 0 where
  pub content : IsContent count offset seq views back
  pub is : bytes ≡ body_bytes seq views back

-- the bytes at this offset are the root record of these
pub record IsRootOf (count offset : ℕ) (bytes : List ℕ) (seq : ℕ) (views : List Tree) (back : Tree) : Type 0 where
  pub content : IsContent count offset seq views back
  pub is : bytes ≡ root_bytes seq views back

-- and of no others
abbrev pub IsOneRoot : ℕ → ℕ → List ℕ → ℕ → List Tree → Tree → Type 0
IsOneRoot count offset bytes seq views back = (s : ℕ) (vs : List Tree) (b : Tree) → IsRootOf count offset bytes s vs b → (s ≡ seq) × (vs ≡ views) × (b ≡ back)

-- the bytes at this offset are the root record of none
abbrev pub IsNoRoot : ℕ → ℕ → List ℕ → Type 0
IsNoRoot count offset bytes = (seq : ℕ) (views : List Tree) (back : Tree) → IsRootOf count offset bytes seq views back → ⊥

-- what stands behind the length is that of none
abbrev pub IsNoBody : ℕ → ℕ → List ℕ → Type 0
IsNoBody count offset bytes = (seq : ℕ) (views : List Tree) (back : Tree) → IsBodyOf count offset bytes seq views back → ⊥
