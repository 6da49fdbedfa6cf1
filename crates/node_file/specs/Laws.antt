-- What laws say of nodes in the bytes of files.
use Rattle.std.specs.Prelude.{◌≡◌, ◌≤◌, ℕ, List, ◌++◌, Some, length}
use Rattle.gate_file.specs.Header.{data_start}
use Rattle.gate_file.specs.Shown.{HasAll}
use Rattle.tree_laws.specs.Nodes.{IsSized, sized}
use Rattle.tree_laws.specs.Stores.{Extends}
use Rattle.node_file.specs.Records.{node_at}

-- a record that was put behind what is there reads as it was put
abbrev pub PutNodesAreRead : Type 0
PutNodesAreRead = (front piece : List ℕ) → data_start ≤ length front → IsSized piece → node_at (front ++ sized piece) (length front) ≡ Some piece

-- each node stands in a longer file
abbrev pub NodesStayInLongerFiles : Type 0
NodesStayInLongerFiles = (bytes more : List ℕ) → Extends (node_at bytes) (node_at (bytes ++ more))

-- each node stands in a file that has all of the bytes behind the slots
abbrev pub NodesStayBehindRoots : Type 0
NodesStayBehindRoots = (bytes image : List ℕ) → HasAll bytes image → Extends (node_at bytes) (node_at image)
