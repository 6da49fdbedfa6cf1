-- The rows of trees in a file, as a folder tells them. For specifications alone.
use Rattle.std.specs.Prelude.{List, map}
use Rattle.json_terms.specs.declared.term.Row.{Row}
use Rattle.view_ports.specs.declared.file_name.FileName.{FileName}
use Rattle.view_ports.specs.declared.folder.Folder.{Ghosts as Folders}
use Rattle.tree_laws.specs.declared.tree.Tree.{Tree}
use Rattle.node_file.specs.Reads.{nodes_in}
use Rattle.reduce_tree.specs.Calls.{places}
use Rattle.index_trees.specs.Reading.{rows_in}

-- the rows of each tree, whatever its summaries are; where the folder tells nothing there are none
abbrev pub rows_told : {F : Type 0} → Folders F → F → FileName → List Tree → List (List Row)
rows_told f folder name trees = map (rows_in (places (nodes_in f name folder))) trees
