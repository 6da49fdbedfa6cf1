-- What an index keeps.
use Rattle.std.specs.Prelude.{◌≡◌, ℕ, List, length}
use Rattle.json_terms.specs.declared.term.Row.{Row}
use Rattle.view_ports.specs.declared.file_name.Stem.{Stem}
use Rattle.gate_file.specs.declared.gate.GateFile.{GateFile}
use Rattle.gate_file.specs.GateFile.{name_of}
use Rattle.view_model.specs.Picture.{Picture}
use Rattle.index_trees.specs.declared.trees.IndexTrees.{IndexTrees}
use Rattle.tree_index.specs.declared.index.Index.{Index}
use Rattle.tree_index.specs.Trees.{seen}

abbrev pub file_of : Index → GateFile
file_of index = index.file

-- the files that it is of
abbrev pub stem_of : Index → Stem
stem_of index = (name_of (file_of index)).stem

-- the sequence of the last commit
abbrev pub seq_of : Index → ℕ
seq_of index = index.seq

-- the trees of the last commit, and those of the next
abbrev pub last_of : Index → IndexTrees
last_of index = index.last

abbrev pub next_of : Index → IndexTrees
next_of index = index.next

-- how many views there are
abbrev pub views_of : Index → ℕ
views_of index = length (last_of index).views.items

-- the sequence and the rows of the last commit, as far as the folder told them
abbrev pub picture_of : Index → Picture
picture_of index = record { seq = seq_of index; rows = index.shown.last }

-- the rows that the next commit makes
abbrev pub next_in : Index → List (List Row)
next_in index = index.shown.next

-- the last commit is the same, and so are the views and the name of the file
pub record IsSame (old new : Index) : Type 0 where
  pub picture : picture_of new ≡ picture_of old
  pub last : seen (last_of new) ≡ seen (last_of old)
  pub name : name_of (file_of new) ≡ name_of (file_of old)

-- and what the next commit makes
pub record GoesOn (old new : Index) : Type 0 where
  pub rows : next_in new ≡ next_in old
  pub trees : seen (next_of new) ≡ seen (next_of old)

-- nothing is exchanged since the last commit
pub record IsSettled (index : Index) : Type 0 where
  pub rows : next_in index ≡ (picture_of index).rows
  pub trees : seen (next_of index) ≡ seen (last_of index)
