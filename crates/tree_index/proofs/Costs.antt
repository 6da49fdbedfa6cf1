-- How much an exchange of the rows of documents takes.
use Rattle.std.proofs.Common.{◌≡◌, ◌≤◌, ◌+◌, ◌*◌, ℕ, List, Option, Some, Result, Ok, Err, OnOk, sym, ◌∙◌, subst}
use Rattle.std.specs.Prelude.{vec_len, IfOk}
use Rattle.view_ports.specs.Disk.{Disk}
use Rattle.view_ports.specs.Functions.{Functions}
use Rattle.view_ports.specs.declared.file_name.FileName.{FileName}
use Rattle.view_ports.specs.declared.folder.Folder.{Ghosts as Folders}
use Rattle.view_ports.specs.declared.servers.Servers.{Ghosts as Servers}
use Rattle.gate_file.specs.declared.fault.GateFault.{GateFault}
use Rattle.gate_file.specs.declared.gate.GateFile.{GateFile}
use Rattle.gate_file.specs.GateFile.{name_of, start_of}
use Rattle.tree_laws.specs.declared.tree.TreeFault.{TreeFault}
use Rattle.tree_laws.specs.Stores.{Places}
use Rattle.node_file.specs.declared.file_nodes.FileNodes.{FileNodes}
use Rattle.node_file.specs.Records.{node_at}
use Rattle.reduce_tree.specs.Counts.{node_size}
use Rattle.view_model.specs.Picture.{Picture}
use Rattle.child_pool.specs.declared.pool_fault.PoolFault.{PoolFault}
use Rattle.child_pool.specs.declared.summers.Summers.{Summers}
use Rattle.row_exchange.specs.declared.doc_rows.DocRows.{DocRows}
use Rattle.index_trees.specs.declared.trees.IndexTrees.{IndexTrees}
use Rattle.index_trees.specs.Edits.{edit_count, insert_count}
use Rattle.index_trees.specs.Exchanges.{AreWithin, Exchanges, MostBytes, IsOver as TreesOver}
use Rattle.index_trees.specs.Trees.{AreLow}
use Rattle.tree_index.specs.declared.index.Index.{Index}
use Rattle.tree_index.specs.InFile.{in_file}
use Rattle.tree_index.specs.Index.{file_of, next_in, next_of, views_of}
use Rattle.tree_index.specs.Replaces.{BytesWithin, IsOver, TakesSteps}
use Rattle.tree_index.proofs.Answering.{answered, told_as}
use Rattle.tree_index.proofs.Replacing.{trees_over, IsReplaced, MakesNext}

-- as many views as there are trees
pub number_of_views : (index : Index) → views_of index ≡ vec_len (next_of index).views
number_of_views index = sym index.same ∙ sym (next_of index).views.ok.0

module _ {F C : Type 0} (f : Folders F) (s : Servers C) (changes : List DocRows) (index index' : Index) (a b : FileNodes F) (summers summers' : Summers C) (before now : ℕ)
    (found : Result IndexTrees (TreeFault GateFault PoolFault)) (x : Exchanges (in_file f) s (next_of index) changes a b summers summers' before now found)
    (file_is : a.file.now ≡ file_of index) (file_now : b.file.now ≡ file_of index') (is : IsReplaced changes index index' found) where
  abbrev Over : Option Functions → Option Picture → Disk FileName → Type 0
  Over functions picture d = IsOver f s changes index index' a.folder.now b.folder.now summers summers' functions picture d

  -- a fact of the new trees is one of those of the next commit
  low_after : (h : ℕ) (P : Type 0) (q : Result IndexTrees (TreeFault GateFault PoolFault)) → MakesNext changes index index' q → IfOk q (λ after. AreLow h after → P) → AreLow h (next_of index') → OnOk (answered (name_of (file_of index)) q) P
  low_after h P (Ok after) next on low = on (subst (AreLow h) next.0 low)
  low_after h P (Err fault) next on low = tt

  -- two of them are both
  both_low : (h : ℕ) (P Q : Type 0) (q : Result IndexTrees (TreeFault GateFault PoolFault)) → IfOk q (λ after. AreLow h after → P) → IfOk q (λ after. AreLow h after → Q) → IfOk q (λ after. AreLow h after → P × Q)
  both_low h P Q (Ok after) first second = λ low. (first low, second low)
  both_low h P Q (Err fault) first second = tt

  most_bytes_within : (longest h : ℕ) → MostBytes (in_file f) s (next_of index) changes a b summers summers' before now longest h (next_in index)
      → BytesWithin f s changes index index' a.folder.now b.folder.now summers summers' longest h
  most_bytes_within longest h most =
      let more = (edit_count changes (next_in index) * (4 * (h + 1))) * node_size longest in
      subst (λ (g : GateFile). start_of g ≤ start_of (file_of index) + more) file_now (subst (λ (g : GateFile). start_of b.file.now ≤ start_of g + more) file_is most)

  within_trees : (h : ℕ) → AreWithin h (insert_count changes (views_of index)) (next_of index) → AreWithin h (insert_count changes (vec_len (next_of index).views)) (next_of index)
  within_trees h within = subst (λ n. AreWithin h (insert_count changes n) (next_of index)) (number_of_views index) within

  -- what stands in the file of an index at a picture
  abbrev there : Disk FileName → Places
  there d = node_at (d.now (name_of (file_of index))).seen

  over_trees : (functions : Option Functions) (picture : Option Picture) (d : Disk FileName) → f.disk a.folder.now ≡ Some d → Over functions picture d
      → TreesOver (in_file f) s (next_of index) changes a b summers summers' before now functions (there d) (next_in index)
  over_trees = trees_over f s changes index index' a b summers summers' before now found x file_is file_now is

  pub costs : TakesSteps f s changes index index' a.folder.now b.folder.now summers summers' a.cache.now b.cache.now before now (answered (name_of (file_of index)) found)
  costs = record {
    reads = x.reads;
    steps = λ functions picture h low low'.
        told_as (f.disk a.folder.now) _
        (λ d told over.
        let trees = over_trees functions picture d told over in
        low_after h _ found is.next (both_low h _ _ found (x.steps functions (there d) (next_in index) h trees low) (x.puts functions (there d) (next_in index) h trees low)) low');
    most_steps = λ functions picture h within.
        told_as (f.disk a.folder.now) _
        (λ d told over.
        let trees = over_trees functions picture d told over in
        (x.most_steps functions (there d) (next_in index) h trees (within_trees h within), x.most_puts functions (there d) (next_in index) h trees (within_trees h within)));
    pieces = λ functions picture longest short.
        told_as (f.disk a.folder.now) _
        (λ d told over. x.pieces functions (there d) (next_in index) longest (over_trees functions picture d told over) short.0 short.1);
    bytes = λ functions picture longest h short low low'.
        told_as (f.disk a.folder.now) _
        (λ d told over.
        low_after h _ found is.next
        (bytes_of longest h found (x.bytes functions (there d) (next_in index) longest h (over_trees functions picture d told over) short.0 short.1 low)) low');
    most_bytes = λ functions picture longest h short within.
        told_as (f.disk a.folder.now) _
        (λ d told over. most_bytes_within longest h (x.most_bytes functions (there d) (next_in index) longest h (over_trees functions picture d told over) short.0 short.1 (within_trees h within)));
  }
    where
      bytes_of : (longest h : ℕ) (q : Result IndexTrees (TreeFault GateFault PoolFault)) → IfOk q (λ after. AreLow h after → MostBytes (in_file f) s (next_of index) changes a b summers summers' before now longest h (next_in index))
          → IfOk q (λ after. AreLow h after → BytesWithin f s changes index index' a.folder.now b.folder.now summers summers' longest h)
      bytes_of longest h (Ok after) on = λ low. most_bytes_within longest h (on low)
      bytes_of longest h (Err fault) on = tt
