-- An index that was rolled back to its last commit.
use Rattle.std.proofs.Common.{◌≡◌, ◌≢◌, ◌*◌, ◌≤◌, ℕ, List, [], Option, ap, sym, ◌∙◌, subst}
use Rattle.json_terms.specs.declared.term.Row.{Row}
use Rattle.view_ports.specs.File.{File, settled}
use Rattle.view_ports.specs.Functions.{Functions}
use Rattle.view_ports.specs.declared.file_name.FileName.{FileName}
use Rattle.gate_file.specs.declared.gate.GateFile.{GateFile}
use Rattle.gate_file.specs.GateFile.{commits_in, commits_of, name_of, root_of, start_of, Keeps}
use Rattle.gate_file.specs.Pair.{own_bytes}
use Rattle.design_docs.specs.declared.design.View.{View}
use Rattle.tree_laws.specs.declared.tree.Tree.{Tree}
use Rattle.node_file.specs.Records.{node_at}
use Rattle.view_model.specs.Picture.{Picture}
use Rattle.index_trees.specs.declared.trees.IndexTrees.{IndexTrees}
use Rattle.index_trees.specs.Trees.{HaveRoom, HoldTrees}
use Rattle.tree_index.specs.declared.index.Index.{Index}
use Rattle.tree_index.specs.Calls.{said_of, HasTrees, IsAt, IsOpen}
use Rattle.tree_index.specs.Held.{HoldsPicture, IsFileOf, Said, Says}
use Rattle.tree_index.specs.Index.{file_of, last_of, next_in, next_of, picture_of, stem_of, views_of}
use Rattle.tree_index.specs.Trees.{seen}
use Rattle.tree_index.proofs.Rooms.{each_seen}
use Rattle.tree_index.proofs.Sizes.{same_number}
use Rattle.tree_updater.specs.Sides.{IsRolledBack as IsBack}

module _ (index now : Index) (back : IsBack index now) where
  pub stem_back : stem_of now ≡ stem_of index
  stem_back = ap (λ (n : FileName). n.stem) back.same.name

  pub views_back : views_of now ≡ views_of index
  views_back = same_number (last_of index) (last_of now) back.same.last

  next_back : seen (next_of now) ≡ seen (last_of index)
  next_back = back.settled.trees ∙ back.same.last

  room_back : (trees : IndexTrees) → seen trees ≡ seen (last_of index) → HaveRoom (start_of (file_of index)) (last_of index) → HaveRoom (start_of (file_of now)) trees
  room_back trees are room =
      subst (λ (g : GateFile). HaveRoom (start_of g) trees) (sym back.file) (each_seen (λ tree. 8 * tree.count ≤ start_of (file_of index)) (last_of index) trees are room)

  -- it stands where it stood
  said_back : said_of now ≡ said_of index
  said_back = λ i. record {
    seq = ap (λ (p : Picture). p.seq) back.same.picture i;
    views = ap (λ (t : List Tree × Tree). t.0) back.same.last i;
    back = ap (λ (t : List Tree × Tree). t.1) back.same.last i;
  }

  module _ (files : FileName → File) where
    pub open_back : IsOpen index files → IsOpen now files
    open_back is_open = record {
      keeps = subst (λ (g : GateFile). Keeps g (files (name_of g))) (sym back.file) is_open.keeps;
      other = subst (λ (g : GateFile). (name : FileName) → IsFileOf (name_of g).stem name → name ≢ name_of g → files name ≡ settled []) (sym back.file) is_open.other;
      commits = subst (λ (g : GateFile). commits_of g ≡ commits_in (root_of g)) (sym back.file) is_open.commits;
      says = subst (λ (g : GateFile). Says (views_of now) (root_of g) (own_bytes g files) (said_of now)) (sym back.file)
          (subst (λ (s : Said). Says (views_of now) (root_of (file_of index)) (own_bytes (file_of index) files) s) (sym said_back)
          (subst (λ (n : ℕ). Says n (root_of (file_of index)) (own_bytes (file_of index) files) (said_of index)) (sym views_back) is_open.says));
      last_room = room_back (last_of now) back.same.last is_open.last_room;
      next_room = room_back (next_of now) next_back is_open.last_room;
    }

    module _ (functions : Option Functions) (views : List View) where
      trees_back : (trees : IndexTrees) (rows rows' : List (List Row)) → seen trees ≡ seen (last_of index) → rows' ≡ rows → HasTrees functions views index files (last_of index) rows
          → HasTrees functions views now files trees rows'
      trees_back trees rows rows' are same holds =
          subst (λ (g : GateFile). HoldTrees functions views (node_at (own_bytes g files)) trees.views.items trees.back rows') (sym back.file)
          (subst (λ (t : List Tree × Tree). HoldTrees functions views (node_at (own_bytes (file_of index) files)) t.0 t.1 rows') (sym are)
          (subst (λ rs. HoldTrees functions views (node_at (own_bytes (file_of index) files)) (last_of index).views.items (last_of index).back rs) (sym same) holds))

      -- it is at the picture that it was at
      pub at_back : (picture : Option Picture) → IsAt functions views index files picture → IsAt functions views now files picture
      at_back picture at = record {
        is_open = open_back at.is_open;
        number = views_back ∙ at.number;
        holds = subst (λ (g : GateFile). HoldsPicture functions views (root_of g) (files (name_of g)).durable picture) (sym back.file) at.holds;
        last = back.same.picture ∙ at.last;
        trees = trees_back (last_of now) (picture_of index).rows (picture_of now).rows back.same.last (ap (λ (p : Picture). p.rows) back.same.picture) at.trees;
        next = trees_back (next_of now) (picture_of index).rows (next_in now) next_back (back.settled.rows ∙ ap (λ (p : Picture). p.rows) back.same.picture) at.trees;
      }
