-- An open index after nodes were added to its file.
use Rattle.std.proofs.Common.{◌≡◌, ◌≢◌, ◌*◌, ◌≤◌, ℕ, List, [], Option, Some, None, ap, sym, ◌∙◌, subst, arith}
use Rattle.json_terms.specs.declared.term.Row.{Row}
use Rattle.view_ports.proofs.DiskRuns.{moves_wider}
use Rattle.view_ports.specs.Disk.{Disk, Moves, OthersStay}
use Rattle.view_ports.specs.File.{File, settled}
use Rattle.view_ports.specs.Functions.{Functions}
use Rattle.view_ports.specs.declared.file_name.FileName.{FileName}
use Rattle.gate_file.specs.declared.gate.GateFile.{GateFile}
use Rattle.gate_file.specs.declared.root.Root.{Root}
use Rattle.gate_file.specs.GateFile.{commits_in, commits_of, name_of, root_of, start_of, Keeps}
use Rattle.gate_file.specs.Pair.{own_bytes}
use Rattle.gate_file.specs.Shown.{Shows}
use Rattle.gate_file.proofs.Images.{root_behind}
use Rattle.gate_file.proofs.Published.{shown_image}
use Rattle.design_docs.specs.declared.design.View.{View}
use Rattle.tree_laws.specs.declared.tree.Tree.{Tree}
use Rattle.node_file.specs.FileNodes.{IsKept, IsLonger, MovesOn, Stays}
use Rattle.node_file.specs.RecordLaws.{carried}
use Rattle.node_file.specs.Records.{node_at}
use Rattle.view_model.specs.Picture.{Picture}
use Rattle.index_trees.specs.declared.trees.IndexTrees.{IndexTrees}
use Rattle.index_trees.specs.Trees.{HaveRoom, HoldTrees}
use Rattle.index_trees.proofs.Holding.{trees_stay}
use Rattle.tree_index.specs.declared.index.Index.{Index}
use Rattle.tree_index.specs.Calls.{said_of, HasTrees, IsAt, IsOpen}
use Rattle.tree_index.specs.Held.{HoldsPicture, IsFileOf, Said, Says, Stands}
use Rattle.tree_index.specs.Index.{file_of, last_of, next_in, next_of, picture_of, stem_of, views_of}
use Rattle.tree_index.specs.Trees.{seen}
use Rattle.tree_index.proofs.Carried.{open_file, picture_of_root, says_carried}
use Rattle.tree_index.proofs.Rooms.{each_seen, room_more}
use Rattle.tree_index.proofs.Sizes.{same_number}

-- what a root holds is held by each image that shows it
pub shown_holds : (functions : Option Functions) (views : List View) (root : Option Root) (bytes image : List ℕ) (picture : Option Picture) → Shows root bytes image
    → HoldsPicture functions views root bytes picture → HoldsPicture functions views root image picture
shown_holds functions views None bytes image picture shows holds = (picture_of_root functions views).rootless bytes image picture holds
shown_holds functions views (Some root) bytes image picture shows holds =
    (picture_of_root functions views).rooted root bytes image picture (root_behind image shows.low shows.high root shows.names) shows.has holds

-- the last commit is the same, and the file may have got longer
pub record KeepsLast (index index' : Index) : Type 0 where
  pub picture : picture_of index' ≡ picture_of index
  pub last : seen (last_of index') ≡ seen (last_of index)
  pub longer : IsLonger (file_of index) (file_of index')

module _ (index index' : Index) (same : KeepsLast index index') where
  abbrev gate : GateFile
  gate = file_of index

  abbrev gate' : GateFile
  gate' = file_of index'

  pub name_kept : name_of gate' ≡ name_of gate
  name_kept = ap name_of (same.longer).same

  -- trees that had room have it still
  pub room_kept : (trees trees' : IndexTrees) → seen trees' ≡ seen trees → HaveRoom (start_of gate) trees → HaveRoom (start_of gate') trees'
  room_kept trees trees' are room =
      let longer = (same.longer).longer in
      each_seen (λ tree. 8 * tree.count ≤ start_of gate') trees trees' are (room_more (start_of gate) (start_of gate') trees (omega (arith, longer)) room)

  module _ (a b : Disk FileName) where
    abbrev file : File
    file = a.now (name_of gate)

    abbrev now : File
    now = b.now (name_of gate)

    -- trees hold the rows that they held
    pub trees_kept : (functions : Option Functions) (views : List View) (trees trees' : IndexTrees) (rows rows' : List (List Row)) → seen trees' ≡ seen trees → rows' ≡ rows → Stays gate a b
        → HasTrees functions views index a.now trees rows → HasTrees functions views index' b.now trees' rows'
    trees_kept functions views trees trees' rows rows' are same_rows stays holds =
        let here = trees_stay functions views (node_at file.seen) (node_at now.seen) trees.views.items trees.back rows (carried file.seen now.seen stays) holds in
        subst (λ n. HoldTrees functions views (node_at (b.now n).seen) trees'.views.items trees'.back rows') (sym name_kept)
        (subst (λ (t : List Tree × Tree). HoldTrees functions views (node_at now.seen) t.0 t.1 rows') (sym are)
        (subst (λ rs. HoldTrees functions views (node_at now.seen) trees.views.items trees.back rs) (sym same_rows) here))

    -- the root record says where the index stood, and it stands there
    said_kept : said_of index' ≡ said_of index
    said_kept = λ i. record {
      seq = ap (λ (p : Picture). p.seq) same.picture i;
      views = ap (λ (t : List Tree × Tree). t.0) same.last i;
      back = ap (λ (t : List Tree × Tree). t.1) same.last i;
    }

    says_kept : Keeps gate file → Stays gate a b → Says (views_of index) (root_of gate) file.seen (said_of index) → Says (views_of index') (root_of gate') (own_bytes gate' b.now) (said_of index')
    says_kept keeps stays says =
        subst (λ (g : GateFile). Says (views_of index') (root_of g) (own_bytes g b.now) (said_of index')) (sym (same.longer).same)
        (subst (λ (n : ℕ). Says n (root_of gate) now.seen (said_of index')) (sym (same_number (last_of index) (last_of index') same.last))
        (subst (λ (s : Said). Says (views_of index) (root_of gate) now.seen s) (sym said_kept) (says_carried (views_of index) gate file file.seen now.seen (said_of index) keeps stays says)))

    module _ (others : OthersStay (λ n. n ≡ name_of gate) a.now b.now) (kept : IsKept gate gate' file now) (room : HaveRoom (start_of gate') (next_of index')) (stays : Stays gate a b) where
      -- the object is of its files
      pub open_kept : IsOpen index a.now → IsOpen index' b.now
      open_kept is_open = record {
        keeps = subst (λ n. Keeps gate' (b.now n)) (sym name_kept) kept.keeps;
        other = subst (λ (own : FileName). (n : FileName) → IsFileOf own.stem n → n ≢ own → b.now n ≡ settled []) (sym name_kept)
            (λ n of_pair differs. others n differs ∙ is_open.other n of_pair differs);
        commits = subst (λ (g : GateFile). commits_of g ≡ commits_in (root_of g)) (sym (same.longer).same) is_open.commits;
        says = says_kept is_open.keeps stays is_open.says;
        last_room = room_kept (last_of index) (last_of index') same.last is_open.last_room;
        next_room = room;
      }

      -- and at the picture that it was at
      pub at_kept : (functions : Option Functions) (views : List View) (picture : Option Picture) → HasTrees functions views index' b.now (next_of index') (next_in index')
          → IsAt functions views index a.now picture → IsAt functions views index' b.now picture
      at_kept functions views picture next at = record {
        is_open = open_kept at.is_open;
        number = same_number (last_of index) (last_of index') same.last ∙ at.number;
        holds = subst (λ (g : GateFile). HoldsPicture functions views (root_of g) (b.now (name_of g)).durable picture) (sym (same.longer).same)
            (shown_holds functions views (root_of gate) file.durable now.durable picture kept.durable at.holds);
        last = same.picture ∙ at.last;
        trees = trees_kept functions views (last_of index) (last_of index') (picture_of index).rows (picture_of index').rows same.last (ap (λ (p : Picture). p.rows) same.picture) stays at.trees;
        next = next;
      }

-- ---- at each moment

module _ (index : Index) (a b : Disk FileName) (ends : File → File → Type 0) (moved : MovesOn (file_of index) ends a b) where
  abbrev own : FileName
  own = name_of (file_of index)

  -- other files are as they were
  pub moves_open : (after : (FileName → File) → Type 0) → IsOpen index a.now → (OthersStay (λ n. n ≡ own) a.now b.now → ends (a.now own) (b.now own) → after b.now)
      → Moves (IsFileOf (stem_of index)) (λ image. Unit {0}) after a b
  moves_open after is_open endings =
      moves_wider (λ n. n ≡ own) (IsFileOf (stem_of index)) (λ image. Shows (root_of (file_of index)) (a.now own).durable (image own)) (λ image. Unit {0}) (λ files. ends (a.now own) (files own)) after a b
      (λ n is. ap (λ (k : FileName). k.stem) is) (λ image framed. tt) endings (moved is_open.keeps)

  -- and a crash leaves what stands for the picture
  pub moves_at : (functions : Option Functions) (views : List View) (picture : Option Picture) (after : (FileName → File) → Type 0) → IsAt functions views index a.now picture
      → (OthersStay (λ n. n ≡ own) a.now b.now → ends (a.now own) (b.now own) → after b.now)
      → Moves (IsFileOf (stem_of index)) (λ image. Stands functions views (stem_of index) image picture) after a b
  moves_at functions views picture after at endings =
      moves_wider (λ n. n ≡ own) (IsFileOf (stem_of index)) (λ image. Shows (root_of (file_of index)) (a.now own).durable (image own)) (λ image. Stands functions views (stem_of index) image picture)
      (λ files. ends (a.now own) (files own)) after a b
      (λ n is. ap (λ (k : FileName). k.stem) is)
      (λ image framed. shown_image (stem_of index) (file_of index) a.now (open_file index a.now at.is_open) (HoldsPicture functions views) (picture_of_root functions views) picture at.holds image (λ n of_pair. framed.outside n) framed.inside)
      endings (moved (at.is_open).keeps)
