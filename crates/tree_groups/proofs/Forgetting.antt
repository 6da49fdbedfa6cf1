-- What is held by the values of known functions is held where none are known.
use Rattle.std.proofs.Common.{ℕ, List, Option, None}
use Rattle.view_ports.specs.File.{File}
use Rattle.view_ports.specs.Functions.{Functions}
use Rattle.view_ports.specs.declared.file_name.FileName.{FileName}
use Rattle.view_ports.specs.declared.file_name.Stem.{Stem}
use Rattle.gate_file.specs.GateFile.{name_of, root_of}
use Rattle.gate_file.specs.Pair.{own_bytes}
use Rattle.design_docs.specs.declared.design.View.{View as DesignView}
use Rattle.node_file.specs.Records.{node_at}
use Rattle.view_model.specs.Picture.{Picture}
use Rattle.index_trees.proofs.Holding.{trees_hold_without}
use Rattle.tree_index.specs.declared.index.Index.{Index}
use Rattle.tree_index.specs.Calls.{IsAt}
use Rattle.tree_index.specs.Held.{HoldsIndex, Stands}
use Rattle.tree_index.specs.Index.{file_of, last_of, next_in, next_of, picture_of}
use Rattle.tree_index.proofs.Pictures.{holds_without}
use Rattle.tree_groups.specs.Laws.{FilesMayForget, ImagesMayForget, OpenMayForget}

module _ (functions : Option Functions) (views : List DesignView) where
  pub stands_without : (stem : Stem) (image : FileName → List ℕ) (picture : Option Picture) → Stands functions views stem image picture → Stands None views stem image picture
  stands_without stem image picture stands = record { fit = stands.fit; apart = stands.apart; stands = holds_without functions views _ _ picture stands.stands }

  pub index_without : (stem : Stem) (files : FileName → File) (picture : Option Picture) → HoldsIndex functions views stem files picture → HoldsIndex None views stem files picture
  index_without stem files picture holds = record {
    images = λ image left. stands_without stem image picture (holds.images image left);
    seen = stands_without stem (λ n. (files n).seen) picture holds.seen;
  }

  pub at_without : (index : Index) (files : FileName → File) (picture : Option Picture) → IsAt functions views index files picture → IsAt None views index files picture
  at_without index files picture at =
      let there = node_at (own_bytes (file_of index) files) in
      record {
        is_open = at.is_open;
        number = at.number;
        holds = holds_without functions views (root_of (file_of index)) (files (name_of (file_of index))).durable picture at.holds;
        last = at.last;
        trees = trees_hold_without functions views there (last_of index).views.items (last_of index).back (picture_of index).rows at.trees;
        next = trees_hold_without functions views there (next_of index).views.items (next_of index).back (next_in index) at.next;
      }

pub images_may_forget : ImagesMayForget
images_may_forget kinds image pictures stand = λ sig. stands_without (kinds sig).functions (kinds sig).views _ image (pictures sig) (stand sig)

pub files_may_forget : FilesMayForget
files_may_forget kinds files pictures held = λ sig. index_without (kinds sig).functions (kinds sig).views _ files (pictures sig) (held sig)

pub open_may_forget : OpenMayForget
open_may_forget kinds groups files pictures at = record {
  held = files_may_forget kinds files pictures at.held;
  each = λ k d within sig named. at_without (kinds sig).functions (kinds sig).views _ files (pictures sig) (at.each k d within sig named);
}
