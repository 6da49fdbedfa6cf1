-- A picture is carried by each image that has all bytes behind the slots, and an open index stands for its own.
use Rattle.std.proofs.Common.{◌≡◌, ◌∙◌, ℕ, ◌≤◌, List, [], Option, Some, None, refl, ap, subst}
use Rattle.view_ports.specs.File.{File, IsImage, settled}
use Rattle.view_ports.specs.Functions.{Functions}
use Rattle.view_ports.specs.declared.file_name.FileName.{FileName}
use Rattle.view_ports.specs.declared.file_name.Stem.{Stem}
use Rattle.view_ports.proofs.Images.{IsImage-settled}
use Rattle.gate_file.specs.declared.gate.GateFile.{GateFile}
use Rattle.gate_file.specs.declared.root.Root.{Root}
use Rattle.gate_file.specs.GateFile.{root_of, Keeps}
use Rattle.gate_file.specs.Header.{data_start, place_of, slot_at}
use Rattle.gate_file.specs.Pair.{IsOfRoot, IsOpenFile}
use Rattle.gate_file.specs.Shown.{HasAll}
use Rattle.gate_file.proofs.FileFacts.{part_carried}
use Rattle.gate_file.proofs.Images.{empty_stands}
use Rattle.gate_file.proofs.Looks.{opened_slot}
use Rattle.gate_file.proofs.SlotFacts.{fit_at}
use Rattle.gate_file.proofs.Published.{file_stands}
use Rattle.design_docs.specs.declared.design.View.{View}
use Rattle.node_file.specs.RecordLaws.{carried}
use Rattle.node_file.specs.Records.{node_at}
use Rattle.view_model.specs.Picture.{Picture}
use Rattle.index_items.specs.RootRecord.{root_bytes}
use Rattle.index_trees.proofs.Holding.{trees_stay}
use Rattle.tree_index.specs.declared.index.Index.{Index}
use Rattle.tree_index.specs.Calls.{IsAt, IsOpen}
use Rattle.tree_index.specs.Held.{HoldsIndex, HoldsPicture, HoldsRows, IsFileOf, Said, Says, Spells}
use Rattle.tree_index.specs.Index.{file_of, stem_of}

-- what a root record says stands in each image that has its bytes
pub spells_carried : (count : ℕ) (root : Root) (bytes image : List ℕ) (said : Said) → data_start ≤ root.offset → HasAll bytes image → Spells count root bytes said → Spells count root image said
spells_carried count root bytes image said behind has spells = record {
  part = part_carried bytes image has root.offset root.length (root_bytes said.seq said.views said.back) behind spells.part;
  content = spells.content;
}

pub says_of_root : (count : ℕ) → IsOfRoot (Says count)
says_of_root count = record {
  rootless = λ bytes image said says. says;
  rooted = λ root bytes image said behind has says. spells_carried count root bytes image said behind has says;
}

-- and so what an open file's root says
pub says_carried : (count : ℕ) (gate : GateFile) (file : File) (bytes image : List ℕ) (said : Said) → Keeps gate file → HasAll bytes image → Says count (root_of gate) bytes said → Says count (root_of gate) image said
says_carried count gate file bytes image said keeps has says = by_root (root_of gate) refl says
  where
    by_root : (root : Option Root) → root_of gate ≡ root → Says count root bytes said → Says count root image said
    by_root None none is = is
    by_root (Some root) some is =
        let slot = opened_slot (slot_at file.durable (place_of gate.commits)) root (keeps.last ∙ some) in
        let sound = fit_at file.durable keeps.low keeps.high gate.commits slot.0 in
        let behind : data_start ≤ root.offset = subst (λ (r : Root). data_start ≤ r.offset) slot.1 sound.behind_slots in
        spells_carried count root bytes image said behind has is

module _ (functions : Option Functions) (views : List View) where
  pub rows_carried : (root : Root) (bytes image : List ℕ) (picture : Picture) → data_start ≤ root.offset → HasAll bytes image → HoldsRows functions views root bytes picture → HoldsRows functions views root image picture
  rows_carried root bytes image picture behind has holds = record {
    said = holds.said;
    spells = spells_carried _ root bytes image holds.said behind has holds.spells;
    seq = holds.seq;
    rows = trees_stay functions views (node_at bytes) (node_at image) (holds.said).views (holds.said).back picture.rows (carried bytes image has) holds.rows;
  }

  module _ (bytes image : List ℕ) where
    rootless : (picture : Option Picture) → HoldsPicture functions views None bytes picture → HoldsPicture functions views None image picture
    rootless None holds = tt
    rootless (Some picture) holds = holds

    rooted : (root : Root) (picture : Option Picture) → data_start ≤ root.offset → HasAll bytes image → HoldsPicture functions views (Some root) bytes picture → HoldsPicture functions views (Some root) image picture
    rooted root None behind has holds = holds
    rooted root (Some picture) behind has holds = rows_carried root bytes image picture behind has holds

  pub picture_of_root : IsOfRoot (HoldsPicture functions views)
  picture_of_root = record {
    rootless = λ bytes image picture holds. rootless bytes image picture holds;
    rooted = λ root bytes image picture behind has holds. rooted bytes image root picture behind has holds;
  }

-- ---- an open index

pub open_file : (index : Index) (files : FileName → File) → IsOpen index files → IsOpenFile (stem_of index) (file_of index) files
open_file index files is = record { own = refl; keeps = is.keeps; other = is.other }

pub index_stands : (functions : Option Functions) (views : List View) (index : Index) (files : FileName → File) (picture : Option Picture) → IsAt functions views index files picture → HoldsIndex functions views (stem_of index) files picture
index_stands functions views index files picture at =
    file_stands (stem_of index) (file_of index) files (open_file index files at.is_open) (HoldsPicture functions views) (picture_of_root functions views) picture at.holds

-- files without bytes stand for no picture
pub empty_stands_none : (functions : Option Functions) (views : List View) (stem : Stem) (files : FileName → File) → ((name : FileName) → IsFileOf stem name → files name ≡ settled []) → HoldsIndex functions views stem files None
empty_stands_none functions views stem files empty = record {
  images = λ image left.
      empty_stands stem (HoldsPicture functions views) (picture_of_root functions views) image
      (λ n of_pair. IsImage-settled [] (image n) (subst (λ f. IsImage f (image n)) (empty n of_pair) (left n of_pair))) None tt;
  seen = empty_stands stem (HoldsPicture functions views) (picture_of_root functions views) (λ n. (files n).seen) (λ n of_pair. ap (λ (f : File). f.seen) (empty n of_pair)) None tt;
}
