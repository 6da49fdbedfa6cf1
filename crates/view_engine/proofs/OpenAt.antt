-- An index that is open among those of a world, and the rows that are read of it.
use Rattle.std.specs.Prelude.{◌≡◌, ℕ, List, [], length, Option, Ok, slice_index_or}
use Rattle.std.proofs.Common.{sym, ap, ◌∙◌, subst}
use Rattle.std.proofs.lemmas.Option.{get_or_from_slice_get, slice_get_within}
use Rattle.json_terms.specs.declared.term.Row.{Row}
use Rattle.design_docs.specs.declared.design.View.{View}
use Rattle.view_ports.specs.Disk.{IfTold}
use Rattle.view_ports.specs.File.{File}
use Rattle.view_ports.specs.Functions.{Functions}
use Rattle.view_ports.specs.declared.file_name.FileName.{FileName}
use Rattle.view_ports.specs.declared.folder.Folder.{Ghosts as Folders}
use Rattle.view_ports.proofs.Told.{told_pair}
use Rattle.node_file.specs.declared.cache.NodeCache.{NodeCache}
use Rattle.view_model.specs.Picture.{Picture}
use Rattle.tree_index.specs.declared.index.Index.{Index}
use Rattle.tree_index.specs.Calls.{IsAt}
use Rattle.tree_index.specs.Index.{picture_of, stem_of}
use Rattle.tree_index.specs.RowsRead.{ReadsRows}
use Rattle.tree_groups.specs.declared.groups.Groups.{Groups}
use Rattle.tree_groups.specs.Groups.{open_of, AreAt as AreIndexesAt, IsGroup}
use Rattle.tree_groups.specs.Pictures.{IsAtOf, Kinds, Pictures}

-- one in a place is at its picture
pub group_at : (kinds : Kinds) (groups : Groups) (files : FileName → File) (pictures : Pictures) (slot : ℕ) (sig : List ℕ) (views : ℕ) (index : Index) → IsGroup groups slot sig views index → AreIndexesAt kinds groups files pictures
    → IsAtOf kinds sig index files (pictures sig)
group_at kinds groups files pictures slot sig views index group at =
    let here : slice_index_or (open_of groups) slot index ≡ index = get_or_from_slice_get (open_of groups) slot index index group.there in
    subst (λ (i : Index). IsAtOf kinds sig i files (pictures sig)) here (at.each slot index (slice_get_within (open_of groups) slot index group.there) sig (ap stem_of here ∙ group.named))

-- its picture has rows for each of its views
pub each_view : (functions : Option Functions) (views : List View) (index : Index) (files : FileName → File) (picture : Option Picture) → IsAt functions views index files picture → length (picture_of index).rows ≡ length views
each_view functions views index files picture at = sym at.trees.number ∙ at.number

-- the rows that are read are those of the picture
pub rows_of_picture : {F : Type 0} (f : Folders F) (kinds : Kinds) (groups : Groups) (pictures : Pictures) (slot : ℕ) (sig : List ℕ) (views place : ℕ) (index : Index) (old new : F) (cache cache' : NodeCache) (steps : ℕ) (rows : List Row)
    → IsGroup groups slot sig views index → ReadsRows f index place old new cache cache' 0 steps (Ok rows) → IfTold (f.disk old) (λ d. AreIndexesAt kinds groups d.now pictures)
    → IfTold (f.disk old) (λ d. rows ≡ slice_index_or (picture_of index).rows place [])
rows_of_picture f kinds groups pictures slot sig views place index old new cache cache' steps rows group reads at =
    told_pair (f.disk old) (λ d. AreIndexesAt kinds groups d.now pictures) (λ d. IsAtOf kinds sig index d.now (pictures sig) → rows ≡ slice_index_or (picture_of index).rows place []) _
    (λ d here told. told (group_at kinds groups d.now pictures slot sig views index group here)) at (reads.rows (kinds sig).functions (kinds sig).views (pictures sig))
