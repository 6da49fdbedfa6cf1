-- Laws of indexes in their files.
use Rattle.std.specs.Prelude.{◌≡◌, ℕ, List, [], Option, None}
use Rattle.view_ports.specs.File.{File, settled}
use Rattle.view_ports.specs.Functions.{Functions}
use Rattle.view_ports.specs.declared.file_name.FileName.{FileName}
use Rattle.view_ports.specs.declared.file_name.Stem.{Stem}
use Rattle.gate_file.specs.Open.{BeforeOpening}
use Rattle.gate_file.specs.declared.root.Root.{Root}
use Rattle.design_docs.specs.declared.design.View.{View}
use Rattle.view_model.specs.Picture.{Picture}
use Rattle.tree_index.specs.declared.index.Index.{Index}
use Rattle.tree_index.specs.Calls.{IsAt}
use Rattle.tree_index.specs.Held.{HoldsIndex, HoldsPicture, IsFileOf, Stands}
use Rattle.tree_index.specs.Index.{stem_of}

-- each image that a crash may leave of an open index stands for its picture, or for none where it has none
abbrev pub ImagesStand : Type 0
ImagesStand = (functions : Option Functions) (views : List View) (index : Index) (files : FileName → File) (picture : Option Picture) (image : FileName → List ℕ)
    → IsAt functions views index files picture → BeforeOpening (stem_of index) files image → Stands functions views (stem_of index) image picture

-- and its files hold it
abbrev pub FilesHold : Type 0
FilesHold = (functions : Option Functions) (views : List View) (index : Index) (files : FileName → File) (picture : Option Picture)
    → IsAt functions views index files picture → HoldsIndex functions views (stem_of index) files picture

-- files without bytes hold none
abbrev pub EmptyFilesHoldNone : Type 0
EmptyFilesHoldNone = (functions : Option Functions) (views : List View) (stem : Stem) (files : FileName → File)
    → ((name : FileName) → IsFileOf stem name → files name ≡ settled []) → HoldsIndex functions views stem files None

-- a root holds one picture, of whatever views
abbrev pub PicturesAreOne : Type 0
PicturesAreOne = (functions functions' : Option Functions) (views views' : List View) (root : Option Root) (bytes : List ℕ) (one other : Option Picture)
    → HoldsPicture functions views root bytes one → HoldsPicture functions' views' root bytes other → other ≡ one

-- a picture by known functions is one whatever they are
abbrev pub PicturesHoldWithout : Type 0
PicturesHoldWithout = (functions : Option Functions) (views : List View) (root : Option Root) (bytes : List ℕ) (picture : Option Picture)
    → HoldsPicture functions views root bytes picture → HoldsPicture None views root bytes picture
