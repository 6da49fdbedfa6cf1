-- Laws of pictures in files, and of open indexes.
use Rattle.std.specs.Prelude.{◌≡◌, ◌≢◌, ◌⊎◌, ℕ, List, [], Option, None, All}
use Rattle.view_ports.specs.Disk.{Framed, IsImageOf}
use Rattle.view_ports.specs.File.{File, settled}
use Rattle.view_ports.specs.declared.file_name.FileName.{FileName}
use Rattle.view_ports.specs.declared.file_name.Stem.TheVariants.{View}
use Rattle.design_docs.specs.declared.design.Design.{Design}
use Rattle.tree_index.specs.Held.{IsFileOf}
use Rattle.tree_index.specs.Index.{stem_of}
use Rattle.view_model.specs.Picture.{Picture}
use Rattle.tree_groups.specs.declared.groups.Groups.{Groups}
use Rattle.tree_groups.specs.Cleans.{IsIndexFile}
use Rattle.tree_groups.specs.Groups.{open_of, AreAt, AreOpen}
use Rattle.tree_groups.specs.Pictures.{forgetting, AreHeld, Kinds, Pictures, StandFor, StandsOf}
use Rattle.tree_groups.specs.Reached.{sig_of, AreSet}

-- each image that a crash may leave of files that hold pictures stands for them
abbrev pub ImagesStand : Type 0
ImagesStand = (kinds : Kinds) (files : FileName → File) (pictures : Pictures) (image : FileName → List ℕ) → AreHeld kinds files pictures → IsImageOf files image → StandFor kinds image pictures

-- and what is read of them does
abbrev pub FilesStand : Type 0
FilesStand = (kinds : Kinds) (files : FileName → File) (pictures : Pictures) → AreHeld kinds files pictures → StandFor kinds (λ name. (files name).seen) pictures

-- files of no index matter not
abbrev pub OthersMatterNot : Type 0
OthersMatterNot = (kinds : Kinds) (groups : Groups) (files files' : FileName → File) (pictures : Pictures) → ((name : FileName) → IsIndexFile name → files' name ≡ files name)
    → (AreAt kinds groups files pictures → AreAt kinds groups files' pictures) × (AreOpen groups files → AreOpen groups files')

-- nor do they to images
abbrev pub OtherImagesMatterNot : Type 0
OtherImagesMatterNot = (kinds : Kinds) (image image' : FileName → List ℕ) (pictures : Pictures) → ((name : FileName) → IsIndexFile name → image' name ≡ image name) → StandFor kinds image pictures → StandFor kinds image' pictures

-- a folder without bytes holds no pictures
abbrev pub EmptyFoldersHoldNone : Type 0
EmptyFoldersHoldNone = (kinds : Kinds) (files : FileName → File) → ((name : FileName) → files name ≡ settled []) → AreHeld kinds files (λ sig. None)

-- where no index is open, what is held is all
abbrev pub NoneOpenAreAt : Type 0
NoneOpenAreAt = (kinds : Kinds) (groups : Groups) (files : FileName → File) (pictures : Pictures) → open_of groups ≡ [] → AreHeld kinds files pictures → AreAt kinds groups files pictures

-- while the files of one index change, an image that stands for a picture of it stands for the old pictures with this one
abbrev pub ImagesStandAround : Type 0
ImagesStandAround = (kinds : Kinds) (design : Design) (files : FileName → File) (pictures after : Pictures) (image : FileName → List ℕ) (picture : Option Picture) → AreHeld kinds files pictures
    → Framed (IsFileOf (View (sig_of design))) files (λ image. StandsOf kinds (sig_of design) image picture) image → AreSet design picture pictures after → StandFor kinds image after

-- where a signature has no picture, its files may be of any kind
abbrev pub KindsAreFree : Type 0
KindsAreFree = (kinds kinds' : Kinds) (files : FileName → File) (pictures : Pictures) → ((sig : List ℕ) → (pictures sig ≡ None) ⊎ (kinds' sig ≡ kinds sig)) → AreHeld kinds files pictures → AreHeld kinds' files pictures

-- and so do images stand for it
abbrev pub ImageKindsAreFree : Type 0
ImageKindsAreFree = (kinds kinds' : Kinds) (image : FileName → List ℕ) (pictures : Pictures) → ((sig : List ℕ) → (pictures sig ≡ None) ⊎ (kinds' sig ≡ kinds sig)) → StandFor kinds image pictures → StandFor kinds' image pictures

-- and so may the signature where no index of it is open
abbrev pub OpenKindsAreFree : Type 0
OpenKindsAreFree = (kinds kinds' : Kinds) (groups : Groups) (files : FileName → File) (pictures : Pictures)
    → ((sig : List ℕ) → ((pictures sig ≡ None) × All (λ index. stem_of index ≢ View sig) (open_of groups)) ⊎ (kinds' sig ≡ kinds sig)) → AreAt kinds groups files pictures → AreAt kinds' groups files pictures

-- less is said where no functions of query servers are known: of images, of files, and of open indexes
abbrev pub ImagesMayForget : Type 0
ImagesMayForget = (kinds : Kinds) (image : FileName → List ℕ) (pictures : Pictures) → StandFor kinds image pictures → StandFor (forgetting kinds) image pictures

abbrev pub FilesMayForget : Type 0
FilesMayForget = (kinds : Kinds) (files : FileName → File) (pictures : Pictures) → AreHeld kinds files pictures → AreHeld (forgetting kinds) files pictures

abbrev pub OpenMayForget : Type 0
OpenMayForget = (kinds : Kinds) (groups : Groups) (files : FileName → File) (pictures : Pictures) → AreAt kinds groups files pictures → AreAt (forgetting kinds) groups files pictures
