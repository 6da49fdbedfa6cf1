-- The pictures that the files of all indexes hold, each by the digits of its signature.
use Rattle.std.specs.Prelude.{ℕ, List, Option, None}
use Rattle.view_ports.specs.File.{File}
use Rattle.view_ports.specs.Functions.{Functions}
use Rattle.view_ports.specs.declared.file_name.FileName.{FileName}
use Rattle.view_ports.specs.declared.file_name.Stem.TheVariants.{View}
use Rattle.design_docs.specs.declared.design.View.{View as DesignView}
use Rattle.view_model.specs.Picture.{Picture}
use Rattle.tree_index.specs.declared.index.Index.{Index}
use Rattle.tree_index.specs.Calls.{IsAt}
use Rattle.tree_index.specs.Held.{HoldsIndex, Stands}

-- of a signature: the views of the designs that have it, and the functions of their query servers, where these are known
pub record Kind : Type 0 where
  pub views : List DesignView
  pub functions : Option Functions

-- for each signature its kind
abbrev pub Kinds : Type 0
Kinds = List ℕ → Kind

-- the same kinds, of which no functions are known
abbrev pub forgetting : Kinds → Kinds
forgetting kinds = λ sig. record { views = (kinds sig).views; functions = None }

-- for each signature a picture, or none
abbrev pub Pictures : Type 0
Pictures = List ℕ → Option Picture

module _ (kinds : Kinds) where
  -- an image of the disk stands for this picture of a signature
  abbrev pub StandsOf : List ℕ → (FileName → List ℕ) → Option Picture → Type 0
  StandsOf sig image picture = Stands (kinds sig).functions (kinds sig).views (View sig) image picture

  -- and for these pictures
  abbrev pub StandFor : (FileName → List ℕ) → Pictures → Type 0
  StandFor image pictures = (sig : List ℕ) → StandsOf sig image (pictures sig)

  -- the files of a signature hold this picture
  abbrev pub HoldsOf : List ℕ → (FileName → File) → Option Picture → Type 0
  HoldsOf sig files picture = HoldsIndex (kinds sig).functions (kinds sig).views (View sig) files picture

  -- each image that a crash may leave of the files of indexes stands for these pictures, and so does what is read of them
  abbrev pub AreHeld : (FileName → File) → Pictures → Type 0
  AreHeld files pictures = (sig : List ℕ) → HoldsOf sig files (pictures sig)

  -- an open index of a signature is at this picture
  abbrev pub IsAtOf : List ℕ → Index → (FileName → File) → Option Picture → Type 0
  IsAtOf sig index files picture = IsAt (kinds sig).functions (kinds sig).views index files picture
