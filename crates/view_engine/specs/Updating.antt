-- What bringing the index of a design up to date makes of a world, and which pictures of a world must be true.
use Rattle.std.specs.Prelude.{◌≡◌, ◌≢◌, ℕ, List, false, Some}
use Rattle.json_terms.specs.Json.{Json}
use Rattle.design_docs.specs.Design.{design_term, language_of, views_of}
use Rattle.view_ports.specs.Functions.{Functions}
use Rattle.child_pool.specs.Languages.{path_in}
use Rattle.design_docs.specs.History.{Write}
use Rattle.view_model.specs.Picture.{Picture, picture_or_none}
use Rattle.view_model.specs.Rows.{spoiled}
use Rattle.view_model.specs.Standing.{AreSetAt, IsDesignIn, PicturesStand}
use Rattle.view_model.specs.Update.{IsUpdated}
use Rattle.view_signature.specs.Signature.{signature_of}
use Rattle.view_engine.specs.World.{World}

-- the picture of a design, where none counts as one of no write, without rows
abbrev pub picture_in : World → Json → Picture
picture_in world design = picture_or_none (views_of design) (world.pictures (signature_of design))

-- what is supposed of the designs of a history: those that differ in their language or their views have different signatures
pub record AreFit (history : List Write) : Type 0 where
  pub apart : (one other : Json) → IsDesignIn history one → IsDesignIn history other → signature_of one ≡ signature_of other → design_term one ≡ design_term other

-- two designs of a history have one signature, and yet they differ
pub record HasClash (history : List Write) : Type 0 where
  pub one : Json
  pub other : Json
  pub first : IsDesignIn history one
  pub second : IsDesignIn history other
  pub signed : signature_of one ≡ signature_of other
  pub differ : design_term one ≢ design_term other

module _ (functions : List ℕ → Functions) (honest : List ℕ → Type 0) (languages : List (List ℕ × List ℕ)) where
  -- Where the designs are fit, each picture of the world is that of a design which was stored by its sequence, none is newer than the
  -- history, and it is true where the path of such a design is honest.
  abbrev pub IsSound : World → Type 0
  IsSound world =
      AreFit world.history → PicturesStand signature_of (λ document. path_in languages (language_of document)) views_of functions honest world.history world.pictures

  -- a world with the next picture of a design, which is of its whole history, and else as it was; on an honest path it is one that
  -- can be answered
  pub record IsBrought (design : Json) (path : List ℕ) (before after : World) : Type 0 where
    pub next : Picture
    pub updated : IsUpdated (functions path) (honest path) (views_of design) before.history (picture_in before design) next
    pub history : after.history ≡ before.history
    pub known : after.functions ≡ before.functions
    pub set : AreSetAt (signature_of design) (Some next) before.pictures after.pictures
    pub answerable : honest path → IsSound before → AreFit before.history → spoiled (functions path) (views_of design) before.history ≡ false
