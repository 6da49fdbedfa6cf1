-- The pictures of a history, by the signatures of its designs, and which of them must be true.
use Rattle.std.specs.Prelude.{◌≡◌, ◌≤◌, ℕ, List, ◌∷◌, length, true, false, Option, Some, None, bytes_eq, Contains, if◌then◌else◌}
use Rattle.json_terms.specs.Json.{Json}
use Rattle.design_docs.specs.Documents.{is_design_id}
use Rattle.design_docs.specs.declared.design.View.{View}
use Rattle.design_docs.specs.Design.{design_term, language_of, views_of}
use Rattle.view_ports.specs.Functions.{Functions}
use Rattle.design_docs.specs.History.{Write}
use Rattle.view_model.specs.Since.{first}
use Rattle.view_model.specs.Rows.{spoiled}
use Rattle.view_model.specs.Picture.{Picture, IsTrueOf, picture_or_none, IsShaped}
use Rattle.view_model.specs.Update.{IsUpdated}

-- a write of the history stored this as a design document
pub record IsDesignIn (history : List Write) (document : Json) : Type 0 where
  pub id : List ℕ
  pub design : is_design_id id ≡ true
  pub stored : Contains history (record { id = id; document = Some document })

-- the pictures but for one signature are these
abbrev pub AreSetAt : List ℕ → Option Picture → (List ℕ → Option Picture) → (List ℕ → Option Picture) → Type 0
AreSetAt own picture before after = (sig : List ℕ) → after sig ≡ (if bytes_eq sig own then picture else before sig)

module _ (signature : Json → List ℕ) (path_for : Json → Option (List ℕ)) (views_for : Json → List View) where
  -- designs of the history with one signature are the same to views
  abbrev pub AreSigned : List Write → Type 0
  AreSigned history = (one other : Json) → IsDesignIn history one → IsDesignIn history other → signature one ≡ signature other → (path_for one ≡ path_for other) × (views_for one ≡ views_for other)

  module _ (functions : List ℕ → Functions) (honest : List ℕ → Type 0) where
    -- no picture is newer than the history. Each is that of a design which was stored by its sequence, has the shape of each
    -- such design, on any path, and is true where the path of such a design is honest
    pub record PicturesStand (history : List Write) (pictures : List ℕ → Option Picture) : Type 0 where
      pub within : (sig : List ℕ) (picture : Picture) → pictures sig ≡ Some picture → picture.seq ≤ length history
      pub owned : (sig : List ℕ) (picture : Picture) → pictures sig ≡ Some picture → (document : Json) × IsDesignIn (first picture.seq history) document × (signature document ≡ sig)
      pub shaped : (sig : List ℕ) (picture : Picture) (document : Json) → pictures sig ≡ Some picture → IsDesignIn history document → signature document ≡ sig → IsShaped (views_for document) picture
      pub are_true : (sig : List ℕ) (picture : Picture) (document : Json) (path : List ℕ) → pictures sig ≡ Some picture → IsDesignIn history document → signature document ≡ sig
          → path_for document ≡ Some path → honest path → IsTrueOf (functions path) (views_for document) history picture

    -- where there are no pictures they stand
    abbrev pub NoPicturesStand : Type 0
    NoPicturesStand = (history : List Write) (pictures : List ℕ → Option Picture) → ((sig : List ℕ) → pictures sig ≡ None) → PicturesStand history pictures

    -- a write leaves the pictures standing
    abbrev pub WritesKeepPictures : Type 0
    WritesKeepPictures = (history : List Write) (write : Write) (pictures : List ℕ → Option Picture) → AreSigned (write ∷ history) → PicturesStand history pictures → PicturesStand (write ∷ history) pictures

    -- an update does on any path, on an honest one of a design that isn't spoiled
    abbrev pub UpdatesKeepPictures : Type 0
    UpdatesKeepPictures =
        (history : List Write) (document : Json) (path : List ℕ) (new : Picture) (before after : List ℕ → Option Picture) → AreSigned history → PicturesStand history before
        → IsDesignIn history document → path_for document ≡ Some path
        → IsUpdated (functions path) (honest path) (views_for document) history (picture_or_none (views_for document) (before (signature document))) new
        → (honest path → spoiled (functions path) (views_for document) history ≡ false)
        → AreSetAt (signature document) (Some new) before after → PicturesStand history after

    -- and so does a picture that is dropped
    abbrev pub DropsKeepPictures : Type 0
    DropsKeepPictures = (history : List Write) (sig : List ℕ) (before after : List ℕ → Option Picture) → PicturesStand history before → AreSetAt sig None before after → PicturesStand history after

    -- and the first writes with those pictures that they reach, as an image of a moment before may have them
    abbrev pub FirstsHavePictures : Type 0
    FirstsHavePictures =
        (history : List Write) (count : ℕ) (before after : List ℕ → Option Picture) → PicturesStand history before
        → ((sig : List ℕ) (picture : Picture) → after sig ≡ Some picture → (before sig ≡ Some picture) × (picture.seq ≤ count)) → PicturesStand (first count history) after

-- ---- designs by their digests

-- where digests tell the terms of a history's designs apart, designs with one digest are the same to views
abbrev pub DigestsTellDesigns : Type 0
DigestsTellDesigns =
    (digest : Json → List ℕ) (path_of : List ℕ → Option (List ℕ)) (history : List Write)
    → ((one other : Json) → IsDesignIn history one → IsDesignIn history other → digest (design_term one) ≡ digest (design_term other) → design_term one ≡ design_term other)
    → AreSigned (λ document. digest (design_term document)) (λ document. path_of (language_of document)) views_of history
