-- Images that a crash leaves of worlds between two, and what a cleanup makes of the pictures of a world.
use Rattle.std.proofs.Common.{◌≡◌, ◌⊎◌, ◌≤◌, ◌∙◌, ℕ, List, length, Option, Some, None, inl, inr, ⊎_elim, refl, sym, subst}
use Rattle.tree_groups.specs.Pictures.{Kinds, Pictures, StandFor, StandsOf}
use Rattle.view_model.specs.Picture.{Picture}
use Rattle.view_model.specs.Since.{first}
use Rattle.view_ports.specs.declared.file_name.FileName.{FileName}
use Rattle.doc_file.specs.Held.{Stands}
use Rattle.view_engine.specs.Cleanup.{IsCleaned, IsPartlyCleaned}
use Rattle.view_engine.specs.Signatures.{kinds_by, kinds_of, AreOwned, HasSignature}
use Rattle.view_engine.specs.World.{World, NoneIsNewer}
use Rattle.view_engine.specs.Worlds.{IsBetween, StandsEither, StandsFor}

-- a world is between itself and any other
pub first_between : (before after : World) → IsBetween before after before
first_between before after = record { history = refl; known = refl; pictures = λ sig. inl refl }

-- an image stands for the first
pub stands_first : (before after : World) (image : FileName → List ℕ) → StandsFor image before → StandsEither before after image
stands_first before after image stands = inl (before, first_between before after, stands)

-- with these pictures one by one an image stands for a world too
pub stands_alike : (world other : World) (image : FileName → List ℕ) → other.history ≡ world.history → other.functions ≡ world.functions → ((sig : List ℕ) → other.pictures sig ≡ world.pictures sig) → StandsFor image world → StandsFor image other
stands_alike world other image history functions pictures stands = record {
  documents = subst (Stands image) (sym history) stands.documents;
  indexes = subst (λ (k : Kinds). StandFor k image other.pictures) (λ i. kinds_by (sym functions i) (sym history i)) (λ sig. subst (StandsOf (kinds_of world) sig image) (sym (pictures sig)) (stands.indexes sig));
  within = λ sig picture is. subst (λ (h : List _). picture.seq ≤ length h) (sym history) (stands.within sig picture (sym (pictures sig) ∙ is));
  owned = λ sig picture is. subst (λ h. HasSignature (first picture.seq h) sig) (sym history) (stands.owned sig picture (sym (pictures sig) ∙ is));
}

-- between a world and itself there is no other
pub stands_same : (world : World) (image : FileName → List ℕ) → StandsEither world world image → StandsFor image world
stands_same world image (inr stands) = stands
stands_same world image (inl (mid, between, stands)) =
    stands_alike mid world image (sym between.history) (sym between.known) (λ sig. ⊎_elim (λ same. sym same) (λ gone. gone.1 ∙ sym gone.0) (between.pictures sig)) stands

-- what a part of a cleanup leaves is between the world before it and the cleaned one
pub partly_between : (before after mid : World) → IsPartlyCleaned before mid → IsCleaned before after → IsBetween before after mid
partly_between before after mid partly cleaned = record {
  history = partly.history;
  known = partly.known;
  pictures = λ sig. ⊎_elim (λ same. inl same) (λ gone. inr (gone.0, ⊎_elim (λ stays. absurd (gone.1 stays.0)) (λ none. none.1) (cleaned.each sig))) (partly.fewer sig);
}

-- the pictures that are there are those that were
abbrev pub AreOfThem : Pictures → Pictures → Type 0
AreOfThem pictures fewer = (sig : List ℕ) (picture : Picture) → fewer sig ≡ Some picture → pictures sig ≡ Some picture

left_there : (was is : Option Picture) (Other : Type 0) (picture : Picture) → (is ≡ was) ⊎ ((is ≡ None) × Other) → is ≡ Some picture → was ≡ Some picture
left_there was is Other picture (inl same) there = sym same ∙ there
left_there was is Other picture (inr gone) there = let clash : None ≡ Some picture = sym gone.0 ∙ there in let no : ⊥ = cc in absurd no

pub between_fewer : (before after mid : World) → IsBetween before after mid → AreOfThem before.pictures mid.pictures
between_fewer before after mid between = λ sig picture there. left_there (before.pictures sig) (mid.pictures sig) (after.pictures sig ≡ None) picture (between.pictures sig) there

pub partly_fewer : (before mid : World) → IsPartlyCleaned before mid → AreOfThem before.pictures mid.pictures
partly_fewer before mid partly = λ sig picture there. left_there (before.pictures sig) (mid.pictures sig) _ picture (partly.fewer sig) there

pub cleaned_fewer : (before after : World) → IsCleaned before after → AreOfThem before.pictures after.pictures
cleaned_fewer before after cleaned = λ sig picture there. left_there (before.pictures sig) (after.pictures sig) _ picture (⊎_elim (λ stays. inl stays.1) (λ none. inr (none.1, none.0)) (cleaned.each sig)) there

-- so each is that of a design document
pub owned_left : (before mid : World) → mid.history ≡ before.history → AreOfThem before.pictures mid.pictures → AreOwned before.history before.pictures → AreOwned mid.history mid.pictures
owned_left before mid history fewer owned = λ sig picture there. subst (λ h. HasSignature (first picture.seq h) sig) (sym history) (owned sig picture (fewer sig picture there))

-- and none is newer
pub none_newer_left : (before mid : World) → mid.history ≡ before.history → AreOfThem before.pictures mid.pictures → NoneIsNewer before → NoneIsNewer mid
none_newer_left before mid history fewer within = λ sig picture there. subst (λ (h : List _). picture.seq ≤ length h) (sym history) (within sig picture (fewer sig picture there))
