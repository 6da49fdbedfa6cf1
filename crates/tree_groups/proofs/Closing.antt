-- The files of one index change that is closed, and all others stay.
use Rattle.std.specs.Prelude.{◌≡◌, ◌≢◌, ℕ, List, Bool, true, false, Option, All, bytes_eq, if◌then◌else◌, slice_index_or, refl}
use Rattle.std.proofs.Common.{ap, sym, ◌∙◌, subst, ⊎_elim}
use Rattle.std.proofs.lemmas.Slice.Eq.{bytes_eq-Decides}
use Rattle.std.proofs.lemmas.List.Elements.{All-contains}
use Rattle.view_ports.specs.Disk.{Framed, OthersStay}
use Rattle.view_ports.specs.File.{File}
use Rattle.view_ports.specs.declared.file_name.FileName.{FileName}
use Rattle.view_ports.specs.declared.file_name.Stem.TheVariants.{View}
use Rattle.view_model.specs.Picture.{Picture}
use Rattle.tree_index.specs.declared.index.Index.{Index}
use Rattle.tree_index.specs.Calls.{IsOpen}
use Rattle.tree_index.specs.Held.{IsFileOf}
use Rattle.tree_index.specs.Index.{stem_of}
use Rattle.tree_groups.specs.declared.groups.Groups.{Groups}
use Rattle.tree_groups.specs.Groups.{open_of, AreAt, AreOpen, IsClosed}
use Rattle.tree_groups.specs.Pictures.{AreHeld, HoldsOf, IsAtOf, Kinds, Pictures, StandFor, StandsOf}
use Rattle.tree_groups.proofs.Standing.{at_still, held_stands, holds_still, open_still, other_stem, same_or_not}

-- these are the pictures but for this one
abbrev pub AreSetAt : List ℕ → Option Picture → Pictures → Pictures → Type 0
AreSetAt own picture pictures after = (after own ≡ picture) × ((sig : List ℕ) → (sig ≡ own → ⊥) → after sig ≡ pictures sig)

pub unset : (own : List ℕ) (pictures : Pictures) → AreSetAt own (pictures own) pictures pictures
unset own pictures = (refl, λ sig differs. refl)

abbrev pub set_at : List ℕ → Option Picture → Pictures → Pictures
set_at own picture pictures = λ sig. if bytes_eq sig own then picture else pictures sig

pub set_there : (own : List ℕ) (picture : Option Picture) (pictures : Pictures) → AreSetAt own picture pictures (set_at own picture pictures)
set_there own picture pictures = (
  ap (λ (t : Bool). if t then picture else pictures own) ((bytes_eq-Decides own own).1 refl),
  λ sig differs. by_test sig (bytes_eq sig own) refl differs,
)
  where
    by_test : (sig : List ℕ) (t : Bool) → bytes_eq sig own ≡ t → (sig ≡ own → ⊥) → (if bytes_eq sig own then picture else pictures sig) ≡ pictures sig
    by_test sig true is differs = absurd (differs ((bytes_eq-Decides sig own).0 is))
    by_test sig false is differs = ap (λ (t : Bool). if t then picture else pictures sig) is

module _ (kinds : Kinds) (own : List ℕ) (files : FileName → File) (pictures after : Pictures) (picture : Option Picture) (set : AreSetAt own picture pictures after) where
  -- an image
  pub set_stand : (image : FileName → List ℕ) → AreHeld kinds files pictures → Framed (IsFileOf (View own)) files (λ image. StandsOf kinds own image picture) image → StandFor kinds image after
  set_stand image held framed = λ sig. ⊎_elim
      (λ same. subst (λ s. StandsOf kinds s image (after s)) (sym same) (subst (λ p. StandsOf kinds own image p) (sym set.0) framed.inside))
      (λ differs. subst (λ p. StandsOf kinds sig image p) (sym (set.1 sig differs))
      (held_stands kinds sig files image (pictures sig) (held sig) (λ n of_pair. framed.outside n (other_stem sig own differs n of_pair))))
      (same_or_not sig own)

  module _ (files' : FileName → File) (others : OthersStay (IsFileOf (View own)) files files') where
    pub set_held : AreHeld kinds files pictures → HoldsOf kinds own files' picture → AreHeld kinds files' after
    set_held held here = λ sig. ⊎_elim
        (λ same. subst (λ s. HoldsOf kinds s files' (after s)) (sym same) (subst (λ p. HoldsOf kinds own files' p) (sym set.0) here))
        (λ differs. subst (λ p. HoldsOf kinds sig files' p) (sym (set.1 sig differs))
        (holds_still kinds sig files files' (pictures sig) (λ n of_pair. others n (other_stem sig own differs n of_pair)) (held sig)))
        (same_or_not sig own)

    -- an open index of other files
    pub other_at : (index : Index) → stem_of index ≢ View own → ((sig : List ℕ) → stem_of index ≡ View sig → IsAtOf kinds sig index files (pictures sig)) → (sig : List ℕ) → stem_of index ≡ View sig → IsAtOf kinds sig index files' (after sig)
    other_at index differs at sig named =
        let other : sig ≡ own → ⊥ = λ same. differs (named ∙ ap View same) in
        subst (IsAtOf kinds sig index files') (sym (set.1 sig other))
        (at_still index files files' (λ n of_pair. others n (λ is. differs (sym of_pair ∙ is))) (kinds sig).functions (kinds sig).views (pictures sig) (at sig named))

    module _ (groups groups' : Groups) (closed : IsClosed (View own) groups groups') where
      pub closed_each : All (λ index. (sig : List ℕ) → stem_of index ≡ View sig → IsAtOf kinds sig index files (pictures sig)) (open_of groups)
          → All (λ index. (sig : List ℕ) → stem_of index ≡ View sig → IsAtOf kinds sig index files' (after sig)) (open_of groups')
      closed_each each k d within =
          let index = slice_index_or (open_of groups') k d in
          other_at index (closed.gone k d within)
          (All-contains (λ index. (sig : List ℕ) → stem_of index ≡ View sig → IsAtOf kinds sig index files (pictures sig)) (open_of groups) index each (closed.others k d within))

      pub closed_at : AreAt kinds groups files pictures → HoldsOf kinds own files' picture → AreAt kinds groups' files' after
      closed_at at here = record { held = set_held at.held here; each = closed_each at.each }

-- whatever the files hold
pub closed_open : (own : List ℕ) (files files' : FileName → File) → OthersStay (IsFileOf (View own)) files files' → (groups groups' : Groups) → IsClosed (View own) groups groups' → AreOpen groups files → AreOpen groups' files'
closed_open own files files' others groups groups' closed are k d within =
    let index = slice_index_or (open_of groups') k d in
    open_still index files files' (λ n of_pair. others n (λ is. closed.gone k d within (sym of_pair ∙ is))) (All-contains (λ index. IsOpen index files) (open_of groups) index are (closed.others k d within))
