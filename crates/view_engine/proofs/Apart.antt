-- The documents and the indexes of a world lie in files apart: what changes in files of one index leaves the rest.
use Rattle.std.specs.Prelude.{◌≡◌, ◌≤◌, ℕ, List, Bool, true, false, if◌then◌else◌, bytes_eq, length, Option, Some, slice_index_or}
use Rattle.std.proofs.Common.{refl, sym, ap, ◌∙◌, subst, arith}
use Rattle.std.proofs.lemmas.Slice.Eq.{bytes_eq-Decides}
use Rattle.design_docs.specs.declared.design.Design.{Design}
use Rattle.view_ports.specs.Disk.{Framed}
use Rattle.view_ports.specs.File.{File, IsImage}
use Rattle.view_ports.specs.declared.file_name.FileName.{FileName}
use Rattle.view_ports.specs.declared.file_name.Stem.TheVariants.{Docs as DocsStem, View}
use Rattle.view_ports.proofs.Images.{IsImage-settled}
use Rattle.gate_file.specs.GateFile.{name_of}
use Rattle.gate_file.proofs.Beside.{stands_beside}
use Rattle.doc_file.specs.declared.docs.Docs.{Docs}
use Rattle.doc_file.specs.Docs.{entries_of, file_of, HoldsHistory, IsAt, IsDocsFile}
use Rattle.doc_file.specs.Held.{HoldsWrites, KeepsEach, Stands}
use Rattle.design_docs.specs.History.{Write}
use Rattle.doc_file.proofs.Stores.{at_holds}
use Rattle.tree_index.specs.Held.{IsFileOf}
use Rattle.view_model.specs.Picture.{Picture}
use Rattle.view_model.specs.Standing.{AreSetAt}
use Rattle.tree_groups.specs.declared.groups.Groups.{Groups}
use Rattle.tree_groups.specs.Groups.{open_of, AreAt as AreIndexesAt}
use Rattle.tree_groups.specs.Pictures.{AreHeld, HoldsOf, IsAtOf, Kinds, Pictures, StandFor, StandsOf}
use Rattle.tree_groups.specs.Reached.{sig_of}
use Rattle.tree_groups.proofs.Standing.{images_stand_around}
use Rattle.view_engine.specs.declared.engine.Engine.{Engine}
use Rattle.view_engine.specs.Signatures.{kinds_by, kinds_of, AreOwned, HasSignature}
use Rattle.view_engine.specs.World.{World, NoneIsNewer}
use Rattle.view_engine.specs.Worlds.{IsAtWorld, StandsFor}
use Rattle.view_engine.proofs.Beside.{open_beside_indexes}
use Rattle.view_engine.proofs.Signatures.{owned_set}

-- ---- the documents

-- documents that are at a history stay there, where files of others change
pub documents_beside : (docs : Docs) (files files' : FileName → File) → ((n : FileName) → IsDocsFile n → files' n ≡ files n) → (history : List Write) → IsAt docs files history → IsAt docs files' history
documents_beside docs files files' same history at = record {
  is_open = open_beside_indexes docs files files' same at.is_open;
  count = at.count;
  each = subst (λ (file : File). KeepsEach history file.seen (entries_of docs)) (sym (same (name_of (file_of docs)) at.is_open.pair.own)) at.each;
  stored = at.stored;
}

-- an image in which only files of others may be changed stands for the documents still
pub documents_stand : (docs : Docs) (files : FileName → File) (history : List Write) (image : FileName → List ℕ) → IsAt docs files history → ((n : FileName) → n.stem ≡ DocsStem → IsImage (files n) (image n)) → Stands image history
documents_stand docs files history image at left =
    let holds : HoldsHistory files history = at_holds docs files at.is_open history at in
    stands_beside DocsStem HoldsWrites image (λ n. (files n).seen) history holds.stands
    (λ n of_pair. IsImage-settled (files n).seen (image n) (subst (λ f. IsImage f (image n)) (holds.whole n of_pair) (left n of_pair)))

-- ---- the indexes

-- pictures that are the same one by one
module _ (kinds : Kinds) (pictures other : Pictures) (same : (sig : List ℕ) → pictures sig ≡ other sig) where
  pub held_alike : (files : FileName → File) → AreHeld kinds files pictures → AreHeld kinds files other
  held_alike files held = λ sig. subst (λ picture. HoldsOf kinds sig files picture) (same sig) (held sig)

  pub indexes_alike : (groups : Groups) (files : FileName → File) → AreIndexesAt kinds groups files pictures → AreIndexesAt kinds groups files other
  indexes_alike groups files at = record {
    held = held_alike files at.held;
    each = λ k d within sig named. subst (λ picture. IsAtOf kinds sig (slice_index_or (open_of groups) k d) files picture) (same sig) (at.each k d within sig named);
  }

-- ---- the picture of one signature

-- the pictures but for one signature are these, said in two ways
module _ (own : List ℕ) (next : Option Picture) (before after : Pictures) where
  pub own_is_set : AreSetAt own next before after → after own ≡ next
  own_is_set set = set own ∙ ap (λ b. if b then next else before own) ((bytes_eq-Decides own own).1 refl)

  pub others_stay : AreSetAt own next before after → (sig : List ℕ) → (sig ≡ own → ⊥) → after sig ≡ before sig
  others_stay set sig differs = set sig ∙ by_test (bytes_eq sig own) refl
    where
      by_test : (t : Bool) → bytes_eq sig own ≡ t → (if t then next else before sig) ≡ before sig
      by_test true is = absurd (differs ((bytes_eq-Decides sig own).0 is))
      by_test false is = refl

  pub set_is_alike : (other : Pictures) → AreSetAt own next before after → other own ≡ next → ((sig : List ℕ) → (sig ≡ own → ⊥) → other sig ≡ before sig) → (sig : List ℕ) → other sig ≡ after sig
  set_is_alike other set there elsewhere sig = by_test (bytes_eq sig own) refl
    where
      by_test : (t : Bool) → bytes_eq sig own ≡ t → other sig ≡ after sig
      by_test true is = let same = (bytes_eq-Decides sig own).0 is in ap other same ∙ there ∙ sym (own_is_set set) ∙ ap after (sym same)
      by_test false is = let differs : sig ≡ own → ⊥ = λ same. let yes : bytes_eq sig own ≡ true = (bytes_eq-Decides sig own).1 same in let no : ⊥ = cc in no in elsewhere sig differs ∙ sym (others_stay set sig differs)

-- where the next picture of a signature is of the whole history none is newer
pub none_newer_set : (own : List ℕ) (next : Picture) (before after : World) → NoneIsNewer before → next.seq ≡ length before.history → after.history ≡ before.history → AreSetAt own (Some next) before.pictures after.pictures → NoneIsNewer after
none_newer_set own next before after newer seq history set = λ sig picture is. by_test sig picture is (bytes_eq sig own) refl
  where
    by_test : (sig : List ℕ) (picture : Picture) → after.pictures sig ≡ Some picture → (t : Bool) → bytes_eq sig own ≡ t → picture.seq ≤ length after.history
    by_test sig picture is true test =
        let there : Some next ≡ Some picture = sym (set sig ∙ ap (λ b. if b then Some next else before.pictures sig) test) ∙ is in
        let same : next ≡ picture = cc in
        let long : length after.history ≡ length before.history = ap length history in
        let number : picture.seq ≡ length before.history = ap (λ (p : Picture). p.seq) (sym same) ∙ seq in
        omega (arith, long, number)
    by_test sig picture is false test =
        let there : before.pictures sig ≡ Some picture = sym (set sig ∙ ap (λ b. if b then Some next else before.pictures sig) test) ∙ is in
        let long : length after.history ≡ length before.history = ap length history in
        let within = newer sig picture there in
        omega (arith, long, within)

-- ---- a world whose files of one index may be changed

view_is_no_docs : (own : List ℕ) (n : FileName) → n.stem ≡ DocsStem → n.stem ≡ View own → ⊥
view_is_no_docs own n of_docs of_view = let clash : DocsStem ≡ View own = sym of_docs ∙ of_view in let no : ⊥ = cc in no

module _ (engine : Engine) (design : Design) (files : FileName → File) (world : World) (at : IsAtWorld engine files world) (P : (FileName → List ℕ) → Type 0) (image : FileName → List ℕ) (framed : Framed (IsFileOf (View (sig_of design))) files P image) where
  documents_there : Stands image world.history
  documents_there = documents_stand engine.docs files world.history image at.documents (λ n of_docs. framed.outside n (view_is_no_docs (sig_of design) n of_docs))

  -- an image of the old picture stands for the world
  pub old_stands : StandsOf (kinds_of world) (sig_of design) image (world.pictures (sig_of design)) → StandsFor image world
  old_stands stands = record {
    documents = documents_there;
    indexes = images_stand_around (kinds_of world) design files world.pictures world.pictures image (world.pictures (sig_of design)) at.indexes.held (record { inside = stands; outside = framed.outside }) (refl, λ sig differs. refl);
    within = at.within;
    owned = at.owned;
  }

  -- and one of the next for the world with that
  pub next_stands : HasSignature world.history (sig_of design) → (next : Picture) (after : World) → StandsOf (kinds_of world) (sig_of design) image (Some next) → next.seq ≡ length world.history → after.history ≡ world.history → after.functions ≡ world.functions
      → AreSetAt (sig_of design) (Some next) world.pictures after.pictures → StandsFor image after
  next_stands has next after stands seq history functions set = record {
    documents = subst (Stands image) (sym history) documents_there;
    indexes = subst (λ (k : Kinds). StandFor k image after.pictures) (λ i. kinds_by (sym functions i) (sym history i))
        (images_stand_around (kinds_of world) design files world.pictures after.pictures image (Some next) at.indexes.held (record { inside = stands; outside = framed.outside })
        (own_is_set (sig_of design) (Some next) world.pictures after.pictures set, others_stay (sig_of design) (Some next) world.pictures after.pictures set));
    owned = subst (λ h. AreOwned h after.pictures) (sym history) (owned_set world.history (sig_of design) next world.pictures after.pictures seq has at.owned set);
    within = none_newer_set (sig_of design) next world after at.within seq history set;
  }
