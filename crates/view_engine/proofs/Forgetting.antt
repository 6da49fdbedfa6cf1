-- Of which functions a world may be told, and what is held by files without bytes and by images.
use Rattle.std.specs.Prelude.{◌≡◌, ◌⊎◌, ℕ, List, [], Option, Some, None}
use Rattle.std.proofs.Common.{refl, sym, subst, inl, inr}
use Rattle.json_terms.specs.Json.{Json}
use Rattle.view_ports.specs.File.{File, settled}
use Rattle.view_ports.specs.Functions.{Functions}
use Rattle.view_ports.specs.declared.file_name.FileName.{FileName}
use Rattle.view_ports.specs.declared.file_name.Stem.TheVariants.{View}
use Rattle.view_ports.proofs.Images.{IsImage-settled}
use Rattle.gate_file.proofs.Beside.{stands_beside}
use Rattle.view_model.specs.Picture.{Picture}
use Rattle.tree_index.specs.Held.{HoldsIndex, HoldsPicture, Stands}
use Rattle.tree_groups.specs.declared.groups.Groups.{Groups}
use Rattle.tree_groups.specs.Groups.{AreAt as AreIndexesAt}
use Rattle.tree_groups.specs.Pictures.{forgetting as without_functions, AreHeld, Kind, StandFor}
use Rattle.tree_groups.proofs.Forgetting.{index_without, open_may_forget, stands_without}
use Rattle.tree_groups.proofs.Standing.{empty_folders_hold_none, none_holds, none_stands, open_kinds_are_free}
use Rattle.doc_file.specs.Laws.{EmptyFoldersHoldNoWrites}
use Rattle.view_engine.specs.Laws.{EmptyFoldersHoldWorlds, FilesMayBeTold, ImagesHold, ImagesMayBeTold}
use Rattle.view_engine.specs.Signatures.{kind_of, kinds_of, oldest_design}
use Rattle.view_engine.specs.World.{forgetting, knowing, World}
use Rattle.view_engine.specs.Worlds.{Holds, MayBeTold, StandsFor}

-- ---- other functions

module _ (world : World) (functions : List ℕ → List ℕ → Option Functions) (told : MayBeTold world functions) where
  image_told : (image : FileName → List ℕ) → StandFor (kinds_of world) image world.pictures → StandFor (kinds_of (knowing world functions)) image world.pictures
  image_told image stand = λ sig. elim (told sig) [
    | inl none ↦ subst (λ (p : Option Picture). Stands (kinds_of (knowing world functions) sig).functions (kinds_of (knowing world functions) sig).views (View sig) image p) (sym none)
        (none_stands (kinds_of world sig).functions (kinds_of (knowing world functions) sig).functions (kinds_of world sig).views (kinds_of (knowing world functions) sig).views (View sig) image
        (subst (λ (p : Option Picture). Stands (kinds_of world sig).functions (kinds_of world sig).views (View sig) image p) none (stand sig)))
    | inr known ↦ elim known [
      | inl same ↦ subst (λ (kind : Kind). Stands kind.functions kind.views (View sig) image (world.pictures sig)) (sym same) (stand sig)
      | inr less ↦ subst (λ (kind : Kind). Stands kind.functions kind.views (View sig) image (world.pictures sig)) (sym less)
          (stands_without (kinds_of world sig).functions (kinds_of world sig).views (View sig) image (world.pictures sig) (stand sig))
    ]
  ]

  held_told : (files : FileName → File) → AreHeld (kinds_of world) files world.pictures → AreHeld (kinds_of (knowing world functions)) files world.pictures
  held_told files held = λ sig. elim (told sig) [
    | inl none ↦ subst (λ (p : Option Picture). HoldsIndex (kinds_of (knowing world functions) sig).functions (kinds_of (knowing world functions) sig).views (View sig) files p) (sym none)
        (none_holds (kinds_of world sig).functions (kinds_of (knowing world functions) sig).functions (kinds_of world sig).views (kinds_of (knowing world functions) sig).views (View sig) files
        (subst (λ (p : Option Picture). HoldsIndex (kinds_of world sig).functions (kinds_of world sig).views (View sig) files p) none (held sig)))
    | inr known ↦ elim known [
      | inl same ↦ subst (λ (kind : Kind). HoldsIndex kind.functions kind.views (View sig) files (world.pictures sig)) (sym same) (held sig)
      | inr less ↦ subst (λ (kind : Kind). HoldsIndex kind.functions kind.views (View sig) files (world.pictures sig)) (sym less)
          (index_without (kinds_of world sig).functions (kinds_of world sig).views (View sig) files (world.pictures sig) (held sig))
    ]
  ]

pub images_may_be_told : ImagesMayBeTold
images_may_be_told image world functions told stands = record { documents = stands.documents; indexes = image_told world functions told image stands.indexes; within = stands.within; owned = stands.owned }

pub files_may_be_told : FilesMayBeTold
files_may_be_told files world functions told holds = record { documents = holds.documents; indexes = held_told world functions told files holds.indexes; within = holds.within; owned = holds.owned }

-- ---- no functions

-- of which kind a signature is then
forgotten_kind : (functions : List ℕ → Option Functions) (design : Option Json) → kind_of (λ language. None) design ≡ record { views = (kind_of functions design).views; functions = None }
forgotten_kind functions None = refl
forgotten_kind functions (Some document) = refl

same_kind : (world : World) (sig : List ℕ) → kinds_of (forgetting world) sig ≡ without_functions (kinds_of world) sig
same_kind world sig = forgotten_kind (world.functions sig) (oldest_design world.history sig)

pub may_forget : (world : World) → MayBeTold world (λ sig language. None)
may_forget world = λ sig. inr (inr (same_kind world sig))

pub indexes_forget : (groups : Groups) (files : FileName → File) (world : World) → AreIndexesAt (kinds_of world) groups files world.pictures → AreIndexesAt (kinds_of (forgetting world)) groups files world.pictures
indexes_forget groups files world at =
    open_kinds_are_free (without_functions (kinds_of world)) (kinds_of (forgetting world)) groups files world.pictures (λ sig. inr (same_kind world sig)) (open_may_forget (kinds_of world) groups files world.pictures at)

-- ---- without bytes, and behind a stop

pub empty_folders_hold_worlds : EmptyFoldersHoldNoWrites → EmptyFoldersHoldWorlds
empty_folders_hold_worlds no_writes files empty functions = record {
  documents = no_writes files (λ n of_docs. empty n);
  indexes = empty_folders_hold_none (kinds_of (record { history = []; pictures = λ sig. None; functions = functions })) files empty;
  within = λ sig picture is. absurd (let clash : ⊥ = cc in clash);
  owned = λ sig picture is. absurd (let clash : ⊥ = cc in clash);
}

pub images_hold : ImagesHold
images_hold image world stands = record {
  documents = record { whole = λ n of_docs. refl; stands = stands.documents };
  indexes = λ sig. record {
    images = λ left is. stands_beside (View sig) (HoldsPicture (kinds_of world sig).functions (kinds_of world sig).views) left image (world.pictures sig) (stands.indexes sig) (λ n of_view. IsImage-settled (image n) (left n) (is n of_view));
    seen = stands.indexes sig;
  };
  within = stands.within;
  owned = stands.owned;
}
