-- Pictures in files and images, and what is of no matter to them.
use Rattle.std.specs.Prelude.{◌≡◌, ◌≢◌, ◌⊎◌, ℕ, List, [], Bool, true, false, Option, None, Some, bytes_eq, slice_index_or, refl}
use Rattle.std.proofs.Common.{ap, sym, ◌∙◌, subst, inl, inr, ⊎_elim}
use Rattle.std.proofs.lemmas.Slice.Eq.{bytes_eq-Decides}
use Rattle.std.proofs.lemmas.List.Elements.{All-nil, All-same}
use Rattle.view_ports.specs.Functions.{Functions}
use Rattle.view_ports.specs.File.{File, IsImage}
use Rattle.view_ports.specs.declared.file_name.FileName.{FileName}
use Rattle.view_ports.specs.declared.file_name.Stem.{Stem}
use Rattle.view_ports.specs.declared.file_name.Stem.TheVariants.{Docs as DocsStem, View}
use Rattle.gate_file.specs.declared.root.Root.{Root}
use Rattle.gate_file.specs.GateFile.{name_of, root_of, Keeps}
use Rattle.gate_file.proofs.Beside.{stands_beside}
use Rattle.design_docs.specs.declared.design.View.{View as DesignView}
use Rattle.json_terms.specs.declared.term.Row.{Row}
use Rattle.node_file.specs.Records.{node_at}
use Rattle.index_trees.specs.declared.trees.IndexTrees.{IndexTrees}
use Rattle.index_trees.specs.Trees.{HoldRows}
use Rattle.view_model.specs.Picture.{Picture}
use Rattle.tree_index.specs.declared.index.Index.{Index}
use Rattle.tree_index.specs.Calls.{said_of, HasTrees, IsAt, IsOpen}
use Rattle.tree_index.specs.Held.{HoldsIndex, HoldsPicture, Says, Stands}
use Rattle.tree_index.specs.Index.{file_of, last_of, next_in, next_of, picture_of, stem_of, views_of}
use Rattle.tree_index.proofs.Carried.{empty_stands_none}
use Rattle.tree_groups.specs.Cleans.{IsIndexFile}
use Rattle.tree_groups.specs.Groups.{open_of}
use Rattle.tree_groups.specs.Laws.{EmptyFoldersHoldNone, FilesStand, ImageKindsAreFree, ImagesStand, ImagesStandAround, KindsAreFree, NoneOpenAreAt, OpenKindsAreFree, OtherImagesMatterNot, OthersMatterNot}
use Rattle.tree_groups.specs.Pictures.{AreHeld, HoldsOf, IsAtOf, Kind, Kinds, Pictures, StandsOf}
use Rattle.tree_groups.specs.Reached.{sig_of}

pub same_or_not : (a b : List ℕ) → (a ≡ b) ⊎ (a ≢ b)
same_or_not a b = by_test (bytes_eq a b) refl
  where
    by_test : (t : Bool) → bytes_eq a b ≡ t → (a ≡ b) ⊎ (a ≢ b)
    by_test true is = inl ((bytes_eq-Decides a b).0 is)
    by_test false is = inr (λ same. let yes : bytes_eq a b ≡ true = (bytes_eq-Decides a b).1 same in let no : ⊥ = cc in no)

-- a file of one index is of no other
pub other_stem : (sig own : List ℕ) → sig ≢ own → (n : FileName) → n.stem ≡ View sig → n.stem ≡ View own → ⊥
other_stem sig own differs n of_one of_other = differs (let same : View sig ≡ View own = sym of_one ∙ of_other in cc)

-- each open index is of some signature
pub view_of : (stem : Stem) → stem ≢ DocsStem → (sig : List ℕ) × (stem ≡ View sig)
view_of DocsStem never = absurd (never refl)
view_of (View sig) never = (sig, refl)

-- ---- one index

-- what a crash leaves of files that hold a picture
pub held_stands : (kinds : Kinds) (sig : List ℕ) (files : FileName → File) (image : FileName → List ℕ) (picture : Option Picture) → HoldsOf kinds sig files picture
    → ((n : FileName) → n.stem ≡ View sig → IsImage (files n) (image n)) → StandsOf kinds sig image picture
held_stands kinds sig files image picture holds left = holds.images image left

-- files that are the same hold the same
pub holds_still : (kinds : Kinds) (sig : List ℕ) (files files' : FileName → File) (picture : Option Picture) → ((n : FileName) → n.stem ≡ View sig → files' n ≡ files n) → HoldsOf kinds sig files picture → HoldsOf kinds sig files' picture
holds_still kinds sig files files' picture same holds = record {
  images = λ image left. holds.images image (λ n of_pair. subst (λ (f : File). IsImage f (image n)) (same n of_pair) (left n of_pair));
  seen = stands_beside (View sig) (HoldsPicture (kinds sig).functions (kinds sig).views) (λ n. (files' n).seen) (λ n. (files n).seen) picture holds.seen (λ n of_pair. ap (λ (f : File). f.seen) (same n of_pair));
}

module _ (index : Index) (files files' : FileName → File) (same : (n : FileName) → n.stem ≡ stem_of index → files' n ≡ files n) where
  own_file : files' (name_of (file_of index)) ≡ files (name_of (file_of index))
  own_file = same (name_of (file_of index)) refl

  pub open_still : IsOpen index files → IsOpen index files'
  open_still is_open = record {
    keeps = subst (Keeps (file_of index)) (sym own_file) is_open.keeps;
    other = λ n of_pair differs. same n of_pair ∙ is_open.other n of_pair differs;
    commits = is_open.commits;
    says = subst (λ (file : File). Says (views_of index) (root_of (file_of index)) file.seen (said_of index)) (sym own_file) is_open.says;
    last_room = is_open.last_room;
    next_room = is_open.next_room;
  }

  trees_still : (functions : Option Functions) (views : List DesignView) (trees : IndexTrees) (rows : List (List Row)) → HasTrees functions views index files trees rows → HasTrees functions views index files' trees rows
  trees_still functions views trees rows holds = subst (λ (f : File). HoldRows functions views (node_at f.seen) trees rows) (sym own_file) holds

  pub at_still : (functions : Option Functions) (views : List DesignView) (picture : Option Picture) → IsAt functions views index files picture → IsAt functions views index files' picture
  at_still functions views picture at = record {
    is_open = open_still at.is_open;
    number = at.number;
    holds = subst (λ (f : File). HoldsPicture functions views (root_of (file_of index)) f.durable picture) (sym own_file) at.holds;
    last = at.last;
    trees = trees_still functions views (last_of index) (picture_of index).rows at.trees;
    next = trees_still functions views (next_of index) (next_in index) at.next;
  }

-- ---- laws

pub images_stand : ImagesStand
images_stand kinds files pictures image held is = λ sig. held_stands kinds sig files image (pictures sig) (held sig) (λ n of_pair. is n)

pub files_stand : FilesStand
files_stand kinds files pictures held = λ sig. (held sig).seen

-- pictures that are held by files that are the same
pub held_still : (kinds : Kinds) (files files' : FileName → File) (pictures : Pictures) → ((n : FileName) → IsIndexFile n → files' n ≡ files n) → AreHeld kinds files pictures → AreHeld kinds files' pictures
held_still kinds files files' pictures same held = λ sig. holds_still kinds sig files files' (pictures sig) (λ n of_pair. same n (sig, of_pair)) (held sig)

pub others_matter_not : OthersMatterNot
others_matter_not kinds groups files files' pictures same = (
  λ at. record {
    held = held_still kinds files files' pictures same at.held;
    each = λ k d within sig named. at_still (slice_index_or (open_of groups) k d) files files' (λ n of_pair. same n (sig, of_pair ∙ named)) (kinds sig).functions (kinds sig).views (pictures sig) (at.each k d within sig named);
  },
  λ is_open k d within. let sig = view_of (stem_of (slice_index_or (open_of groups) k d)) (groups.of_views k d within) in open_still (slice_index_or (open_of groups) k d) files files' (λ n of_pair. same n (sig.0, of_pair ∙ sig.1)) (is_open k d within),
)

pub other_images_matter_not : OtherImagesMatterNot
other_images_matter_not kinds image image' pictures same stand = λ sig. stands_beside (View sig) (HoldsPicture (kinds sig).functions (kinds sig).views) image' image (pictures sig) (stand sig) (λ n of_pair. same n (sig, of_pair))

pub empty_folders_hold_none : EmptyFoldersHoldNone
empty_folders_hold_none kinds files empty = λ sig. empty_stands_none (kinds sig).functions (kinds sig).views (View sig) files (λ n of_pair. empty n)

pub none_open_are_at : NoneOpenAreAt
none_open_are_at kinds groups files pictures none held = record {
  held = held;
  each = All-same (λ index. (sig : List ℕ) → stem_of index ≡ View sig → IsAtOf kinds sig index files (pictures sig)) (open_of groups) [] none
      (All-nil (λ index. (sig : List ℕ) → stem_of index ≡ View sig → IsAtOf kinds sig index files (pictures sig)));
}

pub images_stand_around : ImagesStandAround
images_stand_around kinds design files pictures after image picture held framed set = λ sig. ⊎_elim
    (λ same. subst (λ s. StandsOf kinds s image (after s)) (sym same) (subst (λ p. StandsOf kinds (sig_of design) image p) (sym set.0) framed.inside))
    (λ differs. subst (λ p. StandsOf kinds sig image p) (sym (set.1 sig differs))
    (held_stands kinds sig files image (pictures sig) (held sig) (λ n of_pair. framed.outside n (other_stem sig (sig_of design) differs n of_pair))))
    (same_or_not sig (sig_of design))

-- ---- a signature without a picture

-- without a root nothing is held, of whatever views
none_of_any : (functions functions' : Option Functions) (views views' : List DesignView) (root : Option Root) (bytes : List ℕ) → HoldsPicture functions views root bytes None → HoldsPicture functions' views' root bytes None
none_of_any functions functions' views views' None bytes holds = tt
none_of_any functions functions' views views' (Some root) bytes holds = absurd holds

pub none_stands : (functions functions' : Option Functions) (views views' : List DesignView) (stem : Stem) (image : FileName → List ℕ) → Stands functions views stem image None → Stands functions' views' stem image None
none_stands functions functions' views views' stem image stands = record { fit = stands.fit; apart = stands.apart; stands = none_of_any functions functions' views views' _ _ stands.stands }

pub none_holds : (functions functions' : Option Functions) (views views' : List DesignView) (stem : Stem) (files : FileName → File) → HoldsIndex functions views stem files None → HoldsIndex functions' views' stem files None
none_holds functions functions' views views' stem files holds = record {
  images = λ image left. none_stands functions functions' views views' stem image (holds.images image left);
  seen = none_stands functions functions' views views' stem (λ n. (files n).seen) holds.seen;
}

pub kinds_are_free : KindsAreFree
kinds_are_free kinds kinds' files pictures free held = λ sig. ⊎_elim
    (λ none. subst (λ (p : Option Picture). HoldsIndex (kinds' sig).functions (kinds' sig).views (View sig) files p) (sym none)
    (none_holds (kinds sig).functions (kinds' sig).functions (kinds sig).views (kinds' sig).views (View sig) files (subst (λ (p : Option Picture). HoldsIndex (kinds sig).functions (kinds sig).views (View sig) files p) none (held sig))))
    (λ same. subst (λ (kind : Kind). HoldsIndex kind.functions kind.views (View sig) files (pictures sig)) (sym same) (held sig))
    (free sig)

pub image_kinds_are_free : ImageKindsAreFree
image_kinds_are_free kinds kinds' image pictures free stand = λ sig. ⊎_elim
    (λ none. subst (λ (p : Option Picture). StandsOf kinds' sig image p) (sym none)
    (none_stands (kinds sig).functions (kinds' sig).functions (kinds sig).views (kinds' sig).views (View sig) image (subst (λ (p : Option Picture). StandsOf kinds sig image p) none (stand sig))))
    (λ same. subst (λ (kind : Kind). Stands kind.functions kind.views (View sig) image (pictures sig)) (sym same) (stand sig))
    (free sig)

pub open_kinds_are_free : OpenKindsAreFree
open_kinds_are_free kinds kinds' groups files pictures free at = record {
  held = kinds_are_free kinds kinds' files pictures (λ sig. ⊎_elim (λ none. inl none.0) (λ same. inr same) (free sig)) at.held;
  each = λ k d within sig named. ⊎_elim (λ none. absurd (none.1 k d within named))
      (λ same. subst (λ (kind : Kind). IsAt kind.functions kind.views (slice_index_or (open_of groups) k d) files (pictures sig)) (sym same) (at.each k d within sig named)) (free sig);
}
