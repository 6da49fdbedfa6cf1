-- What a pair stands for while it is opened, and the object that is opened.
use Rattle.std.proofs.Common.{◌≡◌, ◌⊎◌, inl, inr, ⊎_elim, ℕ, List, [], ◌∷◌, ◌++◌, length, Option, Some, None, refl, sym, ap, ◌∙◌, subst, arith}
use Rattle.std.specs.Prelude.{true, false, All}
use Rattle.std.proofs.lemmas.List.{take_all}
use Rattle.std.proofs.lemmas.List.Elements.{All-head, All-tail}
use Rattle.view_ports.specs.Disk.{Disk, IfTold, Moves, Tells}
use Rattle.view_ports.specs.File.{File, IsImage, settled}
use Rattle.view_ports.specs.declared.file_name.Stem.{Stem}
use Rattle.view_ports.specs.declared.file_name.FileName.{FileName}
use Rattle.view_ports.proofs.DiskRuns.{moves_wider}
use Rattle.view_ports.proofs.Images.{IsImage-settled}
use Rattle.view_ports.proofs.Told.{told_given}
use Rattle.gate_file.specs.declared.root.Root.{Root}
use Rattle.gate_file.specs.declared.gate.GateFile.{GateFile}
use Rattle.gate_file.specs.Header.{IsFit, newest}
use Rattle.gate_file.specs.GateFile.{name_of, root_of}
use Rattle.gate_file.specs.Open.{IsDropped, IsFirstDamage, IsOpened, IsWholeOrEmpty, WhileOpening, opened, side_in, side_of}
use Rattle.gate_file.specs.Pair.{EachStands, IsOfRoot, IsOpenPair, PairHolds, StandsFor, own_bytes}
use Rattle.gate_file.specs.RootPlace.{IsPlaceOf, IsRootDamage}
use Rattle.gate_file.specs.Shown.{HasAll, Shows}
use Rattle.gate_file.proofs.Beside.{slots_of_all, stands_beside}
use Rattle.gate_file.proofs.Images.{empty_stands, image_stands}
use Rattle.gate_file.proofs.Looks.{option_cases}
use Rattle.gate_file.proofs.Pairs.{sides}
use Rattle.gate_file.proofs.Taken.{first_dropped, is_of_pair, second_dropped, whole_length}

-- ---- images of the pair

pub has_all_same : (bytes image : List ℕ) → image ≡ bytes → HasAll bytes image
has_all_same bytes image same = subst (HasAll bytes) (sym same) (record { long = omega arith; rest = λ place behind within. refl })

module _ {X : Type 0} (stem : Stem) (Holds : Option Root → List ℕ → X → Type 0) (of_root : IsOfRoot Holds) where
  module _ (image seen : FileName → List ℕ) (x : X) (stands : StandsFor stem Holds seen x) where
    fits_seen : IsFit 0 (seen (side_of stem false)) × IsFit 4096 (seen (side_of stem false)) × IsFit 0 (seen (side_of stem true)) × IsFit 4096 (seen (side_of stem true))
    fits_seen = slots_of_all stem seen stands.fit

    shown_whole : (n : FileName) → image n ≡ seen n → IsFit 0 (seen n) → IsFit 4096 (seen n) → Shows (newest (seen n)) (seen n) (image n)
    shown_whole n same low high = record {
      names = ap newest same;
      low = subst (IsFit 0) (sym same) low;
      high = subst (IsFit 4096) (sym same) high;
      has = has_all_same (seen n) (image n) same;
    }

    -- what a root that is named by one side stands for
    holds_side : (n : FileName) (root : Option Root) → root_of (side_in stem seen) ≡ root → ((r : Root) → root ≡ Some r → name_of (side_in stem seen) ≡ n) → Holds root (seen n) x
    holds_side n None is named = of_root.rootless (seen (name_of (side_in stem seen))) (seen n) x (subst (λ r. Holds r (seen (name_of (side_in stem seen))) x) is stands.stands)
    holds_side n (Some r) is named =
        subst (λ b. Holds (Some r) b x) (ap seen (named r refl)) (subst (λ o. Holds o (seen (name_of (side_in stem seen))) x) is stands.stands)

    -- one side is dropped, the other whole
    stands_low : image (side_of stem false) ≡ seen (side_of stem false) → image (side_of stem true) ≡ [] → IsDropped (side_in stem seen) (side_of stem true) → StandsFor stem Holds image x
    stands_low whole none dropped =
        let low = side_of stem false in
        let is = second_dropped stem seen dropped in
        image_stands stem image low refl (λ n of_pair differs. ⊎_elim (λ same. absurd (differs same)) (λ same. ap image same ∙ none) (sides stem n of_pair))
        (newest (seen low)) (seen low) (shown_whole low whole fits_seen.0 fits_seen.1) Holds of_root x
        (holds_side low (newest (seen low)) is.root_is (λ r some. is.named))

    stands_high : image (side_of stem false) ≡ [] → image (side_of stem true) ≡ seen (side_of stem true) → IsDropped (side_in stem seen) (side_of stem false) → StandsFor stem Holds image x
    stands_high none whole dropped =
        let high = side_of stem true in
        let is = first_dropped stem seen fits_seen.2 fits_seen.3 dropped in
        image_stands stem image high refl (λ n of_pair differs. ⊎_elim (λ same. ap image same ∙ none) (λ same. absurd (differs same)) (sides stem n of_pair))
        (newest (seen high)) (seen high) (shown_whole high whole fits_seen.2 fits_seen.3) Holds of_root x
        (holds_side high (newest (seen high)) is.root_is is.named)

    -- both are dropped: there was no root
    stands_none : image (side_of stem false) ≡ [] → image (side_of stem true) ≡ [] → IsDropped (side_in stem seen) (side_of stem false) → IsDropped (side_in stem seen) (side_of stem true) → StandsFor stem Holds image x
    stands_none none_low none_high low high =
        let named = name_of (side_in stem seen) in
        let none : root_of (side_in stem seen) ≡ None = ⊎_elim (λ same. low (sym same)) (λ same. high (sym same)) (sides stem named (is_of_pair stem seen)) in
        empty_stands stem Holds of_root image (λ n of_pair. ⊎_elim (λ same. ap image same ∙ none_low) (λ same. ap image same ∙ none_high) (sides stem n of_pair)) x
        (of_root.rootless (seen named) [] x (subst (λ r. Holds r (seen named) x) none stands.stands))

  -- while the pair is opened of which each image stands for something, each image goes on to
  pub while_each : (files : FileName → File) (x : X) → EachStands stem Holds files x → (image : FileName → List ℕ) → WhileOpening stem files image → StandsFor stem Holds image x
  while_each files x each image (inl before) = each.images image before
  while_each files x each image (inr left) = by_sides (left (side_of stem false) refl) (left (side_of stem true) refl)
    where
      by_sides : IsWholeOrEmpty (opened stem files) (side_of stem false) (files (side_of stem false)).seen (image (side_of stem false))
          → IsWholeOrEmpty (opened stem files) (side_of stem true) (files (side_of stem true)).seen (image (side_of stem true)) → StandsFor stem Holds image x
      by_sides (inl low) (inl high) = stands_beside stem Holds image (λ n. (files n).seen) x each.seen
          (λ n of_pair. ⊎_elim (λ is. subst (λ k. image k ≡ (files k).seen) (sym is) low) (λ is. subst (λ k. image k ≡ (files k).seen) (sym is) high) (sides stem n of_pair))
      by_sides (inl low) (inr high) = stands_low image (λ n. (files n).seen) x each.seen low high.0 high.1
      by_sides (inr low) (inl high) = stands_high image (λ n. (files n).seen) x each.seen low.0 high low.1
      by_sides (inr low) (inr high) = stands_none image (λ n. (files n).seen) x each.seen low.0 high.0 low.1 high.1

  -- where nothing of the pair is pending, a crash leaves what is read
  pub each_of_pair : (files : FileName → File) (x : X) → PairHolds stem Holds files x → EachStands stem Holds files x
  each_of_pair files x holds = record {
    images = λ image before.
        stands_beside stem Holds image (λ n. (files n).seen) x holds.stands (λ n of_pair. IsImage-settled (files n).seen (image n) (subst (λ f. IsImage f (image n)) (holds.whole n of_pair) (before n of_pair)));
    seen = holds.stands;
  }

-- ---- the object that is opened

module _ (stem : Stem) (gate : GateFile) (old new : FileName → File) (gate_is : gate ≡ opened stem old) (is : IsOpened gate old new) where
  -- a file with a root has the bytes that were there
  pub opened_bytes : (root : Root) → root_of gate ≡ Some root → own_bytes gate new ≡ own_bytes gate old
  opened_bytes root some =
      let there : (opened stem old).root ≡ Some root = ap (λ (g : GateFile). g.root) (sym gate_is) ∙ some in
      let size : gate.length ≡ length (own_bytes gate old) =
      subst (λ (g : GateFile). g.length ≡ length (old g.name).seen) (sym gate_is) (whole_length stem (λ n. (old n).seen) root there) in
      ap (λ (f : File). f.seen) is.whole ∙ take_all gate.length (own_bytes gate old) (omega (arith, size))

  -- nothing is pending, and the other side is empty
  pub opened_open : IsOpenPair stem gate new
  opened_open = record {
    own = own_file;
    keeps = is.keeps;
    whole = is.whole ∙ ap settled (sym (ap (λ (f : File). f.seen) is.whole));
    other = λ n of_pair differs. is.other n (of_pair ∙ sym own_file) differs;
  }
    where
      own_file : (name_of gate).stem ≡ stem
      own_file = subst (λ (g : GateFile). g.name.stem ≡ stem) (sym gate_is) (is_of_pair stem (λ n. (old n).seen))

  -- a root record that is damaged once the pair is opened was so before
  pub opened_damaged : {X : Type 0} (Spells : Option Root → List ℕ → X → Type 0) (name : FileName) (at : ℕ) → IsRootDamage Spells gate (own_bytes gate new) name at
      → IsRootDamage Spells (opened stem old) (own_bytes (opened stem old) old) name at
  opened_damaged Spells name at damage = subst (λ (g : GateFile). IsRootDamage Spells g (own_bytes g old) name at) gate_is (by_root (option_cases (root_of gate)))
    where
      by_root : (root_of gate ≡ None) ⊎ ((r : Root) × (root_of gate ≡ Some r)) → IsRootDamage Spells gate (own_bytes gate old) name at
      by_root (inl none) = absurd (subst (λ root. IsPlaceOf root (name_of gate) name at) none damage.place)
      by_root (inr some) = subst (λ b. IsRootDamage Spells gate b name at) (opened_bytes some.0 some.1) damage

  -- what the pair stood for is held under the root of the object
  pub opened_seen : {X : Type 0} (Holds : Option Root → List ℕ → X → Type 0) → IsOfRoot Holds → (x : X) → StandsFor stem Holds (λ n. (old n).seen) x → Holds (root_of gate) (own_bytes gate new) x
  opened_seen {X} Holds of_root x stands = by_root (root_of gate) refl (subst (λ (g : GateFile). Holds (root_of g) (own_bytes g old) x) (sym gate_is) stands.stands)
    where
      by_root : (root : Option Root) → root_of gate ≡ root → Holds root (own_bytes gate old) x → Holds root (own_bytes gate new) x
      by_root None none held = of_root.rootless (own_bytes gate old) (own_bytes gate new) x held
      by_root (Some root) some held = subst (λ b. Holds (Some root) b x) (sym (opened_bytes root some)) held

  pub opened_holds : {X : Type 0} (Holds : Option Root → List ℕ → X → Type 0) → IsOfRoot Holds → (x : X) → PairHolds stem Holds old x → Holds (root_of gate) (own_bytes gate new) x
  opened_holds Holds of_root x holds = opened_seen Holds of_root x holds.stands

-- no slot is damaged of a pair that stands for something
pub undamaged_seen : {X : Type 0} (stem : Stem) (Holds : Option Root → List ℕ → X → Type 0) (files : FileName → File) (x : X) (name : FileName) (at : ℕ) → StandsFor stem Holds (λ n. (files n).seen) x → IsFirstDamage stem files name at → ⊥
undamaged_seen stem Holds files x name at stands damage =
    let P = λ (slot : FileName × ℕ). IsFit slot.1 (files slot.0).seen in
    let all : All P (damage.before ++ (name, at) ∷ damage.after) = subst (All P) damage.split stands.fit in
    let fit : IsFit at (files name).seen = All-at P damage.before (name, at) damage.after all in
    damage.damaged.1 (fit damage.damaged.0)
  where
    All-at : (P : FileName × ℕ → Type 0) (before : List (FileName × ℕ)) (slot : FileName × ℕ) (after : List (FileName × ℕ)) → All P (before ++ slot ∷ after) → P slot
    All-at P [] slot after all = All-head P slot after all
    All-at P (x ∷ xs) slot after all = All-at P xs slot after (All-tail P x (xs ++ slot ∷ after) all)

pub undamaged : {X : Type 0} (stem : Stem) (Holds : Option Root → List ℕ → X → Type 0) (files : FileName → File) (x : X) (name : FileName) (at : ℕ) → PairHolds stem Holds files x → IsFirstDamage stem files name at → ⊥
undamaged stem Holds files x name at holds = undamaged_seen stem Holds files x name at holds.stands

-- as a folder tells it: each image stands for what the pair stood for
pub opening_each : {X : Type 0} (stem : Stem) (Holds : Option Root → List ℕ → X → Type 0) → IsOfRoot Holds → (old new : Option (Disk FileName)) (Before : (FileName → File) → Type 0) (x : X)
    (ends : (FileName → File) → (FileName → File) → Type 0) (ends' : (FileName → File) → Type 0)
    → ((files : FileName → File) → Before files → EachStands stem Holds files x)
    → ((a b : Disk FileName) → Before a.now → ends a.now b.now → ends' b.now) → IfTold old (λ d. Before d.now)
    → Tells old new (λ a b. Moves (λ name. name.stem ≡ stem) (WhileOpening stem a.now) (ends a.now) a b)
    → Tells old new (Moves (λ name. name.stem ≡ stem) (λ image. StandsFor stem Holds image x) ends')
opening_each stem Holds of_root old new Before x ends ends' standing endings before moves =
    told_given old new (λ d. Before d.now) (λ a b. Moves (λ name. name.stem ≡ stem) (WhileOpening stem a.now) (ends a.now) a b)
    (Moves (λ name. name.stem ≡ stem) (λ image. StandsFor stem Holds image x) ends')
    (λ a b is moved.
    moves_wider (λ name. name.stem ≡ stem) (λ name. name.stem ≡ stem) (WhileOpening stem a.now) (λ image. StandsFor stem Holds image x) (ends a.now) ends' a b (λ n same. same)
    (λ image framed. while_each stem Holds of_root a.now x (standing a.now is) image framed.inside) (λ others ended. endings a b is ended) moved)
    before moves

pub opening_stands : {X : Type 0} (stem : Stem) (Holds : Option Root → List ℕ → X → Type 0) → IsOfRoot Holds → (old new : Option (Disk FileName)) (x : X)
    (ends : (FileName → File) → (FileName → File) → Type 0) (ends' : (FileName → File) → Type 0)
    → ((a b : Disk FileName) → PairHolds stem Holds a.now x → ends a.now b.now → ends' b.now) → IfTold old (λ d. PairHolds stem Holds d.now x)
    → Tells old new (λ a b. Moves (λ name. name.stem ≡ stem) (WhileOpening stem a.now) (ends a.now) a b)
    → Tells old new (Moves (λ name. name.stem ≡ stem) (λ image. StandsFor stem Holds image x) ends')
opening_stands stem Holds of_root old new x ends ends' =
    opening_each stem Holds of_root old new (λ files. PairHolds stem Holds files x) x ends ends' (λ files holds. each_of_pair stem Holds of_root files x holds)
