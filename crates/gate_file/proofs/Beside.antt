-- What is done to other files doesn't touch a pair.
use Rattle.std.proofs.Common.{◌≡◌, ℕ, List, [], ◌∷◌, Option, refl, sym, ap, ◌∙◌, subst}
use Rattle.std.specs.Prelude.{true, false, All, AllPairs}
use Rattle.std.proofs.lemmas.List.Elements.{All-nil, All-cons, All-head, All-tail}
use Rattle.view_ports.specs.File.{File, settled}
use Rattle.view_ports.specs.declared.file_name.Stem.{Stem}
use Rattle.view_ports.specs.declared.file_name.FileName.{FileName}
use Rattle.gate_file.specs.declared.root.Root.{Root}
use Rattle.gate_file.specs.declared.gate.GateFile.{GateFile}
use Rattle.gate_file.specs.Header.{slot_at, open_root, IsFit}
use Rattle.gate_file.specs.GateFile.{name_of, root_of, Keeps}
use Rattle.gate_file.specs.Open.{found, opened_of, side_in, side_of, slots_of}
use Rattle.gate_file.specs.Pair.{AreApart, IsOpenPair, PairHolds, StandsFor}
use Rattle.gate_file.proofs.Taken.{is_of_pair}

module _ (stem : Stem) (image : FileName → List ℕ) where
  -- the four slots
  pub slots_of_all : All (λ slot. IsFit slot.1 (image slot.0)) (slots_of stem)
      → IsFit 0 (image (side_of stem false)) × IsFit 4096 (image (side_of stem false)) × IsFit 0 (image (side_of stem true)) × IsFit 4096 (image (side_of stem true))
  slots_of_all all =
      let P = λ (slot : FileName × ℕ). IsFit slot.1 (image slot.0) in
      let second = All-tail P (side_of stem false, 0) ((side_of stem false, 4096) ∷ (side_of stem true, 0) ∷ (side_of stem true, 4096) ∷ []) all in
      let third = All-tail P (side_of stem false, 4096) ((side_of stem true, 0) ∷ (side_of stem true, 4096) ∷ []) second in
      let last = All-tail P (side_of stem true, 0) ((side_of stem true, 4096) ∷ []) third in (
        All-head P (side_of stem false, 0) ((side_of stem false, 4096) ∷ (side_of stem true, 0) ∷ (side_of stem true, 4096) ∷ []) all,
        All-head P (side_of stem false, 4096) ((side_of stem true, 0) ∷ (side_of stem true, 4096) ∷ []) second,
        All-head P (side_of stem true, 0) ((side_of stem true, 4096) ∷ []) third,
        All-head P (side_of stem true, 4096) [] last,
      )

  all_of_slots : IsFit 0 (image (side_of stem false)) → IsFit 4096 (image (side_of stem false)) → IsFit 0 (image (side_of stem true)) → IsFit 4096 (image (side_of stem true))
      → All (λ slot. IsFit slot.1 (image slot.0)) (slots_of stem)
  all_of_slots p q r s =
      let P = λ (slot : FileName × ℕ). IsFit slot.1 (image slot.0) in
      All-cons P (side_of stem false, 0) ((side_of stem false, 4096) ∷ (side_of stem true, 0) ∷ (side_of stem true, 4096) ∷ []) p
      (All-cons P (side_of stem false, 4096) ((side_of stem true, 0) ∷ (side_of stem true, 4096) ∷ []) q
      (All-cons P (side_of stem true, 0) ((side_of stem true, 4096) ∷ []) r (All-cons P (side_of stem true, 4096) [] s (All-nil P))))

abbrev roots_of : List ℕ → List ℕ → List (Option Root)
roots_of x y = open_root (slot_at x 0) ∷ open_root (slot_at x 4096) ∷ open_root (slot_at y 0) ∷ open_root (slot_at y 4096) ∷ []

-- images that agree on a pair stand for the same
pub stands_beside : {X : Type 0} (stem : Stem) (Holds : Option Root → List ℕ → X → Type 0) (image seen : FileName → List ℕ) (x : X) → StandsFor stem Holds seen x → ((n : FileName) → n.stem ≡ stem → image n ≡ seen n) → StandsFor stem Holds image x
stands_beside stem Holds image seen x stands same =
    let low = side_of stem false in
    let high = side_of stem true in
    let p : seen low ≡ image low = sym (same low refl) in
    let q : seen high ≡ image high = sym (same high refl) in
    let fits = slots_of_all stem seen stands.fit in
    record {
      fit = all_of_slots stem image (subst (IsFit 0) p fits.0) (subst (IsFit 4096) p fits.1) (subst (IsFit 0) q fits.2) (subst (IsFit 4096) q fits.3);
      apart = subst (λ b. AllPairs AreApart (roots_of (image low) b)) q (subst (λ a. AllPairs AreApart (roots_of a (seen high))) p stands.apart);
      stands = subst (λ b. Holds (root_of (opened_of (found low (image low)) (found high b))) (image (name_of (opened_of (found low (image low)) (found high b)))) x) q
          (subst (λ a. Holds (root_of (opened_of (found low a) (found high (seen high)))) (image (name_of (opened_of (found low a) (found high (seen high))))) x) p
          (subst (λ b. Holds (root_of (side_in stem seen)) b x) (sym (same (name_of (side_in stem seen)) (is_of_pair stem seen))) stands.stands));
    }

module _ (stem : Stem) (old new : FileName → File) (same : (n : FileName) → n.stem ≡ stem → new n ≡ old n) where
  -- a pair holds what it held
  pub holds_beside : {X : Type 0} (Holds : Option Root → List ℕ → X → Type 0) (x : X) → PairHolds stem Holds old x → PairHolds stem Holds new x
  holds_beside Holds x holds = record {
    whole = λ n of_pair. same n of_pair ∙ holds.whole n of_pair ∙ ap (λ (f : File). settled f.seen) (sym (same n of_pair));
    stands = stands_beside stem Holds (λ n. (new n).seen) (λ n. (old n).seen) x holds.stands (λ n of_pair. ap (λ (f : File). f.seen) (same n of_pair));
  }

  -- an open pair stays open
  pub open_beside : (gate : GateFile) → IsOpenPair stem gate old → IsOpenPair stem gate new
  open_beside gate is_open = record {
    own = is_open.own;
    keeps = subst (Keeps gate) (sym (same (name_of gate) is_open.own)) is_open.keeps;
    whole = subst (λ f. f ≡ settled f.seen) (sym (same (name_of gate) is_open.own)) is_open.whole;
    other = λ n of_pair differs. same n of_pair ∙ is_open.other n of_pair differs;
  }
