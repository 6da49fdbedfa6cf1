-- What an image of a pair stands for of which one side has no bytes.
use Rattle.std.proofs.Common.{◌≡◌, ◌≢◌, ◌⊎◌, inl, inr, ⊎_elim, ℕ, ◌<◌, ◌≤◌, List, [], ◌∷◌, length, Option, Some, None, All, AllPairs, refl, sym, ap, ◌∙◌, subst, arith}
use Rattle.std.specs.Prelude.{true, false}
use Rattle.std.proofs.lemmas.Bool.Decides.{nat_tests}
use Rattle.std.proofs.lemmas.List.Elements.{All-nil, All-cons}
use Rattle.std.proofs.lemmas.List.Kept.{AllPairs-cons}
use Rattle.view_ports.specs.File.{File, settled}
use Rattle.view_ports.specs.declared.file_name.Stem.{Stem}
use Rattle.view_ports.specs.declared.file_name.FileName.{FileName}
use Rattle.gate_file.specs.declared.root.Root.{Root}
use Rattle.gate_file.specs.declared.gate.GateFile.{GateFile}
use Rattle.gate_file.specs.Header.{data_start, slot_at, place_of, open_root, IsFit, newer, newest}
use Rattle.gate_file.specs.GateFile.{name_of, root_of}
use Rattle.gate_file.specs.Open.{found, found_newest, opened_of, side_in, side_of, slots_of}
use Rattle.gate_file.specs.Pair.{AreApart, IsOfRoot, PairHolds, StandsFor, open_roots}
use Rattle.gate_file.specs.Shown.{Shows}
use Rattle.gate_file.proofs.Pairs.{sides, apart as sides_differ}
use Rattle.gate_file.proofs.Looks.{newest_of, opened_slot, option_cases}
use Rattle.gate_file.proofs.SlotFacts.{open_root-closed, IsFit-closed, fit_at}
use Rattle.gate_file.proofs.Windows.{get_or-window}

closed_there : (at : ℕ) → open_root (slot_at [] at) ≡ None
closed_there at = open_root-closed (slot_at [] at) (λ opened. omega (arith, get_or-window [] at 65 64 (omega arith), opened))

fit_there : (at : ℕ) → IsFit at []
fit_there at = IsFit-closed at [] (λ opened. omega (arith, get_or-window [] at 65 64 (omega arith), opened))

none_there : newest [] ≡ None
none_there = ap (λ o. newer o (open_root (slot_at [] 4096))) (closed_there 0) ∙ closed_there 4096

-- what is found by the root of the last commit
pub found_is : (name : FileName) (bytes : List ℕ) (root : Option Root) → newest bytes ≡ root
    → found name bytes ≡ found_newest name (length bytes) (open_root (slot_at bytes 0)) (open_root (slot_at bytes 4096)) root
found_is name bytes root is = ap (λ o. found_newest name (length bytes) (open_root (slot_at bytes 0)) (open_root (slot_at bytes 4096)) o) is

record Picked (gate : GateFile) (name : FileName) (root : Option Root) : Type 0 where
  root_is : gate.root ≡ root
  name_is : (r : Root) → root ≡ Some r → gate.name ≡ name

-- of a side that shows a root and one without bytes the first is taken
picked_low : (name other : FileName) (bytes : List ℕ) (root : Option Root) → newest bytes ≡ root → Picked (opened_of (found name bytes) (found other [])) name root
picked_low name other bytes None is =
    let first = found_is name bytes None is in
    let second = found_is other [] None none_there in
    subst (λ g. Picked (opened_of g (found other [])) name None) (sym first) (subst (λ g. Picked (opened_of (found_newest name (length bytes) (open_root (slot_at bytes 0)) (open_root (slot_at bytes 4096)) None) g) name None) (sym second)
    (record { root_is = refl; name_is = λ r never. absurd (let clash : ⊥ = cc in clash) }))
picked_low name other bytes (Some root) is =
    let first = found_is name bytes (Some root) is in
    let second = found_is other [] None none_there in
    let gate = found_newest name (length bytes) (open_root (slot_at bytes 0)) (open_root (slot_at bytes 4096)) (Some root) in
    let empty = found_newest other 0 (open_root (slot_at [] 0)) (open_root (slot_at [] 4096)) None in
    let picks : opened_of gate empty ≡ gate = grind (arith, nat_tests) in
    subst (λ g. Picked (opened_of g (found other [])) name (Some root)) (sym first) (subst (λ g. Picked (opened_of gate g) name (Some root)) (sym second)
    (subst (λ g. Picked g name (Some root)) (sym picks) (record { root_is = refl; name_is = λ r same. refl })))

picked_high : (name other : FileName) (bytes : List ℕ) (root : Option Root) → IsFit 0 bytes → IsFit 4096 bytes → newest bytes ≡ root → Picked (opened_of (found other []) (found name bytes)) name root
picked_high name other bytes None low high is =
    let first = found_is other [] None none_there in
    let second = found_is name bytes None is in
    subst (λ g. Picked (opened_of g (found name bytes)) name None) (sym first) (subst (λ g. Picked (opened_of (found_newest other 0 (open_root (slot_at [] 0)) (open_root (slot_at [] 4096)) None) g) name None) (sym second)
    (record { root_is = refl; name_is = λ r never. absurd (let clash : ⊥ = cc in clash) }))
picked_high name other bytes (Some root) low high is =
    let some : 0 < root.number = (newest_of bytes root low high is).some in
    let first = found_is other [] None none_there in
    let second = found_is name bytes (Some root) is in
    let gate = found_newest name (length bytes) (open_root (slot_at bytes 0)) (open_root (slot_at bytes 4096)) (Some root) in
    let empty = found_newest other 0 (open_root (slot_at [] 0)) (open_root (slot_at [] 4096)) None in
    let picks : opened_of empty gate ≡ gate = grind (arith, nat_tests) in
    subst (λ g. Picked (opened_of g (found name bytes)) name (Some root)) (sym first) (subst (λ g. Picked (opened_of empty g) name (Some root)) (sym second)
    (subst (λ g. Picked g name (Some root)) (sym picks) (record { root_is = refl; name_is = λ r same. refl })))

-- the two slots of one file don't name the same commit
one_file : (bytes : List ℕ) → IsFit 0 bytes → IsFit 4096 bytes → AreApart (open_root (slot_at bytes 0)) (open_root (slot_at bytes 4096))
one_file bytes low high = by_cases (option_cases (open_root (slot_at bytes 0))) (option_cases (open_root (slot_at bytes 4096)))
  where
    by_cases : (open_root (slot_at bytes 0) ≡ None) ⊎ ((root : Root) × (open_root (slot_at bytes 0) ≡ Some root)) → (open_root (slot_at bytes 4096) ≡ None) ⊎ ((root : Root) × (open_root (slot_at bytes 4096) ≡ Some root))
        → AreApart (open_root (slot_at bytes 0)) (open_root (slot_at bytes 4096))
    by_cases (inl none) second = subst (λ o. AreApart o (open_root (slot_at bytes 4096))) (sym none) tt
    by_cases (inr some) (inl none) = subst (λ o. AreApart o (open_root (slot_at bytes 4096))) (sym some.1) (subst (λ o. AreApart (Some some.0) o) (sym none) tt)
    by_cases (inr a) (inr b) =
        let first = opened_slot (slot_at bytes 0) a.0 a.1 in
        let second = opened_slot (slot_at bytes 4096) b.0 b.1 in
        let low_place : place_of (a.0).number ≡ 0 = ap (λ (r : Root). place_of r.number) (sym first.1) ∙ (low first.0).own_place in
        let high_place : place_of (b.0).number ≡ 4096 = ap (λ (r : Root). place_of r.number) (sym second.1) ∙ (high second.0).own_place in
        subst (λ o. AreApart o (open_root (slot_at bytes 4096))) (sym a.1) (subst (λ o. AreApart (Some a.0) o) (sym b.1) (λ same. omega (arith, ap place_of same)))

apart_none : (o : Option Root) → AreApart o None
apart_none None = tt
apart_none (Some root) = tt

AllPairs-nil : (R : Option Root → Option Root → Type 0) → AllPairs R []
AllPairs-nil R = λ i j d before within. absurd (omega arith)

-- no slot of one file names the commit of a slot of the other
abbrev Across : List ℕ → List ℕ → Type 0
Across low high =
    AreApart (open_root (slot_at low 0)) (open_root (slot_at high 0)) × AreApart (open_root (slot_at low 0)) (open_root (slot_at high 4096))
    × AreApart (open_root (slot_at low 4096)) (open_root (slot_at high 0)) × AreApart (open_root (slot_at low 4096)) (open_root (slot_at high 4096))

-- a root that the slots of a file name lies behind them
pub root_behind : (bytes : List ℕ) → IsFit 0 bytes → IsFit 4096 bytes → (root : Root) → newest bytes ≡ Some root → data_start ≤ root.offset
root_behind bytes low high root is =
    let newest_is = newest_of bytes root low high is in
    let slot = opened_slot (slot_at bytes (place_of root.number)) root newest_is.last in
    let sound = fit_at bytes low high root.number slot.0 in
    subst (λ (r : Root). data_start ≤ r.offset) slot.1 sound.behind_slots

-- Of the pair only the side of this name has bytes, and they show this root.
module _ (stem : Stem) (image : FileName → List ℕ) (name : FileName) (own : name.stem ≡ stem) (empty : (n : FileName) → n.stem ≡ stem → n ≢ name → image n ≡ [])
    (root : Option Root) (bytes : List ℕ) (shows : Shows root bytes (image name)) where
  -- what holds of the side of this name and of one without bytes
  each_side : (P : FileName → List ℕ → Type 0) → P name (image name) → ((n : FileName) → P n []) → (n : FileName) → n.stem ≡ stem → (n ≡ name) ⊎ (n ≢ name) → P n (image n)
  each_side P here there n of_pair (inl same) = subst (λ k. P k (image k)) (sym same) here
  each_side P here there n of_pair (inr differs) = subst (P n) (sym (empty n of_pair differs)) (there n)

  low_is : (side_of stem false ≡ name) ⊎ (side_of stem false ≢ name)
  low_is = ⊎_elim (λ is. inl (sym is)) (λ is. inr (λ same. sides_differ stem (sym (same ∙ is)))) (sides stem name own)

  high_is : (side_of stem true ≡ name) ⊎ (side_of stem true ≢ name)
  high_is = ⊎_elim (λ is. inr (λ same. sides_differ stem (same ∙ is))) (λ is. inl (sym is)) (sides stem name own)

  low_fit : IsFit 0 (image (side_of stem false)) × IsFit 4096 (image (side_of stem false))
  low_fit = each_side (λ n b. IsFit 0 b × IsFit 4096 b) (shows.low, shows.high) (λ n. (fit_there 0, fit_there 4096)) (side_of stem false) refl low_is

  high_fit : IsFit 0 (image (side_of stem true)) × IsFit 4096 (image (side_of stem true))
  high_fit = each_side (λ n b. IsFit 0 b × IsFit 4096 b) (shows.low, shows.high) (λ n. (fit_there 0, fit_there 4096)) (side_of stem true) refl high_is

  slots_fit : All (λ slot. IsFit slot.1 (image slot.0)) (slots_of stem)
  slots_fit =
      let P = λ (slot : FileName × ℕ). IsFit slot.1 (image slot.0) in
      let last = All-cons P (side_of stem true, 4096) [] high_fit.1 (All-nil P) in
      let third = All-cons P (side_of stem true, 0) ((side_of stem true, 4096) ∷ []) high_fit.0 last in
      let second = All-cons P (side_of stem false, 4096) ((side_of stem true, 0) ∷ (side_of stem true, 4096) ∷ []) low_fit.1 third in
      All-cons P (side_of stem false, 0) ((side_of stem false, 4096) ∷ (side_of stem true, 0) ∷ (side_of stem true, 4096) ∷ []) low_fit.0 second

  -- no two slots name the same commit
  slots_apart : AllPairs AreApart (open_roots stem image)
  slots_apart =
      let a = open_root (slot_at (image (side_of stem false)) 0) in
      let b = open_root (slot_at (image (side_of stem false)) 4096) in
      let c = open_root (slot_at (image (side_of stem true)) 0) in
      let d = open_root (slot_at (image (side_of stem true)) 4096) in
      let low_pair : AreApart a b = one_file (image (side_of stem false)) low_fit.0 low_fit.1 in
      let high_pair : AreApart c d = one_file (image (side_of stem true)) high_fit.0 high_fit.1 in
      let across = ⊎_elim low_empty high_empty (sides stem name own) in
      AllPairs-cons AreApart a (b ∷ c ∷ d ∷ []) (All-cons (AreApart a) b (c ∷ d ∷ []) low_pair (All-cons (AreApart a) c (d ∷ []) across.0 (All-cons (AreApart a) d [] across.1 (All-nil (AreApart a)))))
      (AllPairs-cons AreApart b (c ∷ d ∷ []) (All-cons (AreApart b) c (d ∷ []) across.2 (All-cons (AreApart b) d [] across.3 (All-nil (AreApart b))))
      (AllPairs-cons AreApart c (d ∷ []) (All-cons (AreApart c) d [] high_pair (All-nil (AreApart c)))
      (AllPairs-cons AreApart d [] (All-nil (AreApart d)) (AllPairs-nil AreApart))))
    where
      low_empty : name ≡ side_of stem false → Across (image (side_of stem false)) (image (side_of stem true))
      low_empty low =
          let other : image (side_of stem true) ≡ [] = empty (side_of stem true) refl (λ same. sides_differ stem (same ∙ low)) in
          let closed : (at : ℕ) → open_root (slot_at (image (side_of stem true)) at) ≡ None = λ at. ap (λ bs. open_root (slot_at bs at)) other ∙ closed_there at in
          let beside : (o : Option Root) (at : ℕ) → AreApart o (open_root (slot_at (image (side_of stem true)) at)) = λ o at. subst (AreApart o) (sym (closed at)) (apart_none o) in
          (beside (open_root (slot_at (image (side_of stem false)) 0)) 0, beside (open_root (slot_at (image (side_of stem false)) 0)) 4096, beside (open_root (slot_at (image (side_of stem false)) 4096)) 0, beside (open_root (slot_at (image (side_of stem false)) 4096)) 4096)

      high_empty : name ≡ side_of stem true → Across (image (side_of stem false)) (image (side_of stem true))
      high_empty high =
          let other : image (side_of stem false) ≡ [] = empty (side_of stem false) refl (λ same. sides_differ stem (sym (same ∙ high))) in
          let closed : (at : ℕ) → open_root (slot_at (image (side_of stem false)) at) ≡ None = λ at. ap (λ bs. open_root (slot_at bs at)) other ∙ closed_there at in
          let beside : (o : Option Root) (at : ℕ) → AreApart (open_root (slot_at (image (side_of stem false)) at)) o = λ o at. subst (λ p. AreApart p o) (sym (closed at)) tt in
          (beside (open_root (slot_at (image (side_of stem true)) 0)) 0, beside (open_root (slot_at (image (side_of stem true)) 4096)) 0, beside (open_root (slot_at (image (side_of stem true)) 0)) 4096, beside (open_root (slot_at (image (side_of stem true)) 4096)) 4096)

  -- the side that is taken
  picked : Picked (side_in stem image) name root
  picked = ⊎_elim
      (λ low. pick_low low)
      (λ high. pick_high high)
      (sides stem name own)
    where
      pick_low : name ≡ side_of stem false → Picked (side_in stem image) name root
      pick_low low =
          let other : image (side_of stem true) ≡ [] = empty (side_of stem true) refl (λ same. sides_differ stem (same ∙ low)) in
          let here : Picked (opened_of (found (side_of stem false) (image (side_of stem false))) (found (side_of stem true) [])) (side_of stem false) root =
          picked_low (side_of stem false) (side_of stem true) (image (side_of stem false)) root (subst (λ n. newest (image n) ≡ root) low shows.names) in
          subst (λ n. Picked (side_in stem image) n root) (sym low) (subst (λ b. Picked (opened_of (found (side_of stem false) (image (side_of stem false))) (found (side_of stem true) b)) (side_of stem false) root) (sym other) here)

      pick_high : name ≡ side_of stem true → Picked (side_in stem image) name root
      pick_high high =
          let other : image (side_of stem false) ≡ [] = empty (side_of stem false) refl (λ same. sides_differ stem (sym (same ∙ high))) in
          let here : Picked (opened_of (found (side_of stem false) []) (found (side_of stem true) (image (side_of stem true)))) (side_of stem true) root =
          picked_high (side_of stem true) (side_of stem false) (image (side_of stem true)) root high_fit.0 high_fit.1 (subst (λ n. newest (image n) ≡ root) high shows.names) in
          subst (λ n. Picked (side_in stem image) n root) (sym high) (subst (λ b. Picked (opened_of (found (side_of stem false) b) (found (side_of stem true) (image (side_of stem true)))) (side_of stem true) root) (sym other) here)

  -- a root that is shown lies behind the slots
  shown_behind : (r : Root) → root ≡ Some r → data_start ≤ r.offset
  shown_behind r is = root_behind (image name) shows.low shows.high r (shows.names ∙ is)

  -- it stands for what is held under this root in bytes that it has
  pub image_stands : {X : Type 0} (Holds : Option Root → List ℕ → X → Type 0) → IsOfRoot Holds → (x : X) → Holds root bytes x → StandsFor stem Holds image x
  image_stands {X} Holds of_root x holds = record {
    fit = slots_fit;
    apart = slots_apart;
    stands = by_root root refl picked holds;
  }
    where
      by_root : (r : Option Root) → root ≡ r → Picked (side_in stem image) name r → Holds r bytes x → Holds (root_of (side_in stem image)) (image (name_of (side_in stem image))) x
      by_root None none is held = subst (λ o. Holds o (image (name_of (side_in stem image))) x) (sym is.root_is) (of_root.rootless bytes (image (name_of (side_in stem image))) x held)
      by_root (Some r) some is held =
          subst (λ o. Holds o (image (name_of (side_in stem image))) x) (sym is.root_is)
          (subst (λ n. Holds (Some r) (image n) x) (sym (is.name_is r refl)) (of_root.rooted r bytes (image name) x (shown_behind r some) shows.has held))

-- a pair without bytes stands for what is held without a root
pub empty_stands : {X : Type 0} (stem : Stem) (Holds : Option Root → List ℕ → X → Type 0) → IsOfRoot Holds → (image : FileName → List ℕ) → ((n : FileName) → n.stem ≡ stem → image n ≡ []) → (x : X)
    → Holds None [] x → StandsFor stem Holds image x
empty_stands stem Holds of_root image empty x holds =
    let none = empty (side_of stem false) refl in
    image_stands stem image (side_of stem false) refl (λ n of_pair differs. empty n of_pair) None []
    (record {
      names = ap newest none ∙ none_there;
      low = subst (IsFit 0) (sym none) (fit_there 0);
      high = subst (IsFit 4096) (sym none) (fit_there 4096);
      has = record { long = omega arith; rest = λ place behind within. absurd (omega arith) };
    })
    Holds of_root x holds

-- nothing is pending of a pair without bytes, and it stands for what is held without a root
pub empty_holds : {X : Type 0} (stem : Stem) (Holds : Option Root → List ℕ → X → Type 0) → IsOfRoot Holds → (files : FileName → File) → ((n : FileName) → n.stem ≡ stem → files n ≡ settled []) → (x : X)
    → Holds None [] x → PairHolds stem Holds files x
empty_holds stem Holds of_root files empty x holds =
    let no_bytes : (n : FileName) → n.stem ≡ stem → (files n).seen ≡ [] = λ n of_pair. ap (λ (f : File). f.seen) (empty n of_pair) in
    record {
      whole = λ n of_pair. empty n of_pair ∙ ap settled (sym (no_bytes n of_pair));
      stands = empty_stands stem Holds of_root (λ n. (files n).seen) no_bytes x holds;
    }
