-- Both files of a pair while it is opened.
use Rattle.std.proofs.Common.{◌≡◌, ◌≢◌, ◌⊎◌, inl, inr, ⊎_elim, ℕ, ◌<◌, ◌≤◌, List, [], ◌∷◌, length, take, Option, Some, None, All, refl, sym, ap, ◌∙◌, subst, arith}
use Rattle.std.specs.Prelude.{Bool, true, false, is_none}
use Rattle.std.proofs.lemmas.Bool.Decides.{nat_tests}
use Rattle.std.proofs.lemmas.List.{take_all}
use Rattle.std.proofs.lemmas.List.Elements.{All-nil, All-cons}
use Rattle.view_ports.specs.File.{File, IsImage, settled}
use Rattle.view_ports.specs.Disk.{Disk, Moves, MovesFile, SeenStays}
use Rattle.view_ports.specs.declared.file_name.Stem.{Stem}
use Rattle.view_ports.specs.declared.file_name.FileName.{FileName}
use Rattle.view_ports.proofs.Images.{IsImage-settled}
use Rattle.view_ports.proofs.DiskRuns.{moves_wider, moves_then}
use Rattle.gate_file.specs.declared.root.Root.{Root}
use Rattle.gate_file.specs.declared.gate.GateFile.{GateFile}
use Rattle.gate_file.specs.Header.{slot_at, open_root, IsOpen, IsFit, newer}
use Rattle.gate_file.specs.GateFile.{Keeps, IsOlder}
use Rattle.gate_file.specs.Open.{found, found_newest, side_of, opened, opened_of, IsDropped, IsWholeOrEmpty, BeforeOpening, WhileOpening, IsOpened, slots_of, IsFitSlot, IsFirstDamage, IsFirstIn, IsPair, IsSettledPair}
use Rattle.gate_file.proofs.Windows.{get_or-window}
use Rattle.gate_file.proofs.SlotFacts.{open_root-closed, IsFit-closed}
use Rattle.gate_file.proofs.FileFacts.{settled_keeps}
use Rattle.gate_file.proofs.Cuts.{Cut}
use Rattle.gate_file.proofs.Looks.{found_keeps}

-- a name of a pair is that of one of its sides
pub sides : (stem : Stem) (name : FileName) → name.stem ≡ stem → (name ≡ side_of stem false) ⊎ (name ≡ side_of stem true)
sides stem name of_pair = by_side name.side refl
  where
    by_side : (b : Bool) → name.side ≡ b → (name ≡ side_of stem false) ⊎ (name ≡ side_of stem true)
    by_side false is = inl (λ i. record { stem = of_pair i; side = is i })
    by_side true is = inr (λ i. record { stem = of_pair i; side = is i })

pub apart : (stem : Stem) → side_of stem true ≢ side_of stem false
apart stem same = let clash : true ≡ false = ap (λ (n : FileName). n.side) same in let never : ⊥ = cc in never

-- Both are looked at.
module _ (stem : Stem) where
  abbrev OfPair : FileName → Type 0
  OfPair name = name.stem ≡ stem

  within : (side : Bool) (name : FileName) → name ≡ side_of stem side → name.stem ≡ stem
  within side name is = ap (λ (n : FileName). n.stem) is

  -- the images of both sides
  both_images : (files : FileName → File) (image : FileName → List ℕ) → IsImage (files (side_of stem false)) (image (side_of stem false)) → IsImage (files (side_of stem true)) (image (side_of stem true)) → BeforeOpening stem files image
  both_images files image first second = λ name of_pair. ⊎_elim
      (λ is. subst (λ n. IsImage (files n) (image n)) (sym is) first)
      (λ is. subst (λ n. IsImage (files n) (image n)) (sym is) second)
      (sides stem name of_pair)

  pub looked_first : (E : File → File → Type 0) (X : (FileName → File) → Type 0) (a b : Disk FileName)
      → (E (a.now (side_of stem false)) (b.now (side_of stem false)) → b.now (side_of stem true) ≡ a.now (side_of stem true) → X b.now)
      → MovesFile (side_of stem false) (λ file image. IsImage file image) E a b → Moves (λ name. name.stem ≡ stem) (BeforeOpening stem a.now) X a b
  looked_first E X a b endings moves =
      moves_wider (λ n. n ≡ side_of stem false) (λ name. name.stem ≡ stem) (λ image. IsImage (a.now (side_of stem false)) (image (side_of stem false))) (BeforeOpening stem a.now)
      (λ files. E (a.now (side_of stem false)) (files (side_of stem false))) X a b (within false)
      (λ image framed. both_images a.now image framed.inside (framed.outside (side_of stem true) (apart stem)))
      (λ others ended. endings ended (others (side_of stem true) (apart stem)))
      moves

  pub looked_second : (E : File → File → Type 0) (X : (FileName → File) → Type 0) (a b c : Disk FileName) → SeenStays a
      → (E (a.now (side_of stem true)) (c.now (side_of stem true)) → c.now (side_of stem false) ≡ settled (a.now (side_of stem false)).seen → X c.now)
      → MovesFile (side_of stem false) (λ file image. IsImage file image) (λ file now. now ≡ settled file.seen) a b
      → MovesFile (side_of stem true) (λ file image. IsImage file image) E b c → Moves (λ name. name.stem ≡ stem) (BeforeOpening stem a.now) X a c
  looked_second E X a b c stays endings first second =
      let first_moves : Moves (λ name. name.stem ≡ stem) (BeforeOpening stem a.now) (λ files. (files (side_of stem false) ≡ settled (a.now (side_of stem false)).seen) × (files (side_of stem true) ≡ a.now (side_of stem true))) a b =
      looked_first (λ file now. now ≡ settled file.seen) (λ files. (files (side_of stem false) ≡ settled (a.now (side_of stem false)).seen) × (files (side_of stem true) ≡ a.now (side_of stem true))) a b (λ ended same. (ended, same)) first in
      let ended = first_moves.ended in
      let kept : (image : List ℕ) → IsImage (b.now (side_of stem false)) image → IsImage (a.now (side_of stem false)) image =
      λ image is. subst (IsImage (a.now (side_of stem false))) (sym (IsImage-settled (a.now (side_of stem false)).seen image (subst (λ file. IsImage file image) ended.0 is))) (stays (side_of stem false)) in
      let second_moves : Moves (λ name. name.stem ≡ stem) (BeforeOpening stem a.now) X b c =
      moves_wider (λ n. n ≡ side_of stem true) (λ name. name.stem ≡ stem) (λ image. IsImage (b.now (side_of stem true)) (image (side_of stem true))) (BeforeOpening stem a.now)
      (λ files. E (b.now (side_of stem true)) (files (side_of stem true))) X b c (within true)
      (λ image framed. both_images a.now image
      (kept (image (side_of stem false)) (framed.outside (side_of stem false) (λ same. apart stem (sym same))))
      (subst (λ file. IsImage file (image (side_of stem true))) ended.1 framed.inside))
      (λ others e. endings (subst (λ file. E file (c.now (side_of stem true))) ended.1 e) (others (side_of stem false) (λ same. apart stem (sym same)) ∙ ended.0))
      second in
      moves_then (λ name. name.stem ≡ stem) (BeforeOpening stem a.now) (BeforeOpening stem a.now) (BeforeOpening stem a.now)
      (λ files. (files (side_of stem false) ≡ settled (a.now (side_of stem false)).seen) × (files (side_of stem true) ≡ a.now (side_of stem true))) X X a b c
      (λ image left. left) (λ e image left. left) (λ e x. x) first_moves second_moves

  pub settled_both : (old new : FileName → File) → new (side_of stem false) ≡ settled (old (side_of stem false)).seen → new (side_of stem true) ≡ settled (old (side_of stem true)).seen → IsSettledPair stem old new
  settled_both old new first second = λ name of_pair. ⊎_elim
      (λ is. subst (λ n. new n ≡ settled (old n).seen) (sym is) first)
      (λ is. subst (λ n. new n ≡ settled (old n).seen) (sym is) second)
      (sides stem name of_pair)

  -- Sides are emptied: `n` is one side, and `m` the other.
  module _ (n m : FileName) (cover : (name : FileName) → name.stem ≡ stem → (name ≡ n) ⊎ (name ≡ m)) (n_in : n.stem ≡ stem) (m_in : m.stem ≡ stem) (differ : m ≢ n) where
    each_side : (gate : GateFile) (seen : FileName → List ℕ) (image : FileName → List ℕ) → IsWholeOrEmpty gate n (seen n) (image n) → IsWholeOrEmpty gate m (seen m) (image m)
        → (name : FileName) → name.stem ≡ stem → IsWholeOrEmpty gate name (seen name) (image name)
    each_side gate seen image first second name of_pair = ⊎_elim
        (λ is. subst (λ k. IsWholeOrEmpty gate k (seen k) (image k)) (sym is) first)
        (λ is. subst (λ k. IsWholeOrEmpty gate k (seen k) (image k)) (sym is) second)
        (cover name of_pair)

    -- what a cut leaves of a side of which nothing is pending
    cut_side : (gate : GateFile) (name : FileName) (file : File) (bytes image : List ℕ) → IsDropped gate name → file ≡ settled bytes → Cut file image → IsWholeOrEmpty gate name bytes image
    cut_side gate name file bytes image dropped same left = ⊎_elim
        (λ is. inl (IsImage-settled bytes image (subst (λ f. IsImage f image) same is)))
        (λ none. inr (none, dropped))
        left

    pub emptied_one : (E : File → File → Type 0) (X : (FileName → File) → Type 0) (a b c : Disk FileName) → IsDropped (opened stem a.now) n
        → (E (b.now n) (c.now n) → c.now m ≡ settled (a.now m).seen → X c.now)
        → Moves (λ name. name.stem ≡ stem) (BeforeOpening stem a.now) (IsSettledPair stem a.now) a b
        → MovesFile n Cut E b c → Moves (λ name. name.stem ≡ stem) (WhileOpening stem a.now) X a c
    emptied_one E X a b c dropped endings first second =
        let gate = opened stem a.now in
        let settled_pair = first.ended in
        let second_moves : Moves (λ name. name.stem ≡ stem) (WhileOpening stem a.now) X b c =
        moves_wider (λ k. k ≡ n) (λ name. name.stem ≡ stem) (λ image. Cut (b.now n) (image n)) (WhileOpening stem a.now) (λ files. E (b.now n) (files n)) X b c
        (λ name is. ap (λ (k : FileName). k.stem) is ∙ n_in)
        (λ image framed. inr (each_side gate (λ k. (a.now k).seen) image
        (cut_side gate n (b.now n) (a.now n).seen (image n) dropped (settled_pair n n_in) framed.inside)
        (inl (IsImage-settled (a.now m).seen (image m) (subst (λ f. IsImage f (image m)) (settled_pair m m_in) (framed.outside m differ))))))
        (λ others e. endings e (others m differ ∙ settled_pair m m_in))
        second in
        moves_then (λ name. name.stem ≡ stem) (BeforeOpening stem a.now) (WhileOpening stem a.now) (WhileOpening stem a.now) (IsSettledPair stem a.now) X X a b c
        (λ image left. inl left) (λ e image left. left) (λ e x. x) first second_moves

    pub emptied_both : (E : File → File → Type 0) (X : (FileName → File) → Type 0) (a b c : Disk FileName) → IsDropped (opened stem a.now) n → IsDropped (opened stem a.now) m
        → (E (b.now m) (c.now m) → c.now n ≡ settled [] → X c.now)
        → Moves (λ name. name.stem ≡ stem) (WhileOpening stem a.now) (λ files. (files n ≡ settled []) × (files m ≡ settled (a.now m).seen)) a b
        → MovesFile m Cut E b c → Moves (λ name. name.stem ≡ stem) (WhileOpening stem a.now) X a c
    emptied_both E X a b c dropped dropped_m endings first second =
        let gate = opened stem a.now in
        let ended = first.ended in
        let other : n ≢ m = λ same. differ (sym same) in
        let second_moves : Moves (λ name. name.stem ≡ stem) (WhileOpening stem a.now) X b c =
        moves_wider (λ k. k ≡ m) (λ name. name.stem ≡ stem) (λ image. Cut (b.now m) (image m)) (WhileOpening stem a.now) (λ files. E (b.now m) (files m)) X b c
        (λ name is. ap (λ (k : FileName). k.stem) is ∙ m_in)
        (λ image framed. inr (each_side gate (λ k. (a.now k).seen) image
        (inr (IsImage-settled [] (image n) (subst (λ f. IsImage f (image n)) ended.0 (framed.outside n other)), dropped))
        (cut_side gate m (b.now m) (a.now m).seen (image m) dropped_m ended.1 framed.inside)))
        (λ others e. endings e (others n other ∙ ended.0))
        second in
        moves_then (λ name. name.stem ≡ stem) (WhileOpening stem a.now) (WhileOpening stem a.now) (WhileOpening stem a.now) (λ files. (files n ≡ settled []) × (files m ≡ settled (a.now m).seen)) X X a b c
        (λ image left. left) (λ e image left. left) (λ e x. x) first second_moves

-- What is found of a file.
found_name : (name : FileName) (size : ℕ) (low high root : Option Root) → (found_newest name size low high root).name ≡ name
found_name name size low high None = refl
found_name name size low high (Some root) = refl

found_length : (name : FileName) (size : ℕ) (low high root : Option Root) → (found_newest name size low high root).length ≡ size
found_length name size low high None = refl
found_length name size low high (Some root) = refl

found_root : (name : FileName) (size : ℕ) (low high root : Option Root) → (found_newest name size low high root).root ≡ root
found_root name size low high None = refl
found_root name size low high (Some root) = refl

found_commits : (name : FileName) (size : ℕ) (low high root : Option Root) → 0 < (found_newest name size low high root).commits → (r : Root) × (root ≡ Some r)
found_commits name size low high None some = absurd (omega arith)
found_commits name size low high (Some root) some = (root, refl)

module _ (gate : GateFile) (name : FileName) (bytes : List ℕ) (is : gate ≡ found name bytes) where
  abbrev low : Option Root
  low = open_root (slot_at bytes 0)

  abbrev high : Option Root
  high = open_root (slot_at bytes 4096)

  pub name_is : gate.name ≡ name
  name_is = ap (λ (g : GateFile). g.name) is ∙ found_name name (length bytes) (open_root (slot_at bytes 0)) (open_root (slot_at bytes 4096)) (newer (open_root (slot_at bytes 0)) (open_root (slot_at bytes 4096)))

  pub length_is : gate.length ≡ length bytes
  length_is = ap (λ (g : GateFile). g.length) is ∙ found_length name (length bytes) (open_root (slot_at bytes 0)) (open_root (slot_at bytes 4096)) (newer (open_root (slot_at bytes 0)) (open_root (slot_at bytes 4096)))

  pub root_is : gate.root ≡ newer (open_root (slot_at bytes 0)) (open_root (slot_at bytes 4096))
  root_is = ap (λ (g : GateFile). g.root) is ∙ found_root name (length bytes) (open_root (slot_at bytes 0)) (open_root (slot_at bytes 4096)) (newer (open_root (slot_at bytes 0)) (open_root (slot_at bytes 4096)))

  pub has_root : 0 < gate.commits → (root : Root) × (gate.root ≡ Some root)
  has_root some =
      let r = found_commits name (length bytes) (open_root (slot_at bytes 0)) (open_root (slot_at bytes 4096)) (newer (open_root (slot_at bytes 0)) (open_root (slot_at bytes 4096))) (subst (λ (g : GateFile). 0 < g.commits) is some) in
      (r.0, root_is ∙ r.1)

  -- the object that is opened, where it has a root
  pub taken : (root : Root) → gate.root ≡ Some root → IsFit 0 bytes → IsFit 4096 bytes → (old new : FileName → File) → (old name).seen ≡ bytes → new name ≡ settled bytes
      → ((n : FileName) → n.stem ≡ name.stem → n ≢ name → new n ≡ settled []) → IsOpened gate old new
  taken root some fit_low fit_high old new seen now_is others = record {
    keeps = subst (λ (n : FileName). Keeps gate (new n)) (sym name_is) (subst (Keeps gate) (sym now_is) (subst (λ (g : GateFile). Keeps g (settled bytes)) (sym is) (found_keeps name bytes root fit_low fit_high (sym root_is ∙ some))));
    whole = subst (λ (n : FileName). new n ≡ settled (take gate.length (old n).seen)) (sym name_is)
        (now_is ∙ ap settled (sym (ap (take gate.length) seen ∙ take_all gate.length bytes (omega (arith, length_is)))));
    other = λ n of_pair differs. others n (of_pair ∙ ap (λ (k : FileName). k.stem) name_is) (λ same. differs (same ∙ sym name_is));
  }

  -- the object that is opened, where it has none
  pub rootless : gate.root ≡ None → gate ≡ record { name = name; length = length bytes; commits = 0; root = None; next_is_open = false }
  rootless none = is ∙ ap (λ o. found_newest name (length bytes) (open_root (slot_at bytes 0)) (open_root (slot_at bytes 4096)) o) (sym root_is ∙ none)

  empty_closed : (at : ℕ) → IsOpen (slot_at [] at) → ⊥
  empty_closed at opened = omega (arith, get_or-window [] at 65 64 (omega arith), opened)

  new_keeps : Keeps (record { name = name; length = 0; commits = 0; root = None; next_is_open = false }) (settled [])
  new_keeps = record {
    size = refl;
    new = λ none. refl;
    made = λ some. absurd (omega arith);
    durable = settled_keeps [];
    last = open_root-closed (slot_at [] 0) (empty_closed 0);
    counted = tt;
    next = subst (λ o. IsOlder o None) (sym (open_root-closed (slot_at [] 4096) (empty_closed 4096))) tt;
    next_open = (λ never. absurd (let clash : ⊥ = cc in clash), λ opened. absurd (empty_closed 4096 opened));
    low = IsFit-closed 0 [] (empty_closed 0);
    high = IsFit-closed 4096 [] (empty_closed 4096);
  }

  pub taken_new : gate.root ≡ None → (old new : FileName → File) → new name ≡ settled [] → ((n : FileName) → n.stem ≡ name.stem → n ≢ name → new n ≡ settled []) → IsOpened (record gate { length = 0 }) old new
  taken_new none old new now_is others =
      subst (λ (g : GateFile). IsOpened (record g { length = 0 }) old new) (sym (rootless none)) (record {
        keeps = subst (Keeps (record { name = name; length = 0; commits = 0; root = None; next_is_open = false })) (sym now_is) new_keeps;
        whole = now_is;
        other = others;
      })

-- Which is opened.
module _ (stem : Stem) (files : FileName → File) (first second : GateFile) (pair : IsPair stem files first second) where
  opened_is : opened stem files ≡ opened_of first second
  opened_is = λ i. opened_of (sym pair.first_is i) (sym pair.second_is i)

  pub opens_second : first.commits < second.commits → second ≡ opened stem files
  opens_second rises = sym (opened_is ∙ (let picks : opened_of first second ≡ second = grind (arith, nat_tests) in picks))

  pub opens_first : second.commits ≤ first.commits → (root : Root) → first.root ≡ Some root → first ≡ opened stem files
  opens_first falls root some =
      let some_is : is_none first.root ≡ false = ap (λ o. is_none o) some in
      sym (opened_is ∙ (let picks : opened_of first second ≡ first = grind (arith, nat_tests) in picks))

  pub opens_new : second.commits ≤ first.commits → first.root ≡ None → record first { length = 0 } ≡ opened stem files
  opens_new falls none =
      let none_is : is_none first.root ≡ true = ap (λ o. is_none o) none in
      sym (opened_is ∙ (let picks : opened_of first second ≡ record first { length = 0 } = grind (arith, nat_tests) in picks))

-- The first slot that is damaged.
module _ (stem : Stem) (files : FileName → File) where
  pub damage_first : (n : FileName) (at : ℕ) → n ≡ side_of stem false → IsFirstIn (files (side_of stem false)).seen at → IsFirstDamage stem files n at
  damage_first n at name_same damage = subst (λ k. IsFirstDamage stem files k at) (sym name_same) (⊎_elim
      (λ low. subst (IsFirstDamage stem files (side_of stem false)) (sym low.0) (record {
        damaged = low.1;
        before = [];
        after = (side_of stem false, 4096) ∷ (side_of stem true, 0) ∷ (side_of stem true, 4096) ∷ [];
        split = refl;
        fit = All-nil (IsFitSlot files);
      }))
      (λ high. subst (IsFirstDamage stem files (side_of stem false)) (sym high.0) (record {
        damaged = high.2;
        before = (side_of stem false, 0) ∷ [];
        after = (side_of stem true, 0) ∷ (side_of stem true, 4096) ∷ [];
        split = refl;
        fit = All-cons (IsFitSlot files) (side_of stem false, 0) [] high.1 (All-nil (IsFitSlot files));
      }))
      damage)

  pub damage_second : (n : FileName) (at : ℕ) → n ≡ side_of stem true → IsFit 0 (files (side_of stem false)).seen → IsFit 4096 (files (side_of stem false)).seen → IsFirstIn (files (side_of stem true)).seen at → IsFirstDamage stem files n at
  damage_second n at name_same fit_low fit_high damage = subst (λ k. IsFirstDamage stem files k at) (sym name_same) (⊎_elim
      (λ low. subst (IsFirstDamage stem files (side_of stem true)) (sym low.0) (record {
        damaged = low.1;
        before = (side_of stem false, 0) ∷ (side_of stem false, 4096) ∷ [];
        after = (side_of stem true, 4096) ∷ [];
        split = refl;
        fit = All-cons (IsFitSlot files) (side_of stem false, 0) ((side_of stem false, 4096) ∷ []) fit_low (All-cons (IsFitSlot files) (side_of stem false, 4096) [] fit_high (All-nil (IsFitSlot files)));
      }))
      (λ high. subst (IsFirstDamage stem files (side_of stem true)) (sym high.0) (record {
        damaged = high.2;
        before = (side_of stem false, 0) ∷ (side_of stem false, 4096) ∷ (side_of stem true, 0) ∷ [];
        after = [];
        split = refl;
        fit = All-cons (IsFitSlot files) (side_of stem false, 0) ((side_of stem false, 4096) ∷ (side_of stem true, 0) ∷ []) fit_low
            (All-cons (IsFitSlot files) (side_of stem false, 4096) ((side_of stem true, 0) ∷ []) fit_high (All-cons (IsFitSlot files) (side_of stem true, 0) [] high.1 (All-nil (IsFitSlot files))));
      }))
      damage)

  pub all_sound : (first second : GateFile) → IsPair stem files first second → All (IsFitSlot files) (slots_of stem)
  all_sound first second pair =
      All-cons (IsFitSlot files) (side_of stem false, 0) ((side_of stem false, 4096) ∷ (side_of stem true, 0) ∷ (side_of stem true, 4096) ∷ []) pair.first_low
      (All-cons (IsFitSlot files) (side_of stem false, 4096) ((side_of stem true, 0) ∷ (side_of stem true, 4096) ∷ []) pair.first_high
      (All-cons (IsFitSlot files) (side_of stem true, 0) ((side_of stem true, 4096) ∷ []) pair.second_low
      (All-cons (IsFitSlot files) (side_of stem true, 4096) [] pair.second_high (All-nil (IsFitSlot files)))))
