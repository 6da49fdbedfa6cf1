-- What a file of a pair is found to be.
use Rattle.std.proofs.Common.{◌≡◌, ◌≢◌, ◌⊎◌, inl, inr, ⊎_elim, ℕ, ◌+◌, ◌-◌, ◌<◌, ◌≤◌, List, length, get_or, min, take, drop, Option, Some, None, Result, OnOk, refl, sym, ap, ◌∙◌, subst, arith}
use Rattle.std.specs.Prelude.{IsTrue, is_some, ◌↔◌}
use Rattle.std.proofs.lemmas.Bool.{cases_lt, cases_eq}
use Rattle.std.proofs.lemmas.Bool.Decides.{nat_tests}
use Rattle.std.proofs.lemmas.List.{take_all, get_or_past}
use Rattle.view_ports.specs.File.{File, IsImage, settled, synced}
use Rattle.view_ports.specs.Disk.{Disk, MovesFile, MovesNone, SeenStays, IfTold, Tells}
use Rattle.view_ports.specs.FolderCalls.{Changes, Passes, IsReadAt}
use Rattle.view_ports.specs.declared.file_name.FileName.{FileName}
use Rattle.view_ports.proofs.Told.{told_map, told_then, told_given}
use Rattle.view_ports.proofs.DiskRuns.{either_images, file_then, file_changes, none_wider, none_passes, none_then}
use Rattle.gate_file.specs.declared.root.Root.{Root}
use Rattle.gate_file.specs.Header.{place_of, slot_at, root_in, IsOpen, open_root, IsSound, IsFit, newer}
use Rattle.gate_file.specs.GateFile.{IsOlder, Keeps}
use Rattle.gate_file.specs.Open.{found, found_from, found_newest}
use Rattle.gate_file.proofs.Windows.{get_or-window, window-part}
use Rattle.gate_file.proofs.SlotFacts.{open_root-closed, open_root-open, open_iff, IsFit-closed}
use Rattle.gate_file.proofs.FileFacts.{settled_keeps}
use Rattle.gate_file.proofs.Stepped.{unsynced}

-- A slot that was read whole.
pub slot_read : (seen slot : List ℕ) (at count : ℕ) → length slot ≡ 65 → 65 ≤ count → IsReadAt seen at count slot → slot ≡ slot_at seen at
slot_read seen slot at count long whole read =
    let most : count ≡ min 65 (length seen - at) = read.most ∙ ap (λ n. min n (length seen - at)) long in
    let all : count ≡ 65 = omega (arith, most) in
    let fits : at + 65 ≤ length seen = omega (arith, most) in
    sym (take_all 65 slot (omega (arith, long))) ∙ subst (λ n. take n slot ≡ take n (drop at seen)) all read.given ∙ sym (window-part seen at 65 fits)

-- A slot that the file doesn't reach is closed.
short_closed : (seen slot : List ℕ) (at count : ℕ) → length slot ≡ 65 → count < 65 → IsReadAt seen at count slot → IsOpen (slot_at seen at) → ⊥
short_closed seen slot at count long short read opened =
    let most : count ≡ min 65 (length seen - at) = read.most ∙ ap (λ n. min n (length seen - at)) long in
    let past : get_or seen (at + 64) 0 ≡ 0 = get_or_past seen (at + 64) 0 (omega (arith, most)) in
    omega (arith, get_or-window seen at 65 64 (omega arith), past, opened)

pub slot_short : (seen slot : List ℕ) (at count : ℕ) → length slot ≡ 65 → count < 65 → IsReadAt seen at count slot → (None ≡ open_root (slot_at seen at)) × IsFit at seen
slot_short seen slot at count long short read =
    let closed = short_closed seen slot at count long short read in
    (sym (open_root-closed (slot_at seen at) closed), IsFit-closed at seen closed)

pub slot_closed : (seen slot : List ℕ) (at count : ℕ) → length slot ≡ 65 → 65 ≤ count → (IsOpen slot → ⊥) → IsReadAt seen at count slot → (None ≡ open_root (slot_at seen at)) × IsFit at seen
slot_closed seen slot at count long whole closed read =
    let same = slot_read seen slot at count long whole read in
    let closed_there : IsOpen (slot_at seen at) → ⊥ = λ opened. closed (subst IsOpen (sym same) opened) in
    (sym (open_root-closed (slot_at seen at) closed_there), IsFit-closed at seen closed_there)

pub slot_open : (seen slot : List ℕ) (at count size : ℕ) (root : Root) → length slot ≡ 65 → 65 ≤ count → size ≡ length seen → IsOpen slot → IsSound at size slot → root ≡ root_in slot → IsReadAt seen at count slot
    → (Some root ≡ open_root (slot_at seen at)) × IsFit at seen
slot_open seen slot at count size root long whole size_is opened sound is read =
    let same = slot_read seen slot at count long whole read in
    let sound_there : IsSound at (length seen) (slot_at seen at) = subst (λ n. IsSound at n (slot_at seen at)) size_is (subst (IsSound at size) same sound) in
    (ap (λ (r : Root). Some r) is ∙ sym (open_root-open slot opened) ∙ ap open_root same, λ opened_there. sound_there)

pub slot_damaged : (seen slot : List ℕ) (at count size : ℕ) → length slot ≡ 65 → 65 ≤ count → size ≡ length seen → IsOpen slot → (IsSound at size slot → ⊥) → IsReadAt seen at count slot
    → IsOpen (slot_at seen at) × (IsSound at (length seen) (slot_at seen at) → ⊥)
slot_damaged seen slot at count size long whole size_is opened unsound read =
    let same = slot_read seen slot at count long whole read in
    (subst IsOpen same opened, λ sound. unsound (subst (IsSound at size) (sym same) (subst (λ n. IsSound at n (slot_at seen at)) (sym size_is) sound)))

-- A file is synced, and then looked at.
module _ {Name T E : Type 0} (name : Name) (result : Result T E) (X : File → File → Type 0) (endings : (file now : File) → OnOk result (now ≡ settled file.seen) → X file now) where
  looked : (a b c : Disk Name) → SeenStays a → Changes name synced result a b → MovesNone b c → MovesFile name (λ file image. IsImage file image) X a c
  looked a b c stays changes none =
      file_then name (λ file image. IsImage file image) (λ file image. IsImage file image) (λ file image. IsImage file image)
      (λ file now. ((image : List ℕ) → IsImage now image → IsImage file image) × OnOk result (now ≡ synced file)) (λ file now. now ≡ file) X a b c
      (λ image is. is)
      (λ ended image is. ended.0 image is)
      (λ ended same. endings (a.now name) (c.now name) (subst (λ f. OnOk result (f ≡ synced (a.now name))) (sym same) ended.1))
      (first (still a b stays changes))
      (none_wider (λ n. n ≡ name) (λ image. IsImage (b.now name) (image name)) (λ files. files name ≡ b.now name) b c (λ image is. is name) (λ same. same name) none)
    where
      first : ((image : List ℕ) → IsImage (b.now name) image → IsImage (a.now name) image) → MovesFile name (λ file image. IsImage file image) (λ file now. ((image : List ℕ) → IsImage now image → IsImage file image) × OnOk result (now ≡ synced file)) a b
      first all = file_changes name synced result (λ file image. IsImage file image) (λ file now. ((image : List ℕ) → IsImage now image → IsImage file image) × OnOk result (now ≡ synced file)) a b
          (λ image is. is) (λ image is. unsynced (a.now name) image (stays name) is) (λ ok. (all, ok)) changes

      still : (a b : Disk Name) → SeenStays a → Changes name synced result a b → (image : List ℕ) → IsImage (b.now name) image → IsImage (a.now name) image
      still a b stays changes image is = ⊎_elim (λ old. old) (λ new. unsynced (a.now name) image (stays name) new) (either_images name synced result a b changes image is)

  pub told_looked : (x y z : Option (Disk Name)) → IfTold x SeenStays → Tells x y (Changes name synced result) → Tells y z MovesNone → Tells x z (MovesFile name (λ file image. IsImage file image) X)
  told_looked x y z stays changes none =
      told_then x y z (λ a b. SeenStays a × Changes name synced result a b) MovesNone (MovesFile name (λ file image. IsImage file image) X) (λ a b c first last. looked a b c first.0 first.1 last)
      (told_given x y SeenStays (Changes name synced result) (λ a b. SeenStays a × Changes name synced result a b) (λ a b is moves. (is, moves)) stays changes) none

-- several calls that change no file
module _ {Name : Type 0} (x y z : Option (Disk Name)) where
  pub told_none : Tells x y Passes → Tells x y MovesNone
  told_none told = told_map x y Passes MovesNone (λ a b passes. none_passes a b passes) told

  pub told_none_then : Tells x y MovesNone → Tells y z MovesNone → Tells x z MovesNone
  told_none_then first second = told_then x y z MovesNone MovesNone MovesNone (λ a b c early late. none_then a b c early late) first second

-- What is seen of the file stays.
abbrev pub SeenSame : {Name : Type 0} → Name → Disk Name → Disk Name → Type 0
SeenSame name a b = (b.now name).seen ≡ (a.now name).seen

pub found-same : (name : FileName) (size : ℕ) (low high : Option Root) (bytes : List ℕ) → size ≡ length bytes → low ≡ open_root (slot_at bytes 0) → high ≡ open_root (slot_at bytes 4096) → found_from name size low high ≡ found name bytes
found-same name size low high bytes p q r = λ i. found_from name (p i) (q i) (r i)

-- What a file with an open gate keeps by itself.
pub option_cases : (o : Option Root) → (o ≡ None) ⊎ ((root : Root) × (o ≡ Some root))
option_cases None = inl refl
option_cases (Some root) = inr (root, refl)

pub opened_slot : (slot : List ℕ) (root : Root) → open_root slot ≡ Some root → IsOpen slot × (root_in slot ≡ root)
opened_slot slot root is = pick (cases_eq (get_or slot 64 0) 1)
  where
    pick : (get_or slot 64 0 ≡ 1) ⊎ (get_or slot 64 0 ≢ 1) → IsOpen slot × (root_in slot ≡ root)
    pick (inl opened) = (opened, (let both : Some (root_in slot) ≡ Some root = sym (open_root-open slot opened) ∙ is in cc))
    pick (inr shut) = (let never : ⊥ = cc (open_root-closed slot shut, is) in absurd never)

-- the root of a sound slot
sound_root : (at : ℕ) (bytes : List ℕ) (root : Root) → IsFit at bytes → open_root (slot_at bytes at) ≡ Some root
    → (0 < root.number) × (place_of root.number ≡ at) × (8192 ≤ length bytes)
sound_root at bytes root fit is =
    let here = opened_slot (slot_at bytes at) root is in
    let sound = fit here.0 in
    let number : (root_in (slot_at bytes at)).number ≡ root.number = ap (λ (r : Root). r.number) here.1 in (
      subst (λ n. 0 < n) number sound.from_one,
      ap place_of (sym number) ∙ sound.own_place,
      omega (arith, sound.behind_slots, sound.within),
    )

-- what is in the slots, by which of them has the newer root
pub record Newest (bytes : List ℕ) (root : Root) : Type 0 where
  pub made : 8192 ≤ length bytes
  pub some : 0 < root.number
  pub last : open_root (slot_at bytes (place_of root.number)) ≡ Some root
  pub next : IsOlder (open_root (slot_at bytes (place_of (root.number + 1)))) (Some root)
  pub next_is : (place_of root.number ≡ 0) ⊎ (place_of root.number ≡ 4096)

next_place : (root : Root) → ((place_of root.number ≡ 0) → place_of (root.number + 1) ≡ 4096) × ((place_of root.number ≡ 4096) → place_of (root.number + 1) ≡ 0)
next_place root = (λ even. omega (arith, even), λ odd. omega (arith, odd))

newest_low : (bytes : List ℕ) (root : Root) → IsFit 0 bytes → open_root (slot_at bytes 0) ≡ Some root → IsOlder (open_root (slot_at bytes 4096)) (Some root) → Newest bytes root
newest_low bytes root fit is older =
    let sound = sound_root 0 bytes root fit is in
    record {
      made = sound.2;
      some = sound.0;
      last = subst (λ at. open_root (slot_at bytes at) ≡ Some root) (sym sound.1) is;
      next = subst (λ at. IsOlder (open_root (slot_at bytes at)) (Some root)) (sym ((next_place root).0 sound.1)) older;
      next_is = inl sound.1;
    }

newest_high : (bytes : List ℕ) (root : Root) → IsFit 4096 bytes → open_root (slot_at bytes 4096) ≡ Some root → IsOlder (open_root (slot_at bytes 0)) (Some root) → Newest bytes root
newest_high bytes root fit is older =
    let sound = sound_root 4096 bytes root fit is in
    record {
      made = sound.2;
      some = sound.0;
      last = subst (λ at. open_root (slot_at bytes at) ≡ Some root) (sym sound.1) is;
      next = subst (λ at. IsOlder (open_root (slot_at bytes at)) (Some root)) (sym ((next_place root).1 sound.1)) older;
      next_is = inr sound.1;
    }

pub newest_of : (bytes : List ℕ) (root : Root) → IsFit 0 bytes → IsFit 4096 bytes → newer (open_root (slot_at bytes 0)) (open_root (slot_at bytes 4096)) ≡ Some root → Newest bytes root
newest_of bytes root low high is = by_cases (option_cases (open_root (slot_at bytes 0))) (option_cases (open_root (slot_at bytes 4096)))
  where
    by_cases : ((open_root (slot_at bytes 0) ≡ None) ⊎ ((r : Root) × (open_root (slot_at bytes 0) ≡ Some r))) → ((open_root (slot_at bytes 4096) ≡ None) ⊎ ((r : Root) × (open_root (slot_at bytes 4096) ≡ Some r))) → Newest bytes root
    by_cases (inl no_low) other =
        let second : open_root (slot_at bytes 4096) ≡ Some root = sym (ap (λ o. newer o (open_root (slot_at bytes 4096))) no_low) ∙ is in
        newest_high bytes root high second (subst (λ o. IsOlder o (Some root)) (sym no_low) tt)
    by_cases (inr a) (inl no_high) =
        let first : Some a.0 ≡ Some root = sym (ap (λ o. newer o None) a.1) ∙ sym (ap (λ o. newer (open_root (slot_at bytes 0)) o) no_high) ∙ is in
        newest_low bytes root low (a.1 ∙ first) (subst (λ o. IsOlder o (Some root)) (sym no_high) tt)
    by_cases (inr a) (inr b) =
        let both : newer (Some a.0) (Some b.0) ≡ Some root = sym (ap (λ o. newer o (Some b.0)) a.1) ∙ sym (ap (λ o. newer (open_root (slot_at bytes 0)) o) b.1) ∙ is in
        let low_sound = sound_root 0 bytes a.0 low a.1 in
        let high_sound = sound_root 4096 bytes b.0 high b.1 in
        elim (cases_lt a.0.number b.0.number) [
          | inl rises ↦
              let is_b : newer (Some a.0) (Some b.0) ≡ Some b.0 = grind (arith, nat_tests) in
              let same : b.0 ≡ root = (let some : Some b.0 ≡ Some root = sym is_b ∙ both in cc) in
              newest_high bytes root high (b.1 ∙ ap (λ (r : Root). Some r) same) (subst (λ o. IsOlder o (Some root)) (sym a.1) (subst (λ (r : Root). a.0.number < r.number) same rises))
          | inr falls ↦
              let is_a : newer (Some a.0) (Some b.0) ≡ Some a.0 = grind (arith, nat_tests) in
              let same : a.0 ≡ root = (let some : Some a.0 ≡ Some root = sym is_a ∙ both in cc) in
              let strictly : b.0.number < a.0.number = omega (arith, falls, low_sound.1, high_sound.1) in
              newest_low bytes root low (a.1 ∙ ap (λ (r : Root). Some r) same) (subst (λ o. IsOlder o (Some root)) (sym b.1) (subst (λ (r : Root). b.0.number < r.number) same strictly))
        ]

-- it keeps what the folder holds, once the file is synced
pub found_keeps : (name : FileName) (bytes : List ℕ) (root : Root) → IsFit 0 bytes → IsFit 4096 bytes → newer (open_root (slot_at bytes 0)) (open_root (slot_at bytes 4096)) ≡ Some root → Keeps (found name bytes) (settled bytes)
found_keeps name bytes root low high is = subst (λ gate. Keeps gate (settled bytes)) (sym found_is) keeps
  where
    newest : Newest bytes root
    newest = newest_of bytes root low high is

    found_is : found name bytes ≡ found_newest name (length bytes) (open_root (slot_at bytes 0)) (open_root (slot_at bytes 4096)) (Some root)
    found_is = ap (λ o. found_newest name (length bytes) (open_root (slot_at bytes 0)) (open_root (slot_at bytes 4096)) o) is

    gate_open : IsTrue ((found_newest name (length bytes) (open_root (slot_at bytes 0)) (open_root (slot_at bytes 4096)) (Some root)).next_is_open) ↔ IsOpen (slot_at bytes (place_of (root.number + 1)))
    gate_open = elim newest.next_is [
      | inl even ↦
          let flag : (found_newest name (length bytes) (open_root (slot_at bytes 0)) (open_root (slot_at bytes 4096)) (Some root)).next_is_open ≡ is_some (open_root (slot_at bytes 4096)) = grind (arith, nat_tests) in
          subst (λ b. IsTrue b ↔ IsOpen (slot_at bytes (place_of (root.number + 1)))) (sym flag)
          (subst (λ at. IsTrue (is_some (open_root (slot_at bytes 4096))) ↔ IsOpen (slot_at bytes at)) (sym ((next_place root).0 even)) (open_iff (slot_at bytes 4096) (open_root (slot_at bytes 4096)) refl))
      | inr odd ↦
          let flag : (found_newest name (length bytes) (open_root (slot_at bytes 0)) (open_root (slot_at bytes 4096)) (Some root)).next_is_open ≡ is_some (open_root (slot_at bytes 0)) = grind (arith, nat_tests) in
          subst (λ b. IsTrue b ↔ IsOpen (slot_at bytes (place_of (root.number + 1)))) (sym flag)
          (subst (λ at. IsTrue (is_some (open_root (slot_at bytes 0))) ↔ IsOpen (slot_at bytes at)) (sym ((next_place root).1 odd)) (open_iff (slot_at bytes 0) (open_root (slot_at bytes 0)) refl))
    ]

    keeps : Keeps (found_newest name (length bytes) (open_root (slot_at bytes 0)) (open_root (slot_at bytes 4096)) (Some root)) (settled bytes)
    keeps = record {
      size = refl;
      new = λ none. absurd (omega (arith, newest.made));
      made = λ some. newest.made;
      durable = settled_keeps bytes;
      last = newest.last;
      counted = refl;
      next = newest.next;
      next_open = gate_open;
      low = low;
      high = high;
    }
