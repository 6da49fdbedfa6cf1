-- What is damaged of an index is told by its own files.
use Rattle.std.specs.Prelude.{◌≡◌, ℕ, List, [], ◌∷◌, ◌++◌, true, false, None, All, refl}
use Rattle.std.proofs.Common.{ap, subst, ⊎_elim}
use Rattle.std.proofs.lemmas.List.Elements.{All-nil, All-cons, All-head, All-tail}
use Rattle.view_ports.specs.File.{File}
use Rattle.view_ports.specs.declared.file_name.FileName.{FileName}
use Rattle.view_ports.specs.declared.file_name.Stem.{Stem}
use Rattle.view_ports.specs.declared.file_name.Stem.TheVariants.{View}
use Rattle.gate_file.specs.Header.{IsDamaged, IsFit}
use Rattle.gate_file.specs.Open.{side_of, slots_of, IsFirstDamage, IsFitSlot}
use Rattle.gate_file.proofs.Opened.{undamaged_seen}
use Rattle.tree_index.specs.Held.{HoldsPicture, IsFileOf}
use Rattle.tree_index.specs.Removes.{AreEmpty}
use Rattle.tree_index.proofs.Carried.{empty_stands_none}
use Rattle.tree_groups.specs.Cleans.{IsDamageOf}
use Rattle.tree_groups.specs.Removing.{AreSameOrEmpty}

module _ (stem : Stem) (files files' : FileName → File) (same : (n : FileName) → IsFileOf stem n → files' n ≡ files n) where
  abbrev IsSlotOf : FileName × ℕ → Type 0
  IsSlotOf slot = IsFileOf stem slot.0

  all_slots : All IsSlotOf (slots_of stem)
  all_slots =
      All-cons IsSlotOf (side_of stem false, 0) ((side_of stem false, 4096) ∷ (side_of stem true, 0) ∷ (side_of stem true, 4096) ∷ []) refl
      (All-cons IsSlotOf (side_of stem false, 4096) ((side_of stem true, 0) ∷ (side_of stem true, 4096) ∷ []) refl
      (All-cons IsSlotOf (side_of stem true, 0) ((side_of stem true, 4096) ∷ []) refl (All-cons IsSlotOf (side_of stem true, 4096) [] refl (All-nil IsSlotOf))))

  seen_before : (n : FileName) → IsFileOf stem n → (files' n).seen ≡ (files n).seen
  seen_before n of_pair = ap (λ (f : File). f.seen) (same n of_pair)

  fit_before : (before : List (FileName × ℕ)) (slot : FileName × ℕ) (after : List (FileName × ℕ)) → All IsSlotOf (before ++ slot ∷ after) → All (IsFitSlot files') before → IsSlotOf slot × All (IsFitSlot files) before
  fit_before [] slot after of_pair fit = (All-head IsSlotOf slot after of_pair, All-nil (IsFitSlot files))
  fit_before (x ∷ xs) slot after of_pair fit =
      let rest = fit_before xs slot after (All-tail IsSlotOf x (xs ++ slot ∷ after) of_pair) (All-tail (IsFitSlot files') x xs fit) in
      let first = subst (IsFit x.1) (seen_before x.0 (All-head IsSlotOf x (xs ++ slot ∷ after) of_pair)) (All-head (IsFitSlot files') x xs fit) in
      (rest.0, All-cons (IsFitSlot files) x xs first rest.1)

  -- the same slot is the first one in files that are the same
  first_before : (name : FileName) (at : ℕ) → IsFirstDamage stem files' name at → IsFirstDamage stem files name at
  first_before name at damage =
      let there = fit_before damage.before (name, at) damage.after (subst (All IsSlotOf) damage.split all_slots) damage.fit in
      record { damaged = subst (IsDamaged at) (seen_before name there.0) damage.damaged; before = damage.before; after = damage.after; split = damage.split; fit = there.1 }

-- nothing is damaged of files without bytes
empty_undamaged : (stem : Stem) (files : FileName → File) (name : FileName) (at : ℕ) → AreEmpty stem files → IsFirstDamage stem files name at → ⊥
empty_undamaged stem files name at empty damage = undamaged_seen stem (HoldsPicture None []) files None name at (empty_stands_none None [] stem files empty).seen damage

-- what is damaged was so before some were emptied
pub damage_before : (kept : List (List ℕ)) (files files' : FileName → File) → AreSameOrEmpty files files' → (name : FileName) (at : ℕ) → IsDamageOf kept files' name at → IsDamageOf kept files name at
damage_before kept files files' each name at damage = ⊎_elim
    (λ same. record { sig = damage.sig; unkept = damage.unkept; damage = first_before (View damage.sig) files files' same name at damage.damage })
    (λ empty. absurd (empty_undamaged (View damage.sig) files' name at empty damage.damage))
    (each damage.sig)
