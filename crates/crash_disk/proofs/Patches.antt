-- Images of a file, and patches that leave them images.
use Rattle.std.proofs.Common.{◌≡◌, ◌⊎◌, inl, inr, ℕ, ◌+◌, ◌<◌, List, [], ◌∷◌, ◌++◌, zero, suc, length, get_or, take, refl, sym, ◌∙◌, subst, arith}
use Rattle.std.proofs.lemmas.Bool.{cases_lt}
use Rattle.std.proofs.lemmas.List.{take_more}
use Rattle.view_ports.specs.File.{File, IsIn, IsOneOf, IsImage, settled}
use Rattle.view_ports.proofs.Images.{settled_stays}
use Rattle.crash_disk.specs.Chosen.{IsChosen, IsOverwritten, IsSound}
use Rattle.crash_disk.specs.Patch.{IsFilled, IsInside, IsPatched}

inside_split : (range : ℕ × ℕ) (place : ℕ) → IsInside range place ⊎ (IsInside range place → ⊥)
inside_split range place =
    elim (cases_lt place range.0) [
      | inl before ↦ inr (λ is. absurd (omega (arith, is.0)))
      | inr from ↦ elim (cases_lt place (range.0 + range.1)) [ inl below ↦ inl (from, below) | inr behind ↦ inr (λ is. absurd (omega (arith, is.1))) ]
    ]

in_more : (ranges : List (ℕ × ℕ)) (range : ℕ × ℕ) (place : ℕ) → IsIn ranges place → IsIn (ranges ++ range ∷ []) place
in_more [] range place is = absurd is
in_more (first ∷ ranges) range place (inl here) = inl here
in_more (first ∷ ranges) range place (inr there) = inr (in_more ranges range place there)

in_last : (ranges : List (ℕ × ℕ)) (range : ℕ × ℕ) (place : ℕ) → IsInside range place → IsIn (ranges ++ range ∷ []) place
in_last [] range place is = inl is
in_last (first ∷ ranges) range place is = inr (in_last ranges range place is)

in_split : (ranges : List (ℕ × ℕ)) (range : ℕ × ℕ) (place : ℕ) → IsIn (ranges ++ range ∷ []) place → IsIn ranges place ⊎ IsInside range place
in_split [] range place (inl here) = inr here
in_split [] range place (inr never) = absurd never
in_split (first ∷ ranges) range place (inl here) = inl (inl here)
in_split (first ∷ ranges) range place (inr there) = elim (in_split ranges range place there) [ inl old ↦ inl (inr old) | inr new ↦ inr new ]

pub in_at : (ranges : List (ℕ × ℕ)) (i : ℕ) (d : ℕ × ℕ) (place : ℕ) → i < length ranges → IsInside (get_or ranges i d) place → IsIn ranges place
in_at [] i d place below is = absurd (omega arith)
in_at (first ∷ ranges) zero d place below is = inl is
in_at (first ∷ ranges) (suc i) d place below is = inr (in_at ranges i d place (omega arith) is)

pub one_of_at : (lengths : List ℕ) (i d : ℕ) → i < length lengths → IsOneOf lengths (get_or lengths i d)
one_of_at [] i d below = absurd (omega arith)
one_of_at (first ∷ lengths) zero d below = inl refl
one_of_at (first ∷ lengths) (suc i) d below = inr (one_of_at lengths i d (omega arith))

pub some_length : (lengths : List ℕ) (n : ℕ) → IsOneOf lengths n → 0 < length lengths
some_length [] n is = absurd is
some_length (first ∷ lengths) n is = omega arith

-- one range more is overwritten
pub overwritten_more : (ranges : List (ℕ × ℕ)) (range : ℕ × ℕ) (bytes old new : List ℕ) → IsOverwritten ranges bytes old → IsFilled range 255 old new → IsOverwritten (ranges ++ range ∷ []) bytes new
overwritten_more ranges range bytes old new over filled = record { long = filled.patched.long ∙ over.long; inside = inside; outside = outside }
  where
    old_long : length old ≡ length bytes
    old_long = over.long

    inside : (place : ℕ) → place < length bytes → IsIn (ranges ++ range ∷ []) place → get_or new place 0 ≡ 255
    inside place below is =
        elim (inside_split range place) [
          | inl here ↦ filled.inside place here (omega (arith, old_long))
          | inr not ↦
              elim (in_split ranges range place is) [
                | inl there ↦ filled.patched.outside place not ∙ over.inside place below there
                | inr here ↦ absurd (not here)
              ]
        ]

    outside : (place : ℕ) → (IsIn (ranges ++ range ∷ []) place → ⊥) → get_or new place 0 ≡ get_or bytes place 0
    outside place not =
        filled.patched.outside place (λ here. not (in_last ranges range place here)) ∙ over.outside place (λ there. not (in_more ranges range place there))

pub overwritten_none : (bytes : List ℕ) → IsOverwritten [] bytes bytes
overwritten_none bytes = record { long = refl; inside = λ place below never. absurd never; outside = λ place not. refl }

abbrev Kept : File → ℕ → ℕ → Type 0
Kept file place byte = (byte ≡ get_or file.durable place 0) ⊎ (IsIn file.added place × (byte ≡ 0))

image_overwritten : (file : File) (image : List ℕ) → IsImage file file.seen → IsOverwritten file.written file.seen image → IsImage file image
image_overwritten file image stays over = record {
  long = subst (IsOneOf file.lengths) (sym over.long) stays.long;
  kept = λ place within unwritten. subst (Kept file place) (sym (over.outside place unwritten)) (stays.kept place (omega (arith, over.long)) unwritten);
}

-- what was synced, at one of the lengths
pub image_base : (file : File) (image : List ℕ) → IsOneOf file.lengths (length image) → ((place : ℕ) → place < length image → get_or image place 0 ≡ get_or file.durable place 0) → IsImage file image
image_base file image long same = record { long = long; kept = λ place within unwritten. inl (same place within) }

-- a range that was added is zero again
pub image_zeroed : (file : File) (range : ℕ × ℕ) (old new : List ℕ) → ((place : ℕ) → IsInside range place → IsIn file.added place) → IsFilled range 0 old new → IsImage file old → IsImage file new
image_zeroed file range old new added filled stays = record { long = subst (IsOneOf file.lengths) (sym filled.patched.long) stays.long; kept = kept }
  where
    same_long : length new ≡ length old
    same_long = filled.patched.long

    kept : (place : ℕ) → place < length new → (IsIn file.written place → ⊥) → Kept file place (get_or new place 0)
    kept place within unwritten =
        elim (inside_split range place) [
          | inl here ↦ inr (added place here, filled.inside place here (omega (arith, same_long)))
          | inr not ↦ subst (Kept file place) (sym (filled.patched.outside place not)) (stays.kept place (omega (arith, same_long)) unwritten)
        ]

-- a range that was written has any bytes
pub image_patched : (file : File) (range : ℕ × ℕ) (old new : List ℕ) → ((place : ℕ) → IsInside range place → IsIn file.written place) → IsPatched range old new → IsImage file old → IsImage file new
image_patched file range old new written patched stays = record {
  long = subst (IsOneOf file.lengths) (sym patched.long) stays.long;
  kept = λ place within unwritten. subst (Kept file place) (sym (patched.outside place (λ here. unwritten (written place here)))) (stays.kept place (omega (arith, patched.long)) unwritten);
}

-- which image each choice gives
pub chosen_synced : (file : File) (image : List ℕ) → IsSound file → image ≡ file.durable → IsChosen 0 file image
chosen_synced file image sound is = record {
  stays = subst (IsImage file) (sym is) (record { long = sound.durable_long; kept = λ place within unwritten. inl refl });
  synced_alone = λ zero. is;
  all = λ never. absurd (omega (arith, never));
  overwritten = λ never. absurd (omega (arith, never));
}

pub chosen_all : (file : File) (image : List ℕ) → IsSound file → image ≡ file.seen → IsChosen 1 file image
chosen_all file image sound is = record {
  stays = subst (IsImage file) (sym is) sound.seen_stays;
  synced_alone = λ never. absurd (omega (arith, never));
  all = λ one. is;
  overwritten = λ never. absurd (omega (arith, never));
}

pub chosen_overwritten : (file : File) (image : List ℕ) → IsSound file → IsOverwritten file.written file.seen image → IsChosen 2 file image
chosen_overwritten file image sound over = record {
  stays = image_overwritten file image sound.seen_stays over;
  synced_alone = λ never. absurd (omega (arith, never));
  all = λ never. absurd (omega (arith, never));
  overwritten = λ two. over;
}

pub chosen_mixed : (choice : ℕ) (file : File) (image : List ℕ) → (choice ≡ 0 → ⊥) → (choice ≡ 1 → ⊥) → (choice ≡ 2 → ⊥) → IsImage file image → IsChosen choice file image
chosen_mixed choice file image not_0 not_1 not_2 stays = record {
  stays = stays;
  synced_alone = λ is. absurd (not_0 is);
  all = λ is. absurd (not_1 is);
  overwritten = λ is. absurd (not_2 is);
}

-- of a file that isn't there nothing is left
pub chosen_none : (choice : ℕ) → IsChosen choice (settled []) []
chosen_none choice = record { stays = settled_stays []; synced_alone = λ is. refl; all = λ is. refl; overwritten = λ is. overwritten_none [] }

-- The same for the range at a place of a list that a loop goes over.
pub overwritten_next : (all shown : List (ℕ × ℕ)) (i : ℕ) (d : ℕ × ℕ) (bytes old new : List ℕ) → shown ≡ all → i < length shown → IsOverwritten (take i all) bytes old → IsFilled (get_or shown i d) 255 old new
    → IsOverwritten (take (i + 1) all) bytes new
overwritten_next all shown i d bytes old new same below over filled =
    let range : IsFilled (get_or all i d) 255 old new = subst (λ ranges. IsFilled (get_or ranges i d) 255 old new) same filled in
    let below' : i < length all = subst (λ ranges. i < length ranges) same below in
    subst (λ ranges. IsOverwritten ranges bytes new) (sym (take_more all i d below')) (overwritten_more (take i all) (get_or all i d) bytes old new over range)

pub zeroed_next : (file : File) (shown : List (ℕ × ℕ)) (i : ℕ) (d : ℕ × ℕ) (old new : List ℕ) → shown ≡ file.added → i < length shown → IsFilled (get_or shown i d) 0 old new → IsImage file old → IsImage file new
zeroed_next file shown i d old new same below filled stays =
    image_zeroed file (get_or shown i d) old new (λ place here. subst (λ ranges. IsIn ranges place) same (in_at shown i d place below here)) filled stays

pub patched_next : (file : File) (shown : List (ℕ × ℕ)) (i : ℕ) (d : ℕ × ℕ) (old new : List ℕ) → shown ≡ file.written → i < length shown → IsPatched (get_or shown i d) old new → IsImage file old → IsImage file new
patched_next file shown i d old new same below patched stays =
    image_patched file (get_or shown i d) old new (λ place here. subst (λ ranges. IsIn ranges place) same (in_at shown i d place below here)) patched stays
