-- Which places were written and not synced, within a call.
use Rattle.std.proofs.Common.{◌≡◌, inl, inr, ℕ, List, [], ◌∷◌, ◌++◌, true, false, sym, subst}
use Rattle.std.proofs.lemmas.Bool.{cases_Bool, cond-true, cond-false}
use Rattle.view_ports.specs.declared.file_name.FileName.{FileName}
use Rattle.view_ports.specs.File.{File, IsIn}
use Rattle.crash_disk.specs.declared.did.Change.{Change}
use Rattle.crash_disk.specs.declared.did.Change.TheVariants.{Wrote, Grew, Emptied, Synced}
use Rattle.crash_disk.specs.declared.did.Did.{Did}
use Rattle.crash_disk.specs.declared.did.Did.TheVariants.{Passed, Changed}
use Rattle.crash_disk.specs.Chosen.{IsOverwritten}
use Rattle.crash_disk.specs.Moments.{after, stepped}
use Rattle.crash_disk.specs.Names.{is_same}
use Rattle.crash_disk.specs.Within.{is_sync}

in_first : (xs ys : List (ℕ × ℕ)) (place : ℕ) → IsIn xs place → IsIn (xs ++ ys) place
in_first [] ys place is = absurd is
in_first (x ∷ xs) ys place (inl here) = inl here
in_first (x ∷ xs) ys place (inr there) = inr (in_first xs ys place there)

in_second : (xs ys : List (ℕ × ℕ)) (place : ℕ) → IsIn ys place → IsIn (xs ++ ys) place
in_second [] ys place is = is
in_second (x ∷ xs) ys place is = inr (in_second xs ys place is)

-- one of the lists has each place that the other has
in_either : (xs ys zs : List (ℕ × ℕ)) (place : ℕ) → (IsIn xs place → IsIn zs place) → (IsIn ys place → IsIn zs place) → IsIn (xs ++ ys) place → IsIn zs place
in_either [] ys zs place first second is = second is
in_either (x ∷ xs) ys zs place first second (inl here) = first (inl here)
in_either (x ∷ xs) ys zs place first second (inr there) = in_either xs ys zs place (λ h. first (inr h)) second there

overwritten_same : (some all : List (ℕ × ℕ)) (bytes image : List ℕ) → ((place : ℕ) → IsIn some place → IsIn all place) → ((place : ℕ) → IsIn all place → IsIn some place)
    → IsOverwritten some bytes image → IsOverwritten all bytes image
overwritten_same some all bytes image to from is = record {
  long = is.long;
  inside = λ place few in_all. is.inside place few (from place in_all);
  outside = λ place out. is.outside place (λ in_some. out (to place in_some));
}

-- ---- what a call does to the ranges that are written and not synced

change_keeps : (change : Change) (at : FileName) (file : File) (place : ℕ) → is_sync (Changed at change) ≡ false → IsIn file.written place → IsIn (stepped change file).written place
change_keeps (Wrote start bytes) at file place not is = inr is
change_keeps (Grew by) at file place not is = is
change_keeps Emptied at file place not is = is
change_keeps Synced at file place not is = let never : ⊥ = cc in absurd never

sync_adds_none : (change : Change) (at : FileName) (file : File) (place : ℕ) → is_sync (Changed at change) ≡ true → IsIn (stepped change file).written place → IsIn file.written place
sync_adds_none (Wrote start bytes) at file place sync is = let never : ⊥ = cc in absurd never
sync_adds_none (Grew by) at file place sync is = let never : ⊥ = cc in absurd never
sync_adds_none Emptied at file place sync is = let never : ⊥ = cc in absurd never
sync_adds_none Synced at file place sync is = absurd is

-- a call that is no sync keeps them
call_keeps : (did : Did) (files : FileName → File) (name : FileName) (place : ℕ) → is_sync did ≡ false → IsIn (files name).written place → IsIn (after did files name).written place
call_keeps Passed files name place not is = is
call_keeps (Changed at change) files name place not is =
    let changed = stepped change (files name) in
    elim (cases_Bool (is_same at name)) [
      | inl same ↦ subst (λ (f : File). IsIn f.written place) (sym (cond-true (is_same at name) changed (files name) same)) (change_keeps change at (files name) place not is)
      | inr other ↦ subst (λ (f : File). IsIn f.written place) (sym (cond-false (is_same at name) changed (files name) other)) is
    ]

-- a sync adds none
call_adds_none : (did : Did) (files : FileName → File) (name : FileName) (place : ℕ) → is_sync did ≡ true → IsIn (after did files name).written place → IsIn (files name).written place
call_adds_none Passed files name place sync is = is
call_adds_none (Changed at change) files name place sync is =
    let changed = stepped change (files name) in
    elim (cases_Bool (is_same at name)) [
      | inl same ↦ sync_adds_none change at (files name) place sync (subst (λ (f : File). IsIn f.written place) (cond-true (is_same at name) changed (files name) same) is)
      | inr other ↦ subst (λ (f : File). IsIn f.written place) (cond-false (is_same at name) changed (files name) other) is
    ]

-- so within a call that is no sync they are those after it, and within a sync those before it
pub overwritten_after : (did : Did) (files : FileName → File) (name : FileName) (bytes image : List ℕ) → is_sync did ≡ false
    → IsOverwritten (after did files name).written bytes image → IsOverwritten ((files name).written ++ (after did files name).written) bytes image
overwritten_after did files name bytes image not is =
    let old = (files name).written in
    let new = (after did files name).written in
    overwritten_same new (old ++ new) bytes image (λ place. in_second old new place) (λ place. in_either old new new place (call_keeps did files name place not) (λ h. h)) is

pub overwritten_before : (did : Did) (files : FileName → File) (name : FileName) (bytes image : List ℕ) → is_sync did ≡ true
    → IsOverwritten (files name).written bytes image → IsOverwritten ((files name).written ++ (after did files name).written) bytes image
overwritten_before did files name bytes image sync is =
    let old = (files name).written in
    let new = (after did files name).written in
    overwritten_same old (old ++ new) bytes image (λ place. in_first old new place) (λ place. in_either old new old place (λ h. h) (call_adds_none did files name place sync)) is
