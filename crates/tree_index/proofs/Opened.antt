-- What becomes of the files of an index that is opened, and then maybe emptied, whatever they held.
use Rattle.std.specs.Prelude.{take, nat_lt, is_none, false, Bool, true}
use Rattle.std.proofs.Common.{◌≡◌, ◌⊎◌, ◌<◌, ℕ, List, [], length, Option, Some, None, Result, OnOk, ap, sym, ◌∙◌, subst, inl, inr, refl, ⊎_elim, arith}
use Rattle.std.proofs.Math.Seq.{take_all}
use Rattle.std.proofs.lemmas.Bool.Decides.{nat_tests}
use Rattle.view_ports.specs.Disk.{Disk, Moves, Tells}
use Rattle.view_ports.specs.File.{File, IsImage, settled}
use Rattle.view_ports.specs.declared.file_name.FileName.{FileName}
use Rattle.view_ports.specs.declared.file_name.Stem.{Stem}
use Rattle.view_ports.proofs.DiskRuns.{moves_then, moves_wider}
use Rattle.view_ports.proofs.Images.{IsImage-settled}
use Rattle.view_ports.proofs.Told.{told_map}
use Rattle.gate_file.specs.declared.gate.GateFile.{GateFile}
use Rattle.gate_file.specs.GateFile.{length_of, name_of, root_of}
use Rattle.gate_file.specs.Open.{found, opened, side_in, side_of, AreFitSlots, IsOpened, IsWholeOrEmpty, WhileOpening}
use Rattle.gate_file.specs.Opens.{Empties}
use Rattle.gate_file.specs.Pair.{own_bytes}
use Rattle.gate_file.proofs.Emptied.{own_or_other, AreEmpty, IsOtherEmpty}
use Rattle.gate_file.proofs.Looks.{option_cases}
use Rattle.gate_file.proofs.Pairs.{has_root}
use Rattle.gate_file.proofs.Taken.{is_of_pair, whole_length}
use Rattle.tree_index.specs.declared.index.Index.{Index}
use Rattle.tree_index.specs.Held.{IsFileOf, IsGone, OnlyOpens}
use Rattle.tree_index.specs.Index.{file_of, seq_of, stem_of}
use Rattle.tree_index.specs.Calls.{said_of}
use Rattle.tree_index.specs.Opens.{IsLeft, IsLoaded, IsPastWrite}
use Rattle.tree_index.proofs.Opening.{is_left}

-- ---- what is left of a side that was opened

by_bool : {P : Type 0} (b : Bool) → (b ≡ true → P) → (b ≡ false → P) → P
by_bool true so otherwise = so refl
by_bool false so otherwise = otherwise refl

module _ (stem : Stem) (image : FileName → List ℕ) where
  abbrev first : GateFile
  first = found (side_of stem false) (image (side_of stem false))

  abbrev second : GateFile
  second = found (side_of stem true) (image (side_of stem true))

  -- a side that is opened without a root is new
  rootless_length : (side_in stem image).root ≡ None → (side_in stem image).length ≡ 0
  rootless_length none =
      by_bool (nat_lt first.commits second.commits)
      (λ later.
      let is : side_in stem image ≡ second = rw later refl in
      let rises : first.commits < second.commits = grind (arith, nat_tests) in
      let some = has_root second (side_of stem true) (image (side_of stem true)) refl (omega (arith, rises)) in
      let clash : ⊥ = cc (ap (λ (g : GateFile). g.root) is, some.1, none) in
      absurd clash)
      (λ earlier.
      by_bool (is_none first.root)
      (λ gone. let is : side_in stem image ≡ record first { length = 0 } = rw (earlier, gone) refl in ap (λ (g : GateFile). g.length) is)
      (λ some.
      let is : side_in stem image ≡ first = rw (earlier, some) refl in
      let there : is_none first.root ≡ true = ap (λ o. is_none o) (ap (λ (g : GateFile). g.root) (sym is) ∙ none) in
      let clash : ⊥ = cc (some, there) in
      absurd clash))

module _ (stem : Stem) (old new : FileName → File) (left : IsLeft stem old new) (image : FileName → List ℕ) where
  abbrev gate : GateFile
  gate = opened stem old

  -- all of it, or nothing where it has no root
  own_left : IsImage (new (name_of gate)) (image (name_of gate)) → IsWholeOrEmpty gate (name_of gate) (own_bytes gate old) (image (name_of gate))
  own_left before =
      let is : image (name_of gate) ≡ take (length_of gate) (own_bytes gate old) = IsImage-settled (take (length_of gate) (own_bytes gate old)) (image (name_of gate)) (subst (λ f. IsImage f (image (name_of gate))) left before) in
      ⊎_elim
      (λ none. inr (is ∙ ap (λ n. take n (own_bytes gate old)) (rootless_length stem (λ n. (old n).seen) none), λ same. none))
      (λ some.
      let size : length_of gate ≡ length (own_bytes gate old) = whole_length stem (λ n. (old n).seen) some.0 some.1 in
      inl (is ∙ take_all (length_of gate) (own_bytes gate old) (omega (arith, size))))
      (option_cases (root_of gate))

  -- beside a side without bytes
  pair_left : IsOtherEmpty stem (name_of gate) new → IsImage (new (name_of gate)) (image (name_of gate)) → ((n : FileName) → (n ≡ name_of gate → ⊥) → IsImage (new n) (image n)) → WhileOpening stem old image
  pair_left other before outside =
      inr (λ n of_pair.
      ⊎_elim (λ same. subst (λ (k : FileName). IsWholeOrEmpty gate k (old k).seen (image k)) (sym same) (own_left before))
      (λ differs. inr (IsImage-settled [] (image n) (subst (λ f. IsImage f (image n)) (other n of_pair differs) (outside n differs)), λ same. absurd (differs same)))
      (own_or_other stem (name_of gate) n (is_of_pair stem (λ k. (old k).seen)) of_pair))

-- ---- stretches of calls

module _ (stem : Stem) (MayEmpty : (FileName → File) → Type 0) where
  abbrev Leaves : (FileName → File) → (FileName → List ℕ) → Type 0
  Leaves old image = WhileOpening stem old image ⊎ (IsGone stem image × AreFitSlots stem old × MayEmpty old)

  -- the pair is opened
  pub opening_only : (old new : Option (Disk FileName)) (ends : (FileName → File) → (FileName → File) → Type 0) → Tells old new (λ a b. Moves (IsFileOf stem) (WhileOpening stem a.now) (ends a.now) a b)
      → Tells old new (OnlyOpens stem MayEmpty)
  opening_only old new ends moves =
      told_map old new (λ a b. Moves (IsFileOf stem) (WhileOpening stem a.now) (ends a.now) a b) (OnlyOpens stem MayEmpty)
      (λ a b moved. moves_wider (IsFileOf stem) (IsFileOf stem) (WhileOpening stem a.now) (Leaves a.now) (ends a.now) (λ files. Unit {0}) a b (λ n is. is) (λ image framed. inl framed.inside) (λ others ended. tt) moved)
      moves

  -- what is never emptied may be so
  only_wider : (a b : Disk FileName) → OnlyOpens stem (λ files. ⊥) a b → OnlyOpens stem MayEmpty a b
  only_wider a b moved =
      moves_wider (IsFileOf stem) (IsFileOf stem) (λ image. WhileOpening stem a.now image ⊎ (IsGone stem image × AreFitSlots stem a.now × ⊥)) (Leaves a.now) (λ files. Unit {0}) (λ files. Unit {0}) a b
      (λ n is. is) (λ image framed. ⊎_elim (λ opening. inl opening) (λ never. absurd never.2) framed.inside) (λ others ended. tt) moved

  pub told_wider : (old new : Option (Disk FileName)) → Tells old new (OnlyOpens stem (λ files. ⊥)) → Tells old new (OnlyOpens stem MayEmpty)
  told_wider old new moves = told_map old new (OnlyOpens stem (λ files. ⊥)) (OnlyOpens stem MayEmpty) only_wider moves

  -- the side that was opened is cleared
  module _ {E : Type 0} (result : Result (Unit {0}) E) (a b d : Disk FileName) (fit : AreFitSlots stem a.now) (may : MayEmpty a.now) (left : IsLeft stem a.now b.now) (other : IsOtherEmpty stem (name_of (opened stem a.now)) b.now) where
    abbrev own : FileName
    own = name_of (opened stem a.now)

    own_of : own.stem ≡ stem
    own_of = is_of_pair stem (λ n. (a.now n).seen)

    meanwhile : (image : FileName → List ℕ) → IsImage (b.now own) (image own) ⊎ (image own ≡ []) → ((n : FileName) → (n ≡ own → ⊥) → IsImage (b.now n) (image n)) → Leaves a.now image
    meanwhile image (inl before) outside = inl (pair_left stem a.now b.now left image other before outside)
    meanwhile image (inr none) outside =
        inr (λ n of_pair. ⊎_elim (λ same. ap image same ∙ none) (λ differs. IsImage-settled [] (image n) (subst (λ f. IsImage f (image n)) (other n of_pair differs) (outside n differs))) (own_or_other stem own n own_of of_pair), fit, may)

    pub cleared_only : OnlyOpens stem MayEmpty a b → Empties own result b d → OnlyOpens stem MayEmpty a d
    cleared_only opens clears =
        moves_then (IsFileOf stem) (Leaves a.now) (Leaves a.now) (Leaves a.now) (λ files. Unit {0}) (λ files. Unit {0}) (λ files. Unit {0}) a b d
        (λ image leaves. leaves) (λ ended image leaves. leaves) (λ first second. tt) opens
        (moves_wider (λ n. n ≡ own) (IsFileOf stem) (λ image. IsImage (b.now own) (image own) ⊎ (image own ≡ [])) (Leaves a.now) (λ files. OnOk result (files own ≡ settled [])) (λ files. Unit {0}) b d
        (λ n same. ap (λ (k : FileName). k.stem) same ∙ own_of) (λ image framed. meanwhile image framed.inside framed.outside) (λ others ended. tt) clears)

  -- files without bytes are opened
  pub again_only : (a b d : Disk FileName) → AreFitSlots stem a.now → MayEmpty a.now → AreEmpty stem b.now → OnlyOpens stem MayEmpty a b → OnlyOpens stem (λ files. ⊥) b d → OnlyOpens stem MayEmpty a d
  again_only a b d fit may empty opens again =
      moves_then (IsFileOf stem) (Leaves a.now) (λ image. WhileOpening stem b.now image ⊎ (IsGone stem image × AreFitSlots stem b.now × ⊥)) (Leaves a.now) (λ files. Unit {0}) (λ files. Unit {0}) (λ files. Unit {0}) a b d
      (λ image leaves. leaves) (λ ended image leaves. still image leaves) (λ first second. tt) opens again
    where
      gone : (image : FileName → List ℕ) → WhileOpening stem b.now image → IsGone stem image
      gone image (inl before) = λ n of_pair. IsImage-settled [] (image n) (subst (λ f. IsImage f (image n)) (empty n of_pair) (before n of_pair))
      gone image (inr each) = λ n of_pair. ⊎_elim (λ same. same ∙ ap (λ (f : File). f.seen) (empty n of_pair)) (λ none. none.0) (each n of_pair)

      still : (image : FileName → List ℕ) → WhileOpening stem b.now image ⊎ (IsGone stem image × AreFitSlots stem b.now × ⊥) → Leaves a.now image
      still image (inl opening) = inr (gone image opening, fit, may)
      still image (inr never) = absurd never.2

-- the pair is opened, and the side that was taken is cleared
pub removed_only : {E : Type 0} (stem : Stem) (gate : GateFile) (result : Result (Unit {0}) E) (a b d : Disk FileName) → (gate ≡ opened stem a.now) × AreFitSlots stem a.now
    → Moves (IsFileOf stem) (WhileOpening stem a.now) (IsOpened gate a.now) a b → Empties (name_of gate) result b d → OnlyOpens stem (λ files. Unit {0}) a d
removed_only stem gate result a b d known opens clears =
    let own : (name_of gate).stem ≡ stem = ap (λ (g : GateFile). (name_of g).stem) known.0 ∙ is_of_pair stem (λ n. (a.now n).seen) in
    cleared_only stem (λ files. Unit {0}) result a b d known.1 tt (is_left stem gate a.now b.now known.0 (opens.ended))
    (subst (λ (g : GateFile). IsOtherEmpty stem (name_of g) b.now) known.0 (λ n of_pair differs. (opens.ended).other n (of_pair ∙ sym own) differs))
    (opening_only stem (λ files. Unit {0}) (Some a) (Some b) (λ old files. IsOpened gate old files) opens)
    (subst (λ (g : GateFile). Empties (name_of g) result b d) known.0 clears)

-- an index is loaded that is past the newest write, and then its file is cleared
module _ (stem : Stem) (count newest : ℕ) (index : Index) (named : stem_of index ≡ stem) (past : newest < seq_of index) where
  pub is_past_write : (old new : FileName → File) → IsLoaded stem count old new index → IsPastWrite stem count newest old
  is_past_write old new loaded = record { said = said_of index; says = loaded.says; past = past }

  pub past_only : {E : Type 0} (result : Result (Unit {0}) E) (a b d : Disk FileName) → IsLoaded stem count a.now b.now index × OnlyOpens stem (λ files. ⊥) a b → Empties (name_of (file_of index)) result b d
      → OnlyOpens stem (IsPastWrite stem count newest) a d
  past_only result a b d known clears =
      let loaded = known.0 in
      cleared_only stem (IsPastWrite stem count newest) result a b d loaded.fit (is_past_write a.now b.now loaded) loaded.whole
      (subst (λ (g : GateFile). IsOtherEmpty stem (name_of g) b.now) loaded.file (λ n of_pair differs. (loaded.is_open).other n (of_pair ∙ sym named) differs))
      (only_wider stem (IsPastWrite stem count newest) a b known.1)
      (subst (λ (g : GateFile). Empties (name_of g) result b d) loaded.file clears)
