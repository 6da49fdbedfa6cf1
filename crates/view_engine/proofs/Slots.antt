-- The first damaged slot of a pair of files is one of them.
use Rattle.std.specs.Prelude.{◌≡◌, true, false, ℕ, List, [], ◌∷◌, ◌++◌, ◌+◌, length}
use Rattle.std.proofs.Common.{ap, arith}
use Rattle.std.proofs.lemmas.List.{length-append}
use Rattle.view_ports.specs.File.{File}
use Rattle.view_ports.specs.declared.file_name.FileName.{FileName}
use Rattle.view_ports.specs.declared.file_name.Stem.{Stem}
use Rattle.gate_file.specs.Open.{side_of, slots_of, IsFirstDamage}

module _ (stem : Stem) (name : FileName) (at : ℕ) (after : List (FileName × ℕ)) where
  abbrev IsOwn : Type 0
  IsOwn = name.stem ≡ stem

  among : (before : List (FileName × ℕ)) → slots_of stem ≡ before ++ (name, at) ∷ after → IsOwn
  among [] split = let same : (name, at) ≡ (side_of stem false, 0) = cc in ap (λ (slot : FileName × ℕ). (slot.0).stem) same
  among (a ∷ []) split = let same : (name, at) ≡ (side_of stem false, 4096) = cc in ap (λ (slot : FileName × ℕ). (slot.0).stem) same
  among (a ∷ b ∷ []) split = let same : (name, at) ≡ (side_of stem true, 0) = cc in ap (λ (slot : FileName × ℕ). (slot.0).stem) same
  among (a ∷ b ∷ c ∷ []) split = let same : (name, at) ≡ (side_of stem true, 4096) = cc in ap (λ (slot : FileName × ℕ). (slot.0).stem) same
  among (a ∷ b ∷ c ∷ d ∷ before) split =
      let long : 4 ≡ length (a ∷ b ∷ c ∷ d ∷ before ++ (name, at) ∷ after) = ap length split in
      let parts : length (before ++ (name, at) ∷ after) ≡ length before + length ((name, at) ∷ after) = length-append before ((name, at) ∷ after) in
      let no : ⊥ = omega (arith, long, parts) in absurd no

pub first_damage_own : (stem : Stem) (files : FileName → File) (name : FileName) (at : ℕ) → IsFirstDamage stem files name at → name.stem ≡ stem
first_damage_own stem files name at damage = among stem name at damage.after damage.before damage.split
