-- One side of a pair is taken, and the others are emptied.
use Rattle.std.proofs.Common.{◌≡◌, ◌≢◌, ◌⊎◌, inl, inr, ⊎_elim, ◌<◌, ◌≤◌, [], Option, Some, None, Result, Ok, Err, IsErr, refl, sym, ◌∙◌, subst, arith}
use Rattle.std.specs.Prelude.{true, false, is_some, IfOk}
use Rattle.view_ports.specs.File.{File, settled}
use Rattle.view_ports.specs.Disk.{Disk, Moves, MovesFile}
use Rattle.view_ports.specs.declared.file_name.Stem.{Stem}
use Rattle.view_ports.specs.declared.file_name.FileName.{FileName}
use Rattle.gate_file.specs.declared.root.Root.{Root}
use Rattle.gate_file.specs.declared.gate.GateFile.{GateFile}
use Rattle.gate_file.specs.Open.{side_of, opened, IsDropped, BeforeOpening, WhileOpening, IsOpened, IsPair, IsSettledPair}
use Rattle.gate_file.proofs.Cuts.{Cut}
use Rattle.gate_file.proofs.Looks.{option_cases}
use Rattle.gate_file.proofs.Pairs.{sides, apart, emptied_one, emptied_both, name_is, has_root, taken, taken_new, opens_second, opens_first, opens_new}

-- nothing is said of what is opened where nothing is
pub failed_open : {T E : Type 0} (result : Result T E) (P : T → Type 0) → IsErr result → IfOk result P
failed_open (Ok value) P failed = (let never : ⊥ = cc in absurd never)
failed_open (Err error) P failed = tt

pub some_root : (o : Option Root) → is_some o ≡ true → (root : Root) × (o ≡ Some root)
some_root None is = (let never : ⊥ = cc in absurd never)
some_root (Some root) is = (root, refl)

pub no_root : (o : Option Root) → is_some o ≡ false → o ≡ None
no_root None is = refl
no_root (Some root) is = (let never : ⊥ = cc in absurd never)

module _ (stem : Stem) (a b : Disk FileName) (first second : GateFile) (pair : IsPair stem a.now first second)
    (start : Moves (λ name. name.stem ≡ stem) (BeforeOpening stem a.now) (IsSettledPair stem a.now) a b) where
  abbrev low_side : FileName
  low_side = side_of stem false

  abbrev high_side : FileName
  high_side = side_of stem true

  first_name : first.name ≡ side_of stem false
  first_name = name_is first (side_of stem false) (a.now (side_of stem false)).seen pair.first_is

  second_name : second.name ≡ side_of stem true
  second_name = name_is second (side_of stem true) (a.now (side_of stem true)).seen pair.second_is

  swapped : (name : FileName) → name.stem ≡ stem → (name ≡ side_of stem true) ⊎ (name ≡ side_of stem false)
  swapped name of_pair = ⊎_elim (λ low. inr low) (λ high. inl high) (sides stem name of_pair)

  -- a side that isn't the one that is opened
  dropped_other : (gate : GateFile) (kept name : FileName) → gate ≡ opened stem a.now → gate.name ≡ kept → name ≢ kept → IsDropped (opened stem a.now) name
  dropped_other gate kept name is named differs = subst (λ (g : GateFile). IsDropped g name) is (λ same. absurd (differs (same ∙ named)))

  -- what is opened has no root
  dropped_new : (name : FileName) → second.commits ≤ first.commits → first.root ≡ None → IsDropped (opened stem a.now) name
  dropped_new name falls none = subst (λ (g : GateFile). IsDropped g name) (opens_new stem a.now first second pair falls none) (λ same. none)

  dropped_second : second.commits ≤ first.commits → IsDropped (opened stem a.now) (side_of stem true)
  dropped_second falls = ⊎_elim
      (λ none. dropped_new (side_of stem true) falls none)
      (λ some. dropped_other first (side_of stem false) (side_of stem true) (opens_first stem a.now first second pair falls some.0 some.1) first_name (apart stem))
      (option_cases first.root)

  -- The second is taken.
  pub take_second : first.commits < second.commits → (E : File → File → Type 0) (X : (FileName → File) → Type 0) (c : Disk FileName)
      → (E (b.now (side_of stem false)) (c.now (side_of stem false)) → c.now (side_of stem true) ≡ settled (a.now (side_of stem true)).seen → X c.now)
      → MovesFile first.name Cut E b c → Moves (λ name. name.stem ≡ stem) (WhileOpening stem a.now) X a c
  take_second rises E X c endings moves =
      emptied_one stem (side_of stem false) (side_of stem true) (sides stem) refl refl (apart stem) E X a b c
      (dropped_other second (side_of stem true) (side_of stem false) (opens_second stem a.now first second pair rises) second_name (λ same. apart stem (sym same)))
      endings start (subst (λ n. MovesFile n Cut E b c) first_name moves)

  pub opened_second : first.commits < second.commits → (files : FileName → File) → files (side_of stem false) ≡ settled [] → files (side_of stem true) ≡ settled (a.now (side_of stem true)).seen → IsOpened second a.now files
  opened_second rises files emptied kept =
      let some = has_root second (side_of stem true) (a.now (side_of stem true)).seen pair.second_is (omega (arith, rises)) in
      taken second (side_of stem true) (a.now (side_of stem true)).seen pair.second_is some.0 some.1 pair.second_low pair.second_high a.now files refl kept
      (λ name of_pair differs. ⊎_elim (λ low. subst (λ n. files n ≡ settled []) (sym low) emptied) (λ high. absurd (differs high)) (sides stem name of_pair))

  -- The second is emptied.
  pub drop_second : second.commits ≤ first.commits → (E : File → File → Type 0) (X : (FileName → File) → Type 0) (c : Disk FileName)
      → (E (b.now (side_of stem true)) (c.now (side_of stem true)) → c.now (side_of stem false) ≡ settled (a.now (side_of stem false)).seen → X c.now)
      → MovesFile second.name Cut E b c → Moves (λ name. name.stem ≡ stem) (WhileOpening stem a.now) X a c
  drop_second falls E X c endings moves =
      emptied_one stem (side_of stem true) (side_of stem false) swapped refl refl (λ same. apart stem (sym same)) E X a b c
      (dropped_second falls) endings start (subst (λ n. MovesFile n Cut E b c) second_name moves)

  pub opened_first : (root : Root) → first.root ≡ Some root → (files : FileName → File) → files (side_of stem true) ≡ settled [] → files (side_of stem false) ≡ settled (a.now (side_of stem false)).seen → IsOpened first a.now files
  opened_first root some files emptied kept =
      taken first (side_of stem false) (a.now (side_of stem false)).seen pair.first_is root some pair.first_low pair.first_high a.now files refl kept
      (λ name of_pair differs. ⊎_elim (λ low. absurd (differs low)) (λ high. subst (λ n. files n ≡ settled []) (sym high) emptied) (sides stem name of_pair))

  -- Both are emptied.
  pub drop_both : second.commits ≤ first.commits → first.root ≡ None → (E : File → File → Type 0) (X : (FileName → File) → Type 0) (c d : Disk FileName)
      → (E (c.now (side_of stem false)) (d.now (side_of stem false)) → d.now (side_of stem true) ≡ settled [] → X d.now)
      → Moves (λ name. name.stem ≡ stem) (WhileOpening stem a.now) (λ files. (files (side_of stem true) ≡ settled []) × (files (side_of stem false) ≡ settled (a.now (side_of stem false)).seen)) a c
      → MovesFile first.name Cut E c d → Moves (λ name. name.stem ≡ stem) (WhileOpening stem a.now) X a d
  drop_both falls none E X c d endings early moves =
      emptied_both stem (side_of stem true) (side_of stem false) swapped refl refl (λ same. apart stem (sym same)) E X a c d
      (dropped_second falls) (dropped_new (side_of stem false) falls none) endings early (subst (λ n. MovesFile n Cut E c d) first_name moves)

  pub opened_new : first.root ≡ None → (files : FileName → File) → files (side_of stem true) ≡ settled [] → files (side_of stem false) ≡ settled [] → IsOpened (record first { length = 0 }) a.now files
  opened_new none files emptied emptied_low =
      taken_new first (side_of stem false) (a.now (side_of stem false)).seen pair.first_is none a.now files emptied_low
      (λ name of_pair differs. ⊎_elim (λ low. absurd (differs low)) (λ high. subst (λ n. files n ≡ settled []) (sym high) emptied) (sides stem name of_pair))
