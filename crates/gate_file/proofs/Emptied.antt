-- A pair of files that is emptied.
use Rattle.std.specs.Prelude.{◌≡◌, ◌≢◌, ◌⊎◌, ℕ, List, [], Bool, true, false, length, nat_lt, is_none, Option, Some, None, Result, Ok, Err, IsErr, OnOk, IfOk, if◌then◌else◌, refl}
use Rattle.std.proofs.Common.{ap, sym, ◌∙◌, subst, inl, inr, ⊎_elim}
use Rattle.view_ports.specs.Disk.{Disk, IfTold, Moves, OthersStay, Tells}
use Rattle.view_ports.specs.File.{File, IsImage, settled}
use Rattle.view_ports.specs.declared.file_name.FileName.{FileName}
use Rattle.view_ports.specs.declared.file_name.Stem.{Stem}
use Rattle.view_ports.proofs.DiskRuns.{moves_then, moves_wider}
use Rattle.view_ports.proofs.Told.{told_after, told_all, told_map, told_then}
use Rattle.gate_file.specs.declared.gate.GateFile.{GateFile}
use Rattle.gate_file.specs.declared.root.Root.{Root}
use Rattle.gate_file.specs.GateFile.{length_of, name_of}
use Rattle.gate_file.specs.Header.{newer, open_root, slot_at}
use Rattle.gate_file.specs.Open.{found, found_newest, opened, opened_of, side_of, IsOpened, WhileOpening}
use Rattle.gate_file.specs.Opens.{Empties}
use Rattle.gate_file.specs.Pair.{IsOpenPair}
use Rattle.gate_file.proofs.Pairs.{apart, sides}

-- nothing is pending of the files of a pair, and they have no bytes
abbrev pub AreEmpty : Stem → (FileName → File) → Type 0
AreEmpty stem files = (name : FileName) → name.stem ≡ stem → files name ≡ settled []

-- other files than those of the pair are as they were
abbrev OthersOf : Stem → Disk FileName → Disk FileName → Type 0
OthersOf stem = Moves (λ name. name.stem ≡ stem) (λ image. Unit {0}) (λ files. Unit {0})

-- ---- a side is cleared

-- the other file of the pair has no bytes
abbrev pub IsOtherEmpty : Stem → FileName → (FileName → File) → Type 0
IsOtherEmpty stem own files = (n : FileName) → n.stem ≡ stem → n ≢ own → files n ≡ settled []

pub own_or_other : (stem : Stem) (own n : FileName) → own.stem ≡ stem → n.stem ≡ stem → (n ≡ own) ⊎ (n ≢ own)
own_or_other stem own n own_of n_of = by_side (sides stem n n_of) (sides stem own own_of)
  where
    by_side : (n ≡ side_of stem false) ⊎ (n ≡ side_of stem true) → (own ≡ side_of stem false) ⊎ (own ≡ side_of stem true) → (n ≡ own) ⊎ (n ≢ own)
    by_side (inl low) (inl own_low) = inl (low ∙ sym own_low)
    by_side (inl low) (inr own_high) = inr (λ same. apart stem (sym own_high ∙ sym same ∙ low))
    by_side (inr high) (inl own_low) = inr (λ same. apart stem (sym high ∙ same ∙ own_low))
    by_side (inr high) (inr own_high) = inl (high ∙ sym own_high)

-- whatever the pair held
pub both_empty : (stem : Stem) (own : FileName) (old new : FileName → File) → own.stem ≡ stem → IsOtherEmpty stem own old → OthersStay (λ n. n ≡ own) old new → new own ≡ settled [] → AreEmpty stem new
both_empty stem own old new own_of other others done = λ n of_pair. ⊎_elim (λ same. ap new same ∙ done) (λ differs. others n differs ∙ other n of_pair differs) (own_or_other stem own n own_of of_pair)

-- where nothing failed
pub own_empty : {E : Type 0} (stem : Stem) (own : FileName) → own.stem ≡ stem → (result : Result (Unit {0}) E) (old new : FileName → File) → IsOtherEmpty stem own old → OthersStay (λ n. n ≡ own) old new
    → OnOk result (new own ≡ settled []) → OnOk result (AreEmpty stem new)
own_empty stem own own_of (Ok v) old new empty others done = both_empty stem own old new own_of empty others done
own_empty stem own own_of (Err e) old new empty others done = tt

-- the side that was opened is cleared
pub cleared_empty : {E : Type 0} (stem : Stem) (own : FileName) → own.stem ≡ stem → (result : Result (Unit {0}) E) (mid new : Option (Disk FileName)) → IfTold mid (λ d. IsOtherEmpty stem own d.now)
    → Tells mid new (Empties own result) → IfTold new (λ d. OnOk result (AreEmpty stem d.now))
cleared_empty {E} stem own own_of result mid new other clears =
    told_after mid new (λ d. IsOtherEmpty stem own d.now) (λ d. OnOk result (AreEmpty stem d.now)) (Empties own result) (λ b d empty moved. own_empty stem own own_of result b.now d.now empty moved.others moved.ended) other clears

-- ---- what files without bytes open to

-- a file of no length, of this index
pub record IsOfNone (stem : Stem) (gate : GateFile) : Type 0 where
  pub own : (name_of gate).stem ≡ stem
  pub long : length_of gate ≡ 0

opened_none : (stem : Stem) (files : FileName → File) → AreEmpty stem files → IsOfNone stem (opened stem files)
opened_none stem files empty = by_side (side_of stem false) (side_of stem true) (λ name. (files name).seen) refl refl (ap (λ (f : File). f.seen) (empty (side_of stem false) refl)) (ap (λ (f : File). f.seen) (empty (side_of stem true) refl))
  where
    newest : (name : FileName) (size : ℕ) (low high root : Option Root) → name.stem ≡ stem → size ≡ 0 → IsOfNone stem (found_newest name size low high root)
    newest name size low high None own long = record { own = own; long = long }
    newest name size low high (Some root) own long = record { own = own; long = long }

    whole : (name : FileName) (bytes : List ℕ) → name.stem ≡ stem → bytes ≡ [] → IsOfNone stem (found name bytes)
    whole name bytes own none = newest name (length bytes) (open_root (slot_at bytes 0)) (open_root (slot_at bytes 4096)) (newer (open_root (slot_at bytes 0)) (open_root (slot_at bytes 4096))) own (ap length none)

    one_of : (first second : GateFile) → IsOfNone stem first → IsOfNone stem second → (less none : Bool)
        → IsOfNone stem (if less then second else (if none then record first { length = 0 } else first))
    one_of first second is is' true none = is'
    one_of first second is is' false true = record { own = is.own; long = refl }
    one_of first second is is' false false = is

    by_side : (one other : FileName) (image : FileName → List ℕ) → one.stem ≡ stem → other.stem ≡ stem → image one ≡ [] → image other ≡ []
        → IsOfNone stem (opened_of (found one (image one)) (found other (image other)))
    by_side one other image one_of_pair other_of_pair none none' =
        let first = found one (image one) in
        let second = found other (image other) in
        one_of first second (whole one (image one) one_of_pair none) (whole other (image other) other_of_pair none') (nat_lt first.commits second.commits) (is_none first.root)

opened_same : (stem : Stem) (old new : FileName → File) → ((n : FileName) → n.stem ≡ stem → new n ≡ old n) → opened stem new ≡ opened stem old
opened_same stem old new same = λ i. opened_of (found (side_of stem false) (same (side_of stem false) refl i).seen) (found (side_of stem true) (same (side_of stem true) refl i).seen)

-- once files without bytes are opened, they are the same, and open to the same
pub opened_still : (stem : Stem) (gate : GateFile) (old new : FileName → File) → AreEmpty stem old → gate ≡ opened stem old → IsOpenPair (name_of gate).stem gate new → gate ≡ opened stem new
opened_still stem gate old new empty gate_is is_open =
    let none : IsOfNone stem gate = subst (IsOfNone stem) (sym gate_is) (opened_none stem old empty) in
    let now : AreEmpty stem new = λ n of_pair. ⊎_elim (λ same. ap new same ∙ is_open.keeps.new none.long) (λ differs. is_open.other n (of_pair ∙ sym none.own) differs) (own_or_other stem (name_of gate) n none.own of_pair) in
    gate_is ∙ sym (opened_same stem old new (λ n of_pair. now n of_pair ∙ sym (empty n of_pair)))

-- other files stay through both
pub others_both : (stem : Stem) (old mid new : Option (Disk FileName)) → Tells old mid (OthersOf stem) → Tells mid new (OthersOf stem)
    → Tells old new (OthersOf stem)
others_both stem old mid new first second =
    told_then old mid new (OthersOf stem) (OthersOf stem) (OthersOf stem)
    (λ a b d one other. moves_then (λ name. name.stem ≡ stem) (λ image. Unit {0}) (λ image. Unit {0}) (λ image. Unit {0}) (λ files. Unit {0}) (λ files. Unit {0}) (λ files. Unit {0}) a b d
    (λ image is. tt) (λ ended image is. tt) (λ one_ended other_ended. tt) one other)
    first second

-- and where one of the files of an index is cleared
pub others_cleared : {E : Type 0} (stem : Stem) (own : FileName) (named : own.stem ≡ stem) (result : Result (Unit {0}) E) (old mid new : Option (Disk FileName)) → Tells old mid (OthersOf stem)
    → Tells mid new (Empties own result) → Tells old new (OthersOf stem)
others_cleared stem own named result old mid new first second =
    others_both stem old mid new first
    (told_map mid new (Empties own result) (OthersOf stem)
    (λ b d clears. moves_wider (λ n. n ≡ own) (λ name. name.stem ≡ stem) (λ image. IsImage (b.now own) (image own) ⊎ (image own ≡ [])) (λ image. Unit {0})
    (λ files. OnOk result (files own ≡ settled [])) (λ files. Unit {0}) b d
    (λ n same. ap (λ (k : FileName). k.stem) same ∙ named) (λ image framed. tt) (λ others ended. tt) clears) second)

pub both_ok : {T E : Type 0} (result : Result T E) (P Q R : T → Type 0) → ((x : T) → P x → Q x → R x) → IfOk result P → IfOk result Q → IfOk result R
both_ok (Ok x) P Q R f one other = f x one other
both_ok (Err e) P Q R f one other = tt

-- what was opened, by its result
pub opened_by : {E : Type 0} (stem : Stem) (gate : GateFile) (result : Result GateFile E) → result ≡ Ok gate → (old mid : Option (Disk FileName))
    → Tells old mid (λ a b. Moves (λ name. name.stem ≡ stem) (WhileOpening stem a.now) (λ files. IfOk result (λ gate. IsOpened gate a.now files)) a b)
    → Tells old mid (λ a b. Moves (λ name. name.stem ≡ stem) (WhileOpening stem a.now) (IsOpened gate a.now) a b)
opened_by stem gate result was old mid told =
    subst (λ (r : Result GateFile _). Tells old mid (λ a b. Moves (λ name. name.stem ≡ stem) (WhileOpening stem a.now) (λ files. IfOk r (λ gate. IsOpened gate a.now files)) a b)) was told

-- a refusal did nothing to the end
pub failed_done : {T E : Type 0} (result : Result T E) (P : Type 0) → IsErr result → OnOk result P
failed_done (Ok value) P failed = (let never : ⊥ = cc in absurd never)
failed_done (Err error) P failed = tt

-- whatever the files held, they have no bytes in the end
pub removed_empty : {E : Type 0} (stem : Stem) (gate : GateFile) (result : Result (Unit {0}) E) (old mid new : Option (Disk FileName)) → (name_of gate).stem ≡ stem
    → Tells old mid (λ a b. Moves (λ name. name.stem ≡ stem) (WhileOpening stem a.now) (IsOpened gate a.now) a b) → Tells mid new (Empties (name_of gate) result) → IfTold new (λ d. OnOk result (AreEmpty stem d.now))
removed_empty stem gate result old mid new own_of moves clears =
    cleared_empty stem (name_of gate) own_of result mid new
    (told_after old mid (λ d. Unit {0}) (λ d. IsOtherEmpty stem (name_of gate) d.now) (λ a b. Moves (λ name. name.stem ≡ stem) (WhileOpening stem a.now) (IsOpened gate a.now) a b)
    (λ a b any moved n of_pair differs. moved.ended.other n (of_pair ∙ sym own_of) differs) (told_all old (λ d. Unit {0}) (λ d. tt)) moves)
    clears
