-- An index that is emptied, and what it stands for meanwhile.
use Rattle.std.specs.Prelude.{nat_le, take, if◌then◌else◌}
use Rattle.std.proofs.Common.{◌≡◌, ◌≢◌, ◌⊎◌, ◌<◌, ◌≤◌, ℕ, List, [], true, false, length, Option, Some, None, Result, Ok, Err, OnOk, IfOk, refl, ap, sym, ◌∙◌, subst, inl, inr, ⊎_elim, arith}
use Rattle.std.proofs.Math.Seq.{take-nil}
use Rattle.std.proofs.lemmas.Bool.Decides.{nat_tests}
use Rattle.view_ports.specs.Disk.{Disk, IfTold, Moves, OthersStay, Tells}
use Rattle.view_ports.specs.File.{File, IsImage, settled}
use Rattle.view_ports.specs.Functions.{Functions}
use Rattle.view_ports.specs.declared.file_name.FileName.{FileName}
use Rattle.view_ports.specs.declared.file_name.Stem.{Stem}
use Rattle.view_ports.proofs.DiskRuns.{moves_then, moves_wider}
use Rattle.view_ports.proofs.Images.{IsImage-settled}
use Rattle.view_ports.proofs.Told.{told_given, told_then}
use Rattle.gate_file.specs.declared.gate.GateFile.{GateFile}
use Rattle.gate_file.specs.declared.root.Root.{Root}
use Rattle.gate_file.specs.GateFile.{length_of, name_of, root_of}
use Rattle.gate_file.specs.Open.{opened}
use Rattle.gate_file.specs.Opens.{Empties}
use Rattle.gate_file.specs.Pair.{IsOpenFile, durable_bytes, own_bytes}
use Rattle.gate_file.proofs.Emptied.{AreEmpty, both_empty, own_empty, own_or_other}
use Rattle.gate_file.specs.RootPlace.{IsPlaceOf}
use Rattle.gate_file.proofs.Images.{empty_stands}
use Rattle.gate_file.proofs.Opened.{undamaged_seen}
use Rattle.gate_file.proofs.Published.{file_stands}
use Rattle.gate_file.proofs.Taken.{is_of_pair}
use Rattle.design_docs.specs.declared.design.View.{View}
use Rattle.view_model.specs.Picture.{Picture}
use Rattle.tree_index.specs.declared.index.Index.{Index}
use Rattle.tree_index.specs.Calls.{IsAt, said_of}
use Rattle.tree_index.specs.Held.{or_empty, up_to, HoldsIndex, HoldsPicture, IsDamagedAt, IsFileOf, Said, Stands, Says}
use Rattle.tree_index.specs.Index.{file_of, seq_of, stem_of}
use Rattle.tree_index.specs.Opens.{IsFound, IsLoaded}
use Rattle.tree_index.proofs.Carried.{empty_stands_none, open_file, picture_of_root}
use Rattle.tree_index.proofs.Pictures.{one_said}

-- ---- which pictures are kept

pub up_to_kept : (count newest : ℕ) (picture : Option Picture) → (or_empty count picture).seq ≤ newest → up_to newest picture ≡ picture
up_to_kept count newest None within = refl
up_to_kept count newest (Some p) within = let test : nat_le p.seq newest ≡ true = grind (arith, nat_tests) in ap (λ b. if b then Some p else None) test

pub up_to_past : (count newest : ℕ) (picture : Option Picture) → newest < (or_empty count picture).seq → up_to newest picture ≡ None
up_to_past count newest None past = refl
up_to_past count newest (Some p) past = let test : nat_le p.seq newest ≡ false = grind (arith, nat_tests) in ap (λ b. if b then Some p else None) test

-- what is said past the newest write is of as many views as are asked for
pub number_past : (functions : Option Functions) (views : List View) (count newest : ℕ) (root : Option Root) (bytes : List ℕ) (said : Said) (picture : Option Picture) → Says count root bytes said → newest < said.seq
    → HoldsPicture functions views root bytes picture → length views ≡ count
number_past functions views count newest None bytes said picture says past holds = absurd (let none : said.seq ≡ 0 = ap (λ (s : Said). s.seq) says in omega (arith, past, none))
number_past functions views count newest (Some root) bytes said None says past holds = absurd holds
number_past functions views count newest (Some root) bytes said (Some picture) says past holds =
    let same : said ≡ holds.said = one_said (length views) count root bytes holds.said said holds.spells says in
    sym (holds.spells).content.number ∙ sym (ap (λ (s : Said). length s.views) same) ∙ says.content.number

pub at_kept : (functions : Option Functions) (views : List View) (newest : ℕ) (index : Index) (files : FileName → File) (picture : Option Picture) → seq_of index ≤ newest → IsAt functions views index files picture → IsAt functions views index files (up_to newest picture)
at_kept functions views newest index files picture within at =
    let seq : seq_of index ≡ (or_empty (length views) picture).seq = ap (λ (p : Picture). p.seq) at.last in
    subst (IsAt functions views index files) (sym (up_to_kept (length views) newest picture (omega (arith, seq, within)))) at

-- ---- a side is cleared

module _ (functions : Option Functions) (views : List View) (stem : Stem) (gate : GateFile) (old : FileName → File) (is_open : IsOpenFile stem gate old) where
  -- what a crash leaves meanwhile stands for the picture, or for none
  while_cleared : (picture : Option Picture) → HoldsPicture functions views (root_of gate) (durable_bytes gate old) picture → (image : FileName → List ℕ) → IsImage (old (name_of gate)) (image (name_of gate)) ⊎ (image (name_of gate) ≡ [])
      → ((n : FileName) → n ≢ name_of gate → IsImage (old n) (image n)) → Stands functions views stem image picture ⊎ Stands functions views stem image None
  while_cleared picture holds image (inl before) outside =
      inl ((file_stands stem gate old is_open (HoldsPicture functions views) (picture_of_root functions views) picture holds).images image
      (λ n of_pair. ⊎_elim (λ same. subst (λ k. IsImage (old k) (image k)) (sym same) before) (λ differs. outside n differs) (own_or_other stem (name_of gate) n is_open.own of_pair)))
  while_cleared picture holds image (inr none) outside =
      inr (empty_stands stem (HoldsPicture functions views) (picture_of_root functions views) image
      (λ n of_pair. ⊎_elim (λ same. ap image same ∙ none)
      (λ differs. IsImage-settled [] (image n) (subst (λ f. IsImage f (image n)) (is_open.other n of_pair differs) (outside n differs))) (own_or_other stem (name_of gate) n is_open.own of_pair))
      None tt)

  -- without bytes the files stand for no picture
  ended_holds : {E : Type 0} (result : Result (Unit {0}) E) (now : FileName → File) → OthersStay (λ n. n ≡ name_of gate) old now
      → OnOk result (now (name_of gate) ≡ settled []) → OnOk result (HoldsIndex functions views stem now None)
  ended_holds (Ok v) now others done = empty_stands_none functions views stem now (both_empty stem (name_of gate) old now is_open.own is_open.other others done)
  ended_holds (Err e) now others done = tt

-- the file of an open pair is cleared
pub clear_file : {E : Type 0} (functions : Option Functions) (views : List View) (stem : Stem) (gate : GateFile) (a b : Disk FileName) (picture : Option Picture) (result : Result (Unit {0}) E)
    → IsOpenFile stem gate a.now → HoldsPicture functions views (root_of gate) (durable_bytes gate a.now) picture → Empties (name_of gate) result a b
    → Moves (IsFileOf stem) (λ image. Stands functions views stem image picture ⊎ Stands functions views stem image None) (λ files. OnOk result (HoldsIndex functions views stem files None)) a b
clear_file functions views stem gate a b picture result is_open holds moved =
    moves_wider (λ n. n ≡ name_of gate) (IsFileOf stem)
    (λ image. IsImage (a.now (name_of gate)) (image (name_of gate)) ⊎ (image (name_of gate) ≡ []))
    (λ image. Stands functions views stem image picture ⊎ Stands functions views stem image None)
    (λ files. OnOk result (files (name_of gate) ≡ settled []))
    (λ files. OnOk result (HoldsIndex functions views stem files None)) a b
    (λ n same. ap (λ (k : FileName). k.stem) same ∙ is_open.own)
    (λ image framed. while_cleared functions views stem gate a.now is_open picture holds image framed.inside framed.outside)
    (λ others ended. ended_holds functions views stem gate a.now is_open result b.now others ended) moved

-- ---- as the folder tells it

module _ {E : Type 0} (stem : Stem) (count newest : ℕ) (index : Index) (named : stem_of index ≡ stem) (past : newest < seq_of index) (result : Result (Unit {0}) E) where
  -- it was loaded, and showed what was past the newest write
  module _ (functions : Option Functions) (views : List View) (picture : Option Picture) where
    -- the index that was opened is at the picture that the files stood for, which is gone
    pub record IsPast (files : FileName → File) : Type 0 where
      pub at : IsAt functions views index files picture
      pub gone : up_to newest picture ≡ None

    pub is_past : (old new : FileName → File) → IsLoaded stem count old new index → HoldsPicture functions views (root_of (opened stem old)) (own_bytes (opened stem old) old) picture → IsPast new
    is_past old new loaded holds =
        let number = number_past functions views count newest (root_of (opened stem old)) (own_bytes (opened stem old) old) (said_of index) picture loaded.says past holds in
        let at = loaded.at functions views picture number holds in
        let seq : seq_of index ≡ (or_empty (length views) picture).seq = ap (λ (p : Picture). p.seq) at.last in
        record { at = at; gone = up_to_past (length views) newest picture (omega (arith, past, seq)) }

    abbrev Opening : Disk FileName → Disk FileName → Type 0
    Opening a b = Moves (IsFileOf stem) (λ image. Stands functions views stem image picture) (λ files. IsPast files) a b

    abbrev Clearing : Disk FileName → Disk FileName → Type 0
    Clearing a b = Moves (IsFileOf stem) (λ image. Stands functions views stem image picture ⊎ Stands functions views stem image None) (λ files. OnOk result (HoldsIndex functions views stem files None)) a b

    abbrev pub Cleared : Disk FileName → Disk FileName → Type 0
    Cleared a b = Moves (IsFileOf stem) (λ image. Stands functions views stem image picture ⊎ Stands functions views stem image (up_to newest picture))
        (λ files. OnOk result (HoldsIndex functions views stem files None) × (up_to newest picture ≡ None)) a b

    clearing : (b d : Disk FileName) → IsPast b.now → Empties (name_of (file_of index)) result b d → Clearing b d
    clearing b d is clears =
        subst (λ (s : Stem). Moves (IsFileOf s) (λ image. Stands functions views s image picture ⊎ Stands functions views s image None) (λ files. OnOk result (HoldsIndex functions views s files None)) b d) named
        (clear_file functions views (stem_of index) (file_of index) b d picture result (open_file index b.now is.at.is_open) is.at.holds clears)

    cleared_then : (a b d : Disk FileName) → Opening a b → Clearing b d → Cleared a d
    cleared_then a b d opens clears =
        let gone = (opens.ended).gone in
        moves_then (IsFileOf stem) (λ image. Stands functions views stem image picture) (λ image. Stands functions views stem image picture ⊎ Stands functions views stem image None) (λ image. Stands functions views stem image picture ⊎ Stands functions views stem image (up_to newest picture))
        (λ files. IsPast files) (λ files. OnOk result (HoldsIndex functions views stem files None)) (λ files. OnOk result (HoldsIndex functions views stem files None) × (up_to newest picture ≡ None)) a b d
        (λ image stands. inl stands)
        (λ at image either. ⊎_elim (λ stands. inl stands) (λ none. inr (subst (λ (p : Option Picture). Stands functions views stem image p) (sym gone) none)) either)
        (λ at holds. (holds, gone)) opens clears

    pub stands_cleared : (old mid new : Option (Disk FileName)) → IfTold old (λ d. HoldsIndex functions views stem d.now picture)
        → Tells old mid (λ a b. Moves (IsFileOf stem) (λ image. Stands functions views stem image picture) (λ files. IsLoaded stem count a.now files index) a b)
        → Tells mid new (Empties (name_of (file_of index)) result) → Tells old new Cleared
    stands_cleared old mid new holds first second =
        told_then old mid new Opening (Empties (name_of (file_of index)) result) Cleared
        (λ a b d opens clears. cleared_then a b d opens (clearing b d opens.ended clears))
        (told_given old mid (λ d. HoldsIndex functions views stem d.now picture) (λ a b. Moves (IsFileOf stem) (λ image. Stands functions views stem image picture) (λ files. IsLoaded stem count a.now files index) a b) Opening
        (λ a b known opens. record { moments = opens.moments; others = opens.others; ended = is_past a.now b.now opens.ended known.seen.stands }) holds first)
        second

  -- what was loaded was past the newest write, and now the files have no bytes
  pub record WasPast (old new : FileName → File) : Type 0 where
    pub loaded : (FileName → File)
    pub shows : IsLoaded stem count old loaded index
    pub empty : OnOk result (AreEmpty stem new)

  pub was_past : (old mid new : Option (Disk FileName)) → Tells old mid (λ a b. IsLoaded stem count a.now b.now index) → Tells mid new (Empties (name_of (file_of index)) result) → Tells old new (λ a b. WasPast a.now b.now)
  was_past old mid new loaded second =
      told_then old mid new (λ a b. IsLoaded stem count a.now b.now index) (Empties (name_of (file_of index)) result) (λ a b. WasPast a.now b.now)
      (λ a b d opens clears.
      record {
        loaded = b.now;
        shows = opens;
        empty = own_empty stem (name_of (file_of index)) named result b.now d.now (λ n of_pair differs. opens.is_open.other n (of_pair ∙ sym named) differs) clears.others clears.ended;
      })
      loaded second

-- files without bytes have no root, and hold no picture
pub holds_nothing : (functions : Option Functions) (views : List View) (stem : Stem) (files : FileName → File) → AreEmpty stem files → HoldsPicture functions views (root_of (opened stem files)) (own_bytes (opened stem files) files) None
holds_nothing functions views stem files empty = ((empty_stands_none functions views stem files empty).seen).stands

module _ (stem : Stem) (count newest : ℕ) (index now : Index) (past : newest < seq_of index) (old loaded mid new : FileName → File) (shows : IsLoaded stem count old loaded index) (empty : AreEmpty stem mid) (second : IsLoaded stem count mid new now) where
  own_file : (name_of (opened stem mid)).stem ≡ stem
  own_file = is_of_pair stem (λ n. (mid n).seen)

  -- files without bytes have none once they are opened
  still : AreEmpty stem new
  still =
      let gate = opened stem mid in
      let none : take (length_of gate) (own_bytes gate mid) ≡ [] = ap (λ (f : File). take (length_of gate) f.seen) (empty (name_of gate) own_file) ∙ take-nil (length_of gate) in
      both_empty stem (name_of gate) new new own_file
      (λ n of_pair differs. second.is_open.other n (of_pair ∙ sym (ap (λ (g : GateFile). (name_of g).stem) second.file ∙ own_file)) (λ same. differs (same ∙ ap name_of second.file)))
      (λ n differs. refl) (second.whole ∙ ap settled none)

  pub is_emptied : IsFound stem count newest old new now
  is_emptied = record {
    said = said_of index;
    fit = shows.fit;
    says = shows.says;
    kept = λ within. absurd (omega (arith, past, within));
    emptied = λ later. record { empty = still; is_open = second.is_open; at = λ functions views number. second.at functions views None number (holds_nothing functions views stem mid empty) };
    at = λ functions views picture number holds.
        let at = shows.at functions views picture number holds in
        let seq : seq_of index ≡ (or_empty (length views) picture).seq = ap (λ (p : Picture). p.seq) at.last in
        let gone : up_to newest picture ≡ None = up_to_past (length views) newest picture (omega (arith, past, seq)) in
        subst (IsAt functions views now new) (sym gone) (second.at functions views None number (holds_nothing functions views stem mid empty));
  }

-- an index that reaches no further than the newest write stays
pub is_kept : (stem : Stem) (count newest : ℕ) (index : Index) (old new : FileName → File) → seq_of index ≤ newest → IsLoaded stem count old new index → IsFound stem count newest old new index
is_kept stem count newest index old new within loaded = record {
  said = said_of index;
  fit = loaded.fit;
  says = loaded.says;
  kept = λ same. loaded;
  emptied = λ past. absurd (omega (arith, past, within));
  at = λ functions views picture number holds. at_kept functions views newest index new picture within (loaded.at functions views picture number holds);
}

pub found_then : {E : Type 0} (stem : Stem) (count newest : ℕ) (index : Index) → newest < seq_of index → (old loaded mid new : FileName → File) → IsLoaded stem count old loaded index → AreEmpty stem mid
    → (result : Result Index E) → IfOk result (IsLoaded stem count mid new) → IfOk result (IsFound stem count newest old new)
found_then stem count newest index past old loaded mid new shows empty (Ok now) second = is_emptied stem count newest index now past old loaded mid new shows empty second
found_then stem count newest index past old loaded mid new shows empty (Err fault) second = tt

-- nothing is damaged of files without bytes
pub no_damage : (stem : Stem) (count : ℕ) (files : FileName → File) (name : FileName) (at : ℕ) → AreEmpty stem files → IsDamagedAt stem count files name at → ⊥
no_damage stem count files name at empty (inl first) = undamaged_seen stem (HoldsPicture None []) files None name at (empty_stands_none None [] stem files empty).seen first
no_damage stem count files name at empty (inr root) =
    by_root (root_of (opened stem files)) (name_of (opened stem files)) (own_bytes (opened stem files) files) (holds_nothing None [] stem files empty) root.1.place
  where
    by_root : (root : Option Root) (own : FileName) (bytes : List ℕ) → HoldsPicture None [] root bytes None → IsPlaceOf root own name at → ⊥
    by_root None own bytes holds place = place
    by_root (Some root) own bytes holds place = holds
