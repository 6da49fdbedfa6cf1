-- What an open pair stands for while bytes are published, and after it.
use Rattle.std.proofs.Common.{◌≡◌, ◌≢◌, ◌⊎◌, inl, inr, ⊎_elim, ℕ, ◌^◌, ◌<◌, ◌≤◌, List, [], ◌∷◌, ◌++◌, length, Option, Some, Result, OnOk, refl, sym, ap, ◌∙◌, subst, arith, length-append}
use Rattle.std.specs.Prelude.{true, false}
use Rattle.std.proofs.lemmas.Bool.{cases_eq, cases_lt}
use Rattle.std.proofs.lemmas.List.{get_or_append_left}
use Rattle.view_ports.specs.Disk.{Disk, IfTold, Moves, OthersStay, Tells}
use Rattle.view_ports.specs.File.{File, IsImage, settled}
use Rattle.view_ports.specs.declared.file_name.Stem.{Stem}
use Rattle.view_ports.specs.declared.file_name.FileName.{FileName}
use Rattle.view_ports.proofs.DiskRuns.{moves_wider}
use Rattle.view_ports.proofs.Images.{IsImage-settled, settled_stays}
use Rattle.view_ports.proofs.Told.{told_given}
use Rattle.gate_file.specs.declared.root.Root.{Root}
use Rattle.gate_file.specs.declared.gate.GateFile.{GateFile}
use Rattle.gate_file.specs.Header.{slot_at, place_of}
use Rattle.gate_file.specs.GateFile.{commits_of, name_of, root_of, start_of, Keeps}
use Rattle.gate_file.specs.Open.{BeforeOpening, side_of}
use Rattle.gate_file.specs.Pair.{EachStands, IsOfRoot, IsOpenFile, IsOpenPair, PairHolds, StandsFor, durable_bytes, own_bytes}
use Rattle.gate_file.specs.Publish.{IsPublished, Publishes, ShowsEither, ShowsNew, Turns, TurnsFile, WillHold, published, published_root}
use Rattle.gate_file.specs.Shown.{HasAll, IsFront, KeepsDurable, Shows}
use Rattle.gate_file.proofs.Appends.{still_shows}
use Rattle.gate_file.proofs.CommitSteps.{durable_shows, keeps_holds}
use Rattle.gate_file.proofs.Images.{image_stands}
use Rattle.gate_file.proofs.Looks.{newest_of, opened_slot}
use Rattle.gate_file.proofs.Opened.{has_all_same}
use Rattle.gate_file.proofs.Pairs.{apart, sides}
use Rattle.gate_file.proofs.SlotFacts.{fit_at}

-- ---- what stands before the bytes that are appended

pub front_has : (seen front : List ℕ) → IsFront seen front → HasAll seen front
front_has [] front blank = record { long = omega arith; rest = λ place behind within. absurd (omega arith) }
front_has (byte ∷ bytes) front same = has_all_same (byte ∷ bytes) front same

pub has_all_more : (bytes image more : List ℕ) → HasAll bytes image → HasAll bytes (image ++ more)
has_all_more bytes image more has = record {
  long = omega (arith, has.long, length-append image more);
  rest = λ place behind within. get_or_append_left image more 0 place (omega (arith, has.long)) ∙ has.rest place behind within;
}

-- the front of a file has the length at which the bytes begin
pub front_long : (gate : GateFile) (file : File) → Keeps gate file → (front : List ℕ) → IsFront file.seen front → length front ≡ start_of gate
front_long gate file keeps front made = by_seen file.seen refl made
  where
    by_seen : (seen : List ℕ) → file.seen ≡ seen → IsFront seen front → length front ≡ start_of gate
    by_seen [] is blank = let none : length file.seen ≡ 0 = ap length is in omega (arith, blank.long, keeps.size)
    by_seen (byte ∷ rest) is same =
        let size = keeps.size in
        let whole : length file.seen ≡ length (byte ∷ rest) = ap length is in
        let made_now = keeps.made (omega (arith, whole)) in
        let long = keeps.durable.long in
        omega (arith, ap length same, whole)

-- ---- an open file

-- nothing durable differs in what is read
seen_shows : (gate : GateFile) (file : File) → Keeps gate file → Shows (root_of gate) file.durable file.seen
seen_shows gate file keeps = by_length (cases_eq gate.length 0)
  where
    -- the file, were all of its other bytes written since
    again : File
    again = record file { written = (length file.durable, length file.seen) ∷ []; added = []; lengths = length file.seen ∷ [] }

    behind : KeepsDurable again
    behind = record {
      behind = record {
        lengths = λ size is. ⊎_elim (λ same. omega (arith, keeps.durable.long, same)) (λ never. absurd never) is;
        written = λ place is. ⊎_elim (λ range. range.0) (λ never. absurd never) is;
        added = λ place never. absurd never;
      };
      long = keeps.durable.long;
      same = keeps.durable.same;
    }

    is_image : IsImage again file.seen
    is_image = record {
      long = inl refl;
      kept = λ place within unwritten. elim (cases_lt place (length file.durable)) [
        | inl early ↦ inl (keeps.durable.same place early)
        | inr late ↦ absurd (unwritten (inl (late, omega (arith, within))))
      ];
    }

    by_length : (gate.length ≡ 0) ⊎ (gate.length ≢ 0) → Shows (root_of gate) file.durable file.seen
    by_length (inl none) =
        let new = keeps.new none in
        still_shows gate file keeps file.seen (subst (λ (f : File). IsImage f f.seen) (sym new) (settled_stays []))
    by_length (inr some) = durable_shows gate.commits gate.root again file.seen behind (keeps_holds gate file (omega arith) keeps) is_image

module _ (stem : Stem) (gate : GateFile) (files : FileName → File) (is_open : IsOpenFile stem gate files) where
  -- of the other side a crash leaves nothing
  empties : (image : FileName → List ℕ) → ((n : FileName) → n.stem ≡ stem → n ≢ name_of gate → IsImage (files n) (image n)) → (n : FileName) → n.stem ≡ stem → n ≢ name_of gate → image n ≡ []
  empties image outside n of_pair differs = IsImage-settled [] (image n) (subst (λ f. IsImage f (image n)) (is_open.other n of_pair differs) (outside n of_pair differs))

  module _ {X : Type 0} (Holds : Option Root → List ℕ → X → Type 0) (of_root : IsOfRoot Holds) (x : X) (holds : Holds (root_of gate) (durable_bytes gate files) x) where
    -- an image with the present root
    pub shown_image : (image : FileName → List ℕ) → ((n : FileName) → n.stem ≡ stem → n ≢ name_of gate → IsImage (files n) (image n)) → Shows (root_of gate) (durable_bytes gate files) (image (name_of gate)) → StandsFor stem Holds image x
    shown_image image outside shows = image_stands stem image (name_of gate) is_open.own (empties image outside) (root_of gate) (durable_bytes gate files) shows Holds of_root x holds

    -- what a crash may leave of the pair now stands for what the root holds, whatever it leaves of other files
    file_image : (image : FileName → List ℕ) → BeforeOpening stem files image → StandsFor stem Holds image x
    file_image image is = shown_image image (λ n of_pair differs. is n of_pair) (still_shows gate (files (name_of gate)) is_open.keeps (image (name_of gate)) (is (name_of gate) is_open.own))

    -- and so does what is read
    pub file_stands : EachStands stem Holds files x
    file_stands = record {
      images = file_image;
      seen = image_stands stem (λ n. (files n).seen) (name_of gate) is_open.own (λ n of_pair differs. ap (λ (f : File). f.seen) (is_open.other n of_pair differs))
          (root_of gate) (durable_bytes gate files) (seen_shows gate (files (name_of gate)) is_open.keeps) Holds of_root x holds;
    }

-- ---- an open pair

pub file_of_pair : (stem : Stem) (gate : GateFile) (files : FileName → File) → IsOpenPair stem gate files → IsOpenFile stem gate files
file_of_pair stem gate files is_open = record { own = is_open.own; keeps = is_open.keeps; other = is_open.other }

pub all_durable : (stem : Stem) (gate : GateFile) (files : FileName → File) → IsOpenPair stem gate files → durable_bytes gate files ≡ own_bytes gate files
all_durable stem gate files is_open = ap (λ (f : File). f.durable) is_open.whole

module _ (stem : Stem) (gate : GateFile) (files : FileName → File) (is_open : IsOpenPair stem gate files) where
  -- what a crash may leave of the pair now stands for what the root holds, whatever it leaves of other files
  pub image_now : {X : Type 0} (Holds : Option Root → List ℕ → X → Type 0) → IsOfRoot Holds → (x : X) → Holds (root_of gate) (own_bytes gate files) x → (image : FileName → List ℕ) → BeforeOpening stem files image → StandsFor stem Holds image x
  image_now Holds of_root x holds =
      file_image stem gate files (file_of_pair stem gate files is_open) Holds of_root x (subst (λ b. Holds (root_of gate) b x) (sym (all_durable stem gate files is_open)) holds)

  -- nothing of the pair is pending
  whole_pair : (n : FileName) → n.stem ≡ stem → files n ≡ settled (files n).seen
  whole_pair n of_pair = by_side (sides stem n of_pair) (sides stem (name_of gate) is_open.own)
    where
      own_side : n ≡ name_of gate → files n ≡ settled (files n).seen
      own_side same = subst (λ k. files k ≡ settled (files k).seen) (sym same) is_open.whole

      other_side : n ≢ name_of gate → files n ≡ settled (files n).seen
      other_side differs = let empty = is_open.other n of_pair differs in empty ∙ ap (λ (f : File). settled f.seen) (sym empty)

      by_side : (n ≡ side_of stem false) ⊎ (n ≡ side_of stem true) → (name_of gate ≡ side_of stem false) ⊎ (name_of gate ≡ side_of stem true) → files n ≡ settled (files n).seen
      by_side (inl low) (inl own_low) = own_side (low ∙ sym own_low)
      by_side (inl low) (inr own_high) = other_side (λ same. apart stem (sym own_high ∙ sym same ∙ low))
      by_side (inr high) (inl own_low) = other_side (λ same. apart stem (sym high ∙ same ∙ own_low))
      by_side (inr high) (inr own_high) = own_side (high ∙ sym own_high)

  -- an open pair stands for what its root holds
  pub open_holds : {X : Type 0} (Holds : Option Root → List ℕ → X → Type 0) → IsOfRoot Holds → (x : X) → Holds (root_of gate) (own_bytes gate files) x → PairHolds stem Holds files x
  open_holds Holds of_root x holds = record {
    whole = whole_pair;
    stands = image_now Holds of_root x holds (λ n. (files n).seen)
        (λ n of_pair. subst (λ f. IsImage f (files n).seen) (sym (whole_pair n of_pair)) (settled_stays (files n).seen));
  }

-- ---- bytes are published

-- a root that an image shows is that of a commit that a file may have
number_small : (root : Root) (bytes image : List ℕ) → Shows (Some root) bytes image → root.number ≤ 2 ^ 50
number_small root bytes image shows =
    let newest = newest_of image root shows.low shows.high shows.names in
    let slot = opened_slot (slot_at image (place_of root.number)) root newest.last in
    let sound = fit_at image shows.low shows.high root.number slot.0 in
    subst (λ (r : Root). r.number ≤ 2 ^ 50) slot.1 sound.to_most

module _ (stem : Stem) (gate : GateFile) (bytes : List ℕ) (skipped : ℕ) where
  abbrev next : Root
  next = published_root gate (length bytes) skipped

  abbrev last : GateFile
  last = published gate (length bytes) skipped

  module _ (files : FileName → File) (is_open : IsOpenFile stem gate files) where
    -- the new root holds what it will hold of the bytes
    held : {X : Type 0} (Holds : Option Root → List ℕ → X → Type 0) (x : X) → WillHold Holds gate (own_bytes gate files) bytes skipped x → (front : List ℕ) → IsFront (own_bytes gate files) front
        → Holds (Some (published_root gate (length bytes) skipped)) (front ++ bytes) x
    held Holds x will front made = will front (front_long gate (files (name_of gate)) is_open.keeps front made) (front_has (own_bytes gate files) front made)

    -- an image with the new root
    new_image : {X : Type 0} (Holds : Option Root → List ℕ → X → Type 0) → IsOfRoot Holds → (x : X) → (commits_of gate < 2 ^ 50 → WillHold Holds gate (own_bytes gate files) bytes skipped x)
        → (image : FileName → List ℕ) → ((n : FileName) → n.stem ≡ stem → n ≢ name_of gate → IsImage (files n) (image n)) → ShowsNew next bytes (files (name_of gate)) (image (name_of gate)) → StandsFor stem Holds image x
    new_image Holds of_root x will image outside new =
        let few : commits_of gate < 2 ^ 50 = (let n = number_small next (new.front ++ bytes) (image (name_of gate)) new.shows in omega arith) in
        image_stands stem image (name_of gate) is_open.own (empties stem gate files is_open image outside) (Some next) (new.front ++ bytes) new.shows Holds of_root x (held Holds x (will few) new.front new.made)

    module _ (now : FileName → File) (others : OthersStay (λ n. n ≡ name_of gate) files now) (done : IsPublished last bytes (files (name_of gate)) (now (name_of gate))) where
      -- the pair is open with its new root
      pub published_file : IsOpenPair stem last now
      published_file = record {
        own = is_open.own;
        keeps = done.keeps;
        whole = done.whole;
        other = λ n of_pair differs. others n differs ∙ is_open.other n of_pair differs;
      }

      -- and this holds what it was to hold
      pub file_holds : {X : Type 0} (Holds : Option Root → List ℕ → X → Type 0) → IsOfRoot Holds → (x : X) → WillHold Holds gate (own_bytes gate files) bytes skipped x → Holds (root_of last) (own_bytes last now) x
      file_holds Holds of_root x will = of_root.rooted next (done.front ++ bytes) (own_bytes last now) x (omega arith) done.shows.has (held Holds x will done.front done.made)

  -- as a folder tells it: each image stands for what the old root held, or for what the new one holds
  pub file_publishing : {X T E : Type 0} (Holds : Option Root → List ℕ → X → Type 0) → IsOfRoot Holds → (old new : Option (Disk FileName)) (Before : (FileName → File) → Type 0) (x y : X) (result : Result T E) (ends : (FileName → File) → Type 0)
      → ((files : FileName → File) → Before files → TurnsFile stem Holds gate bytes skipped files x y)
      → ((a b : Disk FileName) → Before a.now → OthersStay (λ n. n ≡ name_of gate) a.now b.now → OnOk result (IsPublished last bytes (a.now (name_of gate)) (b.now (name_of gate))) → ends b.now)
      → IfTold old (λ d. Before d.now) → Tells old new (Publishes gate bytes skipped result)
      → Tells old new (Moves (λ name. name.stem ≡ stem) (λ image. StandsFor stem Holds image x ⊎ StandsFor stem Holds image y) ends)
  file_publishing Holds of_root old new Before x y result ends turning endings before moves =
      let name = name_of gate in
      told_given old new (λ d. Before d.now) (Publishes gate bytes skipped result) (Moves (λ n. n.stem ≡ stem) (λ image. StandsFor stem Holds image x ⊎ StandsFor stem Holds image y) ends)
      (λ a b is moved.
      let turns = turning a.now is in
      moves_wider (λ n. n ≡ name) (λ n. n.stem ≡ stem) (λ image. ShowsEither gate next bytes (a.now name) (image name)) (λ image. StandsFor stem Holds image x ⊎ StandsFor stem Holds image y)
      (λ files. OnOk result (IsPublished last bytes (a.now name) (files name))) ends a b
      (λ n same. subst (λ (k : FileName). k.stem ≡ stem) (sym same) turns.is_open.own)
      (λ image framed. ⊎_elim
      (λ shows. inl (shown_image stem gate a.now turns.is_open Holds of_root x turns.holds image (λ n of_pair. framed.outside n) shows))
      (λ shows. inr (new_image a.now turns.is_open Holds of_root y turns.will image (λ n of_pair. framed.outside n) shows))
      framed.inside)
      (λ others ended. endings a b is others ended)
      moved)
      before moves

  -- the same of an open pair
  module _ (files : FileName → File) (is_open : IsOpenPair stem gate files) (now : FileName → File) (others : OthersStay (λ n. n ≡ name_of gate) files now) (done : IsPublished last bytes (files (name_of gate)) (now (name_of gate))) where
    pub published_open : IsOpenPair stem last now
    published_open = published_file files (file_of_pair stem gate files is_open) now others done

    pub published_holds : {X : Type 0} (Holds : Option Root → List ℕ → X → Type 0) → IsOfRoot Holds → (x : X) → WillHold Holds gate (own_bytes gate files) bytes skipped x → Holds (root_of last) (own_bytes last now) x
    published_holds = file_holds files (file_of_pair stem gate files is_open) now others done

  pub publishing_stands : {X T E : Type 0} (Holds : Option Root → List ℕ → X → Type 0) → IsOfRoot Holds → (old new : Option (Disk FileName)) (Before : (FileName → File) → Type 0) (x y : X) (result : Result T E) (ends : (FileName → File) → Type 0)
      → ((files : FileName → File) → Before files → Turns stem Holds gate bytes skipped files x y)
      → ((a b : Disk FileName) → Before a.now → OthersStay (λ n. n ≡ name_of gate) a.now b.now → OnOk result (IsPublished last bytes (a.now (name_of gate)) (b.now (name_of gate))) → ends b.now)
      → IfTold old (λ d. Before d.now) → Tells old new (Publishes gate bytes skipped result)
      → Tells old new (Moves (λ name. name.stem ≡ stem) (λ image. StandsFor stem Holds image x ⊎ StandsFor stem Holds image y) ends)
  publishing_stands Holds of_root old new Before x y result ends turning =
      file_publishing Holds of_root old new Before x y result ends
      (λ files before.
      let turns = turning files before in
      record {
        is_open = file_of_pair stem gate files turns.is_open;
        holds = subst (λ b. Holds (root_of gate) b x) (sym (all_durable stem gate files turns.is_open)) turns.holds;
        will = turns.will;
      })
