-- The index of a signature is opened among the others.
use Rattle.std.specs.Prelude.{◌≡◌, ◌≢◌, ◌⊎◌, ℕ, List, [], ◌∷◌, ◌++◌, length, Bool, true, false, if◌then◌else◌, Option, Some, None, Result, Ok, Err, IfOk, All, AllPairs, Contains, slice_get, slice_index_or, refl}
use Rattle.std.proofs.Common.{ap, sym, ◌∙◌, subst, inl, inr, ⊎_elim, arith}
use Rattle.std.proofs.lemmas.Bool.{cases_lt}
use Rattle.std.proofs.lemmas.List.{get_or_push, length_push}
use Rattle.std.proofs.lemmas.List.Elements.{All-cons, All-contains, All-contains_itself, All-head, All-nil, All-push, All-same, All-tail, Contains-append_left, Contains-get_or}
use Rattle.std.proofs.lemmas.List.Quantifiers.{all_pairs_push}
use Rattle.std.proofs.lemmas.Option.{slice_get-get_or}
use Rattle.view_ports.specs.Disk.{Disk, IfTold, Moves, Tells}
use Rattle.view_ports.specs.File.{File}
use Rattle.view_ports.specs.declared.file_name.FileName.{FileName}
use Rattle.view_ports.specs.declared.file_name.Stem.{Stem}
use Rattle.view_ports.specs.declared.file_name.Stem.TheVariants.{Docs as DocsStem, View}
use Rattle.view_ports.specs.declared.folder.Folder.{Ghosts as Folders}
use Rattle.view_ports.proofs.Moments.{weaker}
use Rattle.gate_file.proofs.Stretches.{told_end}
use Rattle.view_ports.proofs.DiskRuns.{moves_none, moves_wider}
use Rattle.view_ports.proofs.Told.{told_after, told_all, told_both, told_given, told_map, told_now, told_refl, told_still}
use Rattle.gate_file.specs.declared.fault.GateFault.TheVariants.{Damaged, DiskFault}
use Rattle.gate_file.specs.declared.root.Root.{Root}
use Rattle.gate_file.specs.GateFile.{name_of, root_of}
use Rattle.gate_file.specs.Open.{opened, side_of, slots_of, AreFitSlots, WhileOpening}
use Rattle.gate_file.specs.RootPlace.{IsPlaceOf}
use Rattle.gate_file.proofs.Taken.{is_of_pair}
use Rattle.view_model.specs.Picture.{Picture}
use Rattle.tree_index.specs.declared.fault.IndexFault.{IndexFault}
use Rattle.tree_index.specs.declared.fault.IndexFault.TheVariants.{NoMemory, Store, Summer}
use Rattle.tree_index.specs.declared.index.Index.{Index}
use Rattle.tree_index.specs.Calls.{IsOpen}
use Rattle.tree_index.specs.Held.{up_to, HoldsIndex, IsDamagedAt, IsFileOf, IsGone, OnlyOpens}
use Rattle.tree_index.specs.Index.{stem_of}
use Rattle.tree_index.specs.Opens.{FindsDamage, IsFound, IsLeft, IsOpenFault, IsPastWrite, Opens}
use Rattle.tree_index.proofs.Carried.{index_stands}
use Rattle.tree_index.proofs.Emptying.{up_to_kept}
use Rattle.tree_groups.specs.declared.groups.Groups.{Groups}
use Rattle.tree_groups.specs.Groups.{open_of, AreAt, AreOpen, IsClosed, IsGroup}
use Rattle.tree_groups.specs.Openings.{EndsOpen, IsFit, OpensGroup}
use Rattle.tree_groups.specs.Pictures.{HoldsOf, IsAtOf, Kinds, Pictures, StandsOf}
use Rattle.tree_groups.proofs.Closing.{closed_at, closed_each, closed_open, set_held, unset}
use Rattle.tree_groups.proofs.Places.{none_close, none_there, one_place, IsAbsent}
use Rattle.tree_groups.proofs.Standing.{held_stands}

-- the files of an index that is at a picture hold it
pub at_holds : (kinds : Kinds) (own : List ℕ) (index : Index) (files : FileName → File) (picture : Option Picture) → stem_of index ≡ View own → IsAtOf kinds own index files picture → HoldsOf kinds own files picture
at_holds kinds own index files picture named at = subst (λ (s : Stem). HoldsIndex (kinds own).functions (kinds own).views s files picture) named (index_stands (kinds own).functions (kinds own).views index files picture at)

-- what is damaged of an index is one of its files
pub damaged_of : (stem : Stem) (views : ℕ) (files : FileName → File) (name : FileName) (at : ℕ) → IsDamagedAt stem views files name at → IsFileOf stem name
damaged_of stem views files name at (inl slot) =
    let P : FileName × ℕ → Type 0 = λ place. IsFileOf stem place.0 in
    let last = All-cons P (side_of stem true, 4096) [] refl (All-nil P) in
    let third = All-cons P (side_of stem true, 0) ((side_of stem true, 4096) ∷ []) refl last in
    let second = All-cons P (side_of stem false, 4096) ((side_of stem true, 0) ∷ (side_of stem true, 4096) ∷ []) refl third in
    let slots : All P (slots_of stem) = All-cons P (side_of stem false, 0) ((side_of stem false, 4096) ∷ (side_of stem true, 0) ∷ (side_of stem true, 4096) ∷ []) refl second in
    All-at P slot.before (name, at) slot.after (subst (All P) slot.split slots)
  where
    All-at : (P : FileName × ℕ → Type 0) (before : List (FileName × ℕ)) (place : FileName × ℕ) (after : List (FileName × ℕ)) → All P (before ++ place ∷ after) → P place
    All-at P [] place after all = All-head P place after all
    All-at P (x ∷ xs) place after all = All-at P xs place after (All-tail P x (xs ++ place ∷ after) all)
damaged_of stem views files name at (inr damage) = of_root (root_of (opened stem files)) (damage.1).place
  where
    of_root : (root : Option Root) → IsPlaceOf root (name_of (opened stem files)) name at → IsFileOf stem name
    of_root None place = absurd place
    of_root (Some root) place = ap (λ (n : FileName). n.stem) place.0 ∙ is_of_pair stem (λ n. (files n).seen)

-- one more is put behind the open indexes, where memory is found for it
module _ (groups : Groups) (index : Index) where
  by_push : (P : List Index → Type 0) → P (open_of groups ++ index ∷ []) → P (open_of groups) → (pushed : Bool) (items : List Index) → items ≡ (if pushed then open_of groups ++ index ∷ [] else open_of groups) → P items
  by_push P more same true items is = subst P (sym is) more
  by_push P more same false items is = subst P (sym is) same

pub pushed_apart : (groups : Groups) (stem : Stem) (index : Index) → All (λ other. stem_of other ≢ stem) (open_of groups) → stem_of index ≡ stem
    → (pushed : Bool) (items : List Index) → items ≡ (if pushed then open_of groups ++ index ∷ [] else open_of groups) → AllPairs (λ one other. stem_of one ≢ stem_of other) items
pushed_apart groups stem index none named =
    by_push groups index (AllPairs (λ (one : Index) (other : Index). stem_of one ≢ stem_of other))
    (all_pairs_push (λ (one : Index) (other : Index). stem_of one ≢ stem_of other) (open_of groups) index groups.apart (λ k d below is. none k d below (is ∙ named))) groups.apart

pub pushed_of_views : (groups : Groups) (own : List ℕ) (index : Index) → stem_of index ≡ View own
    → (pushed : Bool) (items : List Index) → items ≡ (if pushed then open_of groups ++ index ∷ [] else open_of groups) → All (λ other. stem_of other ≢ DocsStem) items
pushed_of_views groups own index named =
    by_push groups index (All (λ (other : Index). stem_of other ≢ DocsStem))
    (All-push (λ (other : Index). stem_of other ≢ DocsStem) (open_of groups) index groups.of_views (λ is. let no : View own ≡ DocsStem = sym named ∙ is in cc)) groups.of_views

-- an index that is found is open, whether it is kept or emptied
found_open : (stem : Stem) (count newest : ℕ) (old new : FileName → File) (index : Index) → IsFound stem count newest old new index → IsOpen index new
found_open stem count newest old new index found = ⊎_elim (λ past. (found.emptied past).is_open) (λ within. (found.kept within).is_open) (cases_lt newest (found.said).seq)

-- what is known only where a fact is that the disk before tells
told_where : {D : Type 0} (now : Option D) (K P Q : D → Type 0) (N : Type 0) → ((d : D) → K d → N) → (N → IfTold now P) → ((d : D) → K d → P d → Q d) → IfTold now (λ d. K d → Q d)
told_where None K P Q N tells goes ends = tt
told_where (Some d) K P Q N tells goes ends = λ known. ends d known (goes (tells d known))

abbrev placed : ℕ → Result ℕ IndexFault
placed place = Ok place

abbrev unplaced : IndexFault → Result ℕ IndexFault
unplaced fault = Err fault

abbrev unopened : IndexFault → Result Index IndexFault
unopened fault = Err fault

module _ {F : Type 0} (f : Folders F) (own : List ℕ) (views newest : ℕ) where
  -- ---- it was open

  pub already : (groups : Groups) (folder : F) (place : ℕ) (index : Index) → IsGroup groups place own views index → OpensGroup own views newest f groups groups folder folder (Ok place)
  already groups folder place index group = record {
    stands = λ kinds pictures known. told_still (f.disk folder) _ _
        (λ d k. moves_none (IsFileOf (View own)) (λ image. StandsOf kinds own image (pictures own)) (EndsOpen own views newest kinds groups pictures (Ok place)) d
        (λ image is. held_stands kinds own d.now image (pictures own) (k.0.held own) (λ n of_pair. is n)) k.0) known;
    sound = λ kinds pictures. told_all (f.disk folder) _ (λ d known name at failed. cc);
    damaged = told_all (f.disk folder) (λ d. FindsDamage (IsDamagedAt (View own) views d.now) (placed place)) (λ d name at failed. let no : ⊥ = cc in absurd no);
    files = told_refl (f.disk folder) (OnlyOpens (View own) (IsPastWrite (View own) views newest))
        (λ d. moves_none (IsFileOf (View own)) (λ image. WhileOpening (View own) d.now image ⊎ (IsGone (View own) image × AreFitSlots (View own) d.now × IsPastWrite (View own) views newest d.now)) (λ files. Unit {0}) d
        (λ image is. inl (inl (λ name of_view. is name))) tt);
    left = told_refl (f.disk folder) _ (λ d name at failed. let no : ⊥ = cc in absurd no);
    is_open = λ are. are;
    place = (index, group);
    beside = none_close groups groups (View own) refl;
    only = none_close groups groups (View own) refl;
    shown = λ absent. absurd (absent place index group);
    found = λ at other its. (ap (λ p. Ok p) (one_place groups (View own) place at index other group.there its.there group.named its.named), refl, refl);
    faults = tt;
    cause = record { later = omega arith; failed = tt; still = λ spared. refl };
    reads = record { later = omega arith; within = omega arith };
  }

  -- ---- one of another number of views was closed before

  pub after_close : (groups mid groups' : Groups) (old new : F) (result : Result ℕ IndexFault) → IsAbsent groups own views → IsClosed (View own) groups mid → OpensGroup own views newest f mid groups' old new result → OpensGroup own views newest f groups groups' old new result
  after_close groups mid groups' old new result absent closed opens =
      let still : (kinds : Kinds) (pictures : Pictures) (d : Disk FileName) → AreAt kinds groups d.now pictures → AreAt kinds mid d.now pictures = λ kinds pictures d at.
      closed_at kinds own d.now pictures pictures (pictures own) (unset own pictures) d.now (λ n other. refl) groups mid closed at (at.held own) in
      record {
        stands = λ kinds pictures known. opens.stands kinds pictures (told_now (f.disk old) _ _ (λ d k. (still kinds pictures d k.0, k.1)) known);
        sound = λ kinds pictures. told_now (f.disk old) _ _ (λ d never known. never (still kinds pictures d known.0, known.1)) (opens.sound kinds pictures);
        damaged = opens.damaged;
        files = opens.files;
        left = opens.left;
        is_open = λ are. opens.is_open (told_now (f.disk old) _ _ (λ d here. closed_open own d.now d.now (λ n other. refl) groups mid closed here) are);
        place = opens.place;
        beside = λ k d below differs.
            let index = slice_index_or (open_of groups) k d in
            All-contains (λ i. stem_of i ≢ View own → Contains (open_of groups') i) (open_of mid) index opens.beside (closed.stay k d below differs) differs;
        only = λ k d below differs.
            let index = slice_index_or (open_of groups') k d in
            All-contains (Contains (open_of groups)) (open_of mid) index closed.others (opens.only k d below differs);
        shown = λ none. opens.shown (none_there mid own views closed.gone);
        found = λ place index group. absurd (absent place index group);
        faults = opens.faults;
        cause = opens.cause;
        reads = opens.reads;
      }

  -- ---- none is open

  module _ (groups : Groups) (none : All (λ index. stem_of index ≢ View own) (open_of groups)) (old new : F) where
    abbrev Known : Kinds → Pictures → Disk FileName → Type 0
    Known kinds pictures d = AreAt kinds groups d.now pictures × IsFit own views newest kinds pictures

    -- only files of the signature are touched
    abbrev Touched : Disk FileName → Disk FileName → Type 0
    Touched a b = Moves (IsFileOf (View own)) (λ image. Unit {0}) (λ files. Unit {0}) a b

    closed_by : (groups' : Groups) → open_of groups' ≡ open_of groups → IsClosed (View own) groups groups'
    closed_by groups' same = record {
      gone = All-same (λ index. stem_of index ≢ View own) (open_of groups') (open_of groups) same none;
      others = All-same (Contains (open_of groups)) (open_of groups') (open_of groups) same (All-contains_itself (open_of groups));
      stay = none_close groups groups' (View own) same;
    }

    module _ (opened : Result Index IndexFault) (opens : Opens f (View own) views newest old new opened) where
      touched : Tells (f.disk old) (f.disk new) Touched
      touched = told_map (f.disk old) (f.disk new) (OnlyOpens (View own) (IsPastWrite (View own) views newest)) Touched (λ a b moves. record { moments = weaker _ _ a b (λ image framed. record { inside = tt; outside = framed.outside }) moves.moments; others = moves.others; ended = tt }) opens.files

      abbrev IsMoved : Kinds → Pictures → Disk FileName → Disk FileName → Type 0
      IsMoved kinds pictures a b = Known kinds pictures a × Moves (IsFileOf (View own)) (λ image. StandsOf kinds own image (pictures own)) (λ files. IfOk opened (λ index. IsAtOf kinds own index files (pictures own))) a b

      -- the picture is no newer than the newest write, so that it stays
      module _ (kinds : Kinds) (pictures : Pictures) where
        abbrev Opening : Disk FileName → Disk FileName → Type 0
        Opening a b = Moves (IsFileOf (View own)) (λ image. StandsOf kinds own image (pictures own) ⊎ StandsOf kinds own image (up_to newest (pictures own)))
            (λ files. IfOk opened (λ index. length (kinds own).views ≡ views → IsAtOf kinds own index files (up_to newest (pictures own)))) a b

        at_own : (result : Result Index IndexFault) (files : FileName → File) → length (kinds own).views ≡ views → up_to newest (pictures own) ≡ pictures own
            → IfOk result (λ index. length (kinds own).views ≡ views → IsAtOf kinds own index files (up_to newest (pictures own))) → IfOk result (λ index. IsAtOf kinds own index files (pictures own))
        at_own (Ok index) files number kept at = subst (λ (p : Option Picture). IsAtOf kinds own index files p) kept (at number)
        at_own (Err fault) files number kept at = tt

        narrowed : (a b : Disk FileName) → Known kinds pictures a → Opening a b → IsMoved kinds pictures a b
        narrowed a b known moves =
            let kept = up_to_kept views newest (pictures own) (known.1).within in (
              known,
              moves_wider (IsFileOf (View own)) (IsFileOf (View own)) (λ image. StandsOf kinds own image (pictures own) ⊎ StandsOf kinds own image (up_to newest (pictures own))) (λ image. StandsOf kinds own image (pictures own))
                  (λ files. IfOk opened (λ index. length (kinds own).views ≡ views → IsAtOf kinds own index files (up_to newest (pictures own)))) (λ files. IfOk opened (λ index. IsAtOf kinds own index files (pictures own))) a b (λ n is. is)
                  (λ image framed. ⊎_elim (λ stands. stands) (λ stands. subst (λ (p : Option Picture). StandsOf kinds own image p) kept stands) framed.inside)
                  (λ others ended. at_own opened b.now (known.1).number kept ended) moves,
            )

        held_before : IfTold (f.disk old) (Known kinds pictures) → IfTold (f.disk old) (λ d. HoldsOf kinds own d.now (pictures own))
        held_before known = told_now (f.disk old) (Known kinds pictures) (λ d. HoldsOf kinds own d.now (pictures own)) (λ d k. k.0.held own) known

        moved : IfTold (f.disk old) (Known kinds pictures) → Tells (f.disk old) (f.disk new) (IsMoved kinds pictures)
        moved known = told_given (f.disk old) (f.disk new) (Known kinds pictures) Opening (IsMoved kinds pictures) narrowed known (opens.stands (kinds own).functions (kinds own).views (pictures own) (held_before known))

        sound_for : IfTold (f.disk old) (λ d. AreAt kinds groups d.now pictures × IsFit own views newest kinds pictures → FindsDamage (λ name at. ⊥) opened)
        sound_for = told_where (f.disk old) (Known kinds pictures) (λ d. HoldsOf kinds own d.now (pictures own) → FindsDamage (λ name at. ⊥) opened) (λ d. FindsDamage (λ name at. ⊥) opened) (length (kinds own).views ≡ views)
            (λ d k. (k.1).number) (λ number. opens.sound (kinds own).functions (kinds own).views (pictures own) number) (λ d k never. never (k.0.held own))

    module _ (fault : IndexFault) (opens : Opens f (View own) views newest old new (Err fault)) where
      -- after a refusal
      ends_refused : (kinds : Kinds) (pictures : Pictures) (reason : IndexFault) → IsOpenFault reason → (a b : Disk FileName) → IsMoved (Err fault) opens kinds pictures a b
          → (reason ≡ NoMemory → HoldsOf kinds own b.now (pictures own)) → EndsOpen own views newest kinds groups pictures (Err reason) b.now
      ends_refused kinds pictures (Store gate) faults a b moves wanting = tt
      ends_refused kinds pictures (Summer pool) faults a b moves wanting = absurd (⊎_elim (λ disk. let no : ⊥ = cc in no) (λ rest. ⊎_elim (λ want. let no : ⊥ = cc in no) (λ damage. let was = damage.2 in let no : ⊥ = cc in no) rest) faults)
      ends_refused kinds pictures NoMemory faults a b moves wanting = closed_at kinds own a.now pictures pictures (pictures own) (unset own pictures) b.now moves.1.others groups groups (closed_by groups refl) moves.0.0 (wanting refl)

      -- want of memory leaves the picture
      module _ (kinds : Kinds) (pictures : Pictures) where
        abbrev IsEither : Disk FileName → Type 0
        IsEither d = HoldsOf kinds own d.now (pictures own) ⊎ HoldsOf kinds own d.now (up_to newest (pictures own))

        wanted : (reason : IndexFault) → fault ≡ reason → IfTold (f.disk old) (λ d. HoldsOf kinds own d.now (pictures own)) → IfTold (f.disk new) (λ d. reason ≡ NoMemory → IsEither d)
        wanted NoMemory is holds = told_now (f.disk new) IsEither (λ d. NoMemory ≡ NoMemory → IsEither d) (λ d here same. here) (opens.wanting (kinds own).functions (kinds own).views (pictures own) holds (ap (λ e. Err e) is))
        wanted (Store gate) is holds = told_all (f.disk new) _ (λ d same. let no : ⊥ = cc in absurd no)
        wanted (Summer pool) is holds = told_all (f.disk new) _ (λ d same. let no : ⊥ = cc in absurd no)

        left : IfTold (f.disk old) (Known kinds pictures) → Tells (f.disk old) (f.disk new) (λ a b. fault ≡ NoMemory → HoldsOf kinds own b.now (pictures own))
        left known = told_given (f.disk old) (f.disk new) (Known kinds pictures) (λ a b. Touched a b × (fault ≡ NoMemory → IsEither b)) (λ a b. fault ≡ NoMemory → HoldsOf kinds own b.now (pictures own))
            (λ a b k told want.
            let kept = up_to_kept views newest (pictures own) (k.1).within in
            ⊎_elim (λ is. is) (λ is. subst (λ (p : Option Picture). HoldsOf kinds own b.now p) kept is) (told.1 want))
            known
            (told_end (f.disk old) (f.disk new) Touched (λ d. fault ≡ NoMemory → IsEither d) (touched (Err fault) opens) (wanted fault refl (held_before (Err fault) opens kinds pictures known)))

      pub refused_open : OpensGroup own views newest f groups groups old new (Err fault)
      refused_open = record {
        stands = λ kinds pictures known. told_both (f.disk old) (f.disk new) (IsMoved (Err fault) opens kinds pictures) (λ a b. fault ≡ NoMemory → HoldsOf kinds own b.now (pictures own)) _
            (λ a b moves want. record { moments = moves.1.moments; others = moves.1.others; ended = ends_refused kinds pictures fault opens.faults a b moves want })
            (moved (Err fault) opens kinds pictures known) (left kinds pictures known);
        sound = λ kinds pictures. told_now (f.disk old) _ _ (λ d never known name at failed. never known name at (let same : fault ≡ Store (Damaged name at) = cc in ap (λ e. Err e) same)) (sound_for (Err fault) opens kinds pictures);
        damaged = told_now (f.disk old) (λ d. FindsDamage (IsDamagedAt (View own) views d.now) (unopened fault)) (λ d. FindsDamage (IsDamagedAt (View own) views d.now) (unplaced fault))
            (λ d found name at failed. found name at (ap unopened (let same : fault ≡ Store (Damaged name at) = cc in same))) opens.damaged;
        files = opens.files;
        left = told_map (f.disk old) (f.disk new) (λ a b. FindsDamage (λ name at. AreFitSlots (View own) a.now → IsLeft (View own) a.now b.now) (unopened fault)) (λ a b. FindsDamage (λ name at. AreFitSlots (View own) a.now → IsLeft (View own) a.now b.now) (unplaced fault))
            (λ a b left name at failed. left name at (ap unopened (let same : fault ≡ Store (Damaged name at) = cc in same))) opens.left;
        is_open = λ are. told_after (f.disk old) (f.disk new) _ (λ d. AreOpen groups d.now) _ (λ a b here moves. closed_open own a.now b.now moves.others groups groups (closed_by groups refl) here) are (touched (Err fault) opens);
        place = tt;
        beside = none_close groups groups (View own) refl;
        only = none_close groups groups (View own) refl;
        shown = λ absent. told_map (f.disk old) (f.disk new) Touched (λ a b. Unit {0}) (λ a b moved. tt) (touched (Err fault) opens);
        found = λ place index group. absurd (none_there groups own views none place index group);
        faults = opens.faults;
        cause = record { later = opens.cause.later; failed = opens.cause.failed; still = λ spared. opens.cause.still (λ is. spared (let same : fault ≡ Store DiskFault = cc in ap unplaced same)) };
        reads = opens.reads;
      }

    module _ (index : Index) (opens : Opens f (View own) views newest old new (Ok index)) where
      -- no memory was found to keep it
      refused_want : (groups' : Groups) → open_of groups' ≡ open_of groups → OpensGroup own views newest f groups groups' old new (Err NoMemory)
      refused_want groups' same = record {
        stands = λ kinds pictures known. told_map (f.disk old) (f.disk new) _ _
            (λ a b moves. record {
              moments = moves.1.moments;
              others = moves.1.others;
              ended = closed_at kinds own a.now pictures pictures (pictures own) (unset own pictures) b.now moves.1.others groups groups' (closed_by groups' same) moves.0.0
                  (at_holds kinds own index b.now (pictures own) opens.fresh.named moves.1.ended);
            })
            (moved (Ok index) opens kinds pictures known);
        sound = λ kinds pictures. told_all (f.disk old) _ (λ d known name at failed. cc);
        damaged = told_all (f.disk old) (λ d. FindsDamage (IsDamagedAt (View own) views d.now) (unplaced NoMemory)) (λ d name at failed. let no : ⊥ = cc in absurd no);
        files = opens.files;
        left = told_map (f.disk old) (f.disk new) Touched (λ a b. FindsDamage (λ name at. AreFitSlots (View own) a.now → IsLeft (View own) a.now b.now) (unplaced NoMemory)) (λ a b moved name at failed. let no : ⊥ = cc in absurd no) (touched (Ok index) opens);
        is_open = λ are. told_after (f.disk old) (f.disk new) _ (λ d. AreOpen groups' d.now) _ (λ a b here moves. closed_open own a.now b.now moves.others groups groups' (closed_by groups' same) here) are (touched (Ok index) opens);
        place = tt;
        beside = none_close groups groups' (View own) same;
        only = none_close groups' groups (View own) (sym same);
        shown = λ absent. told_map (f.disk old) (f.disk new) Touched (λ a b. Unit {0}) (λ a b moved. tt) (touched (Ok index) opens);
        found = λ place index group. absurd (none_there groups own views none place index group);
        faults = inr (inl refl);
        cause = record { later = opens.cause.later; failed = λ is. let no : ⊥ = cc in absurd no; still = λ spared. opens.cause.still (λ is. let no : ⊥ = cc in no) };
        reads = opens.reads;
      }

      pub refused_push : (groups' : Groups) → open_of groups' ≡ open_of groups → (result : Result ℕ IndexFault) → result ≡ Err NoMemory → OpensGroup own views newest f groups groups' old new result
      refused_push groups' same result failed = subst (λ r. OpensGroup own views newest f groups groups' old new r) (sym failed) (refused_want groups' same)

      -- it is open, behind the others
      pub opened_new : (groups' : Groups) (place : ℕ) → open_of groups' ≡ open_of groups ++ index ∷ [] → place ≡ length (open_of groups) → OpensGroup own views newest f groups groups' old new (Ok place)
      opened_new groups' place items last = record {
        stands = λ kinds pictures known. told_map (f.disk old) (f.disk new) _ _
            (λ a b moves.
            let at = moves.1.ended in
            let P : Index → Type 0 = λ i. (sig : List ℕ) → stem_of i ≡ View sig → IsAtOf kinds sig i b.now (pictures sig) in
            record {
              moments = moves.1.moments;
              others = moves.1.others;
              ended = record {
                held = set_held kinds own a.now pictures pictures (pictures own) (unset own pictures) b.now moves.1.others moves.0.0.held (at_holds kinds own index b.now (pictures own) opens.fresh.named at);
                each = All-same P (open_of groups') (open_of groups ++ index ∷ []) items
                    (All-push P (open_of groups) index
                    (closed_each kinds own a.now pictures pictures (pictures own) (unset own pictures) b.now moves.1.others groups groups (closed_by groups refl) moves.0.0.each)
                    (λ sig named. let same : own ≡ sig = cc in subst (λ (s : List ℕ). IsAtOf kinds s index b.now (pictures s)) same at));
              };
            })
            (moved (Ok index) opens kinds pictures known);
        sound = λ kinds pictures. told_all (f.disk old) _ (λ d known name at failed. cc);
        damaged = told_all (f.disk old) (λ d. FindsDamage (IsDamagedAt (View own) views d.now) (placed place)) (λ d name at failed. let no : ⊥ = cc in absurd no);
        files = opens.files;
        left = told_map (f.disk old) (f.disk new) Touched (λ a b. FindsDamage (λ name at. AreFitSlots (View own) a.now → IsLeft (View own) a.now b.now) (placed place)) (λ a b moved name at failed. let no : ⊥ = cc in absurd no) (touched (Ok index) opens);
        is_open = λ are. told_after (f.disk old) (f.disk new) (λ d. AreOpen groups d.now) (λ d. AreOpen groups' d.now)
            (λ a b. Touched a b × IsFound (View own) views newest a.now b.now index)
            (λ a b here told. All-same (λ i. IsOpen i b.now) (open_of groups') (open_of groups ++ index ∷ []) items
            (All-push (λ i. IsOpen i b.now) (open_of groups) index (closed_open own a.now b.now told.0.others groups groups (closed_by groups refl) here) (found_open (View own) views newest a.now b.now index told.1)))
            are (told_both (f.disk old) (f.disk new) Touched (λ a b. IsFound (View own) views newest a.now b.now index)
            (λ a b. Touched a b × IsFound (View own) views newest a.now b.now index) (λ a b moves found. (moves, found)) (touched (Ok index) opens) opens.found);
        place = (index, its_place);
        shown = λ absent. told_map (f.disk old) (f.disk new) (λ a b. IsFound (View own) views newest a.now b.now index)
            (λ a b. (one : Index) × IsGroup groups' place own views one × IsFound (View own) views newest a.now b.now one) (λ a b found. (index, its_place, found)) opens.found;
        beside = λ k d below differs. subst (λ (l : List Index). Contains l (slice_index_or (open_of groups) k d)) (sym items)
            (Contains-append_left (open_of groups) (index ∷ []) (slice_index_or (open_of groups) k d) (Contains-get_or (open_of groups) k d below));
        only = All-same (λ i. stem_of i ≢ View own → Contains (open_of groups) i) (open_of groups') (open_of groups ++ index ∷ []) items
            (All-push (λ i. stem_of i ≢ View own → Contains (open_of groups) i) (open_of groups) index (none_close groups groups (View own) refl) (λ differs. absurd (differs opens.fresh.named)));
        found = λ at other group. absurd (none_there groups own views none at other group);
        faults = tt;
        cause = record { later = opens.cause.later; failed = tt; still = λ spared. opens.cause.still (λ is. let no : ⊥ = cc in no) };
        reads = opens.reads;
      }
        where
          its_place : IsGroup groups' place own views index
          its_place = record {
            there = subst (λ (l : List Index). slice_get l place ≡ Some index) (sym items)
                (slice_get-get_or (open_of groups ++ index ∷ []) place index (let long = length_push (open_of groups) index in omega (arith, long, last)) ∙ ap (λ i. Some i) (get_or_push (open_of groups) index index place (sym last)));
            named = opens.fresh.named;
            number = opens.fresh.number;
          }
