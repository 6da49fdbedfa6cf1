-- What reading the live designs and then removing the other indexes comes to.
use Rattle.std.specs.Prelude.{◌≡◌, ◌⊎◌, ◌≤◌, ◌++◌, ℕ, List, [], ◌∷◌, Bool, true, false, bytes_eq, Result, Ok, Err, IfErr, OnErr, OnOk, Contains}
use Rattle.std.proofs.Common.{refl, sym, ap, ◌∙◌, subst, inl, inr, ⊎_elim, arith}
use Rattle.std.proofs.lemmas.List.Elements.{All-contains_itself, Contains-append_cases, Contains-append_left, Contains-append_right, Contains-push, Contains-push_cases}
use Rattle.std.proofs.lemmas.Slice.Eq.{bytes_eq-Decides}
use Rattle.view_ports.specs.Disk.{Disk, IfTold, Moves, MovesNone, Tells}
use Rattle.view_ports.specs.Faults.{Rose}
use Rattle.view_ports.specs.File.{File}
use Rattle.view_ports.specs.Lines.{ended}
use Rattle.view_ports.specs.declared.file_name.FileName.{FileName}
use Rattle.view_ports.specs.declared.folder.Folder.{Ghosts as Folders}
use Rattle.view_ports.proofs.Counting.{Rose-earlier}
use Rattle.view_ports.proofs.DiskRuns.{moves_then, moves_wider, none_same, none_wider}
use Rattle.view_ports.proofs.Told.{told_after, told_back, told_given, told_map, told_now, told_pair, told_then}
use Rattle.gate_file.specs.declared.fault.GateFault.TheVariants as gate
use Rattle.gate_file.proofs.Looks.{told_none_then}
use Rattle.gate_file.proofs.Stretches.{told_end}
use Rattle.doc_file.specs.declared.docs.Docs.{Docs}
use Rattle.doc_file.specs.Docs.{bytes_in, IsAt as AreAt}
use Rattle.design_docs.specs.History.{Write}
use Rattle.tree_index.specs.declared.fault.IndexFault.{IndexFault}
use Rattle.tree_index.specs.declared.fault.IndexFault.TheVariants as index
use Rattle.tree_groups.specs.declared.groups.Groups.{Groups}
use Rattle.tree_groups.specs.Cleans.{AreCleared, AreFewer, AreKept, Cleans, EndsAt, IsDamageOf, IsIndexFile, IsUnkept}
use Rattle.tree_groups.specs.Groups.{open_of, AreAt as AreIndexesAt, AreOpen as AreIndexesOpen}
use Rattle.tree_groups.specs.Pictures.{Pictures, StandFor}
use Rattle.tree_groups.proofs.Standing.{images_stand}
use Rattle.view_engine.specs.declared.halt.Halt.{Halt}
use Rattle.view_engine.specs.declared.halt.Halt.TheVariants.{Refused, Stopped}
use Rattle.view_engine.specs.declared.halt.StepFault.TheVariants.{DiskFault, Damaged, Full, NoMemory}
use Rattle.view_engine.specs.Cleaning.{met_by_index, AreLiveSignatures, CleansUp, EndsCleaned, IsCleanFault, IsCleanupReason, IsStopped, StandsCleaned}
use Rattle.view_engine.specs.Cleanup.{done_text, IsCleaned, IsPartlyCleaned}
use Rattle.view_engine.specs.Disks.{ClearsUnheld, IfStopped, IsOfNone, IsReadReason}
use Rattle.view_engine.specs.HeldDesigns.{AreHeldSignatures, IsUnheld}
use Rattle.view_engine.specs.Signatures.{kinds_of}
use Rattle.view_engine.specs.World.{World}

-- a signature is among some, or not
contains_or_not : (sigs : List (List ℕ)) (sig : List ℕ) → Contains sigs sig ⊎ (Contains sigs sig → ⊥)
contains_or_not [] sig = inr (λ is. let no = is.1 in omega (arith, no))
contains_or_not (first ∷ sigs) sig = by_first (bytes_eq first sig) refl (contains_or_not sigs sig)
  where
    by_first : (test : Bool) → bytes_eq first sig ≡ test → Contains sigs sig ⊎ (Contains sigs sig → ⊥) → Contains (first ∷ sigs) sig ⊎ (Contains (first ∷ sigs) sig → ⊥)
    by_first true is rest = inl (subst (Contains (first ∷ sigs)) ((bytes_eq-Decides first sig).0 is) (Contains-append_left (first ∷ []) sigs first (Contains-push [] first)))
    by_first false is (inl there) = inl (Contains-append_right (first ∷ []) sigs sig there)
    by_first false is (inr nowhere) = inr (λ there. ⊎_elim
        (λ one. ⊎_elim (λ none. let no = none.1 in omega (arith, no)) (λ same. let yes : bytes_eq first sig ≡ true = (bytes_eq-Decides first sig).1 same in let no : ⊥ = cc in no) (Contains-push_cases [] first sig one))
        nowhere (Contains-append_cases (first ∷ []) sigs sig there))

-- a world with these pictures
abbrev with_pictures : World → Pictures → World
with_pictures world pictures = record world { pictures = pictures }

module _ (world : World) (kept : List (List ℕ)) (live : AreLiveSignatures world.history kept) where
  -- what is left by a part of the removals is what a part of a cleanup leaves
  partly : (fewer : Pictures) → AreFewer kept world.pictures fewer → IsPartlyCleaned world (with_pictures world fewer)
  partly fewer are = record { history = refl; known = refl; fewer = λ sig. ⊎_elim (λ same. inl same) (λ gone. inr (gone.0, λ lives. gone.1 ((live sig).1 lives))) (are sig) }

  -- and by all of them a cleaned world
  cleaned : (left : Pictures) → AreKept kept world.pictures left → IsCleaned world (with_pictures world left)
  cleaned left are = record { history = refl; known = refl; each = λ sig. ⊎_elim (λ there. inl ((live sig).0 there, are.stay sig there)) (λ none. inr (λ lives. none ((live sig).1 lives), are.gone sig none)) (contains_or_not kept sig) }

  images_cleaned : (image : FileName → List ℕ) → (fewer : Pictures) × AreFewer kept world.pictures fewer × StandFor (kinds_of world) image fewer → StandsCleaned world image
  images_cleaned image left = (with_pictures world left.0, partly left.0 left.1, left.2)

-- how a cleanup ends as the removals do
abbrev pub ended_as : Result (Unit {0}) IndexFault → Result (Unit {0}) Halt
ended_as (Ok done) = Ok tt
ended_as (Err fault) = Err (met_by_index fault)

same_world : (world : World) → IsPartlyCleaned world world
same_world world = record { history = refl; known = refl; fewer = λ sig. inl refl }

module _ {F : Type 0} (f : Folders F) (docs : Docs) (groups : Groups) (old : F) where
  abbrev Stands : World → Type 0
  Stands world = IfTold (f.disk old) (λ d. AreAt docs d.now world.history × AreIndexesAt (kinds_of world) groups d.now world.pictures)

  -- ---- nothing was removed, since reading failed or memory ran out
  module _ (mid : F) (out : List ℕ) where
    reason_of_read : (halt : Halt) → IfStopped (IsReadReason f docs old mid) halt → IfStopped (IsCleanupReason f docs groups groups old mid) halt
    reason_of_read (Refused refusal) why = tt
    reason_of_read (Stopped DiskFault) why = why
    reason_of_read (Stopped (Damaged name at)) why = inl why
    reason_of_read (Stopped (Full name length)) why = why
    reason_of_read (Stopped NoMemory) why = why

    pub cleans_none : (halt : Halt) → IsStopped halt → Tells (f.disk old) (f.disk mid) MovesNone → IfStopped (IsReadReason f docs old mid) halt → f.faults old ≤ f.faults mid → CleansUp f docs groups groups old mid out out (Err halt)
    cleans_none halt is none why later = record {
      stands = λ world at. told_given (f.disk old) (f.disk mid) (λ d. AreAt docs d.now world.history × AreIndexesAt (kinds_of world) groups d.now world.pictures) MovesNone (Moves IsIndexFile (StandsCleaned world) (λ files. Unit {0}))
          (λ a b here same. none_wider IsIndexFile (StandsCleaned world) (λ files. Unit {0}) a b (λ image of_files. (world, same_world world, images_stand (kinds_of world) a.now world.pictures image here.1.held of_files)) (λ kept. tt) same) at none;
      others = told_map (f.disk old) (f.disk mid) MovesNone (Moves IsIndexFile (λ image. Unit {0}) (λ files. Unit {0})) (λ a b same. none_wider IsIndexFile (λ image. Unit {0}) (λ files. Unit {0}) a b (λ image of_files. tt) (λ kept. tt) same) none;
      spared = λ history at. told_map (f.disk old) (f.disk mid) MovesNone _ (λ a b same. none_wider (IsOfNone history) (λ image. Unit {0}) (λ files. Unit {0}) a b (λ image of_files. tt) (λ kept. tt) same) none;
      empty = tt;
      held = record {
        alone = told_map (f.disk old) (f.disk mid) MovesNone _ (λ a b same. none_wider (IsUnheld docs a.now) (λ image. Unit {0}) (λ files. Unit {0}) a b (λ image of_files. tt) (λ kept. tt) same) none;
        gone = λ done. let no : ⊥ = cc in absurd no;
        whole = λ done. let no : ⊥ = cc in absurd no;
      };
      unmoved = λ spent. (refl, none);
      is_open = λ goes are. told_after (f.disk old) (f.disk mid) (λ d. AreIndexesOpen groups d.now) (λ d. AreIndexesOpen groups d.now) MovesNone (λ a b here same. subst (AreIndexesOpen groups) (λ i. λ n. sym (none_same a b same n) i) here) are none;
      closes = All-contains_itself (open_of groups);
      prints = tt;
      silent = refl;
      stopped = is;
      why = reason_of_read halt why;
      later = later;
    }

  -- ---- the removals, behind reading
  module _ (groups' : Groups) (mid new : F) (kept : List (List ℕ)) (read : Tells (f.disk old) (f.disk mid) MovesNone) (earlier : f.faults old ≤ f.faults mid)
      (live : (history : List Write) → IfTold (f.disk old) (λ d. AreAt docs d.now history → AreLiveSignatures history kept)) (held : IfTold (f.disk old) (λ d. AreHeldSignatures docs (bytes_in docs d.now) kept))
      (r : Result (Unit {0}) IndexFault) (cleans : Cleans kept f groups groups' mid new r) where
    abbrev result : Result (Unit {0}) Halt
    result = ended_as r

    -- what is said of the files after reading is said of them before
    told_before : (P : (FileName → File) → Type 0) → IfTold (f.disk mid) (λ d. P d.now) → IfTold (f.disk old) (λ d. P d.now)
    told_before P known = told_back (f.disk old) (f.disk mid) (λ d. P d.now) (λ d. P d.now) MovesNone (λ a b none is. subst P (λ i. λ n. none_same a b none n i) is) read known

    told_behind : (P : (FileName → File) → Type 0) → IfTold (f.disk old) (λ d. P d.now) → IfTold (f.disk mid) (λ d. P d.now)
    told_behind P known = told_after (f.disk old) (f.disk mid) (λ d. P d.now) (λ d. P d.now) MovesNone (λ a b is none. subst P (λ i. λ n. sym (none_same a b none n) i) is) known read

    abbrev Fewer : World → (FileName → List ℕ) → Type 0
    Fewer world image = (fewer : Pictures) × AreFewer kept world.pictures fewer × StandFor (kinds_of world) image fewer

    ends : (world : World) → AreLiveSignatures world.history kept → (files : FileName → File) (some : Result (Unit {0}) IndexFault) → EndsAt kept (kinds_of world) groups' world.pictures some files → EndsCleaned groups' world (ended_as some) files
    ends world lives files (Ok done) left = (with_pictures world left.0, cleaned world kept lives left.0 left.1, left.2)
    ends world lives files (Err fault) left = tt

    stands : (world : World) → Stands world → Tells (f.disk old) (f.disk new) (Moves IsIndexFile (StandsCleaned world) (EndsCleaned groups' world result))
    stands world at =
        told_then (f.disk old) (f.disk mid) (f.disk new) (λ a b. (AreLiveSignatures world.history kept × AreIndexesAt (kinds_of world) groups a.now world.pictures) × MovesNone a b)
        (Moves IsIndexFile (Fewer world) (EndsAt kept (kinds_of world) groups' world.pictures r)) (Moves IsIndexFile (StandsCleaned world) (EndsCleaned groups' world result))
        (λ a b c known moved. moves_then IsIndexFile (StandsCleaned world) (Fewer world) (StandsCleaned world) (λ files. Unit {0}) (EndsAt kept (kinds_of world) groups' world.pictures r) (EndsCleaned groups' world result) a b c
        (λ image stands. stands) (λ one image left. images_cleaned world kept known.0.0 image left) (λ one left. ends world known.0.0 c.now r left)
        (none_wider IsIndexFile (StandsCleaned world) (λ files. Unit {0}) a b (λ image of_files. (world, same_world world, images_stand (kinds_of world) a.now world.pictures image known.0.1.held of_files)) (λ same. tt) known.1) moved)
        (told_given (f.disk old) (f.disk mid) (λ d. AreLiveSignatures world.history kept × AreIndexesAt (kinds_of world) groups d.now world.pictures) MovesNone _ (λ a b known none. (known, none))
        (told_pair (f.disk old) (λ d. AreAt docs d.now world.history × AreIndexesAt (kinds_of world) groups d.now world.pictures) (λ d. AreAt docs d.now world.history → AreLiveSignatures world.history kept) _ (λ d here lives. (lives here.0, here.1)) at (live world.history)) read)
        (cleans.stands (kinds_of world) world.pictures (told_behind (λ files. AreIndexesAt (kinds_of world) groups files world.pictures) (told_now (f.disk old) _ _ (λ d here. here.1) at)))

    -- only files of indexes change that aren't kept
    unkept_alone : Tells (f.disk old) (f.disk new) (Moves (IsUnkept kept) (λ image. Unit {0}) (λ files. Unit {0}))
    unkept_alone =
        told_then (f.disk old) (f.disk mid) (f.disk new) MovesNone (Moves (IsUnkept kept) (λ image. Unit {0}) (λ files. Unit {0})) (Moves (IsUnkept kept) (λ image. Unit {0}) (λ files. Unit {0}))
        (λ a b c none moved. moves_then (IsUnkept kept) (λ image. Unit {0}) (λ image. Unit {0}) (λ image. Unit {0}) (λ files. Unit {0}) (λ files. Unit {0}) (λ files. Unit {0}) a b c (λ image is. tt) (λ one image is. tt) (λ one other. tt)
        (none_wider (IsUnkept kept) (λ image. Unit {0}) (λ files. Unit {0}) a b (λ image of_files. tt) (λ same. tt) none) moved) read cleans.others

    wider : (mine : FileName → Type 0) (a b : Disk FileName) → ((n : FileName) → IsUnkept kept n → mine n) → Moves (IsUnkept kept) (λ image. Unit {0}) (λ files. Unit {0}) a b → Moves mine (λ image. Unit {0}) (λ files. Unit {0}) a b
    wider mine a b within moved = moves_wider (IsUnkept kept) mine (λ image. Unit {0}) (λ image. Unit {0}) (λ files. Unit {0}) (λ files. Unit {0}) a b within (λ image framed. tt) (λ rest ended. tt) moved

    others : Tells (f.disk old) (f.disk new) (Moves IsIndexFile (λ image. Unit {0}) (λ files. Unit {0}))
    others = told_map (f.disk old) (f.disk new) _ _ (λ a b moved. wider IsIndexFile a b (λ n is. (is.0, is.1)) moved) unkept_alone

    -- over documents at a history, what is kept are its live signatures
    lives_at : (history : List Write) → IfTold (f.disk old) (λ d. AreAt docs d.now history) → IfTold (f.disk old) (λ d. AreLiveSignatures history kept)
    lives_at history at = told_pair (f.disk old) (λ d. AreAt docs d.now history) (λ d. AreAt docs d.now history → AreLiveSignatures history kept) _ (λ d here lives. lives here) at (live history)

    -- what is no live design's isn't kept
    spared : (history : List Write) → IfTold (f.disk old) (λ d. AreAt docs d.now history) → Tells (f.disk old) (f.disk new) (Moves (IsOfNone history) (λ image. Unit {0}) (λ files. Unit {0}))
    spared history at =
        told_given (f.disk old) (f.disk new) (λ d. AreLiveSignatures history kept) _ (Moves (IsOfNone history) (λ image. Unit {0}) (λ files. Unit {0}))
        (λ a b lives moved. wider (IsOfNone history) a b (λ n is. (is.0, is.1, λ lived. is.2 ((lives is.0).1 lived))) moved) (lives_at history at) unkept_alone

    abbrev IsCleared : List Write → (FileName → File) → Type 0
    IsCleared history files = (name : FileName) → IsOfNone history name → (files name).seen ≡ []

    empty : (some : Result (Unit {0}) IndexFault) → OnOk some (IfTold (f.disk new) (λ d. AreCleared kept d.now))
        → OnOk (ended_as some) ((history : List Write) → IfTold (f.disk old) (λ d. AreAt docs d.now history) → IfTold (f.disk new) (λ d. IsCleared history d.now))
    empty (Ok done) cleared = λ history at. told_pair (f.disk new) (λ d. AreLiveSignatures history kept) (λ d. AreCleared kept d.now) _
        (λ d lives none name is. none name (is.0, is.1, λ there. is.2 ((lives is.0).0 there)))
        (told_after (f.disk old) (f.disk new) (λ d. AreLiveSignatures history kept) (λ d. AreLiveSignatures history kept) _ (λ a b lives moved. lives) (lives_at history at) unkept_alone) cleared
    empty (Err fault) cleared = tt

    -- what no live design document has isn't kept, and where all is removed none of its files has bytes
    abbrev IsRid : Disk FileName → Disk FileName → Type 0
    IsRid a b = (name : FileName) → IsUnheld docs a.now name → (b.now name).seen ≡ []

    rid : (some : Result (Unit {0}) IndexFault) → OnOk some (IfTold (f.disk new) (λ d. AreCleared kept d.now)) → ended_as some ≡ Ok tt → Tells (f.disk old) (f.disk new) IsRid
    rid (Ok done) cleared is =
        told_given (f.disk old) (f.disk new) (λ d. AreHeldSignatures docs (bytes_in docs d.now) kept) (λ a b. Moves (IsUnkept kept) (λ image. Unit {0}) (λ files. Unit {0}) a b × AreCleared kept b.now) IsRid
        (λ a b holds known name none. known.1 name (none.1, none.2, λ there. none.3 ((holds.each none.1).0 there))) held
        (told_end (f.disk old) (f.disk new) (Moves (IsUnkept kept) (λ image. Unit {0}) (λ files. Unit {0})) (λ d. AreCleared kept d.now) unkept_alone cleared)
    rid (Err fault) cleared is = let no : ⊥ = cc in absurd no

    clears_unheld : ClearsUnheld f docs old new (result ≡ Ok tt)
    clears_unheld = record {
      alone = told_given (f.disk old) (f.disk new) (λ d. AreHeldSignatures docs (bytes_in docs d.now) kept) _ (λ a b. Moves (IsUnheld docs a.now) (λ image. Unit {0}) (λ files. Unit {0}) a b)
          (λ a b holds moved. wider (IsUnheld docs a.now) a b (λ n is. (holds.whole, is.0, is.1, λ there. is.2 ((holds.each is.0).1 there))) moved) held unkept_alone;
      gone = rid r cleans.empty;
      whole = λ done. told_now (f.disk old) (λ d. AreHeldSignatures docs (bytes_in docs d.now) kept) _ (λ d holds. holds.whole) held;
    }

    -- only for want of memory it is met as that
    wanted : (some : Result (Unit {0}) IndexFault) → IfErr some IsCleanFault → ended_as some ≡ Err (Stopped NoMemory) → some ≡ Err index.NoMemory
    wanted (Ok done) kinds is = let no : ⊥ = cc in absurd no
    wanted (Err fault) kinds is = ⊎_elim
        (λ disk. let met : ended_as (Err fault) ≡ Err (Stopped DiskFault) = ap (λ e. ended_as (Err e)) disk in let no : ⊥ = cc in absurd no)
        (λ other. ⊎_elim (λ none. ap Err none) (λ damage. let met : ended_as (Err fault) ≡ Err (Stopped (Damaged damage.0 damage.1)) = ap (λ e. ended_as (Err e)) damage.2 in let no : ⊥ = cc in absurd no) other) kinds

    stopped_as : (some : Result (Unit {0}) IndexFault) → IfErr some IsCleanFault → IfErr (ended_as some) IsStopped
    stopped_as (Ok done) kinds = tt
    stopped_as (Err fault) kinds = ⊎_elim (λ disk. subst (λ e. IsStopped (met_by_index e)) (sym disk) tt)
        (λ other. ⊎_elim (λ none. subst (λ e. IsStopped (met_by_index e)) (sym none) tt) (λ damage. subst (λ e. IsStopped (met_by_index e)) (sym damage.2) tt) other) kinds

    abbrev Why : IndexFault → Type 0
    Why fault = IfStopped (IsCleanupReason f docs groups groups' old new) (met_by_index fault)

    damaged_why : (name : FileName) (at : ℕ) → r ≡ Err (index.Store (gate.Damaged name at)) → Why (index.Store (gate.Damaged name at))
    damaged_why name at is = inr (
      told_pair (f.disk old) (λ d. AreHeldSignatures docs (bytes_in docs d.now) kept) (λ d. IsDamageOf kept d.now name at) _
          (λ d holds there. record { sig = there.sig; damage = there.damage; whole = holds.whole; unheld = λ is. there.unkept ((holds.each there.sig).1 is) }) held
          (told_before (λ files. IsDamageOf kept files name at) (told_now (f.disk mid) _ _ (λ d damaged. damaged name at is) cleans.damaged)),
      λ world. told_before (λ files. AreIndexesAt (kinds_of world) groups files world.pictures → ⊥) (told_now (f.disk mid) _ _ (λ d never here. never here name at is) (cleans.sound (kinds_of world) world.pictures)),
    )

    why : (some : Result (Unit {0}) IndexFault) → r ≡ some → IfErr some IsCleanFault → IfErr some (λ e. e ≡ index.Store gate.DiskFault → Rose (f.faults mid) (f.faults new)) → IfErr (ended_as some) (IfStopped (IsCleanupReason f docs groups groups' old new))
    why (Ok done) is kinds rose = tt
    why (Err fault) is kinds rose = ⊎_elim (λ disk. subst Why (sym disk) (Rose-earlier (f.faults old) (f.faults mid) (f.faults new) earlier (rose disk)))
        (λ other. ⊎_elim (λ none. subst Why (sym none) tt) (λ damage. subst Why (sym damage.2) (damaged_why damage.0 damage.1 (is ∙ ap Err damage.2))) other) kinds

    pub cleans_then : {out out' : List ℕ} → OnOk r (out' ≡ out ++ ended done_text) → OnErr r (out' ≡ out) → CleansUp f docs groups groups' old new out out' (ended_as r)
    cleans_then {out} {out'} prints silent = record {
      stands = stands;
      others = others;
      unmoved = λ is. let none = cleans.unmoved (wanted r cleans.faults is) in (none.0, told_none_then (f.disk old) (f.disk mid) (f.disk new) read none.1);
      is_open = λ goes are. cleans.is_open (told_behind (AreIndexesOpen groups) are);
      closes = cleans.only;
      spared = spared;
      empty = empty r cleans.empty;
      held = clears_unheld;
      prints = by_ok r prints;
      silent = by_err r silent;
      stopped = stopped_as r cleans.faults;
      why = why r refl cleans.faults cleans.cause.failed;
      later = omega (arith, earlier, cleans.cause.later);
    }
      where
        by_ok : (some : Result (Unit {0}) IndexFault) → OnOk some (out' ≡ out ++ ended done_text) → OnOk (ended_as some) (out' ≡ out ++ ended done_text)
        by_ok (Ok done) is = is
        by_ok (Err fault) is = tt

        by_err : (some : Result (Unit {0}) IndexFault) → OnErr some (out' ≡ out) → OnErr (ended_as some) (out' ≡ out)
        by_err (Ok done) is = tt
        by_err (Err fault) is = is
