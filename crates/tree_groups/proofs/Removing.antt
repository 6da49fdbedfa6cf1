-- Indexes are removed one after another.
use Rattle.std.specs.Prelude.{◌≡◌, ◌⊎◌, ◌<◌, ◌+◌, ◌++◌, ◌∷◌, [], ℕ, List, length, take, slice_index_or, None, Result, Ok, Err, IfErr, OnOk, Contains, refl}
use Rattle.std.proofs.lemmas.List.{take_more}
use Rattle.std.proofs.lemmas.List.Elements.{All-contains, All-contains_itself, Contains-get_or, Contains-push_cases}
use Rattle.std.proofs.Common.{ap, sym, ◌∙◌, subst, inl, inr, ⊎_elim, arith}
use Rattle.view_ports.specs.Disk.{Disk, IfTold, Moves, Tells}
use Rattle.view_ports.specs.Faults.{Rose}
use Rattle.view_ports.specs.File.{File}
use Rattle.view_ports.specs.declared.file_name.FileName.{FileName}
use Rattle.view_ports.specs.declared.file_name.Stem.{Stem}
use Rattle.view_ports.specs.declared.file_name.Stem.TheVariants.{View}
use Rattle.view_ports.specs.declared.folder.Folder.{Ghosts as Folders}
use Rattle.view_ports.proofs.DiskRuns.{moves_none, moves_then, moves_wider}
use Rattle.view_ports.proofs.Told.{told_after, told_all, told_back, told_given, told_map, told_now, told_pair, told_refl, told_still, told_then}
use Rattle.gate_file.specs.declared.fault.GateFault.TheVariants.{DiskFault, Damaged}
use Rattle.gate_file.specs.Open.{AreFitSlots, IsFirstDamage, WhileOpening}
use Rattle.tree_index.specs.declared.fault.IndexFault.{IndexFault}
use Rattle.tree_index.specs.declared.fault.IndexFault.TheVariants.{Store}
use Rattle.tree_index.specs.Held.{IsFileOf, IsGone, OnlyOpens}
use Rattle.tree_index.specs.Index.{stem_of}
use Rattle.tree_index.specs.Opens.{FindsDamage}
use Rattle.tree_index.specs.Removes.{AreEmpty, Removes}
use Rattle.tree_groups.specs.declared.groups.Groups.{Groups}
use Rattle.tree_groups.specs.Cleans.{AreFewer, IsDamageOf, IsIndexFile, IsUnkept, KeptStayOpen}
use Rattle.tree_groups.specs.Groups.{open_of, AreAt, AreOpen, IsClosed}
use Rattle.tree_groups.specs.Pictures.{HoldsOf, Kinds, Pictures, StandsOf}
use Rattle.tree_groups.specs.Removing.{AreLeft, AreRemoved, AreSameOrEmpty, IsNamed, RemovesEach, StandsForFewer}
use Rattle.tree_groups.proofs.Closing.{closed_at, closed_open, set_at, set_stand, set_there, unset}
use Rattle.tree_groups.proofs.Damages.{damage_before}
use Rattle.tree_groups.proofs.Standing.{images_stand, other_stem, same_or_not}
use Rattle.tree_groups.proofs.Telling.{told_by, told_ended, told_never}

abbrev pub well : Result (Unit {0}) IndexFault
well = Ok tt

module _ (kept : List (List ℕ)) where
  pub stay_open : (groups : Groups) → KeptStayOpen kept groups groups
  stay_open groups k d below sig named is = Contains-get_or (open_of groups) k d below

  stay_then : (first second third : Groups) → KeptStayOpen kept first second → KeptStayOpen kept second third → KeptStayOpen kept first third
  stay_then first second third early late k d below sig named is =
      let index = slice_index_or (open_of first) k d in
      All-contains (λ i. (own : List ℕ) → stem_of i ≡ View own → Contains kept own → Contains (open_of third) i) (open_of second) index late (early k d below sig named is) sig named is

  pub fewer_refl : (pictures : Pictures) → AreFewer kept pictures pictures
  fewer_refl pictures = λ sig. inl refl

  fewer_then : (pictures left fewer : Pictures) → AreFewer kept pictures left → AreFewer kept left fewer → AreFewer kept pictures fewer
  fewer_then pictures left fewer first second = λ sig. ⊎_elim (λ same. ⊎_elim (λ was. inl (same ∙ was)) (λ gone. inr (same ∙ gone.0, gone.1)) (first sig)) (λ gone. inr gone) (second sig)

  pub none_gone : (pictures left : Pictures) (sig : List ℕ) → AreFewer kept pictures left → pictures sig ≡ None → left sig ≡ None
  none_gone pictures left sig fewer none = ⊎_elim (λ same. same ∙ none) (λ gone. gone.0) (fewer sig)

  -- one is gone that isn't kept
  fewer_set : (own : List ℕ) (pictures : Pictures) → (Contains kept own → ⊥) → AreFewer kept pictures (set_at own None pictures)
  fewer_set own pictures unkept = λ sig. ⊎_elim
      (λ same. inr (subst (λ s. set_at own None pictures s ≡ None) (sym same) (set_there own None pictures).0, λ is. unkept (subst (Contains kept) same is)))
      (λ differs. inl ((set_there own None pictures).1 sig differs))
      (same_or_not sig own)

  module _ {F : Type 0} (f : Folders F) where
    -- nothing was to go
    pub removes_nothing : (IsToGo : Stem → Type 0) (groups : Groups) (folder : F) → ((sig : List ℕ) → IsToGo (View sig) → (Contains kept sig → ⊥) → ⊥) → RemovesEach kept IsToGo f groups groups folder folder well
    removes_nothing IsToGo groups folder never = record {
      stands = λ kinds pictures at. told_still (f.disk folder) (λ d. AreAt kinds groups d.now pictures) (Moves IsIndexFile (StandsForFewer kept kinds pictures) (λ files. (left : Pictures) × AreLeft kept IsToGo pictures left × AreAt kinds groups files left))
          (λ d here. moves_none IsIndexFile (StandsForFewer kept kinds pictures) (λ files. (left : Pictures) × AreLeft kept IsToGo pictures left × AreAt kinds groups files left) d
          (λ image is. (pictures, fewer_refl pictures, images_stand kinds d.now pictures image here.held is))
          (pictures, record { fewer = fewer_refl pictures; gone = λ sig listed unkept. absurd (never sig listed unkept) }, here)) at;
      sound = λ kinds pictures. told_all (f.disk folder) (λ d. AreAt kinds groups d.now pictures → (name : FileName) (at : ℕ) → well ≡ Err (Store (Damaged name at)) → ⊥) (λ d here name at failed. cc);
      each = told_refl (f.disk folder) (λ a b. AreSameOrEmpty a.now b.now) (λ d sig. inl (λ n is. refl));
      empty = told_all (f.disk folder) (λ d. AreRemoved kept IsToGo d.now) (λ d sig listed unkept. absurd (never sig listed unkept));
      damaged = told_all (f.disk folder) (λ d. (name : FileName) (at : ℕ) → well ≡ Err (Store (Damaged name at)) → IsDamageOf kept d.now name at) (λ d name at failed. let no : ⊥ = cc in absurd no);
      others = told_refl (f.disk folder) (Moves (IsUnkept kept) (λ image. Unit {0}) (λ files. Unit {0})) (λ d. moves_none (IsUnkept kept) (λ image. Unit {0}) (λ files. Unit {0}) d (λ image is. tt) tt);
      stay = stay_open groups;
      only = All-contains_itself (open_of groups);
      is_open = λ are. are;
      faults = tt;
      cause = record { later = omega arith; failed = tt; still = λ spared. refl };
    }

    -- fewer were to go
    pub removes_of : (IsToGo IsToGo' : Stem → Type 0) (groups groups' : Groups) (old new : F) (result : Result (Unit {0}) IndexFault) → ((sig : List ℕ) → IsToGo' (View sig) → IsToGo (View sig))
        → RemovesEach kept IsToGo f groups groups' old new result → RemovesEach kept IsToGo' f groups groups' old new result
    removes_of IsToGo IsToGo' groups groups' old new result within removes = record {
      stands = λ kinds pictures at. told_map (f.disk old) (f.disk new) _ _
          (λ a b moved. record { moments = moved.moments; others = moved.others; ended = by_result result kinds pictures b.now moved.ended }) (removes.stands kinds pictures at);
      sound = removes.sound;
      each = removes.each;
      empty = removed_of result removes.empty;
      damaged = removes.damaged;
      others = removes.others;
      stay = removes.stay;
      only = removes.only;
      is_open = removes.is_open;
      faults = removes.faults;
      cause = removes.cause;
    }
      where
        by_result : (r : Result (Unit {0}) IndexFault) (kinds : Kinds) (pictures : Pictures) (files : FileName → File) → OnOk r ((left : Pictures) × AreLeft kept IsToGo pictures left × AreAt kinds groups' files left) → OnOk r ((left : Pictures) × AreLeft kept IsToGo' pictures left × AreAt kinds groups' files left)
        by_result (Ok done) kinds pictures files left = (left.0, record { fewer = (left.1).fewer; gone = λ sig listed unkept. (left.1).gone sig (within sig listed) unkept }, left.2)
        by_result (Err fault) kinds pictures files left = tt

        removed_of : (r : Result (Unit {0}) IndexFault) → OnOk r (IfTold (f.disk new) (λ d. AreRemoved kept IsToGo d.now)) → OnOk r (IfTold (f.disk new) (λ d. AreRemoved kept IsToGo' d.now))
        removed_of (Ok done) removed = told_now (f.disk new) (λ d. AreRemoved kept IsToGo d.now) (λ d. AreRemoved kept IsToGo' d.now) (λ d gone sig listed unkept. gone sig (within sig listed) unkept) removed
        removed_of (Err fault) removed = tt

    -- what was to go is of no matter to a refusal
    pub removes_failed : (IsToGo IsToGo' : Stem → Type 0) (groups groups' : Groups) (old new : F) (fault : IndexFault) → RemovesEach kept IsToGo f groups groups' old new (Err fault) → RemovesEach kept IsToGo' f groups groups' old new (Err fault)
    removes_failed IsToGo IsToGo' groups groups' old new fault removes = record {
      stands = λ kinds pictures at. told_map (f.disk old) (f.disk new) _ _ (λ a b moved. record { moments = moved.moments; others = moved.others; ended = tt }) (removes.stands kinds pictures at);
      sound = removes.sound;
      each = tt;
      empty = tt;
      damaged = removes.damaged;
      others = removes.others;
      stay = removes.stay;
      only = removes.only;
      is_open = removes.is_open;
      faults = removes.faults;
      cause = removes.cause;
    }

    -- one index is closed and removed
    module _ (own : List ℕ) (groups groups' : Groups) (closed : IsClosed (View own) groups groups') (unkept : Contains kept own → ⊥) (old new : F) (result : Result (Unit {0}) IndexFault) (removes : Removes f (View own) old new result) where
      abbrev Ends : Kinds → Pictures → (FileName → File) → Type 0
      Ends kinds pictures files = OnOk result ((left : Pictures) × AreLeft kept (λ s. s ≡ View own) pictures left × AreAt kinds groups' files left)

      abbrev OnlyOpened : (FileName → File) → (FileName → List ℕ) → Type 0
      OnlyOpened files image = WhileOpening (View own) files image ⊎ (IsGone (View own) image × AreFitSlots (View own) files × Unit {0})

      -- only its own files are touched
      others_stay : Tells (f.disk old) (f.disk new) (Moves (IsFileOf (View own)) (λ image. Unit {0}) (λ files. Unit {0}))
      others_stay = told_map (f.disk old) (f.disk new) (OnlyOpens (View own) (λ files. Unit {0})) (Moves (IsFileOf (View own)) (λ image. Unit {0}) (λ files. Unit {0}))
          (λ a b moved. moves_wider (IsFileOf (View own)) (IsFileOf (View own)) (OnlyOpened a.now) (λ image. Unit {0}) (λ files. Unit {0}) (λ files. Unit {0}) a b (λ n is. is) (λ image framed. tt) (λ others ended. tt) moved)
          removes.files

      ends : (kinds : Kinds) (pictures : Pictures) (files files' : FileName → File) → AreAt kinds groups files pictures → ((n : FileName) → (n.stem ≡ View own → ⊥) → files' n ≡ files n) → (r : Result (Unit {0}) IndexFault)
          → OnOk r (HoldsOf kinds own files' None) → OnOk r ((left : Pictures) × AreLeft kept (λ s. s ≡ View own) pictures left × AreAt kinds groups' files' left)
      ends kinds pictures files files' at others (Err fault) holds = tt
      ends kinds pictures files files' at others (Ok done) holds = (
        set_at own None pictures,
        record {
          fewer = fewer_set own pictures unkept;
          gone = λ sig is unlisted. let same : sig ≡ own = cc in subst (λ s. set_at own None pictures s ≡ None) (sym same) (set_there own None pictures).0;
        },
        closed_at kinds own files pictures (set_at own None pictures) None (set_there own None pictures) files' others groups groups' closed at holds,
      )

      abbrev IsRemoved : Kinds → Pictures → Disk FileName → Disk FileName → Type 0
      IsRemoved kinds pictures = Moves (IsFileOf (View own)) (λ image. StandsOf kinds own image (pictures own) ⊎ StandsOf kinds own image None) (λ files. OnOk result (HoldsOf kinds own files None))

      moved_one : (kinds : Kinds) (pictures : Pictures) (a b : Disk FileName) → AreAt kinds groups a.now pictures → IsRemoved kinds pictures a b → Moves IsIndexFile (StandsForFewer kept kinds pictures) (Ends kinds pictures) a b
      moved_one kinds pictures a b at moved =
          moves_wider (IsFileOf (View own)) IsIndexFile (λ image. StandsOf kinds own image (pictures own) ⊎ StandsOf kinds own image None) (StandsForFewer kept kinds pictures)
          (λ files. OnOk result (HoldsOf kinds own files None)) (Ends kinds pictures) a b (λ n is. (own, is))
          (λ image framed. ⊎_elim
          (λ before. (pictures, fewer_refl pictures, set_stand kinds own a.now pictures pictures (pictures own) (unset own pictures) image at.held (record { inside = before; outside = framed.outside })))
          (λ none. (
            set_at own None pictures,
            fewer_set own pictures unkept,
            set_stand kinds own a.now pictures (set_at own None pictures) None (set_there own None pictures) image at.held (record { inside = none; outside = framed.outside }),
          ))
          framed.inside)
          (λ others ended. ends kinds pictures a.now b.now at others result ended) moved

      pub removed_one : RemovesEach kept (λ s. s ≡ View own) f groups groups' old new result
      removed_one = record {
        stands = λ kinds pictures at. told_given (f.disk old) (f.disk new) (λ d. AreAt kinds groups d.now pictures) (IsRemoved kinds pictures) (Moves IsIndexFile (StandsForFewer kept kinds pictures) (Ends kinds pictures))
            (λ a b here moved. moved_one kinds pictures a b here moved) at
            (removes.stands (kinds own).functions (kinds own).views (pictures own) (told_now (f.disk old) (λ d. AreAt kinds groups d.now pictures) (λ d. HoldsOf kinds own d.now (pictures own)) (λ d here. here.held own) at));
        sound = λ kinds pictures. told_now (f.disk old) (λ d. HoldsOf kinds own d.now (pictures own) → FindsDamage (λ name at. ⊥) result)
            (λ d. AreAt kinds groups d.now pictures → (name : FileName) (at : ℕ) → result ≡ Err (Store (Damaged name at)) → ⊥)
            (λ d never here name at failed. never (here.held own) name at failed) (removes.sound (kinds own).functions (kinds own).views (pictures own));
        each = each_of result removes.empty;
        empty = empty_of result removes.empty;
        damaged = told_now (f.disk old) (λ d. FindsDamage (IsFirstDamage (View own) d.now) result) (λ d. (name : FileName) (at : ℕ) → result ≡ Err (Store (Damaged name at)) → IsDamageOf kept d.now name at)
            (λ d finds name at failed. record { sig = own; unkept = unkept; damage = finds name at failed }) removes.damaged;
        others = told_map (f.disk old) (f.disk new) _ (Moves (IsUnkept kept) (λ image. Unit {0}) (λ files. Unit {0}))
            (λ a b moved. moves_wider (IsFileOf (View own)) (IsUnkept kept) (λ image. Unit {0}) (λ image. Unit {0}) (λ files. Unit {0}) (λ files. Unit {0}) a b (λ n is. (own, is, unkept)) (λ image framed. tt) (λ others ended. tt) moved) others_stay;
        stay = λ k d below sig named is. closed.stay k d below (λ same. let other : sig ≡ own = cc in unkept (subst (Contains kept) other is));
        only = closed.others;
        is_open = λ are. told_after (f.disk old) (f.disk new) (λ d. AreOpen groups d.now) (λ d. AreOpen groups' d.now) _ (λ a b here moved. closed_open own a.now b.now moved.others groups groups' closed here) are others_stay;
        faults = removes.faults;
        cause = removes.cause;
      }
        where
          each_of : (r : Result (Unit {0}) IndexFault) → IfTold (f.disk new) (λ d. OnOk r (AreEmpty (View own) d.now)) → OnOk r (Tells (f.disk old) (f.disk new) (λ a b. AreSameOrEmpty a.now b.now))
          each_of (Ok done) empty = told_ended (f.disk old) (f.disk new) (λ d. AreEmpty (View own) d.now) (Moves (IsFileOf (View own)) (λ image. Unit {0}) (λ files. Unit {0})) (λ a b. AreSameOrEmpty a.now b.now)
              (λ a b none moved sig. ⊎_elim (λ same. inr (subst (λ s. AreEmpty (View s) b.now) (sym same) none)) (λ differs. inl (λ n of_pair. moved.others n (other_stem sig own differs n of_pair))) (same_or_not sig own))
              empty others_stay
          each_of (Err fault) empty = tt

          empty_of : (r : Result (Unit {0}) IndexFault) → IfTold (f.disk new) (λ d. OnOk r (AreEmpty (View own) d.now)) → OnOk r (IfTold (f.disk new) (λ d. AreRemoved kept (λ s. s ≡ View own) d.now))
          empty_of (Ok done) empty = told_now (f.disk new) (λ d. AreEmpty (View own) d.now) (λ d. AreRemoved kept (λ s. s ≡ View own) d.now) (λ d none sig is unlisted. subst (λ s. AreEmpty s d.now) (sym is) none) empty
          empty_of (Err fault) empty = tt

    -- some, and then others
    module _ (One Other : Stem → Type 0) (first second third : Groups) (old mid new : F) (result : Result (Unit {0}) IndexFault)
        (early : RemovesEach kept One f first second old mid well) (late : RemovesEach kept Other f second third mid new result) where
      abbrev Both : Stem → Type 0
      Both s = One s ⊎ Other s

      abbrev Begun : Kinds → Pictures → Pictures → Disk FileName → Disk FileName → Type 0
      Begun kinds pictures left a b = Moves IsIndexFile (StandsForFewer kept kinds pictures) (λ files. AreLeft kept One pictures left × AreAt kinds second files left) a b

      began : (kinds : Kinds) (pictures : Pictures) → IfTold (f.disk old) (λ d. AreAt kinds first d.now pictures) → Tells (f.disk old) (f.disk mid) (λ a b. (left : Pictures) × Begun kinds pictures left a b)
      began kinds pictures at = told_map (f.disk old) (f.disk mid) _ _ (λ a b moved. let left = moved.ended in (left.0, record { moments = moved.moments; others = moved.others; ended = (left.1, left.2) })) (early.stands kinds pictures at)

      ends_both : (kinds : Kinds) (pictures left : Pictures) (files : FileName → File) → AreLeft kept One pictures left → (r : Result (Unit {0}) IndexFault) → OnOk r ((fewer : Pictures) × AreLeft kept Other left fewer × AreAt kinds third files fewer)
          → OnOk r ((fewer : Pictures) × AreLeft kept Both pictures fewer × AreAt kinds third files fewer)
      ends_both kinds pictures left files begun (Err fault) ended = tt
      ends_both kinds pictures left files begun (Ok done) ended = (
        ended.0,
        record {
          fewer = fewer_then pictures left ended.0 begun.fewer (ended.1).fewer;
          gone = λ sig is unkept. ⊎_elim (λ one. none_gone left ended.0 sig (ended.1).fewer (begun.gone sig one unkept)) (λ other. (ended.1).gone sig other unkept) is;
        },
        ended.2,
      )

      pub removes_then : RemovesEach kept Both f first third old new result
      removes_then = record {
        stands = λ kinds pictures at. told_by (f.disk old) (f.disk mid) (f.disk new) (Begun kinds pictures) (λ left d. AreAt kinds second d.now left)
            (λ left. Moves IsIndexFile (StandsForFewer kept kinds left) (λ files. OnOk result ((fewer : Pictures) × AreLeft kept Other left fewer × AreAt kinds third files fewer)))
            (Moves IsIndexFile (StandsForFewer kept kinds pictures) (λ files. OnOk result ((fewer : Pictures) × AreLeft kept Both pictures fewer × AreAt kinds third files fewer))) _
            (λ a b left begun. begun.ended.1) (λ left here. late.stands kinds left here)
            (λ a b c left begun moved. moves_then IsIndexFile (StandsForFewer kept kinds pictures) (StandsForFewer kept kinds left) (StandsForFewer kept kinds pictures)
            (λ files. AreLeft kept One pictures left × AreAt kinds second files left) (λ files. OnOk result ((fewer : Pictures) × AreLeft kept Other left fewer × AreAt kinds third files fewer))
            (λ files. OnOk result ((fewer : Pictures) × AreLeft kept Both pictures fewer × AreAt kinds third files fewer)) a b c
            (λ image stands. stands) (λ ended image stands. (stands.0, fewer_then pictures left stands.0 (ended.0).fewer stands.1, stands.2))
            (λ ended done. ends_both kinds pictures left c.now ended.0 result done) begun moved)
            late.others (began kinds pictures at);
        sound = λ kinds pictures. told_never (f.disk old) (f.disk mid) (λ d. AreAt kinds first d.now pictures) (Begun kinds pictures) (λ left d. AreAt kinds second d.now left) ((name : FileName) (at : ℕ) → result ≡ Err (Store (Damaged name at)) → ⊥)
            (λ a b left begun. begun.ended.1) (λ left. late.sound kinds left) (λ at. began kinds pictures at);
        each = each_both result late.each;
        empty = empty_both result late.each late.empty;
        damaged = told_back (f.disk old) (f.disk mid) (λ d. (name : FileName) (at : ℕ) → result ≡ Err (Store (Damaged name at)) → IsDamageOf kept d.now name at)
            (λ d. (name : FileName) (at : ℕ) → result ≡ Err (Store (Damaged name at)) → IsDamageOf kept d.now name at) (λ a b. AreSameOrEmpty a.now b.now)
            (λ a b same finds name at failed. damage_before kept a.now b.now same name at (finds name at failed)) early.each late.damaged;
        others = told_then (f.disk old) (f.disk mid) (f.disk new) _ _ (Moves (IsUnkept kept) (λ image. Unit {0}) (λ files. Unit {0}))
            (λ a b c one other. moves_then (IsUnkept kept) (λ image. Unit {0}) (λ image. Unit {0}) (λ image. Unit {0}) (λ files. Unit {0}) (λ files. Unit {0}) (λ files. Unit {0}) a b c
            (λ image is. tt) (λ ended image is. tt) (λ one_ended other_ended. tt) one other) early.others late.others;
        stay = stay_then first second third early.stay late.stay;
        only = λ k d below. All-contains (Contains (open_of first)) (open_of second) (slice_index_or (open_of third) k d) early.only (late.only k d below);
        is_open = λ are. late.is_open (early.is_open are);
        faults = late.faults;
        cause = record {
          later = omega (arith, early.cause.later, late.cause.later);
          failed = by_fault result late.cause.failed;
          still = λ spared. late.cause.still spared ∙ early.cause.still (λ is. let no : ⊥ = cc in no);
        };
      }
        where
          by_fault : (r : Result (Unit {0}) IndexFault) → IfErr r (λ e. e ≡ Store DiskFault → Rose (f.faults mid) (f.faults new)) → IfErr r (λ e. e ≡ Store DiskFault → Rose (f.faults old) (f.faults new))
          by_fault (Ok done) rose = tt
          by_fault (Err fault) rose = λ is. let rises = rose is in omega (arith, early.cause.later, rises)

          same_both : (a b c : FileName → File) → AreSameOrEmpty a b → AreSameOrEmpty b c → AreSameOrEmpty a c
          same_both a b c one other sig = ⊎_elim
              (λ stays. ⊎_elim (λ stayed. inl (λ n of_pair. stays n of_pair ∙ stayed n of_pair)) (λ empty. inr (λ n of_pair. stays n of_pair ∙ empty n of_pair)) (one sig))
              (λ empty. inr empty)
              (other sig)

          each_both : (r : Result (Unit {0}) IndexFault) → OnOk r (Tells (f.disk mid) (f.disk new) (λ a b. AreSameOrEmpty a.now b.now)) → OnOk r (Tells (f.disk old) (f.disk new) (λ a b. AreSameOrEmpty a.now b.now))
          each_both (Ok done) each = told_then (f.disk old) (f.disk mid) (f.disk new) (λ a b. AreSameOrEmpty a.now b.now) (λ a b. AreSameOrEmpty a.now b.now) (λ a b. AreSameOrEmpty a.now b.now)
              (λ a b c one other. same_both a.now b.now c.now one other) early.each each
          each_both (Err fault) each = tt

          -- those that were emptied first stay so
          empty_still : (files files' : FileName → File) → AreRemoved kept One files → AreSameOrEmpty files files' → AreRemoved kept One files'
          empty_still files files' removed each sig is unkept = ⊎_elim (λ same n of_pair. same n of_pair ∙ removed sig is unkept n of_pair) (λ empty. empty) (each sig)

          empty_both : (r : Result (Unit {0}) IndexFault) → OnOk r (Tells (f.disk mid) (f.disk new) (λ a b. AreSameOrEmpty a.now b.now)) → OnOk r (IfTold (f.disk new) (λ d. AreRemoved kept Other d.now))
              → OnOk r (IfTold (f.disk new) (λ d. AreRemoved kept Both d.now))
          empty_both (Ok done) each removed =
              told_pair (f.disk new) (λ d. AreRemoved kept One d.now) (λ d. AreRemoved kept Other d.now) (λ d. AreRemoved kept Both d.now)
              (λ d one other sig is unkept. ⊎_elim (λ first. one sig first unkept) (λ second. other sig second unkept) is)
              (told_after (f.disk mid) (f.disk new) (λ d. AreRemoved kept One d.now) (λ d. AreRemoved kept One d.now) (λ a b. AreSameOrEmpty a.now b.now) (λ a b gone same. empty_still a.now b.now gone same) early.empty each)
              removed
          empty_both (Err fault) each removed = tt

-- the names so far and the next one
pub named_more : (names : List FileName) (i : ℕ) (d : FileName) → i < length names → (stem : Stem) → IsNamed (take (i + 1) names) stem → IsNamed (take i names) stem ⊎ (stem ≡ (slice_index_or names i d).stem)
named_more names i d within stem is =
    let more : take (i + 1) names ≡ take i names ++ slice_index_or names i d ∷ [] = take_more names i d within in
    ⊎_elim (λ before. inl (is.0, before, is.2)) (λ same. inr (sym is.2 ∙ sym (ap (λ (n : FileName). n.stem) same)))
    (Contains-push_cases (take i names) (slice_index_or names i d) is.0 (subst (λ (ns : List FileName). Contains ns is.0) more is.1))
