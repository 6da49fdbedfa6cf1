-- What is left once all listed indexes are removed that are not kept.
use Rattle.std.specs.Prelude.{◌≡◌, ◌⊎◌, ◌≤◌, ℕ, List, [], ◌∷◌, length, true, false, Option, Some, None, Result, Ok, Err, IfErr, OnOk, Contains, refl}
use Rattle.std.proofs.Common.{ap, ◌∙◌, subst, inl, inr, ⊎_elim, arith}
use Rattle.std.proofs.lemmas.List.Elements.{All-contains_itself}
use Rattle.view_ports.specs.Disk.{Disk, IfTold, Moves, MovesNone, Tells}
use Rattle.view_ports.specs.Faults.{Rose}
use Rattle.view_ports.specs.File.{File}
use Rattle.view_ports.specs.Functions.{Functions}
use Rattle.view_ports.specs.FolderCalls.{IsListing, Passes}
use Rattle.view_ports.specs.declared.file_name.FileName.{FileName}
use Rattle.view_ports.specs.declared.file_name.Stem.TheVariants.{View}
use Rattle.view_ports.specs.declared.folder.Folder.{Ghosts as Folders}
use Rattle.view_ports.specs.declared.folder.FolderFault.{FolderFault}
use Rattle.view_ports.specs.declared.folder.FolderFault.TheVariants.{Failed, NoMemory as FolderNoMemory}
use Rattle.view_ports.proofs.DiskRuns.{moves_passes, moves_then, none_passes}
use Rattle.view_ports.proofs.Told.{told_after, told_all, told_back, told_given, told_map, told_pair, told_then}
use Rattle.gate_file.specs.declared.fault.GateFault.TheVariants.{DiskFault, Damaged}
use Rattle.gate_file.specs.declared.root.Root.{Root}
use Rattle.gate_file.specs.GateFile.{name_of, root_of}
use Rattle.gate_file.specs.Open.{side_in, side_of}
use Rattle.gate_file.proofs.Images.{empty_stands}
use Rattle.gate_file.proofs.Pairs.{sides}
use Rattle.design_docs.specs.declared.design.View.{View as DesignView}
use Rattle.view_model.specs.Picture.{Picture}
use Rattle.tree_index.specs.declared.fault.IndexFault.{IndexFault}
use Rattle.tree_index.specs.declared.fault.IndexFault.TheVariants.{NoMemory, Store, Summer}
use Rattle.tree_index.specs.Faults.{folder_fault}
use Rattle.tree_index.specs.Held.{HoldsPicture}
use Rattle.tree_index.specs.Removes.{IsRemoveFault}
use Rattle.tree_index.proofs.Carried.{picture_of_root}
use Rattle.tree_groups.specs.declared.groups.Groups.{Groups}
use Rattle.tree_groups.specs.Cleans.{AreCleared, Cleans, EndsAt, IsDamageOf, IsIndexFile, IsUnkept}
use Rattle.tree_groups.specs.Groups.{open_of, AreAt, AreOpen}
use Rattle.tree_groups.specs.Pictures.{HoldsOf, Kinds, Pictures}
use Rattle.tree_groups.specs.Removing.{AreLeft, AreRemoved, AreSameOrEmpty, IsNamed, RemovesEach, StandsForFewer}
use Rattle.tree_groups.proofs.Damages.{damage_before}
use Rattle.tree_groups.proofs.Removing.{fewer_refl, none_gone, stay_open}
use Rattle.tree_groups.proofs.Standing.{images_stand, others_matter_not}

-- ---- files without bytes hold no picture

only_none : (functions : Option Functions) (views : List DesignView) (root : Option Root) (bytes : List ℕ) (picture : Option Picture) → HoldsPicture functions views root bytes None → HoldsPicture functions views root bytes picture → picture ≡ None
only_none functions views None bytes None none holds = refl
only_none functions views None bytes (Some picture) none holds = absurd holds
only_none functions views (Some root) bytes picture none holds = absurd none

empty_none : (kinds : Kinds) (sig : List ℕ) (files : FileName → File) (picture : Option Picture) → HoldsOf kinds sig files picture → ((n : FileName) → n.stem ≡ View sig → (files n).seen ≡ []) → picture ≡ None
empty_none kinds sig files picture holds empty =
    let image : FileName → List ℕ = λ n. (files n).seen in
    let none = empty_stands (View sig) (HoldsPicture (kinds sig).functions (kinds sig).views) (picture_of_root (kinds sig).functions (kinds sig).views) image empty None tt in
    only_none (kinds sig).functions (kinds sig).views (root_of (side_in (View sig) image)) (image (name_of (side_in (View sig) image))) picture none.stands (holds.seen).stands

-- a pair is listed, or has no bytes
abbrev AreListedOrEmpty : List FileName → (FileName → File) → Type 0
AreListedOrEmpty names files = (sig : List ℕ) → IsNamed names (View sig) ⊎ ((n : FileName) → n.stem ≡ View sig → (files n).seen ≡ [])

listed_or_empty : (files : FileName → File) (names : List FileName) → IsListing files names → AreListedOrEmpty names files
listed_or_empty files names listing sig = by_sides (side false) (side true)
  where
    by_bytes : (n : FileName) (bytes : List ℕ) → (files n).seen ≡ bytes → Contains names n ⊎ ((files n).seen ≡ [])
    by_bytes n [] is = inr is
    by_bytes n (byte ∷ bytes) is = inl ((listing.all n).1 (let long : length (files n).seen ≡ length (byte ∷ bytes) = ap length is in omega (arith, long)))

    side : (high : _) → Contains names (side_of (View sig) high) ⊎ ((files (side_of (View sig) high)).seen ≡ [])
    side high = by_bytes (side_of (View sig) high) (files (side_of (View sig) high)).seen refl

    by_sides : Contains names (side_of (View sig) false) ⊎ ((files (side_of (View sig) false)).seen ≡ []) → Contains names (side_of (View sig) true) ⊎ ((files (side_of (View sig) true)).seen ≡ [])
        → IsNamed names (View sig) ⊎ ((n : FileName) → n.stem ≡ View sig → (files n).seen ≡ [])
    by_sides (inl low) high = inl (side_of (View sig) false, low, refl)
    by_sides (inr low) (inl high) = inl (side_of (View sig) true, high, refl)
    by_sides (inr low) (inr high) = inr (λ n of_pair. ⊎_elim (λ is. ap (λ k. (files k).seen) is ∙ low) (λ is. ap (λ k. (files k).seen) is ∙ high) (sides (View sig) n of_pair))

-- files that stay or are emptied are such still
listed_still : (names : List FileName) (files files' : FileName → File) → AreSameOrEmpty files files' → AreListedOrEmpty names files → AreListedOrEmpty names files'
listed_still names files files' each listed sig = ⊎_elim
    (λ named. inl named)
    (λ empty. inr (λ n of_pair. ⊎_elim (λ same. ap (λ (f : File). f.seen) (same n of_pair) ∙ empty n of_pair) (λ none. ap (λ (f : File). f.seen) (none n of_pair)) (each sig)))
    (listed sig)

-- nothing changed while the names were listed
same_passes : (a b : Disk FileName) → Passes a b → AreSameOrEmpty a.now b.now
same_passes a b same sig = inl (λ n of_pair. same.same n)

no_want : (P : Type 0) → IsRemoveFault NoMemory → P
no_want P is = absurd (⊎_elim (λ disk. let no : ⊥ = cc in no) (λ damage. let was = damage.2 in let no : ⊥ = cc in no) is)

module _ (kept : List (List ℕ)) (names : List FileName) (groups groups' : Groups) (kinds : Kinds) (pictures : Pictures) where
  abbrev Left : (FileName → File) → Type 0
  Left files = (left : Pictures) × AreLeft kept (IsNamed names) pictures left × AreAt kinds groups' files left

  ends : (files files' : FileName → File) → IsListing files names → AreAt kinds groups files pictures → (r : Result (Unit {0}) IndexFault) → IfErr r IsRemoveFault → OnOk r (Left files') → EndsAt kept kinds groups' pictures r files'
  ends files files' listing at (Ok done) faults left =
      let gone : (sig : List ℕ) → (Contains kept sig → ⊥) → left.0 sig ≡ None = λ sig unkept. ⊎_elim
      (λ listed. (left.1).gone sig listed unkept)
      (λ empty. none_gone kept pictures left.0 sig (left.1).fewer (empty_none kinds sig files (pictures sig) (at.held sig) empty))
      (listed_or_empty files names listing sig) in
      (left.0, record { stay = λ sig is. ⊎_elim (λ same. same) (λ none. absurd (none.1 is)) ((left.1).fewer sig); gone = gone }, left.2)
  ends files files' listing at (Err (Store fault)) faults left = tt
  ends files files' listing at (Err NoMemory) faults left = no_want (EndsAt kept kinds groups' pictures (Err NoMemory) files') faults
  ends files files' listing at (Err (Summer fault)) faults left = absurd (⊎_elim (λ disk. let no : ⊥ = cc in no) (λ damage. let was = damage.2 in let no : ⊥ = cc in no) faults)

module _ {F : Type 0} (f : Folders F) (kept : List (List ℕ)) (groups : Groups) (old mid : F) (passes : Tells (f.disk old) (f.disk mid) Passes) (later : f.faults old ≤ f.faults mid) where
  at_mid : (kinds : Kinds) (pictures : Pictures) → IfTold (f.disk old) (λ d. AreAt kinds groups d.now pictures) → IfTold (f.disk mid) (λ d. AreAt kinds groups d.now pictures)
  at_mid kinds pictures at = told_after (f.disk old) (f.disk mid) (λ d. AreAt kinds groups d.now pictures) (λ d. AreAt kinds groups d.now pictures) Passes (λ a b here same. (others_matter_not kinds groups a.now b.now pictures (λ n is. same.same n)).0 here) at passes

  open_mid : IfTold (f.disk old) (λ d. AreOpen groups d.now) → IfTold (f.disk mid) (λ d. AreOpen groups d.now)
  open_mid are = told_after (f.disk old) (f.disk mid) (λ d. AreOpen groups d.now) (λ d. AreOpen groups d.now) Passes (λ a b here same. (others_matter_not (λ sig. record { views = []; functions = None }) groups a.now b.now (λ sig. None) (λ n is. same.same n)).1 here) are passes

  module _ (spared : f.faults mid ≡ f.faults old) (names : List FileName) (groups' : Groups) (new : F) (result : Result (Unit {0}) IndexFault) (listing : IfTold (f.disk old) (λ d. IsListing d.now names))
      (removes : RemovesEach kept (IsNamed names) f groups groups' mid new result) where
    stands : (kinds : Kinds) (pictures : Pictures) → IfTold (f.disk old) (λ d. AreAt kinds groups d.now pictures) → Tells (f.disk old) (f.disk new) (Moves IsIndexFile (StandsForFewer kept kinds pictures) (EndsAt kept kinds groups' pictures result))
    stands kinds pictures at =
        told_then (f.disk old) (f.disk mid) (f.disk new) (λ a b. (IsListing a.now names × AreAt kinds groups a.now pictures) × Passes a b) (Moves IsIndexFile (StandsForFewer kept kinds pictures) (λ files. OnOk result (Left kept names groups groups' kinds pictures files)))
        (Moves IsIndexFile (StandsForFewer kept kinds pictures) (EndsAt kept kinds groups' pictures result))
        (λ a b c known moved. moves_then IsIndexFile (StandsForFewer kept kinds pictures) (StandsForFewer kept kinds pictures) (StandsForFewer kept kinds pictures) (λ files. Unit {0}) (λ files. OnOk result (Left kept names groups groups' kinds pictures files)) (EndsAt kept kinds groups' pictures result) a b c
        (λ image stands. stands) (λ ended image stands. stands) (λ ended done. ends kept names groups groups' kinds pictures a.now c.now known.0.0 known.0.1 result removes.faults done)
        (moves_passes IsIndexFile (StandsForFewer kept kinds pictures) (λ files. Unit {0}) a b (λ image is. (pictures, fewer_refl kept pictures, images_stand kinds a.now pictures image known.0.1.held is)) (λ same. tt) known.1) moved)
        (told_given (f.disk old) (f.disk mid) (λ d. IsListing d.now names × AreAt kinds groups d.now pictures) Passes (λ a b. (IsListing a.now names × AreAt kinds groups a.now pictures) × Passes a b) (λ a b known same. (known, same))
        (told_pair (f.disk old) (λ d. IsListing d.now names) (λ d. AreAt kinds groups d.now pictures) (λ d. IsListing d.now names × AreAt kinds groups d.now pictures) (λ d one other. (one, other)) listing at) passes)
        (removes.stands kinds pictures (at_mid kinds pictures at))

    pub cleans : Cleans kept f groups groups' old new result
    cleans = record {
      stands = stands;
      sound = λ kinds pictures. told_back (f.disk old) (f.disk mid) _ _ Passes (λ a b same never here. never ((others_matter_not kinds groups a.now b.now pictures (λ n is. same.same n)).0 here)) passes (removes.sound kinds pictures);
      empty = cleared result removes.each removes.empty;
      unmoved = λ want. no_want ((groups' ≡ groups) × Tells (f.disk old) (f.disk new) MovesNone) (subst (λ r. IfErr r IsRemoveFault) want removes.faults);
      damaged = told_back (f.disk old) (f.disk mid) (λ d. (name : FileName) (at : ℕ) → result ≡ Err (Store (Damaged name at)) → IsDamageOf kept d.now name at)
          (λ d. (name : FileName) (at : ℕ) → result ≡ Err (Store (Damaged name at)) → IsDamageOf kept d.now name at) Passes
          (λ a b same finds name at failed. damage_before kept a.now b.now (same_passes a b same) name at (finds name at failed)) passes removes.damaged;
      others = told_then (f.disk old) (f.disk mid) (f.disk new) Passes (Moves (IsUnkept kept) (λ image. Unit {0}) (λ files. Unit {0})) (Moves (IsUnkept kept) (λ image. Unit {0}) (λ files. Unit {0}))
          (λ a b c same moved. moves_then (IsUnkept kept) (λ image. Unit {0}) (λ image. Unit {0}) (λ image. Unit {0}) (λ files. Unit {0}) (λ files. Unit {0}) (λ files. Unit {0}) a b c
          (λ image is. tt) (λ ended image is. tt) (λ one_ended other_ended. tt) (moves_passes (IsUnkept kept) (λ image. Unit {0}) (λ files. Unit {0}) a b (λ image is. tt) (λ all. tt) same) moved) passes removes.others;
      stay = removes.stay;
      only = removes.only;
      is_open = λ are. removes.is_open (open_mid are);
      faults = named result removes.faults;
      cause = record { later = omega (arith, later, removes.cause.later); failed = rising result removes.cause.failed; still = λ is. removes.cause.still is ∙ spared };
    }
      where
        listed : IfTold (f.disk mid) (λ d. AreListedOrEmpty names d.now)
        listed = told_after (f.disk old) (f.disk mid) (λ d. IsListing d.now names) (λ d. AreListedOrEmpty names d.now) Passes
            (λ a b here same. listed_still names a.now b.now (same_passes a b same) (listed_or_empty a.now names here)) listing passes

        cleared : (r : Result (Unit {0}) IndexFault) → OnOk r (Tells (f.disk mid) (f.disk new) (λ a b. AreSameOrEmpty a.now b.now)) → OnOk r (IfTold (f.disk new) (λ d. AreRemoved kept (IsNamed names) d.now))
            → OnOk r (IfTold (f.disk new) (λ d. AreCleared kept d.now))
        cleared (Ok done) each removed =
            told_pair (f.disk new) (λ d. AreListedOrEmpty names d.now) (λ d. AreRemoved kept (IsNamed names) d.now) (λ d. AreCleared kept d.now)
            (λ d rest gone name is. ⊎_elim (λ named. ap (λ (f : File). f.seen) (gone is.0 named is.2 name is.1)) (λ empty. empty name is.1) (rest is.0))
            (told_after (f.disk mid) (f.disk new) (λ d. AreListedOrEmpty names d.now) (λ d. AreListedOrEmpty names d.now) (λ a b. AreSameOrEmpty a.now b.now) (λ a b here same. listed_still names a.now b.now same here) listed each)
            removed
        cleared (Err fault) each removed = tt

        named : (r : Result (Unit {0}) IndexFault) → IfErr r IsRemoveFault → IfErr r (λ e. (e ≡ Store DiskFault) ⊎ (e ≡ NoMemory) ⊎ ((name : FileName) × (at : ℕ) × (e ≡ Store (Damaged name at))))
        named (Ok done) faults = tt
        named (Err fault) faults = ⊎_elim (λ disk. inl disk) (λ damage. inr (inr damage)) faults

        rising : (r : Result (Unit {0}) IndexFault) → IfErr r (λ e. e ≡ Store DiskFault → Rose (f.faults mid) (f.faults new)) → IfErr r (λ e. e ≡ Store DiskFault → Rose (f.faults old) (f.faults new))
        rising (Ok done) rose = tt
        rising (Err fault) rose = λ is. let rises = rose is in omega (arith, later, rises)

  -- the names could not be listed
  module _ (fault : FolderFault) (rose : fault ≡ Failed → Rose (f.faults old) (f.faults mid)) (spared : (fault ≡ Failed → ⊥) → f.faults mid ≡ f.faults old) where
    ends_failed : (reason : FolderFault) (kinds : Kinds) (pictures : Pictures) (files : FileName → File) → AreAt kinds groups files pictures → EndsAt kept kinds groups pictures (Err (folder_fault reason)) files
    ends_failed Failed kinds pictures files at = tt
    ends_failed FolderNoMemory kinds pictures files at = at

    undamaged : (reason : FolderFault) (name : FileName) (at : ℕ) → folder_fault reason ≡ Store (Damaged name at) → ⊥
    undamaged Failed name at is = cc
    undamaged FolderNoMemory name at is = cc

    named_failed : (reason : FolderFault) → (folder_fault reason ≡ Store DiskFault) ⊎ (folder_fault reason ≡ NoMemory) ⊎ ((name : FileName) × (at : ℕ) × (folder_fault reason ≡ Store (Damaged name at)))
    named_failed Failed = inl refl
    named_failed FolderNoMemory = inr (inl refl)

    failed_disk : (reason : FolderFault) → folder_fault reason ≡ Store DiskFault → reason ≡ Failed
    failed_disk Failed is = refl
    failed_disk FolderNoMemory is = let no : ⊥ = cc in absurd no

    pub cleans_failed : Cleans kept f groups groups old mid (Err (folder_fault fault))
    cleans_failed = record {
      stands = λ kinds pictures at. told_given (f.disk old) (f.disk mid) (λ d. AreAt kinds groups d.now pictures) Passes (Moves IsIndexFile (StandsForFewer kept kinds pictures) (EndsAt kept kinds groups pictures (Err (folder_fault fault))))
          (λ a b here same. moves_passes IsIndexFile (StandsForFewer kept kinds pictures) (EndsAt kept kinds groups pictures (Err (folder_fault fault))) a b (λ image is. (pictures, fewer_refl kept pictures, images_stand kinds a.now pictures image here.held is))
          (λ all. ends_failed fault kinds pictures b.now ((others_matter_not kinds groups a.now b.now pictures (λ n is. all n)).0 here)) same) at passes;
      sound = λ kinds pictures. told_all (f.disk old) _ (λ d here name at failed. undamaged fault name at (cc));
      empty = tt;
      unmoved = λ want. (refl, told_map (f.disk old) (f.disk mid) Passes MovesNone none_passes passes);
      damaged = told_all (f.disk old) _ (λ d name at failed. absurd (undamaged fault name at (cc)));
      others = told_map (f.disk old) (f.disk mid) Passes (Moves (IsUnkept kept) (λ image. Unit {0}) (λ files. Unit {0})) (λ a b same. moves_passes (IsUnkept kept) (λ image. Unit {0}) (λ files. Unit {0}) a b (λ image is. tt) (λ all. tt) same) passes;
      stay = stay_open kept groups;
      only = All-contains_itself (open_of groups);
      is_open = λ are. open_mid are;
      faults = named_failed fault;
      cause = record { later = later; failed = λ is. rose (failed_disk fault is); still = λ other. spared (λ is. other (ap (λ e. Err (folder_fault e)) is)) };
    }
