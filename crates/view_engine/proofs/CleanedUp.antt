-- A cleanup of the documents and the indexes, as the engine performs it.
use Rattle.std.specs.Prelude.{All, Contains, OnOk}
use Rattle.std.proofs.Common.{◌≡◌, ℕ, List, Option, Some, None, inl, inr, ⊎_elim, Result, Ok, Err, refl, sym, subst, arith}
use Rattle.std.proofs.lemmas.Result.{IfErr-weaker}
use Rattle.view_ports.specs.Disk.{Disk, Framed, IfTold, LeavesOnly, Moves, MovesNone, Tells}
use Rattle.view_ports.specs.File.{File}
use Rattle.view_ports.specs.Lines.{ended}
use Rattle.view_ports.specs.declared.file_name.FileName.{FileName}
use Rattle.view_ports.specs.declared.folder.Folder.{Ghosts as Folders}
use Rattle.view_ports.specs.declared.servers.Servers.{Ghosts as Servers}
use Rattle.view_ports.proofs.Moments.{weaker}
use Rattle.view_ports.proofs.Told.{told_after, told_all, told_given, told_now, told_pair}
use Rattle.child_pool.specs.declared.pool.Pool.{Pool}
use Rattle.child_pool.specs.Pools.{languages_of}
use Rattle.doc_file.specs.declared.docs.Docs.{Docs}
use Rattle.doc_file.specs.Docs.{IsAt as AreAt, IsOpen as AreDocumentsOpen}
use Rattle.doc_file.specs.Held.{Stands}
use Rattle.design_docs.specs.History.{Write}
use Rattle.node_file.specs.declared.cache.NodeCache.{NodeCache}
use Rattle.tree_groups.specs.declared.groups.Groups.{Groups}
use Rattle.tree_groups.specs.Cleans.{IsIndexFile}
use Rattle.tree_groups.specs.Groups.{open_of, AreAt as AreIndexesAt, AreOpen as AreIndexesOpen}
use Rattle.tree_groups.specs.Pictures.{Kinds, StandFor}
use Rattle.view_engine.specs.declared.engine.Engine.{Engine}
use Rattle.view_engine.specs.declared.halt.Halt.{Halt}
use Rattle.view_engine.specs.declared.halt.Halt.TheVariants.{Refused, Stopped}
use Rattle.view_engine.specs.declared.halt.StepFault.TheVariants.{DiskFault, Damaged, Full, NoMemory}
use Rattle.view_engine.specs.declared.refusal.Refusal.TheVariants.{ServerFault}
use Rattle.view_engine.specs.declared.request.Request.{Request}
use Rattle.view_engine.specs.declared.request.Request.TheVariants.{Cleanup}
use Rattle.view_engine.specs.Calls.{scene, AppendsReplyTo, CrashesAround, DoesBy, KeepsChild, LeavesChild, Performed, Scene, StandsAt}
use Rattle.view_engine.specs.Cleaning.{CleansUp, EndsCleaned, IsCleanupReason, StandsCleaned}
use Rattle.view_engine.specs.Cleanup.{done_text, IsCleaned}
use Rattle.view_engine.specs.Disks.{ClearsIndexes, ClearsUnheld, HasReply, HasSlotDamage, MayWant, IfStopped, IsReasonOf, LiesOpen}
use Rattle.view_engine.specs.InMemory.{FollowsDocuments, IsUntouchedBy}
use Rattle.view_engine.specs.Moments.{Moment, with_world}
use Rattle.view_engine.specs.Steps.{DoesRequestText, MayHaveCalled}
use Rattle.view_engine.specs.Signatures.{kinds_by, kinds_of, AreOpenOwned}
use Rattle.view_engine.specs.World.{World}
use Rattle.view_engine.specs.Worlds.{IsAtWorld, IsOpen, StandsAround, StandsEither, StandsFor}
use Rattle.view_engine.proofs.Apart.{documents_beside, documents_stand}
use Rattle.view_engine.proofs.Beside.{open_beside_indexes}
use Rattle.view_engine.proofs.Between.{cleaned_fewer, none_newer_left, owned_left, partly_between, partly_fewer}
use Rattle.view_engine.proofs.Following.{same_docs}
use Rattle.view_engine.proofs.Known.{known_told, still_known}
use Rattle.view_engine.proofs.Performing.{none_called}
use Rattle.view_engine.proofs.ReplyLines.{done_line}
use Rattle.view_engine.proofs.ServerFaults.{unlike_done}
use Rattle.view_engine.proofs.Signatures.{opened_fewer}
use Rattle.view_engine.proofs.Whole.{apart, told_leaves_before, world_none}

-- an image of which the files of indexes stand for what a part of a cleanup leaves
partly_stands : (engine : Engine) (files : FileName → File) (world : World) → IsAtWorld engine files world → (image : FileName → List ℕ) → (framed : Framed IsIndexFile files (StandsCleaned world) image) → StandsFor image framed.inside.0
partly_stands engine files world at image framed =
    let mid = framed.inside in
    record {
      documents = subst (Stands image) (sym (mid.1).history) (documents_stand engine.docs files world.history image at.documents (λ n of_docs. framed.outside n (λ of_view. apart n of_view of_docs)));
      indexes = subst (λ (k : Kinds). StandFor k image (mid.0).pictures) (λ i. kinds_by (sym (mid.1).known i) (sym (mid.1).history i)) mid.2;
      within = none_newer_left world mid.0 (mid.1).history (partly_fewer world mid.0 mid.1) at.within;
      owned = owned_left world mid.0 (mid.1).history (partly_fewer world mid.0 mid.1) at.owned;
    }

module _ {F C : Type 0} (f : Folders F) (s : Servers C) (docs : Docs) (pool : Pool) (groups groups' : Groups) (cache : NodeCache) (old new : F) (servers : C) (out out' : List ℕ) where
  abbrev before_it : Engine
  before_it = record { docs = docs; pool = pool; groups = groups; cache = cache }

  abbrev after_it : Engine
  after_it = record { docs = docs; pool = pool; groups = groups'; cache = cache }

  abbrev now : Scene F C
  now = scene before_it old servers

  abbrev later : Scene F C
  later = scene after_it new servers

  -- how the files of indexes move over a world
  abbrev MovesBy : World → Result (Unit {0}) Halt → Disk FileName → Disk FileName → Type 0
  MovesBy world result = Moves IsIndexFile (StandsCleaned world) (EndsCleaned groups' world result)

  documents_stay : (a b : Disk FileName) (history : List Write) → ((n : FileName) → (IsIndexFile n → ⊥) → b.now n ≡ a.now n) → AreAt docs a.now history → AreAt docs b.now history
  documents_stay a b history others at = documents_beside docs a.now b.now (λ n of_docs. others n (λ of_view. apart n of_view of_docs)) history at

  -- ---- it was done
  record IsCleanedTo (world : World) (x y : Option (Disk FileName)) : Type 0 where
    after : World
    at : IfTold y (λ d. IsAtWorld after_it d.now after)
    moments : Tells x y (LeavesOnly (StandsEither world after))
    cleaned : IfTold x (λ d. IsCleaned world after)

  cleaned_to : All (Contains (open_of groups)) (open_of groups') → (world : World) (x y : Option (Disk FileName)) → IfTold x (λ d. IsAtWorld before_it d.now world) → Tells x y (MovesBy world (Ok tt)) → IsCleanedTo world x y
  cleaned_to closes world None None at moves = record { after = world; at = tt; moments = tt; cleaned = tt }
  cleaned_to closes world None (Some b) at moves = absurd moves
  cleaned_to closes world (Some a) None at moves = absurd moves
  cleaned_to closes world (Some a) (Some b) at moves =
      let ended = moves.ended in
      let history = (ended.1).history in
      record {
        after = ended.0;
        at = record {
          documents = subst (AreAt docs b.now) (sym history) (documents_stay a b world.history moves.others at.documents);
          indexes = subst (λ (k : Kinds). AreIndexesAt k groups' b.now (ended.0).pictures) (λ i. kinds_by (sym (ended.1).known i) (sym history i)) ended.2;
          within = none_newer_left world ended.0 history (cleaned_fewer world ended.0 ended.1) at.within;
          owned = owned_left world ended.0 history (cleaned_fewer world ended.0 ended.1) at.owned;
          opened = subst (λ h. AreOpenOwned h groups') (sym history) (opened_fewer world.history groups groups' closes at.opened);
        };
        moments = weaker (Framed IsIndexFile a.now (StandsCleaned world)) (StandsEither world ended.0) a b
            (λ image framed. inl (framed.inside.0, partly_between world ended.0 framed.inside.0 framed.inside.1 ended.1, partly_stands before_it a.now world at image framed)) moves.moments;
        cleaned = ended.1;
      }

  -- ---- it was not
  crashes : (before : Moment) (result : Result (Unit {0}) Halt) → StandsAt f s now before → Tells (f.disk old) (f.disk new) (MovesBy before.world result) → CrashesAround f s now later before (Ok Cleanup)
  crashes before result at moves =
      told_given (f.disk old) (f.disk new) (λ d. IsAtWorld before_it d.now before.world) (MovesBy before.world result) (LeavesOnly (StandsAround s.functions s.honest (languages_of pool) before.world (Ok Cleanup)))
      (λ a b here moved. weaker (Framed IsIndexFile a.now (StandsCleaned before.world)) (StandsAround s.functions s.honest (languages_of pool) before.world (Ok Cleanup)) a b
      (λ image framed. inr (framed.inside.0, framed.inside.1, partly_stands before_it a.now before.world here image framed)) moved.moments) at.documents moves

  module _ (result : Result (Unit {0}) Halt) (is_open : LiesOpen f before_it old) (cleans : CleansUp f docs groups groups' old new out out' result) where
    moved : (before : Moment) → StandsAt f s now before → Tells (f.disk old) (f.disk new) (MovesBy before.world result)
    moved before at = cleans.stands before.world (told_now (f.disk old) (λ d. IsAtWorld before_it d.now before.world) _ (λ d here. (here.documents, here.indexes)) at.documents)

    children : (before : Moment) → StandsAt f s now before → KeepsChild f s later before
    children before at = record { width = at.child.width; started = at.child.started; reducer = at.child.reducer; child = at.child.child; follows = at.child.follows; counts = at.child.counts }

    stopped : (before : Moment) → StandsAt f s now before → CrashesAround f s now later before (Ok Cleanup) × LeavesChild f s now later (MayHaveCalled s.functions s.honest (languages_of pool) before (Ok Cleanup))
    stopped before at = (
      crashes before result at (moved before at),
      record {
        after = before;
        child = children before at;
        allowed = told_all (f.disk old) (λ d. MayHaveCalled s.functions s.honest (languages_of pool) before (Ok Cleanup) before) (λ d. none_called s.functions s.honest (languages_of pool) before (Ok Cleanup));
      },
    )

  does_clean : (before : Moment) → StandsAt f s now before → (result : Result (Unit {0}) Halt) → LiesOpen f before_it old → CleansUp f docs groups groups' old new out out' result → DoesBy f s now later before (Ok Cleanup) out out' result
  does_clean before at (Ok done) is_open cleans =
      let to = cleaned_to cleans.closes before.world (f.disk old) (f.disk new) at.documents (moved (Ok done) is_open cleans before at) in
      record {
        text = ended done_text;
        leaves = record {
          after = with_world before to.after;
          is_at = record {
            documents = to.at;
            known = known_told s.functions s.honest (f.disk old) (f.disk new) (LeavesOnly (StandsEither before.world to.after)) (languages_of pool) (languages_of pool) before.world to.after to.moments refl
                (told_now (f.disk old) (λ d. IsCleaned before.world to.after) (λ d. to.after.functions ≡ before.world.functions) (λ d is. is.known) to.cleaned) at.known;
            child = record { width = at.child.width; started = at.child.started; reducer = at.child.reducer; child = at.child.child; follows = at.child.follows; counts = at.child.counts };
          };
          moments = to.moments;
          allowed = told_now (f.disk old) (λ d. IsCleaned before.world to.after) (λ d. DoesRequestText s.functions s.honest (languages_of pool) before (Ok Cleanup) (ended done_text) (with_world before to.after))
              (λ d cleaned. (done_text, inl (to.after, (cleaned, refl), refl), refl)) to.cleaned;
        };
        appended = cleans.prints;
      }
  does_clean before at (Err (Refused refusal)) is_open cleans = absurd cleans.stopped
  does_clean before at (Err (Stopped NoMemory)) is_open cleans =
      let same = cleans.unmoved refl in
      record {
        after = before;
        is_at = record {
          documents = world_none before_it after_it (f.disk old) (f.disk new) refl same.0 same.1 before.world at.documents;
          child = children (Err (Stopped NoMemory)) is_open cleans before at;
          known = still_known s.functions s.honest (f.disk old) (f.disk new) MovesNone (languages_of pool) (languages_of pool) before.world same.1 refl at.known;
        };
        moments = told_leaves_before before_it before.world before.world (f.disk old) (f.disk new) same.1 at.documents;
        allowed = told_all (f.disk old) (λ d. MayHaveCalled s.functions s.honest (languages_of pool) before (Ok Cleanup) before) (λ d. none_called s.functions s.honest (languages_of pool) before (Ok Cleanup));
      }
  does_clean before at (Err (Stopped DiskFault)) is_open cleans = stopped (Err (Stopped DiskFault)) is_open cleans before at
  does_clean before at (Err (Stopped (Damaged name place))) is_open cleans = stopped (Err (Stopped (Damaged name place))) is_open cleans before at
  does_clean before at (Err (Stopped (Full name length))) is_open cleans = stopped (Err (Stopped (Full name length))) is_open cleans before at

  prints_done : (result : Result (Unit {0}) Halt) → CleansUp f docs groups groups' old new out out' result → OnOk result (AppendsReplyTo (Ok Cleanup) out out')
  prints_done (Ok done) cleans = record { reply = done_text; line = done_line; appended = cleans.prints; unlike = λ other. unlike_done }
  prints_done (Err halt) cleans = tt

  untouched_but_read : IsUntouchedBy docs docs old new (Ok Cleanup)
  untouched_but_read = record { documents = same_docs docs; folder = λ other. absurd (other tt) }

  follows_done : (result : Result (Unit {0}) Halt) → CleansUp f docs groups groups' old new out out' result → FollowsDocuments f docs docs old new out out' Cleanup result
  follows_done (Ok done) cleans = record { accepted = tt; reply = done_text; is = refl; appended = cleans.prints; kept = λ none. untouched_but_read; wrote = tt }
  follows_done (Err (Refused refusal)) cleans = absurd cleans.stopped
  follows_done (Err (Stopped DiskFault)) cleans = (tt, λ none. untouched_but_read)
  follows_done (Err (Stopped (Damaged name at))) cleans = (tt, untouched_but_read)
  follows_done (Err (Stopped (Full name length))) cleans = (tt, untouched_but_read)
  follows_done (Err (Stopped NoMemory)) cleans = untouched_but_read

  unblamed : (result : Result (Unit {0}) Halt) → CleansUp f docs groups groups' old new out out' result → result ≡ Err (Refused ServerFault) → ⊥
  unblamed result cleans is = let refused : CleansUp f docs groups groups' old new out out' (Err (Refused ServerFault)) = subst (λ (r : Result (Unit {0}) Halt). CleansUp f docs groups groups' old new out out' r) is cleans in refused.stopped

  fits_done : (result : Result (Unit {0}) Halt) → OnOk result (Unit {0})
  fits_done (Ok done) = tt
  fits_done (Err halt) = tt

  reason : Tells (f.disk old) (f.disk new) (Moves IsIndexFile (λ image. Unit {0}) (λ files. Unit {0})) → (halt : Halt) → IfStopped (IsCleanupReason f docs groups groups' old new) halt → IfStopped (IsReasonOf f before_it after_it old new (Ok Cleanup)) halt
  reason others (Refused refusal) why = tt
  reason others (Stopped DiskFault) why = inl (why, tt)
  reason others (Stopped (Damaged name at)) why = ⊎_elim (λ read. inl (tt, read))
      (λ slot. inr (
        tt,
        told_given (f.disk old) (f.disk new) (λ d. HasSlotDamage docs d.now name at) (Moves IsIndexFile (λ image. Unit {0}) (λ files. Unit {0})) (λ a b. HasSlotDamage docs a.now name at) (λ a b damage moved. damage) slot.0 others,
        λ world. told_now (f.disk old) (λ d. AreIndexesAt (kinds_of world) groups d.now world.pictures → ⊥) _ (λ d never here fit. never here.indexes) (slot.1 world),
      )) why
  reason others (Stopped (Full name length)) why = absurd why
  reason others (Stopped NoMemory) why = inl tt

  held_as : {Done Done' : Type 0} → ClearsUnheld f docs old new Done → (Done' → Done) → ClearsUnheld f docs old new Done'
  held_as held done = record { alone = held.alone; gone = λ is. held.gone (done is); whole = λ is. held.whole (done is) }

  clears_done : (result : Result (Unit {0}) Halt) → CleansUp f docs groups groups' old new out out' result → ClearsIndexes f docs old new (HasReply result) (MayWant result)
  clears_done (Ok done) cleans = record { held = held_as cleans.held (λ is. refl); spared = cleans.spared; empty = λ is. cleans.empty; unmoved = λ wants. absurd wants }
  clears_done (Err (Refused refusal)) cleans = absurd cleans.stopped
  clears_done (Err (Stopped DiskFault)) cleans = record { held = held_as cleans.held (λ is. absurd is); spared = cleans.spared; empty = λ is. absurd is; unmoved = λ wants. absurd wants }
  clears_done (Err (Stopped (Damaged name at))) cleans = record { held = held_as cleans.held (λ is. absurd is); spared = cleans.spared; empty = λ is. absurd is; unmoved = λ wants. absurd wants }
  clears_done (Err (Stopped (Full name length))) cleans = record { held = held_as cleans.held (λ is. absurd is); spared = cleans.spared; empty = λ is. absurd is; unmoved = λ wants. absurd wants }
  clears_done (Err (Stopped NoMemory)) cleans = record { held = held_as cleans.held (λ is. absurd is); spared = cleans.spared; empty = λ is. absurd is; unmoved = λ wants. (cleans.unmoved refl).1 }

  groups_left : (result : Result (Unit {0}) Halt) → CleansUp f docs groups groups' old new out out' result → MayWant result → groups' ≡ groups
  groups_left (Ok done) cleans wants = absurd wants
  groups_left (Err (Refused refusal)) cleans wants = absurd cleans.stopped
  groups_left (Err (Stopped DiskFault)) cleans wants = absurd wants
  groups_left (Err (Stopped (Damaged name at))) cleans wants = absurd wants
  groups_left (Err (Stopped (Full name length))) cleans wants = absurd wants
  groups_left (Err (Stopped NoMemory)) cleans wants = (cleans.unmoved refl).0

  cleaned_up : (result : Result (Unit {0}) Halt) → LiesOpen f before_it old → CleansUp f docs groups groups' old new out out' result → Performed f s now later (Ok Cleanup) out out' result
  cleaned_up result is_open cleans = record {
    does = λ before at fit. does_clean before at result is_open cleans;
    prints = prints_done result cleans;
    silent = cleans.silent;
    refused = tt;
    blames = λ is. absurd (unblamed result cleans is);
    follows = follows_done result cleans;
    designed = fits_done result;
    unasked = λ refusal is. tt;
    leaves = record { servers = λ other. refl; pool = λ other. refl; cache = λ other. refl; groups = λ other. absurd (other tt); wanting = λ wants other. groups_left result cleans wants; all = tt };
    fits = fits_done result;
    disk = record {
      documents = λ no. absurd (no tt);
      indexes = cleans.others;
      is_open = λ goes. told_pair (f.disk new) (λ d. AreDocumentsOpen docs d.now) (λ d. AreIndexesOpen groups' d.now) (λ d. IsOpen after_it d.now) (λ d documents indexes. record { documents = documents; indexes = indexes })
          (told_after (f.disk old) (f.disk new) (λ d. IsOpen before_it d.now) (λ d. AreDocumentsOpen docs d.now) (Moves IsIndexFile (λ image. Unit {0}) (λ files. Unit {0}))
          (λ a b here moves. open_beside_indexes docs a.now b.now (λ n of_docs. moves.others n (λ of_view. apart n of_view of_docs)) here.documents) is_open cleans.others)
          (cleans.is_open goes (told_now (f.disk old) (λ d. IsOpen before_it d.now) (λ d. AreIndexesOpen groups d.now) (λ d here. here.indexes) is_open));
    };
    cleared = clears_done result cleans;
    filled = λ before at fit name length is view. absurd view;
    why = IfErr-weaker result (IfStopped (IsCleanupReason f docs groups groups' old new)) (IfStopped (IsReasonOf f before_it after_it old new (Ok Cleanup))) (reason cleans.others) cleans.why;
    stays = record { languages = refl; width = refl; disk_faults = cleans.later; server_faults = omega arith };
  }

-- what a cleanup promises of the documents and the indexes is what the engine promises of the request
pub cleaned : {F C : Type 0} {f : Folders F} {s : Servers C} {docs : Docs} {pool : Pool} {groups groups' : Groups} {cache : NodeCache} {old new : F} {servers : C} {request : Request} {out out' : List ℕ} {result : Result (Unit {0}) Halt}
    → request ≡ Cleanup → LiesOpen f (record { docs = docs; pool = pool; groups = groups; cache = cache }) old → CleansUp f docs groups groups' old new out out' result
    → Performed f s (scene (record { docs = docs; pool = pool; groups = groups; cache = cache }) old servers) (scene (record { docs = docs; pool = pool; groups = groups'; cache = cache }) new servers) (Ok request) out out' result
cleaned {f = f} {s = s} {docs = docs} {pool = pool} {groups = groups} {groups' = groups'} {cache = cache} {old = old} {new = new} {servers = servers} {out = out} {out' = out'} {result = result} is is_open cleans =
    subst (λ (r : Request). Performed f s (scene (record { docs = docs; pool = pool; groups = groups; cache = cache }) old servers) (scene (record { docs = docs; pool = pool; groups = groups'; cache = cache }) new servers) (Ok r) out out' result) (sym is)
    (cleaned_up f s docs pool groups groups' cache old new servers out out' result is_open cleans)
