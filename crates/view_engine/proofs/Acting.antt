-- A request on the documents alone, as the engine performs it.
use Rattle.std.specs.Prelude.{IfErr, IfOk, OnOk}
use Rattle.std.proofs.Common.{◌≡◌, ◌≢◌, ◌⊎◌, ◌∙◌, ℕ, List, Option, Some, None, inl, inr, Result, Ok, Err, refl, sym, ap, subst, arith}
use Rattle.std.proofs.lemmas.Result.{IfErr-weaker}
use Rattle.json_terms.specs.Json.{members_of, object}
use Rattle.view_ports.specs.Functions.{Functions}
use Rattle.view_ports.specs.Lines.{ended}
use Rattle.view_ports.specs.declared.folder.Folder.{Ghosts as Folders}
use Rattle.view_ports.specs.declared.servers.Servers.{Ghosts as Servers}
use Rattle.view_ports.proofs.DiskRuns.{none_refl}
use Rattle.view_ports.proofs.Told.{told_all, told_given, told_now, told_pair, told_refl}
use Rattle.child_pool.specs.declared.pool.Pool.{Pool}
use Rattle.child_pool.specs.Pools.{languages_of}
use Rattle.view_ports.specs.Disk.{Disk, IfTold, LeavesOnly, MovesNone, Tells}
use Rattle.view_ports.specs.declared.file_name.FileName.{FileName}
use Rattle.doc_file.specs.declared.docs.Docs.{Docs}
use Rattle.doc_file.specs.Docs.{IsAt as AreAt}
use Rattle.design_docs.specs.History.{Write}
use Rattle.node_file.specs.declared.cache.NodeCache.{NodeCache}
use Rattle.tree_groups.specs.declared.groups.Groups.{Groups}
use Rattle.view_engine.specs.declared.engine.Engine.{Engine}
use Rattle.view_engine.specs.declared.halt.Halt.{Halt}
use Rattle.view_engine.specs.declared.halt.Halt.TheVariants.{Refused, Stopped}
use Rattle.view_engine.specs.declared.halt.StepFault.TheVariants.{DiskFault, Damaged, Full, NoMemory}
use Rattle.view_engine.specs.declared.refusal.Refusal.{Refusal}
use Rattle.view_engine.specs.declared.refusal.Refusal.TheVariants.{ServerFault}
use Rattle.view_engine.specs.declared.request.Request.{Request}
use Rattle.view_engine.specs.declared.request.Request.TheVariants.{Cleanup, Put, Delete, Get, Info, View}
use Rattle.view_engine.specs.Calls.{scene, ActsHere, AppendsReplyTo, CrashesAround, DoesBy, DoesHere, DoesHereBy, FitsDesign, IsRefusedHere, KeepsChild, LeavesAlone, LeavesChild, LeavesMoment, LeavesWorld, Performed, RefusesUnread, Scene, StandsAt}
use Rattle.view_engine.specs.Delete.{delete_write}
use Rattle.view_engine.specs.Disks.{HasGivenUp, IfStopped, IsReason, IsReasonOf, IsView, KeepsDocuments, LiesOpen, MayGoOn}
use Rattle.view_engine.specs.Halts.{DocumentsStandAround, MovesDocuments}
use Rattle.view_engine.specs.InMemory.{IsRefusedBy}
use Rattle.view_engine.specs.Put.{put_write}
use Rattle.view_engine.specs.Worlds.{IsAtWorld, StandsAround, StandsEither, StandsFor}
use Rattle.view_engine.specs.Moments.{Moment, with_world}
use Rattle.view_engine.specs.Refusals.{refusal_text}
use Rattle.view_engine.specs.Signatures.{kinds_of}
use Rattle.view_engine.specs.Steps.{DoesRequest, DoesRequestText, IsRefusedAs, IsWrite, Makes, MayHaveCalled, Performs}
use Rattle.view_engine.specs.World.{World, written}
use Rattle.view_engine.proofs.OnDisk.{documents_reason, documents_still}
use Rattle.view_engine.proofs.Between.{stands_first}
use Rattle.view_engine.proofs.Cleared.{clears_none, clears_other}
use Rattle.view_engine.proofs.Whole.{documents_at, documents_open, indexes_at, kept_whole, leaves_around, told_leaves_before, told_leaves_none, within_longer}
use Rattle.view_engine.proofs.Following.{follows_refused, follows_spent}
use Rattle.view_engine.proofs.Performing.{none_called}
use Rattle.view_engine.proofs.ServerFaults.{err_unblamed}
use Rattle.view_engine.proofs.Known.{known_told}
use Rattle.view_engine.proofs.Signatures.{indexes_later, opened_later, owned_later}

module _ (functions : List ℕ → Functions) (honest : List ℕ → Type 0) (languages : List (List ℕ × List ℕ)) where
  performs_here : (request : Request) (before : Moment) (reply : List ℕ) (after : World) → DoesHere before.world request reply after
      → Performs functions honest languages before request reply (with_world before after)
  performs_here (Put document) before reply after does = (after, does, refl)
  performs_here (Delete id given) before reply after does = (after, does, refl)
  performs_here (Get id) before reply after does = (does.0, ap (with_world before) does.1)
  performs_here Info before reply after does = (does.0, ap (with_world before) does.1)
  performs_here other before reply after does = absurd does

  refused_here : (request : Request) (world : World) (refusal : Refusal) → IsRefusedHere world request refusal → IsRefusedAs functions honest languages world request refusal
  refused_here (Put document) world refusal is = is
  refused_here (Delete id given) world refusal is = is
  refused_here (Get id) world refusal is = is
  refused_here other world refusal is = absurd is

  -- a moment at the same world
  same_called : (request : Request) (before : Moment) (after : World) → after ≡ before.world → MayHaveCalled functions honest languages before (Ok request) (with_world before after)
  same_called request before after same =
      subst (λ (world : World). MayHaveCalled functions honest languages before (Ok request) (with_world before world)) (sym same) (none_called functions honest languages before (Ok request))

  -- the world with an accepted write is one that the request makes
  write_makes : (world : World) (request : Result Request Refusal) (write : Write) → IsWrite world request write → Makes functions honest languages world request (written world write)
  write_makes world (Ok (Put document)) write is = (write, is, refl)
  write_makes world (Ok (Delete id given)) write is = (write, is, refl)
  write_makes world other write is = absurd is

-- after a request on the documents the world is as it was, or has one write more
abbrev GrowsAlone : World → World → Type 0
GrowsAlone world after = (after ≡ world) ⊎ ((write : Write) × (after ≡ written world write))

does_grow : (request : Request) (world : World) (reply : List ℕ) (after : World) → DoesHere world request reply after → GrowsAlone world after
does_grow (Put document) world reply after does = inr (put_write world (object (members_of document)), does.wrote)
does_grow (Delete id given) world reply after does = inr (delete_write world id, does.wrote)
does_grow (Get id) world reply after does = inl does.1
does_grow Info world reply after does = inl does.1
does_grow other world reply after does = absurd does

-- and the world is the one with the request's write, where it has one
does_write : (request : Request) (world : World) (reply : List ℕ) (after : World) (write : Write) → DoesHere world request reply after → IsWrite world (Ok request) write → written world write ≡ after
does_write (Put document) world reply after write does is = ap (written world) (is.1).2 ∙ sym does.wrote
does_write (Delete id given) world reply after write does is = ap (written world) (is.1).2 ∙ sym does.wrote
does_write other world reply after write does is = absurd is

-- such a world knows the same functions
grown_knows : (world after : World) → GrowsAlone world after → after.functions ≡ world.functions
grown_knows world after (inl same) = ap (λ (w : World). w.functions) same
grown_knows world after (inr (write, wrote)) = ap (λ (w : World). w.functions) wrote

module _ {F C : Type 0} (f : Folders F) (s : Servers C) (docs docs' : Docs) (pool : Pool) (groups : Groups) (cache : NodeCache) (old new : F) (servers : C) (out out' : List ℕ) where
  abbrev before_it : Engine
  before_it = record { docs = docs; pool = pool; groups = groups; cache = cache }

  abbrev after_it : Engine
  after_it = record { docs = docs'; pool = pool; groups = groups; cache = cache }

  abbrev Stands : World → Type 0
  Stands world = IfTold (f.disk old) (λ d. IsAtWorld before_it d.now world)

  -- beside pictures that stay the engine is at the world that the documents are at
  grown : (a b : Disk FileName) {world after : World} → IsAtWorld before_it a.now world → MovesDocuments (λ image. Unit {0}) a b → GrowsAlone world after → AreAt docs' b.now after.history → IsAtWorld after_it b.now after
  grown a b {world} here moves (inl same) =
      subst (λ (w : World). AreAt docs' b.now w.history → IsAtWorld after_it b.now w) (sym same) (λ there. record {
        documents = there;
        indexes = indexes_at a b moves (kinds_of world) groups world.pictures here.indexes;
        within = here.within;
        owned = here.owned;
        opened = here.opened;
      })
  grown a b {world} here moves (inr (write, wrote)) =
      subst (λ (w : World). AreAt docs' b.now w.history → IsAtWorld after_it b.now w) (sym wrote) (λ there. record {
        documents = there;
        indexes = indexes_later world.functions write world.history world.pictures here.owned groups b.now here.opened (indexes_at a b moves (kinds_of world) groups world.pictures here.indexes);
        within = within_longer world write here.within;
        owned = owned_later world.functions write world.history world.pictures here.owned here.within;
        opened = opened_later write world.history groups here.opened;
      })

  -- the engine is at the world that the documents are at, beside the pictures that were there
  whole : Tells (f.disk old) (f.disk new) (MovesDocuments (λ image. Unit {0})) → (world after : World) → Stands world → IfTold (f.disk old) (λ d. GrowsAlone world after) → IfTold (f.disk new) (λ d. AreAt docs' d.now after.history)
      → IfTold (f.disk new) (λ d. IsAtWorld after_it d.now after)
  whole own world after at alone documents = by_disk (f.disk old) (f.disk new) at alone own documents
    where
      by_disk : (x y : Option (Disk FileName)) → IfTold x (λ d. IsAtWorld before_it d.now world) → IfTold x (λ d. GrowsAlone world after) → Tells x y (MovesDocuments (λ image. Unit {0})) → IfTold y (λ d. AreAt docs' d.now after.history)
          → IfTold y (λ d. IsAtWorld after_it d.now after)
      by_disk None None here grow moves there = tt
      by_disk None (Some b) here grow moves there = absurd moves
      by_disk (Some a) None here grow moves there = tt
      by_disk (Some a) (Some b) here grow moves there = grown a b here moves grow there

  -- a crash leaves the world before a request that is done, or after it
  moments_done : (request : Request) (reply : List ℕ) (world after : World) → Stands world → IfTold (f.disk old) (λ d. DoesHere world request reply after) → Tells (f.disk old) (f.disk new) (MovesDocuments (DocumentsStandAround world (Ok request)))
      → Tells (f.disk old) (f.disk new) (LeavesOnly (StandsEither world after))
  moments_done request reply world after at does =
      told_given (f.disk old) (f.disk new) (λ d. IsAtWorld before_it d.now world × DoesHere world request reply after) (MovesDocuments (DocumentsStandAround world (Ok request))) (LeavesOnly (StandsEither world after))
      (λ a b known moves. leaves_around before_it world (Ok request) (StandsEither world after) a b (λ image stands. stands_first world after image stands)
      (λ image write is stands. inr (subst (StandsFor image) (does_write request world reply after write known.1 is) stands)) known.0 moves)
      (told_pair (f.disk old) (λ d. IsAtWorld before_it d.now world) (λ d. DoesHere world request reply after) (λ d. IsAtWorld before_it d.now world × DoesHere world request reply after) (λ d here done. (here, done)) at does)

  -- and of one that failed the world before it, or the one that it makes
  moments_failed : (request : Request) (world : World) → Stands world → Tells (f.disk old) (f.disk new) (MovesDocuments (DocumentsStandAround world (Ok request)))
      → Tells (f.disk old) (f.disk new) (LeavesOnly (StandsAround s.functions s.honest (languages_of pool) world (Ok request)))
  moments_failed request world at =
      told_given (f.disk old) (f.disk new) (λ d. IsAtWorld before_it d.now world) (MovesDocuments (DocumentsStandAround world (Ok request))) (LeavesOnly (StandsAround s.functions s.honest (languages_of pool) world (Ok request)))
      (λ a b here moves. leaves_around before_it world (Ok request) (StandsAround s.functions s.honest (languages_of pool) world (Ok request)) a b (λ image stands. inl stands)
      (λ image write is stands. inr (written world write, write_makes s.functions s.honest (languages_of pool) world (Ok request) write is, stands)) here moves) at

  module _ (request : Request) (before : Moment) (at : StandsAt f s (scene before_it old servers) before) where
    abbrev Moved : Type 0
    Moved = Tells (f.disk old) (f.disk new) (MovesDocuments (DocumentsStandAround before.world (Ok request)))

    abbrev DocumentsAt : Type 0
    DocumentsAt = IfTold (f.disk old) (λ d. AreAt docs d.now before.world.history)

    kept : KeepsChild f s (scene after_it new servers) before
    kept = record { width = at.child.width; started = at.child.started; reducer = at.child.reducer; child = at.child.child; follows = at.child.follows; counts = at.child.counts }

    -- where no file changed the moment is as it was
    still_there : (Allows : Moment → Type 0) (Known : World → Type 0) → Tells (f.disk old) (f.disk new) MovesNone → Tells (f.disk old) (f.disk new) (MovesDocuments (λ image. Unit {0}))
        → ((after : World) → Known after → (after ≡ before.world) × Allows (with_world before after)) → LeavesWorld f docs' old new Known → LeavesMoment f s (scene before_it old servers) (scene after_it new servers) before Allows
    still_there Allows Known none own allows left = record {
      after = with_world before left.after;
      is_at = record {
        documents = whole own before.world left.after at.documents (told_now (f.disk old) (λ d. Known left.after) (λ d. GrowsAlone before.world left.after) (λ d known. inl (allows left.after known).0) left.allowed) left.is_at;
        known = known_told s.functions s.honest (f.disk old) (f.disk new) MovesNone (languages_of pool) (languages_of pool) before.world left.after none refl
            (told_now (f.disk old) (λ d. Known left.after) (λ d. left.after.functions ≡ before.world.functions) (λ d known. ap (λ (w : World). w.functions) (allows left.after known).0) left.allowed) at.known;
        child = record { width = at.child.width; started = at.child.started; reducer = at.child.reducer; child = at.child.child; follows = at.child.follows; counts = at.child.counts };
      };
      moments = told_leaves_before before_it before.world left.after (f.disk old) (f.disk new) none at.documents;
      allowed = told_now (f.disk old) (λ d. Known left.after) (λ d. Allows (with_world before left.after)) (λ d known. (allows left.after known).1) left.allowed;
    }

    stopped_there : Moved → CrashesAround f s (scene before_it old servers) (scene after_it new servers) before (Ok request)
        × LeavesChild f s (scene before_it old servers) (scene after_it new servers) (MayHaveCalled s.functions s.honest (languages_of pool) before (Ok request))
    stopped_there moved = (
      moments_failed request before.world at.documents moved,
      record {
        after = before;
        child = kept;
        allowed = told_all (f.disk old) (λ d. MayHaveCalled s.functions s.honest (languages_of pool) before (Ok request) before) (λ d. none_called s.functions s.honest (languages_of pool) before (Ok request));
      },
    )

    does_here : (result : Result (Unit {0}) Halt) → KeepsDocuments f docs docs' old new (Ok request) (HasGivenUp result) (MayGoOn result) → DoesHereBy f docs docs' old new request out out' result
        → DoesBy f s (scene before_it old servers) (scene after_it new servers) before (Ok request) out out' result
    does_here (Ok value) keeps done =
        let here : DocumentsAt = documents_at _ _ before.world at.documents in
        let left = done.does before.world here in
        record {
          text = ended done.reply;
          leaves = record {
            after = with_world before left.after;
            is_at = record {
              documents = whole keeps.own before.world left.after at.documents
                  (told_now (f.disk old) (λ d. DoesHere before.world request done.reply left.after) (λ d. GrowsAlone before.world left.after) (λ d does. does_grow request before.world done.reply left.after does) left.allowed) left.is_at;
              known = known_told s.functions s.honest (f.disk old) (f.disk new) (MovesDocuments (DocumentsStandAround before.world (Ok request))) (languages_of pool) (languages_of pool) before.world left.after (keeps.moved before.world here) refl
                  (told_now (f.disk old) (λ d. DoesHere before.world request done.reply left.after) (λ d. left.after.functions ≡ before.world.functions) (λ d does. grown_knows before.world left.after (does_grow request before.world done.reply left.after does)) left.allowed) at.known;
              child = record { width = at.child.width; started = at.child.started; reducer = at.child.reducer; child = at.child.child; follows = at.child.follows; counts = at.child.counts };
            };
            moments = moments_done request done.reply before.world left.after at.documents left.allowed (keeps.moved before.world here);
            allowed = told_now (f.disk old) (λ d. DoesHere before.world request done.reply left.after)
                (λ d. DoesRequestText s.functions s.honest (languages_of pool) before (Ok request) (ended done.reply) (with_world before left.after))
                (λ d does. (done.reply, inl (performs_here s.functions s.honest (languages_of pool) request before done.reply left.after does), refl)) left.allowed;
          };
          appended = done.appended;
        }
    does_here (Err (Refused refusal)) keeps refused =
        still_there (λ after. DoesRequest s.functions s.honest (languages_of pool) before (Ok request) (refusal_text refusal) after × MayHaveCalled s.functions s.honest (languages_of pool) before (Ok request) after)
        (λ after. (after ≡ before.world) × IsRefusedHere before.world request refusal) (keeps.unmoved tt) keeps.own
        (λ after is. (
          is.0,
          (
            inr (refusal, refused_here s.functions s.honest (languages_of pool) request before.world refusal is.1, (refl, ap (with_world before) is.0)),
            same_called s.functions s.honest (languages_of pool) request before after is.0,
          ),
        )) (refused before.world (documents_at _ _ before.world at.documents))
    does_here (Err (Stopped NoMemory)) keeps spent =
        still_there (MayHaveCalled s.functions s.honest (languages_of pool) before (Ok request)) (λ after. after ≡ before.world) (keeps.unmoved tt) keeps.own
        (λ after same. (same, same_called s.functions s.honest (languages_of pool) request before after same)) (spent before.world (documents_at _ _ before.world at.documents))
    does_here (Err (Stopped DiskFault)) keeps stopped = stopped_there (keeps.moved before.world (documents_at _ _ before.world at.documents))
    does_here (Err (Stopped (Damaged name place))) keeps stopped = stopped_there (keeps.moved before.world (documents_at _ _ before.world at.documents))
    does_here (Err (Stopped (Full name length))) keeps stopped = stopped_there (keeps.moved before.world (documents_at _ _ before.world at.documents))

  -- and where it is done its reply line was appended
  prints_here : (request : Request) (result : Result (Unit {0}) Halt) → DoesHereBy f docs docs' old new request out out' result → OnOk result (AppendsReplyTo (Ok request) out out')
  prints_here request (Ok value) done = record { reply = done.reply; line = done.line; appended = done.appended; unlike = done.unlike }
  prints_here request (Err halt) done = tt

-- nothing was called
pub leaves_all : {F C : Type 0} {Wants : Type 0} (now : Scene F C) (request : Result Request Refusal) → LeavesAlone request Wants now now
leaves_all now (Ok request) = record { servers = λ none. refl; pool = λ none. refl; cache = λ none. refl; groups = λ none. refl; wanting = λ wants none. refl; all = tt }
leaves_all now (Err refusal) = record { servers = λ none. refl; pool = λ none. refl; cache = λ none. refl; groups = λ none. refl; wanting = λ wants none. refl; all = refl }

-- of what is no view nothing is said of a design document
pub fits_other : {F C : Type 0} (f : Folders F) (s : Servers C) (old new : Scene F C) (request : Result Request Refusal) → (IsView request → ⊥) → (refusal : Option Refusal) → FitsDesign f s old new request refusal
fits_other f s old new (Ok (View view query)) no_view refusal = absurd (no_view tt)
fits_other f s old new other no_view refusal = tt

-- what holds, holds where it is done
pub on_ok_of : {P : Type 0} (result : Result (Unit {0}) Halt) → P → OnOk result P
on_ok_of (Ok done) holds = holds
on_ok_of (Err halt) holds = tt

-- the same by how the line ends
pub leaves_ends : {F C : Type 0} {old new : Scene F C} {request : Result Request Refusal} {Wants Wanting : Type 0} → (Wanting → Wants) → LeavesAlone request Wants old new → LeavesAlone request Wanting old new
leaves_ends wants leaves = record { servers = leaves.servers; pool = leaves.pool; cache = leaves.cache; groups = leaves.groups; wanting = λ now. leaves.wanting (wants now); all = leaves.all }

-- a view isn't one of these, so that it meets no full file here
full_here : {F : Type 0} (f : Folders F) (docs : Docs) (old new : F) (request : Request) (P : Type 0) (name : FileName) (length : Option ℕ) → IsReason f docs old new (Ok request) (Full name length) → IsView (Ok request) → P
full_here f docs old new (View view limits) P name length why is = absurd why.0
full_here f docs old new other P name length why is = absurd is

-- what a request function promises of the documents is what the engine promises of the request
pub acted : {F C : Type 0} {f : Folders F} {s : Servers C} {docs docs' : Docs} {pool : Pool} {groups : Groups} {cache : NodeCache} {old new : F} {servers : C} {request made : Request} {out out' : List ℕ} {result : Result (Unit {0}) Halt}
    → request ≡ made → (made ≡ Cleanup → ⊥) → (IsView (Ok made) → ⊥) → LiesOpen f (record { docs = docs; pool = pool; groups = groups; cache = cache }) old → ActsHere f docs docs' old new made out out' result
    → Performed f s (scene (record { docs = docs; pool = pool; groups = groups; cache = cache }) old servers) (scene (record { docs = docs'; pool = pool; groups = groups; cache = cache }) new servers) (Ok request) out out' result
acted {f = f} {s = s} {docs = docs} {docs' = docs'} {pool = pool} {groups = groups} {cache = cache} {old = old} {new = new} {servers = servers} {request = request} {made = made} {out = out} {out' = out'} {result = result} is other no_view is_open acts =
    subst (λ (r : Request). Performed f s (scene (record { docs = docs; pool = pool; groups = groups; cache = cache }) old servers) (scene (record { docs = docs'; pool = pool; groups = groups; cache = cache }) new servers) (Ok r) out out' result) (sym is) (record {
      does = λ before at fit. does_here f s docs docs' pool groups cache old new servers out out' made before at result acts.disk acts.does;
      prints = prints_here f s docs docs' pool groups cache old new servers out out' made result acts.does;
      silent = acts.silent;
      refused = tt;
      blames = λ is. absurd (acts.unblamed is);
      follows = acts.follows;
      designed = on_ok_of result (fits_other f s _ _ (Ok made) no_view None);
      unasked = λ refusal refused. fits_other f s _ _ (Ok made) no_view (Some refusal);
      leaves = record { servers = λ none. refl; pool = λ none. refl; cache = λ none. refl; groups = λ none. refl; wanting = λ wants none. refl; all = tt };
      fits = acts.fits;
      disk = kept_whole refl is_open acts.disk;
      cleared = clears_other f docs old new (Ok made) _ _ (λ same. other (let one : made ≡ Cleanup = cc in one));
      filled = λ before at fit name length is view.
          full_here f docs old new made _ name length (subst (λ (r : Result (Unit {0}) Halt). IfErr r (IfStopped (IsReason f docs old new (Ok made)))) is acts.why) view;
      why = IfErr-weaker result (IfStopped (IsReason f docs old new (Ok made))) (IfStopped (IsReasonOf f (record { docs = docs; pool = pool; groups = groups; cache = cache }) (record { docs = docs'; pool = pool; groups = groups; cache = cache }) old new (Ok made)))
          (λ halt is. documents_reason f (record { docs = docs; pool = pool; groups = groups; cache = cache }) (record { docs = docs'; pool = pool; groups = groups; cache = cache }) old new (Ok made) halt is) acts.why;
      stays = record { languages = refl; width = refl; disk_faults = acts.later; server_faults = omega arith };
    })

-- where memory ran out
spent_unread : (request : Result Request Refusal) → RefusesUnread request (Err (Stopped NoMemory))
spent_unread (Ok request) = tt
spent_unread (Err refusal) = inr refl

module _ {F C : Type 0} {f : Folders F} {s : Servers C} {now : Scene F C} {request : Result Request Refusal} {out : List ℕ} where
  -- nothing was called, and memory ran out
  pub spent_at_once : LiesOpen f now.engine now.folder → Performed f s now now request out out (Err (Stopped NoMemory))
  spent_at_once is_open = record {
    does = λ before at fit. record {
      after = before;
      is_at = at;
      moments = told_leaves_none now.engine before.world (f.disk now.folder) (f.disk now.folder) (told_refl (f.disk now.folder) MovesNone none_refl) at.documents;
      allowed = told_all (f.disk now.folder) (λ d. MayHaveCalled s.functions s.honest (languages_of now.engine.pool) before request before) (λ d. none_called s.functions s.honest (languages_of now.engine.pool) before request);
    };
    prints = tt;
    silent = refl;
    refused = spent_unread request;
    blames = λ never. absurd cc;
    follows = follows_spent f now.engine.docs now.folder out request;
    designed = tt;
    unasked = λ refusal never. absurd (let no : ⊥ = cc in no);
    leaves = leaves_all now request;
    fits = tt;
    disk = kept_whole refl is_open (documents_still (documents_open _ _ is_open));
    cleared = clears_none f now.engine.docs now.folder now.folder request _ _ (told_refl (f.disk now.folder) MovesNone none_refl) (λ done. done);
    filled = λ before at fit name length never. absurd cc;
    why = inl tt;
    stays = record { languages = refl; width = refl; disk_faults = omega arith; server_faults = omega arith };
  }

  -- nothing was called, and the request is refused
  pub refused_at_once : {refusal : Refusal} → (request ≡ Ok Cleanup → ⊥) → (IsView request → ⊥) → RefusesUnread request (Err (Refused refusal)) → refusal ≢ ServerFault → IfOk request (λ one. IsRefusedBy now.engine.docs one refusal) → ((before : Moment) → DoesRequest s.functions s.honest (languages_of now.engine.pool) before request (refusal_text refusal) before)
      → LiesOpen f now.engine now.folder → Performed f s now now request out out (Err (Refused refusal))
  refused_at_once {refusal} no_cleanup no_view unread other refused does is_open = record {
    does = λ before at fit. record {
      after = before;
      is_at = at;
      moments = told_leaves_none now.engine before.world (f.disk now.folder) (f.disk now.folder) (told_refl (f.disk now.folder) MovesNone none_refl) at.documents;
      allowed = told_all (f.disk now.folder)
          (λ d. DoesRequest s.functions s.honest (languages_of now.engine.pool) before request (refusal_text refusal) before × MayHaveCalled s.functions s.honest (languages_of now.engine.pool) before request before)
          (λ d. (does before, none_called s.functions s.honest (languages_of now.engine.pool) before request));
    };
    prints = tt;
    silent = refl;
    refused = unread;
    blames = λ never. absurd (err_unblamed (Refused refusal) (λ same. other (let is_fault : refusal ≡ ServerFault = cc in is_fault)) never);
    follows = follows_refused f now.engine.docs now.folder out request refusal refused;
    designed = tt;
    unasked = λ told is. fits_other f s _ _ request no_view (Some told);
    leaves = leaves_all now request;
    fits = tt;
    disk = kept_whole refl is_open (documents_still (documents_open _ _ is_open));
    cleared = clears_other f now.engine.docs now.folder now.folder request _ _ no_cleanup;
    filled = λ before at fit name length never. absurd cc;
    why = tt;
    stays = record { languages = refl; width = refl; disk_faults = omega arith; server_faults = omega arith };
  }
