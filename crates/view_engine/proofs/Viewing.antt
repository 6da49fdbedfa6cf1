-- A view, as the engine performs it.
use Rattle.std.specs.Prelude.{option_map, ◌≡◌, ◌≢◌, ◌⊎◌, ℕ, List, length, Option, Result, Ok, Err, IfErr, OnErr, OnOk}
use Rattle.std.proofs.Common.{◌∷◌, [], None, Some, inl, inr, true, false, refl, subst}
use Rattle.view_ports.specs.Disk.{IfTold, Tells}
use Rattle.view_ports.specs.Faults.{RoseBy}
use Rattle.view_ports.specs.declared.file_name.FileName.{FileName}
use Rattle.view_ports.specs.declared.folder.Folder.{Ghosts as Folders}
use Rattle.view_ports.specs.declared.servers.Servers.{Ghosts as Servers}
use Rattle.view_ports.proofs.Told.{told_now}
use Rattle.child_pool.specs.declared.pool_fault.PoolFault.{PoolFault}
use Rattle.child_pool.specs.declared.pool_fault.PoolFault.TheVariants as pool
use Rattle.child_pool.specs.Languages.{path_in}
use Rattle.child_pool.specs.Pools.{languages_of}
use Rattle.design_docs.specs.Design.{language_of, source_of, views_of}
use Rattle.doc_file.specs.Accepted.{State}
use Rattle.doc_file.specs.Accepted.State.{known, unseen}
use Rattle.query_args.specs.declared.fault.QueryFault.{QueryFault}
use Rattle.query_args.specs.Faults.{query_fault}
use Rattle.tree_index.specs.declared.fault.IndexFault.TheVariants as index
use Rattle.tree_updater.specs.declared.fault.UpdateFault.{UpdateFault}
use Rattle.tree_updater.specs.declared.fault.UpdateFault.TheVariants as update
use Rattle.view_engine.specs.declared.halt.Halt.{Halt}
use Rattle.view_engine.specs.declared.halt.Halt.TheVariants.{Refused, Stopped}
use Rattle.view_engine.specs.declared.halt.StepFault.{StepFault}
use Rattle.view_engine.specs.declared.halt.StepFault.TheVariants.{DiskFault, Damaged, Full, NoMemory}
use Rattle.view_engine.specs.declared.refusal.Refusal.{Refusal}
use Rattle.view_engine.specs.declared.refusal.Refusal.TheVariants.{BadQuery, CompilationError, Deleted, Missing, MissingNamedView, ServerFault, ServerReply, UnknownLanguage}
use Rattle.view_engine.specs.declared.request.Request.{Request}
use Rattle.view_engine.specs.Calls.{AppendsReplyTo, CrashesAround, DoesBy, FitsView, IsUnasked, LeavesChild, LeavesMoment, Performed, Scene, StandsAt, Stays}
use Rattle.view_engine.specs.Disks.{IfStopped, IsReasonOf, LiesOpen, MayGoOn, MovesIndexOf}
use Rattle.view_engine.specs.FullIndex.{IsIndexFull}
use Rattle.view_engine.specs.Halts.{FitsFor, GoesOn}
use Rattle.view_engine.specs.InMemory.{FollowsDocuments, IsLiveIn, IsSaidByDesign, IsViewRefusedBy}
use Rattle.view_engine.specs.Moments.{Moment}
use Rattle.view_engine.specs.Get.{not_live}
use Rattle.view_engine.specs.Refusals.{first_of, refusal_text}
use Rattle.view_engine.specs.Steps.{DoesRequest, MayHaveCalled}
use Rattle.view_engine.specs.Updating.{AreFit}
use Rattle.view_engine.specs.View.{design_id, no_path, no_view}
use Rattle.view_engine.specs.ViewPlan.{met_by, met_by_pool}
use Rattle.view_engine.specs.ViewQuery.{parameters_of, target_for, ViewQuery, view_request}
use Rattle.view_engine.proofs.Following.{file_of_none}

-- ---- how a view ends, as a request

module _ {F C : Type 0} (f : Folders F) (s : Servers C) (old new : Scene F C) (name : ViewQuery) where
  abbrev request : Result Request Refusal
  request = Ok (view_request name)

  -- what is left of a halt after which the engine may go on
  abbrev pub Halts : Moment → Halt → Moment → Type 0
  Halts before halt after = ((r : Refusal) → halt ≡ Refused r → DoesRequest s.functions s.honest (languages_of old.engine.pool) before request (refusal_text r) after)
      × MayHaveCalled s.functions s.honest (languages_of old.engine.pool) before request after

  -- designs that differ have different signatures
  abbrev pub IsFit : Moment → Type 0
  IsFit before = IfTold (f.disk old.folder) (λ d. AreFit before.world.history)

  abbrev pub LeavesHalted : Halt → Type 0
  LeavesHalted halt = GoesOn halt → (before : Moment) → StandsAt f s old before → IsFit before → LeavesMoment f s old new before (Halts before halt)

  abbrev pub LeavesStopped : Halt → Type 0
  LeavesStopped halt = (fault : StepFault) → halt ≡ Stopped fault → fault ≢ NoMemory → (before : Moment) → StandsAt f s old before → IsFit before
      → CrashesAround f s old new before request × LeavesChild f s old new (MayHaveCalled s.functions s.honest (languages_of old.engine.pool) before request)

  pub does_halted : (out out' : List ℕ) (halt : Halt) → LeavesHalted halt → LeavesStopped halt → (before : Moment) → StandsAt f s old before → IsFit before → DoesBy f s old new before request out out' (Err halt)
  does_halted out out' (Refused refusal) leaves stopped before at fit =
      let left = leaves tt before at fit in
      record {
        after = left.after;
        is_at = left.is_at;
        moments = left.moments;
        allowed = told_now (f.disk old.folder) (λ d. Halts before (Refused refusal) left.after)
            (λ d. DoesRequest s.functions s.honest (languages_of old.engine.pool) before request (refusal_text refusal) left.after × MayHaveCalled s.functions s.honest (languages_of old.engine.pool) before request left.after)
            (λ d both. (both.0 refusal refl, both.1)) left.allowed;
      }
  does_halted out out' (Stopped NoMemory) leaves stopped before at fit =
      let left = leaves tt before at fit in
      record {
        after = left.after;
        is_at = left.is_at;
        moments = left.moments;
        allowed = told_now (f.disk old.folder) (λ d. Halts before (Stopped NoMemory) left.after) (λ d. MayHaveCalled s.functions s.honest (languages_of old.engine.pool) before request left.after) (λ d both. both.1) left.allowed;
      }
  does_halted out out' (Stopped DiskFault) leaves stopped before at fit = stopped DiskFault refl (λ is. cc) before at fit
  does_halted out out' (Stopped (Damaged name at_place)) leaves stopped before at fit = stopped (Damaged name at_place) refl (λ is. cc) before at fit
  does_halted out out' (Stopped (Full name length)) leaves stopped before at fit = stopped (Full name length) refl (λ is. cc) before at fit

  -- a view that is refused before any server is asked, so by none of the refusals that they tell
  -- query servers have no part in it
  abbrev NotMet : Refusal → Type 0
  NotMet (CompilationError id) = ⊥
  NotMet ServerFault = ⊥
  NotMet (ServerReply line) = ⊥
  NotMet other = Unit {0}

  own_unmet : (source : Option (List ℕ)) (fault : Option QueryFault) (language : List ℕ) (path : Option (List ℕ)) (refusal : Refusal) → first_of (no_view source ∷ option_map BadQuery fault ∷ no_path language path ∷ []) ≡ Some refusal → NotMet refusal
  own_unmet None fault language path refusal is = let same : MissingNamedView ≡ refusal = cc in subst NotMet same tt
  own_unmet (Some source) (Some fault) language path refusal is = let same : BadQuery fault ≡ refusal = cc in subst NotMet same tt
  own_unmet (Some source) None language None refusal is = let same : UnknownLanguage language ≡ refusal = cc in subst NotMet same tt
  own_unmet (Some source) None language (Some path) refusal is = absurd (let never : ⊥ = cc in never)

  dead_unmet : (state : State) (refusal : Refusal) → not_live state ≡ Some refusal → NotMet refusal
  dead_unmet unseen refusal is = let same : Missing ≡ refusal = cc in subst NotMet same tt
  dead_unmet (known rev true) refusal is = let same : Deleted ≡ refusal = cc in subst NotMet same tt
  dead_unmet (known rev false) refusal is = absurd (let never : ⊥ = cc in never)

  abbrev Says : Option Refusal → Type 0
  Says = IsSaidByDesign f old.engine.docs (languages_of old.engine.pool) old.folder name

  pub unmet : (refusal : Refusal) → IsViewRefusedBy old.engine.docs (design_id name.design) refusal → (IsLiveIn old.engine.docs (design_id name.design) → Says (Some refusal)) → NotMet refusal
  unmet refusal (inl dead) own = dead_unmet _ refusal dead
  unmet refusal (inr live) own = let said = own live.0 in own_unmet (source_of name.view said.document) (query_fault (target_for (views_of said.document) name) (parameters_of name)) (language_of said.document) (path_in (languages_of old.engine.pool) (language_of said.document)) refusal said.says

  pub leaves_unasked : IsUnasked f s old new → (refusal : Refusal) → (IsLiveIn old.engine.docs (design_id name.design) → Says (Some refusal)) → NotMet refusal → FitsView f s old new name (Some refusal)
  leaves_unasked same (CompilationError id) own unmet = absurd unmet
  leaves_unasked same ServerFault own unmet = absurd unmet
  leaves_unasked same (ServerReply line) own unmet = absurd unmet
  leaves_unasked same other own unmet = (same, own)

  -- or by what they answer
  pub leaves_pool : Says None → (id : List ℕ) (fault : PoolFault) (refusal : Refusal) → met_by_pool id fault ≡ Refused refusal → FitsView f s old new name (Some refusal)
  leaves_pool taken id pool.ServerFault refusal is = let same : ServerFault ≡ refusal = cc in subst (λ (r : Refusal). FitsView f s old new name (Some r)) same taken
  leaves_pool taken id (pool.BadReply line) refusal is = let same : ServerReply line ≡ refusal = cc in subst (λ (r : Refusal). FitsView f s old new name (Some r)) same taken
  leaves_pool taken id pool.Compile refusal is = let same : CompilationError id ≡ refusal = cc in subst (λ (r : Refusal). FitsView f s old new name (Some r)) same taken
  leaves_pool taken id pool.NoMemory refusal is = absurd (let never : ⊥ = cc in never)
  leaves_pool taken id pool.UnknownLanguage refusal is = absurd (let never : ⊥ = cc in never)

  pub leaves_asked : Says None → (id : List ℕ) (fault : UpdateFault) (refusal : Refusal) → met_by id fault ≡ Refused refusal → FitsView f s old new name (Some refusal)
  leaves_asked taken id (update.Pool fault) refusal is = leaves_pool taken id fault refusal is
  leaves_asked taken id (update.Docs fault) refusal is = absurd (file_of_none fault refusal is)
  leaves_asked taken id (update.Index (index.Store fault)) refusal is = absurd (file_of_none fault refusal is)
  leaves_asked taken id (update.Index other) refusal is = absurd (let never : ⊥ = cc in never)
  leaves_asked taken id update.NoMemory refusal is = absurd (let never : ⊥ = cc in never)

  fits_always : (result : Result (Unit {0}) Halt) → OnOk result (FitsFor old.engine.docs request)
  fits_always (Ok done) = tt
  fits_always (Err halt) = tt

  -- where a file of the index is full
  abbrev pub FillsIndex : Result (Unit {0}) Halt → Type 0
  FillsIndex result = (before : Moment) → StandsAt f s old before → IsFit before → (file : FileName) (limit : Option ℕ) → result ≡ Err (Stopped (Full file limit))
      → IfTold (f.disk new.folder) (λ d. IsIndexFull s.functions s.honest (languages_of old.engine.pool) old.engine.cache new.engine.cache d.now before.world name file limit)

  -- a view is performed as these parts say
  pub viewed : {out out' : List ℕ} {result : Result (Unit {0}) Halt} → ((before : Moment) → StandsAt f s old before → IsFit before → DoesBy f s old new before request out out' result) → OnOk result (AppendsReplyTo request out out') → OnErr result (out' ≡ out)
      → (result ≡ Err (Refused ServerFault) → RoseBy 2 (s.faults old.servers) (s.faults new.servers)) → FollowsDocuments f old.engine.docs new.engine.docs old.folder new.folder out out' (view_request name) result
      → OnOk result (FitsView f s old new name None) → ((refusal : Refusal) → result ≡ Err (Refused refusal) → FitsView f s old new name (Some refusal)) → Tells (f.disk old.folder) (f.disk new.folder) (MovesIndexOf old.engine name)
      → (MayGoOn result → LiesOpen f new.engine new.folder) → FillsIndex result → IfErr result (IfStopped (IsReasonOf f old.engine new.engine old.folder new.folder request)) → Stays f s old new → Performed f s old new request out out' result
  viewed {result = result} does prints silent blames follows designed unasked moved is_open filled why stays = record {
    does = does;
    prints = prints;
    silent = silent;
    refused = refused_not result;
    blames = blames;
    follows = follows;
    designed = designed;
    unasked = unasked;
    leaves = record { servers = λ other. absurd (other tt); pool = λ other. absurd (other tt); cache = λ other. absurd (other tt); groups = λ other. absurd (other tt); wanting = λ wants other. absurd (other tt); all = tt };
    fits = fits_always result;
    disk = record { documents = λ no. absurd (no tt); indexes = moved; is_open = is_open };
    cleared = tt;
    filled = λ before at fit file limit is view. filled before at fit file limit is;
    why = why;
    stays = stays;
  }
    where
      refused_not : (result : Result (Unit {0}) Halt) → IfErr request (λ refusal. (result ≡ Err (Refused refusal)) ⊎ (result ≡ Err (Stopped NoMemory)))
      refused_not result = tt
