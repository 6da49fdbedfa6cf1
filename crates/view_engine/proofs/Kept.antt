-- A view whose index is read as it stands: it is opened where it isn't open, and nothing else is done.
use Rattle.std.specs.Prelude.{◌≡◌, ◌<◌, ◌≤◌, ℕ, List, [], Bool, true, false, length, None, Some, Result, Ok, Err, slice_get, slice_index_or}
use Rattle.std.specs.List.{AllByRecursion}
use Rattle.std.proofs.Common.{refl, sym, ap, ◌∙◌, subst, inl, inr, ⊎_elim, arith}
use Rattle.json_terms.specs.Json.{Json}
use Rattle.json_terms.specs.declared.term.Row.{Row}
use Rattle.design_docs.specs.declared.design.Design.{Design}
use Rattle.design_docs.specs.declared.design.View.{View as DesignView}
use Rattle.design_docs.specs.Design.{views_of, IsDesignOf}
use Rattle.query_args.specs.declared.query.Query.{Query}
use Rattle.view_ports.specs.Disk.{Disk, Framed, IfTold, LeavesOnly, Moves, MovesNone, Tells}
use Rattle.view_ports.specs.File.{File}
use Rattle.view_ports.specs.Lines.{ended}
use Rattle.view_ports.specs.declared.file_name.FileName.{FileName}
use Rattle.view_ports.specs.declared.file_name.Stem.TheVariants.{Docs as DocsStem, View}
use Rattle.view_ports.specs.declared.folder.Folder.{Ghosts as Folders}
use Rattle.view_ports.specs.declared.servers.Servers.{Ghosts as Servers}
use Rattle.view_ports.proofs.DiskRuns.{moves_wider}
use Rattle.view_ports.proofs.Moments.{joined, weaker}
use Rattle.view_ports.proofs.Told.{told_after, told_all, told_back, told_given, told_map, told_now, told_pair, told_then}
use Rattle.gate_file.specs.declared.fault.GateFault.TheVariants as gate
use Rattle.child_pool.specs.declared.pool.Pool.{Pool}
use Rattle.child_pool.specs.Languages.{path_in}
use Rattle.child_pool.specs.Pools.{languages_of, HasItsChildren}
use Rattle.doc_file.specs.declared.docs.Docs.{Docs}
use Rattle.doc_file.specs.Docs.{seq_of as update_seq, IsAt as AreAt}
use Rattle.design_docs.specs.History.{Write}
use Rattle.design_docs.specs.declared.design.Reduce.{Reduce}
use Rattle.child_pool.specs.declared.pool_fault.PoolFault.{PoolFault}
use Rattle.child_pool.specs.Honesty.{SomeReduceFails}
use Rattle.child_pool.specs.Jobs.{reduce_job}
use Rattle.child_pool.specs.Outcomes.{IsCaused}
use Rattle.child_pool.specs.PoolCalls.{StaysAsMade}
use Rattle.child_pool.specs.ReduceTalk.{reduce_in}
use Rattle.view_ports.specs.Calls.{Call}
use Rattle.view_model.specs.Picture.{Picture, IsTrueOf}
use Rattle.view_model.specs.Rows.{rows_of, some_reduce_fails, view_rows}
use Rattle.view_model.specs.Since.{first}
use Rattle.node_file.specs.declared.cache.NodeCache.{NodeCache}
use Rattle.tree_index.specs.declared.fault.IndexFault.{IndexFault}
use Rattle.tree_index.specs.declared.fault.IndexFault.TheVariants as index
use Rattle.tree_index.specs.declared.index.Index.{Index}
use Rattle.tree_index.specs.Held.{or_empty, IsDamagedAt, IsFileOf}
use Rattle.tree_index.specs.Opens.{IsOpenFault}
use Rattle.tree_index.specs.Index.{picture_of}
use Rattle.tree_index.specs.RowsRead.{HasParts, ReadsRows}
use Rattle.tree_updater.specs.Faults.{by_index}
use Rattle.tree_groups.specs.declared.groups.Groups.{Groups}
use Rattle.tree_groups.specs.Groups.{open_of, AreAt as AreIndexesAt, AreOpen as AreIndexesOpen, IsGroup}
use Rattle.tree_groups.specs.Openings.{EndsOpen, IsFit, OpensGroup}
use Rattle.tree_groups.specs.Pictures.{IsAtOf, Kinds, Pictures, StandsOf}
use Rattle.tree_groups.specs.Reached.{picture_for, sig_of, views_in, IsReached}
use Rattle.tree_groups.proofs.Opening.{damaged_of}
use Rattle.view_engine.specs.declared.engine.Engine.{Engine}
use Rattle.view_engine.specs.declared.halt.Halt.{Halt}
use Rattle.view_engine.specs.declared.halt.Halt.TheVariants.{Refused, Stopped}
use Rattle.view_engine.specs.declared.halt.StepFault.TheVariants.{DiskFault, Damaged, Full, NoMemory}
use Rattle.view_engine.specs.declared.halt.StepFault.{StepFault}
use Rattle.view_engine.specs.Answering.{lent, Answers, AnswersRows, AppendsAnswer, EndsReading, HasAll, HasMet, ShowsView}
use Rattle.view_engine.specs.Engine.{HasChild}
use Rattle.view_engine.specs.Refusals.{refusal_text}
use Rattle.view_engine.specs.Calls.{scene, AppendsText, CrashesAround, LeavesChild, LeavesMoment, Performed, Scene, StandsAt, Stays}
use Rattle.view_engine.specs.Disks.{IsAskedFor, IsReasonOf, LiesOpen, MeetsIndexDamage, MovesIndexOf}
use Rattle.view_engine.specs.Signatures.{kinds_of}
use Rattle.view_engine.specs.declared.refusal.Refusal.{Refusal}
use Rattle.view_engine.specs.declared.refusal.Refusal.TheVariants.{ServerFault}
use Rattle.view_engine.specs.InMemory.{IsLiveIn, IsSaidByDesign}
use Rattle.view_engine.specs.Moments.{CalledReducing, Moment}
use Rattle.view_engine.specs.Reducing.{Reduced, ReducedSomehow}
use Rattle.view_engine.specs.Steps.{AskedBy, DoesRequest, DoesRequestText, MayHaveCalled}
use Rattle.view_engine.specs.Updating.{picture_in, AreFit, IsSound}
use Rattle.view_engine.specs.View.{design_id, or_no_rows, own_reduces, rows_in, IsAnswered, IsAnswerOf, IsNever, IsRefusedReducing, PrintsRows}
use Rattle.view_engine.specs.ViewPlan.{met_by, met_by_pool, source_at, IsPlan}
use Rattle.query_args.specs.Query.{is_updated}
use Rattle.view_engine.specs.ViewQuery.{ViewQuery, asked_sources, parameters_of, query_for, reduce_named, view_request}
use Rattle.view_engine.specs.World.{forgetting, World}
use Rattle.view_engine.specs.Worlds.{IsAtWorld, IsOpen, StandsAround, StandsEither, KnowsPaths}
use Rattle.view_engine.proofs.Apart.{documents_beside, old_stands}
use Rattle.view_engine.proofs.Between.{stands_first, stands_same}
use Rattle.view_engine.proofs.Bringing.{by_path, has_signature, of_own_functions, of_own_views, within_there, IsReady}
use Rattle.view_engine.proofs.Known.{still_known}
use Rattle.view_engine.proofs.Ending.{open_still, refused_first}
use Rattle.view_engine.proofs.Following.{follows_asked, follows_unasked, follows_view, met_of_view, pool_of_view}
use Rattle.view_engine.proofs.Unasked.{unasked}
use Rattle.view_engine.proofs.Performing.{none_called}
use Rattle.view_engine.proofs.OpenAt.{each_view, group_at, rows_of_picture}
use Rattle.view_engine.proofs.ReadRows.{read_never, read_unfilled, read_why}
use Rattle.view_engine.proofs.Reasons.{index_moves, index_open, meets_there, moves_read, never_there, open_mid}
use Rattle.view_engine.proofs.Signatures.{opened_beside}
use Rattle.view_engine.proofs.Reduced.{all_had, complains_of_reduce, memory_alone, met_there, never_refused, refused_reducing, somehow_had, somehow_met, stops_for_memory}
use Rattle.view_engine.proofs.ServerFaults.{pool_server_fault}
use Rattle.view_engine.proofs.Updated.{fails_of_own, rows_at_place, spoiled_by_reduce, true_before}
use Rattle.view_engine.proofs.Viewed.{planned_picture}
use Rattle.view_engine.proofs.Viewing.{does_halted, leaves_pool, viewed, Halts, LeavesStopped}
use Rattle.view_engine.proofs.Whole.{leaves_none, world_none}

abbrev pub unopened : IndexFault → Result ℕ IndexFault
unopened fault = Err fault

module _ {F C : Type 0} (f : Folders F) (s : Servers C) (docs : Docs) (pool : Pool) (groups groups' : Groups) (cache : NodeCache) (old mid new : F) (servers : C) (name : ViewQuery) (out : List ℕ) (id : List ℕ) (design : Design) (place : ℕ) (path : List ℕ)
    (within : place < length design.views) (path_is : path_in (languages_of pool) design.language ≡ Some path) (keeps : is_updated (parameters_of name) ≡ false)
    (read : Tells (f.disk old) (f.disk mid) MovesNone) (earlier : f.faults old ≤ f.faults mid)
    (plans : (history : List Write) → IfTold (f.disk old) (λ d. AreAt docs d.now history → IsPlan false (languages_of pool) history name id design place path))
    (is_open : LiesOpen f (record { docs = docs; pool = pool; groups = groups; cache = cache }) old) (asked : IfTold (f.disk old) (λ d. (document : Json) × IsAskedFor docs d.now name document × IsDesignOf document design))
    (named : id ≡ design_id name.design) (live : IsLiveIn docs (design_id name.design)) (taken : IsSaidByDesign f docs (languages_of pool) old name None) where
  abbrev engine : Engine
  engine = record { docs = docs; pool = pool; groups = groups; cache = cache }

  abbrev engine' : Engine
  engine' = record { docs = docs; pool = pool; groups = groups'; cache = cache }

  abbrev now : Scene F C
  now = scene engine old servers

  abbrev later : Scene F C
  later = scene engine' new servers

  abbrev own : List ℕ
  own = sig_of design

  abbrev Opens : Result ℕ IndexFault → Type 0
  Opens result = OpensGroup own (views_in design) (update_seq docs) f groups groups' mid new result

  -- the picture of the design reaches no write that isn't there, and its signature is of so many views
  fit_there : (world : World) (files : FileName → File) → IsReached s servers pool docs (kinds_of world) groups design world.history world.pictures files
      → AreIndexesAt (kinds_of world) groups files world.pictures × IsFit own (views_in design) (update_seq docs) (kinds_of world) world.pictures
  fit_there world files is =
      let count = is.documents.count in
      (is.indexes, record { within = omega (arith, is.within, count); number = ap (λ (views : List DesignView). length views) is.own })

  -- what is known once the index was opened, over a moment at which the engine was
  module _ (result : Result ℕ IndexFault) (opens : Opens result) (before : Moment) (at : StandsAt f s now before) (fit : IfTold (f.disk old) (λ d. AreFit before.world.history)) where
    abbrev world : World
    world = before.world

    abbrev kinds : Kinds
    kinds = kinds_of world

    abbrev IsOpened : Disk FileName → Disk FileName → Type 0
    IsOpened = Moves (IsFileOf (View own)) (λ image. StandsOf kinds own image (world.pictures own)) (EndsOpen own (views_in design) (update_seq docs) kinds groups' world.pictures result)

    abbrev Ready : Disk FileName → Type 0
    Ready = IsReady s.functions s.honest false engine world name id design place path

    pub at_mid : IfTold (f.disk mid) (λ d. IsAtWorld engine d.now world)
    at_mid = world_none engine engine (f.disk old) (f.disk mid) refl refl read world at.documents

    planned_there : IfTold (f.disk old) (λ d. IsPlan false (languages_of pool) world.history name id design place path)
    planned_there = told_pair (f.disk old) (λ d. IsAtWorld engine d.now world) (λ d. AreAt docs d.now world.history → IsPlan false (languages_of pool) world.history name id design place path) _ (λ d here is. is here.documents) at.documents (plans world.history)

    pub ready_mid : IfTold (f.disk mid) Ready
    ready_mid =
        told_pair (f.disk mid) (λ d. IsAtWorld engine d.now world × KnowsPaths s.functions s.honest (languages_of pool) world) (λ d. IsPlan false (languages_of pool) world.history name id design place path × AreFit world.history) _
        (λ d here both. record { here = here.0; plan = both.0; fit = both.1; knows = here.1 })
        (told_pair (f.disk mid) (λ d. IsAtWorld engine d.now world) (λ d. KnowsPaths s.functions s.honest (languages_of pool) world) _ (λ d here knows. (here, knows)) at_mid
        (still_known s.functions s.honest (f.disk old) (f.disk mid) MovesNone (languages_of pool) (languages_of pool) world read refl at.known))
        (told_after (f.disk old) (f.disk mid) (λ d. IsPlan false (languages_of pool) world.history name id design place path × AreFit world.history) _ MovesNone (λ a b both none. both)
        (told_pair (f.disk old) (λ d. IsPlan false (languages_of pool) world.history name id design place path) (λ d. AreFit world.history) _ (λ d plan is. (plan, is)) planned_there fit) read)

    reached : (d : Disk FileName) → Ready d → IsReached s servers pool docs kinds groups design world.history world.pictures d.now
    reached d is = record {
      documents = is.here.documents;
      indexes = is.here.indexes;
      within = within_there engine d.now world design is.here;
      own = of_own_views (languages_of pool) world name id design place path is.plan is.fit;
      by = by_path s servers pool design world before.calls at.child.follows at.child.child is.knows path path_is (kinds (sig_of design)).functions (of_own_functions (languages_of pool) world name id design place path is.plan is.fit);
    }

    pub opened : Tells (f.disk mid) (f.disk new) IsOpened
    opened = opens.stands kinds world.pictures (told_now (f.disk mid) Ready _ (λ d is. fit_there world d.now (reached d is)) ready_mid)

    -- each image still stands for the world
    pub crashes : Tells (f.disk old) (f.disk new) (LeavesOnly (StandsEither world world))
    crashes =
        told_then (f.disk old) (f.disk mid) (f.disk new) (LeavesOnly (StandsEither world world)) (LeavesOnly (StandsEither world world)) (LeavesOnly (StandsEither world world)) (λ a b c first second. joined (StandsEither world world) a b c first second)
        (told_given (f.disk old) (f.disk mid) (λ d. IsAtWorld engine d.now world) MovesNone (LeavesOnly (StandsEither world world)) (λ a b here none. leaves_none engine world a b none here) at.documents read)
        (told_given (f.disk mid) (f.disk new) (λ d. IsAtWorld engine d.now world) IsOpened (LeavesOnly (StandsEither world world))
        (λ a b here moves. weaker (Framed (IsFileOf (View own)) a.now (λ image. StandsOf kinds own image (world.pictures own))) (StandsEither world world) a b
        (λ image framed. stands_first world world image (old_stands engine design a.now world here _ image framed framed.inside)) moves.moments) at_mid opened)

    -- and where the indexes are at their pictures, the engine is at the world
    pub at_new : ((d : Disk FileName) → EndsOpen own (views_in design) (update_seq docs) kinds groups' world.pictures result d.now → AreIndexesAt kinds groups' d.now world.pictures) → IfTold (f.disk new) (λ d. IsAtWorld engine' d.now world)
    at_new ends = told_after (f.disk mid) (f.disk new) Ready (λ d. IsAtWorld engine' d.now world) IsOpened
        (λ a b is moves. record {
          documents = documents_beside docs a.now b.now (λ n of_docs. moves.others n (λ of_view. let clash : DocsStem ≡ View own = sym of_docs ∙ of_view in let no : ⊥ = cc in no)) world.history is.here.documents;
          indexes = ends b moves.ended;
          within = is.here.within;
          owned = is.here.owned;
          opened = opened_beside world.history own groups groups' (has_signature (languages_of pool) world name id design place path is.plan) opens.only is.here.opened;
        }) ready_mid opened

    known_there : IfTold (f.disk new) (λ d. KnowsPaths s.functions s.honest (languages_of pool) world)
    known_there = still_known s.functions s.honest (f.disk old) (f.disk new) (LeavesOnly (StandsEither world world)) (languages_of pool) (languages_of pool) world crashes refl at.known

    left_before : (Allows : Moment → Type 0) → ((d : Disk FileName) → EndsOpen own (views_in design) (update_seq docs) kinds groups' world.pictures result d.now → AreIndexesAt kinds groups' d.now world.pictures) → IfTold (f.disk old) (λ d. Allows before)
        → LeavesMoment f s now later before Allows
    left_before Allows ends allowed = record { after = before; is_at = record { documents = at_new ends; child = at.child; known = known_there }; moments = crashes; allowed = allowed }

  -- only files of the index changed
  opening_moved : {result : Result ℕ IndexFault} → Opens result → Tells (f.disk mid) (f.disk new) (Moves (IsFileOf (View own)) (λ image. Unit {0}) (λ files. Unit {0}))
  opening_moved opens = told_map (f.disk mid) (f.disk new) _ _ (λ a b moved. moves_wider (IsFileOf (View own)) (IsFileOf (View own)) _ (λ image. Unit {0}) (λ files. Unit {0}) (λ files. Unit {0}) a b (λ n is. is) (λ image framed. tt) (λ others ended. tt) moved) opens.files

  moves_of : {result : Result ℕ IndexFault} → Opens result → Tells (f.disk old) (f.disk new) (MovesIndexOf engine name)
  moves_of opens = index_moves f s docs pool pool groups groups' cache cache 0 old mid new servers servers name id design place path false keeps read earlier plans is_open asked (opening_moved opens) (λ idle. (opens.found idle.0 idle.1 idle.2).2)

  -- the indexes that are open are as the folder has them
  groups_are : {result : Result ℕ IndexFault} → Opens result → IfTold (f.disk new) (λ d. AreIndexesOpen groups' d.now)
  groups_are opens = opens.is_open (open_mid f s docs pool pool groups groups' cache cache 0 old mid new servers servers name id design place path false keeps read earlier plans is_open asked)

  opened_open : {result : Result ℕ IndexFault} → Opens result → LiesOpen f engine' new
  opened_open opens = index_open f s docs pool pool groups groups' cache cache 0 old mid new servers servers name id design place path false keeps read earlier plans is_open asked (opening_moved opens) (groups_are opens)

  -- ---- it could not be opened
  module _ (fault : IndexFault) (opens : Opens (Err fault)) where
    stays : Stays f s now later
    stays = record { languages = refl; width = refl; disk_faults = (let late = opens.cause.later in omega (arith, earlier, late)); server_faults = omega arith }

    stopped : (step : StepFault) → LeavesStopped f s now later name (Stopped step)
    stopped step found is differs before at fit = (
      told_map (f.disk old) (f.disk new) _ _
          (λ a b leaves. weaker (StandsEither before.world before.world) (StandsAround s.functions s.honest (languages_of pool) before.world (Ok (view_request name))) a b (λ image stands. inl (stands_same before.world image stands)) leaves)
          (crashes (Err fault) opens before at fit),
      record {
        after = before;
        child = at.child;
        allowed = told_all (f.disk old) (λ d. MayHaveCalled s.functions s.honest (languages_of pool) before (Ok (view_request name)) before) (λ d. none_called s.functions s.honest (languages_of pool) before (Ok (view_request name)));
      },
    )

  failed : Opens (Err (index.Store gate.DiskFault)) → Performed f s now later (Ok (view_request name)) out out (Err (Stopped DiskFault))
  failed opens =
      viewed f s now later name
      (does_halted f s now later name out out (Stopped DiskFault) (λ goes. absurd goes) (stopped (index.Store gate.DiskFault) opens DiskFault))
      tt refl (λ is. absurd (let clash : ⊥ = cc in clash)) (follows_unasked f docs old new name out out (Stopped DiskFault) (λ r is. absurd (let clash : ⊥ = cc in clash)) (λ fault is other. live)) tt (λ r is. absurd (let clash : ⊥ = cc in clash)) (moves_of opens) (λ goes. opened_open opens) (λ before at fit file limit is. absurd (let clash : ⊥ = cc in clash))
      (inl (let rises = opens.cause.failed refl in omega (arith, earlier, rises), tt))
      (stays (index.Store gate.DiskFault) opens)

  module _ (n : FileName) (k : ℕ) (opens : Opens (Err (index.Store (gate.Damaged n k)))) where
    abbrev IsBad : Disk FileName → Disk FileName → Type 0
    IsBad a b = IsDamagedAt (View own) (views_in design) a.now n k

    damage_met : Tells (f.disk old) (f.disk new) (λ a b. MeetsIndexDamage docs groups' a.now b.now (Ok (view_request name)) n k)
    damage_met = meets_there f s docs pool pool groups groups' cache cache 0 old mid new servers servers name id design place path false keeps read earlier plans is_open asked n k IsBad
        (λ a b bad. (damaged_of (View own) (views_in design) a.now n k bad, inl bad))
        (told_given (f.disk mid) (f.disk new) (λ d. IsDamagedAt (View own) (views_in design) d.now n k) _ IsBad (λ a b bad moved. bad)
        (told_now (f.disk mid) _ _ (λ d spoiled. spoiled n k refl) opens.damaged) (opening_moved opens))

    damage_never : (world : World) → IfTold (f.disk old) (λ d. IsAtWorld engine d.now world → AreFit world.history → ⊥)
    damage_never world = never_there f s docs pool pool groups groups' cache cache 0 old mid new servers servers name id design place path false keeps read earlier plans is_open asked n k world
        (told_now (f.disk mid) _ _ (λ d finds is. finds (fit_there (forgetting world) d.now is) n k refl) (opens.sound (kinds_of (forgetting world)) world.pictures))

    damaged : Performed f s now later (Ok (view_request name)) out out (Err (Stopped (Damaged n k)))
    damaged =
        viewed f s now later name
        (does_halted f s now later name out out (Stopped (Damaged n k)) (λ goes. absurd goes) (stopped (index.Store (gate.Damaged n k)) opens (Damaged n k)))
        tt refl (λ is. absurd (let clash : ⊥ = cc in clash)) (follows_unasked f docs old new name out out (Stopped (Damaged n k)) (λ r is. absurd (let clash : ⊥ = cc in clash)) (λ fault is other. live)) tt (λ r is. absurd (let clash : ⊥ = cc in clash)) (moves_of opens) (λ goes. opened_open opens) (λ before at fit file limit is. absurd (let clash : ⊥ = cc in clash))
        (inr (tt, damage_met, damage_never))
        (stays (index.Store (gate.Damaged n k)) opens)

  wanting : Opens (Err index.NoMemory) → Performed f s now later (Ok (view_request name)) out out (Err (Stopped NoMemory))
  wanting opens =
      viewed f s now later name
      (does_halted f s now later name out out (Stopped NoMemory)
      (λ goes before at fit. left_before (Err index.NoMemory) opens before at fit (Halts f s now later name before (Stopped NoMemory)) (λ d ends. ends)
      (told_all (f.disk old) _ (λ d. (λ r same. absurd (let clash : ⊥ = cc in clash), none_called s.functions s.honest (languages_of pool) before (Ok (view_request name))))))
      (λ step is other. absurd (other (let same : step ≡ NoMemory = cc in same))))
      tt refl (λ is. absurd (let clash : ⊥ = cc in clash)) (follows_unasked f docs old new name out out (Stopped NoMemory) (λ r is. absurd (let clash : ⊥ = cc in clash)) (λ fault is other. live)) tt (λ r is. absurd (let clash : ⊥ = cc in clash)) (moves_of opens) (λ goes. opened_open opens) (λ before at fit file limit is. absurd (let clash : ⊥ = cc in clash))
      (inl tt)
      (stays index.NoMemory opens)

  pub kept_refused : (fault : IndexFault) → IsOpenFault fault → Opens (Err fault) → Performed f s now later (Ok (view_request name)) out out (Err (met_by id (by_index fault)))
  kept_refused fault (inl disk) opens =
      subst (λ (e : IndexFault). Performed f s now later (Ok (view_request name)) out out (Err (met_by id (by_index e)))) (sym disk) (failed (subst (λ (e : IndexFault). Opens (Err e)) disk opens))
  kept_refused fault (inr (inl want)) opens =
      subst (λ (e : IndexFault). Performed f s now later (Ok (view_request name)) out out (Err (met_by id (by_index e)))) (sym want) (wanting (subst (λ (e : IndexFault). Opens (Err e)) want opens))
  kept_refused fault (inr (inr damage)) opens =
      subst (λ (e : IndexFault). Performed f s now later (Ok (view_request name)) out out (Err (met_by id (by_index e)))) (sym damage.2) (damaged damage.0 damage.1 (subst (λ (e : IndexFault). Opens (Err e)) damage.2 opens))

  -- no memory was found for its signature
  pub kept_idle : (fault : IndexFault) → unopened fault ≡ unopened index.NoMemory → groups' ≡ groups → new ≡ mid → Performed f s now later (Ok (view_request name)) out out (Err (met_by id (by_index fault)))
  kept_idle fault want same_groups same_folder =
      let is : fault ≡ index.NoMemory = cc in
      let at_once : Performed f s now (scene engine mid servers) (Ok (view_request name)) out out (Err (Stopped NoMemory)) =
      refused_first f s docs pool groups cache old mid servers name out {T = Unit {0}} (Stopped NoMemory) is_open (λ is. let clash : ⊥ = cc in clash) (λ r is. absurd (let clash : ⊥ = cc in clash)) (λ step is other. live) (λ r is. absurd (let clash : ⊥ = cc in clash)) (record { disk = read; why = tt; later = earlier })
      (λ before at. unasked s.functions s.honest (languages_of pool) before name (Stopped NoMemory) (f.disk old) (f.disk mid) (s.may_follow servers) (s.faults servers) engine at read
      (told_all (f.disk old) _ (λ d r met. let clash : ⊥ = cc in absurd clash))) in
      subst (λ (e : IndexFault). Performed f s now later (Ok (view_request name)) out out (Err (met_by id (by_index e)))) (sym is)
      (subst (λ (g : Groups). Performed f s now (scene (record { docs = docs; pool = pool; groups = g; cache = cache }) new servers) (Ok (view_request name)) out out (Err (Stopped NoMemory))) (sym same_groups)
      (subst (λ (n : F). Performed f s now (scene engine n servers) (Ok (view_request name)) out out (Err (Stopped NoMemory))) (sym same_folder) at_once))

  -- ---- it is open, its rows are read, and the view is answered from them, through the pool and the servers then
  module _ (slot : ℕ) (opens : Opens (Ok slot)) (found : Index) (there : slice_get (open_of groups') slot ≡ Some found) (query : Query) (query_is : query ≡ query_for design.views name) (last_folder : F) (pool'' : Pool) (cache'' : NodeCache) (servers'' : C) where
    abbrev engine'' : Engine
    engine'' = record { docs = docs; pool = pool''; groups = groups'; cache = cache'' }

    abbrev last : Scene F C
    last = scene engine'' last_folder servers''

    group : IsGroup groups' slot own (views_in design) found
    group = subst (IsGroup groups' slot own (views_in design)) (let same : Some opens.place.0 ≡ Some found = sym opens.place.1.there ∙ there in cc) opens.place.1

    counted : f.faults old ≤ f.faults new
    counted = let late = opens.cause.later in omega (arith, earlier, late)

    abbrev Rows : ℕ → Result (List Row) IndexFault → Type 0
    Rows steps result = ReadsRows f found place new last_folder cache cache'' 0 steps result

    -- files and faults, as far as nothing was asked
    module _ (still : Tells (f.disk new) (f.disk last_folder) MovesNone) (more : f.faults new ≤ f.faults last_folder) where
      moves : Tells (f.disk old) (f.disk last_folder) (MovesIndexOf engine name)
      moves = told_then (f.disk old) (f.disk new) (f.disk last_folder) (MovesIndexOf engine name) MovesNone (MovesIndexOf engine name) (λ a b c one none. moves_read engine name a b c one none) (moves_of opens) still

      kept_open : LiesOpen f engine'' last_folder
      kept_open = told_now (f.disk last_folder) (λ d. IsOpen engine' d.now) (λ d. IsOpen engine'' d.now) (λ d one. record { documents = one.documents; indexes = one.indexes }) (open_still engine' (f.disk new) (f.disk last_folder) still (opened_open opens))

      kept_stays : StaysAsMade pool pool'' → s.faults servers ≤ s.faults servers'' → Stays f s now last
      kept_stays made later_still = record { languages = made.languages; width = made.width; disk_faults = omega (arith, counted, more); server_faults = later_still }

    module _ (still : Tells (f.disk new) (f.disk last_folder) MovesNone) (before : Moment) (at : StandsAt f s now before) (fit : IfTold (f.disk old) (λ d. AreFit before.world.history)) where
      abbrev here_world : World
      here_world = before.world

      abbrev here_kinds : Kinds
      here_kinds = kinds_of here_world

      there_at : IfTold (f.disk new) (λ d. IsAtWorld engine' d.now here_world)
      there_at = at_new (Ok slot) opens before at fit (λ d ends. ends)

      -- what is told of the disk behind the opening was told before
      told_opened : (P : Type 0) → IfTold (f.disk new) (λ d. P) → IfTold (f.disk old) (λ d. P)
      told_opened P known = told_back (f.disk old) (f.disk mid) (λ d. P) (λ d. P) MovesNone (λ a b none is. is) read (told_back (f.disk mid) (f.disk new) (λ d. P) (λ d. P) (IsOpened (Ok slot) opens before at fit) (λ a b both is. is) (opened (Ok slot) opens before at fit) known)

      -- the index shows the picture of the design, which has rows for each view
      pub record IsShown : Type 0 where
        pub picture : picture_of found ≡ picture_for design here_world.pictures
        pub each : length (picture_of found).rows ≡ length design.views

      shown_at : (d : Disk FileName) → IsAtWorld engine' d.now here_world → (here_kinds own).views ≡ design.views → IsShown
      shown_at d here own_views =
          let is_at : IsAtOf here_kinds own found d.now (here_world.pictures own) = group_at here_kinds groups' d.now here_world.pictures slot own (views_in design) found group here.indexes in
          let number : length (here_kinds own).views ≡ views_in design = ap (λ (views : List DesignView). length views) own_views in
          record {
            picture = is_at.last ∙ ap (λ (n : ℕ). or_empty n (here_world.pictures own)) number;
            each = each_view (here_kinds own).functions (here_kinds own).views found d.now (here_world.pictures own) is_at ∙ number;
          }

      shows : IfTold (f.disk old) (λ d. IsShown)
      shows = told_opened IsShown (told_pair (f.disk new) (λ d. IsAtWorld engine' d.now here_world) (λ d. (here_kinds own).views ≡ design.views) _ shown_at there_at
          (told_after (f.disk mid) (f.disk new) (IsReady s.functions s.honest false engine here_world name id design place path) _ (IsOpened (Ok slot) opens before at fit)
          (λ a b is moves. of_own_views (languages_of pool) here_world name id design place path is.plan is.fit) (ready_mid (Ok slot) opens before at fit) (opened (Ok slot) opens before at fit)))

      pub record IsPlanned (Known : Type 0) : Type 0 where
        pub plan : IsPlan false (languages_of pool) here_world.history name id design place path
        pub is : IsShown
        pub known : Known

      planned : (Known : Type 0) → IfTold (f.disk old) (λ d. Known) → IfTold (f.disk old) (λ d. IsPlanned Known)
      planned Known known = told_pair (f.disk old) (λ d. IsPlan false (languages_of pool) here_world.history name id design place path) (λ d. IsShown × Known) _ (λ d plan both. record { plan = plan; is = both.0; known = both.1 })
          (planned_there (Ok slot) opens before at fit) (told_pair (f.disk old) (λ d. IsShown) (λ d. Known) _ (λ d is more. (is, more)) shows known)

      -- each image still stands for the world
      crashes_last : Tells (f.disk old) (f.disk last_folder) (LeavesOnly (StandsEither here_world here_world))
      crashes_last =
          told_then (f.disk old) (f.disk new) (f.disk last_folder) (LeavesOnly (StandsEither here_world here_world)) (LeavesOnly (StandsEither here_world here_world)) (LeavesOnly (StandsEither here_world here_world))
          (λ a b c first second. joined (StandsEither here_world here_world) a b c first second) (crashes (Ok slot) opens before at fit)
          (told_given (f.disk new) (f.disk last_folder) (λ d. IsAtWorld engine' d.now here_world) MovesNone (LeavesOnly (StandsEither here_world here_world)) (λ a b here none. leaves_none engine' here_world a b none here) there_at still)

      -- the moment after these calls
      abbrev last_it : List Call → Moment
      last_it calls = record { world = here_world; width = before.width; started = pool''.started; reducer = pool''.reducer; calls = calls; faults = s.faults servers'' }

      left_it : languages_of pool'' ≡ languages_of pool → (calls : List Call) → HasChild (s.may_follow servers'') (s.faults servers'') pool'' (last_it calls) → (Allows : Moment → Type 0) → IfTold (f.disk old) (λ d. Allows (last_it calls)) → LeavesMoment f s now last before Allows
      left_it languages calls child Allows allowed = record {
        after = last_it calls;
        is_at = record {
          documents = world_none engine' engine'' (f.disk new) (f.disk last_folder) refl refl still here_world there_at;
          child = child;
          known = still_known s.functions s.honest (f.disk old) (f.disk last_folder) (LeavesOnly (StandsEither here_world here_world)) (languages_of pool) (languages_of pool'') here_world crashes_last languages at.known;
        };
        moments = crashes_last;
        allowed = allowed;
      }

      -- ---- the rows weren't read, and nothing was asked for them
      module _ (same_servers : servers'' ≡ servers) (same_pool : pool'' ≡ pool) where
        abbrev unread_it : Moment
        unread_it = last_it before.calls

        same_moment : unread_it ≡ before
        same_moment = λ i. record {
          world = here_world;
          width = before.width;
          started = (ap (λ (p : Pool). p.started) same_pool ∙ at.child.started) i;
          reducer = (ap (λ (p : Pool). p.reducer) same_pool ∙ at.child.reducer) i;
          calls = before.calls;
          faults = (ap s.faults same_servers ∙ at.child.counts) i;
        }

        unread_child : HasChild (s.may_follow servers'') (s.faults servers'') pool'' unread_it
        unread_child = record {
          width = ap (λ (p : Pool). p.width) same_pool ∙ at.child.width;
          started = refl;
          reducer = refl;
          child = subst (λ p. HasItsChildren p before.calls) (sym same_pool) at.child.child;
          follows = subst (λ c. s.may_follow c before.calls) (sym same_servers) at.child.follows;
          counts = refl;
        }

        unread_called : IfTold (f.disk old) (λ d. MayHaveCalled s.functions s.honest (languages_of pool) before (Ok (view_request name)) unread_it)
        unread_called = told_all (f.disk old) (λ d. MayHaveCalled s.functions s.honest (languages_of pool) before (Ok (view_request name)) unread_it) (λ d. inl same_moment)

        unread_leaves : (halt : Halt) → ((r : Refusal) → halt ≡ Refused r → ⊥) → LeavesMoment f s now last before (Halts f s now last name before halt)
        unread_leaves halt never = left_it (ap (λ (p : Pool). languages_of p) same_pool) before.calls unread_child (Halts f s now last name before halt) (told_now (f.disk old) _ _ (λ d called. (λ r is. absurd (never r is), called)) unread_called)

        unread_stopped : CrashesAround f s now last before (Ok (view_request name)) × LeavesChild f s now last (MayHaveCalled s.functions s.honest (languages_of pool) before (Ok (view_request name)))
        unread_stopped = (
          told_map (f.disk old) (f.disk last_folder) _ _
              (λ a b leaves. weaker (StandsEither here_world here_world) (StandsAround s.functions s.honest (languages_of pool) here_world (Ok (view_request name))) a b (λ image stands. inl (stands_same here_world image stands)) leaves) crashes_last,
          record { after = unread_it; child = unread_child; allowed = unread_called },
        )

      -- ---- the view is answered from its rows
      module _ (rows : List Row) where
        abbrev asked_for : List (List ℕ)
        asked_for = asked_sources query (reduce_in design.views place) rows

        -- the rows are those of the picture
        abbrev AreShown : Type 0
        AreShown = rows ≡ slice_index_or (picture_of found).rows place []

        module _ (known : IsPlanned AreShown) where
          abbrev plan : IsPlan false (languages_of pool) here_world.history name id design place path
          plan = known.plan

          abbrev document : Json
          document = plan.document

          same : picture_of found ≡ picture_in here_world document
          same = known.is.picture ∙ planned_picture (languages_of pool) here_world name id design place path plan

          abbrev Asked : List Write
          Asked = first (picture_in here_world document).seq here_world.history

          shown_is : rows_in (views_of document) (picture_in here_world document).rows name.view ≡ Some rows
          shown_is =
              ap (λ (p : Picture). rows_in (views_of document) p.rows name.view) (sym same)
              ∙ ap (λ (views : List DesignView). rows_in views (picture_of found).rows name.view) (sym plan.views)
              ∙ plan.shown (picture_of found).rows known.is.each
              ∙ ap (λ (rs : List Row). Some rs) (sym known.known)

          own_is : asked_for ≡ own_reduces name document here_world
          own_is =
              λ i. asked_sources ((query_is ∙ ap (λ (views : List DesignView). query_for views name) plan.views) i) ((plan.reduced ∙ ap (reduce_named name.view) plan.views) i) (ap or_no_rows (sym shown_is) i)

          -- the picture of an honest path is true, where the pictures stand
          was : s.honest path → IsSound s.functions s.honest (languages_of pool) here_world → AreFit here_world.history → IsTrueOf (s.functions path) (views_of document) here_world.history (picture_in here_world document)
          was is_honest sound fits = true_before s.functions s.honest (languages_of pool) here_world (design_id name.design) document path refl plan.live plan.path_is is_honest sound fits

          same_answer : (reply : List ℕ) → Answers (s.functions path) (s.honest path) (reduce_in design.views place) query (picture_of found).seq rows reply
              → IsAnswerOf (s.functions path) (s.honest path) (views_of document) name (picture_in here_world document).seq rows reply
          same_answer reply answers =
              subst (λ (views : List DesignView). IsAnswerOf (s.functions path) (s.honest path) views name (picture_in here_world document).seq rows reply) plan.views
              (subst (λ (r : Reduce). Answers (s.functions path) (s.honest path) r (query_for design.views name) (picture_in here_world document).seq rows reply) plan.reduced
              (subst (λ (q : Query). Answers (s.functions path) (s.honest path) (reduce_in design.views place) q (picture_in here_world document).seq rows reply) query_is
              (subst (λ (n : ℕ). Answers (s.functions path) (s.honest path) (reduce_in design.views place) query n rows reply) (ap (λ (p : Picture). p.seq) same) answers)))

          prints : AllByRecursion HasParts rows → (reply : List ℕ) → Answers (s.functions path) (s.honest path) (reduce_in design.views place) query (picture_of found).seq rows reply
              → PrintsRows s.functions s.honest (languages_of pool) name document path (source_at design.views place) here_world here_world reply
          prints parts reply answers = record {
            rows = rows;
            shown = shown_is;
            parts = parts;
            afresh = λ is_honest sound fits.
                known.known
                ∙ ap (λ (p : Picture). slice_index_or p.rows place []) same
                ∙ ap (λ (r : List (List Row)). slice_index_or r place []) (was is_honest sound fits).rows
                ∙ rows_at_place (s.functions path) (views_of document) Asked place (subst (λ (views : List DesignView). place < length views) plan.views within)
                ∙ ap (λ (views : List DesignView). view_rows (s.functions path) (source_at views place) Asked) (sym plan.views);
            prints = same_answer reply answers;
          }

          does : (calls : List Call) (reply : List ℕ) → IsAnswered s.functions s.honest (languages_of pool) name document path (source_at design.views place) here_world before (last_it calls) reply
              → DoesRequest s.functions s.honest (languages_of pool) before (Ok (view_request name)) reply (last_it calls)
          does calls reply answered = inl (inr (record {
            keeps = plan.updates;
            accepted = plan.accepted;
            design = document;
            path = path;
            source = source_at design.views place;
            live = plan.live;
            source_is = plan.source_is;
            path_is = plan.path_is;
            same = refl;
            answered = answered;
          }))

          asked_it : (calls : List Call) → ReducedSomehow path asked_for before (last_it calls) → MayHaveCalled s.functions s.honest (languages_of pool) before (Ok (view_request name)) (last_it calls)
          asked_it calls somehow = inr (
            plan.accepted,
            subst (λ (updating : Bool). AskedBy s.functions s.honest (languages_of pool) updating before name (last_it calls)) (sym plan.updates) (record {
              design = document;
              path = path;
              live = plan.live;
              path_is = plan.path_is;
              called = subst (λ (r : List (List ℕ)). ReducedSomehow path r before (last_it calls)) own_is somehow;
              same = refl;
            }),
          )

          -- a complaint of an honest path there is none over pictures that stand
          never_it : SomeReduceFails (s.functions path) asked_for → IsNever s.functions s.honest (languages_of pool) path here_world
          never_it fails = λ is_honest sound fits.
              let true_there = was is_honest sound fits in
              let own_fails = subst (λ (rs : List Row). SomeReduceFails (s.functions path) (asked_sources query (reduce_in design.views place) rs)) known.known fails in
              let fails_there : some_reduce_fails (s.functions path) (views_of document) (rows_of (s.functions path) (views_of document) Asked) ≡ true =
              subst (λ (r : List (List Row)). some_reduce_fails (s.functions path) (views_of document) r ≡ true) (ap (λ (p : Picture). p.rows) same ∙ true_there.rows)
              (subst (λ (views : List DesignView). some_reduce_fails (s.functions path) views (picture_of found).rows ≡ true) plan.views (fails_of_own (s.functions path) design.views (picture_of found).rows place query own_fails)) in
              let clash : true ≡ false = sym (spoiled_by_reduce (s.functions path) (views_of document) Asked fails_there) ∙ true_there.sound in
              let no : ⊥ = cc in
              no

        -- ---- how it ends
        module _ (shown : IfTold (f.disk new) (λ d. AreShown)) where
          all_known : IfTold (f.disk old) (λ d. IsPlanned AreShown)
          all_known = planned AreShown (told_opened AreShown shown)

          shown_leaves : AllByRecursion HasParts rows → (out' : List ℕ) → AppendsAnswer s servers servers'' pool pool'' design place query (picture_of found).seq rows out out' × HasAll s servers servers'' pool pool'' design place query (picture_of found).seq rows
              → AppendsText f s now last before (DoesRequestText s.functions s.honest (languages_of pool) before (Ok (view_request name))) out out'
          shown_leaves parts out' (answers, all) =
              let had = all_had s servers servers'' pool pool'' before at.child design.language path path_is asked_for all here_world in
              record {
                text = ended answers.reply;
                leaves = left_it all.keeps.languages had.now had.has_child (DoesRequestText s.functions s.honest (languages_of pool) before (Ok (view_request name)) (ended answers.reply))
                    (told_now (f.disk old) (λ d. IsPlanned AreShown) _ (λ d known. (
                      answers.reply,
                      does known had.now answers.reply (inl (
                        subst (λ (r : List (List ℕ)). Reduced path r before (last_it had.now)) (own_is known) had.holds,
                        prints known parts answers.reply (answers.is path before.calls at.child.follows path_is at.child.child),
                      )),
                      refl,
                    )) all_known);
                appended = answers.appended;
              }

          halted_leaves : (fault : PoolFault) → HasMet s servers servers'' pool pool'' design place query (picture_of found).seq rows fault → LeavesMoment f s now last before (Halts f s now last name before (met_by_pool id fault))
          halted_leaves fault (inl fails) =
              let met = met_there s servers servers'' pool pool'' before at.child design.language path path_is asked_for fault fails here_world in
              left_it fails.keeps.languages met.now met.has_child (Halts f s now last name before (met_by_pool id fault))
              (told_now (f.disk old) (λ d. IsPlanned AreShown) _ (λ d known. (
                λ r is. does known met.now (refusal_text r) (inr (
                    subst (λ (l : List (List ℕ)). CalledReducing path l before (last_it met.now) (IsRefusedReducing s.functions s.honest name path l (IsNever s.functions s.honest (languages_of pool) path here_world) before (last_it met.now) (refusal_text r))) (own_is known)
                    (refused_reducing s servers servers'' pool pool'' before at.child design.language path path_is asked_for name id known.plan.id_is here_world fault r is fails.twice (IsNever s.functions s.honest (languages_of pool) path here_world)
                    (λ complains is_honest sound fits.
                    never_it known
                    (complains_of_reduce s.functions s.honest path asked_for met.holds.added before.calls is_honest (subst (IsCaused s.functions s.honest (reduce_job path asked_for) met.holds.added before.calls) complains met.holds.holds.caused))
                    is_honest sound fits)
                    met.now met.holds))),
                asked_it known met.now (somehow_met s servers servers'' pool pool'' before at.child design.language path path_is asked_for fault (last_it met.now) met.holds),
              )) all_known)
          halted_leaves fault (inr (spent, all)) =
              let had = all_had s servers servers'' pool pool'' before at.child design.language path path_is asked_for all here_world in
              left_it all.keeps.languages had.now had.has_child (Halts f s now last name before (met_by_pool id fault))
              (told_now (f.disk old) (λ d. IsPlanned AreShown) _ (λ d known. (
                λ r is. absurd (never_refused id fault r spent is),
                asked_it known had.now (somehow_had path asked_for before (last_it had.now) had.holds),
              )) all_known)

    -- ---- the rows couldn't be read
    module _ (steps : ℕ) (fault : IndexFault) (reads : Rows steps (Err fault)) (same_servers : servers'' ≡ servers) (same_pool : pool'' ≡ pool) where
      at_some : (world : World) → IfTold (f.disk mid) (λ d. IsReached s servers pool docs (kinds_of world) groups design world.history world.pictures d.now)
          → Tells (f.disk mid) (f.disk new) (λ a b. (pictures : Pictures) × AreIndexesAt (kinds_of world) groups' b.now pictures)
      at_some world is = told_map (f.disk mid) (f.disk new) _ _ (λ a b moved. (world.pictures, moved.ended)) (opens.stands (kinds_of world) world.pictures (told_now (f.disk mid) _ _ (λ d there. fit_there world d.now there) is))

      unread_then : Performed f s now last (Ok (view_request name)) out out (Err (met_by id (by_index fault)))
      unread_then =
          viewed f s now last name
          (does_halted f s now last name out out (met_by id (by_index fault))
          (λ goes before at fit. unread_leaves reads.disk before at fit same_servers same_pool (met_by id (by_index fault)) (read_never found id fault reads.faults))
          (λ step is other before at fit. unread_stopped reads.disk before at fit same_servers same_pool))
          tt refl (λ is. absurd (read_never found id fault reads.faults ServerFault (let same : met_by id (by_index fault) ≡ Refused ServerFault = cc in same)))
          (follows_asked f docs old last_folder name out out id named live (met_by id (by_index fault)) (met_of_view id (by_index fault))) tt
          (λ r is. absurd (read_never found id fault reads.faults r (let same : met_by id (by_index fault) ≡ Refused r = cc in same)))
          (moves reads.disk reads.cause.later) (λ goes. kept_open reads.disk reads.cause.later)
          (λ before at fit file limit is. absurd (read_unfilled found id fault reads.faults file limit (let full : met_by id (by_index fault) ≡ Stopped (Full file limit) = cc in full)))
          (read_why f s docs pool pool'' groups groups' cache cache cache'' old mid new last_folder servers servers'' name id design place path false keeps read earlier plans is_open asked (opening_moved opens) counted slot found group
          (told_now (f.disk last_folder) (λ d. IsOpen engine'' d.now) _ (λ d here. here.indexes) (kept_open reads.disk reads.cause.later)) at_some steps fault reads)
          (kept_stays reads.disk reads.cause.later (record { languages = ap (λ (p : Pool). languages_of p) same_pool; width = ap (λ (p : Pool). p.width) same_pool })
          (subst (λ (c : C). s.faults servers ≤ s.faults c) (sym same_servers) (omega arith)))

    -- ---- they were read
    module _ (steps : ℕ) (rows : List Row) (reads : Rows steps (Ok rows)) where
      rows_shown : (before : Moment) (at : StandsAt f s now before) (fit : IfTold (f.disk old) (λ d. AreFit before.world.history)) → IfTold (f.disk new) (λ d. rows ≡ slice_index_or (picture_of found).rows place [])
      rows_shown before at fit =
          rows_of_picture f (kinds_of before.world) groups' before.world.pictures slot own (views_in design) place found new last_folder cache cache'' steps rows group reads
          (told_now (f.disk new) _ _ (λ d here. here.indexes) (at_new (Ok slot) opens before at fit (λ d ends. ends)))

      answered_then : {out' : List ℕ} → AppendsAnswer s servers servers'' pool pool'' design place query (picture_of found).seq rows out out' × HasAll s servers servers'' pool pool'' design place query (picture_of found).seq rows → Performed f s now last (Ok (view_request name)) out out' (Ok tt)
      answered_then {out'} (answers, all) =
          viewed f s now last name
          (λ before at fit. shown_leaves reads.disk before at fit rows (rows_shown before at fit) reads.parts out' (answers, all))
          (record { reply = answers.reply; line = answers.line; appended = answers.appended; unlike = λ other. answers.unlike }) tt (λ is. let clash : ⊥ = cc in absurd clash)
          (follows_view f docs old last_folder name out out' live answers.reply answers.appended) taken (λ r is. absurd (let clash : ⊥ = cc in clash))
          (moves reads.disk reads.cause.later) (λ goes. kept_open reads.disk reads.cause.later) (λ before at fit file limit is. absurd (let clash : ⊥ = cc in clash)) tt (kept_stays reads.disk reads.cause.later all.keeps all.later)

      met_then : {out' : List ℕ} (fault : PoolFault) → HasMet s servers servers'' pool pool'' design place query (picture_of found).seq rows fault → out' ≡ out → Performed f s now last (Ok (view_request name)) out out' (Err (met_by_pool id fault))
      met_then {out'} fault met silent =
          let made : StaysAsMade pool pool'' × (s.faults servers ≤ s.faults servers'') = ⊎_elim (λ fails. (fails.keeps, fails.later)) (λ spent. (spent.1.keeps, spent.1.later)) met in
          viewed f s now last name
          (does_halted f s now last name out out' (met_by_pool id fault)
          (λ goes before at fit. halted_leaves reads.disk before at fit rows (rows_shown before at fit) fault met)
          (λ step is other before at fit. absurd (other (stops_for_memory id fault step is))))
          tt silent
          (λ is. ⊎_elim (λ fails. fails.twice (pool_server_fault id fault (let same : met_by_pool id fault ≡ Refused ServerFault = cc in same)))
          (λ spent. absurd (never_refused id fault ServerFault spent.0 (let same : met_by_pool id fault ≡ Refused ServerFault = cc in same))) met)
          (follows_asked f docs old last_folder name out out' id named live (met_by_pool id fault) (pool_of_view id fault)) tt
          (λ r is. leaves_pool f s now last name taken id fault r (let same : met_by_pool id fault ≡ Refused r = cc in same))
          (moves reads.disk reads.cause.later) (λ goes. kept_open reads.disk reads.cause.later)
          (λ before at fit file limit is. absurd (let full : met_by_pool id fault ≡ Stopped (Full file limit) = cc in let spent : Full file limit ≡ NoMemory = stops_for_memory id fault (Full file limit) full in cc))
          (memory_alone (IsReasonOf f engine engine'' old last_folder (Ok (view_request name))) (inl tt) id fault)
          (kept_stays reads.disk reads.cause.later made.0 made.1)

      rows_then : {out' : List ℕ} (result : Result (Unit {0}) Halt) → AnswersRows s servers servers'' pool pool'' design place query (picture_of found).seq rows id out out' result → Performed f s now last (Ok (view_request name)) out out' result
      rows_then (Ok done) shows = answered_then shows.ok
      rows_then {out'} (Err halt) shows = subst (λ (h : Halt). Performed f s now last (Ok (view_request name)) out out' (Err h)) (sym (shows.err).1) (met_then (shows.err).0 (shows.err).2 shows.silent)

    pub kept_then : {out' : List ℕ} (result : Result (Unit {0}) Halt) → ShowsView f s (lent new servers pool cache) (lent last_folder servers'' pool'' cache'') design place query found id out out' result → Performed f s now last (Ok (view_request name)) out out' result
    kept_then {out'} result shows = by_read shows.read shows.steps shows.reads shows.ends
      where
        by_read : (rows : Result (List Row) IndexFault) (steps : ℕ) → Rows steps rows
            → EndsReading f s (lent new servers pool cache) (lent last_folder servers'' pool'' cache'') design place query found id out out' rows result → Performed f s now last (Ok (view_request name)) out out' result
        by_read (Ok rows) steps reads ends = rows_then steps rows reads result ends
        by_read (Err fault) steps reads ends =
            subst (λ (r : Result (Unit {0}) Halt). Performed f s now last (Ok (view_request name)) out out' r) (sym ends.0)
            (subst (λ (o : List ℕ). Performed f s now last (Ok (view_request name)) out o (Err (met_by id (by_index fault)))) (sym ends.3) (unread_then steps fault reads ends.1 ends.2))
