-- A view that is planned, over what bringing the index of its design up to date left.
use Rattle.std.specs.Prelude.{◌≡◌, ◌≢◌, ◌<◌, ℕ, List, [], ◌∷◌, length, Option, Some, None, Ok, Err, slice_index_or}
use Rattle.std.specs.List.{AllByRecursion}
use Rattle.std.proofs.Common.{true, false, refl, sym, ap, ◌∙◌, subst, inl, inr, ⊎_elim}
use Rattle.json_terms.specs.Json.{Json}
use Rattle.json_terms.specs.declared.term.Row.{Row}
use Rattle.design_docs.specs.declared.design.Design.{Design}
use Rattle.view_ports.specs.Disk.{Disk, IfTold, LeavesOnly, MovesNone, Tells}
use Rattle.view_ports.specs.Lines.{ended}
use Rattle.view_ports.specs.declared.file_name.FileName.{FileName}
use Rattle.view_ports.specs.declared.folder.Folder.{Ghosts as Folders}
use Rattle.view_ports.specs.declared.servers.Servers.{Ghosts as Servers}
use Rattle.view_ports.proofs.Moments.{joined, weaker}
use Rattle.view_ports.proofs.Told.{told_after, told_all, told_back, told_given, told_map, told_now, told_pair, told_then}
use Rattle.child_pool.specs.declared.pool.Pool.{Pool}
use Rattle.view_ports.specs.Calls.{Call}
use Rattle.query_args.specs.declared.query.Query.{Query}
use Rattle.design_docs.specs.declared.design.Reduce.{Reduce}
use Rattle.design_docs.specs.declared.design.View.{View}
use Rattle.design_docs.specs.Design.{views_of}
use Rattle.view_model.specs.Rows.{rows_of, some_reduce_fails}
use Rattle.child_pool.specs.declared.pool_fault.PoolFault.{PoolFault}
use Rattle.child_pool.specs.Honesty.{SomeReduceFails}
use Rattle.child_pool.specs.Jobs.{reduce_job}
use Rattle.child_pool.specs.Languages.{path_in}
use Rattle.child_pool.specs.Outcomes.{IsCaused}
use Rattle.child_pool.specs.ReduceTalk.{reduce_in}
use Rattle.child_pool.specs.Pools.{languages_of}
use Rattle.doc_file.specs.declared.docs.Docs.{Docs}
use Rattle.doc_file.specs.Docs.{IsAt as AreAt}
use Rattle.design_docs.specs.History.{Write, AreStored, live_document}
use Rattle.node_file.specs.declared.cache.NodeCache.{NodeCache}
use Rattle.tree_index.specs.declared.index.Index.{Index}
use Rattle.tree_index.specs.Index.{picture_of}
use Rattle.tree_index.specs.RowsRead.{HasParts}
use Rattle.tree_updater.specs.declared.fault.UpdateFault.{UpdateFault}
use Rattle.change_mapper.specs.Written.{documents_since}
use Rattle.tree_groups.specs.declared.groups.Groups.{Groups}
use Rattle.tree_groups.specs.Brings.{Brings, IsLost, IsNext}
use Rattle.tree_groups.specs.Follows.{Follows}
use Rattle.tree_groups.specs.Sides.{side}
use Rattle.tree_groups.specs.Groups.{IsGroup}
use Rattle.tree_groups.specs.Reached.{picture_for, sig_of, views_in}
use Rattle.view_engine.specs.declared.engine.Engine.{Engine}
use Rattle.view_engine.specs.declared.halt.Halt.{Halt}
use Rattle.view_engine.specs.declared.halt.Halt.TheVariants.{Refused}
use Rattle.view_engine.specs.declared.refusal.Refusal.{Refusal}
use Rattle.view_engine.specs.Calls.{scene, AppendsText, CrashesAround, LeavesChild, LeavesMoment, Scene, StandsAt}
use Rattle.view_engine.specs.Answering.{Answers, AppendsAnswer, HasAll, HasMet}
use Rattle.view_engine.specs.Engine.{HasChild}
use Rattle.view_engine.specs.Moments.{CalledReducing, Moment}
use Rattle.view_engine.specs.Reducing.{Reduced, ReducedSomehow}
use Rattle.view_engine.specs.Signatures.{kinds_of}
use Rattle.view_engine.specs.Updating.{AreFit, IsBrought}
use Rattle.view_engine.specs.Refusals.{refusal_text}
use Rattle.view_engine.specs.Steps.{DoesRequest, DoesRequestText, Makes, MayHaveCalled}
use Rattle.view_engine.specs.ViewPlan.{met_by, met_by_pool, source_at, IsPlan, IsUpdateFault}
use Rattle.view_engine.specs.World.{World}
use Rattle.view_engine.specs.Worlds.{IsAtWorld, StandsAround, StandsEither, StandsFor, KnowsPaths}
use Rattle.view_engine.proofs.Between.{stands_first, stands_same}
use Rattle.view_engine.proofs.Asking.{all_mapped, had_there, shown_later, does_later, left_there, mapped as mapped_moment, mapped_child, path_still, then, AreMapped, IsLeft}
use Rattle.view_engine.proofs.Bringing.{asked_there, brought_at, complains_there, failed_at, moved, next_is, of_own_views, refused_at, with_picture, IsReady}
use Rattle.view_engine.proofs.Known.{known_told, still_known}
use Rattle.view_engine.proofs.OpenAt.{each_view, group_at}
use Rattle.view_engine.proofs.Reduced.{HasGone, all_had, complains_of_reduce, met_there, never_refused, reduced_none, refused_reducing, somehow_had, somehow_met}
use Rattle.view_engine.proofs.Updated.{fails_of_own, rows_are_afresh, spoiled_by_reduce}
use Rattle.view_engine.proofs.Viewed.{is_brought, own_are, prints, shown_are, updated_with, IsKnown, IsNextOf}
use Rattle.view_engine.proofs.Viewing.{Halts}
use Rattle.view_engine.proofs.Whole.{leaves_none, world_none}
use Rattle.view_engine.specs.View.{design_id, due_reduces, own_reduces, IsAnswered, IsNever, IsRefusedReducing}
use Rattle.view_engine.specs.ViewQuery.{ViewQuery, asked_sources, query_for, view_request}

-- a history that a document is live in isn't empty
written_some : (history : List Write) (id : List ℕ) (document : Json) → live_document history id ≡ Some document → history ≢ []
written_some [] id document is none = let clash : ⊥ = cc in clash
written_some (write ∷ older) id document is none = let clash : ⊥ = cc in clash

-- what is told of each refusal is told of all
told_halts : (x : Option (Disk FileName)) (Called : Type 0) (IsHalt Refuses : Refusal → Type 0) → IfTold x (λ d. Called) → ((r : Refusal) → IsHalt r → IfTold x (λ d. Refuses r)) → IfTold x (λ d. ((r : Refusal) → IsHalt r → Refuses r) × Called)
told_halts None Called IsHalt Refuses called told = tt
told_halts (Some a) Called IsHalt Refuses called told = (told, called)

module _ {F C : Type 0} (f : Folders F) (s : Servers C) (docs : Docs) (pool pool' : Pool) (groups groups' : Groups) (cache cache' : NodeCache) (steps : ℕ) (old mid new : F) (servers servers' : C) (name : ViewQuery) (id : List ℕ) (design : Design) (place : ℕ) (path : List ℕ)
    (within : place < length design.views) (path_is : path_in (languages_of pool) design.language ≡ Some path)
    (read : Tells (f.disk old) (f.disk mid) MovesNone)
    (plans : (history : List Write) → IfTold (f.disk old) (λ d. AreAt docs d.now history → IsPlan true (languages_of pool) history name id design place path)) where
  abbrev engine : Engine
  engine = record { docs = docs; pool = pool; groups = groups; cache = cache }

  abbrev engine' : Engine
  engine' = record { docs = docs; pool = pool'; groups = groups'; cache = cache' }

  abbrev now : Scene F C
  now = scene engine old servers

  abbrev later : Scene F C
  later = scene engine' new servers'

  module _ (before : Moment) (at : StandsAt f s now before) where
    abbrev world : World
    world = before.world

    pub at_mid : StandsAt f s (scene engine mid servers) before
    at_mid = record {
      documents = world_none engine engine (f.disk old) (f.disk mid) refl refl read world at.documents;
      child = at.child;
      known = still_known s.functions s.honest (f.disk old) (f.disk mid) MovesNone (languages_of pool) (languages_of pool) world read refl at.known;
    }

    -- what is told of the disk in the middle was told before
    told_first : (P : Type 0) → IfTold (f.disk mid) (λ d. P) → IfTold (f.disk old) (λ d. P)
    told_first P known = told_back (f.disk old) (f.disk mid) (λ d. P) (λ d. P) MovesNone (λ a b none is. is) read known

    pub planned : IfTold (f.disk old) (λ d. IsPlan true (languages_of pool) world.history name id design place path × AreStored world.history)
    planned = told_pair (f.disk old) (λ d. IsAtWorld engine d.now world) (λ d. AreAt docs d.now world.history → IsPlan true (languages_of pool) world.history name id design place path) _ (λ d here is. (is here.documents, here.documents.stored)) at.documents (plans world.history)

    -- what is known as the update begins
    pub ready : IfTold (f.disk old) (λ d. AreFit world.history) → IfTold (f.disk mid) (IsReady s.functions s.honest true engine world name id design place path)
    ready fit =
        told_pair (f.disk mid) (λ d. IsAtWorld engine d.now world × KnowsPaths s.functions s.honest (languages_of pool) world) (λ d. IsPlan true (languages_of pool) world.history name id design place path × AreFit world.history) _
        (λ d here both. record { here = here.0; plan = both.0; fit = both.1; knows = here.1 })
        (told_pair (f.disk mid) (λ d. IsAtWorld engine d.now world) (λ d. KnowsPaths s.functions s.honest (languages_of pool) world) _ (λ d here knows. (here, knows)) at_mid.documents at_mid.known)
        (told_after (f.disk old) (f.disk mid) (λ d. IsPlan true (languages_of pool) world.history name id design place path × AreFit world.history) _ MovesNone (λ a b both none. both)
        (told_pair (f.disk old) (λ d. IsPlan true (languages_of pool) world.history name id design place path × AreStored world.history) (λ d. AreFit world.history) _ (λ d plan is. (plan.0, is)) planned fit) read)

    known : (documents : List (List (List ℕ × Json))) → IfTold (f.disk old) (λ d. documents ≡ documents_since (picture_for design world.pictures).seq world.history) → IfTold (f.disk old) (λ d. IsKnown (languages_of pool) before name id design place path documents)
    known documents same = told_pair (f.disk old) (λ d. IsPlan true (languages_of pool) world.history name id design place path × AreStored world.history) (λ d. documents ≡ documents_since (picture_for design world.pictures).seq world.history) _
        (λ d plan is. record { plan = plan.0; stored = plan.1; documents_are = is }) planned same

    -- a crash leaves what it left before, and then this
    crashes : (P : (FileName → List ℕ) → Type 0) → ((d : Disk FileName) (image : FileName → List ℕ) → StandsEither world world image → P image) → Tells (f.disk mid) (f.disk new) (LeavesOnly P) → Tells (f.disk old) (f.disk new) (LeavesOnly P)
    crashes P wider moves =
        told_then (f.disk old) (f.disk mid) (f.disk new) (LeavesOnly P) (LeavesOnly P) (LeavesOnly P) (λ a b c early late. joined P a b c early late)
        (told_given (f.disk old) (f.disk mid) (λ d. IsAtWorld engine d.now world) MovesNone (LeavesOnly P) (λ a b here none. weaker (StandsEither world world) P a b (wider a) (leaves_none engine world a b none here)) at.documents read) moves

  -- ---- the update was refused
  module _ (fault : UpdateFault) (kind : IsUpdateFault fault) (brings : Brings f s docs design (side mid servers pool groups cache 0) (side new servers' pool' groups' cache' steps) (Err fault))
      (follow : Follows f s docs design (side mid servers pool groups cache 0) (side new servers' pool' groups' cache' steps) (Err fault)) where
    abbrev halt : Halt
    halt = met_by id fault

    module _ (before : Moment) (at : StandsAt f s now before) (fit : IfTold (f.disk old) (λ d. AreFit before.world.history)) where
      abbrev found_there : StandsAt f s (scene engine mid servers) before
      found_there = at_mid before at

      left : IsLeft s before name id design place path within pool servers path_is at.child (f.disk old) pool' servers' fault
      left =
          left_there s before name id design place path within pool servers path_is at.child (f.disk old) pool' servers' fault kind (known before at)
          (λ is. told_first before at _ (complains_there f s docs pool pool' groups groups' cache cache' steps mid new servers servers' name id design place path within path_is (Err fault) brings follow before found_there (ready before at fit) (ap Err is)))
          (⊎_elim (λ idle. inl ((idle.0.0, idle.0.1), idle.1)) (λ some. inr (some.0, some.1, told_first before at _ some.2))
          (asked_there f s docs pool pool' groups groups' cache cache' steps mid new servers servers' name id design place path within path_is (Err fault) brings follow before found_there (ready before at fit)))

      abbrev HasLeft : Disk FileName → Disk FileName → Type 0
      HasLeft a b = LeavesOnly (StandsEither before.world before.world) a b × IsAtWorld engine' b.now before.world

      pub refused_leaves : (IsLost fault → ⊥) → LeavesMoment f s now later before (Halts f s now later name before halt)
      refused_leaves other =
          let went : Tells (f.disk mid) (f.disk new) HasLeft = told_given (f.disk mid) (f.disk new) (IsReady s.functions s.honest true engine before.world name id design place path) _ HasLeft
          (λ a b there moves. refused_at f s docs pool pool' groups groups' cache cache' steps mid new servers servers' name id design place path within path_is (Err fault) brings follow before found_there a b there fault other moves) (ready before at fit)
          (moved f s docs pool pool' groups groups' cache cache' steps mid new servers servers' name id design place path within path_is (Err fault) brings follow before found_there (ready before at fit)) in
          record {
            after = then s before name id design place path within pool servers path_is at.child (f.disk old) pool' servers' before.world left.now;
            is_at = record {
              documents = told_after (f.disk mid) (f.disk new) (λ d. IsAtWorld engine d.now before.world) (λ d. IsAtWorld engine' d.now before.world) HasLeft (λ a b there both. both.1) found_there.documents went;
              child = left.has_child;
              known = still_known s.functions s.honest (f.disk mid) (f.disk new) HasLeft (languages_of pool) (languages_of pool') before.world went follow.keeps.languages found_there.known;
            };
            moments = crashes before at (StandsEither before.world before.world) (λ d image stands. stands) (told_map (f.disk mid) (f.disk new) HasLeft (LeavesOnly (StandsEither before.world before.world)) (λ a b both. both.0) went);
            allowed = told_halts (f.disk old) (MayHaveCalled s.functions s.honest (languages_of pool) before (Ok (view_request name)) (then s before name id design place path within pool servers path_is at.child (f.disk old) pool' servers' before.world left.now))
                (λ r. halt ≡ Refused r)
                (λ r. DoesRequest s.functions s.honest (languages_of pool) before (Ok (view_request name)) (refusal_text r) (then s before name id design place path within pool servers path_is at.child (f.disk old) pool' servers' before.world left.now))
                left.called left.refused;
          }

      pub stopped_leaves : CrashesAround f s now later before (Ok (view_request name)) × LeavesChild f s now later (MayHaveCalled s.functions s.honest (languages_of pool) before (Ok (view_request name)))
      stopped_leaves = (
        crashes before at (StandsAround s.functions s.honest (languages_of pool) before.world (Ok (view_request name))) (λ d image stands. inl (stands_same before.world image stands))
            (told_given (f.disk mid) (f.disk new) (IsReady s.functions s.honest true engine before.world name id design place path) _ (LeavesOnly (StandsAround s.functions s.honest (languages_of pool) before.world (Ok (view_request name))))
            (λ a b known moves. failed_at f s docs pool pool' groups groups' cache cache' steps mid new servers servers' name id design place path within path_is (Err fault) brings follow before found_there a b known (Err fault) moves)
            (ready before at fit)
            (moved f s docs pool pool' groups groups' cache cache' steps mid new servers servers' name id design place path within path_is (Err fault) brings follow before found_there (ready before at fit))),
        record {
          after = then s before name id design place path within pool servers path_is at.child (f.disk old) pool' servers' before.world left.now;
          child = left.has_child;
          allowed = left.called;
        },
      )

  -- ---- the index is up to date
  module _ (slot : ℕ) (brings : Brings f s docs design (side mid servers pool groups cache 0) (side new servers' pool' groups' cache' steps) (Ok slot))
      (follow : Follows f s docs design (side mid servers pool groups cache 0) (side new servers' pool' groups' cache' steps) (Ok slot)) where
    abbrev index : Index
    index = brings.place.0

    abbrev group : IsGroup groups' slot (sig_of design) (views_in design) index
    group = brings.place.1

    -- all was mapped, and the world has the picture that is shown
    module _ (before : Moment) (at : StandsAt f s now before) (fit : IfTold (f.disk old) (λ d. AreFit before.world.history)) where
      abbrev here : StandsAt f s (scene engine mid servers) before
      here = at_mid before at

      abbrev is_ready : IfTold (f.disk mid) (IsReady s.functions s.honest true engine before.world name id design place path)
      is_ready = ready before at fit

      abbrev after_world : World
      after_world = with_picture before.world design (picture_of index)

      pub mapped : AreMapped s before name id design place path within pool servers path_is at.child (f.disk old) pool' servers'
      mapped =
          all_mapped s before name id design place path within pool servers path_is at.child (f.disk old) pool' servers' slot
          (⊎_elim (λ idle. inl ((idle.0.0, idle.0.1), told_first before at _ idle.2)) (λ some. inr (some.0, some.1, told_first before at _ some.2))
          (asked_there f s docs pool pool' groups groups' cache cache' steps mid new servers servers' name id design place path within path_is (Ok slot) brings follow before here is_ready))

      abbrev IsKnownThere : Type 0
      IsKnownThere = IsKnown (languages_of pool) before name id design place path mapped.documents

      -- the moment when all were mapped
      abbrev mapped_it : Moment
      mapped_it = mapped_moment s before name id design place path within pool servers path_is at.child (f.disk old) mapped.between mapped.pool_between mapped.keeps mapped.later mapped.documents mapped.lists mapped.idle mapped.maps pool' servers'

      -- and that when the values of what was written were had
      gone : HasGone s mapped.between servers' mapped.pool_between pool' mapped_it
          (mapped_child s before name id design place path within pool servers path_is at.child (f.disk old) mapped.between mapped.pool_between mapped.keeps mapped.later mapped.documents mapped.lists mapped.idle mapped.maps pool' servers')
          design.language path
          (path_still s before name id design place path within pool servers path_is at.child (f.disk old) mapped.between mapped.pool_between mapped.keeps mapped.later mapped.documents mapped.lists mapped.idle mapped.maps pool' servers')
          mapped.sources (λ after. Reduced path mapped.sources mapped_it after) after_world
      gone = had_there s before name id design place path within pool servers path_is at.child (f.disk old) mapped.between mapped.pool_between mapped.keeps mapped.later mapped.documents mapped.lists mapped.idle mapped.maps pool' servers' mapped.sources mapped.had after_world

      abbrev between_it : Moment
      between_it = then s before name id design place path within pool servers path_is at.child (f.disk old) pool' servers' after_world gone.now

      child_it : HasChild (s.may_follow servers') (s.faults servers') pool' between_it
      child_it = gone.has_child

      abbrev IsMadeThere : Type 0
      IsMadeThere = IsNext f s docs design (side mid servers pool groups cache 0) (side new servers' pool' groups' cache' steps) (kinds_of before.world) before.world.history before.world.pictures (picture_of index)

      abbrev HasBrought : Disk FileName → Disk FileName → Type 0
      HasBrought a b = LeavesOnly (StandsEither before.world after_world) a b × (IsAtWorld engine' b.now after_world × IsMadeThere)

      brought : Tells (f.disk mid) (f.disk new) HasBrought
      brought =
          told_given (f.disk mid) (f.disk new) (IsReady s.functions s.honest true engine before.world name id design place path) _ HasBrought
          (λ a b there moves. brought_at f s docs pool pool' groups groups' cache cache' steps mid new servers servers' name id design place path within path_is (Ok slot) brings follow before here a b there slot index group
          (written_some before.world.history _ there.plan.document there.plan.live) moves)
          is_ready
          (moved f s docs pool pool' groups groups' cache cache' steps mid new servers servers' name id design place path within path_is (Ok slot) brings follow before here is_ready)

      -- the engine is at the world that was made
      pub at_new : IfTold (f.disk new) (λ d. IsAtWorld engine' d.now after_world)
      at_new = told_after (f.disk mid) (f.disk new) (λ d. IsAtWorld engine d.now before.world) (λ d. IsAtWorld engine' d.now after_world) HasBrought (λ a b there both. both.1.0) here.documents brought

      known_new : IfTold (f.disk new) (λ d. KnowsPaths s.functions s.honest (languages_of pool') after_world)
      known_new = known_told s.functions s.honest (f.disk mid) (f.disk new) HasBrought (languages_of pool) (languages_of pool') before.world after_world brought follow.keeps.languages
          (told_all (f.disk mid) (λ d. after_world.functions ≡ before.world.functions) (λ d. refl)) here.known

      -- what is told of the disk behind the update was told before
      told_brought : (P : Type 0) → IfTold (f.disk new) (λ d. P) → IfTold (f.disk old) (λ d. P)
      told_brought P known = told_first before at P (told_back (f.disk mid) (f.disk new) (λ d. P) (λ d. P) HasBrought (λ a b both is. is) brought known)

      -- ---- what was known before

      abbrev AreDue : Type 0
      AreDue = (k : IsKnownThere) → mapped.sources ≡ due_reduces k.plan.document before.world

      pub record IsKnownMade (Shown : Type 0) : Type 0 where
        pub known : IsKnownThere
        pub made : IsNextOf s.functions s.honest before.world design path mapped.documents (picture_of index) after_world
        pub due : mapped.sources ≡ due_reduces known.plan.document before.world
        pub each : length (picture_of index).rows ≡ length design.views
        pub shown : Shown

      -- each view has its rows
      each_there : IfTold (f.disk old) (λ d. length (picture_of index).rows ≡ length design.views)
      each_there = told_brought (length (picture_of index).rows ≡ length design.views)
          (told_pair (f.disk new) (λ d. IsAtWorld engine' d.now after_world) (λ d. (kinds_of before.world (sig_of design)).views ≡ design.views) _
          (λ d there own. each_view (kinds_of before.world (sig_of design)).functions (kinds_of before.world (sig_of design)).views index d.now (after_world.pictures (sig_of design))
          (group_at (kinds_of before.world) groups' d.now after_world.pictures slot (sig_of design) (views_in design) index group there.indexes) ∙ ap (λ (views : List View). length views) own) at_new
          (told_after (f.disk mid) (f.disk new) (IsReady s.functions s.honest true engine before.world name id design place path) (λ d. (kinds_of before.world (sig_of design)).views ≡ design.views) HasBrought
          (λ a b known both. of_own_views (languages_of pool) before.world name id design place path known.plan known.fit) is_ready brought))

      known_made : (Shown : Type 0) → IfTold (f.disk old) (λ d. Shown) → IfTold (f.disk old) (λ d. IsKnownMade Shown)
      known_made Shown shown =
          told_pair (f.disk old) (λ d. IsKnownThere × IsMadeThere) (λ d. AreDue × (length (picture_of index).rows ≡ length design.views) × Shown) _
          (λ d both more. record {
            known = both.0;
            made = next_is f s docs pool pool' groups groups' cache cache' steps mid new servers servers' name id design place path within path_is (Ok slot) brings follow before here (picture_of index) after_world mapped.documents both.1 both.0.documents_are refl refl (λ sig. refl);
            due = more.0 both.0;
            each = more.1;
            shown = more.2;
          })
          (told_pair (f.disk old) (λ d. IsKnownThere) (λ d. IsMadeThere) _ (λ d k made. (k, made))
          (known before at mapped.documents mapped.since)
          (told_brought IsMadeThere (told_after (f.disk mid) (f.disk new) (λ d. IsAtWorld engine d.now before.world) (λ d. IsMadeThere) HasBrought (λ a b there both. both.1.1) here.documents brought)))
          (told_pair (f.disk old) (λ d. AreDue) (λ d. (length (picture_of index).rows ≡ length design.views) × Shown) _ (λ d due rest. (due, rest.0, rest.1)) mapped.sources_are
          (told_pair (f.disk old) (λ d. length (picture_of index).rows ≡ length design.views) (λ d. Shown) _ (λ d each is. (each, is)) each_there shown))

      -- ---- the rows of the view were read, or weren't
      module _ (last_folder : F) (still : Tells (f.disk new) (f.disk last_folder) MovesNone) (pool'' : Pool) (cache'' : NodeCache) (servers'' : C) where
        abbrev engine'' : Engine
        engine'' = record { docs = docs; pool = pool''; groups = groups'; cache = cache'' }

        abbrev last : Scene F C
        last = scene engine'' last_folder servers''

        abbrev last_it : List Call → Moment
        last_it calls = then s before name id design place path within pool servers path_is at.child (f.disk old) pool'' servers'' after_world calls

        -- what a crash leaves of the world before has P, and so has what it leaves of the one that was made
        ends_as : (P : (FileName → List ℕ) → Type 0) → ((image : FileName → List ℕ) → StandsFor image before.world → P image) → IfTold (f.disk new) (λ d. (image : FileName → List ℕ) → StandsFor image after_world → P image)
            → Tells (f.disk mid) (f.disk new) (LeavesOnly P) → Tells (f.disk old) (f.disk last_folder) (LeavesOnly P)
        ends_as P first made moves =
            told_then (f.disk old) (f.disk new) (f.disk last_folder) (LeavesOnly P) (LeavesOnly P) (LeavesOnly P) (λ a b c early late. joined P a b c early late)
            (crashes before at P (λ d image stands. first image (stands_same before.world image stands)) moves)
            (told_given (f.disk new) (f.disk last_folder) (λ d. IsAtWorld engine' d.now after_world × ((image : FileName → List ℕ) → StandsFor image after_world → P image)) MovesNone (LeavesOnly P)
            (λ a b there none. weaker (StandsEither after_world after_world) P a b (λ image stands. there.1 image (stands_same after_world image stands)) (leaves_none engine' after_world a b none there.0))
            (told_pair (f.disk new) (λ d. IsAtWorld engine' d.now after_world) (λ d. (image : FileName → List ℕ) → StandsFor image after_world → P image) _ (λ d here is. (here, is)) at_new made) still)

        left_it : languages_of pool'' ≡ languages_of pool' → (calls : List Call) → HasChild (s.may_follow servers'') (s.faults servers'') pool'' (last_it calls) → (Allows : Moment → Type 0) → IfTold (f.disk old) (λ d. Allows (last_it calls)) → LeavesMoment f s now last before Allows
        left_it languages calls child Allows allowed = record {
          after = last_it calls;
          is_at = record {
            documents = world_none engine' engine'' (f.disk new) (f.disk last_folder) refl refl still after_world at_new;
            child = child;
            known = still_known s.functions s.honest (f.disk new) (f.disk last_folder) MovesNone (languages_of pool') (languages_of pool'') after_world still languages known_new;
          };
          moments = ends_as (StandsEither before.world after_world) (λ image stands. stands_first before.world after_world image stands)
              (told_all (f.disk new) (λ d. (image : FileName → List ℕ) → StandsFor image after_world → StandsEither before.world after_world image) (λ d image stands. inr stands))
              (told_map (f.disk mid) (f.disk new) HasBrought (LeavesOnly (StandsEither before.world after_world)) (λ a b both. both.0) brought);
          allowed = allowed;
        }

        -- in the words of the design document, with what is known of the rows
        module _ (Shown : Type 0) (there : IsKnownMade Shown) where
          abbrev k : IsKnownThere
          k = there.known

          abbrev document : Json
          document = k.plan.document

          had_due : Reduced path (due_reduces document before.world) mapped_it between_it
          had_due = subst (λ (r : List (List ℕ)). Reduced path r mapped_it between_it) there.due gone.holds

          brought_it : IsBrought s.functions s.honest (languages_of pool) document path before.world after_world
          brought_it = is_brought s.functions s.honest (languages_of pool) before name id design place path within mapped.documents (picture_of index) after_world k there.made

          -- so it was asked for
          asked_it : (calls : List Call) → ReducedSomehow path (own_reduces name document after_world) between_it (last_it calls) → MayHaveCalled s.functions s.honest (languages_of pool) before (Ok (view_request name)) (last_it calls)
          asked_it calls somehow =
              shown_later s before name id design place path within pool servers path_is at.child (f.disk old) mapped.between mapped.pool_between mapped.keeps mapped.later mapped.documents mapped.lists mapped.idle mapped.maps pool' servers'
              k between_it (last_it calls) had_due brought_it somehow

          -- so it is answered
          does_it : (calls : List Call) (reply : List ℕ) → IsAnswered s.functions s.honest (languages_of pool) name document path (source_at design.views place) before.world between_it (last_it calls) reply
              → DoesRequest s.functions s.honest (languages_of pool) before (Ok (view_request name)) reply (last_it calls)
          does_it calls reply answered = inl (inl (does_later s before name id design place path within pool servers path_is at.child (f.disk old) mapped.between mapped.pool_between mapped.keeps mapped.later mapped.documents mapped.lists mapped.idle mapped.maps pool' servers' k (last_it calls) reply
              (inr (record { between = between_it; had = had_due; brought = brought_it; answered = answered }))))

          -- the view makes this world
          makes_it : Makes s.functions s.honest (languages_of pool) before.world (Ok (view_request name)) after_world
          makes_it = (document, path, k.plan.accepted, k.plan.live, k.plan.path_is, brought_it, k.plan.updates)

        -- ---- the rows weren't read, and nothing was asked for them
        module _ (same_servers : servers'' ≡ servers') (same_pool : pool'' ≡ pool') where
          abbrev unread_it : Moment
          unread_it = last_it gone.now

          -- the moment is that behind the update
          same_moment : unread_it ≡ between_it
          same_moment = λ i. then s before name id design place path within pool servers path_is at.child (f.disk old) (same_pool i) (same_servers i) after_world gone.now

          unread_child : HasChild (s.may_follow servers'') (s.faults servers'') pool'' unread_it
          unread_child =
              subst (λ (p : Pool). HasChild (s.may_follow servers'') (s.faults servers'') p (then s before name id design place path within pool servers path_is at.child (f.disk old) p servers'' after_world gone.now)) (sym same_pool)
              (subst (λ (c : C). HasChild (s.may_follow c) (s.faults c) pool' (then s before name id design place path within pool servers path_is at.child (f.disk old) pool' c after_world gone.now)) (sym same_servers) child_it)

          none_known : IfTold (f.disk old) (λ d. IsKnownMade (Unit {0}))
          none_known = known_made (Unit {0}) (told_all (f.disk old) (λ d. Unit {0}) (λ d. tt))

          unread_called : IfTold (f.disk old) (λ d. MayHaveCalled s.functions s.honest (languages_of pool) before (Ok (view_request name)) unread_it)
          unread_called = told_now (f.disk old) (λ d. IsKnownMade (Unit {0})) _
              (λ d there. asked_it (Unit {0}) there gone.now
              (subst (λ (m : Moment). ReducedSomehow path (own_reduces name there.known.plan.document after_world) between_it m) (sym same_moment)
              (somehow_had path (own_reduces name there.known.plan.document after_world) between_it between_it (reduced_none path (own_reduces name there.known.plan.document after_world) between_it)))) none_known

          pub unread_leaves : (halt : Halt) → ((r : Refusal) → halt ≡ Refused r → ⊥) → LeavesMoment f s now last before (Halts f s now last name before halt)
          unread_leaves halt never = left_it (ap (λ (p : Pool). languages_of p) same_pool) gone.now unread_child (Halts f s now last name before halt)
              (told_halts (f.disk old) (MayHaveCalled s.functions s.honest (languages_of pool) before (Ok (view_request name)) unread_it) (λ r. halt ≡ Refused r)
              (λ r. DoesRequest s.functions s.honest (languages_of pool) before (Ok (view_request name)) (refusal_text r) unread_it) unread_called (λ r is. absurd (never r is)))

          abbrev Around : (FileName → List ℕ) → Type 0
          Around = StandsAround s.functions s.honest (languages_of pool) before.world (Ok (view_request name))

          pub unread_stopped : CrashesAround f s now last before (Ok (view_request name)) × LeavesChild f s now last (MayHaveCalled s.functions s.honest (languages_of pool) before (Ok (view_request name)))
          unread_stopped = (
            ends_as Around (λ image stands. inl stands)
                (told_after (f.disk old) (f.disk new) (λ d. IsKnownMade (Unit {0})) (λ d. (image : FileName → List ℕ) → StandsFor image after_world → Around image) (LeavesOnly (λ image. Unit {0}))
                (λ a b there leaves image stands. inr (after_world, makes_it (Unit {0}) there, stands)) none_known
                (crashes before at (λ image. Unit {0}) (λ d image stands. tt) (told_map (f.disk mid) (f.disk new) HasBrought (LeavesOnly (λ image. Unit {0})) (λ a b both. weaker (StandsEither before.world after_world) (λ image. Unit {0}) a b (λ image stands. tt) both.0) brought)))
                (told_given (f.disk mid) (f.disk new) (IsReady s.functions s.honest true engine before.world name id design place path) _ (LeavesOnly Around)
                (λ a b known moved. failed_at f s docs pool pool' groups groups' cache cache' steps mid new servers servers' name id design place path within path_is (Ok slot) brings follow before here a b known (Ok slot) moved)
                is_ready
                (moved f s docs pool pool' groups groups' cache cache' steps mid new servers servers' name id design place path within path_is (Ok slot) brings follow before here is_ready)),
            record { after = unread_it; child = unread_child; allowed = unread_called },
          )

        -- ---- the view is answered from its rows, through the pool and the servers then
        module _ (rows : List Row) (query : Query) (query_is : query ≡ query_for design.views name) where
          abbrev own : List (List ℕ)
          own = asked_sources query (reduce_in design.views place) rows

          -- the rows are those of the picture
          abbrev AreShown : Type 0
          AreShown = rows ≡ slice_index_or (picture_of index).rows place []

          path_there : path_in (languages_of pool') design.language ≡ Some path
          path_there = ap (λ (l : List (List ℕ × List ℕ)). path_in l design.language) follow.keeps.languages ∙ path_is

          module _ (there : IsKnownMade AreShown) where
            own_is : own ≡ own_reduces name (document AreShown there) after_world
            own_is = own_are s.functions s.honest (languages_of pool) before name id design place path within mapped.documents there.known query query_is rows after_world
                (there.shown ∙ shown_are s.functions s.honest (languages_of pool) before name id design place path within mapped.documents (picture_of index) after_world there.known there.made there.each)

            somehow_it : (calls : List Call) → ReducedSomehow path own between_it (last_it calls) → MayHaveCalled s.functions s.honest (languages_of pool) before (Ok (view_request name)) (last_it calls)
            somehow_it calls somehow = asked_it AreShown there calls (subst (λ (r : List (List ℕ)). ReducedSomehow path r between_it (last_it calls)) own_is somehow)

            -- all values were had
            had_it : AllByRecursion HasParts rows → (reply : List ℕ) → Answers (s.functions path) (s.honest path) (reduce_in design.views place) query (picture_of index).seq rows reply → (calls : List Call) → Reduced path own between_it (last_it calls)
                → DoesRequest s.functions s.honest (languages_of pool) before (Ok (view_request name)) reply (last_it calls)
            had_it parts reply answers calls all =
                does_it AreShown there calls reply (inl (
                  subst (λ (r : List (List ℕ)). Reduced path r between_it (last_it calls)) own_is all,
                  prints s.functions s.honest (languages_of pool) before name id design place path within mapped.documents (picture_of index) after_world there.known there.made there.each (subst (AllByRecursion HasParts) there.shown parts) reply
                      (subst (λ (r : Reduce). Answers (s.functions path) (s.honest path) r (query_for design.views name) (picture_of index).seq (slice_index_or (picture_of index).rows place []) reply) there.known.plan.reduced
                      (subst (λ (q : Query). Answers (s.functions path) (s.honest path) (reduce_in design.views place) q (picture_of index).seq (slice_index_or (picture_of index).rows place []) reply) query_is
                      (subst (λ (rs : List Row). Answers (s.functions path) (s.honest path) (reduce_in design.views place) query (picture_of index).seq rs reply) there.shown answers))),
                ))

            -- a complaint of an honest path there is none, where the pictures stood
            never_it : SomeReduceFails (s.functions path) own → IsNever s.functions s.honest (languages_of pool) path before.world
            never_it fails = λ is_honest sound fit.
                let plan = there.known.plan in
                let afresh = rows_are_afresh s.functions s.honest (languages_of pool) before.world (design_id name.design) plan.document path refl plan.live plan.path_is is_honest sound fit (picture_of index)
                (updated_with s.functions s.honest (languages_of pool) before name id design place path within mapped.documents there.known (picture_of index) (there.made).updated) in
                let own_fails = subst (λ (rs : List Row). SomeReduceFails (s.functions path) (asked_sources query (reduce_in design.views place) rs)) there.shown fails in
                let fails_there : some_reduce_fails (s.functions path) (views_of plan.document) (rows_of (s.functions path) (views_of plan.document) before.world.history) ≡ true =
                subst (λ (r : List (List Row)). some_reduce_fails (s.functions path) (views_of plan.document) r ≡ true) afresh
                (subst (λ (views : List View). some_reduce_fails (s.functions path) views (picture_of index).rows ≡ true) plan.views (fails_of_own (s.functions path) design.views (picture_of index).rows place query own_fails)) in
                let clash : true ≡ false = sym (spoiled_by_reduce (s.functions path) (views_of plan.document) before.world.history fails_there) ∙ (brought_it AreShown there).answerable is_honest sound fit in
                let no : ⊥ = cc in
                no

          -- ---- how it ends
          module _ (shown : IfTold (f.disk new) (λ d. AreShown)) where
            all_known : IfTold (f.disk old) (λ d. IsKnownMade AreShown)
            all_known = known_made AreShown (told_brought AreShown shown)

            pub shown_leaves : AllByRecursion HasParts rows → (out out' : List ℕ)
                → AppendsAnswer s servers' servers'' pool' pool'' design place query (picture_of index).seq rows out out' × HasAll s servers' servers'' pool' pool'' design place query (picture_of index).seq rows
                → AppendsText f s now last before (DoesRequestText s.functions s.honest (languages_of pool) before (Ok (view_request name))) out out'
            shown_leaves parts out out' (answers, all) =
                let had = all_had s servers' servers'' pool' pool'' between_it child_it design.language path path_there own all after_world in
                record {
                  text = ended answers.reply;
                  leaves = left_it all.keeps.languages had.now had.has_child (DoesRequestText s.functions s.honest (languages_of pool) before (Ok (view_request name)) (ended answers.reply))
                      (told_now (f.disk old) (λ d. IsKnownMade AreShown) _ (λ d both. (
                        answers.reply,
                        had_it both parts answers.reply (answers.is path gone.now child_it.follows path_there child_it.child) had.now had.holds,
                        refl,
                      )) all_known);
                  appended = answers.appended;
                }

            pub halted_leaves : (fault : PoolFault) → HasMet s servers' servers'' pool' pool'' design place query (picture_of index).seq rows fault → LeavesMoment f s now last before (Halts f s now last name before (met_by_pool id fault))
            halted_leaves fault (inl fails) =
                let met = met_there s servers' servers'' pool' pool'' between_it child_it design.language path path_there own fault fails after_world in
                left_it fails.keeps.languages met.now met.has_child (Halts f s now last name before (met_by_pool id fault))
                (told_now (f.disk old) (λ d. IsKnownMade AreShown) _ (λ d there. (
                  λ r is. does_it AreShown there met.now (refusal_text r) (inr (
                      subst (λ (l : List (List ℕ)). CalledReducing path l between_it (last_it met.now) (IsRefusedReducing s.functions s.honest name path l (IsNever s.functions s.honest (languages_of pool) path before.world) between_it (last_it met.now) (refusal_text r))) (own_is there)
                      (refused_reducing s servers' servers'' pool' pool'' between_it child_it design.language path path_there own name id there.known.plan.id_is after_world fault r is fails.twice (IsNever s.functions s.honest (languages_of pool) path before.world)
                      (λ complains is_honest sound fit.
                      never_it there
                      (complains_of_reduce s.functions s.honest path own met.holds.added between_it.calls is_honest (subst (IsCaused s.functions s.honest (reduce_job path own) met.holds.added between_it.calls) complains met.holds.holds.caused))
                      is_honest sound fit)
                      met.now met.holds))),
                  somehow_it there met.now (somehow_met s servers' servers'' pool' pool'' between_it child_it design.language path path_there own fault (last_it met.now) met.holds),
                )) all_known)
            halted_leaves fault (inr (spent, all)) =
                let had = all_had s servers' servers'' pool' pool'' between_it child_it design.language path path_there own all after_world in
                left_it all.keeps.languages had.now had.has_child (Halts f s now last name before (met_by_pool id fault))
                (told_now (f.disk old) (λ d. IsKnownMade AreShown) _ (λ d there. (
                  λ r is. absurd (never_refused id fault r spent is),
                  somehow_it there had.now (somehow_had path own between_it (last_it had.now) had.holds),
                )) all_known)
