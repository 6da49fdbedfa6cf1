-- A view, performed: refused before any server is asked, refused by the update of its index, or answered.
use Rattle.std.specs.Prelude.{◌≡◌, ◌≢◌, ◌<◌, ◌≤◌, ℕ, List, length, Option, None, Some, Result, Ok, Err, slice_get, slice_index_or, []}
use Rattle.std.proofs.Common.{true, refl, sym, ap, ◌∙◌, subst, inl, ⊎_elim, arith}
use Rattle.json_terms.specs.declared.term.Row.{Row}
use Rattle.json_terms.specs.Json.{Json}
use Rattle.design_docs.specs.declared.design.Design.{Design}
use Rattle.design_docs.specs.Design.{IsDesignOf}
use Rattle.view_ports.specs.Faults.{RoseBy}
use Rattle.view_ports.specs.Disk.{Disk, IfTold, LeavesOnly, MovesNone, Tells}
use Rattle.view_ports.specs.declared.file_name.FileName.{FileName}
use Rattle.view_ports.specs.declared.folder.Folder.{Ghosts as Folders}
use Rattle.view_ports.specs.declared.servers.Servers.{Ghosts as Servers}
use Rattle.view_ports.proofs.DiskRuns.{none_same}
use Rattle.view_ports.proofs.Moments.{weaker}
use Rattle.view_ports.proofs.Told.{told_after, told_all, told_given, told_map, told_now, told_then}
use Rattle.child_pool.specs.declared.pool.Pool.{Pool}
use Rattle.child_pool.specs.Languages.{path_in}
use Rattle.child_pool.specs.Pools.{languages_of}
use Rattle.doc_file.specs.declared.docs.Docs.{Docs}
use Rattle.doc_file.specs.Docs.{IsAt as AreAt}
use Rattle.design_docs.specs.History.{Write}
use Rattle.node_file.specs.declared.cache.NodeCache.{NodeCache}
use Rattle.tree_index.specs.declared.fault.IndexFault.{IndexFault}
use Rattle.tree_index.specs.declared.index.Index.{Index}
use Rattle.tree_index.specs.Index.{picture_of}
use Rattle.tree_index.specs.RowsRead.{ReadsRows}
use Rattle.tree_updater.specs.declared.fault.UpdateFault.{UpdateFault}
use Rattle.tree_updater.specs.declared.fault.UpdateFault.TheVariants as update
use Rattle.tree_updater.specs.Faults.{by_index}
use Rattle.gate_file.specs.declared.fault.GateFault.TheVariants as gate
use Rattle.tree_index.specs.declared.fault.IndexFault.TheVariants as index
use Rattle.tree_groups.specs.declared.groups.Groups.{Groups}
use Rattle.tree_groups.specs.Brings.{Brings, IsLost}
use Rattle.tree_groups.specs.Follows.{Follows}
use Rattle.tree_groups.specs.Pictures.{Pictures}
use Rattle.tree_groups.specs.Sides.{side}
use Rattle.tree_groups.specs.Groups.{open_of, AreAt as AreIndexesAt}
use Rattle.tree_groups.specs.Reached.{sig_of, views_in, IsReached}
use Rattle.view_engine.specs.declared.engine.Engine.{Engine}
use Rattle.view_engine.specs.declared.halt.Halt.{Halt}
use Rattle.view_engine.specs.declared.halt.Halt.TheVariants.{Refused, Stopped}
use Rattle.view_engine.specs.declared.halt.StepFault.TheVariants.{Full, NoMemory}
use Rattle.view_engine.specs.declared.refusal.Refusal.{Refusal}
use Rattle.view_engine.specs.declared.refusal.Refusal.TheVariants.{ServerFault}
use Rattle.child_pool.specs.declared.pool_fault.PoolFault.{PoolFault}
use Rattle.child_pool.specs.PoolCalls.{StaysAsMade}
use Rattle.query_args.specs.declared.query.Query.{Query}
use Rattle.view_engine.specs.Calls.{scene, LeavesMoment, Performed, Scene, StandsAt, Stays}
use Rattle.view_engine.specs.Disks.{IfStopped, IsAskedFor, IsReadReason, IsReasonOf, LiesOpen, MovesIndexOf, Reads}
use Rattle.view_engine.specs.Halts.{GoesOn}
use Rattle.view_engine.specs.InMemory.{IsLiveIn, IsSaidByDesign, IsViewRefusedBy}
use Rattle.view_engine.specs.Planning.{RefusesByDesign, StopsLive}
use Rattle.view_engine.specs.Signatures.{kinds_of}
use Rattle.view_engine.specs.Updating.{AreFit}
use Rattle.view_engine.specs.Moments.{Moment}
use Rattle.view_engine.specs.Steps.{MayHaveCalled}
use Rattle.view_engine.specs.View.{design_id}
use Rattle.view_engine.specs.World.{World}
use Rattle.view_engine.specs.ViewPlan.{met_by, met_by_pool, IsPlan, IsUpdateFault}
use Rattle.view_engine.specs.Worlds.{IsAtWorld, IsOpen, StandsAround, StandsEither}
use Rattle.view_engine.proofs.Filling.{filled_then}
use Rattle.view_engine.proofs.Following.{follows_asked, follows_unasked, follows_view, met_of_view, pool_of_view}
use Rattle.view_engine.proofs.OnDisk.{documents_reason, read_halted}
use Rattle.view_engine.proofs.Performing.{none_called}
use Rattle.view_engine.proofs.Bringing.{with_picture}
use Rattle.view_engine.proofs.OpenAt.{rows_of_picture}
use Rattle.view_engine.proofs.Planned.{at_new, halted_leaves, refused_leaves, shown_leaves, stopped_leaves, unread_leaves, unread_stopped}
use Rattle.view_engine.proofs.ReadRows.{read_never, read_unfilled, read_why}
use Rattle.view_engine.proofs.Reduced.{memory_alone, never_refused, stops_for_memory}
use Rattle.view_engine.proofs.Reasons.{moves_read, view_moves, view_open, view_why}
use Rattle.view_engine.proofs.ServerFaults.{met_server_fault, pool_server_fault}
use Rattle.view_engine.proofs.Viewing.{does_halted, leaves_asked, leaves_pool, leaves_unasked, unmet, viewed, Halts}
use Rattle.view_engine.proofs.Whole.{leaves_none, view_moves_none}
use Rattle.view_engine.proofs.Between.{stands_same}
use Rattle.query_args.specs.Query.{is_updated}
use Rattle.view_engine.specs.Answering.{lent, AnswersRows, AppendsAnswer, EndsReading, HasAll, HasMet, ShowsView}
use Rattle.view_engine.specs.ViewQuery.{ViewQuery, parameters_of, query_for, view_request}

-- what is open stays so where no file changes
pub open_still : (engine : Engine) (x y : Option (Disk FileName)) → Tells x y MovesNone → IfTold x (λ d. IsOpen engine d.now) → IfTold y (λ d. IsOpen engine d.now)
open_still engine x y moves is_open = told_after x y (λ d. IsOpen engine d.now) (λ d. IsOpen engine d.now) MovesNone (λ a b here none. subst (IsOpen engine) (λ i. λ n. sym (none_same a b none n) i) here) is_open moves

rose_since : (before mid now : ℕ) → before ≤ mid → RoseBy 2 mid now → RoseBy 2 before now
rose_since before mid now early rose = omega (arith, early, rose)

-- the engine may go on only after faults that lose no file of the index
goes_on_of_none : (met : UpdateFault) (id : List ℕ) → IsUpdateFault met → GoesOn (met_by id met) → IsLost met → ⊥
goes_on_of_none (update.Index (index.Store gate.DiskFault)) id kind goes is = goes
goes_on_of_none (update.Index (index.Store (gate.Damaged n at))) id kind goes is = goes
goes_on_of_none (update.Index (index.Store (gate.Full n length))) id kind goes is = goes
goes_on_of_none (update.Index (index.Store gate.NoMemory)) id kind goes is = kind.0
goes_on_of_none (update.Index (index.Summer other)) id kind goes is = kind.0
goes_on_of_none (update.Index index.NoMemory) id kind goes is = kind.0
goes_on_of_none (update.Pool fault) id kind goes is = is
goes_on_of_none (update.Docs fault) id kind goes is = is
goes_on_of_none update.NoMemory id kind goes is = is

abbrev refused_as : UpdateFault → Result ℕ UpdateFault
refused_as met = Err met

-- so the disk didn't fail in them
goes_on_undisked : (met : UpdateFault) (id : List ℕ) → IsUpdateFault met → GoesOn (met_by id met) → refused_as met ≢ Err (update.Index (index.Store gate.DiskFault))
goes_on_undisked met id kind goes is = goes_on_of_none met id kind goes (subst IsLost (sym (let same : met ≡ update.Index (index.Store gate.DiskFault) = cc in same)) tt)

module _ {F C : Type 0} (f : Folders F) (s : Servers C) (docs : Docs) (pool : Pool) (groups : Groups) (cache : NodeCache) (old mid : F) (servers : C) (name : ViewQuery) (out : List ℕ) where
  abbrev engine : Engine
  engine = record { docs = docs; pool = pool; groups = groups; cache = cache }

  -- ---- refused before any server was asked
  pub refused_first : {T : Type 0} (halt : Halt) → LiesOpen f engine old → halt ≢ Refused ServerFault → ((r : Refusal) → halt ≡ Refused r → IsViewRefusedBy docs (design_id name.design) r) → StopsLive engine name halt → RefusesByDesign f engine old name halt → Reads f {T = T} docs old mid (Err halt)
      → ((before : Moment) → StandsAt f s (scene engine old servers) before → LeavesMoment f s (scene engine old servers) (scene engine mid servers) before (Halts f s (scene engine old servers) (scene engine mid servers) name before halt))
      → Performed f s (scene engine old servers) (scene engine mid servers) (Ok (view_request name)) out out (Err halt)
  refused_first halt is_open other refused live own reads leaves =
      viewed f s (scene engine old servers) (scene engine mid servers) name
      (does_halted f s (scene engine old servers) (scene engine mid servers) name out out halt (λ goes before at fit. leaves before at)
      (λ step is not before at fit. (
        told_given (f.disk old) (f.disk mid) (λ d. IsAtWorld engine d.now before.world) MovesNone (LeavesOnly (StandsAround s.functions s.honest (languages_of pool) before.world (Ok (view_request name))))
            (λ a b here none. weaker (StandsEither before.world before.world) (StandsAround s.functions s.honest (languages_of pool) before.world (Ok (view_request name))) a b (λ image stands. inl (stands_same before.world image stands)) (leaves_none engine before.world a b none here)) at.documents reads.disk,
        record {
          after = before;
          child = at.child;
          allowed = told_all (f.disk old) (λ d. MayHaveCalled s.functions s.honest (languages_of pool) before (Ok (view_request name)) before) (λ d. none_called s.functions s.honest (languages_of pool) before (Ok (view_request name)));
        },
      )))
      tt refl (λ is. absurd (other (let same : halt ≡ Refused ServerFault = cc in same)))
      (follows_unasked f docs old mid name out out halt refused live) tt
      (λ r is. let met : halt ≡ Refused r = cc in leaves_unasked f s (scene engine old servers) (scene engine mid servers) name (record { servers = refl; pool = refl; cache = refl; groups = refl; files = reads.disk }) r (own r met) (unmet f s (scene engine old servers) (scene engine mid servers) name r (refused r met) (own r met)))
      (view_moves_none f engine old mid name reads.disk)
      (λ goes. open_still engine (f.disk old) (f.disk mid) reads.disk is_open)
      (λ before at fit file limit is. let full : halt ≡ Stopped (Full file limit) = cc in absurd (subst (IfStopped (IsReadReason f docs old mid)) full reads.why))
      (documents_reason f engine engine old mid (Ok (view_request name)) halt (read_halted f docs old mid (Ok (view_request name)) halt tt reads.why))
      (record { languages = refl; width = refl; disk_faults = reads.later; server_faults = omega arith })

  -- ---- over what bringing the index up to date left
  module _ (pool' : Pool) (groups' : Groups) (cache' : NodeCache) (steps : ℕ) (new : F) (servers' : C) (id : List ℕ) (design : Design) (place : ℕ) (path : List ℕ)
      (within : place < length design.views) (path_is : path_in (languages_of pool) design.language ≡ Some path) (updates : is_updated (parameters_of name) ≡ true)
      (read : Tells (f.disk old) (f.disk mid) MovesNone) (earlier : f.faults old ≤ f.faults mid)
      (plans : (history : List Write) → IfTold (f.disk old) (λ d. AreAt docs d.now history → IsPlan true (languages_of pool) history name id design place path))
      (is_open : LiesOpen f engine old) (asked : IfTold (f.disk old) (λ d. (document : Json) × IsAskedFor docs d.now name document × IsDesignOf document design))
      (named : id ≡ design_id name.design) (live : IsLiveIn docs (design_id name.design)) (taken : IsSaidByDesign f docs (languages_of pool) old name None) where
    abbrev engine' : Engine
    engine' = record { docs = docs; pool = pool'; groups = groups'; cache = cache' }

    abbrev now : Scene F C
    now = scene engine old servers

    abbrev later : Scene F C
    later = scene engine' new servers'

    module _ (met : UpdateFault) (kind : IsUpdateFault met) (brings : Brings f s docs design (side mid servers pool groups cache 0) (side new servers' pool' groups' cache' steps) (Err met))
        (follow : Follows f s docs design (side mid servers pool groups cache 0) (side new servers' pool' groups' cache' steps) (Err met)) where
      pub refused_then : Performed f s now later (Ok (view_request name)) out out (Err (met_by id met))
      refused_then =
          viewed f s now later name
          (does_halted f s now later name out out (met_by id met)
          (λ goes before at fit. refused_leaves f s docs pool pool' groups groups' cache cache' steps old mid new servers servers' name id design place path within path_is read plans met kind brings follow before at fit (goes_on_of_none met id kind goes))
          (λ step is other before at fit. stopped_leaves f s docs pool pool' groups groups' cache cache' steps old mid new servers servers' name id design place path within path_is read plans met kind brings follow before at fit))
          tt refl (λ is. follow.blames (ap Err (met_server_fault id met (let same : met_by id met ≡ Refused ServerFault = cc in same))))
          (follows_asked f docs old new name out out id named live (met_by id met) (met_of_view id met)) tt
          (λ r is. leaves_asked f s now later name taken id met r (let same : met_by id met ≡ Refused r = cc in same))
          (view_moves f s docs pool pool' groups groups' cache cache' steps old mid new servers servers' name id design place path true updates read earlier plans is_open asked (Err met) refl follow)
          (λ goes. view_open f s docs pool pool' groups groups' cache cache' steps old mid new servers servers' name id design place path true updates read earlier plans is_open asked (Err met) refl follow (goes_on_undisked met id kind goes))
          (λ before at fit file limit is. filled_then f s docs pool pool' groups groups' cache cache' steps old mid new servers servers' name id design place path within path_is read plans met kind.0 brings follow before at fit file limit (let full : met_by id met ≡ Stopped (Full file limit) = cc in full))
          (view_why f s docs pool pool' groups groups' cache cache' steps old mid new servers servers' name id design place path true updates read earlier plans is_open asked refl met follow)
          (record { languages = follow.keeps.languages; width = follow.keeps.width; disk_faults = omega (arith, earlier, follow.later.0); server_faults = follow.later.1 })

    -- the rows of the view are read from the index, and it is answered, through the pool and the servers then
    module _ (slot : ℕ) (brings : Brings f s docs design (side mid servers pool groups cache 0) (side new servers' pool' groups' cache' steps) (Ok slot))
        (follow : Follows f s docs design (side mid servers pool groups cache 0) (side new servers' pool' groups' cache' steps) (Ok slot)) (found : Index) (there : slice_get (open_of groups') slot ≡ Some found)
        (query : Query) (query_is : query ≡ query_for design.views name) (last_folder : F) (pool'' : Pool) (cache'' : NodeCache) (servers'' : C) where
      abbrev engine'' : Engine
      engine'' = record { docs = docs; pool = pool''; groups = groups'; cache = cache'' }

      abbrev last : Scene F C
      last = scene engine'' last_folder servers''

      abbrev shown : Index
      shown = brings.place.0

      same_index : found ≡ shown
      same_index = let same : Some found ≡ Some shown = sym there ∙ (brings.place.1).there in cc

      abbrev Rows : (steps' : ℕ) → Result (List Row) IndexFault → Type 0
      Rows steps' result = ReadsRows f shown place new last_folder cache' cache'' 0 steps' result

      counted : f.faults old ≤ f.faults new
      counted = omega (arith, earlier, follow.later.0)

      module _ (still : Tells (f.disk new) (f.disk last_folder) MovesNone) (more : f.faults new ≤ f.faults last_folder) where
        moves : Tells (f.disk old) (f.disk last_folder) (MovesIndexOf engine name)
        moves = told_then (f.disk old) (f.disk new) (f.disk last_folder) (MovesIndexOf engine name) MovesNone (MovesIndexOf engine name) (λ a b c one none. moves_read engine name a b c one none)
            (view_moves f s docs pool pool' groups groups' cache cache' steps old mid new servers servers' name id design place path true updates read earlier plans is_open asked (Ok slot) refl follow) still

        opens : LiesOpen f engine'' last_folder
        opens = told_now (f.disk last_folder) (λ d. IsOpen engine' d.now) (λ d. IsOpen engine'' d.now) (λ d one. record { documents = one.documents; indexes = one.indexes })
            (open_still engine' (f.disk new) (f.disk last_folder) still
            (view_open f s docs pool pool' groups groups' cache cache' steps old mid new servers servers' name id design place path true updates read earlier plans is_open asked (Ok slot) refl follow (λ is. let no : ⊥ = cc in no)))

        stays : StaysAsMade pool' pool'' → s.faults servers' ≤ s.faults servers'' → Stays f s now last
        stays made later_still = record {
          languages = made.languages ∙ follow.keeps.languages;
          width = made.width ∙ follow.keeps.width;
          disk_faults = omega (arith, counted, more);
          server_faults = omega (arith, follow.later.1, later_still);
        }

      -- ---- they couldn't be read
      module _ (steps' : ℕ) (fault : IndexFault) (reads : Rows steps' (Err fault)) (same_servers : servers'' ≡ servers') (same_pool : pool'' ≡ pool') where
        -- over documents and pictures the indexes are at some pictures then
        at_some : (world : World) → IfTold (f.disk mid) (λ d. IsReached s servers pool docs (kinds_of world) groups design world.history world.pictures d.now)
            → Tells (f.disk mid) (f.disk new) (λ a b. (pictures : Pictures) × AreIndexesAt (kinds_of world) groups' b.now pictures)
        at_some world reached = told_map (f.disk mid) (f.disk new) _ _ (λ a b moves. let ended = moves.ended in (ended.after, ended.at)) (brings.stands (kinds_of world) world.history world.pictures reached)

        unread_then : Performed f s now last (Ok (view_request name)) out out (Err (met_by id (by_index fault)))
        unread_then =
            viewed f s now last name
            (does_halted f s now last name out out (met_by id (by_index fault))
            (λ goes before at fit. unread_leaves f s docs pool pool' groups groups' cache cache' steps old mid new servers servers' name id design place path within path_is read plans slot brings follow before at fit last_folder reads.disk pool'' cache'' servers'' same_servers same_pool (met_by id (by_index fault)) (read_never shown id fault reads.faults))
            (λ step is other before at fit. unread_stopped f s docs pool pool' groups groups' cache cache' steps old mid new servers servers' name id design place path within path_is read plans slot brings follow before at fit last_folder reads.disk pool'' cache'' servers'' same_servers same_pool))
            tt refl (λ is. absurd (read_never shown id fault reads.faults ServerFault (let same : met_by id (by_index fault) ≡ Refused ServerFault = cc in same)))
            (follows_asked f docs old last_folder name out out id named live (met_by id (by_index fault)) (met_of_view id (by_index fault))) tt
            (λ r is. absurd (read_never shown id fault reads.faults r (let same : met_by id (by_index fault) ≡ Refused r = cc in same)))
            (moves reads.disk reads.cause.later) (λ goes. opens reads.disk reads.cause.later)
            (λ before at fit file limit is. absurd (read_unfilled shown id fault reads.faults file limit (let full : met_by id (by_index fault) ≡ Stopped (Full file limit) = cc in full)))
            (read_why f s docs pool pool'' groups groups' cache cache' cache'' old mid new last_folder servers servers'' name id design place path true updates read earlier plans is_open asked follow.moves counted slot shown brings.place.1
            (told_now (f.disk last_folder) (λ d. IsOpen engine'' d.now) _ (λ d here. here.indexes) (opens reads.disk reads.cause.later)) at_some steps' fault reads)
            (stays reads.disk reads.cause.later (record { languages = ap (λ (p : Pool). languages_of p) same_pool; width = ap (λ (p : Pool). p.width) same_pool })
            (subst (λ (c : C). s.faults servers' ≤ s.faults c) (sym same_servers) (omega arith)))

      -- ---- they were read
      module _ (steps' : ℕ) (rows : List Row) (reads : Rows steps' (Ok rows)) where
        abbrev Answered : List ℕ → Type 0
        Answered out' = AppendsAnswer s servers' servers'' pool' pool'' design place query (picture_of shown).seq rows out out' × HasAll s servers' servers'' pool' pool'' design place query (picture_of shown).seq rows

        abbrev HasMetIt : PoolFault → Type 0
        HasMetIt fault = HasMet s servers' servers'' pool' pool'' design place query (picture_of shown).seq rows fault

        -- they are those of the picture that is shown
        rows_shown : (before : Moment) (at : StandsAt f s now before) (fit : IfTold (f.disk old) (λ d. AreFit before.world.history)) → IfTold (f.disk new) (λ d. rows ≡ slice_index_or (picture_of shown).rows place [])
        rows_shown before at fit =
            rows_of_picture f (kinds_of before.world) groups' (with_picture before.world design (picture_of shown)).pictures slot (sig_of design) (views_in design) place shown new last_folder cache' cache'' steps' rows brings.place.1 reads
            (told_now (f.disk new) _ _ (λ d here. here.indexes)
            (at_new f s docs pool pool' groups groups' cache cache' steps old mid new servers servers' name id design place path within path_is read plans slot brings follow before at fit))

        -- the values were had
        answered_then : {out' : List ℕ} → Answered out' → Performed f s now last (Ok (view_request name)) out out' (Ok tt)
        answered_then {out'} (answers, all) =
            viewed f s now last name
            (λ before at fit. shown_leaves f s docs pool pool' groups groups' cache cache' steps old mid new servers servers' name id design place path within path_is read plans slot brings follow before at fit last_folder reads.disk pool'' cache'' servers'' rows query query_is (rows_shown before at fit) reads.parts out out' (answers, all))
            (record { reply = answers.reply; line = answers.line; appended = answers.appended; unlike = λ other. answers.unlike }) tt (λ is. let clash : ⊥ = cc in absurd clash)
            (follows_view f docs old last_folder name out out' live answers.reply answers.appended) taken (λ r is. absurd (let clash : ⊥ = cc in clash))
            (moves reads.disk reads.cause.later) (λ goes. opens reads.disk reads.cause.later) (λ before at fit file limit is. absurd cc) tt (stays reads.disk reads.cause.later all.keeps all.later)

        -- or they were not
        met_then : {out' : List ℕ} (fault : PoolFault) → HasMetIt fault → out' ≡ out → Performed f s now last (Ok (view_request name)) out out' (Err (met_by_pool id fault))
        met_then {out'} fault met silent =
            let made : StaysAsMade pool' pool'' × (s.faults servers' ≤ s.faults servers'') = ⊎_elim (λ fails. (fails.keeps, fails.later)) (λ spent. (spent.1.keeps, spent.1.later)) met in
            viewed f s now last name
            (does_halted f s now last name out out' (met_by_pool id fault)
            (λ goes before at fit. halted_leaves f s docs pool pool' groups groups' cache cache' steps old mid new servers servers' name id design place path within path_is read plans slot brings follow before at fit last_folder reads.disk pool'' cache'' servers'' rows query query_is (rows_shown before at fit) fault met)
            (λ step is other before at fit. absurd (other (stops_for_memory id fault step is))))
            tt silent
            (λ is. ⊎_elim (λ fails. rose_since _ _ _ follow.later.1 (fails.twice (pool_server_fault id fault (let same : met_by_pool id fault ≡ Refused ServerFault = cc in same))))
            (λ spent. absurd (never_refused id fault ServerFault spent.0 (let same : met_by_pool id fault ≡ Refused ServerFault = cc in same))) met)
            (follows_asked f docs old last_folder name out out' id named live (met_by_pool id fault) (pool_of_view id fault)) tt
            (λ r is. leaves_pool f s now last name taken id fault r (let same : met_by_pool id fault ≡ Refused r = cc in same))
            (moves reads.disk reads.cause.later) (λ goes. opens reads.disk reads.cause.later)
            (λ before at fit file limit is. absurd (let full : met_by_pool id fault ≡ Stopped (Full file limit) = cc in let spent : Full file limit ≡ NoMemory = stops_for_memory id fault (Full file limit) full in cc))
            (memory_alone (IsReasonOf f engine engine'' old last_folder (Ok (view_request name))) (inl tt) id fault)
            (stays reads.disk reads.cause.later made.0 made.1)

        rows_then : {out' : List ℕ} (result : Result (Unit {0}) Halt) → AnswersRows s servers' servers'' pool' pool'' design place query (picture_of shown).seq rows id out out' result → Performed f s now last (Ok (view_request name)) out out' result
        rows_then (Ok done) shows = answered_then shows.ok
        rows_then {out'} (Err halt) shows = subst (λ (h : Halt). Performed f s now last (Ok (view_request name)) out out' (Err h)) (sym (shows.err).1) (met_then (shows.err).0 (shows.err).2 shows.silent)

      pub shown_then : {out' : List ℕ} (result : Result (Unit {0}) Halt) → ShowsView f s (lent new servers' pool' cache') (lent last_folder servers'' pool'' cache'') design place query found id out out' result
          → Performed f s now last (Ok (view_request name)) out out' result
      shown_then {out'} result shows =
          let here = subst (λ (i : Index). ShowsView f s (lent new servers' pool' cache') (lent last_folder servers'' pool'' cache'') design place query i id out out' result) same_index shows in
          by_read here.read here.steps here.reads here.ends
        where
          by_read : (rows : Result (List Row) IndexFault) (steps' : ℕ) → Rows steps' rows
              → EndsReading f s (lent new servers' pool' cache') (lent last_folder servers'' pool'' cache'') design place query shown id out out' rows result → Performed f s now last (Ok (view_request name)) out out' result
          by_read (Ok rows) steps' reads ends = rows_then steps' rows reads result ends
          by_read (Err fault) steps' reads ends =
              subst (λ (r : Result (Unit {0}) Halt). Performed f s now last (Ok (view_request name)) out out' r) (sym ends.0)
              (subst (λ (o : List ℕ). Performed f s now last (Ok (view_request name)) out o (Err (met_by id (by_index fault)))) (sym ends.3) (unread_then steps' fault reads ends.1 ends.2))
