-- What was asked of the query servers as the index of a view's design was brought up to date.
use Rattle.std.specs.Prelude.{◌≡◌, ◌≢◌, ◌⊎◌, ◌<◌, ◌≤◌, ◌++◌, ℕ, List, [], ◌∷◌, filter_map, length, map, Option, None, Some, Result, Ok, Err, IfErr, IfOk}
use Rattle.std.proofs.Common.{refl, sym, ap, ◌∙◌, subst, inl, inr, arith}
use Rattle.json_terms.specs.Json.{Json}
use Rattle.design_docs.specs.declared.design.Design.{Design}
use Rattle.design_docs.specs.Design.{map_sources}
use Rattle.query_protocol.specs.CommandLines.{document_of}
use Rattle.view_ports.specs.Calls.{Call}
use Rattle.view_ports.specs.Disk.{Disk, IfTold}
use Rattle.view_ports.specs.Faults.{Rose, RoseBy}
use Rattle.view_ports.specs.declared.file_name.FileName.{FileName}
use Rattle.view_ports.specs.declared.servers.Servers.{Ghosts as Servers}
use Rattle.view_ports.proofs.Told.{told_all, told_now, told_pair}
use Rattle.gate_file.specs.declared.fault.GateFault.{GateFault}
use Rattle.gate_file.specs.declared.fault.GateFault.TheVariants as gate
use Rattle.child_pool.specs.declared.doc_rows.DocRowLists.{DocRowLists}
use Rattle.child_pool.specs.declared.pool.Pool.{Pool}
use Rattle.child_pool.specs.declared.pool_fault.PoolFault.{PoolFault}
use Rattle.child_pool.specs.declared.pool_fault.PoolFault.TheVariants as fault
use Rattle.child_pool.specs.Firsts.{FirstAreMapped, HasMappedFirst}
use Rattle.child_pool.specs.Histories.{WentIn}
use Rattle.child_pool.specs.Jobs.{job_of}
use Rattle.child_pool.specs.Languages.{path_in}
use Rattle.child_pool.specs.PoolCalls.{MapsAll, StaysAsMade}
use Rattle.child_pool.specs.ReduceTalk.{reduce_sources}
use Rattle.child_pool.specs.Reductions.{FailsReducing, Reduces}
use Rattle.child_pool.specs.Pools.{languages_of, HasItsChildren}
use Rattle.child_pool.proofs.Nexts.{first_whole, nothing_first}
use Rattle.child_pool.proofs.Updated.{stands_stopped}
use Rattle.design_docs.specs.History.{Write, mapped_by}
use Rattle.view_model.proofs.Firsts.{changes_none}
use Rattle.row_exchange.specs.declared.doc_rows.DocRows.{DocRows}
use Rattle.change_mapper.specs.declared.fault.MappingFault.{MappingFault}
use Rattle.change_mapper.specs.declared.fault.MappingFault.TheVariants as mapping
use Rattle.change_mapper.specs.Faults.{by_pool as mapped_by_pool}
use Rattle.change_mapper.specs.Mapped.{HasMappedSome, IsBreak, IsMetAs}
use Rattle.change_mapper.specs.Written.{documents_since}
use Rattle.tree_index.specs.declared.fault.IndexFault.TheVariants as index
use Rattle.tree_updater.specs.declared.fault.UpdateFault.{UpdateFault}
use Rattle.tree_updater.specs.declared.fault.UpdateFault.TheVariants as update
use Rattle.tree_updater.specs.Asking.{HasAskedFor, HasReduced, IsMetBy, ThenReduces}
use Rattle.tree_updater.specs.Faults.{by_mapping, by_pool}
use Rattle.tree_updater.specs.Made.{IsRefused as IsUpdateRefused}
use Rattle.tree_updater.specs.Paths.{IsPathOf}
use Rattle.tree_groups.specs.Follows.{IsIdleEnd}
use Rattle.tree_groups.specs.Reached.{picture_for}
use Rattle.view_engine.specs.declared.halt.Halt.TheVariants.{Refused}
use Rattle.view_engine.specs.declared.refusal.Refusal.{Refusal}
use Rattle.view_engine.specs.Engine.{HasChild}
use Rattle.view_engine.specs.Moments.{CalledReducing, Moment}
use Rattle.view_engine.specs.Reducing.{Reduced, ReducedSomehow}
use Rattle.view_engine.specs.Refusals.{refusal_text}
use Rattle.view_engine.specs.Steps.{DoesRequest, MayHaveCalled}
use Rattle.view_engine.specs.Updating.{IsBrought}
use Rattle.view_engine.specs.View.{due_reduces, own_reduces, DoesUpdatedView, IsBroughtUp, IsRefusedReducing, IsRefusedWriting, IsRightly}
use Rattle.view_engine.specs.ViewPlan.{met_by, met_by_pool, source_at, IsUpdateFault}
use Rattle.view_engine.specs.World.{World}
use Rattle.view_engine.proofs.Viewed.{asked_some, asked_then, asked_up, at_moment, breaks_at_moment, mapped_alone, mapped_then, none_due, reduces_are, refuses, shown_then, spoiled_there, IsKnown, Updates}
use Rattle.view_engine.proofs.Reduced.{HasGone, all_had, met_there, nothing_reduced, refused_reducing, somehow_had, somehow_met}
use Rattle.view_engine.specs.ViewQuery.{ViewQuery, view_request}

-- ---- how a refusal is met

-- of a file nothing is refused
file_stops : (g : GateFault) (id : List ℕ) (r : Refusal) → met_by id (update.Docs g) ≡ Refused r → ⊥
file_stops gate.DiskFault id r is = let clash : ⊥ = cc in clash
file_stops (gate.Damaged name at) id r is = let clash : ⊥ = cc in clash
file_stops (gate.Full name length) id r is = let clash : ⊥ = cc in clash
file_stops gate.NoMemory id r is = let clash : ⊥ = cc in clash

-- what breaks the mapping off is no refusal
break_stops : (f : MappingFault) (id : List ℕ) (r : Refusal) → IsBreak {T = List DocRows} (Err f) → met_by id (by_mapping f) ≡ Refused r → ⊥
break_stops mapping.NoMemory id r cause is = let clash : ⊥ = cc in clash
break_stops (mapping.Docs g) id r cause is = file_stops g id r is
break_stops (mapping.Pool f) id r cause is = cause

-- nor is what ends it before anything was asked
idle_stops : (f : UpdateFault) (id : List ℕ) (r : Refusal) → IsUpdateFault f → IsIdleEnd (Err f) → met_by id f ≡ Refused r → ⊥
idle_stops update.NoMemory id r kind end is = let clash : ⊥ = cc in clash
idle_stops (update.Docs g) id r kind end is = file_stops g id r is
idle_stops (update.Pool f) id r kind end is = end
idle_stops (update.Index (index.Store g)) id r kind end is = file_stops g id r is
idle_stops (update.Index other) id r kind end is = kind.0

-- the pool's refusal is that of the update
by_pool_met : (id : List ℕ) (f : PoolFault) → met_by id (by_pool f) ≡ met_by_pool id f
by_pool_met id fault.ServerFault = refl
by_pool_met id (fault.BadReply line) = refl
by_pool_met id fault.Compile = refl
by_pool_met id fault.NoMemory = refl
by_pool_met id fault.UnknownLanguage = refl

-- also of what is met as documents are mapped
by_mapping_met : (f : PoolFault) → by_mapping (mapped_by_pool f) ≡ by_pool f
by_mapping_met fault.ServerFault = refl
by_mapping_met (fault.BadReply line) = refl
by_mapping_met fault.Compile = refl
by_mapping_met fault.NoMemory = refl
by_mapping_met fault.UnknownLanguage = refl

-- where all was mapped no refusal is told
mapped_stops : (f : MappingFault) (id : List ℕ) (r : Refusal) (lists : DocRowLists) → IsMetAs {T = List DocRows} (Ok lists) (Err f) → met_by id (by_mapping f) ≡ Refused r → ⊥
mapped_stops mapping.NoMemory id r lists met is = let clash : ⊥ = cc in clash
mapped_stops (mapping.Docs g) id r lists met is = file_stops g id r is
mapped_stops (mapping.Pool fault.NoMemory) id r lists met is = let clash : ⊥ = cc in clash
mapped_stops (mapping.Pool fault.UnknownLanguage) id r lists met is = let told = met fault.UnknownLanguage refl in let clash : ⊥ = cc in clash
mapped_stops (mapping.Pool fault.ServerFault) id r lists met is = let told = met fault.ServerFault refl in let clash : ⊥ = cc in clash
mapped_stops (mapping.Pool (fault.BadReply line)) id r lists met is = let told = met (fault.BadReply line) refl in let clash : ⊥ = cc in clash
mapped_stops (mapping.Pool fault.Compile) id r lists met is = let told = met fault.Compile refl in let clash : ⊥ = cc in clash

-- nor where all values were had
had_stops : (f : UpdateFault) (id : List ℕ) (r : Refusal) → IsUpdateFault f → IsMetBy {T = ℕ} (Ok tt) (Err f) → met_by id f ≡ Refused r → ⊥
had_stops update.NoMemory id r kind met is = let clash : ⊥ = cc in clash
had_stops (update.Docs g) id r kind met is = file_stops g id r is
had_stops (update.Pool fault.NoMemory) id r kind met is = let clash : ⊥ = cc in clash
had_stops (update.Pool fault.UnknownLanguage) id r kind met is = let clash : ⊥ = cc in clash
had_stops (update.Pool fault.ServerFault) id r kind met is = let told = met fault.ServerFault refl in let clash : ⊥ = cc in clash
had_stops (update.Pool (fault.BadReply line)) id r kind met is = let told = met (fault.BadReply line) refl in let clash : ⊥ = cc in clash
had_stops (update.Pool fault.Compile) id r kind met is = let told = met fault.Compile refl in let clash : ⊥ = cc in clash
had_stops (update.Index (index.Store g)) id r kind met is = file_stops g id r is
had_stops (update.Index other) id r kind met is = kind.0

-- no document is mapped of a picture of all writes
none_since : (seq : ℕ) (history : List Write) → seq ≡ length history → documents_since seq history ≡ []
none_since seq history same = ap (λ changes. map (λ entry. document_of entry.1) (filter_map (λ change. mapped_by change.1) changes)) (changes_none seq history (omega (arith, same)))

-- where this is so something is told
told_if : {P : Type 0} (Q : Type 0) (x : Option (Disk FileName)) → (P → IfTold x (λ d. Q)) → IfTold x (λ d. P → Q)
told_if Q None told = tt
told_if Q (Some d) told = told

module _ {C : Type 0} (s : Servers C) (before : Moment) (name : ViewQuery) (id : List ℕ) (design : Design) (place : ℕ) (path : List ℕ) (within : place < length design.views)
    (pool : Pool) (servers : C) (path_is : path_in (languages_of pool) design.language ≡ Some path) (child : HasChild (s.may_follow servers) (s.faults servers) pool before) (x : Option (Disk FileName)) where
  abbrev languages : List (List ℕ × List ℕ)
  languages = languages_of pool

  abbrev seq : ℕ
  seq = (picture_for design before.world.pictures).seq

  abbrev Known : List (List (List ℕ × Json)) → Type 0
  Known documents = IsKnown languages before name id design place path documents

  -- what is told of the documents that were asked for
  abbrev pub AreSince : List (List (List ℕ × Json)) → Type 0
  AreSince documents = (documents ≡ documents_since seq before.world.history) × (seq ≢ length before.world.history)

  -- the moment after these calls
  abbrev pub then : Pool → C → World → List Call → Moment
  then pool' servers' left now = record { world = left; width = before.width; started = pool'.started; reducer = pool'.reducer; calls = now; faults = s.faults servers' }

  abbrev pub HasChildThen : Pool → C → World → List Call → Type 0
  HasChildThen pool' servers' left now = HasChild (s.may_follow servers') (s.faults servers') pool' (then pool' servers' left now)

  abbrev MayHave : Moment → Type 0
  MayHave = MayHaveCalled s.functions s.honest languages before (Ok (view_request name))

  abbrev MayRefuse : Refusal → Moment → Type 0
  MayRefuse r = DoesRequest s.functions s.honest languages before (Ok (view_request name)) (refusal_text r)

  -- how the query servers were left where the world is as it was, and what that is
  pub record IsLeft (pool' : Pool) (servers' : C) (f : UpdateFault) : Type 0 where
    pub now : List Call
    pub has_child : HasChildThen pool' servers' before.world now
    pub called : IfTold x (λ d. MayHave (then pool' servers' before.world now))
    pub refused : (r : Refusal) → met_by id f ≡ Refused r → IfTold x (λ d. MayRefuse r (then pool' servers' before.world now))

  -- nothing was asked
  idle_left : (pool' : Pool) (servers' : C) (f : UpdateFault) → servers' ≡ servers → pool' ≡ pool → ((r : Refusal) → met_by id f ≡ Refused r → ⊥) → IsLeft pool' servers' f
  idle_left pool' servers' f same_servers same_pool never =
      let same : then pool' servers' before.world before.calls ≡ before = λ i. record {
        world = before.world;
        width = before.width;
        started = (ap (λ (p : Pool). p.started) same_pool ∙ child.started) i;
        reducer = (ap (λ (p : Pool). p.reducer) same_pool ∙ child.reducer) i;
        calls = before.calls;
        faults = (ap s.faults same_servers ∙ child.counts) i;
      } in
      record {
        now = before.calls;
        has_child = record {
          width = ap (λ (p : Pool). p.width) same_pool ∙ child.width;
          started = refl;
          reducer = refl;
          child = subst (λ p. HasItsChildren p before.calls) (sym same_pool) child.child;
          follows = subst (λ c. s.may_follow c before.calls) (sym same_servers) child.follows;
          counts = refl;
        };
        called = told_all x (λ d. MayHave (then pool' servers' before.world before.calls)) (λ d. inl same);
        refused = λ r is. absurd (never r is);
      }

  -- ---- documents were mapped: by the pool and the servers between

  module _ (between : C) (pool_between : Pool) (keeps : StaysAsMade pool pool_between) (later : s.faults servers ≤ s.faults between) where
    has_child : (left : World) (now : List Call) → s.may_follow between now → HasItsChildren pool_between now → HasChildThen pool_between between left now
    has_child left now follows there = record { width = keeps.width ∙ child.width; started = refl; reducer = refl; child = there; follows = follows; counts = refl }

    -- the first documents alone were mapped
    broken_left : (f : MappingFault) → IsBreak {T = List DocRows} (Err f) → (documents : List (List (List ℕ × Json))) → IfTold x (λ d. Known documents) → (done rest : List (List (List ℕ × Json))) → documents ≡ done ++ rest → (lists : DocRowLists)
        → FirstAreMapped s servers between pool pool_between design done lists → IsLeft pool_between between (by_mapping f)
    broken_left f cause documents known [] rest all lists mapped = let idle = mapped.idle refl in idle_left pool_between between (by_mapping f) idle.0 idle.1 (λ r is. break_stops f id r cause is)
    broken_left f cause documents known (first ∷ done) rest all lists mapped =
        let some : first ∷ done ≢ [] = λ none. let clash : ⊥ = cc in clash in
        let w = breaks_at_moment s.functions s.honest languages before name id design place path within documents (s.may_follow between) (s.faults servers) (s.faults between) pool_between child.counts later pool child.width child.started child.reducer (first ∷ done) lists
        (subst (λ (all_of : List (List (List ℕ × Json))). WentIn (s.may_follow between) (job_of path (map_sources design.views) all_of) pool.width before.calls
        (HasMappedFirst s.functions s.honest (job_of path (map_sources design.views) all_of) pool (first ∷ done) (Rose (s.faults servers) (s.faults between)) pool_between lists)) (sym all)
        (mapped.maps some rest path before.calls child.follows path_is child.child)) in
        record {
          now = w.now;
          has_child = has_child before.world w.now w.follows w.holds.is_ready.there;
          called = told_now x (λ d. Known documents) (λ d. MayHave (then pool_between between before.world w.now))
              (λ d k. asked_some s.functions s.honest languages before name id design place path within documents (s.may_follow between) (s.faults servers) (s.faults between) pool_between child.counts later pool child.width child.started child.reducer (first ∷ done) rest lists all some w k) known;
          refused = λ r is. absurd (break_stops f id r cause is);
        }

    -- the servers gave up
    given_left : (f : MappingFault) → (f ≡ mapping.Pool fault.ServerFault → RoseBy 2 (s.faults servers) (s.faults between)) → (documents : List (List (List ℕ × Json))) → IfTold x (λ d. Known documents)
        → (g : PoolFault) → IsMetAs {T = List DocRows} (Err g) (Err f) → documents ≢ [] → MapsAll s servers between pool design documents pool_between (Err g) → IsLeft pool_between between (by_mapping f)
    given_left f twice documents known g met some maps =
        let same : f ≡ mapped_by_pool g = cc in
        let w = at_moment s.functions s.honest languages before name id design place path within documents (s.may_follow between) (s.faults servers) (s.faults between) pool_between child.counts later pool child.width child.started child.reducer (Err g)
        (maps path before.calls child.follows path_is child.child) in
        let told : g ≡ fault.ServerFault → RoseBy 2 (s.faults servers) (s.faults between) = λ is. twice (same ∙ ap mapped_by_pool is) in
        record {
          now = w.now;
          has_child = has_child before.world w.now w.follows (stands_stopped pool_between w.now w.holds.1.stopped);
          called = told_now x (λ d. Known documents) (λ d. MayHave (then pool_between between before.world w.now))
              (λ d k. asked_up s.functions s.honest languages before name id design place path within documents (s.may_follow between) (s.faults servers) (s.faults between) pool_between child.counts later pool child.width child.started child.reducer g some told w k) known;
          refused = λ r is. told_now x (λ d. Known documents) (λ d. MayRefuse r (then pool_between between before.world w.now))
              (λ d k. inl (inl (refuses s.functions s.honest languages before name id design place path within documents (s.may_follow between) (s.faults servers) (s.faults between) pool_between child.counts later pool child.width child.started child.reducer g r w some k told (sym (ap (λ m. met_by id (by_mapping m)) same ∙ ap (met_by id) (by_mapping_met g) ∙ by_pool_met id g) ∙ is)))) known;
        }

    -- not all were mapped
    unmapped_left : (f : MappingFault) → (f ≡ mapping.Pool fault.ServerFault → RoseBy 2 (s.faults servers) (s.faults between)) → (documents : List (List (List ℕ × Json))) → IfTold x (λ d. Known documents)
        → HasMappedSome s servers between pool pool_between design documents {T = List DocRows} (Err f) → IsLeft pool_between between (by_mapping f)
    unmapped_left f twice documents known (inl mapped) = by_end mapped.mapped mapped.met mapped.idle mapped.some mapped.maps
      where
        by_end : (end : Result DocRowLists PoolFault) → IsMetAs {T = List DocRows} end (Err f) → IfOk end (λ lists. documents ≡ [] → (between ≡ servers) × (pool_between ≡ pool)) → IfErr end (λ fault. documents ≢ []) → MapsAll s servers between pool design documents pool_between end
            → IsLeft pool_between between (by_mapping f)
        by_end (Ok lists) met idle some maps =
            let w = at_moment s.functions s.honest languages before name id design place path within documents (s.may_follow between) (s.faults servers) (s.faults between) pool_between child.counts later pool child.width child.started child.reducer (Ok lists)
            (maps path before.calls child.follows path_is child.child) in
            record {
              now = w.now;
              has_child = has_child before.world w.now w.follows w.holds.1.0;
              called = told_now x (λ d. Known documents) (λ d. MayHave (then pool_between between before.world w.now))
                  (λ d k. mapped_alone s.functions s.honest languages before name id design place path within documents (s.may_follow between) (s.faults servers) (s.faults between) pool_between child.counts later pool child.width child.started child.reducer lists (λ none. ap (λ (p : Pool). p.started) (idle none).1) w k) known;
              refused = λ r is. absurd (mapped_stops f id r lists met is);
            }
        by_end (Err g) met idle some maps = given_left f twice documents known g met some maps
    unmapped_left f twice documents known (inr broken) = broken_left f broken.cause documents known broken.done broken.left broken.all broken.lists broken.mapped

    -- ---- all were mapped, and then values of reduces asked for

    module _ (documents : List (List (List ℕ × Json))) (lists : DocRowLists) (idle : documents ≡ [] → (between ≡ servers) × (pool_between ≡ pool)) (maps : MapsAll s servers between pool design documents pool_between (Ok lists))
        (pool' : Pool) (servers' : C) where
      pub went : Updates s.functions s.honest languages before name id design place path within documents (s.may_follow between) (s.faults servers) (s.faults between) pool_between child.counts later pool child.width child.started child.reducer before.width (Ok lists)
      went = at_moment s.functions s.honest languages before name id design place path within documents (s.may_follow between) (s.faults servers) (s.faults between) pool_between child.counts later pool child.width child.started child.reducer (Ok lists)
          (maps path before.calls child.follows path_is child.child)

      abbrev pub mapped : Moment
      mapped = then pool_between between before.world went.now

      pub mapped_child : HasChild (s.may_follow between) (s.faults between) pool_between mapped
      mapped_child = has_child before.world went.now went.follows went.holds.1.0

      pub path_still : path_in (languages_of pool_between) design.language ≡ Some path
      path_still = ap (λ (l : List (List ℕ × List ℕ)). path_in l design.language) keeps.languages ∙ path_is

      -- the moment then, a later one, and how it came to that
      pub asked_later : (k : Known documents) (now : Moment) → ReducedSomehow path (due_reduces k.plan.document before.world) mapped now → now.world ≡ before.world → MayHave now
      asked_later k now asked same =
          asked_then s.functions s.honest languages before name id design place path within documents (s.may_follow between) (s.faults servers) (s.faults between) pool_between child.counts later pool child.width child.started child.reducer lists (λ none. ap (λ (p : Pool). p.started) (idle none).1) went k now asked same

      pub shown_later : (k : Known documents) (had_by now : Moment) → Reduced path (due_reduces k.plan.document before.world) mapped had_by
          → IsBrought s.functions s.honest languages k.plan.document path before.world now.world → ReducedSomehow path (own_reduces name k.plan.document now.world) had_by now → MayHave now
      shown_later k had_by now had brought reduced =
          shown_then s.functions s.honest languages before name id design place path within documents (s.may_follow between) (s.faults servers) (s.faults between) pool_between child.counts later pool child.width child.started child.reducer lists (λ none. ap (λ (p : Pool). p.started) (idle none).1) went k had_by now had brought reduced

      pub does_later : (k : Known documents) (now : Moment) (reply : List ℕ)
          → IsRefusedWriting s.functions s.honest languages name k.plan.document path before.world mapped now reply ⊎ IsBroughtUp s.functions s.honest languages name k.plan.document path (source_at design.views place) before.world mapped now reply
          → DoesUpdatedView s.functions s.honest languages before name reply now
      does_later k now reply ends =
          mapped_then s.functions s.honest languages before name id design place path within documents (s.may_follow between) (s.faults servers) (s.faults between) pool_between child.counts later pool child.width child.started child.reducer lists (λ none. ap (λ (p : Pool). p.started) (idle none).1) went k now reply ends

      -- all values were had
      pub had_there : (sources : List (List ℕ)) → Reduces s between servers' pool_between pool' design.language sources → (left : World)
          → HasGone s between servers' pool_between pool' mapped mapped_child design.language path path_still sources (λ after. Reduced path sources mapped after) left
      had_there sources all left = all_had s between servers' pool_between pool' mapped mapped_child design.language path path_still sources all left

      abbrev sources : List (List ℕ)
      sources = reduce_sources design.views

      -- something was written since the picture
      abbrev IsDue : Disk FileName → Type 0
      IsDue d = Known documents × (seq ≢ length before.world.history)

      sources_are : (k : Known documents) → seq ≢ length before.world.history → sources ≡ due_reduces k.plan.document before.world
      sources_are k differs = reduces_are s.functions s.honest languages before name id design place path within documents k differs

      -- and then it was refused
      had_left : (f : UpdateFault) → IfTold x IsDue → Reduces s between servers' pool_between pool' design.language sources → ((r : Refusal) → met_by id f ≡ Refused r → ⊥) → IsLeft pool' servers' f
      had_left f due all never =
          let gone = had_there sources all before.world in
          let now : Moment = then pool' servers' before.world gone.now in
          record {
            now = gone.now;
            has_child = gone.has_child;
            called = told_now x IsDue (λ d. MayHave now)
                (λ d k. asked_later k.0 now (subst (λ (r : List (List ℕ)). ReducedSomehow path r mapped now) (sources_are k.0 k.1) (somehow_had path sources mapped now gone.holds)) refl) due;
            refused = λ r is. absurd (never r is);
          }

      -- a fault was met as they were asked for
      met_left : (f : UpdateFault) (g : PoolFault) → f ≡ by_pool g → FailsReducing s between servers' pool_between pool' design.language sources g → IfTold x IsDue
          → IfTold x (λ d. (k : Known documents) → g ≡ fault.Compile → IsRightly s.functions s.honest languages k.plan.document path before.world) → IsLeft pool' servers' f
      met_left f g same fails due right =
          let gone = met_there s between servers' pool_between pool' mapped mapped_child design.language path path_still sources g fails before.world in
          let now : Moment = then pool' servers' before.world gone.now in
          record {
            now = gone.now;
            has_child = gone.has_child;
            called = told_now x IsDue (λ d. MayHave now)
                (λ d k. asked_later k.0 now
                (subst (λ (r : List (List ℕ)). ReducedSomehow path r mapped now) (sources_are k.0 k.1)
                (somehow_met s between servers' pool_between pool' mapped mapped_child design.language path path_still sources g now gone.holds)) refl) due;
            refused = λ r is. told_now x (λ d. IsDue d × ((k : Known documents) → g ≡ fault.Compile → IsRightly s.functions s.honest languages k.plan.document path before.world)) (λ d. MayRefuse r now)
                (λ d both.
                let k = both.0.0 in
                inl (inl (does_later k now (refusal_text r) (inl (record {
                  same = refl;
                  called = subst (λ (l : List (List ℕ)). CalledReducing path l mapped now (IsRefusedReducing s.functions s.honest name path l (IsRightly s.functions s.honest languages k.plan.document path before.world) mapped now (refusal_text r))) (sources_are k both.0.1)
                      (refused_reducing s between servers' pool_between pool' mapped mapped_child design.language path path_still sources name id k.plan.id_is before.world g r (sym (ap (met_by id) same ∙ by_pool_met id g) ∙ is) fails.twice
                      (IsRightly s.functions s.honest languages k.plan.document path before.world) (both.1 k) gone.now gone.holds);
                })))))
                (told_pair x IsDue (λ d. (k : Known documents) → g ≡ fault.Compile → IsRightly s.functions s.honest languages k.plan.document path before.world) _ (λ d k is. (k, is)) due right);
          }

  -- ---- however the update was refused

  -- a complaint of an honest path is right
  abbrev pub ComplainsRightly : Type 0
  ComplainsRightly = (p : List ℕ) → IsPathOf s servers pool design p → s.honest p → IsUpdateRefused s.functions s.honest design p before.world.history (picture_for design before.world.pictures)

  own_path : IsPathOf s servers pool design path
  own_path = record { known = path_is; calls = before.calls; follows = child.follows; children = child.child }

  rightly : (documents : List (List (List ℕ × Json))) (k : Known documents) → ComplainsRightly → IsRightly s.functions s.honest languages k.plan.document path before.world
  rightly documents k right = λ is_honest sound fit.
      spoiled_there s.functions s.honest languages before name id design place path within documents k is_honest sound fit (right path own_path is_honest)

  module _ (pool' : Pool) (servers' : C) where
    -- they were asked for
    asked_left : (f : UpdateFault) → IsUpdateFault f → (documents : List (List (List ℕ × Json))) → IfTold x (λ d. Known documents) → IfTold x (λ d. seq ≢ length before.world.history)
        → (f ≡ update.Pool fault.Compile → IfTold x (λ d. ComplainsRightly))
        → HasAskedFor s servers servers' pool pool' design {T = ℕ} documents (Err f) → IsLeft pool' servers' f
    asked_left f kind documents known differs right asked = by_mapped asked.mapped asked.maps asked.twice asked.reduces
      where
        due : IfTold x (λ d. Known documents × (seq ≢ length before.world.history))
        due = told_pair x (λ d. Known documents) (λ d. seq ≢ length before.world.history) _ (λ d k is. (k, is)) known differs

        by_reduced : (lists : DocRowLists) → (documents ≡ [] → (asked.between ≡ servers) × (asked.pool_between ≡ pool)) → MapsAll s servers asked.between pool design documents asked.pool_between (Ok lists)
            → (reduced : Result (Unit {0}) PoolFault) → HasReduced s asked.between servers' asked.pool_between pool' design reduced → IsMetBy {T = ℕ} reduced (Err f) → IsLeft pool' servers' f
        by_reduced lists idle maps (Ok done) had met =
            had_left asked.between asked.pool_between asked.keeps asked.later documents lists idle maps pool' servers' f due had (λ r is. had_stops f id r kind met is)
        by_reduced lists idle maps (Err g) had met =
            let same : f ≡ by_pool g = cc in
            met_left asked.between asked.pool_between asked.keeps asked.later documents lists idle maps pool' servers' f g same had due
            (told_now x (λ d. g ≡ fault.Compile → ComplainsRightly) _ (λ d told k is. rightly documents k (told is)) (told_if _ x (λ is. right (same ∙ ap by_pool is))))

        by_maps : (rows : List DocRows) → HasMappedSome s servers asked.between pool asked.pool_between design documents {T = List DocRows} (Ok rows)
            → ThenReduces s servers servers' pool pool' design {T = ℕ} asked.between asked.pool_between (Ok rows) (Err f) → IsLeft pool' servers' f
        by_maps rows (inl all) reduces = by_end all.mapped all.met all.idle all.maps
          where
            by_end : (end : Result DocRowLists PoolFault) → IsMetAs {T = List DocRows} end (Ok rows) → IfOk end (λ lists. documents ≡ [] → (asked.between ≡ servers) × (asked.pool_between ≡ pool)) → MapsAll s servers asked.between pool design documents asked.pool_between end → IsLeft pool' servers' f
            by_end (Ok lists) met idle maps = by_reduced lists idle maps reduces.0 reduces.1 reduces.2
            by_end (Err g) met idle maps = let clash : ⊥ = cc in absurd clash
        by_maps rows (inr broken) reduces = absurd broken.cause

        by_mapped : (mapped : Result (List DocRows) MappingFault) → HasMappedSome s servers asked.between pool asked.pool_between design documents mapped → (mapped ≡ Err (mapping.Pool fault.ServerFault) → RoseBy 2 (s.faults servers) (s.faults asked.between))
            → ThenReduces s servers servers' pool pool' design {T = ℕ} asked.between asked.pool_between mapped (Err f) → IsLeft pool' servers' f
        by_mapped (Ok rows) maps twice reduces = by_maps rows maps reduces
        by_mapped (Err g) maps twice reduces =
            let same : f ≡ by_mapping g = cc in
            subst (λ (p : Pool). IsLeft p servers' f) (sym reduces.2)
            (subst (λ (c : C). IsLeft asked.pool_between c f) (sym reduces.1)
            (subst (IsLeft asked.pool_between asked.between) (sym same)
            (unmapped_left asked.between asked.pool_between asked.keeps asked.later g (λ is. twice (ap Err is)) documents known maps)))

    pub left_there : (f : UpdateFault) → IsUpdateFault f
        → ((documents : List (List (List ℕ × Json))) → IfTold x (λ d. documents ≡ documents_since seq before.world.history) → IfTold x (λ d. Known documents))
        → (f ≡ update.Pool fault.Compile → IfTold x (λ d. ComplainsRightly))
        → ((servers' ≡ servers) × (pool' ≡ pool)) × IsIdleEnd (Err f)
        ⊎ ((documents : List (List (List ℕ × Json))) × HasAskedFor s servers servers' pool pool' design {T = ℕ} documents (Err f) × IfTold x (λ d. AreSince documents))
        → IsLeft pool' servers' f
    left_there f kind knows right (inl idle) = idle_left pool' servers' f idle.0.0 idle.0.1 (λ r is. idle_stops f id r kind idle.1 is)
    left_there f kind knows right (inr some) =
        asked_left f kind some.0 (knows some.0 (told_now x (λ d. AreSince some.0) _ (λ d is. is.0) some.2)) (told_now x (λ d. AreSince some.0) _ (λ d is. is.1) some.2) right some.1

    -- ---- the index was brought up to date

    -- all documents were mapped, and the values of what was written had
    pub record AreMapped : Type 0 where
      pub documents : List (List (List ℕ × Json))
      pub lists : DocRowLists
      pub since : IfTold x (λ d. documents ≡ documents_since seq before.world.history)
      pub between : C
      pub pool_between : Pool
      pub keeps : StaysAsMade pool pool_between
      pub later : s.faults servers ≤ s.faults between
      pub idle : documents ≡ [] → (between ≡ servers) × (pool_between ≡ pool)
      pub maps : MapsAll s servers between pool design documents pool_between (Ok lists)
      pub sources : List (List ℕ)
      pub had : Reduces s between servers' pool_between pool' design.language sources
      pub sources_are : IfTold x (λ d. (k : Known documents) → sources ≡ due_reduces k.plan.document before.world)

    nothing_mapped : ((servers' ≡ servers) × (pool' ≡ pool)) × IfTold x (λ d. seq ≡ length before.world.history) → AreMapped
    nothing_mapped idle = record {
      documents = [];
      lists = [];
      since = told_now x (λ d. seq ≡ length before.world.history) (λ d. [] ≡ documents_since seq before.world.history) (λ d same. sym (none_since seq before.world.history same)) idle.1;
      between = servers;
      pool_between = pool;
      keeps = record { languages = refl; width = refl };
      later = omega arith;
      idle = λ none. (refl, refl);
      maps = first_whole s design servers servers pool pool [] [] (nothing_first s design servers pool);
      sources = [];
      had = subst (λ (c : C). Reduces s servers c pool pool' design.language []) (sym idle.0.0) (subst (λ (p : Pool). Reduces s servers servers pool p design.language []) (sym idle.0.1) (nothing_reduced s servers pool design.language []));
      sources_are = told_now x (λ d. seq ≡ length before.world.history) _ (λ d same k. none_due s.functions s.honest languages before name id design place path within [] k same) idle.1;
    }

    some_mapped : (slot : ℕ) (documents : List (List (List ℕ × Json))) → HasAskedFor s servers servers' pool pool' design {T = ℕ} documents (Ok slot) → IfTold x (λ d. AreSince documents) → AreMapped
    some_mapped slot documents asked since = by_mapped asked.mapped asked.maps asked.reduces
      where
        by_reduced : (lists : DocRowLists) → (documents ≡ [] → (asked.between ≡ servers) × (asked.pool_between ≡ pool)) → MapsAll s servers asked.between pool design documents asked.pool_between (Ok lists)
            → (reduced : Result (Unit {0}) PoolFault) → HasReduced s asked.between servers' asked.pool_between pool' design reduced → IsMetBy {T = ℕ} reduced (Ok slot) → AreMapped
        by_reduced lists idle maps (Ok done) had met = record {
          documents = documents;
          lists = lists;
          since = told_now x (λ d. AreSince documents) _ (λ d all. all.0) since;
          between = asked.between;
          pool_between = asked.pool_between;
          keeps = asked.keeps;
          later = asked.later;
          idle = idle;
          maps = maps;
          sources = reduce_sources design.views;
          had = had;
          sources_are = told_now x (λ d. AreSince documents) _ (λ d all k. reduces_are s.functions s.honest languages before name id design place path within documents k all.1) since;
        }
        by_reduced lists idle maps (Err g) had met = let clash : ⊥ = cc in absurd clash

        by_maps : (rows : List DocRows) → HasMappedSome s servers asked.between pool asked.pool_between design documents {T = List DocRows} (Ok rows)
            → ThenReduces s servers servers' pool pool' design {T = ℕ} asked.between asked.pool_between (Ok rows) (Ok slot) → AreMapped
        by_maps rows (inl all) reduces = by_end all.mapped all.met all.idle all.maps
          where
            by_end : (end : Result DocRowLists PoolFault) → IsMetAs {T = List DocRows} end (Ok rows) → IfOk end (λ lists. documents ≡ [] → (asked.between ≡ servers) × (asked.pool_between ≡ pool)) → MapsAll s servers asked.between pool design documents asked.pool_between end → AreMapped
            by_end (Ok lists) met idle maps = by_reduced lists idle maps reduces.0 reduces.1 reduces.2
            by_end (Err g) met idle maps = let clash : ⊥ = cc in absurd clash
        by_maps rows (inr broken) reduces = absurd broken.cause

        by_mapped : (mapped : Result (List DocRows) MappingFault) → HasMappedSome s servers asked.between pool asked.pool_between design documents mapped
            → ThenReduces s servers servers' pool pool' design {T = ℕ} asked.between asked.pool_between mapped (Ok slot) → AreMapped
        by_mapped (Ok rows) maps reduces = by_maps rows maps reduces
        by_mapped (Err g) maps reduces = let clash : ⊥ = cc in absurd clash

    pub all_mapped : (slot : ℕ) → ((servers' ≡ servers) × (pool' ≡ pool)) × IfTold x (λ d. seq ≡ length before.world.history)
        ⊎ ((documents : List (List (List ℕ × Json))) × HasAskedFor s servers servers' pool pool' design {T = ℕ} documents (Ok slot) × IfTold x (λ d. AreSince documents)) → AreMapped
    all_mapped slot (inl idle) = nothing_mapped idle
    all_mapped slot (inr (documents, asked, since)) = some_mapped slot documents asked since
