-- An update page by page, over the calls of the pool.
use Rattle.std.specs.Prelude.{true, false}
use Rattle.std.proofs.Common.{◌≡◌, ◌≢◌, ◌<◌, ◌≤◌, ◌+◌, ◌++◌, ℕ, List, [], ◌∷◌, length, min, Some, OnOk, Result, Ok, Err, refl, sym, ap, ◌∙◌, subst, inl, inr, arith, append_assoc, append-nil}
use Rattle.std.specs.List.{AllByRecursion}
use Rattle.std.proofs.lemmas.List.{length-append}
use Rattle.json_terms.specs.Json.{Json}
use Rattle.view_ports.specs.Calls.{Call}
use Rattle.view_ports.specs.declared.servers.Servers.{Ghosts as Servers}
use Rattle.design_docs.specs.declared.design.Design.{Design}
use Rattle.design_docs.specs.Design.{map_sources}
use Rattle.child_pool.specs.declared.doc_rows.DocRowLists.{DocRowLists}
use Rattle.child_pool.specs.declared.pool.Pool.{Pool}
use Rattle.child_pool.specs.declared.pool_fault.PoolFault.{PoolFault}
use Rattle.child_pool.specs.Ends.{HasRisen}
use Rattle.child_pool.specs.Firsts.{has_some, slots_of, FirstAreMapped, FollowsFirst, HasMappedFirst}
use Rattle.child_pool.specs.Histories.{WentIn}
use Rattle.child_pool.specs.Jobs.{IsAmong, Job, job_of}
use Rattle.child_pool.specs.Languages.{path_in}
use Rattle.child_pool.specs.PoolCalls.{path_for, MapsAll, MapsBatch, Prepares, StaysAsMade}
use Rattle.child_pool.specs.Pools.{AfterBatch, HasItsChildren}
use Rattle.child_pool.proofs.Attempts.{Rose-wider}
use Rattle.child_pool.proofs.Firsts.{mapped_next, mapped_whole, ready_first, refused_next}
use Rattle.child_pool.proofs.Updated.{nothing_done, refused_at_first, Both}

abbrev Documents : Type 0
Documents = List (List (List ℕ × Json))

-- ---- documents of a list

among_behind : {X : Type 0} (xs ys : List X) (y : X) → IsAmong ys y → IsAmong (xs ++ ys) y
among_behind [] ys y among = among
among_behind (x ∷ xs) ys y among = inr (among_behind xs ys y among)

among_before : {X : Type 0} (xs ys : List X) (x : X) → IsAmong xs x → IsAmong (xs ++ ys) x
among_before [] ys x among = absurd among
among_before (z ∷ xs) ys x (inl is) = inl is
among_before (z ∷ xs) ys x (inr there) = inr (among_before xs ys x there)

all_among : {X : Type 0} (xs some : List X) → ((x : X) → IsAmong some x → IsAmong xs x) → AllByRecursion (IsAmong xs) some
all_among xs [] each = tt
all_among xs (x ∷ some) each = (each x (inl refl), all_among xs some (λ y there. each y (inr there)))

-- the next documents are among all
next_among : {X : Type 0} (done more rest : List X) → AllByRecursion (IsAmong ((done ++ more) ++ rest)) more
next_among done more rest = all_among ((done ++ more) ++ rest) more (λ x there. among_before (done ++ more) rest x (among_behind done more x there))

pub some_is : (documents : Documents) → true ≡ has_some documents → documents ≢ []
some_is [] is = cc
some_is (document ∷ documents) is = λ none. cc

pub none_is : (documents : Documents) → false ≡ has_some documents → documents ≡ []
none_is [] is = refl
none_is (document ∷ documents) is = cc

pub some_counted : (documents : Documents) → documents ≢ [] → 0 < length documents
some_counted [] some = absurd (some refl)
some_counted (document ∷ documents) some = omega arith

pub some_then : (done more : Documents) → done ≢ [] → done ++ more ≢ []
some_then [] more some = absurd (some refl)
some_then (document ∷ done) more some = λ none. cc

module _ {C : Type 0} (s : Servers C) (design : Design) where
  abbrev job_in : List ℕ → Documents → Job
  job_in path documents = job_of path (map_sources design.views) documents

  -- ---- where no document was mapped

  pub nothing_first : (old : C) (pool : Pool) → FirstAreMapped s old old pool pool design [] []
  nothing_first old pool = record {
    idle = λ none. (refl, refl, refl);
    maps = λ some. absurd (some refl);
    keeps = record { languages = refl; width = refl };
    later = omega arith;
  }

  -- ---- where all were

  module _ (old new : C) (pool pool' : Pool) where
    pub first_whole : (done : Documents) (lists : DocRowLists) → FirstAreMapped s old new pool pool' design done lists → MapsAll s old new pool design done pool' (Ok lists)
    first_whole [] lists first path calls follows known stands =
        let idle = first.idle refl in
        subst (λ (c : C). Both s.functions s.honest (job_in path []) pool calls (s.may_follow c) (HasRisen s old c) pool' (Ok lists)) (sym idle.0)
        (subst (λ (p : Pool). Both s.functions s.honest (job_in path []) pool calls (s.may_follow old) (HasRisen s old old) p (Ok lists)) (sym idle.1)
        (nothing_done s.functions s.honest (job_in path []) pool (HasRisen s old old) lists refl idle.2 follows stands))
    first_whole (document ∷ done) lists first path calls follows known stands =
        let w = subst (λ (d : Documents). WentIn (s.may_follow new) (job_in path d) pool.width calls (HasMappedFirst s.functions s.honest (job_in path d) pool (document ∷ done) (HasRisen s old new) pool' lists))
        (append-nil (document ∷ done)) (first.maps (λ none. cc) [] path calls follows known stands) in
        mapped_whole s.functions s.honest (job_in path (document ∷ done)) pool lists (HasRisen s old new) pool' (omega (arith, pool.one_child)) w

  -- ---- the next documents

  -- the first ones were mapped, where these follow
  abbrev Begins : C → C → Pool → Pool → Documents → Documents → DocRowLists → Type 0
  Begins old mid made pool done more lists = (rest : Documents) (path : List ℕ) (calls : List Call) → s.may_follow old calls → path_for made design ≡ Some path → HasItsChildren made calls
      → WentIn (s.may_follow mid) (job_in path ((done ++ more) ++ rest)) made.width calls
      (HasMappedFirst s.functions s.honest (job_in path ((done ++ more) ++ rest)) made done (HasRisen s old mid) pool lists)

  module _ (old mid new : C) (made pool pool' : Pool) (done more : Documents) (lists : DocRowLists) (keeps : StaysAsMade made pool) (early : s.faults old ≤ s.faults mid) (late : s.faults mid ≤ s.faults new) where
    module _ (begins : Begins old mid made pool done more lists) (some : done ++ more ≢ []) (stays : StaysAsMade pool pool') where
      kept : StaysAsMade made pool'
      kept = record { languages = stays.languages ∙ keeps.languages; width = stays.width ∙ keeps.width }

      wider : HasRisen s old mid → HasRisen s old new
      wider = Rose-wider (s.faults old) (s.faults old) (s.faults mid) (s.faults new) (omega arith) late

      later : HasRisen s mid new → HasRisen s old new
      later = Rose-wider (s.faults old) (s.faults mid) (s.faults new) (s.faults new) early (omega arith)

      batched : (result : Result DocRowLists PoolFault) → MapsBatch s mid new pool design more pool' result → (rest : Documents) (path : List ℕ) (calls : List Call) → path_for made design ≡ Some path
          → (w : WentIn (s.may_follow mid) (job_in path ((done ++ more) ++ rest)) made.width calls (HasMappedFirst s.functions s.honest (job_in path ((done ++ more) ++ rest)) made done (HasRisen s old mid) pool lists))
          → WentIn (s.may_follow new) (job_in path ((done ++ more) ++ rest)) made.width w.now
          (AfterBatch s.functions s.honest (job_in path ((done ++ more) ++ rest)) made.width (slots_of (job_in path ((done ++ more) ++ rest)) made.width) more (HasRisen s mid new) pool' result w.now)
      batched result maps rest path calls known w =
          let all = (done ++ more) ++ rest in
          let slots = slots_of (job_in path all) made.width in
          let known_still = subst (λ languages. path_in languages design.language ≡ Some path) (sym keeps.languages) known in
          let long : length all ≡ (length done + length more) + length rest = length-append (done ++ more) rest ∙ ap (λ n. n + length rest) (length-append done more) in
          subst (λ (n : ℕ). WentIn (s.may_follow new) (job_in path all) n w.now (AfterBatch s.functions s.honest (job_in path all) n slots more (HasRisen s mid new) pool' result w.now)) keeps.width
          (maps path all slots w.now w.follows known_still (next_among done more rest) (omega (arith, keeps.width)) (omega (arith, keeps.width, long)) w.holds.is_ready.there w.holds.is_ready.told)

      pub next_follows : (result : Result DocRowLists PoolFault) → MapsBatch s mid new pool design more pool' result → OnOk result (pool' ≡ pool) → FollowsFirst s old new made pool' design (done ++ more) lists result
      next_follows (Ok others) maps same = record {
        idle = λ none. absurd (some none);
        maps = λ documents rest path calls follows known stands.
            let w = begins rest path calls follows known stands in
            mapped_next s.functions s.honest (job_in path ((done ++ more) ++ rest)) made done more lists (HasRisen s old mid) (HasRisen s mid new) (HasRisen s old new) wider later pool pool' w others same
            (batched (Ok others) maps rest path calls known w);
        keeps = kept;
        later = omega (arith, early, late);
      }
      next_follows (Err fault) maps same = λ rest path calls follows known stands.
          let w = begins rest path calls follows known stands in
          refused_next s.functions s.honest (job_in path ((done ++ more) ++ rest)) made done more lists (HasRisen s old mid) (HasRisen s mid new) (HasRisen s old new) wider later pool pool' w rest refl fault
          (batched (Err fault) maps rest path calls known w)

  -- ---- where the first ones were mapped, or none

  module _ (old now : C) (made pool : Pool) (done more : Documents) (lists : DocRowLists) (first : FirstAreMapped s old now made pool design done lists) where
    -- no more came
    pub nothing_follows : FirstAreMapped s old now made pool design (done ++ []) (lists ++ [])
    nothing_follows =
        subst (λ (d : Documents). FirstAreMapped s old now made pool design d (lists ++ [])) (sym (append-nil done))
        (subst (λ (l : DocRowLists). FirstAreMapped s old now made pool design done l) (sym (append-nil lists)) first)

    -- they go on
    pub begun : done ≢ [] → Begins old now made pool done more lists
    begun some rest path calls follows known stands =
        subst (λ (d : Documents). WentIn (s.may_follow now) (job_in path d) made.width calls (HasMappedFirst s.functions s.honest (job_in path d) made done (HasRisen s old now) pool lists))
        (sym (append_assoc done more rest)) (first.maps some (more ++ rest) path calls follows known stands)

  module _ (old mid : C) (made pool : Pool) (more : Documents) (slots : ℕ) (is : slots ≡ min made.width (length more)) (some : more ≢ []) where
    needed : (rest : Documents) (path : List ℕ) → slots ≡ slots_of (job_in path (more ++ rest)) made.width
    needed rest path = omega (arith, is, made.one_child, some_counted more some, length-append more rest)

    -- the children are ready for the first ones
    pub begins_so : Prepares s old mid made design slots pool (Ok tt) → Begins old mid made pool [] more []
    begins_so prepares rest path calls follows known stands =
        ready_first s.functions s.honest (job_in path (more ++ rest)) made slots (HasRisen s old mid) pool (needed rest path) (omega (arith, is, made.one_child, some_counted more some))
        (prepares path (more ++ rest) calls follows known stands)

    -- or they couldn't be made ready
    pub unready : (fault : PoolFault) → Prepares s old mid made design slots pool (Err fault) → (rest : Documents) → MapsAll s old mid made design (more ++ rest) pool (Err fault)
    unready fault prepares rest path calls follows known stands =
        refused_at_first s.functions s.honest (job_in path (more ++ rest)) made slots (needed rest path) (HasRisen s old mid) pool fault (prepares path (more ++ rest) calls follows known stands)

  -- what holds of an update that begins here holds of one of which no document was mapped
  pub at_first : (now new : C) (pool pool' : Pool) (more : Documents) (result : Result DocRowLists PoolFault) (old : C) (made : Pool) (done : Documents) (lists : DocRowLists) → done ≡ []
      → (now ≡ old) × (pool ≡ made) × (lists ≡ []) → FollowsFirst s now new pool pool' design more [] result → FollowsFirst s old new made pool' design (done ++ more) lists result
  at_first now new pool pool' more result old made done lists none idle follows =
      subst (λ (c : C). FollowsFirst s c new made pool' design (done ++ more) lists result) idle.0
      (subst (λ (p : Pool). FollowsFirst s now new p pool' design (done ++ more) lists result) idle.1
      (subst (λ (d : Documents). FollowsFirst s now new pool pool' design (d ++ more) lists result) (sym none)
      (subst (λ (l : DocRowLists). FollowsFirst s now new pool pool' design more l result) (sym idle.2) follows)))

  -- the first ones of an update may be all
  pub follows_whole : (old new : C) (pool pool' : Pool) (documents : Documents) (result : Result DocRowLists PoolFault) → FollowsFirst s old new pool pool' design documents [] result → MapsAll s old new pool design documents pool' result
  follows_whole old new pool pool' documents (Ok lists) first = first_whole old new pool pool' documents lists first
  follows_whole old new pool pool' documents (Err fault) refused =
      subst (λ (d : Documents). MapsAll s old new pool design d pool' (Err fault)) (append-nil documents) (refused [])
