-- What bringing the index of a view's design up to date is to the world.
use Rattle.std.specs.Prelude.{Bool, ◌≡◌, ◌≢◌, ◌⊎◌, ◌<◌, ◌≤◌, ℕ, List, [], ◌∷◌, bytes_eq, if◌then◌else◌, length, Option, Some, None, Result, Ok, Err, IfOk}
use Rattle.std.proofs.Common.{true, refl, sym, ap, ◌∙◌, subst, inl, inr, ⊎_elim, arith}
use Rattle.json_terms.specs.Json.{Json}
use Rattle.design_docs.specs.declared.design.Design.{Design}
use Rattle.view_ports.specs.Disk.{Disk, Framed, IfTold, LeavesOnly, Moves, Tells}
use Rattle.view_ports.specs.Calls.{Call}
use Rattle.view_ports.specs.File.{File}
use Rattle.view_ports.specs.Functions.{Functions}
use Rattle.view_ports.specs.declared.file_name.FileName.{FileName}
use Rattle.view_ports.specs.declared.file_name.Stem.TheVariants.{Docs as DocsStem, View}
use Rattle.view_ports.specs.declared.folder.Folder.{Ghosts as Folders}
use Rattle.view_ports.specs.declared.servers.Servers.{Ghosts as Servers}
use Rattle.view_ports.proofs.Moments.{weaker}
use Rattle.view_ports.proofs.Told.{told_now, told_pair}
use Rattle.child_pool.specs.declared.pool.Pool.{Pool}
use Rattle.child_pool.specs.declared.pool_fault.PoolFault.TheVariants.{Compile}
use Rattle.child_pool.specs.Languages.{path_in}
use Rattle.child_pool.specs.Pools.{languages_of, HasItsChildren}
use Rattle.doc_file.specs.declared.docs.Docs.{Docs}
use Rattle.doc_file.specs.Docs.{IsAt as AreAt}
use Rattle.design_docs.specs.History.{Write}
use Rattle.node_file.specs.declared.cache.NodeCache.{NodeCache}
use Rattle.view_model.specs.Picture.{Picture}
use Rattle.change_mapper.specs.Written.{documents_since}
use Rattle.tree_index.specs.declared.index.Index.{Index}
use Rattle.tree_index.specs.Held.{or_empty, IsFileOf}
use Rattle.tree_index.specs.Index.{picture_of}
use Rattle.tree_updater.specs.declared.fault.UpdateFault.{UpdateFault}
use Rattle.tree_updater.specs.declared.fault.UpdateFault.TheVariants.{Pool as OfPool}
use Rattle.tree_updater.specs.Asking.{HasAskedFor}
use Rattle.tree_updater.specs.Made.{IsRefused as IsUpdateRefused}
use Rattle.tree_updater.specs.Paths.{AreFunctionsBy, IsPathOf}
use Rattle.tree_groups.specs.declared.groups.Groups.{Groups}
use Rattle.tree_groups.specs.Brings.{Brings, EndsAt, IsLost, IsNext, MayLeave}
use Rattle.tree_groups.specs.Follows.{AsksSince, Follows, IsIdleEnd, IsUnasked}
use Rattle.tree_groups.specs.Groups.{IsGroup}
use Rattle.tree_groups.specs.Pictures.{Kinds, StandsOf}
use Rattle.tree_groups.specs.Reached.{picture_for, sig_of, views_in, IsReached, StandsAround as IndexStandsAround}
use Rattle.tree_groups.specs.Sides.{side, Side}
use Rattle.view_engine.specs.declared.engine.Engine.{Engine}
use Rattle.view_engine.specs.Calls.{scene, StandsAt}
use Rattle.view_engine.specs.Moments.{Moment}
use Rattle.view_engine.specs.Signatures.{kinds_of, HasSignature}
use Rattle.view_engine.specs.Updating.{AreFit}
use Rattle.view_engine.specs.View.{design_id}
use Rattle.view_engine.specs.ViewPlan.{IsPlan}
use Rattle.view_engine.specs.World.{World}
use Rattle.view_engine.specs.Worlds.{IsAtWorld, StandsAround, StandsEither, KnowsPaths}
use Rattle.view_engine.specs.ViewQuery.{ViewQuery, view_request}
use Rattle.view_engine.proofs.Between.{stands_first}
use Rattle.view_engine.proofs.Apart.{documents_beside, indexes_alike, next_stands, none_newer_set, old_stands, set_is_alike}
use Rattle.view_engine.proofs.Signatures.{kind_is, opened_beside, owned_set}
use Rattle.view_engine.proofs.Updated.{live_is_design}
use Rattle.view_engine.proofs.Viewed.{is_brought, planned_signature, IsKnown, IsNextOf}

-- the world in which a design's picture is this one
abbrev pub with_picture : World → Design → Picture → World
with_picture world design next = record world { pictures = λ sig. if bytes_eq sig (sig_of design) then Some next else world.pictures sig }

-- one place has one index
pub one_index : (groups : Groups) (place : ℕ) (sig : List ℕ) (views : ℕ) (one other : Index) → IsGroup groups place sig views one → IsGroup groups place sig views other → one ≡ other
one_index groups place sig views one other first second = let same : Some one ≡ Some other = sym first.there ∙ second.there in cc

-- the picture that is there is no newer than the history
pub within_there : (engine : Engine) (files : FileName → File) (world : World) (design : Design) → IsAtWorld engine files world → (picture_for design world.pictures).seq ≤ length world.history
within_there engine files world design at = by_picture (world.pictures (sig_of design)) refl
  where
    by_picture : (picture : Option Picture) → world.pictures (sig_of design) ≡ picture → (or_empty (views_in design) picture).seq ≤ length world.history
    by_picture None is = omega arith
    by_picture (Some picture) is = at.within (sig_of design) picture is

-- ---- the design of a plan

module _ {updating : Bool} (languages : List (List ℕ × List ℕ)) (world : World) (name : ViewQuery) (id : List ℕ) (design : Design) (place : ℕ) (path : List ℕ)
    (plan : IsPlan updating languages world.history name id design place path) where
  -- it is one of the history
  pub has_signature : HasSignature world.history (sig_of design)
  has_signature = record {
    document = plan.document;
    stored = live_is_design world.history (design_id name.design) plan.document refl plan.live;
    signed = sym (planned_signature languages world name id design place path plan);
  }

  -- and its signature is of its views, and of the functions of its language, where designs that differ have different signatures
  pub of_own_views : AreFit world.history → (kinds_of world (sig_of design)).views ≡ design.views
  of_own_views fit =
      ap (λ sig. (kinds_of world sig).views) (planned_signature languages world name id design place path plan)
      ∙ (kind_is world.functions world.history fit plan.document (live_is_design world.history (design_id name.design) plan.document refl plan.live)).0
      ∙ sym plan.views

  pub of_own_functions : AreFit world.history → (kinds_of world (sig_of design)).functions ≡ world.functions (sig_of design) design.language
  of_own_functions fit =
      ap (λ sig. (kinds_of world sig).functions) (planned_signature languages world name id design place path plan)
      ∙ (kind_is world.functions world.history fit plan.document (live_is_design world.history (design_id name.design) plan.document refl plan.live)).1
      ∙ (λ i. world.functions (sym (planned_signature languages world name id design place path plan) i) (sym plan.language i))

-- the functions that are known of a design's language are those of its path, by calls that may have been made
pub by_path : {C : Type 0} (s : Servers C) (servers : C) (pool : Pool) (design : Design) (world : World) (calls : List Call) → s.may_follow servers calls → HasItsChildren pool calls → KnowsPaths s.functions s.honest (languages_of pool) world → (path : List ℕ) → path_in (languages_of pool) design.language ≡ Some path
    → (functions : Option Functions) → functions ≡ world.functions (sig_of design) design.language → AreFunctionsBy s servers pool design functions
by_path s servers pool design world calls follows children knows path path_is None is = tt
by_path s servers pool design world calls follows children knows path path_is (Some known) is =
    let are = knows (sig_of design) design.language known path (sym is) path_is in
    (path, record { known = path_is; calls = calls; follows = follows; children = children }, are.0, are.1)

-- and where none are known they are those of any path
pub by_none : {C : Type 0} (s : Servers C) (servers : C) (pool : Pool) (design : Design) (world : World) {functions : Option Functions} → functions ≡ None → AreFunctionsBy s servers pool design functions
by_none s servers pool design world is = subst (AreFunctionsBy s servers pool design) (sym is) tt

-- what is known as the update begins: the engine is at the world, which knows functions of honest paths alone, the view is planned, and designs
-- that differ have different signatures
pub record IsReady (functions : List ℕ → Functions) (honest : List ℕ → Type 0) (updating : Bool) (engine : Engine) (world : World) (name : ViewQuery) (id : List ℕ) (design : Design) (place : ℕ) (path : List ℕ) (d : Disk FileName) : Type 0 where
  pub here : IsAtWorld engine d.now world
  pub plan : IsPlan updating (languages_of engine.pool) world.history name id design place path
  pub fit : AreFit world.history
  pub knows : KnowsPaths functions honest (languages_of engine.pool) world

module _ {F C : Type 0} (f : Folders F) (s : Servers C) (docs : Docs) (pool pool' : Pool) (groups groups' : Groups) (cache cache' : NodeCache) (steps : ℕ) (mid new : F) (servers servers' : C) (name : ViewQuery) (id : List ℕ) (design : Design) (place : ℕ) (path : List ℕ)
    (within : place < length design.views) (path_is : path_in (languages_of pool) design.language ≡ Some path) (result : Result ℕ UpdateFault)
    (brings : Brings f s docs design (side mid servers pool groups cache 0) (side new servers' pool' groups' cache' steps) result)
    (follow : Follows f s docs design (side mid servers pool groups cache 0) (side new servers' pool' groups' cache' steps) result) where
  abbrev engine : Engine
  engine = record { docs = docs; pool = pool; groups = groups; cache = cache }

  abbrev engine' : Engine
  engine' = record { docs = docs; pool = pool'; groups = groups'; cache = cache' }

  abbrev own : List ℕ
  own = sig_of design

  abbrev Old : Side F C
  Old = side mid servers pool groups cache 0

  abbrev New : Side F C
  New = side new servers' pool' groups' cache' steps

  module _ (before : Moment) (at : StandsAt f s (scene engine mid servers) before) where
    abbrev world : World
    world = before.world

    abbrev seq : ℕ
    seq = (picture_for design world.pictures).seq

    abbrev kinds : Kinds
    kinds = kinds_of world

    abbrev Ready : Disk FileName → Type 0
    Ready = IsReady s.functions s.honest true engine world name id design place path

    pub reached : (d : Disk FileName) → Ready d → IsReached s servers pool docs kinds groups design world.history world.pictures d.now
    reached d ready = record {
      documents = (ready.here).documents;
      indexes = (ready.here).indexes;
      within = within_there engine d.now world design ready.here;
      own = of_own_views (languages_of pool) world name id design place path ready.plan ready.fit;
      by = by_path s servers pool design world before.calls at.child.follows at.child.child ready.knows path path_is (kinds (sig_of design)).functions (of_own_functions (languages_of pool) world name id design place path ready.plan ready.fit);
    }

    -- how the files of the index move
    abbrev MovesAs : Result ℕ UpdateFault → Disk FileName → Disk FileName → Type 0
    MovesAs r = Moves (IsFileOf (View own)) (IndexStandsAround kinds design world.pictures (MayLeave f s docs design Old New kinds world.history world.pictures r)) (EndsAt f s docs design Old New kinds world.history world.pictures r)

    own_path : IsPathOf s servers pool design path
    own_path = record { known = path_is; calls = before.calls; follows = at.child.follows; children = at.child.child }

    module _ (ready : IfTold (f.disk mid) Ready) where
      reached_all : IfTold (f.disk mid) (λ d. IsReached s servers pool docs kinds groups design world.history world.pictures d.now)
      reached_all = told_now (f.disk mid) Ready _ (λ d is. reached d is) ready

      -- ---- what was asked for

      abbrev pub AreSince : List (List (List ℕ × Json)) → Type 0
      AreSince documents = (documents ≡ documents_since seq world.history) × (seq ≢ length world.history)

      abbrev Asked : Option (Disk FileName) → Type 0
      Asked y = (IsUnasked f s docs design Old New × IsIdleEnd result × IfTold y (λ d. IfOk result (λ slot. seq ≡ length world.history)))
          ⊎ ((documents : List (List (List ℕ × Json))) × HasAskedFor s servers servers' pool pool' design {T = ℕ} documents result × IfTold y (λ d. AreSince documents))

      pub asked_there : Asked (f.disk mid)
      asked_there = by_disk (f.disk mid) ready (follow.asks kinds world.history world.pictures)
        where
          by_disk : (y : Option (Disk FileName)) → IfTold y Ready
              → IfTold y (λ d. IsReached s servers pool docs kinds groups design world.history world.pictures d.now → AsksSince f s docs design Old New world.history world.pictures result) → Asked y
          by_disk None is asks = ⊎_elim (λ idle. inl (idle.0, idle.1, tt)) (λ some. inr (some.0, some.1, tt)) follow.asked
          by_disk (Some d) is asks = ⊎_elim (λ idle. inl (idle.0, idle.1, idle.2)) (λ some. inr (documents_since seq world.history, some.1, (refl, some.0))) (asks (reached d is))

      -- a complaint is right
      pub complains_there : result ≡ Err (OfPool Compile)
          → IfTold (f.disk mid) (λ d. (p : List ℕ) → IsPathOf s servers pool design p → s.honest p → IsUpdateRefused s.functions s.honest design p world.history (picture_for design world.pictures))
      complains_there is = told_pair (f.disk mid) Ready _ _ (λ d known right. right (reached d known)) ready (brings.spoils is kinds world.history world.pictures)

      -- how the files of the index moved
      pub moved : Tells (f.disk mid) (f.disk new) (MovesAs result)
      moved = brings.stands kinds world.history world.pictures reached_all

    -- ---- the next picture

    abbrev Next : Picture → Type 0
    Next = IsNext f s docs design Old New kinds world.history world.pictures

    -- it is that of an update of the documents that were written since
    pub next_is : (next : Picture) (left : World) (documents : List (List (List ℕ × Json))) → Next next
        → documents ≡ documents_since seq world.history → left.history ≡ world.history → left.functions ≡ world.functions → ((sig : List ℕ) → left.pictures sig ≡ (with_picture world design next).pictures sig)
        → IsNextOf s.functions s.honest world design path documents next left
    next_is next left documents is_next same history functions set =
        let made = is_next path own_path in
        record {
          updated = made.mapped.updated;
          compile = λ is_honest some. made.mapped.compile is_honest (λ none. some (same ∙ none));
          reduces = made.reduces;
          history = history;
          known = functions;
          set = set;
        }

    module _ (a b : Disk FileName) (ready : Ready a) where
      abbrev here : IsAtWorld engine a.now world
      here = ready.here

      has : HasSignature world.history own
      has = has_signature (languages_of pool) world name id design place path ready.plan

      -- the files of the documents stay
      documents_stay : ((n : FileName) → (IsFileOf (View own) n → ⊥) → b.now n ≡ a.now n) → AreAt docs b.now world.history
      documents_stay others = documents_beside docs a.now b.now (λ n of_docs. others n (λ of_view. let clash : DocsStem ≡ View own = sym of_docs ∙ of_view in let no : ⊥ = cc in no)) world.history here.documents

      -- ---- the update was refused, and no file of the index failed
      pub refused_at : (fault : UpdateFault) → (IsLost fault → ⊥) → MovesAs (Err fault) a b → LeavesOnly (StandsEither world world) a b × IsAtWorld engine' b.now world
      refused_at fault other moves = (
        weaker (Framed (IsFileOf (View own)) a.now (IndexStandsAround kinds design world.pictures (MayLeave f s docs design Old New kinds world.history world.pictures (Err fault)))) (StandsEither world world) a b
            (λ image framed. ⊎_elim (λ old. stands_first world world image (old_stands engine design a.now world here _ image framed old))
            (λ next. absurd (other (subst IsLost (sym next.1.1) tt))) framed.inside) moves.moments,
        record {
          documents = documents_stay moves.others;
          indexes = moves.ended other;
          within = here.within;
          owned = here.owned;
          opened = opened_beside world.history own groups groups' has follow.only here.opened;
        },
      )

      -- ---- the index was brought up to date
      module _ (slot : ℕ) (index : Index) (group : IsGroup groups' slot own (views_in design) index) where
        abbrev shown : Picture
        shown = picture_of index

        abbrev left : World
        left = with_picture world design shown

        -- the picture of no update is of no write, so the next one is there where there are any
        next_there : (next : Option Picture) → shown ≡ or_empty (views_in design) next → shown.seq ≡ length world.history → world.history ≢ [] → next ≡ Some shown
        next_there None is seq some = absurd (none_written world.history some (sym seq ∙ ap (λ (p : Picture). p.seq) is))
          where
            none_written : (history : List Write) → history ≢ [] → length history ≡ 0 → ⊥
            none_written [] any long = any refl
            none_written (write ∷ older) any long = omega (arith, long)
        next_there (Some next) is seq some = ap (λ p. Some p) (sym is)

        pub brought_at : world.history ≢ [] → MovesAs (Ok slot) a b → LeavesOnly (StandsEither world left) a b × (IsAtWorld engine' b.now left × Next shown)
        brought_at some moves =
            let ended = moves.ended in
            let same : ended.index ≡ index = one_index groups' slot own (views_in design) ended.index index ended.group group in
            let shows : shown ≡ or_empty (views_in design) ended.next = ap picture_of (sym same) ∙ ended.shows in
            let is_next : Next shown = subst Next (sym shows) ended.made in
            let number : shown.seq ≡ length world.history = (is_next path own_path).mapped.updated.seq in
            let there : ended.next ≡ Some shown = next_there ended.next shows number some in (
              weaker (Framed (IsFileOf (View own)) a.now (IndexStandsAround kinds design world.pictures (MayLeave f s docs design Old New kinds world.history world.pictures (Ok slot)))) (StandsEither world left) a b
                  (λ image framed. ⊎_elim (λ old. stands_first world left image (old_stands engine design a.now world here _ image framed old))
                  (λ next.
                  let made = next.1.1 in
                  let this : next.0 ≡ shown = made.2 ∙ ap picture_of (one_index groups' slot own (views_in design) made.0 index made.1 group) in
                  inr (next_stands engine design a.now world here _ image framed has shown left (subst (λ p. StandsOf kinds own image (Some p)) this next.2) number refl refl (λ sig. refl)))
                  framed.inside) moves.moments,
              (
                record {
                  documents = documents_stay moves.others;
                  indexes = indexes_alike kinds ended.after left.pictures (set_is_alike own (Some shown) world.pictures left.pictures ended.after (λ sig. refl) (ended.set.0 ∙ there) ended.set.1) groups' b.now ended.at;
                  within = none_newer_set own shown world left here.within number refl (λ sig. refl);
                  owned = owned_set world.history own shown world.pictures left.pictures number has here.owned (λ sig. refl);
                  opened = opened_beside world.history own groups groups' has follow.only here.opened;
                },
                is_next,
              ),
            )

      -- ---- it failed: a crash leaves the world before or the next one
      pub failed_at : (r : Result ℕ UpdateFault) → MovesAs r a b → LeavesOnly (StandsAround s.functions s.honest (languages_of pool) world (Ok (view_request name))) a b
      failed_at r moves =
          weaker (Framed (IsFileOf (View own)) a.now (IndexStandsAround kinds design world.pictures (MayLeave f s docs design Old New kinds world.history world.pictures r)))
          (StandsAround s.functions s.honest (languages_of pool) world (Ok (view_request name))) a b
          (λ image framed. ⊎_elim (λ old. inl (old_stands engine design a.now world here _ image framed old))
          (λ next.
          let is_next = next.1.0 in
          let after = with_picture world design next.0 in
          let plan = ready.plan in
          let known : IsKnown (languages_of pool) before name id design place path (documents_since seq world.history) = record { plan = plan; stored = here.documents.stored; documents_are = refl } in
          inr (
            after,
            (
              plan.document,
              path,
              plan.accepted,
              plan.live,
              plan.path_is,
              is_brought s.functions s.honest (languages_of pool) before name id design place path within (documents_since seq world.history) next.0 after known (next_is next.0 after (documents_since seq world.history) is_next refl refl refl (λ sig. refl)),
              plan.updates,
            ),
            next_stands engine design a.now world here _ image framed has next.0 after next.2 (is_next path own_path).mapped.updated.seq refl refl (λ sig. refl),
          )) framed.inside) moves.moments
