-- A view that ends since a file of its design's index is full.
use Rattle.std.specs.Prelude.{◌≡◌, ◌<◌, ℕ, List, length, Option, Some, None, Err}
use Rattle.std.proofs.Common.{true, refl, ap, ◌∙◌, subst}
use Rattle.json_terms.specs.Json.{Json}
use Rattle.design_docs.specs.declared.design.Design.{Design}
use Rattle.design_docs.specs.declared.design.View.{View as DesignView}
use Rattle.design_docs.specs.Design.{views_of}
use Rattle.view_ports.specs.Disk.{Disk, IfTold, MovesNone, Tells}
use Rattle.view_ports.specs.declared.file_name.FileName.{FileName}
use Rattle.view_ports.specs.declared.file_name.Stem.TheVariants.{View as ViewStem}
use Rattle.view_ports.specs.declared.folder.Folder.{Ghosts as Folders}
use Rattle.view_ports.specs.declared.servers.Servers.{Ghosts as Servers}
use Rattle.view_ports.proofs.Told.{told_after, told_pair}
use Rattle.gate_file.specs.declared.fault.GateFault.TheVariants as gate
use Rattle.child_pool.specs.declared.pool.Pool.{Pool}
use Rattle.child_pool.specs.declared.pool_fault.PoolFault.TheVariants as fault
use Rattle.child_pool.specs.Languages.{path_in}
use Rattle.child_pool.specs.Pools.{languages_of}
use Rattle.doc_file.specs.declared.docs.Docs.{Docs}
use Rattle.doc_file.specs.Docs.{IsAt as AreAt}
use Rattle.design_docs.specs.History.{Write}
use Rattle.node_file.specs.declared.cache.NodeCache.{NodeCache}
use Rattle.view_model.specs.Picture.{Picture}
use Rattle.change_mapper.specs.Written.{documents_since}
use Rattle.tree_index.specs.declared.fault.IndexFault.TheVariants as index
use Rattle.tree_index.specs.declared.index.Index.{Index}
use Rattle.tree_index.specs.Calls.{IsAt}
use Rattle.tree_index.specs.Held.{IsFileOf}
use Rattle.tree_updater.specs.declared.fault.UpdateFault.{UpdateFault}
use Rattle.tree_updater.specs.declared.fault.UpdateFault.TheVariants as update
use Rattle.tree_updater.specs.Filled.{AreNodesOf, IsFilled, WasDue}
use Rattle.tree_updater.specs.Follows.{IsFileFault}
use Rattle.tree_groups.specs.declared.groups.Groups.{Groups}
use Rattle.tree_groups.specs.Brings.{Brings, IsLost}
use Rattle.tree_groups.specs.Follows.{Follows, IsMappedTo}
use Rattle.tree_groups.specs.Sides.{side}
use Rattle.tree_groups.specs.Groups.{AreAt as AreIndexesAt, IsGroup}
use Rattle.tree_groups.specs.Reached.{picture_for, sig_of, views_in}
use Rattle.view_engine.specs.declared.engine.Engine.{Engine}
use Rattle.view_engine.specs.declared.halt.Halt.TheVariants.{Stopped}
use Rattle.view_engine.specs.declared.halt.StepFault.TheVariants.{Full}
use Rattle.view_engine.specs.Calls.{scene, StandsAt}
use Rattle.view_engine.specs.FullIndex.{IsIndexFull}
use Rattle.view_engine.specs.Moments.{Moment}
use Rattle.view_engine.specs.Signatures.{kinds_of}
use Rattle.view_engine.specs.Updating.{AreFit}
use Rattle.view_engine.specs.ViewPlan.{met_by, IsPlan}
use Rattle.tree_groups.proofs.Forgetting.{at_without}
use Rattle.view_engine.specs.World.{World}
use Rattle.view_engine.proofs.Bringing.{moved, of_own_views, reached, IsReady}
use Rattle.view_engine.proofs.OpenAt.{group_at}
use Rattle.view_engine.proofs.Planned.{at_mid, ready}
use Rattle.view_engine.proofs.Viewed.{same_picture, same_signature, updated_with, IsKnown}
use Rattle.view_engine.specs.ViewQuery.{ViewQuery}

-- what is met as a full file is one of the index
met_full : (met : UpdateFault) (id : List ℕ) → IsFileFault met → (n : FileName) (limit : Option ℕ) → met_by id met ≡ Stopped (Full n limit) → met ≡ update.Index (index.Store (gate.Full n limit))
met_full (update.Pool fault.ServerFault) id kind n limit is = absurd cc
met_full (update.Pool (fault.BadReply line)) id kind n limit is = absurd cc
met_full (update.Pool fault.Compile) id kind n limit is = absurd cc
met_full (update.Pool fault.NoMemory) id kind n limit is = absurd cc
met_full (update.Pool fault.UnknownLanguage) id kind n limit is = absurd cc
met_full update.NoMemory id kind n limit is = absurd cc
met_full (update.Docs gate.DiskFault) id kind n limit is = absurd cc
met_full (update.Docs (gate.Damaged m at)) id kind n limit is = absurd cc
met_full (update.Docs (gate.Full m long)) id kind n limit is = absurd kind
met_full (update.Docs gate.NoMemory) id kind n limit is = absurd cc
met_full (update.Index (index.Store gate.DiskFault)) id kind n limit is = absurd cc
met_full (update.Index (index.Store (gate.Damaged m at))) id kind n limit is = absurd cc
met_full (update.Index (index.Store (gate.Full m long))) id kind n limit is = let file : m ≡ n = cc in let end : long ≡ limit = cc in cc
met_full (update.Index (index.Store gate.NoMemory)) id kind n limit is = absurd cc
met_full (update.Index (index.Summer other)) id kind n limit is = absurd kind
met_full (update.Index index.NoMemory) id kind n limit is = absurd kind

module _ {F C : Type 0} (f : Folders F) (s : Servers C) (docs : Docs) (pool pool' : Pool) (groups groups' : Groups) (cache cache' : NodeCache) (steps : ℕ) (old mid new : F) (servers servers' : C) (name : ViewQuery) (id : List ℕ) (design : Design) (place : ℕ) (path : List ℕ)
    (within : place < length design.views) (path_is : path_in (languages_of pool) design.language ≡ Some path)
    (read : Tells (f.disk old) (f.disk mid) MovesNone)
    (plans : (history : List Write) → IfTold (f.disk old) (λ d. AreAt docs d.now history → IsPlan true (languages_of pool) history name id design place path))
    (met : UpdateFault) (kind : IsFileFault met) (brings : Brings f s docs design (side mid servers pool groups cache 0) (side new servers' pool' groups' cache' steps) (Err met))
    (follow : Follows f s docs design (side mid servers pool groups cache 0) (side new servers' pool' groups' cache' steps) (Err met))
    (before : Moment) (at : StandsAt f s (scene (record { docs = docs; pool = pool; groups = groups; cache = cache }) old servers) before) (fit : IfTold (f.disk old) (λ d. AreFit before.world.history)) where
  abbrev engine : Engine
  engine = record { docs = docs; pool = pool; groups = groups; cache = cache }

  abbrev world : World
  world = before.world

  abbrev documents : List (List (List ℕ × Json))
  documents = documents_since (picture_for design world.pictures).seq world.history

  here : StandsAt f s (scene engine mid servers) before
  here = at_mid f s docs pool pool' groups groups' cache cache' steps old mid new servers servers' name id design place path within path_is read plans before at

  is_ready : IfTold (f.disk mid) (IsReady s.functions s.honest true engine world name id design place path)
  is_ready = ready f s docs pool pool' groups groups' cache cache' steps old mid new servers servers' name id design place path within path_is read plans before at fit

  abbrev Mapped : Picture → Type 0
  Mapped = IsMappedTo f s docs design (side mid servers pool groups cache 0) (side new servers' pool' groups' cache' steps) world.history world.pictures

  abbrev Due : Type 0
  Due = WasDue Mapped cache cache' world.history (picture_for design world.pictures)

  module _ (n : FileName) (limit : Option ℕ) (of_index : met ≡ update.Index (index.Store (gate.Full n limit))) where
    abbrev left : Index
    left = (follow.full n limit (ap Err of_index)).1.0

    group : (slot : ℕ) × IsGroup groups' slot (sig_of design) (views_in design) left
    group = (follow.full n limit (ap Err of_index)).1.1

    -- what is known as it ends, of the files before and then
    full_at : (a b : Disk FileName) → IsReady s.functions s.honest true engine world name id design place path a × Due → AreIndexesAt (kinds_of world) groups' b.now world.pictures
        → IsIndexFull s.functions s.honest (languages_of pool) cache cache' b.now world name n limit
    full_at a b known indexes =
        let is = known.0 in
        let plan = is.plan in
        let known_there : IsKnown (languages_of pool) before name id design place path documents = record { plan = plan; stored = (is.here).documents.stored; documents_are = refl } in
        let signed = same_signature (languages_of pool) before name id design place path documents known_there in
        let there : IsAt None (kinds_of world (sig_of design)).views left b.now (world.pictures (sig_of design)) =
        at_without (kinds_of world (sig_of design)).functions (kinds_of world (sig_of design)).views left b.now (world.pictures (sig_of design))
        (group_at (kinds_of world) groups' b.now world.pictures group.0 (sig_of design) (views_in design) left group.1 indexes) in
        let same = same_picture (languages_of pool) before name id design place path documents known_there in
        let own_views = of_own_views (languages_of pool) world name id design place path plan is.fit in
        record {
          design = plan.document;
          path = path;
          next = (known.1).next;
          live = plan.live;
          updates = plan.updates;
          accepted = plan.accepted;
          path_is = plan.path_is;
          updated = updated_with s.functions s.honest (languages_of pool) before name id design place path within documents known_there (known.1).next
              ((known.1).mapped path (record { known = path_is; calls = before.calls; follows = at.child.follows; children = at.child.child })).updated;
          due = λ newest. (known.1).since (ap (λ (p : Picture). p.seq) same ∙ newest);
          nodes = subst (λ (p : Picture). AreNodesOf cache cache' p (known.1).next) same (known.1).nodes;
          index = left;
          own = subst (λ sig. IsFileOf (ViewStem sig) n) signed (follow.full n limit (ap Err of_index)).0;
          at = subst (λ sig. IsAt None (views_of plan.document) left b.now (world.pictures sig)) signed
              (subst (λ (views : List DesignView). IsAt None views left b.now (world.pictures (sig_of design))) plan.views
              (subst (λ (views : List DesignView). IsAt None views left b.now (world.pictures (sig_of design))) own_views there));
          full = subst (λ (views : List DesignView). IsFilled (length views) left cache cache' n limit) plan.views (follow.full n limit (ap Err of_index)).1.2;
        }

    known_all : IfTold (f.disk mid) (λ d. IsReady s.functions s.honest true engine world name id design place path d × Due)
    known_all = told_pair (f.disk mid) (IsReady s.functions s.honest true engine world name id design place path) _ _
        (λ d is due. (is, due (reached f s docs pool pool' groups groups' cache cache' steps mid new servers servers' name id design place path within path_is (Err met) brings follow before here d is))) is_ready
        (follow.filled n limit (ap Err of_index) (kinds_of world) world.history world.pictures)

    full_there : IfTold (f.disk new) (λ d. IsIndexFull s.functions s.honest (languages_of pool) cache cache' d.now world name n limit)
    full_there = told_after (f.disk mid) (f.disk new) (λ d. IsReady s.functions s.honest true engine world name id design place path d × Due) _ _
        (λ a b known moves. full_at a b known (moves.ended (λ lost. subst IsLost of_index lost))) known_all
        (moved f s docs pool pool' groups groups' cache cache' steps mid new servers servers' name id design place path within path_is (Err met) brings follow before here is_ready)

  pub filled_then : (n : FileName) (limit : Option ℕ) → met_by id met ≡ Stopped (Full n limit) → IfTold (f.disk new) (λ d. IsIndexFull s.functions s.honest (languages_of pool) cache cache' d.now world name n limit)
  filled_then n limit is = full_there n limit (met_full met id kind n limit is)
