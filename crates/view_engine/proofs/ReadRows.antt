-- Why the rows of a view weren't read, and how the request meets it.
use Rattle.std.specs.Prelude.{◌≡◌, ◌⊎◌, ◌≤◌, ℕ, List, true, Option, Ok, Err}
use Rattle.std.proofs.Common.{Bool, sym, ap, ◌∙◌, subst, inl, inr, ⊎_elim}
use Rattle.json_terms.specs.Json.{Json}
use Rattle.json_terms.specs.declared.term.Row.{Row}
use Rattle.design_docs.specs.declared.design.Design.{Design}
use Rattle.design_docs.specs.Design.{IsDesignOf}
use Rattle.view_ports.specs.Disk.{Disk, IfTold, Moves, MovesNone, Tells}
use Rattle.view_ports.specs.declared.file_name.FileName.{FileName}
use Rattle.view_ports.specs.declared.file_name.Stem.TheVariants.{View}
use Rattle.view_ports.specs.declared.folder.Folder.{Ghosts as Folders}
use Rattle.view_ports.specs.declared.servers.Servers.{Ghosts as Servers}
use Rattle.view_ports.proofs.Counting.{Rose-earlier}
use Rattle.view_ports.proofs.DiskRuns.{moves_then, none_wider}
use Rattle.view_ports.proofs.Told.{told_now, told_pair, told_then}
use Rattle.gate_file.specs.declared.fault.GateFault.TheVariants as gate
use Rattle.gate_file.specs.GateFile.{name_of}
use Rattle.gate_file.proofs.Stretches.{told_end}
use Rattle.child_pool.specs.declared.pool.Pool.{Pool}
use Rattle.child_pool.specs.Pools.{languages_of}
use Rattle.doc_file.specs.declared.docs.Docs.{Docs}
use Rattle.doc_file.specs.Docs.{IsAt as AreAt}
use Rattle.design_docs.specs.History.{Write}
use Rattle.node_file.specs.declared.cache.NodeCache.{NodeCache}
use Rattle.node_file.specs.Records.{node_at}
use Rattle.view_model.specs.Picture.{Picture}
use Rattle.tree_index.specs.declared.fault.IndexFault.{IndexFault}
use Rattle.tree_index.specs.declared.fault.IndexFault.TheVariants as index
use Rattle.tree_index.specs.declared.index.Index.{Index}
use Rattle.tree_index.specs.Held.{IsFileOf}
use Rattle.tree_index.specs.Index.{file_of}
use Rattle.tree_index.specs.Opens.{FindsDamage}
use Rattle.tree_index.specs.RowsRead.{tree_of, IsBadPlace, IsReadFault, ReadsRows}
use Rattle.tree_updater.specs.Faults.{by_index}
use Rattle.tree_groups.specs.declared.groups.Groups.{Groups}
use Rattle.tree_groups.specs.Groups.{AreAt as AreIndexesAt, AreOpen as AreIndexesOpen, IsGroup}
use Rattle.tree_groups.specs.Pictures.{IsAtOf, Pictures}
use Rattle.tree_groups.specs.Reached.{sig_of, views_in, IsReached}
use Rattle.tree_groups.proofs.Telling.{told_before}
use Rattle.view_engine.specs.declared.engine.Engine.{Engine}
use Rattle.view_engine.specs.declared.halt.Halt.{Halt}
use Rattle.view_engine.specs.declared.halt.Halt.TheVariants.{Refused, Stopped}
use Rattle.view_engine.specs.declared.halt.StepFault.TheVariants.{DiskFault, Damaged, Full, NoMemory}
use Rattle.view_engine.specs.declared.refusal.Refusal.{Refusal}
use Rattle.view_engine.specs.Disks.{IfStopped, IsAskedFor, IsNoNode, IsReasonOf, LiesOpen, MeetsIndexDamage}
use Rattle.view_engine.specs.Signatures.{kinds_of}
use Rattle.view_engine.specs.Updating.{AreFit}
use Rattle.view_engine.specs.ViewPlan.{met_by, IsPlan}
use Rattle.view_engine.specs.World.{forgetting, World}
use Rattle.view_engine.specs.Worlds.{IsAtWorld}
use Rattle.tree_updater.proofs.Each.{told_each}
use Rattle.view_engine.proofs.OpenAt.{group_at}
use Rattle.view_engine.proofs.Reasons.{meets_there, never_there, open_in_place}
use Rattle.query_args.specs.Query.{is_updated}
use Rattle.view_engine.specs.ViewQuery.{ViewQuery, parameters_of, view_request}

-- ---- as the request meets it

module _ (found : Index) (id : List ℕ) where
  -- it is no refusal
  pub read_never : (fault : IndexFault) → IsReadFault found fault → (r : Refusal) → met_by id (by_index fault) ≡ Refused r → ⊥
  read_never fault (inl disk) r is = let met : met_by id (by_index (index.Store gate.DiskFault)) ≡ Refused r = ap (λ e. met_by id (by_index e)) (sym disk) ∙ is in let no : ⊥ = cc in no
  read_never fault (inr (inl want)) r is = let met : met_by id (by_index index.NoMemory) ≡ Refused r = ap (λ e. met_by id (by_index e)) (sym want) ∙ is in let no : ⊥ = cc in no
  read_never fault (inr (inr damage)) r is =
      let met : met_by id (by_index (index.Store (gate.Damaged (name_of (file_of found)) damage.0))) ≡ Refused r = ap (λ e. met_by id (by_index e)) (sym damage.1) ∙ is in
      let no : ⊥ = cc in
      no

  -- and no full file
  pub read_unfilled : (fault : IndexFault) → IsReadFault found fault → (n : FileName) (limit : Option ℕ) → met_by id (by_index fault) ≡ Stopped (Full n limit) → ⊥
  read_unfilled fault (inl disk) n limit is = let met : met_by id (by_index (index.Store gate.DiskFault)) ≡ Stopped (Full n limit) = ap (λ e. met_by id (by_index e)) (sym disk) ∙ is in let no : ⊥ = cc in no
  read_unfilled fault (inr (inl want)) n limit is = let met : met_by id (by_index index.NoMemory) ≡ Stopped (Full n limit) = ap (λ e. met_by id (by_index e)) (sym want) ∙ is in let no : ⊥ = cc in no
  read_unfilled fault (inr (inr damage)) n limit is =
      let met : met_by id (by_index (index.Store (gate.Damaged (name_of (file_of found)) damage.0))) ≡ Stopped (Full n limit) = ap (λ e. met_by id (by_index e)) (sym damage.1) ∙ is in
      let no : ⊥ = cc in
      no

module _ {F C : Type 0} (f : Folders F) (s : Servers C) (docs : Docs) (pool pool' : Pool) (groups groups' : Groups) (cache between cache' : NodeCache) (old mid new last : F) (servers servers' : C) (name : ViewQuery) (id : List ℕ) (design : Design) (place : ℕ) (path : List ℕ) (updating : Bool)
    (updates : is_updated (parameters_of name) ≡ updating) (read : Tells (f.disk old) (f.disk mid) MovesNone) (earlier : f.faults old ≤ f.faults mid)
    (plans : (history : List Write) → IfTold (f.disk old) (λ d. AreAt docs d.now history → IsPlan updating (languages_of pool) history name id design place path))
    (is_open : LiesOpen f (record { docs = docs; pool = pool; groups = groups; cache = cache }) old)
    (asked : IfTold (f.disk old) (λ d. (document : Json) × IsAskedFor docs d.now name document × IsDesignOf document design))
    (moved : Tells (f.disk mid) (f.disk new) (Moves (IsFileOf (View (sig_of design))) (λ image. Unit {0}) (λ files. Unit {0})))
    (counted : f.faults old ≤ f.faults new)
    (slot : ℕ) (found : Index) (group : IsGroup groups' slot (sig_of design) (views_in design) found)
    (are_open : IfTold (f.disk last) (λ d. AreIndexesOpen groups' d.now))
    (there : (world : World) → IfTold (f.disk mid) (λ d. IsReached s servers pool docs (kinds_of world) groups design world.history world.pictures d.now)
    → Tells (f.disk mid) (f.disk new) (λ a b. (pictures : Pictures) × AreIndexesAt (kinds_of world) groups' b.now pictures))
    (steps : ℕ) (fault : IndexFault) (reads : ReadsRows f found place new last between cache' 0 steps (Err fault)) where
  abbrev engine : Engine
  engine = record { docs = docs; pool = pool; groups = groups; cache = cache }

  abbrev engine' : Engine
  engine' = record { docs = docs; pool = pool'; groups = groups'; cache = cache' }

  abbrev IsOwn : FileName → Type 0
  IsOwn = IsFileOf (View (sig_of design))

  moved_last : Tells (f.disk mid) (f.disk last) (Moves IsOwn (λ image. Unit {0}) (λ files. Unit {0}))
  moved_last =
      told_then (f.disk mid) (f.disk new) (f.disk last) (Moves IsOwn (λ image. Unit {0}) (λ files. Unit {0})) MovesNone (Moves IsOwn (λ image. Unit {0}) (λ files. Unit {0}))
      (λ a b c moves none. moves_then IsOwn (λ image. Unit {0}) (λ image. Unit {0}) (λ image. Unit {0}) (λ files. Unit {0}) (λ files. Unit {0}) (λ files. Unit {0}) a b c (λ image is. tt) (λ was image is. tt) (λ was is. tt) moves
      (none_wider IsOwn (λ image. Unit {0}) (λ files. Unit {0}) b c (λ image is. tt) (λ same. tt) none)) moved reads.disk

  module _ (n : FileName) (at : ℕ) (is : fault ≡ index.Store (gate.Damaged n at)) where
    abbrev IsBad : Disk FileName → Type 0
    IsBad d = IsBadPlace found (tree_of found place) d n at × AreIndexesOpen groups' d.now

    bad_there : IfTold (f.disk last) IsBad
    bad_there = told_pair (f.disk last) (λ d. FindsDamage {T = List Row} (IsBadPlace found (tree_of found place) d) (Err fault)) (λ d. AreIndexesOpen groups' d.now) _ (λ d finds are. (finds n at (ap Err is), are)) reads.damaged are_open

    no_node : (d : Disk FileName) → IsBadPlace found (tree_of found place) d n at → IsNoNode (node_at (d.now n).seen) design.views found (is_updated (parameters_of name) ≡ true) at
    no_node d bad = ⊎_elim (λ none. inl (none.0, inr (place, none.1))) (λ unfit. inr (inr (place, unfit))) bad.bad

    damage_met : Tells (f.disk old) (f.disk last) (λ a b. MeetsIndexDamage docs groups' a.now b.now (Ok (view_request name)) n at)
    damage_met = meets_there f s docs pool pool' groups groups' cache cache' steps old mid last servers servers' name id design place path updating updates read earlier plans is_open asked n at (λ a b. Moves IsOwn (λ image. Unit {0}) (λ files. Unit {0}) a b × IsBad b)
        (λ a b bad. (
          subst IsOwn (sym (bad.1.0).own) group.named,
          inr (slot, found, group, open_in_place groups' slot (sig_of design) (views_in design) found b.now group bad.1.1, (bad.1.0).own, no_node b bad.1.0),
        ))
        (told_end (f.disk mid) (f.disk last) (Moves IsOwn (λ image. Unit {0}) (λ files. Unit {0})) IsBad moved_last bad_there)

    -- there is none in a world that is fit
    damage_never : (world : World) → IfTold (f.disk old) (λ d. IsAtWorld engine d.now world → AreFit world.history → ⊥)
    damage_never world =
        never_there f s docs pool pool' groups groups' cache cache' steps old mid last servers servers' name id design place path updating updates read earlier plans is_open asked n at world
        (told_before (f.disk mid) (f.disk new) (λ d. IsReached s servers pool docs (kinds_of (forgetting world)) groups design world.history world.pictures d.now)
        (λ a b. (pictures : Pictures) × AreIndexesAt (kinds_of (forgetting world)) groups' b.now pictures) (λ d. (pictures : Pictures) × AreIndexesAt (kinds_of (forgetting world)) groups' d.now pictures) ⊥ (λ a b held. held)
        (told_now (f.disk new) _ _
        (λ d each held. each (held.0 (sig_of design)) (group_at (kinds_of (forgetting world)) groups' d.now held.0 slot (sig_of design) (views_in design) found group held.1) n at (ap Err is))
        (told_each (f.disk new) (λ (picture : Option Picture) d. IsAtOf (kinds_of (forgetting world)) (sig_of design) found d.now picture → FindsDamage {T = List Row} (λ name at. ⊥) (Err fault))
        (λ picture. reads.sound (kinds_of (forgetting world) (sig_of design)).functions (kinds_of (forgetting world) (sig_of design)).views picture)))
        (there (forgetting world)))

  abbrev Why : Halt → Type 0
  Why = IfStopped (IsReasonOf f engine engine' old last (Ok (view_request name)))

  pub read_why : Why (met_by id (by_index fault))
  read_why = by_kind reads.faults
    where
      by_kind : IsReadFault found fault → Why (met_by id (by_index fault))
      by_kind (inl disk) = subst (λ e. Why (met_by id (by_index e))) (sym disk) (inl (Rose-earlier (f.faults old) (f.faults new) (f.faults last) counted (reads.cause.failed disk), tt))
      by_kind (inr (inl want)) = subst (λ e. Why (met_by id (by_index e))) (sym want) (inl tt)
      by_kind (inr (inr damage)) = subst (λ e. Why (met_by id (by_index e))) (sym damage.1)
          (inr (tt, damage_met (name_of (file_of found)) damage.0 damage.1, damage_never (name_of (file_of found)) damage.0 damage.1))
