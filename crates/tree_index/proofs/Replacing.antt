-- An index after the rows of documents were exchanged in its file, or as far as that went.
use Rattle.std.proofs.Common.{◌≡◌, ⊎_elim, ℕ, List, Option, Some, Result, Ok, Err, OnOk, OnErr, ap, sym, ◌∙◌, subst}
use Rattle.std.specs.Prelude.{true, option_map, IfOk}
use Rattle.std.specs.List.{list_all}
use Rattle.view_ports.specs.Disk.{Disk, IfTold, Moves, Tells}
use Rattle.view_ports.specs.File.{File}
use Rattle.view_ports.specs.Functions.{Functions}
use Rattle.view_ports.specs.declared.file_name.FileName.{FileName}
use Rattle.view_ports.specs.declared.folder.Folder.{Ghosts as Folders}
use Rattle.view_ports.specs.declared.servers.Servers.{Ghosts as Servers}
use Rattle.view_ports.proofs.Told.{told_both, told_map}
use Rattle.gate_file.specs.declared.fault.GateFault.{GateFault}
use Rattle.gate_file.specs.declared.fault.GateFault.TheVariants.{DiskFault}
use Rattle.gate_file.specs.declared.gate.GateFile.{GateFile}
use Rattle.gate_file.specs.GateFile.{name_of, start_of}
use Rattle.design_docs.specs.declared.design.View.{View}
use Rattle.tree_laws.specs.declared.tree.TreeFault.{TreeFault}
use Rattle.tree_laws.specs.declared.tree.TreeFault.TheVariants as tree_fault
use Rattle.node_file.specs.declared.file_nodes.FileNodes.{FileNodes}
use Rattle.node_file.specs.FileNodes.{nodes_of, Adds, AddsSome, IsKept, IsLonger, MovesOn, Stays}
use Rattle.node_file.specs.Records.{node_at}
use Rattle.reduce_tree.specs.Calls.{places}
use Rattle.view_model.specs.Picture.{Picture}
use Rattle.child_pool.specs.declared.pool_fault.PoolFault.{PoolFault}
use Rattle.child_pool.specs.declared.summers.Summers.{Summers}
use Rattle.row_exchange.specs.declared.doc_rows.DocRows.{DocRows}
use Rattle.row_exchange.specs.Replaced.{is_change, replaced_views}
use Rattle.index_trees.specs.declared.trees.IndexTrees.{IndexTrees}
use Rattle.index_trees.specs.Exchanges.{Exchanges, IsOver as TreesOver}
use Rattle.index_trees.specs.Trees.{HaveRoom, HoldRows}
use Rattle.tree_index.specs.declared.fault.IndexFault.{IndexFault}
use Rattle.tree_index.specs.declared.index.Index.{Index}
use Rattle.tree_index.specs.declared.shown.Shown.{Shown}
use Rattle.tree_index.specs.Calls.{HasTrees, IsAt, IsOpen}
use Rattle.tree_index.specs.Faults.{UnlessDisk}
use Rattle.tree_index.specs.Held.{IsFileOf, Stands}
use Rattle.tree_index.specs.InFile.{in_file}
use Rattle.tree_index.specs.Index.{file_of, last_of, next_in, next_of, picture_of, stem_of, GoesOn}
use Rattle.tree_index.specs.Replaces.{IsOver, Replaces}
use Rattle.tree_index.specs.Trees.{seen}
use Rattle.tree_index.proofs.Answering.{answered, disk_or, file_went, tells_as, FileWent}
use Rattle.tree_index.proofs.Kept.{at_kept, moves_at, moves_open, open_kept, room_kept, trees_kept, KeepsLast}

abbrev Found : Type 0
Found = Result IndexTrees (TreeFault GateFault PoolFault)

-- what the next commit makes then
abbrev pub MakesNext : List DocRows → Index → Index → Result IndexTrees (TreeFault GateFault PoolFault) → Type 0
MakesNext changes index index' (Ok after) = (next_of index' ≡ after) × (next_in index' ≡ replaced_views changes (next_in index))
MakesNext changes index index' (Err fault) = GoesOn index index'

-- the index is as before but for what the next commit makes, and for its file
pub record IsReplaced (changes : List DocRows) (index index' : Index) (found : Result IndexTrees (TreeFault GateFault PoolFault)) : Type 0 where
  pub picture : picture_of index' ≡ picture_of index
  pub last : seen (last_of index') ≡ seen (last_of index)
  pub next : MakesNext changes index index' found

pub is_replaced : (changes : List DocRows) (index index' : Index) (after : IndexTrees) → index'.seq ≡ index.seq → last_of index' ≡ last_of index → next_of index' ≡ after
    → index'.shown ≡ record { last = index.shown.last; next = replaced_views changes (next_in index) } → IsReplaced changes index index' (Ok after)
is_replaced changes index index' after seq last next shown = record {
  picture = λ i. record { seq = seq i; rows = (shown i).last };
  last = ap seen last;
  next = (next, ap (λ (rows : Shown). rows.next) shown);
}

pub is_refused : (changes : List DocRows) (index index' : Index) (fault : TreeFault GateFault PoolFault) → index'.seq ≡ index.seq → last_of index' ≡ last_of index → next_of index' ≡ next_of index → index'.shown ≡ index.shown
    → IsReplaced changes index index' (Err fault)
is_refused changes index index' fault seq last next shown = record {
  picture = λ i. record { seq = seq i; rows = (shown i).last };
  last = ap seen last;
  next = record { rows = ap (λ (rows : Shown). rows.next) shown; trees = ap seen next };
}

module _ {F C : Type 0} (f : Folders F) (s : Servers C) (changes : List DocRows) (index index' : Index) (a b : FileNodes F) (summers summers' : Summers C) (before now : ℕ)
    (found : Result IndexTrees (TreeFault GateFault PoolFault)) (x : Exchanges (in_file f) s (next_of index) changes a b summers summers' before now found)
    (file_is : a.file.now ≡ file_of index) (file_now : b.file.now ≡ file_of index') (is : IsReplaced changes index index' found) where
  abbrev own : FileName
  own = name_of (file_of index)

  abbrev views : List View
  views = summers.design.now.views

  abbrev old : F
  old = a.folder.now

  abbrev new : F
  new = b.folder.now

  abbrev result : Result (Unit {0}) IndexFault
  result = answered own found

  abbrev Over : Option Functions → Option Picture → Disk FileName → Type 0
  Over functions picture d = IsOver f s changes index index' old new summers summers' functions picture d

  pub went : FileWent f (file_of index) (file_of index') old new found
  went = file_went f a b (file_of index) (file_of index') found file_is file_now x.store

  pub longer : IsLonger (file_of index) (file_of index')
  longer = ⊎_elim (λ adds. adds.file) (λ some. (some.1).file) (disk_or f (file_of index) (file_of index') old new found went)

  pub keeps_last : KeepsLast index index'
  keeps_last = record { picture = is.picture; last = is.last; longer = longer }

  -- ---- what the store tells

  pub told_before : (d : Disk FileName) → f.disk old ≡ Some d → nodes_of f a ≡ Some (node_at (d.now own).seen)
  told_before d told =
      ap (option_map (λ (disk : Disk FileName). node_at (disk.now (name_of a.file.now)).seen)) told
      ∙ ap (λ (g : GateFile). Some (node_at (d.now (name_of g)).seen)) file_is

  pub told_after : (e : Disk FileName) → f.disk new ≡ Some e → nodes_of f b ≡ Some (node_at (e.now (name_of (file_of index'))).seen)
  told_after e told =
      ap (option_map (λ (disk : Disk FileName). node_at (disk.now (name_of b.file.now)).seen)) told
      ∙ ap (λ (g : GateFile). Some (node_at (e.now (name_of g)).seen)) file_now

  -- the trees of an index at a picture hold the next rows
  pub trees_over : (functions : Option Functions) (picture : Option Picture) (d : Disk FileName) → f.disk old ≡ Some d → Over functions picture d
      → TreesOver (in_file f) s (next_of index) changes a b summers summers' before now functions (node_at (d.now own).seen) (next_in index)
  trees_over functions picture d told over = record {
    told = told_before d told;
    by = (over.0).by;
    holds = (over.1).next;
    apart = (over.0).apart;
    whole = subst (λ n. list_all (is_change n) changes ≡ true) (sym index.same ∙ ((over.1).next).number) (over.0).whole;
  }

  -- ---- the next trees

  module _ (functions : Option Functions) (picture : Option Picture) (d e : Disk FileName) (d_is : f.disk old ≡ Some d) (e_is : f.disk new ≡ Some e) (over : Over functions picture d) (stays : Stays (file_of index) d e) where
    next_found : (q : Found) → IfOk q (λ after. HoldRows functions views (places (nodes_of f b)) after (replaced_views changes (next_in index))) → MakesNext changes index index' q
        → HasTrees functions views index' e.now (next_of index') (next_in index')
    next_found (Ok after) made next =
        subst (λ (t : IndexTrees). HasTrees functions views index' e.now t (next_in index')) (sym next.0)
        (subst (λ rows. HasTrees functions views index' e.now after rows) (sym next.1)
        (subst (λ there. HoldRows functions views (places there) after (replaced_views changes (next_in index))) (told_after e e_is) made))
    next_found (Err fault) made next = trees_kept index index' keeps_last d e functions views (next_of index) (next_of index') (next_in index) (next_in index') next.trees next.rows stays (over.1).next

    next_held : HasTrees functions views index' e.now (next_of index') (next_in index')
    next_held = next_found found (x.made functions (node_at (d.now own).seen) (next_in index) (trees_over functions picture d d_is over)) is.next

  next_room : HaveRoom (start_of (file_of index)) (next_of index) → HaveRoom (start_of (file_of index')) (next_of index')
  next_room room = by_found found (x.room (subst (λ (g : GateFile). HaveRoom (start_of g) (next_of index)) (sym file_is) room)) is.next
    where
      by_found : (q : Found) → IfOk q (HaveRoom (start_of b.file.now)) → MakesNext changes index index' q → HaveRoom (start_of (file_of index')) (next_of index')
      by_found (Ok after) rooms next = subst (λ (t : IndexTrees). HaveRoom (start_of (file_of index')) t) (sym next.0) (subst (λ (g : GateFile). HaveRoom (start_of g) after) file_now rooms)
      by_found (Err fault) rooms next = room_kept index index' keeps_last (next_of index) (next_of index') next.trees room

  -- ---- the clauses

  disk_failed : {P : Type 0} → found ≡ Err (tree_fault.Store DiskFault) → UnlessDisk result P
  disk_failed failed unless = absurd (unless (ap (answered own) failed))

  -- what stood behind the slots stands there, and only this file changed
  stays_and_moves : Adds f (file_of index) (file_of index') old new → Tells (f.disk old) (f.disk new) (λ d e. Stays (file_of index) d e × MovesOn (file_of index) (IsKept (file_of index) (file_of index')) d e)
  stays_and_moves adds =
      told_both (f.disk old) (f.disk new) (Stays (file_of index)) (MovesOn (file_of index) (IsKept (file_of index) (file_of index'))) (λ d e. Stays (file_of index) d e × MovesOn (file_of index) (IsKept (file_of index) (file_of index')) d e)
      (λ d e first second. (first, second)) adds.stays adds.disk

  module _ (functions : Option Functions) (picture : Option Picture) where
    abbrev AtEnd : (FileName → File) → Type 0
    AtEnd files = UnlessDisk result (IsAt functions views index' files picture)

    abbrev Stand : Disk FileName → Disk FileName → Type 0
    Stand = Moves (IsFileOf (stem_of index)) (λ image. Stands functions views (stem_of index) image picture) AtEnd

    stand_all : IfTold (f.disk old) (Over functions picture) → Adds f (file_of index) (file_of index') old new → Tells (f.disk old) (f.disk new) Stand
    stand_all over adds =
        tells_as (f.disk old) (f.disk new) (Over functions picture) (λ d e. Stays (file_of index) d e × MovesOn (file_of index) (IsKept (file_of index) (file_of index')) d e) Stand
        (λ d e d_is e_is here moved.
        moves_at index d e (IsKept (file_of index) (file_of index')) moved.1 functions views picture AtEnd here.1
        (λ others kept unless. at_kept index index' keeps_last d e others kept (next_room ((here.1).is_open).next_room) moved.0 functions views picture (next_held functions picture d e d_is e_is here moved.0) here.1))
        over (stays_and_moves adds)

    stand_some : IfTold (f.disk old) (Over functions picture) → (found ≡ Err (tree_fault.Store DiskFault)) × AddsSome f (file_of index) (file_of index') old new → Tells (f.disk old) (f.disk new) Stand
    stand_some over failed =
        tells_as (f.disk old) (f.disk new) (Over functions picture) (MovesOn (file_of index) (λ file now. Unit {0})) Stand
        (λ d e d_is e_is here moved. moves_at index d e (λ file now. Unit {0}) moved functions views picture AtEnd here.1 (λ others ended. disk_failed failed.0))
        over (failed.1).disk

    stand : IfTold (f.disk old) (Over functions picture) → Tells (f.disk old) (f.disk new) Stand
    stand over = ⊎_elim (stand_all over) (stand_some over) (disk_or f (file_of index) (file_of index') old new found went)

  -- whatever the rows are
  abbrev OpenAtEnd : (FileName → File) → Type 0
  OpenAtEnd files = UnlessDisk result (IsOpen index' files)

  abbrev StayOpen : Disk FileName → Disk FileName → Type 0
  StayOpen = Moves (IsFileOf (stem_of index)) (λ image. Unit {0}) OpenAtEnd

  module _ (is_open : IfTold (f.disk old) (λ d. IsOpen index d.now)) where
    open_all : Adds f (file_of index) (file_of index') old new → Tells (f.disk old) (f.disk new) StayOpen
    open_all adds =
        tells_as (f.disk old) (f.disk new) (λ d. IsOpen index d.now) (λ d e. Stays (file_of index) d e × MovesOn (file_of index) (IsKept (file_of index) (file_of index')) d e) StayOpen
        (λ d e d_is e_is here moved.
        moves_open index d e (IsKept (file_of index) (file_of index')) moved.1 OpenAtEnd here
        (λ others kept unless. open_kept index index' keeps_last d e others kept (next_room here.next_room) moved.0 here))
        is_open (stays_and_moves adds)

    open_some : (found ≡ Err (tree_fault.Store DiskFault)) × AddsSome f (file_of index) (file_of index') old new → Tells (f.disk old) (f.disk new) StayOpen
    open_some failed =
        tells_as (f.disk old) (f.disk new) (λ d. IsOpen index d.now) (MovesOn (file_of index) (λ file now. Unit {0})) StayOpen
        (λ d e d_is e_is here moved. moves_open index d e (λ file now. Unit {0}) moved OpenAtEnd here (λ others ended. disk_failed failed.0))
        is_open (failed.1).disk

    stay_open : Tells (f.disk old) (f.disk new) StayOpen
    stay_open = ⊎_elim open_all open_some (disk_or f (file_of index) (file_of index') old new found went)

  -- what stood behind the slots stands there, unless the disk failed
  abbrev StaysThere : Disk FileName → Disk FileName → Type 0
  StaysThere d e = UnlessDisk result (Stays (file_of index) d e)

  stay_there : Tells (f.disk old) (f.disk new) StaysThere
  stay_there = ⊎_elim
      (λ adds. told_map (f.disk old) (f.disk new) (Stays (file_of index)) StaysThere (λ d e stays unless. stays) adds.stays)
      (λ failed. told_map (f.disk old) (f.disk new) (MovesOn (file_of index) (λ file now. Unit {0})) StaysThere (λ d e moved. disk_failed failed.0) (failed.1).disk)
      (disk_or f (file_of index) (file_of index') old new found went)

  replaced_rows : (q : Found) → MakesNext changes index index' q → OnOk (answered own q) (next_in index' ≡ replaced_views changes (next_in index))
  replaced_rows (Ok after) next = next.1
  replaced_rows (Err fault) next = tt

  refused_rows : (q : Found) → MakesNext changes index index' q → OnErr (answered own q) (GoesOn index index')
  refused_rows (Ok after) next = tt
  refused_rows (Err fault) next = next

  pub replaces : IfTold (f.disk old) (λ d. IsOpen index d.now) → Replaces f s changes index index' old new summers summers' result
  replaces is_open = record {
    same = record { picture = is.picture; last = is.last; name = ap name_of longer.same };
    file = longer;
    stays = stay_there;
    replaced = replaced_rows found is.next;
    refused = refused_rows found is.next;
    stands = stand;
    others = stay_open is_open;
  }
