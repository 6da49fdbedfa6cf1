-- Why an exchange of the rows of documents is refused.
use Rattle.std.proofs.Common.{◌≡◌, inl, inr, ⊎_elim, ◌<◌, ℕ, List, Option, Some, None, Result, Ok, Err, OnOk, refl, ap, sym, ◌∙◌, subst}
use Rattle.std.specs.Prelude.{option_map}
use Rattle.view_ports.specs.Disk.{Disk, IfTold, Tells}
use Rattle.view_ports.specs.Functions.{Functions}
use Rattle.view_ports.specs.declared.file_name.FileName.{FileName}
use Rattle.view_ports.specs.declared.folder.Folder.{Ghosts as Folders}
use Rattle.view_ports.specs.declared.servers.Servers.{Ghosts as Servers}
use Rattle.gate_file.specs.declared.fault.GateFault.{GateFault}
use Rattle.gate_file.specs.declared.fault.GateFault.TheVariants.{DiskFault, Damaged, Full, NoMemory as GateNoMemory}
use Rattle.gate_file.specs.declared.gate.GateFile.{GateFile}
use Rattle.gate_file.specs.GateFile.{name_of}
use Rattle.gate_file.specs.Pair.{own_bytes}
use Rattle.gate_file.specs.Publish.{IsTooLong}
use Rattle.design_docs.specs.declared.design.View.{View}
use Rattle.tree_laws.specs.declared.tree.TreeFault.{TreeFault}
use Rattle.tree_laws.specs.declared.tree.TreeFault.TheVariants as tree_fault
use Rattle.tree_laws.specs.Stores.{Places, WhereTold}
use Rattle.node_file.specs.declared.file_nodes.FileNodes.{FileNodes}
use Rattle.node_file.specs.Cache.{gets_of}
use Rattle.node_file.specs.FileNodes.{nodes_of, record_size, Adds, FileFails, Stays}
use Rattle.node_file.specs.ReadLaws.{newest_both}
use Rattle.node_file.specs.RecordLaws.{carried}
use Rattle.node_file.specs.Records.{node_at}
use Rattle.reduce_tree.specs.Calls.{places}
use Rattle.view_model.specs.Picture.{Picture}
use Rattle.child_pool.specs.declared.pool_fault.PoolFault.{PoolFault}
use Rattle.child_pool.specs.declared.pool_fault.PoolFault.TheVariants as pool_fault
use Rattle.child_pool.specs.declared.summers.Summers.{Summers}
use Rattle.row_exchange.specs.declared.doc_rows.DocRows.{DocRows}
use Rattle.index_trees.specs.declared.trees.IndexTrees.{IndexTrees}
use Rattle.index_trees.specs.Exchanges.{Exchanges, FailsFound, GotFound, GotNodesIn, IsOver as TreesOver, StoreWent, SummersWent as TreesWent}
use Rattle.tree_index.specs.declared.fault.IndexFault.{IndexFault}
use Rattle.tree_index.specs.declared.fault.IndexFault.TheVariants.{Store}
use Rattle.tree_index.specs.declared.index.Index.{Index}
use Rattle.tree_index.specs.Calls.{IsCounted}
use Rattle.tree_index.specs.InFile.{in_file}
use Rattle.tree_index.specs.Index.{file_of, next_in, next_of}
use Rattle.tree_index.specs.Replaces.{GotInFile, HasItsCause, IsBadNode, IsFilled, IsOver, SummersWent}
use Rattle.tree_index.proofs.Answering.{answered, told_as, FileWent}
use Rattle.tree_index.proofs.Blaming.{compile_of, counts_disk, counts_none, damage_of, disk_of, full_of, newest_such, want_named}
use Rattle.tree_index.proofs.Costs.{number_of_views}
use Rattle.tree_index.proofs.Replacing.{keeps_last, told_after, trees_over, went, IsReplaced}
use Rattle.tree_index.proofs.Kept.{name_kept}

abbrev Found : Type 0
Found = Result IndexTrees (TreeFault GateFault PoolFault)

-- ---- a place that was got

-- what stood there stands there after more was added
stood_there : (mid new : Option (Disk FileName)) (own own' name : FileName) (at : ℕ) (bytes : List ℕ) (stays : Disk FileName → Disk FileName → Type 0)
    → ((d e : Disk FileName) → stays d e → node_at (d.now own).seen at ≡ Some bytes → node_at (e.now own).seen at ≡ Some bytes)
    → places (option_map (λ (d : Disk FileName). node_at (d.now own).seen) mid) at ≡ Some bytes → Tells mid new stays → own' ≡ own → name ≡ own' → IfTold new (λ d. node_at (d.now name).seen at ≡ None) → ⊥
stood_there None new own own' name at bytes stays carry there told same is none = cc
stood_there (Some d) None own own' name at bytes stays carry there told same is none = absurd told
stood_there (Some d) (Some e) own own' name at bytes stays carry there told same is none =
    let stands = carry d e told there in
    let none_there : node_at (e.now own).seen at ≡ None = subst (λ n. node_at (e.now n).seen at ≡ None) (is ∙ same) none in
    cc

module _ {F : Type 0} (f : Folders F) (a b : FileNodes F) where
  -- the store never fails for a place where something stood
  never_missing : (name : FileName) (at : ℕ) → FailsFound (in_file f) a b (Damaged name at) → ⊥
  never_missing name at fails =
      let mid = fails.mid in
      let cause = (fails.failed).cause in
      let adds = cause.0 in
      let got = newest_both (gets_of a.cache.now) (gets_of mid.cache.now) (gets_of b.cache.now) at (fails.went).gets (fails.failed).asked in
      let there = newest_such (λ k. (bytes : List ℕ) × (places (nodes_of f mid) k ≡ Some bytes)) (gets_of a.cache.now) (gets_of b.cache.now) at fails.found got in
      stood_there (f.disk mid.folder.now) (f.disk b.folder.now) (name_of mid.file.now) (name_of b.file.now) name at there.0 (Stays mid.file.now)
      (λ d e stays. carried (d.now (name_of mid.file.now)).seen (e.now (name_of mid.file.now)).seen stays at there.0)
      there.1 adds.stays (ap name_of (adds.file).same) cause.1 cause.2

-- ---- the servers

talked : {C : Type 0} (s : Servers C) (own : FileName) (old new : Summers C) (found : Found) → TreesWent s old new found → SummersWent s old new (answered own found)
talked s own old new (Ok after) talks = talks
talked s own old new (Err (tree_fault.Store DiskFault)) talks = talks
talked s own old new (Err (tree_fault.Store (Full name length))) talks = talks
talked s own old new (Err (tree_fault.Store (Damaged name at))) talks = talks
talked s own old new (Err (tree_fault.Store GateNoMemory)) talks = inl talks
talked s own old new (Err (tree_fault.BadNode at)) talks = talks
talked s own old new (Err (tree_fault.Summer pool_fault.ServerFault)) gives = gives
talked s own old new (Err (tree_fault.Summer (pool_fault.BadReply line))) gives = gives
talked s own old new (Err (tree_fault.Summer pool_fault.Compile)) gives = gives
talked s own old new (Err (tree_fault.Summer pool_fault.UnknownLanguage)) gives = gives
talked s own old new (Err (tree_fault.Summer pool_fault.NoMemory)) gives = inr gives
talked s own old new (Err tree_fault.NoMemory) talks = inl talks

-- ---- the count of faults

counted : {F : Type 0} (f : Folders F) (gate gate' : GateFile) (old new : F) (own : FileName) (found : Found) → FileWent f gate gate' old new found → IsCounted f old new (answered own found)
counted f gate gate' old new own found went = by_found found went
  where
    none : (q : Found) → (q ≡ Err (tree_fault.Store DiskFault) → ⊥) → Adds f gate gate' old new → IsCounted f old new (answered own q)
    none q never adds = counts_none (f.faults old) (f.faults new) (answered own q) (λ is. never (disk_of own q is)) adds.still

    by_found : (q : Found) → FileWent f gate gate' old new q → IsCounted f old new (answered own q)
    by_found (Ok after) adds = none (Ok after) (λ is. cc) adds
    by_found (Err (tree_fault.Store DiskFault)) went = counts_disk (f.faults old) (f.faults new) (Err (Store DiskFault)) refl (went.0).faults went.1
    by_found (Err (tree_fault.Store (Full name length))) went = none (Err (tree_fault.Store (Full name length))) (λ is. cc) (went.1).0
    by_found (Err (tree_fault.Store (Damaged name at))) went = none (Err (tree_fault.Store (Damaged name at))) (λ is. cc) (went.1).0
    by_found (Err (tree_fault.Store GateNoMemory)) went = none (Err (tree_fault.Store GateNoMemory)) (λ is. cc) went.1
    by_found (Err (tree_fault.BadNode at)) adds = none (Err (tree_fault.BadNode at)) (λ is. cc) adds
    by_found (Err (tree_fault.Summer fault)) adds = none (Err (tree_fault.Summer fault)) (λ is. cc) adds
    by_found (Err tree_fault.NoMemory) adds = none (Err tree_fault.NoMemory) (λ is. cc) adds

on_weaker : (P Q : Type 0) → (P → Q) → (found : Found) → OnOk found P → OnOk found Q
on_weaker P Q then (Ok after) on = then on
on_weaker P Q then (Err fault) on = tt

on_answered : (own : FileName) (P : Type 0) (found : Found) → OnOk found P → OnOk (answered own found) P
on_answered own P (Ok after) on = on
on_answered own P (Err fault) on = tt

module _ {F C : Type 0} (f : Folders F) (s : Servers C) (changes : List DocRows) (index index' : Index) (a b : FileNodes F) (summers summers' : Summers C) (before now : ℕ)
    (found : Result IndexTrees (TreeFault GateFault PoolFault)) (x : Exchanges (in_file f) s (next_of index) changes a b summers summers' before now found)
    (file_is : a.file.now ≡ file_of index) (file_now : b.file.now ≡ file_of index') (is : IsReplaced changes index index' found) where
  abbrev own : FileName
  own = name_of (file_of index)

  abbrev views : List View
  views = summers.design.now.views

  abbrev old : F
  old = a.folder.now

  abbrev new : F
  new = b.folder.now

  abbrev result : Result (Unit {0}) IndexFault
  result = answered own found

  abbrev Over : Option Functions → Option Picture → Disk FileName → Type 0
  Over functions picture d = IsOver f s changes index index' old new summers summers' functions picture d

  file_went : FileWent f (file_of index) (file_of index') old new found
  file_went = went f s changes index index' a b summers summers' before now found x file_is file_now is

  name_now : name_of (file_of index') ≡ own
  name_now = name_kept index index' (keeps_last f s changes index index' a b summers summers' before now found x file_is file_now is)

  -- what stands in the file of an index at a picture
  abbrev there : Disk FileName → Places
  there d = node_at (d.now own).seen

  module _ (functions : Option Functions) (picture : Option Picture) (d : Disk FileName) (told : f.disk old ≡ Some d) (over : Over functions picture d) where
    trees : TreesOver (in_file f) s (next_of index) changes a b summers summers' before now functions (there d) (next_in index)
    trees = trees_over f s changes index index' a b summers summers' before now found x file_is file_now is functions picture d told over

    -- no damage is found
    sound : (name : FileName) (at : ℕ) → result ≡ Err (Store (Damaged name at)) → ⊥
    sound name at damaged = ⊎_elim
        (λ of_store. never_missing f a b name at (subst (GotFound (in_file f) a b) of_store (x.found functions (there d) (next_in index) trees)))
        (λ of_node. x.sound functions (there d) (next_in index) at trees of_node.0)
        (damage_of own found name at damaged)

  abbrev BadNode : Disk FileName → FileName → ℕ → Type 0
  BadNode e name at = IsBadNode f s changes index index' old new summers summers' a.cache.now b.cache.now e name at

  abbrev Filled : FileName → Option ℕ → Type 0
  Filled name size = IsFilled f s changes index index' old new summers summers' a.cache.now b.cache.now name size

  -- what is found damaged is bad
  bad_node : (e : Disk FileName) → f.disk new ≡ Some e → (name : FileName) (at : ℕ) → result ≡ Err (Store (Damaged name at)) → BadNode e name at
  bad_node e told name at damaged = ⊎_elim of_store of_node (damage_of own found name at damaged)
    where
      of_store : found ≡ Err (tree_fault.Store (Damaged name at)) → BadNode e name at
      of_store failed =
          let cause = (subst (FileWent f (file_of index) (file_of index') old new) failed file_went).1 in
          let fails : FileFails f a b (Damaged name at) = subst (StoreWent (in_file f) a b) failed x.store in
          record { own = cause.1; bad = inl (subst (λ disk. IfTold disk (λ d. node_at (d.now name).seen at ≡ None)) told cause.2, fails.asked) }

      of_node : (found ≡ Err (tree_fault.BadNode at)) × (name ≡ own) → BadNode e name at
      of_node failed =
          let same : name_of (file_of index') ≡ name = name_now ∙ sym failed.1 in
          record {
            own = sym same;
            bad = inr (x.damaged at failed.0 (node_at (e.now name).seen)
                (told_after f s changes index index' a b summers summers' before now found x file_is file_now is e told ∙ ap (λ n. Some (node_at (e.now n).seen)) same));
          }

  -- and the file is full only where a piece would make it too long
  full_file : (name : FileName) (size : Option ℕ) → result ≡ Err (Store (Full name size)) → Filled name size
  full_file name size full =
      let failed = full_of own found name size full in
      let fails : FileFails f a b (Full name size) = subst (StoreWent (in_file f) a b) failed x.store in
      let asked = fails.asked in
      record {
        limit = ((subst (FileWent f (file_of index) (file_of index') old new) failed file_went).1).1;
        piece = asked.0;
        more = asked.1;
        last = asked.2;
        long = subst (λ (g : GateFile). IsTooLong g (record_size asked.0)) file_now asked.3;
      }

  -- whatever was got fits
  got_nodes : (e : Disk FileName) → f.disk new ≡ Some e → OnOk result (GotInFile f s changes index index' old new summers summers' a.cache.now b.cache.now e)
  got_nodes e told =
      let Got : Type 0 = GotInFile f s changes index index' old new summers summers' a.cache.now b.cache.now e in
      on_answered own Got found
      (on_weaker (WhereTold (nodes_of f b) (λ there. GotNodesIn views there (gets_of a.cache.now) (gets_of b.cache.now))) Got
      (λ got. got (node_at (own_bytes (file_of index') e.now)) (told_after f s changes index index' a b summers summers' before now found x file_is file_now is e told)) found x.got)

  pub causes : HasItsCause f s changes index index' old new summers summers' a.cache.now b.cache.now result
  causes = record {
    sound = λ functions picture. told_as (f.disk old) _ (λ d told over. sound functions picture d told over);
    damaged = told_as (f.disk new) _ bad_node;
    got = told_as (f.disk new) _ got_nodes;
    full = full_file;
    faults = want_named own found;
    cause = counted f (file_of index) (file_of index') old new own found file_went;
    talk = talked s own summers summers' found x.talk;
    usable = λ view within some. on_answered own _ found (x.usable view (subst (λ n. view < n) (number_of_views index) within) some);
    complains = λ complaint.
        let one = x.complains (compile_of own found complaint) in (
          one.0,
          subst (λ n. one.0 < n) (sym (number_of_views index)) one.1,
          one.2,
          λ functions picture. told_as (f.disk old) _ (λ d told over. one.3 functions (there d) (next_in index) (trees functions picture d told over)),
        );
  }
