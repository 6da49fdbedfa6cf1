-- What a walk over the nodes of an index's file says of the rows of a view.
use Rattle.std.proofs.Common.{◌≡◌, inl, inr, ◌+◌, ◌*◌, ◌<◌, ◌≤◌, ◌∙◌, ℕ, zero, suc, List, [], ◌∷◌, ◌++◌, All, Option, Some, None, Result, Ok, Err, length, refl, sym, ap, subst, arith}
use Rattle.std.specs.Prelude.{IfErr, IfOk, IsSorted, OnOk, option_map, slice_index_or}
use Rattle.std.specs.List.{AllByRecursion}
use Rattle.std.proofs.Math.ListN.{get_or-map}
use Rattle.std.proofs.lemmas.List.Elements.{All-weaker, recursion_from_All}
use Rattle.std.proofs.lemmas.List.Sorted.{All-permutation, length_permutation}
use Rattle.json_terms.specs.declared.fault.NoMemory.{NoMemory as Want}
use Rattle.json_terms.specs.declared.term.Row.{Row}
use Rattle.view_ports.specs.Disk.{Disk, IfTold, MovesNone}
use Rattle.view_ports.specs.Functions.{Functions}
use Rattle.view_ports.specs.declared.file_name.FileName.{FileName}
use Rattle.view_ports.specs.declared.folder.Folder.{Ghosts as Folders}
use Rattle.gate_file.specs.declared.fault.GateFault.{GateFault}
use Rattle.gate_file.specs.declared.fault.GateFault.TheVariants.{Damaged, DiskFault, Full, NoMemory as GateNoMemory}
use Rattle.gate_file.specs.Calls.{Moved, Told}
use Rattle.gate_file.specs.GateFile.{name_of}
use Rattle.raw_collation.specs.Collation.{rows_cmp}
use Rattle.raw_collation.specs.Sorting.{sorted_rows}
use Rattle.raw_collation.proofs.SortedRows.{sorted_rows_is_sorted, sorted_rows_permutes}
use Rattle.design_docs.specs.declared.design.View.{View}
use Rattle.tree_laws.specs.declared.store.NodeSource.{Ghosts as Sources}
use Rattle.tree_laws.specs.declared.tree.Tree.{Tree}
use Rattle.tree_laws.specs.declared.tree.TreeFault.{TreeFault}
use Rattle.tree_laws.specs.declared.tree.TreeFault.TheVariants as tree_fault
use Rattle.tree_laws.specs.Reaching.{HasNode, IsReached, IsUnfit}
use Rattle.tree_laws.specs.Stores.{EachSince, Places}
use Rattle.tree_laws.specs.Trees.{IsTreeSize}
use Rattle.tree_laws.specs.Values.{no_values}
use Rattle.tree_laws.proofs.Reached.{reached_fits}
use Rattle.tree_laws.proofs.Structure.{no_sums, tree_passes}
use Rattle.node_file.specs.declared.cache.NodeCache.{NodeCache}
use Rattle.node_file.specs.declared.past_nodes.PastNodes.{PastNodes}
use Rattle.node_file.specs.Cache.{gets_of, puts_of}
use Rattle.node_file.specs.PastNodes.{past_nodes, HasSamePast, PastFails, PastGoes}
use Rattle.node_file.specs.Records.{node_at}
use Rattle.view_model.specs.Picture.{Picture}
use Rattle.builtin_reduces.specs.ItemLaws.{items_spelled_once}
use Rattle.builtin_reduces.specs.Kept.{IsKept}
use Rattle.child_pool.specs.ReduceTalk.{reduce_in}
use Rattle.tree_query.specs.Bare.{HoldsItems}
use Rattle.tree_query.specs.Calls.{Fails, Ran}
use Rattle.index_trees.specs.Laws.{no_tree}
use Rattle.index_trees.specs.Trees.{row_items, EachAt, HasRows, HoldTrees}
use Rattle.index_trees.specs.ViewValues.{view_values}
use Rattle.index_trees.proofs.Holding.{trees_are_in_order}
use Rattle.tree_index.specs.declared.fault.IndexFault.{IndexFault}
use Rattle.tree_index.specs.declared.fault.IndexFault.TheVariants.{NoMemory, Store}
use Rattle.tree_index.specs.declared.index.Index.{Index}
use Rattle.tree_index.specs.Calls.{IsAt, IsCounted}
use Rattle.tree_index.specs.Faults.{index_fault, walk_fault}
use Rattle.tree_index.specs.Index.{file_of, last_of, picture_of, views_of}
use Rattle.tree_index.specs.Opens.{FindsDamage}
use Rattle.tree_index.specs.RowsRead.{tree_of, GotNodes, HasParts, IsBadPlace, IsReadFault, ReadsRows}
use Rattle.tree_index.specs.Walks.{WalksRows}
use Rattle.tree_index.proofs.Sizes.{sizes_of}

-- ---- the tree of a view

each_at : {X : Type 0} (P : ℕ → X → Type 0) (number : ℕ) (xs : List X) → EachAt P number xs → (k : ℕ) (d : X) → k < length xs → P (number + k) (slice_index_or xs k d)
each_at P number [] h k d within = absurd (omega (arith, within))
each_at P number (x ∷ xs) h zero d within = let same : number ≡ number + 0 = omega arith in subst (λ m. P m x) same h.0
each_at P number (x ∷ xs) h (suc k) d within =
    let same : suc number + k ≡ number + suc k = omega arith in
    subst (λ m. P m (slice_index_or xs k d)) same (each_at P (suc number) xs h.1 k d (omega (arith, within)))

-- it has the rows of the view, whatever its summaries are
view_holds : (functions : Option Functions) (views : List View) (there : Places) (trees : List Tree) (back : Tree) (rows : List (List Row)) → HoldTrees functions views there trees back rows → (view : ℕ) → view < length trees
    → HoldsItems row_items there (slice_index_or trees view no_tree) (slice_index_or rows view [])
view_holds functions views there trees back rows holds view within =
    let v = view_values functions (reduce_in views view) in
    let tree = slice_index_or trees view no_tree in
    let number : 0 + view ≡ view = omega arith in
    let has = subst (λ k. HasRows functions views there rows k tree) number (each_at (HasRows functions views there rows) 0 trees holds.each view no_tree within) in
    tree_passes row_items v no_values (no_sums v) there there (λ at bytes is. is) tree (slice_index_or rows view []) has

-- these are in order
view_in_order : (functions : Option Functions) (views : List View) (there : Places) (trees : List Tree) (back : Tree) (rows : List (List Row)) → HoldTrees functions views there trees back rows → (view : ℕ)
    → sorted_rows (slice_index_or rows view []) ≡ slice_index_or rows view []
view_in_order functions views there trees back rows holds view =
    sym (get_or-map sorted_rows rows view []) ∙ ap (λ all. slice_index_or all view []) (trees_are_in_order functions views there trees back rows holds)

-- it has the numbers that a call may be given
pub view_size : (index : Index) (view : ℕ) (tree : Tree) → view < views_of index → tree ≡ slice_index_or (last_of index).views.items view no_tree → IsTreeSize tree
view_size index view tree within is = subst IsTreeSize (sym is) ((sizes_of (last_of index) index.last_sizes).views view no_tree within)

-- ---- the parts of rows

parts_of : (row : Row) → IsKept row → HasParts row
parts_of row kept = (record { size = kept.key.size; nested = kept.key.nested }, record { size = kept.value.size; nested = kept.value.nested })

-- in whatever order
sorted_parts : (rows : List Row) → All IsKept rows → AllByRecursion HasParts (sorted_rows rows)
sorted_parts rows kept =
    recursion_from_All HasParts (sorted_rows rows) (All-permutation HasParts rows (sorted_rows rows) (sorted_rows_permutes rows) (All-weaker IsKept HasParts parts_of rows kept))

-- ---- what a folder tells

told_where : {D : Type 0} (now : Option D) (P : D → Type 0) → ((d : D) → now ≡ Some d → P d) → IfTold now P
told_where None P at = tt
told_where (Some d) P at = at d refl

nothing_at : (now : Option (Disk FileName)) (name : FileName) (there : Places) (at : ℕ) → option_map (λ disk. node_at (disk.now name).seen) now ≡ Some there → IfTold now (λ d. node_at (d.now name).seen at ≡ None) → there at ≡ None
nothing_at None name there at told none = absurd (cc)
nothing_at (Some d) name there at told none = let same : node_at (d.now name).seen ≡ there = cc in ap (λ p. p at) (sym same) ∙ none

-- ---- what was answered

abbrev refused : IndexFault → Result (List Row) IndexFault
refused fault = Err fault

-- the answer of a walk as that of the index whose file has this name: its rows are sorted
abbrev pub answered : FileName → Result (List Row) (TreeFault GateFault Want) → Result (List Row) IndexFault
answered name (Ok rows) = Ok (sorted_rows rows)
answered name (Err fault) = Err (walk_fault name fault)

module _ {F : Type 0} (f : Folders F) where
  -- the nodes of a file by its name as a source, as `PastNodes` is one
  abbrev pub in_past : Sources (PastNodes F) GateFault
  in_past = record {
    nodes = past_nodes f;
    is_ready = λ nodes. Unit {0};
    size = λ nodes. 0;
    puts = λ nodes. puts_of nodes.cache.now;
    gets = λ nodes. gets_of nodes.cache.now;
    reads = λ nodes. f.reads nodes.folder.now;
    goes = PastGoes f;
    fails = PastFails f;
  }

  module _ (tree : Tree) (old new : PastNodes F) where
    -- what was lent stays so, and no file changed
    record IsLeft : Type 0 where
      pub lent : HasSamePast old new
      pub disk : Moved f old.folder.now new.folder.now MovesNone

    left_err : (fault : TreeFault GateFault Want) → Fails row_items in_past tree {M = Want} old new fault → IsLeft
    left_err (tree_fault.Store x) h = let fails = h.0 in record { lent = fails.lent; disk = fails.reads.disk }
    left_err (tree_fault.BadNode at) h = let goes = h.0 in record { lent = goes.lent; disk = goes.reads.disk }
    left_err (tree_fault.Summer x) h = absurd h
    left_err tree_fault.NoMemory h = let goes = h.0 in record { lent = goes.lent; disk = goes.reads.disk }

    left : (result : Result (List Row) (TreeFault GateFault Want)) → Ran row_items in_past tree old new result → IsLeft
    left (Ok rows) h = let goes = h.goes in record { lent = goes.lent; disk = goes.reads.disk }
    left (Err fault) h = left_err fault h

    -- ---- faults that are counted

    still_counted : (fault : IndexFault) → (fault ≡ Store DiskFault → ⊥) → f.faults new.folder.now ≡ f.faults old.folder.now → IsCounted f old.folder.now new.folder.now (refused fault)
    still_counted fault other same = record { later = omega (arith, same); failed = λ is. absurd (other is); still = λ never. same }

    store_counted : (x : GateFault) → PastFails f old new x → IsCounted f old.folder.now new.folder.now (refused (index_fault x))
    store_counted DiskFault fails = record { later = fails.reads.faults; failed = λ is. fails.cause; still = λ other. absurd (other refl) }
    store_counted (Full own size) fails = absurd fails.cause
    store_counted (Damaged own at) fails = still_counted (Store (Damaged own at)) (λ is. cc) (fails.cause).2
    store_counted GateNoMemory fails = still_counted NoMemory (λ is. cc) fails.cause

    counted_err : (name : FileName) (fault : TreeFault GateFault Want) → Fails row_items in_past tree {M = Want} old new fault → IsCounted f old.folder.now new.folder.now (refused (walk_fault name fault))
    counted_err name (tree_fault.Store x) h = store_counted x h.0
    counted_err name (tree_fault.BadNode at) h = let goes = h.0 in still_counted (Store (Damaged name at)) (λ is. cc) goes.reads.still
    counted_err name (tree_fault.Summer x) h = absurd h
    counted_err name tree_fault.NoMemory h = let goes = h.0 in still_counted NoMemory (λ is. cc) goes.reads.still

    counted : (name : FileName) (result : Result (List Row) (TreeFault GateFault Want)) → Ran row_items in_past tree old new result → IsCounted f old.folder.now new.folder.now (answered name result)
    counted name (Ok rows) h = let same = h.goes.reads.still in record { later = omega (arith, same); failed = tt; still = λ other. same }
    counted name (Err fault) h = counted_err name fault h

    -- ---- which faults come

    module _ (index : Index) (name : FileName) (own : name ≡ name_of (file_of index)) (same : old.name ≡ name) where
      damaged_own : (other : FileName) (at : ℕ) → other ≡ name → IsReadFault index (Store (Damaged other at))
      damaged_own other at is = inr (inr (at, ap (λ n. Store (Damaged n at)) (is ∙ own)))

      store_fault : (x : GateFault) → PastFails f old new x → IsReadFault index (index_fault x)
      store_fault DiskFault fails = inl refl
      store_fault (Full other size) fails = absurd fails.cause
      store_fault (Damaged other at) fails = damaged_own other at ((fails.cause).0 ∙ same)
      store_fault GateNoMemory fails = inr (inl refl)

      read_fault : (fault : TreeFault GateFault Want) → Fails row_items in_past tree {M = Want} old new fault → IsReadFault index (walk_fault name fault)
      read_fault (tree_fault.Store x) h = store_fault x h.0
      read_fault (tree_fault.BadNode at) h = damaged_own name at refl
      read_fault (tree_fault.Summer x) h = absurd h
      read_fault tree_fault.NoMemory h = inr (inl refl)

      read_faults : (result : Result (List Row) (TreeFault GateFault Want)) → Ran row_items in_past tree old new result → IfErr (answered name result) (IsReadFault index)
      read_faults (Ok rows) h = tt
      read_faults (Err fault) h = read_fault fault h

    -- ---- no damage is found over a tree

    -- a damaged place is the one that was got last
    damaged_reached : (there : Places) → in_past.nodes old ≡ Some there → (name : FileName) (at : ℕ) → Fails row_items in_past tree {M = Want} old new (tree_fault.Store (Damaged name at)) → IsReached row_items there tree at
    damaged_reached there told name at h =
        let short = h.1 there told in
        let asked = (h.0).asked in
        let one : short.at ∷ (short.stops).before ≡ at ∷ (asked.0 ++ gets_of old.cache.now) = sym (short.stops).last ∙ asked.1 in
        let place : short.at ≡ at = cc in
        subst (IsReached row_items there tree) place short.may

    module _ (there : Places) (items : List Row) (told : in_past.nodes old ≡ Some there) (still : in_past.nodes new ≡ in_past.nodes old) (holds : HoldsItems row_items there tree items) where
      reached_stands : (at : ℕ) → IsReached row_items there tree at → there at ≡ None → ⊥
      reached_stands at may none =
          let fit = reached_fits row_items no_values there items_spelled_once tree items holds at may.level may.count may.fill may.reached in
          let both = sym none ∙ fit.1.bytes in
          cc

      -- a node stands at the place that was got last
      none_damaged : (name : FileName) (at : ℕ) → Fails row_items in_past tree {M = Want} old new (tree_fault.Store (Damaged name at)) → ⊥
      none_damaged name at h =
          let fails = h.0 in
          let own : name ≡ new.name = (fails.cause).0 ∙ sym (fails.lent).name in
          let absent = subst (λ n. Told f new.folder.now (λ d. node_at (d.now n).seen at ≡ None)) own (fails.cause).1 in
          reached_stands at (damaged_reached there told name at h) (nothing_at (f.disk new.folder.now) new.name there at (still ∙ told) absent)

      sound_err : (own : FileName) (fault : TreeFault GateFault Want) → Fails row_items in_past tree {M = Want} old new fault → ((at : ℕ) → fault ≡ tree_fault.BadNode at → ⊥) → (name : FileName) (at : ℕ) → walk_fault own fault ≡ Store (Damaged name at) → ⊥
      sound_err own (tree_fault.Store DiskFault) h bad name at is = cc
      sound_err own (tree_fault.Store (Full other size)) h bad name at is = absurd (h.0).cause
      sound_err own (tree_fault.Store (Damaged other place)) h bad name at is = none_damaged other place h
      sound_err own (tree_fault.Store GateNoMemory) h bad name at is = cc
      sound_err own (tree_fault.BadNode place) h bad name at is = bad place refl
      sound_err own (tree_fault.Summer x) h bad name at is = absurd h
      sound_err own tree_fault.NoMemory h bad name at is = cc

      sound : (own : FileName) (result : Result (List Row) (TreeFault GateFault Want)) → Ran row_items in_past tree old new result → ((at : ℕ) → result ≡ Err (tree_fault.BadNode at) → ⊥) → FindsDamage (λ name at. ⊥) (answered own result)
      sound own (Ok rows) h bad name at is = cc
      sound own (Err fault) h bad name at is =
          let same : walk_fault own fault ≡ Store (Damaged name at) = cc in
          sound_err own fault h (λ place bad_is. bad place (ap Err bad_is)) name at same

  -- ---- the rows of a view

  module _ (index : Index) (view : ℕ) (within : view < views_of index) (tree : Tree) (is_tree : tree ≡ tree_of index view) (name : FileName) (own : name ≡ name_of (file_of index)) (old new : PastNodes F) (same : old.name ≡ name)
      (before now : ℕ) (result : Result (List Row) (TreeFault GateFault Want)) (walks : WalksRows in_past tree old new before now result) where
    abbrev items : List Row
    items = slice_index_or (picture_of index).rows view []

    -- where the index is at a picture, the tree has the picture's rows
    at_holds : (functions : Option Functions) (views : List View) (picture : Option Picture) (d : Disk FileName) → IsAt functions views index d.now picture → HoldsItems row_items (node_at (d.now old.name).seen) tree items
    at_holds functions views picture d at =
        let there = node_at (d.now (name_of (file_of index))).seen in
        let held = view_holds functions views there (last_of index).views.items (last_of index).back (picture_of index).rows at.trees view within in
        subst (λ n. HoldsItems row_items (node_at (d.now n).seen) tree items) (sym (same ∙ own)) (subst (λ t. HoldsItems row_items there t items) (sym is_tree) held)

    at_in_order : (functions : Option Functions) (views : List View) (picture : Option Picture) (d : Disk FileName) → IsAt functions views index d.now picture → sorted_rows items ≡ items
    at_in_order functions views picture d at =
        view_in_order functions views (node_at (d.now (name_of (file_of index))).seen) (last_of index).views.items (last_of index).back (picture_of index).rows at.trees view

    told_nodes : (d : Disk FileName) → f.disk old.folder.now ≡ Some d → in_past.nodes old ≡ Some (node_at (d.now old.name).seen)
    told_nodes d is = ap (option_map (λ (disk : Disk FileName). node_at (disk.now old.name).seen)) is

    -- they stand there after the walk
    told_after : (d : Disk FileName) → f.disk new.folder.now ≡ Some d → in_past.nodes old ≡ Some (node_at (d.now new.name).seen)
    told_after d is = sym (walks.reads).nodes ∙ ap (option_map (λ (disk : Disk FileName). node_at (disk.now new.name).seen)) is

    ok_sorted : (r : Result (List Row) (TreeFault GateFault Want)) → IfOk (answered name r) (IsSorted rows_cmp)
    ok_sorted (Ok rows) = sorted_rows_is_sorted rows
    ok_sorted (Err fault) = tt

    ok_number : (count : ℕ) (r : Result (List Row) (TreeFault GateFault Want)) → IfOk r (λ rows. length rows ≡ count) → IfOk (answered name r) (λ rows. length rows ≡ count)
    ok_number count (Ok rows) h = length_permutation rows (sorted_rows rows) (sorted_rows_permutes rows) ∙ h
    ok_number count (Err fault) h = tt

    -- rows in order stay as they are
    ok_rows : (r : Result (List Row) (TreeFault GateFault Want)) → sorted_rows items ≡ items → IfOk r (λ rows. rows ≡ items) → IfOk (answered name r) (λ rows. rows ≡ items)
    ok_rows (Ok rows) in_order h = ap sorted_rows h ∙ in_order
    ok_rows (Err fault) in_order h = tt

    ok_parts : (r : Result (List Row) (TreeFault GateFault Want)) → IfOk r (All IsKept) → IfOk (answered name r) (AllByRecursion HasParts)
    ok_parts (Ok rows) h = sorted_parts rows h
    ok_parts (Err fault) h = tt

    ok_got : (d : Disk FileName) → f.disk old.folder.now ≡ Some d → (r : Result (List Row) (TreeFault GateFault Want)) → Ran row_items in_past tree old new r → OnOk (answered name r) (GotNodes index tree old.cache.now new.cache.now d)
    ok_got d is (Ok rows) h = subst (λ n. EachSince (HasNode row_items (node_at (d.now n).seen) tree) (gets_of old.cache.now) (gets_of new.cache.now)) (same ∙ own) (h.got (node_at (d.now old.name).seen) (told_nodes d is))
    ok_got d is (Err fault) h = tt

    damage_at : (d : Disk FileName) → f.disk new.folder.now ≡ Some d → (fault : TreeFault GateFault Want) → Fails row_items in_past tree {M = Want} old new fault → (other : FileName) (at : ℕ) → walk_fault name fault ≡ Store (Damaged other at) → IsBadPlace index tree d other at
    damage_at d is (tree_fault.Store DiskFault) h other at e = absurd (cc)
    damage_at d is (tree_fault.Store (Full n size)) h other at e = absurd (h.0).cause
    damage_at d is (tree_fault.Store (Damaged n place)) h other at e =
        let fails = h.0 in
        let one : n ≡ other = cc in
        let two : place ≡ at = cc in
        let named = (fails.cause).0 in
        let none = subst (λ (o : Option (Disk FileName)). IfTold o (λ x. node_at (x.now n).seen place ≡ None)) is (fails.cause).1 in
        let reached = damaged_reached tree old new (node_at (d.now new.name).seen) (told_after d is) n place h in
        record {
          own = sym one ∙ named ∙ same ∙ own;
          bad = inl (
            subst (λ m. node_at (d.now m).seen at ≡ None) one (subst (λ p. node_at (d.now n).seen p ≡ None) two none),
            subst (λ m. IsReached row_items (node_at (d.now m).seen) tree at) ((fails.lent).name ∙ sym named ∙ one) (subst (IsReached row_items (node_at (d.now new.name).seen) tree) two reached),
          );
        }
    damage_at d is (tree_fault.Store GateNoMemory) h other at e = absurd (cc)
    damage_at d is (tree_fault.BadNode place) h other at e =
        let goes = h.0 in
        let one : name ≡ other = cc in
        let two : place ≡ at = cc in
        let unfit = (h.1 (node_at (d.now new.name).seen) (told_after d is)).0 in
        record { own = sym one ∙ own; bad = inr (subst (λ m. IsUnfit row_items (node_at (d.now m).seen) tree at) ((goes.lent).name ∙ same ∙ one) (subst (IsUnfit row_items (node_at (d.now new.name).seen) tree) two unfit)) }
    damage_at d is (tree_fault.Summer x) h other at e = absurd h
    damage_at d is tree_fault.NoMemory h other at e = absurd (cc)

    damage_found : (d : Disk FileName) → f.disk new.folder.now ≡ Some d → (r : Result (List Row) (TreeFault GateFault Want)) → Ran row_items in_past tree old new r → FindsDamage (IsBadPlace index tree d) (answered name r)
    damage_found d is (Ok rows) h other at e = absurd (cc)
    damage_found d is (Err fault) h other at e = let one : walk_fault name fault ≡ Store (Damaged other at) = cc in damage_at d is fault h other at one

    damaged : IfTold (f.disk new.folder.now) (λ d. FindsDamage (IsBadPlace index tree d) (answered name result))
    damaged = told_where (f.disk new.folder.now) (λ d. FindsDamage (IsBadPlace index tree d) (answered name result)) (λ d is. damage_found d is result walks.ran)

    rows_read : ReadsRows f index view old.folder.now new.folder.now old.cache.now new.cache.now before now (answered name result)
    rows_read = record {
      sorted = ok_sorted result;
      number = subst (λ (t : Tree). IfOk (answered name result) (λ rows. length rows ≡ t.count)) is_tree (ok_number tree.count result walks.number);
      got = subst (λ (t : Tree). IfTold (f.disk old.folder.now) (λ d. OnOk (answered name result) (GotNodes index t old.cache.now new.cache.now d))) is_tree
          (told_where (f.disk old.folder.now) (λ d. OnOk (answered name result) (GotNodes index tree old.cache.now new.cache.now d)) (λ d is. ok_got d is result walks.ran));
      rows = λ functions views picture.
          told_where (f.disk old.folder.now) (λ d. IsAt functions views index d.now picture → IfOk (answered name result) (λ rows. rows ≡ items))
          (λ d is at. ok_rows result (at_in_order functions views picture d at) (walks.rows (node_at (d.now old.name).seen) items (told_nodes d is) (at_holds functions views picture d at)));
      parts = ok_parts result walks.kept;
      sound = λ functions views picture.
          told_where (f.disk old.folder.now) (λ d. IsAt functions views index d.now picture → FindsDamage (λ name at. ⊥) (answered name result))
          (λ d is at.
          let there = node_at (d.now old.name).seen in
          let holds = at_holds functions views picture d at in
          sound tree old new there items (told_nodes d is) (walks.reads).nodes holds name result walks.ran (λ place. walks.sound there items place (told_nodes d is) holds));
      damaged = subst (λ (t : Tree). IfTold (f.disk new.folder.now) (λ d. FindsDamage (IsBadPlace index t d) (answered name result))) is_tree damaged;
      faults = read_faults tree old new index name own same result walks.ran;
      disk = (left tree old new result walks.ran).disk;
      cause = counted tree old new name result walks.ran;
      reads = let steps = (walks.reads).steps in let reads = (walks.reads).reads in (reads.later, omega (arith, reads.within, steps.later));
      steps = subst (λ (t : Tree). now ≤ before + (t.count + 1) * t.height) is_tree (walks.reads).steps.within;
    }

    -- as the function sees it that lent the folder and the cache
    pub rows_handed : (folder folder' : F) (cache cache' : NodeCache) → old.folder.now ≡ folder → old.cache.now ≡ cache → (HasSamePast old new → folder' ≡ new.folder.now) → (HasSamePast old new → cache' ≡ new.cache.now)
        → (answer : Result (List Row) IndexFault) → answer ≡ answered name result → ReadsRows f index view folder folder' cache cache' before now answer
    rows_handed folder folder' cache cache' first first_cache last last_cache answer is =
        let lent = (left tree old new result walks.ran).lent in
        let handed : ReadsRows f index view old.folder.now folder' old.cache.now cache' before now answer =
        rw (is, last lent, last_cache lent) rows_read in
        subst (λ c. ReadsRows f index view folder folder' c cache' before now answer) first_cache
        (subst (λ a. ReadsRows f index view a folder' old.cache.now cache' before now answer) first handed)
