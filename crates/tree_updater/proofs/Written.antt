-- Rows are exchanged, and then committed.
use Rattle.std.specs.Prelude.{◌≡◌, ◌≢◌, ◌⊎◌, ◌<◌, ◌≤◌, ◌+◌, ◌*◌, ◌^◌, ℕ, List, [], length, true, slice_get, Option, Some, Result, Ok, Err, OnOk}
use Rattle.std.specs.List.{list_all}
use Rattle.std.proofs.Common.{refl, sym, ap, ◌∙◌, subst, inl, inr, arith}
use Rattle.json_terms.specs.declared.term.Row.{Row}
use Rattle.view_ports.specs.Disk.{Disk, IfTold, Moves, Tells}
use Rattle.view_ports.specs.Faults.{CountsFor, Rose}
use Rattle.view_ports.specs.File.{File}
use Rattle.view_ports.specs.Functions.{Functions}
use Rattle.view_ports.specs.declared.file_name.FileName.{FileName}
use Rattle.view_ports.specs.declared.file_name.Stem.{Stem}
use Rattle.view_ports.specs.declared.folder.Folder.{Ghosts as Folders}
use Rattle.view_ports.specs.declared.servers.Servers.{Ghosts as Servers}
use Rattle.view_ports.proofs.DiskRuns.{moves_then, moves_wider}
use Rattle.view_ports.proofs.Told.{told_after, told_all, told_map, told_now, told_then}
use Rattle.gate_file.specs.declared.fault.GateFault.{GateFault}
use Rattle.gate_file.specs.declared.fault.GateFault.TheVariants.{Damaged, DiskFault, Full, NoMemory as GateNoMemory}
use Rattle.gate_file.specs.declared.gate.GateFile.{GateFile}
use Rattle.gate_file.specs.Calls.{too_long, used_up}
use Rattle.gate_file.specs.GateFile.{name_of, start_of}
use Rattle.gate_file.specs.Pair.{own_bytes}
use Rattle.gate_file.specs.Shown.{HasAll}
use Rattle.gate_file.proofs.Appends.{has_all_then}
use Rattle.gate_file.specs.Publish.{published, IsFull, IsTooLong, IsUsedUp}
use Rattle.design_docs.specs.declared.design.Design.{Design}
use Rattle.design_docs.specs.declared.design.Reduce.TheVariants.{Source}
use Rattle.design_docs.specs.declared.design.View.{View}
use Rattle.child_pool.specs.declared.pool_fault.PoolFault.{PoolFault}
use Rattle.child_pool.specs.declared.pool_fault.PoolFault.TheVariants as pool_fault
use Rattle.child_pool.specs.ReduceTalk.{reduce_in, reduce_sources}
use Rattle.child_pool.specs.Reductions.{Reduces}
use Rattle.tree_laws.specs.declared.tree.Tree.{Tree}
use Rattle.tree_laws.specs.Reaching.{IsFaulty}
use Rattle.tree_laws.specs.Stores.{Places}
use Rattle.node_file.specs.Cache.{puts_of}
use Rattle.node_file.specs.FileNodes.{IsLonger}
use Rattle.node_file.specs.Records.{node_at}
use Rattle.reduce_tree.specs.Counts.{node_size, ReadsFor}
use Rattle.view_model.specs.Picture.{Picture}
use Rattle.row_exchange.specs.declared.doc_rows.DocRows.{DocRows}
use Rattle.row_exchange.specs.Replaced.{is_change, new_rows, replaced_views}
use Rattle.index_items.proofs.Roots.{root_long}
use Rattle.index_trees.specs.declared.trees.IndexTrees.{IndexTrees}
use Rattle.index_trees.specs.Edits.{edit_count, insert_count, old_places, view_edits}
use Rattle.index_trees.specs.Exchanges.{AreShort, AreWithin, IsFaultyIn, PutsWithin}
use Rattle.index_trees.specs.Trees.{back_items, no_summaries, AreLow}
use Rattle.tree_index.specs.declared.fault.IndexFault.{IndexFault}
use Rattle.tree_index.specs.declared.fault.IndexFault.TheVariants.{NoMemory, Store, Summer}
use Rattle.tree_index.specs.declared.index.Index.{Index}
use Rattle.tree_index.specs.Calls.{next_picture, next_size, Commits, IsAt, IsOpen, IsWhole}
use Rattle.tree_index.specs.Faults.{UnlessDisk}
use Rattle.tree_index.specs.Held.{IsFileOf, Stands}
use Rattle.tree_index.specs.Index.{file_of, last_of, next_in, next_of, picture_of, stem_of, views_of, IsSame, IsSettled}
use Rattle.tree_index.specs.Opens.{FindsDamage}
use Rattle.tree_index.specs.Replaces.{IsBadNode as IsBadOfIndex, IsOver as IsOverIndex, SummersWent}
use Rattle.tree_index.specs.Trees.{seen}
use Rattle.tree_index.proofs.Rooms.{each_seen}
use Rattle.tree_index.proofs.Sizes.{same_number}
use Rattle.tree_updater.specs.Paths.{OnHonest}
use Rattle.tree_updater.specs.Replacing.{ReplacesBy}
use Rattle.tree_updater.specs.Sides.{side, IsRolledBack as IsBack, Side}
use Rattle.tree_updater.specs.Filled.{root_size, IsFilled}
use Rattle.tree_updater.specs.Writes.{made_of, AsksReduces, Grows, EndsAt, IsBadNode, IsOver, IsSpoiledBy, IsWriteFault, StandsAround, Writes}
use Rattle.tree_updater.proofs.Rolled.{at_back, open_back, stem_back, views_back}
use Rattle.tree_updater.proofs.Spoiled.{fails_in_place, some_edited, some_then, source_within, spoiled_before}
use Rattle.tree_updater.proofs.Talking.{complained_by, given_up, had, sums_by, told_as_met, usable_by}

abbrev done : Result (Unit {0}) IndexFault
done = Ok tt

abbrev refused : IndexFault → Result (Unit {0}) IndexFault
refused fault = Err fault

-- ---- the same trees

pub faulty_seen : (there : Places) (views : List View) (trees trees' : IndexTrees) (at : ℕ) → seen trees' ≡ seen trees → IsFaultyIn there views trees at → IsFaultyIn there views trees' at
faulty_seen there views trees trees' at same (IsFaultyIn.of_rows view tree found faulty) =
    IsFaultyIn.of_rows view tree (ap (λ (t : List Tree × Tree). slice_get t.0 view) same ∙ found) faulty
faulty_seen there views trees trees' at same (IsFaultyIn.of_back faulty) =
    IsFaultyIn.of_back (subst (λ (t : List Tree × Tree). IsFaulty back_items no_summaries there t.1 at) (sym same) faulty)

low_seen : (h : ℕ) (trees trees' : IndexTrees) → seen trees' ≡ seen trees → AreLow h trees → AreLow h trees'
low_seen h trees trees' same low = each_seen (λ tree. tree.height ≤ h) trees trees' same low

-- the last commit is the same, and what was so of it before
pub same_then : (a b c : Index) → IsSame a b → IsSame b c → IsSame a c
same_then a b c first second = record { picture = second.picture ∙ first.picture; last = second.last ∙ first.last; name = second.name ∙ first.name }

-- ---- how long a root record is

size_of : (seq : ℕ) (index : Index) (count : ℕ) → length (next_of index).views.items ≡ count → next_size seq index ≡ root_size count
size_of seq index count number = root_long seq (next_of index).views.items (next_of index).back ∙ ap root_size number

module _ {F C : Type 0} (f : Folders F) (s : Servers C) (design : Design) (rows : List DocRows) (old : Side F C) (number : views_of old.index ≡ length design.views) (rolled : Index) (back : IsBack old.index rolled) where
  abbrev from : Side F C
  from = side old.folder old.servers old.pool rolled old.cache old.steps

  -- the rows of the last commit are what is exchanged
  next_rolled : next_in rolled ≡ (picture_of old.index).rows
  next_rolled = back.settled.rows ∙ ap (λ (p : Picture). p.rows) back.same.picture

  trees_rolled : seen (next_of rolled) ≡ seen (last_of old.index)
  trees_rolled = back.settled.trees ∙ back.same.last

  number_rolled : views_of rolled ≡ length design.views
  number_rolled = views_back old.index rolled back ∙ number

  abbrev Over : Option Functions → Option Picture → Disk FileName → Type 0
  Over = IsOver s design rows old

  module _ (mid : Side F C) (replaced : Result (Unit {0}) IndexFault) (by : ReplacesBy f s design rows from mid replaced) where
    abbrev stem : Stem
    stem = stem_of old.index

    pub same_mid : IsSame old.index mid.index
    same_mid = same_then old.index rolled mid.index back.same by.replaces.same

    pub stem_mid : stem_of mid.index ≡ stem_of old.index
    stem_mid = ap (λ (n : FileName). n.stem) same_mid.name

    pub views_mid : views_of mid.index ≡ views_of old.index
    views_mid = same_number (last_of old.index) (last_of mid.index) same_mid.last

    pub longer_mid : IsLonger (file_of old.index) (file_of mid.index)
    longer_mid = subst (λ (g : GateFile). IsLonger g (file_of mid.index)) back.file by.replaces.file

    abbrev OverIndex : Option Functions → Option Picture → Disk FileName → Type 0
    OverIndex = IsOverIndex f s rows rolled mid.index old.folder mid.folder by.first by.last

    over_index : (functions : Option Functions) (picture : Option Picture) (d : Disk FileName) → Over functions picture d → OverIndex functions picture d
    over_index functions picture d over = (
      record {
        by = sums_by s old.servers old.pool design by.first by.idle by.same by.lent functions over.by;
        apart = over.apart;
        whole = subst (λ n. list_all (is_change n) rows ≡ true) (sym number_rolled) over.whole;
      },
      subst (λ (d' : Design). IsAt functions d'.views rolled d.now picture) (sym by.same) (at_back old.index rolled back d.now functions design.views picture over.at),
    )

    told_over : (functions : Option Functions) (picture : Option Picture) → IfTold (f.disk old.folder) (Over functions picture) → IfTold (f.disk old.folder) (OverIndex functions picture)
    told_over functions picture over = told_now (f.disk old.folder) (Over functions picture) (OverIndex functions picture) (over_index functions picture) over

    -- ---- the exchange

    abbrev HasStood : Option Functions → Option Picture → Disk FileName → Disk FileName → Type 0
    HasStood functions picture = Moves (IsFileOf stem) (λ image. Stands functions design.views stem image picture) (λ files. UnlessDisk replaced (IsAt functions design.views mid.index files picture))

    -- a crash leaves the picture, and so it ends
    pub replaced_stands : (functions : Option Functions) (picture : Option Picture) → IfTold (f.disk old.folder) (Over functions picture) → Tells (f.disk old.folder) (f.disk mid.folder) (HasStood functions picture)
    replaced_stands functions picture over =
        subst (λ (st : Stem). Tells (f.disk old.folder) (f.disk mid.folder) (Moves (IsFileOf st) (λ image. Stands functions design.views st image picture) (λ files. UnlessDisk replaced (IsAt functions design.views mid.index files picture))))
        (stem_back old.index rolled back)
        (subst (λ (d : Design). Tells (f.disk old.folder) (f.disk mid.folder) (Moves (IsFileOf (stem_of rolled)) (λ image. Stands functions d.views (stem_of rolled) image picture) (λ files. UnlessDisk replaced (IsAt functions d.views mid.index files picture))))
        by.same (by.replaces.stands functions picture (told_over functions picture over)))

    abbrev HasOpened : Disk FileName → Disk FileName → Type 0
    HasOpened = Moves (IsFileOf stem) (λ image. Unit {0}) (λ files. UnlessDisk replaced (IsOpen mid.index files))

    pub replaced_others : Tells (f.disk old.folder) (f.disk mid.folder) HasOpened
    replaced_others = subst (λ (st : Stem). Tells (f.disk old.folder) (f.disk mid.folder) (Moves (IsFileOf st) (λ image. Unit {0}) (λ files. UnlessDisk replaced (IsOpen mid.index files)))) (stem_back old.index rolled back) by.replaces.others

    -- what stood in the file stands there
    pub stays_mid : Tells (f.disk old.folder) (f.disk mid.folder) (λ a b. UnlessDisk replaced (HasAll (own_bytes (file_of old.index) a.now) (own_bytes (file_of old.index) b.now)))
    stays_mid =
        subst (λ (g : GateFile). Tells (f.disk old.folder) (f.disk mid.folder) (λ a b. UnlessDisk replaced (HasAll (own_bytes g a.now) (own_bytes g b.now)))) back.file by.replaces.stays

    -- ---- how much is done, whatever is answered

    enough_rolled : (h : ℕ) → AreWithin h (insert_count rows (views_of old.index)) (last_of old.index) → AreWithin h (insert_count rows (views_of rolled)) (next_of rolled)
    enough_rolled h enough =
        subst (λ n. AreWithin h (insert_count rows n) (next_of rolled)) (sym (views_back old.index rolled back))
        (each_seen (λ tree. (tree.height ≤ h) × (tree.count + insert_count rows (views_of old.index) < 8 ^ h)) (last_of old.index) (next_of rolled) trees_rolled enough)

    short_rolled : (longest : ℕ) → AreShort longest (picture_of old.index).rows × AreShort longest (replaced_views rows (picture_of old.index).rows)
        → AreShort longest (next_in rolled) × AreShort longest (replaced_views rows (next_in rolled))
    short_rolled longest short = subst (λ (rs : List (List Row)). AreShort longest rs × AreShort longest (replaced_views rows rs)) (sym next_rolled) short

    pub most_steps_mid : (functions : Option Functions) (picture : Option Picture) (h : ℕ) → AreWithin h (insert_count rows (views_of old.index)) (last_of old.index) → IfTold (f.disk old.folder) (λ d. Over functions picture d
        → (mid.steps ≤ old.steps + (edit_count rows (picture_of old.index).rows * (8 * (h + 1)) + length rows * (2 * h)))
        × (length (puts_of mid.cache) ≤ length (puts_of old.cache) + edit_count rows (picture_of old.index).rows * (4 * (h + 1))))
    most_steps_mid functions picture h enough =
        told_now (f.disk old.folder) _ (λ d. Over functions picture d
        → (mid.steps ≤ old.steps + (edit_count rows (picture_of old.index).rows * (8 * (h + 1)) + length rows * (2 * h)))
        × (length (puts_of mid.cache) ≤ length (puts_of old.cache) + edit_count rows (picture_of old.index).rows * (4 * (h + 1))))
        (λ d most over. subst (λ (rs : List (List Row)). (mid.steps ≤ old.steps + (edit_count rows rs * (8 * (h + 1)) + length rows * (2 * h)))
        × (length (puts_of mid.cache) ≤ length (puts_of old.cache) + edit_count rows rs * (4 * (h + 1)))) next_rolled (most (over_index functions picture d over)))
        (by.costs.most_steps functions picture h (enough_rolled h enough))

    pub pieces_mid : (functions : Option Functions) (picture : Option Picture) (longest : ℕ) → AreShort longest (picture_of old.index).rows × AreShort longest (replaced_views rows (picture_of old.index).rows)
        → IfTold (f.disk old.folder) (λ d. Over functions picture d → PutsWithin (node_size longest) (puts_of old.cache) (puts_of mid.cache))
    pieces_mid functions picture longest short =
        told_now (f.disk old.folder) _ (λ d. Over functions picture d → PutsWithin (node_size longest) (puts_of old.cache) (puts_of mid.cache))
        (λ d pieces over. pieces (over_index functions picture d over)) (by.costs.pieces functions picture longest (short_rolled longest short))

    pub most_bytes_mid : (functions : Option Functions) (picture : Option Picture) (longest h : ℕ) → AreShort longest (picture_of old.index).rows × AreShort longest (replaced_views rows (picture_of old.index).rows)
        → AreWithin h (insert_count rows (views_of old.index)) (last_of old.index) → IfTold (f.disk old.folder) (λ d. Over functions picture d
        → start_of (file_of mid.index) ≤ start_of (file_of old.index) + (edit_count rows (picture_of old.index).rows * (4 * (h + 1))) * node_size longest)
    most_bytes_mid functions picture longest h short enough =
        told_now (f.disk old.folder) _ (λ d. Over functions picture d
        → start_of (file_of mid.index) ≤ start_of (file_of old.index) + (edit_count rows (picture_of old.index).rows * (4 * (h + 1))) * node_size longest)
        (λ d bytes over.
        subst (λ (rs : List (List Row)). start_of (file_of mid.index) ≤ start_of (file_of old.index) + (edit_count rows rs * (4 * (h + 1))) * node_size longest) next_rolled
        (subst (λ (g : GateFile). start_of (file_of mid.index) ≤ start_of g + (edit_count rows (next_in rolled) * (4 * (h + 1))) * node_size longest) back.file (bytes (over_index functions picture d over))))
        (by.costs.most_bytes functions picture longest h (short_rolled longest short) (enough_rolled h enough))

    -- ---- whether reduces are wanted

    -- the rows of the next picture
    abbrev after : List (List Row)
    after = replaced_views rows (picture_of old.index).rows

    usable_mid : (seq : ℕ) → replaced ≡ done → OnHonest s old.servers old.pool design (λ functions. IsSpoiledBy design functions (made_of rows seq old.index) → IsSpoiledBy design functions (picture_of old.index))
    usable_mid seq is path of_path honest spoiled =
        spoiled_before rows (s.functions path) 0 design.views (picture_of old.index).rows
        (λ place source there some. usable_by s old.servers old.pool design by.first by.idle by.same by.lent place source
        (on_done replaced is (by.causes.usable place (within place source there) (subst (λ n. new_rows rows n ≢ []) (let same : 0 + place ≡ place = omega arith in same) some))) there path of_path honest) spoiled
      where
        within : (place : ℕ) (source : List ℕ) → reduce_in design.views place ≡ Source source → place < views_of rolled
        within place source there = let few = source_within design.views place source there in omega (arith, few, number_rolled)

        on_done : {P : Type 0} (result : Result (Unit {0}) IndexFault) → result ≡ done → OnOk result P → P
        on_done (Ok value) is holds = holds
        on_done (Err fault) is holds = absurd (let clash : ⊥ = cc in clash)

    complains_mid : (seq : ℕ) → replaced ≡ Err (Summer pool_fault.Compile) → (functions : Option Functions) (picture : Option Picture) → IfTold (f.disk old.folder) (λ d. Over functions picture d
        → OnHonest s old.servers old.pool design (λ functions. IsSpoiledBy design functions (picture_of old.index) ⊎ IsSpoiledBy design functions (made_of rows seq old.index)))
    complains_mid seq is functions picture =
        let complained = by.causes.complains is in
        told_now (f.disk old.folder) (λ d. OverIndex functions picture d → view_edits complained.0 rows (old_places rows (next_in rolled)) ≢ [])
        (λ d. Over functions picture d → OnHonest s old.servers old.pool design (λ functions. IsSpoiledBy design functions (picture_of old.index) ⊎ IsSpoiledBy design functions (made_of rows seq old.index)))
        (λ d edits over path of_path honest.
        let complains = complained.2 in
        let view : ℕ = complained.0 in
        let there : reduce_in design.views view ≡ Source complains.source = ap (λ (d' : Design). reduce_in d'.views view) (sym by.same) ∙ complains.is in
        let fails = complained_by s old.servers old.pool design by.first by.idle by.same by.lent by.last view complains path of_path honest in
        elim (some_edited view (picture_of old.index).rows rows (subst (λ (rs : List (List Row)). view_edits view rows (old_places rows rs) ≢ []) next_rolled (edits (over_index functions picture d over)))) [
          | inl some ↦ inl (fails_in_place (s.functions path) design.views (picture_of old.index).rows view complains.source there some fails)
          | inr some ↦ inr (fails_in_place (s.functions path) design.views after view complains.source there
              (some_then rows (picture_of old.index).rows view (few_rows d over.at view (source_within design.views view complains.source there)) some) fails)
        ]) (complained.3 functions picture)
      where
        few_rows : (d : Disk FileName) → IsAt functions design.views old.index d.now picture → (view : ℕ) → view < length design.views → view < length (picture_of old.index).rows
        few_rows d at view within = let same = at.trees.number in let counted = at.number in omega (arith, within, same, counted)

    -- ---- what was asked for

    pub asked_ok : SummersWent s by.first by.last done → Reduces s old.servers mid.servers old.pool mid.pool design.language (reduce_sources design.views)
    asked_ok talks = had s old.servers old.pool design by.first by.idle by.same by.lent by.last mid.servers mid.pool by.left talks

    pub asked_err : (seq : ℕ) (fault : IndexFault) → SummersWent s by.first by.last (refused fault) → fault ≢ Summer pool_fault.NoMemory → AsksReduces f s design rows seq old mid (refused fault)
    asked_err seq (Store fault) talks named = record { reduced = Ok tt; asked = asked_ok talks; met = λ met is. let clash : ⊥ = cc in clash }
    asked_err seq (Summer fault) gives_up named = record {
      reduced = Err fault;
      asked = given_up s old.servers old.pool design by.first by.idle by.same by.lent by.last mid.servers mid.pool by.left fault gives_up;
      met = sym (ap refused (told_as_met fault (λ is. named (ap Summer is))));
    }
    asked_err seq NoMemory (inl talks) named = record { reduced = Ok tt; asked = asked_ok talks; met = λ met is. let clash : ⊥ = cc in clash }
    asked_err seq NoMemory (inr gives_up) named = record {
      reduced = Err pool_fault.NoMemory;
      asked = given_up s old.servers old.pool design by.first by.idle by.same by.lent by.last mid.servers mid.pool by.left pool_fault.NoMemory gives_up;
      met = refl;
    }

-- ---- it was refused

pub own_of_limit : (file : GateFile) (name : FileName) (size : Option ℕ) → Full name size ≡ too_long file → name ≡ name_of file
own_of_limit file name size is = cc

module _ {F C : Type 0} (f : Folders F) (s : Servers C) (design : Design) (rows : List DocRows) (old : Side F C) (number : views_of old.index ≡ length design.views) (rolled : Index) (back : IsBack old.index rolled)
    (mid : Side F C) (fault : IndexFault) (by : ReplacesBy f s design rows (side old.folder old.servers old.pool rolled old.cache old.steps) mid (refused fault)) (seq : ℕ) where
  abbrev Held : Option Functions → Option Picture → Disk FileName → Disk FileName → Type 0
  Held functions picture =
      Moves (IsFileOf (stem_of old.index)) (λ image. Stands functions design.views (stem_of old.index) image picture) (λ files. UnlessDisk (refused fault) (IsAt functions design.views mid.index files picture))

  abbrev AsSaid : Option Functions → Option Picture → Disk FileName → Disk FileName → Type 0
  AsSaid functions picture = Moves (IsFileOf (stem_of old.index)) (StandsAround f s design rows seq old mid functions picture (refused fault)) (EndsAt f s design rows seq old mid functions picture (refused fault))

  still_stands : (functions : Option Functions) (picture : Option Picture) → IfTold (f.disk old.folder) (IsOver s design rows old functions picture) → Tells (f.disk old.folder) (f.disk mid.folder) (AsSaid functions picture)
  still_stands functions picture over =
      told_map (f.disk old.folder) (f.disk mid.folder) (Held functions picture) (AsSaid functions picture)
      (λ a b moves. moves_wider (IsFileOf (stem_of old.index)) (IsFileOf (stem_of old.index)) (λ image. Stands functions design.views (stem_of old.index) image picture)
      (StandsAround f s design rows seq old mid functions picture (refused fault))
      (λ files. UnlessDisk (refused fault) (IsAt functions design.views mid.index files picture)) (EndsAt f s design rows seq old mid functions picture (refused fault)) a b
      (λ name own. own) (λ image framed. inl framed.inside) (λ others ended other. ended (λ disk. other (let same : fault ≡ Store DiskFault = cc in same))) moves)
      (replaced_stands f s design rows old number rolled back mid (refused fault) by functions picture over)

  settled_mid : IsSettled mid.index
  settled_mid =
      let goes = by.replaces.refused in
      let same = by.replaces.same in
      record {
        rows = goes.rows ∙ back.settled.rows ∙ ap (λ (p : Picture). p.rows) (sym same.picture);
        trees = goes.trees ∙ back.settled.trees ∙ sym same.last;
      }

  bad_mid : (d : Disk FileName) (name : FileName) (at : ℕ)
      → IsBadOfIndex f s rows rolled mid.index old.folder mid.folder by.first by.last old.cache mid.cache d name at → IsBadNode f s design rows seq old mid d name at
  bad_mid d name at bad = record {
    own = bad.own;
    bad = elim bad.bad [
      | inl none ↦ inl none
      | inr faulty ↦ inr (faulty_seen (node_at (d.now name).seen) design.views (next_of rolled) (last_of old.index) at (sym (trees_rolled f s design rows old number rolled back))
          (subst (λ (d' : Design). IsFaultyIn (node_at (d.now name).seen) d'.views (next_of rolled) at) by.same faulty))
    ];
  }

  write_fault : (met : IndexFault) → refused fault ≡ refused met → IsWriteFault (name_of (file_of mid.index)) met
  write_fault (Store DiskFault) is = tt
  write_fault (Store (Full name size)) is = own_of_limit (file_of mid.index) name size (by.causes.full name size is).limit
  write_fault (Store (Damaged name at)) is = tt
  write_fault (Store GateNoMemory) is = absurd (by.causes.faults.0 (let same : fault ≡ Store GateNoMemory = cc in same))
  write_fault (Summer met) is = λ want. by.causes.faults.1 (let same : fault ≡ Summer pool_fault.NoMemory = cc in same)
  write_fault NoMemory is = tt

  pub refuses : Writes f s design rows seq old mid (refused fault)
  refuses =
      let same = same_mid f s design rows old number rolled back mid (refused fault) by in
      record {
        stands = still_stands;
        others = replaced_others f s design rows old number rolled back mid (refused fault) by;
        picture = tt;
        kept = same;
        settled = settled_mid;
        name = same.name;
        number = views_mid f s design rows old number rolled back mid (refused fault) by;
        grows = λ other. record {
          longer = longer_mid f s design rows old number rolled back mid (refused fault) by;
          bytes = most_bytes_mid f s design rows old number rolled back mid (refused fault) by;
        };
        stays = stays_mid f s design rows old number rolled back mid (refused fault) by;
        asks = asked_err f s design rows old number rolled back mid (refused fault) by seq fault by.causes.talk by.causes.faults.1;
        usable = tt;
        complains = λ is. complains_mid f s design rows old number rolled back mid (refused fault) by seq is;
        sound = λ functions picture. told_now (f.disk old.folder) _ (λ d. IsOver s design rows old functions picture d → FindsDamage (λ name at. ⊥) (refused fault))
            (λ d sound over. sound (over_index f s design rows old number rolled back mid (refused fault) by functions picture d over)) (by.causes.sound functions picture);
        damaged = told_now (f.disk mid.folder) _ (λ d. FindsDamage (IsBadNode f s design rows seq old mid d) (refused fault)) (λ d found name at is. bad_mid d name at (found name at is)) by.causes.damaged;
        full = λ name size is. let filled = by.causes.full name size is in inl (record { limit = filled.limit; piece = filled.piece; more = filled.more; last = filled.last; long = filled.long });
        faults = write_fault fault refl;
        cause = by.causes.cause;
        steps = λ functions picture h low low'. told_all (f.disk old.folder) (λ d. IsOver s design rows old functions picture d → Unit {0}) (λ d over. tt);
        most_steps = most_steps_mid f s design rows old number rolled back mid (refused fault) by;
        pieces = pieces_mid f s design rows old number rolled back mid (refused fault) by;
        reads = by.costs.reads;
      }

-- ---- it was made, and committed

-- how a commit is refused
abbrev pub IsOfCommit : Index → IndexFault → Type 0
IsOfCommit index fault = (fault ≡ Store DiskFault) ⊎ (fault ≡ Store (too_long (file_of index))) ⊎ (fault ≡ Store (used_up (file_of index))) ⊎ (fault ≡ NoMemory)

rose_later : (a b c : ℕ) → a ≤ b → Rose b c → Rose a c
rose_later a b c later rose = omega arith

-- what is counted in two stretches, of which the first was well
counts_then : (a b c : ℕ) (result : Result (Unit {0}) IndexFault) → CountsFor (Store DiskFault) a b done → CountsFor (Store DiskFault) b c result → CountsFor (Store DiskFault) a c result
counts_then a b c (Ok value) first second = let earlier = first.later in let later = second.later in
    record { later = omega (arith, earlier, later); failed = tt; still = λ other. second.still other ∙ first.still (λ is. let clash : ⊥ = cc in clash) }
counts_then a b c (Err fault) first second = let earlier = first.later in let later = second.later in
    record { later = omega (arith, earlier, later); failed = λ is. rose_later a b c earlier (second.failed is); still = λ other. second.still other ∙ first.still (λ is. let clash : ⊥ = cc in clash) }

module _ {F C : Type 0} (f : Folders F) (s : Servers C) (design : Design) (rows : List DocRows) (old : Side F C) (number : views_of old.index ≡ length design.views) (rolled : Index) (back : IsBack old.index rolled)
    (mid : Side F C) (by : ReplacesBy f s design rows (side old.folder old.servers old.pool rolled old.cache old.steps) mid done) (seq : ℕ) (index : Index) (folder : F) (committed : Result (Unit {0}) IndexFault)
    (commits : Commits f mid.index index mid.folder folder seq committed) where
  abbrev left : Index → Side F C
  left last = side folder mid.servers mid.pool last mid.cache mid.steps

  made : next_picture seq mid.index ≡ made_of rows seq old.index
  made = ap (λ (rs : List (List Row)). record { seq = seq; rows = rs }) (by.replaces.replaced ∙ ap (replaced_views rows) (next_rolled f s design rows old number rolled back))

  long : next_size seq mid.index ≡ root_size (length design.views)
  long = size_of seq mid.index (length design.views) (mid.index.same ∙ views_mid f s design rows old number rolled back mid done by ∙ number)

  stem_is : stem_of mid.index ≡ stem_of old.index
  stem_is = stem_mid f s design rows old number rolled back mid done by

  module _ (functions : Option Functions) (picture : Option Picture) where
    abbrev stands_for : (FileName → List ℕ) → Option Picture → Type 0
    stands_for image of = Stands functions design.views (stem_of old.index) image of

    abbrev Either : (FileName → List ℕ) → Type 0
    Either image = stands_for image picture ⊎ stands_for image (Some (made_of rows seq old.index))

    abbrev Committed : (FileName → File) → Type 0
    Committed files = OnOk committed (IsAt functions design.views index files (Some (made_of rows seq old.index)) × IsWhole index files)

    abbrev Held' : (FileName → File) → Type 0
    Held' files = UnlessDisk done (IsAt functions design.views mid.index files picture)

    commit_moves : IfTold (f.disk mid.folder) (λ d. IsAt functions design.views mid.index d.now picture) → Tells (f.disk mid.folder) (f.disk folder) (Moves (IsFileOf (stem_of old.index)) Either Committed)
    commit_moves at =
        subst (λ (p : Picture). Tells (f.disk mid.folder) (f.disk folder) (Moves (IsFileOf (stem_of old.index)) (λ image. stands_for image picture ⊎ stands_for image (Some p))
        (λ files. OnOk committed (IsAt functions design.views index files (Some p) × IsWhole index files)))) made
        (subst (λ (st : Stem). Tells (f.disk mid.folder) (f.disk folder) (Moves (IsFileOf st)
        (λ image. Stands functions design.views st image picture ⊎ Stands functions design.views st image (Some (next_picture seq mid.index)))
        (λ files. OnOk committed (IsAt functions design.views index files (Some (next_picture seq mid.index)) × IsWhole index files)))) stem_is
        (commits.stands functions design.views picture at))

    -- a crash leaves either, where `leaves` and `ends` follow
    both_moves : (leaves : (FileName → List ℕ) → Type 0) (ends : (FileName → File) → Type 0) → ((image : FileName → List ℕ) → stands_for image picture → leaves image)
        → ((image : FileName → List ℕ) → Either image → leaves image) → ((files : FileName → File) → Committed files → ends files)
        → IfTold (f.disk old.folder) (IsOver s design rows old functions picture) → Tells (f.disk old.folder) (f.disk folder) (Moves (IsFileOf (stem_of old.index)) leaves ends)
    both_moves leaves ends first second endings over =
        let held = replaced_stands f s design rows old number rolled back mid done by functions picture over in
        told_then (f.disk old.folder) (f.disk mid.folder) (f.disk folder) (Moves (IsFileOf (stem_of old.index)) (λ image. stands_for image picture) Held') (Moves (IsFileOf (stem_of old.index)) Either Committed)
        (Moves (IsFileOf (stem_of old.index)) leaves ends)
        (λ a b c one two. moves_then (IsFileOf (stem_of old.index)) (λ image. stands_for image picture) Either leaves Held' Committed ends a b c first (λ ended. second) (λ ended. endings c.now) one two)
        held
        (commit_moves (told_after (f.disk old.folder) (f.disk mid.folder) (IsOver s design rows old functions picture) (λ d. IsAt functions design.views mid.index d.now picture) (Moves (IsFileOf (stem_of old.index)) (λ image. stands_for image picture) Held')
        (λ a b is moves. moves.ended (λ disk. let clash : ⊥ = cc in clash)) over held))

  -- files of other names stay
  both_others : (ends : (FileName → File) → Type 0) → ((files : FileName → File) → OnOk committed (IsOpen index files) → ends files)
      → Tells (f.disk old.folder) (f.disk folder) (Moves (IsFileOf (stem_of old.index)) (λ image. Unit {0}) ends)
  both_others ends endings =
      told_then (f.disk old.folder) (f.disk mid.folder) (f.disk folder) (Moves (IsFileOf (stem_of old.index)) (λ image. Unit {0}) (λ files. UnlessDisk done (IsOpen mid.index files)))
      (Moves (IsFileOf (stem_of old.index)) (λ image. Unit {0}) (λ files. OnOk committed (IsOpen index files))) (Moves (IsFileOf (stem_of old.index)) (λ image. Unit {0}) ends)
      (λ a b c one two. moves_then (IsFileOf (stem_of old.index)) (λ image. Unit {0}) (λ image. Unit {0}) (λ image. Unit {0}) (λ files. UnlessDisk done (IsOpen mid.index files)) (λ files. OnOk committed (IsOpen index files)) ends a b c
      (λ image is. tt) (λ ended image is. tt) (λ ended. endings c.now) one two)
      (replaced_others f s design rows old number rolled back mid done by)
      (subst (λ (st : Stem). Tells (f.disk mid.folder) (f.disk folder) (Moves (IsFileOf st) (λ image. Unit {0}) (λ files. OnOk committed (IsOpen index files)))) stem_is commits.others)

  asked_all : (last : Index) (result : Result (Unit {0}) IndexFault) → ((fault : PoolFault) → result ≢ Err (Summer fault)) → AsksReduces f s design rows seq old (left last) result
  asked_all last result none = record { reduced = Ok tt; asked = asked_ok f s design rows old number rolled back mid done by by.causes.talk; met = none }

  -- what stood in the file stands there
  both_stay : (result : Result (Unit {0}) IndexFault) → ((P : Type 0) → OnOk committed P → UnlessDisk result P)
      → Tells (f.disk old.folder) (f.disk folder) (λ a b. UnlessDisk result (HasAll (own_bytes (file_of old.index) a.now) (own_bytes (file_of old.index) b.now)))
  both_stay result then =
      told_then (f.disk old.folder) (f.disk mid.folder) (f.disk folder) (λ a b. UnlessDisk done (HasAll (own_bytes (file_of old.index) a.now) (own_bytes (file_of old.index) b.now)))
      (λ a b. OnOk committed (HasAll (own_bytes (file_of old.index) a.now) (own_bytes (file_of old.index) b.now)))
      (λ a b. UnlessDisk result (HasAll (own_bytes (file_of old.index) a.now) (own_bytes (file_of old.index) b.now)))
      (λ a b c one two other. has_all_then (own_bytes (file_of old.index) a.now) (own_bytes (file_of old.index) b.now) (own_bytes (file_of old.index) c.now) (one (λ disk. let clash : ⊥ = cc in clash)) (then (HasAll (own_bytes (file_of old.index) b.now) (own_bytes (file_of old.index) c.now)) two other))
      (stays_mid f s design rows old number rolled back mid done by)
      (subst (λ (n : FileName). Tells (f.disk mid.folder) (f.disk folder) (λ a b. OnOk committed (HasAll (a.now n).seen (b.now n).seen))) (same_mid f s design rows old number rolled back mid done by).name commits.stays)

  reads_all : ReadsFor (f.reads old.folder) (f.reads folder) old.steps mid.steps
  reads_all = subst (λ n. ReadsFor (f.reads old.folder) n old.steps mid.steps) (sym commits.reads) by.costs.reads

-- ---- one that is done

module _ {F C : Type 0} (f : Folders F) (s : Servers C) (design : Design) (rows : List DocRows) (old : Side F C) (number : views_of old.index ≡ length design.views) (rolled : Index) (back : IsBack old.index rolled)
    (mid : Side F C) (by : ReplacesBy f s design rows (side old.folder old.servers old.pool rolled old.cache old.steps) mid done) (seq : ℕ) (index : Index) (folder : F)
    (commits : Commits f mid.index index mid.folder folder seq done) where
  abbrev new : Side F C
  new = side folder mid.servers mid.pool index mid.cache mid.steps

  trees_done : seen (last_of index) ≡ seen (next_of mid.index)
  trees_done = commits.trees

  views_done : views_of index ≡ views_of old.index
  views_done = same_number (next_of mid.index) (last_of index) trees_done ∙ mid.index.same ∙ views_mid f s design rows old number rolled back mid done by

  -- there was room for the record
  room_done : IsFull (file_of mid.index) (root_size (length design.views)) → ⊥
  room_done full = elim (subst (λ n. IsFull (file_of mid.index) n) (sym (long f s design rows old number rolled back mid by seq index folder done commits)) full) [
    | inl long ↦ never (too_long (file_of mid.index)) (commits.long.always long)
    | inr spent ↦ never (used_up (file_of mid.index)) (commits.spent.always spent)
  ]
    where
      never : (fault : GateFault) → (done ≡ Err (Store fault)) ⊎ (done ≡ Err NoMemory) → ⊥
      never fault (inl is) = cc
      never fault (inr is) = cc

  next_low : (h : ℕ) → AreLow h (last_of index) → AreLow h (next_of mid.index)
  next_low h low = low_seen h (last_of index) (next_of mid.index) (sym trees_done) low

  rolled_low : (h : ℕ) → AreLow h (last_of old.index) → AreLow h (next_of rolled)
  rolled_low h low = low_seen h (last_of old.index) (next_of rolled) (trees_rolled f s design rows old number rolled back) low

  abbrev OverOld : Option Functions → Option Picture → Disk FileName → Type 0
  OverOld = IsOver s design rows old

  over_then : (functions : Option Functions) (picture : Option Picture) (d : Disk FileName) → OverOld functions picture d → IsOverIndex f s rows rolled mid.index old.folder mid.folder by.first by.last functions picture d
  over_then functions picture d over = over_index f s design rows old number rolled back mid done by functions picture d over

  steps_done : (functions : Option Functions) (picture : Option Picture) (h : ℕ) → AreLow h (last_of old.index) → AreLow h (last_of index) → IfTold (f.disk old.folder) (λ d. OverOld functions picture d
      → mid.steps ≤ old.steps + (edit_count rows (picture_of old.index).rows * (8 * (h + 1)) + length rows * (2 * h)))
  steps_done functions picture h low low' =
      told_now (f.disk old.folder) _ (λ d. OverOld functions picture d → mid.steps ≤ old.steps + (edit_count rows (picture_of old.index).rows * (8 * (h + 1)) + length rows * (2 * h)))
      (λ d steps over. subst (λ (rs : List (List Row)). mid.steps ≤ old.steps + (edit_count rows rs * (8 * (h + 1)) + length rows * (2 * h))) (next_rolled f s design rows old number rolled back) (steps (over_then functions picture d over)).0)
      (by.costs.steps functions picture h (rolled_low h low) (next_low h low'))

  bytes_done : (functions : Option Functions) (picture : Option Picture) (longest h : ℕ) → AreShort longest (picture_of old.index).rows × AreShort longest (replaced_views rows (picture_of old.index).rows)
      → AreLow h (last_of old.index) → AreLow h (last_of index) → IfTold (f.disk old.folder) (λ d. OverOld functions picture d
      → start_of (file_of mid.index) ≤ start_of (file_of old.index) + (edit_count rows (picture_of old.index).rows * (4 * (h + 1))) * node_size longest)
  bytes_done functions picture longest h short low low' =
      told_now (f.disk old.folder) _ (λ d. OverOld functions picture d
      → start_of (file_of mid.index) ≤ start_of (file_of old.index) + (edit_count rows (picture_of old.index).rows * (4 * (h + 1))) * node_size longest)
      (λ d bytes over.
      subst (λ (rs : List (List Row)). start_of (file_of mid.index) ≤ start_of (file_of old.index) + (edit_count rows rs * (4 * (h + 1))) * node_size longest) same
      (subst (λ (g : GateFile). start_of (file_of mid.index) ≤ start_of g + (edit_count rows (next_in rolled) * (4 * (h + 1))) * node_size longest) back.file (bytes (over_then functions picture d over))))
      (by.costs.bytes functions picture longest h (subst (λ (rs : List (List Row)). AreShort longest rs × AreShort longest (replaced_views rows rs)) (sym same) short) (rolled_low h low) (next_low h low'))
    where
      same : next_in rolled ≡ (picture_of old.index).rows
      same = next_rolled f s design rows old number rolled back

  pub writes : Writes f s design rows seq old new done
  writes = record {
    stands = λ functions picture over. both_moves f s design rows old number rolled back mid by seq index folder done commits functions picture
        (StandsAround f s design rows seq old new functions picture done) (EndsAt f s design rows seq old new functions picture done)
        (λ image stands. inl stands) (λ image either. elim either [ inl stands ↦ inl stands | inr stands ↦ inr (tt, usable_mid f s design rows old number rolled back mid done by seq refl, stands) ]) (λ files ended. ended.0) over;
    others = both_others f s design rows old number rolled back mid by seq index folder done commits (λ files. UnlessDisk done (IsOpen index files)) (λ files ended disk. ended);
    picture = commits.picture ∙ made f s design rows old number rolled back mid by seq index folder done commits;
    kept = tt;
    settled = commits.settled;
    name = commits.name ∙ (same_mid f s design rows old number rolled back mid done by).name;
    number = views_done;
    grows = record {
      put = file_of mid.index;
      grows = record {
        longer = longer_mid f s design rows old number rolled back mid done by;
        bytes = most_bytes_mid f s design rows old number rolled back mid done by;
      };
      file = commits.file ∙ ap (λ n. published (file_of mid.index) n 0) (long f s design rows old number rolled back mid by seq index folder done commits);
      room = room_done;
      low = bytes_done;
    };
    stays = both_stay f s design rows old number rolled back mid by seq index folder done commits done (λ P has disk. has);
    asks = asked_all f s design rows old number rolled back mid by seq index folder done commits index done (λ fault is. let clash : ⊥ = cc in clash);
    usable = usable_mid f s design rows old number rolled back mid done by seq refl;
    complains = λ is. absurd (let clash : ⊥ = cc in clash);
    sound = λ functions picture. told_all (f.disk old.folder) (λ d. IsOver s design rows old functions picture d → FindsDamage (λ name at. ⊥) done) (λ d over name at is. let clash : ⊥ = cc in clash);
    damaged = told_all (f.disk folder) (λ d. FindsDamage (IsBadNode f s design rows seq old new d) done) (λ d name at is. absurd (let clash : ⊥ = cc in clash));
    full = λ name size is. absurd (let clash : ⊥ = cc in clash);
    faults = tt;
    cause = counts_then (f.faults old.folder) (f.faults mid.folder) (f.faults folder) done by.causes.cause commits.cause;
    steps = steps_done;
    most_steps = most_steps_mid f s design rows old number rolled back mid done by;
    pieces = pieces_mid f s design rows old number rolled back mid done by;
    reads = reads_all f s design rows old number rolled back mid by seq index folder done commits;
  }

-- ---- one that is refused, behind which the index is rolled back

module _ {F C : Type 0} (f : Folders F) (s : Servers C) (design : Design) (rows : List DocRows) (old : Side F C) (number : views_of old.index ≡ length design.views) (rolled : Index) (back : IsBack old.index rolled)
    (mid : Side F C) (by : ReplacesBy f s design rows (side old.folder old.servers old.pool rolled old.cache old.steps) mid done) (seq : ℕ) (index : Index) (folder : F) (fault : IndexFault)
    (commits : Commits f mid.index index mid.folder folder seq (refused fault)) (last : Index) (again : IsBack index last) where
  abbrev new' : Side F C
  new' = side folder mid.servers mid.pool last mid.cache mid.steps

  same_last : IsSame mid.index last
  same_last = same_then mid.index index last commits.kept.0 again.same

  same_all : IsSame old.index last
  same_all = same_then old.index mid.index last (same_mid f s design rows old number rolled back mid done by) same_last

  -- nothing was written, unless the disk failed
  record IsUntouched : Type 0 where
    folder_is : folder ≡ mid.folder
    back_is : IsBack mid.index last

  untouched_by : file_of index ≡ file_of mid.index → folder ≡ mid.folder → IsUntouched
  untouched_by file folder_is = record { folder_is = folder_is; back_is = record { same = same_last; file = again.file ∙ file; settled = again.settled } }

  untouched : IsOfCommit mid.index fault → fault ≢ Store DiskFault → IsUntouched
  untouched (inl disk) other = absurd (other disk)
  untouched (inr (inl long)) other = let kept = commits.full (inl (commits.long.only (ap refused long))) in untouched_by kept.0 kept.1
  untouched (inr (inr (inl spent))) other = let kept = commits.full (inr (commits.spent.only (ap refused spent))) in untouched_by kept.0 kept.1
  untouched (inr (inr (inr want))) other = let kept = commits.untouched (ap refused want) in untouched_by (ap file_of kept.0) kept.1

  abbrev Around : Option Functions → Option Picture → (FileName → List ℕ) → Type 0
  Around functions picture = StandsAround f s design rows seq old new' functions picture (refused fault)

  abbrev Ends : Option Functions → Option Picture → (FileName → File) → Type 0
  Ends functions picture = EndsAt f s design rows seq old new' functions picture (refused fault)

  stands_disk : fault ≡ Store DiskFault → (functions : Option Functions) (picture : Option Picture) → IfTold (f.disk old.folder) (IsOver s design rows old functions picture)
      → Tells (f.disk old.folder) (f.disk folder) (Moves (IsFileOf (stem_of old.index)) (Around functions picture) (Ends functions picture))
  stands_disk disk functions picture over =
      both_moves f s design rows old number rolled back mid by seq index folder (refused fault) commits functions picture (Around functions picture) (Ends functions picture)
      (λ image stands. inl stands) (λ image either. elim either [ inl stands ↦ inl stands | inr stands ↦ inr (ap refused disk, usable_mid f s design rows old number rolled back mid done by seq refl, stands) ]) (λ files ended other. absurd (other disk)) over

  stands_still : IsUntouched → (functions : Option Functions) (picture : Option Picture) → IfTold (f.disk old.folder) (IsOver s design rows old functions picture)
      → Tells (f.disk old.folder) (f.disk folder) (Moves (IsFileOf (stem_of old.index)) (Around functions picture) (Ends functions picture))
  stands_still left functions picture over =
      subst (λ (to : F). Tells (f.disk old.folder) (f.disk to) (Moves (IsFileOf (stem_of old.index)) (Around functions picture) (Ends functions picture))) (sym left.folder_is)
      (told_map (f.disk old.folder) (f.disk mid.folder) (Moves (IsFileOf (stem_of old.index)) (λ image. Stands functions design.views (stem_of old.index) image picture) (λ files. UnlessDisk done (IsAt functions design.views mid.index files picture)))
      (Moves (IsFileOf (stem_of old.index)) (Around functions picture) (Ends functions picture))
      (λ a b moves. moves_wider (IsFileOf (stem_of old.index)) (IsFileOf (stem_of old.index)) (λ image. Stands functions design.views (stem_of old.index) image picture) (Around functions picture)
      (λ files. UnlessDisk done (IsAt functions design.views mid.index files picture)) (Ends functions picture) a b
      (λ name own. own) (λ image framed. inl framed.inside) (λ others ended other. at_back mid.index last left.back_is b.now functions design.views picture (ended (λ disk. let clash : ⊥ = cc in clash))) moves)
      (replaced_stands f s design rows old number rolled back mid done by functions picture over))

  others_still : IsUntouched → Tells (f.disk old.folder) (f.disk folder) (Moves (IsFileOf (stem_of old.index)) (λ image. Unit {0}) (λ files. UnlessDisk (refused fault) (IsOpen last files)))
  others_still left =
      subst (λ (to : F). Tells (f.disk old.folder) (f.disk to) (Moves (IsFileOf (stem_of old.index)) (λ image. Unit {0}) (λ files. UnlessDisk (refused fault) (IsOpen last files)))) (sym left.folder_is)
      (told_map (f.disk old.folder) (f.disk mid.folder) (Moves (IsFileOf (stem_of old.index)) (λ image. Unit {0}) (λ files. UnlessDisk done (IsOpen mid.index files)))
      (Moves (IsFileOf (stem_of old.index)) (λ image. Unit {0}) (λ files. UnlessDisk (refused fault) (IsOpen last files)))
      (λ a b moves. moves_wider (IsFileOf (stem_of old.index)) (IsFileOf (stem_of old.index)) (λ image. Unit {0}) (λ image. Unit {0})
      (λ files. UnlessDisk done (IsOpen mid.index files)) (λ files. UnlessDisk (refused fault) (IsOpen last files)) a b
      (λ name own. own) (λ image framed. tt) (λ others ended other. open_back mid.index last left.back_is b.now (ended (λ disk. let clash : ⊥ = cc in clash))) moves)
      (replaced_others f s design rows old number rolled back mid done by))

  others_disk : fault ≡ Store DiskFault → Tells (f.disk old.folder) (f.disk folder) (Moves (IsFileOf (stem_of old.index)) (λ image. Unit {0}) (λ files. UnlessDisk (refused fault) (IsOpen last files)))
  others_disk disk = both_others f s design rows old number rolled back mid by seq index folder (refused fault) commits (λ files. UnlessDisk (refused fault) (IsOpen last files)) (λ files ended other. absurd (other (ap refused disk)))

  no_summer : (met : PoolFault) → IsOfCommit mid.index fault → fault ≡ Summer met → ⊥
  no_summer met (inl disk) is = cc
  no_summer met (inr (inl long)) is = cc
  no_summer met (inr (inr (inl spent))) is = cc
  no_summer met (inr (inr (inr want))) is = cc

  no_damage : (name : FileName) (at : ℕ) → IsOfCommit mid.index fault → fault ≡ Store (Damaged name at) → ⊥
  no_damage name at (inl disk) is = cc
  no_damage name at (inr (inl long)) is = cc
  no_damage name at (inr (inr (inl spent))) is = cc
  no_damage name at (inr (inr (inr want))) is = cc

  -- how the file is full
  filled : (name : FileName) (size : Option ℕ) → IsOfCommit mid.index fault → fault ≡ Store (Full name size) → IsFilled (length design.views) new'.index old.cache new'.cache name size
  filled name size (inl disk) is = absurd (let clash : ⊥ = cc in clash)
  filled name size (inr (inl long_is)) is =
      let limit : Full name size ≡ too_long (file_of mid.index) = cc in
      let left = untouched (inr (inl long_is)) (λ disk. let clash : ⊥ = cc in clash) in
      inr (inl (limit_of limit left (commits.long.only (ap refused long_is))))
    where
      limit_of : Full name size ≡ too_long (file_of mid.index) → IsUntouched → IsTooLong (file_of mid.index) (next_size seq mid.index) → (Full name size ≡ too_long (file_of last)) × IsTooLong (file_of last) (root_size (length design.views))
      limit_of limit left too =
          subst (λ (g : GateFile). (Full name size ≡ too_long g) × IsTooLong g (root_size (length design.views))) (sym left.back_is.file)
          (limit, subst (λ n. IsTooLong (file_of mid.index) n) (long f s design rows old number rolled back mid by seq index folder (refused fault) commits) too)
  filled name size (inr (inr (inl spent_is))) is =
      let limit : Full name size ≡ used_up (file_of mid.index) = cc in
      let left = untouched (inr (inr (inl spent_is))) (λ disk. let clash : ⊥ = cc in clash) in
      inr (inr (limit_of limit left (commits.spent.only (ap refused spent_is))))
    where
      limit_of : Full name size ≡ used_up (file_of mid.index) → IsUntouched → IsUsedUp (file_of mid.index) (next_size seq mid.index) → (Full name size ≡ used_up (file_of last)) × IsUsedUp (file_of last) (root_size (length design.views))
      limit_of limit left spent =
          subst (λ (g : GateFile). (Full name size ≡ used_up g) × IsUsedUp g (root_size (length design.views))) (sym left.back_is.file)
          (limit, subst (λ n. IsUsedUp (file_of mid.index) n) (long f s design rows old number rolled back mid by seq index folder (refused fault) commits) spent)
  filled name size (inr (inr (inr want))) is = absurd (let clash : ⊥ = cc in clash)

  write_fault' : (met : IndexFault) → IsOfCommit mid.index met → IsWriteFault (name_of (file_of last)) met
  write_fault' met (inl disk) = subst (IsWriteFault (name_of (file_of last))) (sym disk) tt
  write_fault' met (inr (inl long_is)) = subst (IsWriteFault (name_of (file_of last))) (sym long_is) (sym same_last.name)
  write_fault' met (inr (inr (inl spent_is))) = subst (IsWriteFault (name_of (file_of last))) (sym spent_is) (sym same_last.name)
  write_fault' met (inr (inr (inr want))) = subst (IsWriteFault (name_of (file_of last))) (sym want) tt

  -- by whether the disk failed
  module _ (stands : (functions : Option Functions) (picture : Option Picture) → IfTold (f.disk old.folder) (IsOver s design rows old functions picture)
      → Tells (f.disk old.folder) (f.disk folder) (Moves (IsFileOf (stem_of old.index)) (Around functions picture) (Ends functions picture)))
      (others : Tells (f.disk old.folder) (f.disk folder) (Moves (IsFileOf (stem_of old.index)) (λ image. Unit {0}) (λ files. UnlessDisk (refused fault) (IsOpen last files))))
      (grows : fault ≢ Store DiskFault → Grows f s design rows seq old new' (file_of last))
      (stays : Tells (f.disk old.folder) (f.disk folder) (λ a b. UnlessDisk (refused fault) (HasAll (own_bytes (file_of old.index) a.now) (own_bytes (file_of old.index) b.now)))) where
    refused_by : Writes f s design rows seq old new' (refused fault)
    refused_by = record {
      stands = stands;
      others = others;
      picture = tt;
      kept = same_all;
      settled = again.settled;
      name = same_all.name;
      number = same_number (last_of old.index) (last_of last) same_all.last;
      grows = grows;
      stays = stays;
      asks = asked_all f s design rows old number rolled back mid by seq index folder (refused fault) commits last (refused fault) (λ met is. no_summer met commits.faults (let same : fault ≡ Summer met = cc in same));
      usable = tt;
      complains = λ is. absurd (no_summer pool_fault.Compile commits.faults (let same : fault ≡ Summer pool_fault.Compile = cc in same));
      sound = λ functions picture. told_all (f.disk old.folder) (λ d. IsOver s design rows old functions picture d → FindsDamage (λ name at. ⊥) (refused fault))
          (λ d over name at is. no_damage name at commits.faults (let same : fault ≡ Store (Damaged name at) = cc in same));
      damaged = told_all (f.disk folder) (λ d. FindsDamage (IsBadNode f s design rows seq old new' d) (refused fault))
          (λ d name at is. absurd (no_damage name at commits.faults (let same : fault ≡ Store (Damaged name at) = cc in same)));
      full = λ name size is. filled name size commits.faults (let same : fault ≡ Store (Full name size) = cc in same);
      faults = write_fault' fault commits.faults;
      cause = counts_then (f.faults old.folder) (f.faults mid.folder) (f.faults folder) (refused fault) by.causes.cause commits.cause;
      steps = λ functions picture h low low'. told_all (f.disk old.folder) (λ d. IsOver s design rows old functions picture d → Unit {0}) (λ d over. tt);
      most_steps = most_steps_mid f s design rows old number rolled back mid done by;
      pieces = pieces_mid f s design rows old number rolled back mid done by;
      reads = reads_all f s design rows old number rolled back mid by seq index folder (refused fault) commits;
    }

  refuses_still : IsUntouched → Writes f s design rows seq old new' (refused fault)
  refuses_still left =
      refused_by (stands_still left) (others_still left)
      (λ other. subst (Grows f s design rows seq old new') (sym left.back_is.file) (record {
        longer = longer_mid f s design rows old number rolled back mid done by;
        bytes = most_bytes_mid f s design rows old number rolled back mid done by;
      }))
      (subst (λ (to : F). Tells (f.disk old.folder) (f.disk to) (λ a b. UnlessDisk (refused fault) (HasAll (own_bytes (file_of old.index) a.now) (own_bytes (file_of old.index) b.now)))) (sym left.folder_is)
      (told_map (f.disk old.folder) (f.disk mid.folder) (λ a b. UnlessDisk done (HasAll (own_bytes (file_of old.index) a.now) (own_bytes (file_of old.index) b.now)))
      (λ a b. UnlessDisk (refused fault) (HasAll (own_bytes (file_of old.index) a.now) (own_bytes (file_of old.index) b.now)))
      (λ a b has other. has (λ disk. let clash : ⊥ = cc in clash)) (stays_mid f s design rows old number rolled back mid done by)))

  pub refuses_commit : Writes f s design rows seq old new' (refused fault)
  refuses_commit = by_cause commits.faults
    where
      by_cause : IsOfCommit mid.index fault → Writes f s design rows seq old new' (refused fault)
      by_cause (inl disk) =
          refused_by (stands_disk disk) (others_disk disk) (λ other. absurd (other disk))
          (told_map (f.disk old.folder) (f.disk folder) (Moves (IsFileOf (stem_of old.index)) (λ image. Unit {0}) (λ files. UnlessDisk (refused fault) (IsOpen last files)))
          (λ a b. UnlessDisk (refused fault) (HasAll (own_bytes (file_of old.index) a.now) (own_bytes (file_of old.index) b.now))) (λ a b moves other. absurd (other (ap refused disk))) (others_disk disk))
      by_cause (inr (inl long_is)) = refuses_still (untouched (inr (inl long_is)) (λ disk. let clash : ⊥ = cc in clash))
      by_cause (inr (inr (inl spent_is))) = refuses_still (untouched (inr (inr (inl spent_is))) (λ disk. let clash : ⊥ = cc in clash))
      by_cause (inr (inr (inr want))) = refuses_still (untouched (inr (inr (inr want))) (λ disk. let clash : ⊥ = cc in clash))
