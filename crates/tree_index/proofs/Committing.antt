-- What the files of an index stand for while its root record is published, and after it.
use Rattle.std.proofs.Common.{◌≡◌, ◌≢◌, ◌⊎◌, ◌+◌, ◌-◌, ◌*◌, ◌≤◌, ℕ, List, [], ◌∷◌, ◌++◌, All, length, take, drop, Option, Some, Result, Ok, Err, OnOk, refl, ap, sym, ◌∙◌, subst, arith, append-nil, inl}
use Rattle.std.proofs.Math.Seq.{take-append_seam, drop-append_seam}
use Rattle.std.proofs.lemmas.List.Elements.{All-cons, All-head, All-nil, All-tail}
use Rattle.json_terms.specs.declared.term.Row.{Row}
use Rattle.view_ports.proofs.DiskRuns.{moves_none, moves_wider}
use Rattle.view_ports.proofs.Told.{told_all, told_given, told_map, told_still}
use Rattle.view_ports.specs.Disk.{Disk, IfTold, Moves, OthersStay, Tells}
use Rattle.view_ports.specs.File.{File, settled}
use Rattle.view_ports.specs.Functions.{Functions}
use Rattle.view_ports.specs.declared.file_name.FileName.{FileName}
use Rattle.gate_file.specs.declared.gate.GateFile.{GateFile}
use Rattle.gate_file.specs.GateFile.{commits_in, commits_of, name_of, root_of, start_of, Keeps}
use Rattle.gate_file.specs.Open.{IsPart}
use Rattle.gate_file.specs.Pair.{own_bytes}
use Rattle.gate_file.specs.Publish.{IsPublished, Publishes, WillHold, published}
use Rattle.gate_file.specs.Shown.{HasAll}
use Rattle.gate_file.proofs.Appends.{has_all_then}
use Rattle.gate_file.proofs.Published.{file_holds, file_publishing, front_has, has_all_more}
use Rattle.design_docs.specs.declared.design.View.{View}
use Rattle.tree_laws.specs.declared.tree.Tree.{Tree}
use Rattle.tree_laws.specs.Trees.{IsTreeSize}
use Rattle.node_file.specs.RecordLaws.{carried}
use Rattle.node_file.specs.Records.{node_at}
use Rattle.view_model.specs.Picture.{Picture}
use Rattle.index_items.specs.RootRecord.{root_bytes, IsContent, IsFitTree, IsRootOf}
use Rattle.index_trees.specs.declared.trees.IndexTrees.{IndexTrees}
use Rattle.index_trees.specs.Trees.{HaveRoom, HoldRows, HoldTrees}
use Rattle.index_trees.proofs.Holding.{trees_stay}
use Rattle.tree_index.specs.declared.index.Index.{Index}
use Rattle.tree_index.specs.Calls.{next_picture, said_of, HasTrees, IsAt, IsOpen, IsWhole}
use Rattle.tree_index.specs.Held.{HoldsPicture, IsFileOf, Said, Says, Stands}
use Rattle.tree_index.specs.Index.{file_of, last_of, next_in, next_of, picture_of, stem_of, views_of}
use Rattle.tree_index.specs.Trees.{seen}
use Rattle.tree_index.proofs.Carried.{index_stands, open_file, picture_of_root, says_of_root}
use Rattle.tree_index.proofs.Rooms.{each_seen, room_more}
use Rattle.tree_index.proofs.Sizes.{same_number, sizes_of}

-- nothing was called
pub stays_at : (functions : Option Functions) (views : List View) (index : Index) (disk : Option (Disk FileName)) (picture : Option Picture) (next : Picture) (ends : (FileName → File) → Type 0) → ((files : FileName → File) → ends files)
    → IfTold disk (λ d. IsAt functions views index d.now picture)
    → Tells disk disk (Moves (IsFileOf (stem_of index)) (λ image. Stands functions views (stem_of index) image picture ⊎ Stands functions views (stem_of index) image (Some next)) ends)
stays_at functions views index disk picture next ends ended at =
    let leaves : (FileName → List ℕ) → Type 0 = λ image. Stands functions views (stem_of index) image picture ⊎ Stands functions views (stem_of index) image (Some next) in
    told_still disk (λ d. IsAt functions views index d.now picture) (Moves (IsFileOf (stem_of index)) leaves ends)
    (λ d is. moves_none (IsFileOf (stem_of index)) leaves ends d (λ image left. inl ((index_stands functions views index d.now picture is).images image (λ n of_pair. left n))) (ended d.now))
    at

pub others_unmoved : (disk : Option (Disk FileName)) (stem : _) (ends : (FileName → File) → Type 0) → ((files : FileName → File) → ends files) → Tells disk disk (Moves (IsFileOf stem) (λ image. Unit {0}) ends)
others_unmoved disk stem ends ended =
    told_still disk (λ d. Unit {0}) (Moves (IsFileOf stem) (λ image. Unit {0}) ends) (λ d is. moves_none (IsFileOf stem) (λ image. Unit {0}) ends d (λ image left. tt) (ended d.now)) (told_all disk (λ d. Unit {0}) (λ d. tt))

-- ---- the next picture is published

part_last : (front part : List ℕ) → IsPart (front ++ part) (length front) (length part) part
part_last front part =
    let whole : front ++ (part ++ []) ≡ front ++ part = ap (λ l. front ++ l) (append-nil part) in
    record { long = refl; same = sym (ap (λ b. take (length part) (drop (length front) b)) (sym whole) ∙ ap (take (length part)) (drop-append_seam front (part ++ [])) ∙ take-append_seam part []) }

-- what was put stays in a file that has all bytes
trees_kept : (functions : Option Functions) (views : List View) (old new : List ℕ) (trees : List Tree) (back : Tree) (rows : _) → HasAll old new → HoldTrees functions views (node_at old) trees back rows → HoldTrees functions views (node_at new) trees back rows
trees_kept functions views old new trees back rows has = trees_stay functions views (node_at old) (node_at new) trees back rows (carried old new has)

abbrev pub Written : Index → ℕ → Type 0
Written index seq =
    (offset : ℕ) → All (IsFitTree offset) (next_of index).views.items → IsFitTree offset (next_of index).back
    → IsRootOf (length (next_of index).views.items) offset (root_bytes seq (next_of index).views.items (next_of index).back) seq (next_of index).views.items (next_of index).back

fit_trees : (offset : ℕ) (trees : List Tree) → All IsTreeSize trees → All (λ (tree : Tree). 8 * tree.count ≤ offset) trees → All (IsFitTree offset) trees
fit_trees offset [] sizes rooms = All-nil (IsFitTree offset)
fit_trees offset (tree ∷ trees) sizes rooms =
    All-cons (IsFitTree offset) tree trees (record { size = All-head IsTreeSize tree trees sizes; room = All-head (λ (t : Tree). 8 * t.count ≤ offset) tree trees rooms })
    (fit_trees offset trees (All-tail IsTreeSize tree trees sizes) (All-tail (λ (t : Tree). 8 * t.count ≤ offset) tree trees rooms))

-- all that stood in the file behind the slots stands there once more is published
all_stays : (index : Index) (bytes : List ℕ) (a b : Disk FileName) → IsPublished (published (file_of index) (length bytes) 0) bytes (a.now (name_of (file_of index))) (b.now (name_of (file_of index)))
    → HasAll (own_bytes (file_of index) a.now) (own_bytes (file_of index) b.now)
all_stays index bytes a b done =
    let old = own_bytes (file_of index) a.now in
    has_all_then old (done.front ++ bytes) (own_bytes (file_of index) b.now) (has_all_more old done.front bytes (front_has old done.front done.made)) done.shows.has

abbrev pub StaysAfter : {T E : Type 0} → Index → Result T E → Disk FileName → Disk FileName → Type 0
StaysAfter index result a b = OnOk result (HasAll (own_bytes (file_of index) a.now) (own_bytes (file_of index) b.now))

-- so it does after Ok
pub bytes_stay : {T E X Y : Type 0} (index : Index) (bytes : List ℕ) (old new : Option (Disk FileName)) (called : Result T E) (result : Result X Y)
    → ((P : Type 0) → OnOk called P → OnOk result P) → Tells old new (Publishes (file_of index) bytes 0 called) → Tells old new (StaysAfter index result)
bytes_stay index bytes old new called result as_called moves =
    told_map old new (Publishes (file_of index) bytes 0 called) (StaysAfter index result)
    (λ a b moved. as_called (HasAll (own_bytes (file_of index) a.now) (own_bytes (file_of index) b.now)) (done_stays called (λ done. all_stays index bytes a b done) moved.ended)) moves
  where
    done_stays : {T E P Q : Type 0} (called : Result T E) → (P → Q) → OnOk called P → OnOk called Q
    done_stays (Ok done) then so = then so
    done_stays (Err fault) then so = tt

-- and where nothing is called that is refused
pub none_stays : {X Y : Type 0} (index : Index) (disk : Option (Disk FileName)) (result : Result X Y) → ((P : Type 0) → OnOk result P) → Tells disk disk (StaysAfter index result)
none_stays index disk result refused =
    told_still disk (λ d. Unit {0}) (StaysAfter index result) (λ d known. refused (HasAll (own_bytes (file_of index) d.now) (own_bytes (file_of index) d.now))) (told_all disk (λ d. Unit {0}) (λ d. tt))

module _ (index : Index) (seq : ℕ) (bytes : List ℕ) (bytes_are : bytes ≡ root_bytes seq (next_of index).views.items (next_of index).back) (written : Written index seq) where
  abbrev gate : GateFile
  gate = file_of index

  abbrev last : GateFile
  last = published (file_of index) (length bytes) 0

  -- what the record says
  abbrev said_next : Said
  said_next = record { seq = seq; views = (next_of index).views.items; back = (next_of index).back }

  module _ (count : ℕ) (number : length (next_of index).views.items ≡ count) (rooms : HaveRoom (start_of gate) (next_of index)) where
    -- the trees fit where the record stands
    content : (offset : ℕ) → offset ≡ start_of gate → IsContent count offset seq (next_of index).views.items (next_of index).back
    content offset is =
        let trees = next_of index in
        let sizes = sizes_of trees index.next_sizes in
        let room : HaveRoom offset trees = subst (λ n. HaveRoom n trees) (sym is) rooms in
        let each = fit_trees offset trees.views.items sizes.views room.views in
        subst (λ n. IsContent n offset seq trees.views.items trees.back) number
        (written offset each (record { size = sizes.back; room = room.back })).content

    will_say : (old : List ℕ) → WillHold (Says count) gate old bytes 0 said_next
    will_say old front long has = record {
      part = subst (IsPart (front ++ bytes) (start_of gate + 0) (length bytes - 0)) bytes_are
          (subst (λ n. IsPart (front ++ bytes) n (length bytes - 0) bytes) (omega (arith, long)) (subst (λ n. IsPart (front ++ bytes) (length front) n bytes) (omega arith) (part_last front bytes)));
      content = content (start_of gate + 0) (omega arith);
    }

  module _ (functions : Option Functions) (views : List View) (picture : Option Picture) (files : FileName → File) (at : IsAt functions views index files picture) where
    pub will_hold : WillHold (HoldsPicture functions views) gate (own_bytes gate files) bytes 0 (Some (next_picture seq index))
    will_hold front long has = record {
      said = said_next;
      spells = will_say (length views) (index.same ∙ at.number) at.is_open.next_room (own_bytes gate files) front long has;
      seq = refl;
      rows = trees_kept functions views (own_bytes gate files) (front ++ bytes) (next_of index).views.items (next_of index).back (next_in index) (has_all_more (own_bytes gate files) front bytes has) at.next;
    }

  pub publishes : {T E : Type 0} (functions : Option Functions) (views : List View) (old new : Option (Disk FileName)) (picture : Option Picture) (result : Result T E) (ends : (FileName → File) → Type 0)
      → ((a b : Disk FileName) → IsAt functions views index a.now picture → OthersStay (λ n. n ≡ name_of gate) a.now b.now
      → OnOk result (IsPublished last bytes (a.now (name_of gate)) (b.now (name_of gate))) → ends b.now)
      → IfTold old (λ d. IsAt functions views index d.now picture) → Tells old new (Publishes gate bytes 0 result)
      → Tells old new (Moves (IsFileOf (stem_of index)) (λ image. Stands functions views (stem_of index) image picture ⊎ Stands functions views (stem_of index) image (Some (next_picture seq index))) ends)
  publishes functions views old new picture result ends endings at moves =
      file_publishing (stem_of index) gate bytes 0 (HoldsPicture functions views) (picture_of_root functions views) old new (λ files. IsAt functions views index files picture) picture (Some (next_picture seq index)) result ends
      (λ files here. record { is_open = open_file index files here.is_open; holds = here.holds; will = λ few. will_hold functions views picture files here })
      endings at moves

  -- the object once it is published: its last trees are those that were the next
  module _ (now : Index) (file_now : file_of now ≡ last) (last_now : seen (last_of now) ≡ seen (next_of index)) (next_now : seen (next_of now) ≡ seen (next_of index))
      (a b : Disk FileName) (is_open : IsOpen index a.now) (others : OthersStay (λ n. n ≡ name_of gate) a.now b.now) (done : IsPublished last bytes (a.now (name_of gate)) (b.now (name_of gate)))
      (picture_now : picture_of now ≡ next_picture seq index) where
    rooms : HaveRoom (start_of last) (next_of index)
    rooms = room_more (start_of gate) (start_of last) (next_of index) (omega arith) is_open.next_room

    -- its root record says where it stands
    said_now : said_of now ≡ said_next
    said_now = λ i. record {
      seq = ap (λ (p : Picture). p.seq) picture_now i;
      views = ap (λ (t : List Tree × Tree). t.0) last_now i;
      back = ap (λ (t : List Tree × Tree). t.1) last_now i;
    }

    says_now : Says (views_of now) (root_of (file_of now)) (own_bytes (file_of now) b.now) (said_of now)
    says_now =
        subst (λ (g : GateFile). Says (views_of now) (root_of g) (own_bytes g b.now) (said_of now)) (sym file_now)
        (subst (λ (s : Said). Says (views_of now) (root_of last) (own_bytes last b.now) s) (sym said_now)
        (subst (λ (n : ℕ). Says n (root_of last) (own_bytes last b.now) said_next) (sym (same_number (next_of index) (last_of now) last_now ∙ index.same))
        (file_holds (stem_of index) gate bytes 0 a.now (open_file index a.now is_open) b.now others done (Says (views_of index)) (says_of_root (views_of index)) said_next
        (will_say (views_of index) index.same is_open.next_room (own_bytes gate a.now)))))

    pub open_published : IsOpen now b.now
    open_published = record {
      keeps = subst (λ (g : GateFile). Keeps g (b.now (name_of g))) (sym file_now) done.keeps;
      other = subst (λ (g : GateFile). (n : FileName) → IsFileOf (name_of g).stem n → n ≢ name_of g → b.now n ≡ settled []) (sym file_now)
          (λ n of_pair differs. others n differs ∙ is_open.other n of_pair differs);
      commits = subst (λ (g : GateFile). commits_of g ≡ commits_in (root_of g)) (sym file_now) refl;
      says = says_now;
      last_room = subst (λ (g : GateFile). HaveRoom (start_of g) (last_of now)) (sym file_now) (each_seen (λ tree. 8 * tree.count ≤ start_of last) (next_of index) (last_of now) last_now rooms);
      next_room = subst (λ (g : GateFile). HaveRoom (start_of g) (next_of now)) (sym file_now) (each_seen (λ tree. 8 * tree.count ≤ start_of last) (next_of index) (next_of now) next_now rooms);
    }

    pub whole_published : IsWhole now b.now
    whole_published = subst (λ (g : GateFile). b.now (name_of g) ≡ settled (own_bytes g b.now)) (sym file_now) done.whole

    -- and its rows are those that the next commit made
    module _ (rows_now : next_in now ≡ next_in index)
        (functions : Option Functions) (views : List View) (picture : Option Picture) (at : IsAt functions views index a.now picture) where
      all_there : HasAll (own_bytes gate a.now) (own_bytes last b.now)
      all_there = all_stays index bytes a b done

      -- the next trees hold the next rows in the new file
      there : HoldTrees functions views (node_at (own_bytes last b.now)) (next_of index).views.items (next_of index).back (next_in index)
      there = trees_kept functions views (own_bytes gate a.now) (own_bytes last b.now) (next_of index).views.items (next_of index).back (next_in index) all_there at.next

      held : (trees : IndexTrees) (rows : List (List Row)) → seen trees ≡ seen (next_of index) → rows ≡ next_in index → HasTrees functions views now b.now trees rows
      held trees rows same rows_same =
          subst (λ (g : GateFile). HoldRows functions views (node_at (own_bytes g b.now)) trees rows) (sym file_now)
          (subst (λ (t : List Tree × Tree). HoldTrees functions views (node_at (own_bytes last b.now)) t.0 t.1 rows) (sym same)
          (subst (λ rs. HoldTrees functions views (node_at (own_bytes last b.now)) (next_of index).views.items (next_of index).back rs) (sym rows_same) there))

      pub at_now : IsAt functions views now b.now (Some (next_picture seq index))
      at_now = record {
        is_open = open_published;
        number = same_number (next_of index) (last_of now) last_now ∙ index.same ∙ at.number;
        holds = subst (λ (g : GateFile). HoldsPicture functions views (root_of g) (b.now (name_of g)).durable (Some (next_picture seq index))) (sym file_now)
            (subst (λ bs. HoldsPicture functions views (root_of last) bs (Some (next_picture seq index))) (sym (ap (λ (f : File). f.durable) done.whole))
            (file_holds (stem_of index) gate bytes 0 a.now (open_file index a.now is_open) b.now others done (HoldsPicture functions views) (picture_of_root functions views) (Some (next_picture seq index))
            (will_hold functions views picture a.now at)));
        last = picture_now;
        trees = held (last_of now) (picture_of now).rows last_now (ap (λ (p : Picture). p.rows) picture_now);
        next = held (next_of now) (next_in now) next_now rows_now;
      }

-- ---- whatever is published, other files stay

pub others_stay_published : {T E : Type 0} (index : Index) (bytes : List ℕ) (old new : Option (Disk FileName)) (result : Result T E) (ends : (FileName → File) → Type 0)
    → ((a b : Disk FileName) → IsOpen index a.now → OthersStay (λ n. n ≡ name_of (file_of index)) a.now b.now
    → OnOk result (IsPublished (published (file_of index) (length bytes) 0) bytes (a.now (name_of (file_of index))) (b.now (name_of (file_of index)))) → ends b.now)
    → IfTold old (λ d. IsOpen index d.now) → Tells old new (Publishes (file_of index) bytes 0 result) → Tells old new (Moves (IsFileOf (stem_of index)) (λ image. Unit {0}) ends)
others_stay_published index bytes old new result ends endings is_open moves =
    told_given old new (λ d. IsOpen index d.now) (Publishes (file_of index) bytes 0 result) (Moves (IsFileOf (stem_of index)) (λ image. Unit {0}) ends)
    (λ a b is moved. moves_wider (λ n. n ≡ name_of (file_of index)) (IsFileOf (stem_of index)) _ (λ image. Unit {0})
    (λ now. OnOk result (IsPublished (published (file_of index) (length bytes) 0) bytes (a.now (name_of (file_of index))) (now (name_of (file_of index))))) ends a b
    (λ n same. ap (λ (k : FileName). k.stem) same) (λ image framed. tt) (λ others ended. endings a b is others ended) moved)
    is_open moves
