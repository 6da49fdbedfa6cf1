-- What an index stands for while its files are opened, and the object that is opened.
use Rattle.std.proofs.Common.{◌≡◌, ◌*◌, ◌≤◌, ℕ, zero, suc, List, [], ◌∷◌, ◌++◌, All, length, map, Option, Some, None, Result, IsErr, IfOk, refl, sym, ap, ◌∙◌, subst, arith}
use Rattle.std.specs.Prelude.{option_map, replicate, take}
use Rattle.std.proofs.Math.Seq.{drop-append_seam}
use Rattle.std.proofs.lemmas.List.{length-replicate}
use Rattle.std.proofs.lemmas.List.Elements.{All-drop, All-head, All-weaker}
use Rattle.view_ports.specs.Disk.{Disk, IfTold, Moves, MovesNone, Tells}
use Rattle.view_ports.specs.File.{File, settled}
use Rattle.view_ports.specs.Functions.{Functions}
use Rattle.view_ports.specs.declared.file_name.FileName.{FileName}
use Rattle.view_ports.specs.declared.file_name.Stem.{Stem}
use Rattle.view_ports.proofs.Told.{told_after, told_given, told_map, told_pair, told_then}
use Rattle.gate_file.specs.declared.gate.GateFile.{GateFile}
use Rattle.gate_file.specs.declared.root.Root.{Root}
use Rattle.gate_file.specs.GateFile.{commits_in, commits_of, length_of, name_of, root_of, start_of, Keeps}
use Rattle.gate_file.specs.Header.{place_of, slot_at}
use Rattle.gate_file.specs.Open.{opened, AreFitSlots, IsFirstDamage, IsFitSlot, IsOpened, WhileOpening}
use Rattle.gate_file.specs.Pair.{IsOpenPair, own_bytes}
use Rattle.gate_file.proofs.Looks.{opened_slot}
use Rattle.gate_file.proofs.Numbered.{commits_opened}
use Rattle.gate_file.proofs.Opened.{opened_bytes, opened_open, opened_seen, opening_each}
use Rattle.gate_file.proofs.Openings.{failed_open}
use Rattle.gate_file.proofs.Published.{all_durable, file_of_pair, file_stands}
use Rattle.gate_file.proofs.SlotFacts.{fit_at}
use Rattle.gate_file.proofs.Stretches.{moves_then_none}
use Rattle.design_docs.specs.declared.design.View.{View}
use Rattle.tree_laws.specs.declared.tree.Tree.{Tree}
use Rattle.node_file.specs.Records.{node_at}
use Rattle.reduce_tree.specs.Calls.{places}
use Rattle.view_model.specs.Picture.{Picture}
use Rattle.index_items.specs.RootRecord.{IsTreeAt}
use Rattle.index_trees.specs.Laws.{no_tree}
use Rattle.index_trees.specs.Reading.{rows_in}
use Rattle.index_trees.specs.Trees.{HaveRoom, HoldTrees}
use Rattle.index_trees.proofs.NoTrees.{empty_trees_have_room, empty_trees_hold_nothing}
use Rattle.tree_index.specs.declared.fault.IndexFault.{IndexFault}
use Rattle.tree_index.specs.declared.index.Index.{Index}
use Rattle.tree_index.specs.Calls.{HasTrees, IsAt, IsOpen, said_of}
use Rattle.tree_index.specs.Held.{or_empty, HoldsIndex, HoldsPicture, IsFileOf, Said, Stands, Says}
use Rattle.tree_index.specs.Index.{file_of, last_of, next_in, next_of, picture_of, views_of, IsSettled}
use Rattle.tree_index.specs.Opens.{FindsDamage, IsLeft, IsLoaded}
use Rattle.tree_index.proofs.Carried.{picture_of_root}
use Rattle.tree_index.proofs.Pictures.{one_said, rows_of_said}
use Rattle.tree_index.proofs.Rooms.{each_seen}

-- ---- what is read of trees, as a folder tells it

pub told_rows : (disk : Option (Disk FileName)) (name : FileName) (trees : List Tree) → IfTold disk (λ d. map (rows_in (places (option_map (λ e. node_at (e.now name).seen) disk))) trees ≡ map (rows_in (node_at (d.now name).seen)) trees)
told_rows None name trees = tt
told_rows (Some d) name trees = refl

no_rows : (bytes : List ℕ) (count : ℕ) → map (rows_in (node_at bytes)) (replicate count no_tree) ≡ replicate count []
unfolding rows_in
no_rows bytes zero = refl
no_rows bytes (suc count) = ap (λ rows. [] ∷ rows) (no_rows bytes count)

-- ---- what is said is that of the picture that is held

-- the trees that are said hold the rows of the picture, and are at its sequence
pub record IsSaid (functions : Option Functions) (views : List View) (bytes : List ℕ) (said : Said) (picture : Picture) : Type 0 where
  pub seq : said.seq ≡ picture.seq
  pub rows : map (rows_in (node_at bytes)) said.views ≡ picture.rows
  pub holds : HoldTrees functions views (node_at bytes) said.views said.back picture.rows

pub held_said : (functions : Option Functions) (views : List View) (count : ℕ) (root : Option Root) (bytes : List ℕ) (said : Said) (picture : Option Picture) → length views ≡ count
    → Says count root bytes said → HoldsPicture functions views root bytes picture → IsSaid functions views bytes said (or_empty (length views) picture)
held_said functions views count None bytes said None number says holds = subst (λ s. IsSaid functions views bytes s (or_empty (length views) None)) (sym says) (record {
  seq = refl;
  rows = no_rows bytes count ∙ ap (λ n. replicate n []) (sym number);
  holds = subst (λ n. HoldTrees functions views (node_at bytes) (replicate count no_tree) no_tree (replicate n [])) (sym number) (empty_trees_hold_nothing functions views (node_at bytes) count);
})
held_said functions views count None bytes said (Some picture) number says holds = absurd holds
held_said functions views count (Some root) bytes said None number says holds = absurd holds
held_said functions views count (Some root) bytes said (Some picture) number says holds =
    let read = rows_of_said functions views root bytes picture said holds count says in
    let same : said ≡ holds.said = one_said (length views) count root bytes holds.said said holds.spells says in
    record {
      seq = read.0;
      rows = read.1;
      holds = subst (λ (s : Said). HoldTrees functions views (node_at bytes) s.views s.back picture.rows) (sym same) holds.rows;
    }

said_number : (count : ℕ) (root : Option Root) (bytes : List ℕ) (said : Said) → Says count root bytes said → length said.views ≡ count
said_number count None bytes said says = ap (λ (s : Said). length s.views) says ∙ length-replicate count no_tree
said_number count (Some root) bytes said says = says.content.number

-- the root record lies within the file
root_within : (gate : GateFile) (file : File) (root : Root) → Keeps gate file → root_of gate ≡ Some root → root.offset ≤ start_of gate
root_within gate file root keeps is =
    let slot = opened_slot (slot_at file.durable (place_of gate.commits)) root (keeps.last ∙ is) in
    let sound = fit_at file.durable keeps.low keeps.high gate.commits slot.0 in
    let place : root.offset ≤ length file.durable = subst (λ (r : Root). r.offset ≤ length file.durable) slot.1 (omega (arith, sound.within)) in
    omega (arith, place, keeps.durable.long, keeps.size)

-- there is room for the trees that are said
said_room : (count size : ℕ) (root : Option Root) (bytes : List ℕ) (said : Said) → Says count root bytes said → ((r : Root) → root ≡ Some r → r.offset ≤ size)
    → All (λ (tree : Tree). 8 * tree.count ≤ size) said.views × (8 * (said.back).count ≤ size)
said_room count size None bytes said says within =
    subst (λ (s : Said). All (λ (tree : Tree). 8 * tree.count ≤ size) s.views × (8 * (s.back).count ≤ size)) (sym says) (empty_trees_have_room count size)
said_room count size (Some root) bytes said says within =
    let place = within root refl in (
      All-weaker (IsTreeAt root.offset) (λ (tree : Tree). 8 * tree.count ≤ size) (λ tree fits. omega (arith, place, fits.fit.room)) said.views says.content.each,
      omega (arith, place, says.content.back_fits.fit.room),
    )

-- what the root of an object says was said before it was opened
says_before : (stem : Stem) (count : ℕ) (gate : GateFile) (old new : FileName → File) (said : Said) → gate ≡ opened stem old → IsOpened gate old new → Says count (root_of gate) (own_bytes gate new) said
    → Says count (root_of (opened stem old)) (own_bytes (opened stem old) old) said
says_before stem count gate old new said gate_is is says =
    subst (λ (g : GateFile). Says count (root_of g) (own_bytes g old) said) gate_is (by_root (root_of gate) refl says)
  where
    by_root : (root : Option Root) → root_of gate ≡ root → Says count root (own_bytes gate new) said → Says count root (own_bytes gate old) said
    by_root None none held = held
    by_root (Some root) some held = subst (λ b. Says count (Some root) b said) (opened_bytes stem gate old new gate_is is root some) held

-- the file that was opened is as it was, but for bytes behind what is durable
pub is_left : (stem : Stem) (gate : GateFile) (old new : FileName → File) → gate ≡ opened stem old → IsOpened gate old new → IsLeft stem old new
is_left stem gate old new gate_is is = subst (λ (g : GateFile). new (name_of g) ≡ settled (take (length_of g) (own_bytes g old))) gate_is is.whole

-- ---- what is damaged

-- of files of which no slot is damaged, no slot is the first that is
pub undamaged_slots : (stem : Stem) (files : FileName → File) (name : FileName) (at : ℕ) → AreFitSlots stem files → IsFirstDamage stem files name at → ⊥
undamaged_slots stem files name at fit damage =
    let here : List (FileName × ℕ) = (name, at) ∷ damage.after in
    let behind : All (IsFitSlot files) here = subst (All (IsFitSlot files)) (drop-append_seam damage.before here)
    (All-drop (IsFitSlot files) (length damage.before) (damage.before ++ here) (subst (All (IsFitSlot files)) damage.split fit)) in
    damage.damaged.1 (All-head (IsFitSlot files) (name, at) damage.after behind damage.damaged.0)

-- ---- the object that is opened

module _ (stem : Stem) (count : ℕ) (index : Index) (gate : GateFile) (file_is : file_of index ≡ gate) (settled_now : IsSettled index) (old new : FileName → File) (gate_is : gate ≡ opened stem old) (is : IsOpened gate old new)
    (says : Says count (root_of gate) (own_bytes gate new) (said_of index)) (rows : (picture_of index).rows ≡ map (rows_in (node_at (own_bytes gate new))) (last_of index).views.items) where
  pair : IsOpenPair stem gate new
  pair = opened_open stem gate old new gate_is is

  rooms : HaveRoom (start_of gate) (last_of index)
  rooms =
      let both = said_room count (start_of gate) (root_of gate) (own_bytes gate new) (said_of index) says (λ r some. root_within gate (new (name_of gate)) r pair.keeps some) in
      record { views = both.0; back = both.1 }

  -- the object is of its files
  there : IsOpen index new
  there = record {
    keeps = subst (λ (g : GateFile). Keeps g (new (name_of g))) (sym file_is) pair.keeps;
    other = subst (λ (g : GateFile). (n : FileName) → IsFileOf (name_of g).stem n → (n ≡ name_of g → ⊥) → new n ≡ settled []) (sym file_is) (λ n of_pair differs. pair.other n (of_pair ∙ pair.own) differs);
    commits = subst (λ (g : GateFile). commits_of g ≡ commits_in (root_of g)) (sym file_is) (commits_opened stem gate old gate_is);
    says = subst (λ (g : GateFile). Says (views_of index) (root_of g) (own_bytes g new) (said_of index)) (sym file_is)
        (subst (λ n. Says n (root_of gate) (own_bytes gate new) (said_of index)) (sym (said_number count (root_of gate) (own_bytes gate new) (said_of index) says)) says);
    last_room = subst (λ (g : GateFile). HaveRoom (start_of g) (last_of index)) (sym file_is) rooms;
    next_room = subst (λ (g : GateFile). HaveRoom (start_of g) (next_of index)) (sym file_is) (each_seen (λ tree. 8 * tree.count ≤ start_of gate) (last_of index) (next_of index) settled_now.trees rooms);
  }

  -- and is at the picture that its root holds
  pub at_held : (functions : Option Functions) (views : List View) (picture : Option Picture) → length views ≡ count → HoldsPicture functions views (root_of gate) (own_bytes gate new) picture → IsAt functions views index new picture
  at_held functions views picture number holds =
      let held = held_said functions views count (root_of gate) (own_bytes gate new) (said_of index) picture number says holds in
      let rows_are : (picture_of index).rows ≡ (or_empty (length views) picture).rows = rows ∙ held.rows in
      let trees : HasTrees functions views index new (last_of index) (picture_of index).rows =
      subst (λ (g : GateFile). HoldTrees functions views (node_at (own_bytes g new)) (last_of index).views.items (last_of index).back (picture_of index).rows) (sym file_is)
      (subst (HoldTrees functions views (node_at (own_bytes gate new)) (last_of index).views.items (last_of index).back) (sym rows_are) held.holds) in
      record {
        is_open = there;
        number = said_number count (root_of gate) (own_bytes gate new) (said_of index) says ∙ sym number;
        holds = subst (λ (g : GateFile). HoldsPicture functions views (root_of g) (new (name_of g)).durable picture) (sym file_is)
            (subst (λ b. HoldsPicture functions views (root_of gate) b picture) (sym (all_durable stem gate new pair)) holds);
        last = λ i. record { seq = held.seq i; rows = rows_are i };
        trees = trees;
        next = subst (λ (t : List Tree × Tree). HoldTrees functions views (node_at (own_bytes (file_of index) new)) t.0 t.1 (next_in index)) (sym settled_now.trees)
            (subst (HoldTrees functions views (node_at (own_bytes (file_of index) new)) (last_of index).views.items (last_of index).back) (sym settled_now.rows) trees);
      }

  -- what the root holds was held before
  holds_after : (functions : Option Functions) (views : List View) (picture : Option Picture) → HoldsPicture functions views (root_of (opened stem old)) (own_bytes (opened stem old) old) picture → HoldsPicture functions views (root_of gate) (own_bytes gate new) picture
  holds_after functions views picture holds =
      by_root (root_of gate) refl (subst (λ (g : GateFile). HoldsPicture functions views (root_of g) (own_bytes g old) picture) (sym gate_is) holds)
    where
      by_root : (root : Option Root) → root_of gate ≡ root → HoldsPicture functions views root (own_bytes gate old) picture → HoldsPicture functions views root (own_bytes gate new) picture
      by_root None none held = (picture_of_root functions views).rootless (own_bytes gate old) (own_bytes gate new) picture held
      by_root (Some root) some held = subst (λ b. HoldsPicture functions views (Some root) b picture) (sym (opened_bytes stem gate old new gate_is is root some)) held

  pub is_loaded : AreFitSlots stem old → IsLoaded stem count old new index
  is_loaded fit = record {
    fit = fit;
    file = file_is ∙ gate_is;
    is_open = there;
    whole = is_left stem gate old new gate_is is;
    says = says_before stem count gate old new (said_of index) gate_is is says;
    rows = subst (λ (g : GateFile). (picture_of index).rows ≡ map (rows_in (node_at (own_bytes g new))) (last_of index).views.items) (sym file_is) rows;
    at = λ functions views picture number holds. at_held functions views picture number (holds_after functions views picture holds);
  }

  -- of files that stood for a picture
  pub at_stood : (functions : Option Functions) (views : List View) (picture : Option Picture) → HoldsIndex functions views stem old picture → length views ≡ count → IsAt functions views index new picture
  at_stood functions views picture stands number =
      at_held functions views picture number (opened_seen stem gate old new gate_is is (HoldsPicture functions views) (picture_of_root functions views) picture stands.seen)

-- ---- as the folder tells it

module _ (stem : Stem) where
  -- nothing changes once the pair is open
  pub then_none : {E : Type 0} (result : Result GateFile E) (old mid new : Option (Disk FileName)) (ends : (FileName → File) → (FileName → File) → Type 0)
      → ((a b d : Disk FileName) → IfOk result (λ gate. IsOpened gate a.now b.now) → ((n : FileName) → d.now n ≡ b.now n) → ends a.now d.now)
      → Tells old mid (λ a b. Moves (IsFileOf stem) (WhileOpening stem a.now) (λ files. IfOk result (λ gate. IsOpened gate a.now files)) a b) → Tells mid new MovesNone
      → Tells old new (λ a b. Moves (IsFileOf stem) (WhileOpening stem a.now) (ends a.now) a b)
  then_none result old mid new ends endings first none =
      told_then old mid new
      (λ a b. Moves (IsFileOf stem) (WhileOpening stem a.now) (λ files. IfOk result (λ gate. IsOpened gate a.now files)) a b) MovesNone
      (λ a b. Moves (IsFileOf stem) (WhileOpening stem a.now) (ends a.now) a b)
      (λ a b d moved still. moves_then_none (IsFileOf stem) (WhileOpening stem a.now) (λ files. IfOk result (λ gate. IsOpened gate a.now files)) (ends a.now) a b d
      (λ ended same. endings a b d ended same) moved still)
      first none

  -- a refusal finds nothing
  pub finds_none : {T E : Type 0} (result : Result T E) (P : (FileName → File) → (FileName → File) → T → Type 0) (old new : Option (Disk FileName)) (R : Disk FileName → Disk FileName → Type 0)
      → IsErr result → Tells old new R → Tells old new (λ a b. IfOk result (P a.now b.now))
  finds_none result P old new R failed told = told_map old new R (λ a b. IfOk result (P a.now b.now)) (λ a b moved. failed_open result (P a.now b.now) failed) told

  -- whatever is damaged of a pair that was opened, its file is left as it was
  pub left_after : {T : Type 0} (result : Result T IndexFault) (gate : GateFile) (old new : Option (Disk FileName)) → IfTold old (λ d. gate ≡ opened stem d.now)
      → Tells old new (λ a b. Moves (IsFileOf stem) (WhileOpening stem a.now) (IsOpened gate a.now) a b)
      → Tells old new (λ a b. FindsDamage (λ name at. AreFitSlots stem a.now → IsLeft stem a.now b.now) result)
  left_after result gate old new gate_is moves =
      told_given old new (λ d. gate ≡ opened stem d.now) (λ a b. Moves (IsFileOf stem) (WhileOpening stem a.now) (IsOpened gate a.now) a b)
      (λ a b. FindsDamage (λ name at. AreFitSlots stem a.now → IsLeft stem a.now b.now) result)
      (λ a b is moved name at failed fit. is_left stem gate a.now b.now is moved.ended) gate_is moves

  module _ (functions : Option Functions) (views : List View) where
    pub stands_failed : {T E : Type 0} (result : Result T E) (P : (FileName → File) → T → Type 0) (old new : Option (Disk FileName)) (picture : Option Picture) (ends : (FileName → File) → (FileName → File) → Type 0)
        → IsErr result → IfTold old (λ d. HoldsIndex functions views stem d.now picture) → Tells old new (λ a b. Moves (IsFileOf stem) (WhileOpening stem a.now) (ends a.now) a b)
        → Tells old new (Moves (IsFileOf stem) (λ image. Stands functions views stem image picture) (λ files. IfOk result (P files)))
    stands_failed result P old new picture ends failed holds moves =
        opening_each stem (HoldsPicture functions views) (picture_of_root functions views) old new (λ files. HoldsIndex functions views stem files picture) picture ends (λ files. IfOk result (P files)) (λ files each. each)
        (λ a b is ended. failed_open result (P b.now) failed) holds moves

    -- once the pair is open the files stand for what they stood for before
    pub stands_after : (gate : GateFile) (old new : Option (Disk FileName)) (picture : Option Picture) → IfTold old (λ d. gate ≡ opened stem d.now)
        → Tells old new (λ a b. Moves (IsFileOf stem) (WhileOpening stem a.now) (IsOpened gate a.now) a b) → IfTold old (λ d. HoldsIndex functions views stem d.now picture) → IfTold new (λ d. HoldsIndex functions views stem d.now picture)
    stands_after gate old new picture gate_is moves holds =
        told_after old new (λ d. (gate ≡ opened stem d.now) × HoldsIndex functions views stem d.now picture) (λ d. HoldsIndex functions views stem d.now picture) (λ a b. Moves (IsFileOf stem) (WhileOpening stem a.now) (IsOpened gate a.now) a b)
        (λ a b known moved.
        let pair = opened_open stem gate a.now b.now known.0 moved.ended in
        let held = opened_seen stem gate a.now b.now known.0 moved.ended (HoldsPicture functions views) (picture_of_root functions views) picture known.1.seen in
        file_stands stem gate b.now (file_of_pair stem gate b.now pair) (HoldsPicture functions views) (picture_of_root functions views) picture
        (subst (λ bs. HoldsPicture functions views (root_of gate) bs picture) (sym (all_durable stem gate b.now pair)) held))
        (told_pair old (λ d. gate ≡ opened stem d.now) (λ d. HoldsIndex functions views stem d.now picture) (λ d. (gate ≡ opened stem d.now) × HoldsIndex functions views stem d.now picture) (λ d is there. (is, there)) gate_is holds) moves
