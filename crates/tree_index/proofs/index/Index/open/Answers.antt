-- An index past the newest write is emptied, and opened again.
use Rattle.std.proofs.Common.{◌≡◌, ◌⊎◌, ◌<◌, ℕ, List, Option, None, IfOk, OnOk, Err, length, sym, subst, inl, inr, arith, rules}
use Rattle.view_ports.specs.Disk.{Disk, IfTold, Moves, Tells}
use Rattle.view_ports.specs.File.{File}
use Rattle.view_ports.specs.Functions.{Functions}
use Rattle.view_ports.specs.declared.file_name.FileName.{FileName}
use Rattle.view_ports.specs.declared.file_name.Stem.{Stem}
use Rattle.view_ports.specs.declared.file_name.Stem.TheVariants.{View}
use Rattle.view_ports.proofs.DiskRuns.{moves_then, moves_wider, on_ok}
use Rattle.view_ports.proofs.Told.{told_after, told_all, told_back, told_both, told_given, told_map, told_now, told_pair, told_then}
use Rattle.gate_file.specs.GateFile.{name_of}
use Rattle.gate_file.specs.Opens.{Empties}
use Rattle.gate_file.specs.declared.fault.GateFault.TheVariants.{Damaged}
use Rattle.gate_file.proofs.Emptied.{AreEmpty}
use Rattle.gate_file.proofs.Openings.{failed_open}
use Rattle.gate_file.proofs.Stretches.{told_end}
use Rattle.design_docs.specs.declared.design.View.{View as ViewOf}
use Rattle.view_model.specs.Picture.{Picture}
use Rattle.tree_index.specs.declared.fault.IndexFault.TheVariants.{NoMemory, Store}
use Rattle.tree_index.specs.declared.index.Index.{Index}
use Rattle.tree_index.specs.Calls.{IsAt}
use Rattle.tree_index.specs.Held.{up_to, HoldsIndex, IsDamagedAt, IsFileOf, OnlyOpens, Stands}
use Rattle.tree_index.specs.Index.{file_of, seq_of, stem_of}
use Rattle.tree_index.specs.Opens.{FindsDamage, IsFound, IsLoaded, IsPastWrite}
use Rattle.tree_index.proofs.Carried.{empty_stands_none}
use Rattle.tree_index.proofs.Emptying.{at_kept, found_then, is_kept, no_damage, stands_cleared, was_past, Cleared, WasPast}
use Rattle.tree_index.proofs.Opened.{again_only, is_past_write, past_only, told_wider}
use Rattle.tree_index.proofs.Opening.{finds_none}
use Rattle.tree_index.proofs.index.Index.open.Goals as goal

pub returns-in_err-index : goal.returns-in_err-index
returns-in_err-index g c =
    let old = g.F.Folder.disk c.args.folder.now in
    let new = g.F.Folder.disk c.load.new.folder in
    let stem : Stem = View c.args.sig in
    let count = c.args.views in
    let newest = c.args.newest in
    record {
      fresh = search rules;
      found = finds_none stem c.from_residual.result (IsFound stem count newest) old new _ c.from_residual.ensures.0 c.load.ensures.files;
      stands = λ functions views picture holds. told_map old new _ _
          (λ a b moved. moves_wider (IsFileOf stem) (IsFileOf stem) (λ image. Stands functions views stem image picture) (λ image. Stands functions views stem image picture ⊎ Stands functions views stem image (up_to newest picture))
          _ _ a b (λ n is. is) (λ image framed. inl framed.inside) (λ others ended. failed_open c.from_residual.result (λ index. length views ≡ count → IsAt functions views index b.now (up_to newest picture)) c.from_residual.ensures.0) moved)
          (c.load.ensures.stands functions views picture holds);
      wanting = λ functions views picture holds wanted. let was : c.load.result ≡ Err NoMemory = search rules in told_now new _ _ (λ d there. inl there) (c.load.ensures.wanting functions views picture holds was);
      sound = λ functions views picture number. told_now old _ _ (λ d never holds n at failed. let was : c.load.result ≡ Err (Store (Damaged n at)) = search rules in never holds n at was) (c.load.ensures.sound functions views picture number);
      damaged = told_now old _ _ (λ d damaged n at failed. let was : c.load.result ≡ Err (Store (Damaged n at)) = search rules in damaged n at was) c.load.ensures.damaged;
      files = told_wider stem (IsPastWrite stem count newest) old new c.load.ensures.files;
      left = told_map old new _ _ (λ a b left n at failed. let was : c.load.result ≡ Err (Store (Damaged n at)) = search rules in left n at was) c.load.ensures.left;
      faults = search rules;
      cause = search rules;
      reads = search rules;
    }

pub returns-then-index-newest : goal.returns-then-index-newest
returns-then-index-newest g c =
    let old = g.F.Folder.disk c.args.folder.now in
    let new = g.F.Folder.disk c.load.new.folder in
    let stem : Stem = View c.args.sig in
    let count = c.args.views in
    let newest = c.args.newest in
    let index : Index = c.in_ok-index.index in
    record {
      fresh = c.in_ok-index.ensures.fresh;
      found = told_map old new (λ a b. IsLoaded stem count a.now b.now index) _ (λ a b loaded. is_kept stem count newest index a.now b.now c.if-index-newest.true loaded) c.in_ok-index.ensures.found;
      stands = λ functions views picture holds. told_map old new (Moves (IsFileOf stem) (λ image. Stands functions views stem image picture) (λ files. length views ≡ count → IsAt functions views index files picture)) _
          (λ a b moved. moves_wider (IsFileOf stem) (IsFileOf stem) (λ image. Stands functions views stem image picture) (λ image. Stands functions views stem image picture ⊎ Stands functions views stem image (up_to newest picture))
          (λ files. length views ≡ count → IsAt functions views index files picture) (λ files. length views ≡ count → IsAt functions views index files (up_to newest picture)) a b (λ n is. is) (λ image framed. inl framed.inside)
          (λ others ended number. at_kept functions views newest index b.now picture c.if-index-newest.true (ended number)) moved)
          (c.in_ok-index.ensures.stands functions views picture holds);
      wanting = λ functions views picture holds wanted. let no : ⊥ = search rules in absurd no;
      sound = λ functions views picture number. told_all old _ (λ d holds n at failed. let no : ⊥ = search rules in no);
      damaged = told_all old _ (λ d n at failed. let no : ⊥ = search rules in absurd no);
      files = told_wider stem (IsPastWrite stem count newest) old new c.load.ensures.files;
      left = told_map old new _ _ (λ a b moved n at failed. let no : ⊥ = search rules in absurd no) c.load.ensures.files;
      faults = search rules;
      cause = search rules;
      reads = search rules;
    }

-- what was loaded, with what a crash left meanwhile
loaded_standing : (stem : Stem) (count : ℕ) (index : Index) (functions : Option Functions) (views : List ViewOf) (picture : Option Picture) (old mid : Option (Disk FileName)) (ends : (FileName → File) → Type 0)
    → Tells old mid (λ a b. IsLoaded stem count a.now b.now index) → Tells old mid (Moves (IsFileOf stem) (λ image. Stands functions views stem image picture) ends)
    → Tells old mid (λ a b. Moves (IsFileOf stem) (λ image. Stands functions views stem image picture) (λ files. IsLoaded stem count a.now files index) a b)
loaded_standing stem count index functions views picture old mid ends loaded moves =
    told_both old mid (λ a b. IsLoaded stem count a.now b.now index) (Moves (IsFileOf stem) (λ image. Stands functions views stem image picture) ends) _
    (λ a b is moved. record { moments = moved.moments; others = moved.others; ended = is }) loaded moves

pub returns-in_err-clear : goal.returns-in_err-clear
returns-in_err-clear g c =
    let old = g.F.Folder.disk c.args.folder.now in
    let mid = g.F.Folder.disk c.load.new.folder in
    let cut = g.F.Folder.disk c.clear.new.folder in
    let stem : Stem = View c.args.sig in
    let count = c.args.views in
    let newest = c.args.newest in
    let index : Index = c.in_ok-index.index in
    let named : stem_of index ≡ stem = c.in_ok-index.ensures.fresh.named in
    let past : newest < seq_of index = omega (arith, c.if-index-newest.false) in
    let clears : Tells mid cut (Empties (name_of (file_of index)) c.clear.result) = subst (λ (n : FileName). Tells mid cut (Empties n c.clear.result)) c.name.ensures c.clear.ensures.disk in
    let files = told_then old mid cut (λ a b. IsLoaded stem count a.now b.now index × OnlyOpens stem (λ files. ⊥) a b) (Empties (name_of (file_of index)) c.clear.result) (OnlyOpens stem (IsPastWrite stem count newest)) (past_only stem count newest index named past c.clear.result)
    (told_both old mid (λ a b. IsLoaded stem count a.now b.now index) (OnlyOpens stem (λ files. ⊥)) (λ a b. IsLoaded stem count a.now b.now index × OnlyOpens stem (λ files. ⊥) a b) (λ a b loaded moved. (loaded, moved)) c.in_ok-index.ensures.found c.load.ensures.files) clears in
    record {
      fresh = search rules;
      found = finds_none stem c.from_residual-in_err-clear.result (IsFound stem count newest) old cut _ c.from_residual-in_err-clear.ensures.0 files;
      stands = λ functions views picture holds. told_map old cut (Cleared stem count newest index named past c.clear.result functions views picture) _
          (λ a b moved. record { moments = moved.moments; others = moved.others; ended = failed_open c.from_residual-in_err-clear.result (λ index. length views ≡ count → IsAt functions views index b.now (up_to newest picture)) c.from_residual-in_err-clear.ensures.0 })
          (stands_cleared stem count newest index named past c.clear.result functions views picture old mid cut holds
          (loaded_standing stem count index functions views picture old mid _ c.in_ok-index.ensures.found (c.in_ok-index.ensures.stands functions views picture holds)) clears);
      wanting = λ functions views picture holds wanted. let no : ⊥ = search rules in absurd no;
      sound = λ functions views picture number. told_all old _ (λ d holds n at failed. let no : ⊥ = search rules in no);
      damaged = told_all old _ (λ d n at failed. let no : ⊥ = search rules in absurd no);
      files = files;
      left = told_map old cut _ _ (λ a b moved n at failed. let no : ⊥ = search rules in absurd no) files;
      faults = search rules;
      cause = search rules;
      reads = search rules;
    }

pub returns : goal.returns
returns g c =
    let old = g.F.Folder.disk c.args.folder.now in
    let mid = g.F.Folder.disk c.load.new.folder in
    let cut = g.F.Folder.disk c.clear.new.folder in
    let new = g.F.Folder.disk c.load-2.new.folder in
    let stem : Stem = View c.args.sig in
    let count = c.args.views in
    let newest = c.args.newest in
    let index : Index = c.in_ok-index.index in
    let named : stem_of index ≡ stem = c.in_ok-index.ensures.fresh.named in
    let past : newest < seq_of index = omega (arith, c.if-index-newest.false) in
    let clears : Tells mid cut (Empties (name_of (file_of index)) c.clear.result) = subst (λ (n : FileName). Tells mid cut (Empties n c.clear.result)) c.name.ensures c.clear.ensures.disk in
    let done : (P : Type 0) → OnOk c.clear.result P → P = λ P ended. on_ok c.clear.result c.in_ok-clear.field-0 P c.in_ok-clear.was ended in
    let shown : Tells old cut (λ a b. WasPast stem count newest index named past c.clear.result a.now b.now) = was_past stem count newest index named past c.clear.result old mid cut c.in_ok-index.ensures.found clears in
    let empty : IfTold cut (λ d. AreEmpty stem d.now) = told_after old cut (λ d. Unit {0}) _ (λ a b. WasPast stem count newest index named past c.clear.result a.now b.now) (λ a b is was. done (AreEmpty stem b.now) was.empty) (told_all old (λ d. Unit {0}) (λ d. tt)) shown in
    let empty_of : (functions : Option Functions) (views : List ViewOf) → IfTold cut (λ d. HoldsIndex functions views stem d.now None) = λ functions views. told_now cut (λ d. AreEmpty stem d.now) _ (λ d none. empty_stands_none functions views stem d.now none) empty in
    let files = told_then old mid cut (λ a b. IsLoaded stem count a.now b.now index × OnlyOpens stem (λ files. ⊥) a b) (Empties (name_of (file_of index)) c.clear.result) (OnlyOpens stem (IsPastWrite stem count newest)) (past_only stem count newest index named past c.clear.result)
    (told_both old mid (λ a b. IsLoaded stem count a.now b.now index) (OnlyOpens stem (λ files. ⊥)) (λ a b. IsLoaded stem count a.now b.now index × OnlyOpens stem (λ files. ⊥) a b) (λ a b loaded moved. (loaded, moved)) c.in_ok-index.ensures.found c.load.ensures.files) clears in
    let gone : (functions : Option Functions) (views : List ViewOf) (picture : Option Picture) → IfTold old (λ d. HoldsIndex functions views stem d.now picture) → Tells old cut (Cleared stem count newest index named past c.clear.result functions views picture) = λ functions views picture holds.
    stands_cleared stem count newest index named past c.clear.result functions views picture old mid cut holds
    (loaded_standing stem count index functions views picture old mid _ c.in_ok-index.ensures.found (c.in_ok-index.ensures.stands functions views picture holds)) clears in
    let never : IfTold old (λ d. FindsDamage (λ name at. ⊥) c.load-2.result) =
    told_back old cut _ (λ d. FindsDamage (λ name at. ⊥) c.load-2.result) (OnlyOpens stem (IsPastWrite stem count newest)) (λ a b moved sound. sound) files
    (told_pair cut (λ d. AreEmpty stem d.now) (λ d. FindsDamage (IsDamagedAt stem count d.now) c.load-2.result) _ (λ d none damaged n at failed. no_damage stem count d.now n at none (damaged n at failed)) empty c.load-2.ensures.damaged) in
    let all : Tells old new (OnlyOpens stem (IsPastWrite stem count newest)) =
    told_then old cut new (λ a b. WasPast stem count newest index named past c.clear.result a.now b.now × OnlyOpens stem (IsPastWrite stem count newest) a b) (OnlyOpens stem (λ files. ⊥)) (OnlyOpens stem (IsPastWrite stem count newest))
    (λ a b d was again. again_only stem (IsPastWrite stem count newest) a b d was.0.shows.fit (is_past_write stem count newest index named past a.now was.0.loaded was.0.shows) (done (AreEmpty stem b.now) was.0.empty) was.1 again)
    (told_both old cut (λ a b. WasPast stem count newest index named past c.clear.result a.now b.now) (OnlyOpens stem (IsPastWrite stem count newest)) (λ a b. WasPast stem count newest index named past c.clear.result a.now b.now × OnlyOpens stem (IsPastWrite stem count newest) a b) (λ a b was moved. (was, moved)) shown files)
    c.load-2.ensures.files in
    record {
      fresh = c.load-2.ensures.fresh;
      found = told_then old cut new (λ a b. WasPast stem count newest index named past c.clear.result a.now b.now) (λ a b. IfOk c.load-2.result (IsLoaded stem count a.now b.now)) _
          (λ a b d was second. found_then stem count newest index past a.now was.loaded b.now d.now was.shows (done (AreEmpty stem b.now) was.empty) c.load-2.result second)
          shown c.load-2.ensures.found;
      stands = λ functions views picture holds. told_then old cut new (Cleared stem count newest index named past c.clear.result functions views picture)
          (Moves (IsFileOf stem) (λ image. Stands functions views stem image None) (λ files. IfOk c.load-2.result (λ index. length views ≡ count → IsAt functions views index files None))) _
          (λ a b d clearing opened. moves_then (IsFileOf stem) (λ image. Stands functions views stem image picture ⊎ Stands functions views stem image (up_to newest picture)) (λ image. Stands functions views stem image None)
          (λ image. Stands functions views stem image picture ⊎ Stands functions views stem image (up_to newest picture))
          (λ files. OnOk c.clear.result (HoldsIndex functions views stem files None) × (up_to newest picture ≡ None)) (λ files. IfOk c.load-2.result (λ index. length views ≡ count → IsAt functions views index files None))
          (λ files. IfOk c.load-2.result (λ index. length views ≡ count → IsAt functions views index files (up_to newest picture))) a b d
          (λ image either. either)
          (λ ended image none. inr (subst (λ (p : Option Picture). Stands functions views stem image p) (sym ended.1) none))
          (λ ended at. subst (λ (p : Option Picture). IfOk c.load-2.result (λ index. length views ≡ count → IsAt functions views index d.now p)) (sym ended.1) at)
          clearing opened)
          (gone functions views picture holds) (c.load-2.ensures.stands functions views None (empty_of functions views));
      wanting = λ functions views picture holds wanted.
          told_after old new (λ d. Unit {0}) _ (λ a b. (up_to newest picture ≡ None) × HoldsIndex functions views stem b.now None)
          (λ a b is told. inr (subst (λ (p : Option Picture). HoldsIndex functions views stem b.now p) (sym told.0) told.1)) (told_all old (λ d. Unit {0}) (λ d. tt))
          (told_end old new (λ a b. up_to newest picture ≡ None) (λ d. HoldsIndex functions views stem d.now None)
          (told_then old cut new (Cleared stem count newest index named past c.clear.result functions views picture) (OnlyOpens stem (λ files. ⊥)) (λ a b. up_to newest picture ≡ None) (λ a b d cleared moved. cleared.ended.1) (gone functions views picture holds) c.load-2.ensures.files)
          (c.load-2.ensures.wanting functions views None (empty_of functions views) wanted));
      sound = λ functions views picture number. told_now old _ _ (λ d never holds. never) never;
      damaged = told_now old _ _ (λ d never n at failed. absurd (never n at failed)) never;
      files = all;
      left = told_given old new _ _ _ (λ a b never moved n at failed. absurd (never n at failed)) never all;
      faults = search rules;
      cause = search rules;
      reads = search rules;
    }
