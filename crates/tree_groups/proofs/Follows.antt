-- What bringing the index of a design up to date comes to: its opening, and the update of what is open then.
use Rattle.std.specs.Prelude.{◌≡◌, ◌≢◌, ◌⊎◌, ◌<◌, ℕ, List, length, None, Option, Some, Result, Ok, Err, IfErr, IfOk, OnOk, All, Contains, slice_get, slice_index_or, refl}
use Rattle.std.proofs.Common.{ap, sym, ◌∙◌, subst, inl, inr, ⊎_elim, arith}
use Rattle.std.proofs.lemmas.List.{get_or-set_other, length-set}
use Rattle.json_terms.specs.Json.{Json}
use Rattle.view_ports.specs.Disk.{Disk, IfTold, Moves, OthersStay, Tells}
use Rattle.view_ports.specs.Faults.{Rose}
use Rattle.view_ports.specs.File.{File}
use Rattle.view_ports.specs.declared.file_name.FileName.{FileName}
use Rattle.view_ports.specs.declared.file_name.Stem.{Stem}
use Rattle.view_ports.specs.declared.file_name.Stem.TheVariants.{Docs as DocsStem, View}
use Rattle.view_ports.specs.declared.folder.Folder.{Ghosts as Folders}
use Rattle.view_ports.specs.declared.servers.Servers.{Ghosts as Servers}
use Rattle.view_ports.proofs.DiskRuns.{moves_none, moves_then}
use Rattle.view_ports.proofs.Moments.{weaker}
use Rattle.view_ports.proofs.Told.{told_after, told_all, told_back, told_given, told_map, told_now, told_refl, told_then}
use Rattle.gate_file.specs.declared.fault.GateFault.{GateFault}
use Rattle.gate_file.specs.declared.fault.GateFault.TheVariants.{Damaged, DiskFault, Full}
use Rattle.gate_file.specs.GateFile.{commits_of, length_of, name_of, root_of}
use Rattle.gate_file.proofs.Stretches.{told_end}
use Rattle.design_docs.specs.declared.design.Design.{Design}
use Rattle.design_docs.specs.History.{Write}
use Rattle.doc_file.specs.declared.docs.Docs.{Docs}
use Rattle.doc_file.specs.Changes.{IsSpoiledAfter}
use Rattle.doc_file.specs.Docs.{bytes_in, entries_of, file_of as documents_file, seq_of as documents_seq, IsAt as AreDocumentsAt, IsDocsFile, IsLoaded as AreLoaded}
use Rattle.doc_file.specs.Held.{HoldsRoot}
use Rattle.child_pool.specs.declared.pool.Pool.{Pool}
use Rattle.child_pool.specs.declared.pool_fault.PoolFault.{PoolFault}
use Rattle.child_pool.specs.declared.pool_fault.PoolFault.TheVariants.{ServerFault, UnknownLanguage}
use Rattle.node_file.specs.declared.cache.NodeCache.{NodeCache}
use Rattle.view_model.specs.Picture.{Picture}
use Rattle.row_exchange.specs.declared.doc_rows.DocRows.{DocRows}
use Rattle.change_mapper.specs.declared.fault.MappingFault.{MappingFault}
use Rattle.change_mapper.specs.Written.{documents_since, IsBodyDamaged}
use Rattle.tree_index.specs.declared.fault.IndexFault.{IndexFault}
use Rattle.tree_index.specs.declared.fault.IndexFault.TheVariants as fault_of
use Rattle.tree_index.specs.declared.index.Index.{Index}
use Rattle.tree_index.specs.Calls.{IsOpen}
use Rattle.tree_index.specs.Held.{IsDamagedAt, IsFileOf, OnlyOpens}
use Rattle.tree_index.specs.Index.{file_of, seq_of, stem_of}
use Rattle.tree_index.specs.Opens.{FindsDamage, IsOpenFault, IsPastWrite}
use Rattle.tree_updater.specs.declared.fault.UpdateFault.{UpdateFault}
use Rattle.tree_updater.specs.declared.fault.UpdateFault.TheVariants.{Docs as OfDocuments, Index as OfIndex, NoMemory, Pool as OfPool}
use Rattle.tree_updater.specs.Asking.{HasAskedFor, IsMetBy, ThenReduces}
use Rattle.tree_updater.specs.Faults.{by_index, by_pool}
use Rattle.tree_updater.specs.Filled.{IsFilled, WasDue}
use Rattle.tree_updater.specs.Follows.{AsksSince as AsksIndex, FindsNone, Follows as FollowsIndex, IsBadNodeOf, IsFileFault, IsOfDisk, IsSpared}
use Rattle.tree_updater.specs.Sides.{Side as IndexSide}
use Rattle.tree_updater.specs.Updates.{IsReached as IsReachedIndex}
use Rattle.tree_updater.proofs.Follows.{follows as index_follows}
use Rattle.tree_groups.specs.declared.groups.Groups.{Groups}
use Rattle.tree_groups.specs.Brings.{placed, Brings, FailsToOpen, OpensThenUpdates}
use Rattle.tree_groups.specs.Follows.{AsksSince, Follows, HasAsked, IsDamaged, IsIdleEnd, IsMappedTo, IsUnasked}
use Rattle.tree_groups.specs.Groups.{open_of, AreAt, AreOpen, IsGroup, OpensOnly, StayOpen}
use Rattle.tree_groups.specs.Openings.{IsFit, OpensGroup}
use Rattle.tree_groups.specs.Pictures.{Kinds, Pictures}
use Rattle.tree_groups.specs.Reached.{picture_for, sig_of, views_in, IsReached}
use Rattle.tree_groups.specs.Sides.{of_index, side, Side}
use Rattle.tree_groups.specs.Updating.{UpdatesAt}
use Rattle.tree_groups.proofs.Bringing.{documents_still, fit_of, group, here, known_before, named, placed_all, refused, unplaced, within}
use Rattle.tree_groups.proofs.Opening.{damaged_of}
use Rattle.tree_groups.proofs.Places.{none_close, one_index}
use Rattle.tree_groups.proofs.Standing.{open_still}

-- ---- documents

-- the bytes of the documents' file stay where files of indexes change, and so does what they hold
own_still : (docs : Docs) (files files' : FileName → File) → ((n : FileName) → n.stem ≡ DocsStem → files' n ≡ files n) → IsDocsFile (name_of (documents_file docs)) → bytes_in docs files' ≡ bytes_in docs files
own_still docs files files' same own = ap (λ (file : File). file.seen) (same (name_of (documents_file docs)) own)

loaded_still : (docs : Docs) (files files' : FileName → File) → ((n : FileName) → n.stem ≡ DocsStem → files' n ≡ files n) → IsDocsFile (name_of (documents_file docs)) → AreLoaded docs files → AreLoaded docs files'
loaded_still docs files files' same own loaded =
    subst (λ (bytes : List ℕ). HoldsRoot (root_of (documents_file docs)) (commits_of (documents_file docs)) bytes (documents_seq docs) (entries_of docs)) (sym (own_still docs files files' same own)) loaded

body_before : (docs : Docs) (files files' : FileName → File) (name : FileName) (at : ℕ) → ((n : FileName) → n.stem ≡ DocsStem → files' n ≡ files n) → IsDocsFile (name_of (documents_file docs)) → IsBodyDamaged docs files' name at → IsBodyDamaged docs files name at
body_before docs files files' name at same own damage = (damage.0, damage.1, subst (λ (bytes : List ℕ). IsSpoiledAfter docs bytes damage.1 at) (own_still docs files files' same own) damage.2)

-- ---- results

abbrev unopened : IndexFault → Result ℕ IndexFault
unopened fault = Err fault

abbrev opened_at : ℕ → Result ℕ IndexFault
opened_at place = Ok place

idle_placed : (place : ℕ) (result : Result (Unit {0}) UpdateFault) → result ≡ Ok tt → IsIdleEnd (placed place result)
idle_placed place result is = subst (λ (r : Result (Unit {0}) UpdateFault). IsIdleEnd (placed place r)) (sym is) tt

file_placed : (place : ℕ) (result : Result (Unit {0}) UpdateFault) → IfErr result IsFileFault → IfErr (placed place result) IsFileFault
file_placed place (Ok done) file = tt
file_placed place (Err fault) file = file

spared_by : (place : ℕ) (result : Result (Unit {0}) UpdateFault) → IsSpared (placed place result) → IsSpared result
spared_by place (Ok done) spared = tt
spared_by place (Err fault) spared = spared

none_placed : (place : ℕ) (result : Result (Unit {0}) UpdateFault) → FindsNone result → FindsNone (placed place result)
none_placed place result none = λ name k. (λ is. (none name k).0 (unplaced place result (OfDocuments (Damaged name k)) is), λ is. (none name k).1 (unplaced place result (OfIndex (fault_of.Store (Damaged name k))) is))

met_placed : (place : ℕ) (reduced : Result (Unit {0}) PoolFault) (result : Result (Unit {0}) UpdateFault) → IsMetBy reduced result → IsMetBy reduced (placed place result)
met_placed place (Ok done) (Ok well) met = λ fault is. let no : ⊥ = cc in absurd no
met_placed place (Ok done) (Err e) met = λ fault is.
    let same : e ≡ by_pool fault = cc in
    let want = met fault (ap (λ x. Err x) same) in
    let is_want : e ≡ NoMemory = cc in
    ap (λ x. Err x) is_want
met_placed place (Err fault) result met = ap (placed place) met

module _ {C : Type 0} (s : Servers C) (servers servers' : C) (pool pool' : Pool) (design : Design) (place : ℕ) (result : Result (Unit {0}) UpdateFault) where
  reduced_placed : (between : C) (pool_between : Pool) (mapped : Result (List DocRows) MappingFault) → ThenReduces s servers servers' pool pool' design between pool_between mapped result
      → ThenReduces s servers servers' pool pool' design between pool_between mapped (placed place result)
  reduced_placed between pool_between (Err fault) is = (ap (placed place) is.0, is.1, is.2)
  reduced_placed between pool_between (Ok rows) is = (is.0, is.1, met_placed place is.0 result is.2)

  asked_placed : (documents : List (List (List ℕ × Json))) → HasAskedFor s servers servers' pool pool' design documents result → HasAskedFor s servers servers' pool pool' design documents (placed place result)
  asked_placed documents asked = record {
    between = asked.between;
    pool_between = asked.pool_between;
    mapped = asked.mapped;
    maps = asked.maps;
    keeps = asked.keeps;
    later = asked.later;
    twice = asked.twice;
    reduces = reduced_placed asked.between asked.pool_between asked.mapped asked.reduces;
  }

-- ---- what refuses an opening

module _ (fault : IndexFault) where
  open_idle : IsOpenFault fault → IsIdleEnd (refused (by_index fault))
  open_idle (inl disk) = subst (λ (e : IndexFault). IsIdleEnd (refused (by_index e))) (sym disk) tt
  open_idle (inr (inl want)) = subst (λ (e : IndexFault). IsIdleEnd (refused (by_index e))) (sym want) tt
  open_idle (inr (inr damage)) = subst (λ (e : IndexFault). IsIdleEnd (refused (by_index e))) (sym damage.2) tt

  open_file : IsOpenFault fault → IsFileFault (by_index fault)
  open_file (inl disk) = subst (λ (e : IndexFault). IsFileFault (by_index e)) (sym disk) tt
  open_file (inr (inl want)) = subst (λ (e : IndexFault). IsFileFault (by_index e)) (sym want) tt
  open_file (inr (inr damage)) = subst (λ (e : IndexFault). IsFileFault (by_index e)) (sym damage.2) tt

  -- it is no fault of the documents, nor one of the pool
  no_documents : (reason : GateFault) → IsOpenFault fault → by_index fault ≡ OfDocuments reason → ⊥
  no_documents reason (inl disk) is = let same : OfIndex (fault_of.Store DiskFault) ≡ OfDocuments reason = sym (ap by_index disk) ∙ is in cc
  no_documents reason (inr (inl want)) is = let same : NoMemory ≡ OfDocuments reason = sym (ap by_index want) ∙ is in cc
  no_documents reason (inr (inr damage)) is = let same : OfIndex (fault_of.Store (Damaged damage.0 damage.1)) ≡ OfDocuments reason = sym (ap by_index damage.2) ∙ is in cc

  no_pool : (reason : PoolFault) → IsOpenFault fault → by_index fault ≡ OfPool reason → ⊥
  no_pool reason (inl disk) is = let same : OfIndex (fault_of.Store DiskFault) ≡ OfPool reason = sym (ap by_index disk) ∙ is in cc
  no_pool reason (inr (inl want)) is = let same : NoMemory ≡ OfPool reason = sym (ap by_index want) ∙ is in cc
  no_pool reason (inr (inr damage)) is = let same : OfIndex (fault_of.Store (Damaged damage.0 damage.1)) ≡ OfPool reason = sym (ap by_index damage.2) ∙ is in cc

  -- a fault of the index's files is told as it is
  stored : (reason : GateFault) → IsOpenFault fault → by_index fault ≡ OfIndex (fault_of.Store reason) → fault ≡ fault_of.Store reason
  stored reason (inl disk) is =
      let same : OfIndex (fault_of.Store DiskFault) ≡ OfIndex (fault_of.Store reason) = sym (ap by_index disk) ∙ is in
      let it : DiskFault ≡ reason = cc in
      disk ∙ ap (λ (r : GateFault). fault_of.Store r) it
  stored reason (inr (inl want)) is = let same : NoMemory ≡ OfIndex (fault_of.Store reason) = sym (ap by_index want) ∙ is in let no : ⊥ = cc in absurd no
  stored reason (inr (inr damage)) is =
      let same : OfIndex (fault_of.Store (Damaged damage.0 damage.1)) ≡ OfIndex (fault_of.Store reason) = sym (ap by_index damage.2) ∙ is in
      let it : Damaged damage.0 damage.1 ≡ reason = cc in
      damage.2 ∙ ap (λ (r : GateFault). fault_of.Store r) it

  -- no file is full as it is opened
  open_room : IsOpenFault fault → (name : FileName) (size : Option ℕ) → by_index fault ≡ OfIndex (fault_of.Store (Full name size)) → ⊥
  open_room (inl disk) name size is = let same : OfIndex (fault_of.Store DiskFault) ≡ OfIndex (fault_of.Store (Full name size)) = sym (ap by_index disk) ∙ is in cc
  open_room (inr (inl want)) name size is = let same : NoMemory ≡ OfIndex (fault_of.Store (Full name size)) = sym (ap by_index want) ∙ is in cc
  open_room (inr (inr damage)) name size is = let same : OfIndex (fault_of.Store (Damaged damage.0 damage.1)) ≡ OfIndex (fault_of.Store (Full name size)) = sym (ap by_index damage.2) ∙ is in cc

-- what is full is the index's own file
filled_own : (views : ℕ) (index : Index) (cache cache' : NodeCache) (name : FileName) (size : Option ℕ) → IsFilled views index cache cache' name size → name ≡ name_of (file_of index)
filled_own views index cache cache' name size (inl node) = let same : Full name size ≡ Full (name_of (file_of index)) (Some (length_of (file_of index))) = node.limit in cc
filled_own views index cache cache' name size (inr (inl root)) = let same : Full name size ≡ Full (name_of (file_of index)) (Some (length_of (file_of index))) = root.0 in cc
filled_own views index cache cache' name size (inr (inr spent)) = let same : Full name size ≡ Full (name_of (file_of index)) None = spent.0 in cc

module _ {F C : Type 0} (f : Folders F) (s : Servers C) (docs : Docs) (design : Design) (old : Side F C) where
  abbrev own : List ℕ
  own = sig_of design

  abbrev newest : ℕ
  newest = documents_seq docs

  abbrev Reached : Kinds → List Write → Pictures → Disk FileName → Type 0
  Reached kinds history pictures d = IsReached s old.servers old.pool docs kinds old.groups design history pictures d.now

  -- only files of the index are touched
  abbrev Touched : Disk FileName → Disk FileName → Type 0
  Touched a b = Moves (IsFileOf (View own)) (λ image. Unit {0}) (λ files. Unit {0}) a b

  -- what is damaged of the documents
  abbrev FindsBody : (FileName → File) → {T : Type 0} → Result T UpdateFault → Type 0
  FindsBody files result = IsDocsFile (name_of (documents_file docs)) → AreLoaded docs files → (name : FileName) (at : ℕ) → result ≡ Err (OfDocuments (Damaged name at)) → IsBodyDamaged docs files name at

  -- and of the index
  abbrev FindsIndex : Side F C → Result ℕ UpdateFault → Disk FileName → Disk FileName → Type 0
  FindsIndex new result a b = (name : FileName) (at : ℕ) → result ≡ Err (OfIndex (fault_of.Store (Damaged name at))) → IsFileOf (View own) name × IsDamaged f s docs design old new a b name at

  -- ---- no memory for the signature

  follows_nothing : Follows f s docs design old old (Err NoMemory)
  follows_nothing = record {
    asks = λ kinds history pictures. told_all (f.disk old.folder) (λ d. Reached kinds history pictures d → AsksSince f s docs design old old history pictures (Err NoMemory)) (λ d k. inl ((refl, refl), tt, tt));
    asked = inl ((refl, refl), tt);
    beside = none_close old.groups old.groups (View own) refl;
    only = none_close old.groups old.groups (View own) refl;
    idle = λ place index group last. (inr refl, refl);
    moves = told_refl (f.disk old.folder) Touched (λ d. moves_none (IsFileOf (View own)) (λ image. Unit {0}) (λ files. Unit {0}) d (λ image is. tt) tt);
    is_open = λ are. told_now (f.disk old.folder) (λ d. AreOpen old.groups d.now) (λ d. refused NoMemory ≢ Err (OfIndex (fault_of.Store DiskFault)) → AreOpen old.groups d.now) (λ d all spared. all) are;
    newest = tt;
    file = tt;
    sound = λ kinds history pictures. told_all (f.disk old.folder) (λ d. Reached kinds history pictures d → FindsNone (refused NoMemory)) (λ d k name at. (λ is. cc, λ is. cc));
    read = λ history. told_all (f.disk old.folder) (λ d. AreDocumentsAt docs d.now history → (name : FileName) (at : ℕ) → refused NoMemory ≢ Err (OfDocuments (Damaged name at))) (λ d k name at is. cc);
    body = told_all (f.disk old.folder) (λ d. FindsBody d.now (refused NoMemory)) (λ d own loaded name at is. let no : ⊥ = cc in absurd no);
    damaged = told_refl (f.disk old.folder) (FindsIndex old (refused NoMemory)) (λ d name at is. let no : ⊥ = cc in absurd no);
    full = λ name size is. let no : ⊥ = cc in absurd no;
    filled = λ name size is. let no : ⊥ = cc in absurd no;
    cause = λ told. absurd (⊎_elim (λ is. let no : ⊥ = cc in no) (λ is. let no : ⊥ = cc in no) told);
    still = λ spared. refl;
    later = (omega arith, omega arith);
    keeps = record { languages = refl; width = refl };
    blames = λ is. let no : ⊥ = cc in absurd no;
    unknown = λ is. let no : ⊥ = cc in absurd no;
  }

  module _ (mid_groups : Groups) (mid : F) where
    abbrev between : Side F C
    between = side mid old.servers old.pool mid_groups old.cache old.steps

    -- an opening touches only files of the index
    touched : Tells (f.disk old.folder) (f.disk mid) (OnlyOpens (View own) (IsPastWrite (View own) (views_in design) newest)) → Tells (f.disk old.folder) (f.disk mid) Touched
    touched told = told_map (f.disk old.folder) (f.disk mid) (OnlyOpens (View own) (IsPastWrite (View own) (views_in design) newest)) Touched
        (λ a b moves. record { moments = weaker _ _ a b (λ image framed. record { inside = tt; outside = framed.outside }) moves.moments; others = moves.others; ended = tt }) told

    -- ---- the index could not be opened

    module _ (fault : IndexFault) (opens : OpensGroup own (views_in design) newest f old.groups mid_groups old.folder mid (Err fault)) where
      follows_refused : Follows f s docs design old between (Err (by_index fault))
      follows_refused = record {
        asks = λ kinds history pictures. told_all (f.disk old.folder) (λ d. Reached kinds history pictures d → AsksSince f s docs design old between history pictures (Err (by_index fault)))
            (λ d k. inl ((refl, refl), open_idle fault opens.faults, tt));
        asked = inl ((refl, refl), open_idle fault opens.faults);
        beside = opens.beside;
        only = opens.only;
        idle = λ place index group last. absurd (let no : unopened fault ≡ Ok place = (opens.found place index group).0 in cc);
        moves = touched opens.files;
        is_open = λ are. told_now (f.disk mid) (λ d. AreOpen mid_groups d.now) (λ d. refused (by_index fault) ≢ Err (OfIndex (fault_of.Store DiskFault)) → AreOpen mid_groups d.now) (λ d all spared. all) (opens.is_open are);
        newest = tt;
        file = open_file fault opens.faults;
        sound = λ kinds history pictures. told_now (f.disk old.folder)
            (λ d. AreAt kinds old.groups d.now pictures × IsFit own (views_in design) newest kinds pictures → FindsDamage (λ name at. ⊥) (unopened fault))
            (λ d. Reached kinds history pictures d → FindsNone (refused (by_index fault)))
            (λ d never k name at. (
              λ is. no_documents fault (Damaged name at) opens.faults (let same : by_index fault ≡ OfDocuments (Damaged name at) = cc in same),
              λ is. never (fit_of f s docs design old newest refl kinds history pictures d k) name at
                  (ap unopened (stored fault (Damaged name at) opens.faults (let same : by_index fault ≡ OfIndex (fault_of.Store (Damaged name at)) = cc in same))),
            ))
            (opens.sound kinds pictures);
        read = λ history. told_all (f.disk old.folder) (λ d. AreDocumentsAt docs d.now history → (name : FileName) (at : ℕ) → refused (by_index fault) ≢ Err (OfDocuments (Damaged name at)))
            (λ d k name at is. no_documents fault (Damaged name at) opens.faults (let same : by_index fault ≡ OfDocuments (Damaged name at) = cc in same));
        body = told_all (f.disk old.folder) (λ d. FindsBody d.now (refused (by_index fault)))
            (λ d own loaded name at is. absurd (no_documents fault (Damaged name at) opens.faults (let same : by_index fault ≡ OfDocuments (Damaged name at) = cc in same)));
        damaged = told_given (f.disk old.folder) (f.disk mid) (λ d. FindsDamage (IsDamagedAt (View own) (views_in design) d.now) (unopened fault)) Touched (FindsIndex between (refused (by_index fault)))
            (λ a b found moves name at is.
            let damage = found name at (ap unopened (stored fault (Damaged name at) opens.faults (let same : by_index fault ≡ OfIndex (fault_of.Store (Damaged name at)) = cc in same))) in
            (damaged_of (View own) (views_in design) a.now name at damage, inl damage))
            opens.damaged (touched opens.files);
        full = λ name size is. absurd (open_room fault opens.faults name size (let same : by_index fault ≡ OfIndex (fault_of.Store (Full name size)) = cc in same));
        filled = λ name size is. absurd (open_room fault opens.faults name size (let same : by_index fault ≡ OfIndex (fault_of.Store (Full name size)) = cc in same));
        cause = λ told. ⊎_elim (λ is. absurd (no_documents fault DiskFault opens.faults is)) (λ is. opens.cause.failed (stored fault DiskFault opens.faults is)) told;
        still = λ spared. opens.cause.still (λ is. spared (inr (let disk : fault ≡ fault_of.Store DiskFault = cc in ap by_index disk)));
        later = (opens.cause.later, omega arith);
        keeps = record { languages = refl; width = refl };
        blames = λ is. absurd (no_pool fault ServerFault opens.faults (let same : by_index fault ≡ OfPool ServerFault = cc in same));
        unknown = λ is. absurd (no_pool fault UnknownLanguage opens.faults (let same : by_index fault ≡ OfPool UnknownLanguage = cc in same));
      }

    -- ---- it was opened, and an update was made

    module _ (place : ℕ) (opens : OpensGroup own (views_in design) newest f old.groups mid_groups old.folder mid (Ok place)) (new : Side F C) (result : Result (Unit {0}) UpdateFault) (at : UpdatesAt f s docs design between new place result)
        (its : FollowsIndex f s docs design (of_index between at.before) (of_index new at.after) result) where
      -- the index that is left, and where it was
      left : IsGroup new.groups place own (views_in design) at.after
      left = group f s docs design old newest refl mid_groups mid place opens new result at

      of_own : stem_of at.after ≡ View own
      of_own = named f s docs design old newest refl mid_groups mid place opens new result at

      there : (d : Index) → slice_index_or (open_of mid_groups) place d ≡ at.before
      there d = here f s docs design old newest refl mid_groups mid place opens new result at d

      -- what is so of the new index in this place, and of each other one, is so of all
      all_of : (P : Index → Type 0) → P at.after → ((k : ℕ) (d : Index) → k < length (open_of mid_groups) → stem_of (slice_index_or (open_of mid_groups) k d) ≢ View own → P (slice_index_or (open_of mid_groups) k d)) → All P (open_of new.groups)
      all_of P now each = placed_all f s docs design old newest refl mid_groups mid place opens new result at P now each

      abbrev ReachedIndex : Kinds → List Write → Pictures → Disk FileName → Type 0
      ReachedIndex kinds history pictures d = IsReachedIndex f s docs design (of_index between at.before) (of_index new at.after) (kinds own).functions history (pictures own) d.now

      -- what is known once it is open is known before
      before_of : (kinds : Kinds) (history : List Write) (pictures : Pictures) (N : Type 0) → IfTold (f.disk mid) (λ d. ReachedIndex kinds history pictures d → N) → IfTold (f.disk old.folder) (λ d. Reached kinds history pictures d → N)
      before_of kinds history pictures N after = known_before f s docs design old newest refl mid_groups mid place opens new result at kinds history pictures N after

      -- ---- what was asked

      unasked : of_index new at.after ≡ of_index between at.before → IsUnasked f s docs design old new
      unasked same = (ap (λ (x : IndexSide F C). x.servers) same, ap (λ (x : IndexSide F C). x.pool) same)

      asked_for : (documents : List (List (List ℕ × Json))) → HasAskedFor s old.servers new.servers old.pool new.pool design documents result → HasAsked f s docs design old new documents (placed place result)
      asked_for documents asked = asked_placed s old.servers new.servers old.pool new.pool design place result documents asked

      asks_since : (kinds : Kinds) (history : List Write) (pictures : Pictures) (d : Disk FileName) → AsksIndex f s docs design (of_index between at.before) (of_index new at.after) history result → ReachedIndex kinds history pictures d
          → AsksSince f s docs design old new history pictures (placed place result)
      asks_since kinds history pictures d either reached =
          let seq_is : seq_of at.before ≡ (picture_for design pictures).seq = ap (λ (p : Picture). p.seq) reached.at.last in
          ⊎_elim
          (λ idle. inl (
            unasked idle.1,
            idle_placed place result idle.2,
            subst (λ (r : Result (Unit {0}) UpdateFault). IfOk (placed place r) (λ p. (picture_for design pictures).seq ≡ length history)) (sym idle.2) (sym seq_is ∙ idle.0),
          ))
          (λ some. inr (
            λ same. some.0 (seq_is ∙ same),
            subst (λ (n : ℕ). HasAsked f s docs design old new (documents_since n history) (placed place result)) seq_is (asked_for (documents_since (seq_of at.before) history) some.1),
          ))
          either

      asked_some : ((of_index new at.after ≡ of_index between at.before) × (result ≡ Ok tt)) ⊎ ((documents : List (List (List ℕ × Json))) × HasAskedFor s old.servers new.servers old.pool new.pool design documents result)
          → (IsUnasked f s docs design old new × IsIdleEnd (placed place result)) ⊎ ((documents : List (List (List ℕ × Json))) × HasAsked f s docs design old new documents (placed place result))
      asked_some (inl idle) = inl (unasked idle.0, idle_placed place result idle.1)
      asked_some (inr some) = inr (some.0, asked_for some.0 some.1)

      -- ---- the open indexes

      -- the others stay open: the opening leaves them, and in their places they are as they were
      stay_beside : StayOpen (View own) old.groups new.groups
      stay_beside k d below differs =
          let index = slice_index_or (open_of old.groups) k d in
          let there_still = opens.beside k d below differs in
          let xs = open_of mid_groups in
          let elsewhere : there_still.0 ≡ place → ⊥ = λ same. differs (ap stem_of (sym there_still.2) ∙ ap (λ (m : ℕ). stem_of (slice_index_or xs m index)) same ∙ ap stem_of (there index) ∙ at.there.named) in
          let long = length-set xs place at.after in
          subst (λ (l : List Index). Contains l index) (sym at.placed)
          (there_still.0, omega (arith, long, there_still.1), get_or-set_other xs place there_still.0 at.after index elsewhere ∙ there_still.2)

      -- and no other is open that wasn't: the opening opens none, and in their places they are as they were
      only_it : OpensOnly (View own) old.groups new.groups
      only_it = all_of (λ i. stem_of i ≢ View own → Contains (open_of old.groups) i) (λ differs. absurd (differs of_own)) (λ k d below other differs. opens.only k d below differs)

      -- where it was open, and nothing was written since, nothing is done
      idle_there : (p : ℕ) (index : Index) → IsGroup old.groups p own (views_in design) index → seq_of index ≡ newest → ((placed place result ≡ Ok p) ⊎ (placed place result ≡ Err NoMemory)) × (new ≡ old)
      idle_there p index was last =
          let found = opens.found p index was in
          let in_place : p ≡ place = let ok : opened_at place ≡ Ok p = found.0 in cc in
          let there_too : slice_get (open_of mid_groups) place ≡ Some index = (λ i. slice_get (open_of (found.1 i)) (sym in_place i)) ∙ was.there in
          let it : index ≡ at.before = one_index mid_groups place index at.before there_too at.there.there in
          let still = at.updates.idle (sym (ap seq_of it) ∙ last) in
          let same = still.1 in (
            inl (ap (placed place) still.0 ∙ ap (λ k. Ok k) (sym in_place)),
            λ i. side ((ap (λ (x : IndexSide F C). x.folder) same ∙ found.2) i) ((same i).servers) ((same i).pool) ((at.kept (ap (λ (x : IndexSide F C). x.index) same) ∙ found.1) i) ((same i).cache) ((same i).steps),
          )

      newest_placed : (r : Result (Unit {0}) UpdateFault) → OnOk r (seq_of at.after ≡ newest) → IfOk (placed place r) (λ p. (index : Index) × IsGroup new.groups p own (views_in design) index × (seq_of index ≡ newest))
      newest_placed (Ok done) is = (at.after, left, is)
      newest_placed (Err fault) is = tt

      -- ---- the files

      updated_moves : Tells (f.disk mid) (f.disk new.folder) Touched
      updated_moves = subst (λ (stem : Stem). Tells (f.disk mid) (f.disk new.folder) (Moves (IsFileOf stem) (λ image. Unit {0}) (λ files. Unit {0}))) at.there.named its.moves

      both_move : Tells (f.disk old.folder) (f.disk new.folder) Touched
      both_move = told_then (f.disk old.folder) (f.disk mid) (f.disk new.folder) Touched Touched Touched
          (λ a b c first second. moves_then (IsFileOf (View own)) (λ image. Unit {0}) (λ image. Unit {0}) (λ image. Unit {0}) (λ files. Unit {0}) (λ files. Unit {0}) (λ files. Unit {0}) a b c
          (λ image is. tt) (λ ended image is. tt) (λ early late. tt) first second) (touched opens.files) updated_moves

      placed_open : (files files' : FileName → File) → OthersStay (IsFileOf (View own)) files files' → AreOpen mid_groups files → IsOpen at.after files' → AreOpen new.groups files'
      placed_open files files' others was now = all_of (λ i. IsOpen i files') now
          (λ k d below differs. open_still (slice_index_or (open_of mid_groups) k d) files files' (λ n of_pair. others n (λ is. differs (sym of_pair ∙ is))) (was k d below))

      open_after : IfTold (f.disk old.folder) (λ d. AreOpen old.groups d.now) → IfTold (f.disk new.folder) (λ d. placed place result ≢ Err (OfIndex (fault_of.Store DiskFault)) → AreOpen new.groups d.now)
      open_after are =
          let all : IfTold (f.disk mid) (λ d. AreOpen mid_groups d.now) = opens.is_open are in
          let it : IfTold (f.disk mid) (λ d. IsOpen at.before d.now) = told_now (f.disk mid) (λ d. AreOpen mid_groups d.now) (λ d. IsOpen at.before d.now)
          (λ d each. subst (λ (i : Index). IsOpen i d.now) (there at.before) (each place at.before (within f s docs design old newest refl mid_groups mid place opens new result at))) all in
          told_after (f.disk mid) (f.disk new.folder) (λ d. AreOpen mid_groups d.now) (λ d. placed place result ≢ Err (OfIndex (fault_of.Store DiskFault)) → AreOpen new.groups d.now)
          (λ a b. Touched a b × (result ≢ Err (OfIndex (fault_of.Store DiskFault)) → IsOpen at.after b.now))
          (λ a b each told spared. placed_open a.now b.now told.0.others each (told.1 (λ is. spared (ap (placed place) is)))) all
          (told_end (f.disk mid) (f.disk new.folder) Touched (λ d. result ≢ Err (OfIndex (fault_of.Store DiskFault)) → IsOpen at.after d.now) updated_moves (its.is_open it))

      -- the documents' files stay as it is opened
      abbrev KeepDocuments : Disk FileName → Disk FileName → Type 0
      KeepDocuments a b = (n : FileName) → n.stem ≡ DocsStem → b.now n ≡ a.now n

      documents_kept : Tells (f.disk old.folder) (f.disk mid) KeepDocuments
      documents_kept = told_map (f.disk old.folder) (f.disk mid) Touched KeepDocuments (λ a b moved n of_docs. moved.others n (λ of_view. let no : ⊥ = cc in no)) (touched opens.files)

      read_before : (history : List Write) → IfTold (f.disk mid) (λ d. AreDocumentsAt docs d.now history → (name : FileName) (k : ℕ) → result ≢ Err (OfDocuments (Damaged name k)))
          → IfTold (f.disk old.folder) (λ d. AreDocumentsAt docs d.now history → (name : FileName) (k : ℕ) → placed place result ≢ Err (OfDocuments (Damaged name k)))
      read_before history after = told_back (f.disk old.folder) (f.disk mid) (λ d. AreDocumentsAt docs d.now history → (name : FileName) (k : ℕ) → placed place result ≢ Err (OfDocuments (Damaged name k)))
          (λ d. AreDocumentsAt docs d.now history → (name : FileName) (k : ℕ) → result ≢ Err (OfDocuments (Damaged name k))) KeepDocuments
          (λ a b same never are name k is. never (documents_still docs a.now b.now history same are) name k (unplaced place result (OfDocuments (Damaged name k)) is)) documents_kept after

      found_before : IfTold (f.disk mid) (λ d. AreLoaded docs d.now → (name : FileName) (k : ℕ) → result ≡ Err (OfDocuments (Damaged name k)) → IsBodyDamaged docs d.now name k) → IfTold (f.disk old.folder) (λ d. FindsBody d.now (placed place result))
      found_before after = told_back (f.disk old.folder) (f.disk mid) (λ d. FindsBody d.now (placed place result))
          (λ d. AreLoaded docs d.now → (name : FileName) (k : ℕ) → result ≡ Err (OfDocuments (Damaged name k)) → IsBodyDamaged docs d.now name k) KeepDocuments
          (λ a b same found of_docs loaded name k is.
          body_before docs a.now b.now name k same of_docs (found (loaded_still docs a.now b.now same of_docs loaded) name k (unplaced place result (OfDocuments (Damaged name k)) is))) documents_kept after

      -- a node that is damaged is one of the index that is left
      abbrev FindsNode : Disk FileName → Type 0
      FindsNode d = (name : FileName) (k : ℕ) → result ≡ Err (OfIndex (fault_of.Store (Damaged name k))) → IsBadNodeOf design at.after d name k

      damaged_after : Tells (f.disk old.folder) (f.disk new.folder) (FindsIndex new (placed place result))
      damaged_after = told_map (f.disk old.folder) (f.disk new.folder) (λ a b. Touched a b × FindsNode b) (FindsIndex new (placed place result))
          (λ a b told name k is.
          let bad = told.1 name k (unplaced place result (OfIndex (fault_of.Store (Damaged name k))) is) in
          (ap (λ (n : FileName). n.stem) bad.own ∙ of_own, inr (at.after, (place, left), bad)))
          (told_end (f.disk old.folder) (f.disk new.folder) Touched FindsNode both_move its.node)

      rising : (r : Result (Unit {0}) UpdateFault) → IfErr r (λ fault. IsOfDisk fault → Rose (f.faults mid) (f.faults new.folder)) → IfErr (placed place r) (λ fault. IsOfDisk fault → Rose (f.faults old.folder) (f.faults new.folder))
      rising (Ok done) rose = tt
      rising (Err fault) rose = λ is. let early = opens.cause.later in let rises = rose is in omega (arith, early, rises)

      follows_updated : Follows f s docs design old new (placed place result)
      follows_updated = record {
        asks = λ kinds history pictures. before_of kinds history pictures (AsksSince f s docs design old new history pictures (placed place result))
            (told_now (f.disk mid) (λ d. AreDocumentsAt docs d.now history → AsksIndex f s docs design (of_index between at.before) (of_index new at.after) history result)
            (λ d. ReachedIndex kinds history pictures d → AsksSince f s docs design old new history pictures (placed place result))
            (λ d asks reached. asks_since kinds history pictures d (asks reached.documents) reached) (its.asks history));
        asked = asked_some its.asked;
        beside = stay_beside;
        only = only_it;
        idle = idle_there;
        moves = both_move;
        is_open = open_after;
        newest = newest_placed result its.newest;
        file = file_placed place result its.file;
        sound = λ kinds history pictures. before_of kinds history pictures (FindsNone (placed place result))
            (told_now (f.disk mid) (λ d. ReachedIndex kinds history pictures d → FindsNone result) (λ d. ReachedIndex kinds history pictures d → FindsNone (placed place result))
            (λ d none reached. none_placed place result (none reached)) (its.sound (kinds own).functions history (pictures own)));
        read = λ history. read_before history (its.read history);
        body = found_before its.body;
        damaged = damaged_after;
        full = λ name size is.
            let filled = its.full name size (unplaced place result (OfIndex (fault_of.Store (Full name size))) is) in
            (ap (λ (n : FileName). n.stem) (filled_own (views_in design) at.after old.cache new.cache name size filled) ∙ of_own, (at.after, (place, left), filled));
        filled = λ name size is kinds history pictures. before_of kinds history pictures (WasDue (IsMappedTo f s docs design old new history pictures) old.cache new.cache history (picture_for design pictures))
            (its.filled name size (unplaced place result (OfIndex (fault_of.Store (Full name size))) is) (kinds own).functions history (pictures own));
        cause = rising result its.cause;
        still = λ spared. its.still (spared_by place result spared) ∙ opens.cause.still (λ is. let no : ⊥ = cc in no);
        later = (let early = opens.cause.later in let late = its.later.0 in omega (arith, early, late), its.later.1);
        keeps = its.keeps;
        blames = λ is. its.blames (unplaced place result (OfPool ServerFault) is);
        unknown = λ is. its.unknown (unplaced place result (OfPool UnknownLanguage) is);
      }

-- ---- whatever was done

module _ {F C : Type 0} (f : Folders F) (s : Servers C) (docs : Docs) (design : Design) (old new : Side F C) (result : Result ℕ UpdateFault) where
  -- it was opened, and then updated
  by_updates : OpensThenUpdates f s docs design old new result → Follows f s docs design old new result
  by_updates steps =
      let mid = between f s docs design old steps.between.groups steps.between.folder in
      let same : steps.between ≡ mid = λ i. side steps.between.folder (steps.idle.servers i) (steps.idle.pool i) steps.between.groups (steps.idle.cache i) (steps.idle.steps i) in
      let at : UpdatesAt f s docs design mid new steps.place steps.done = subst (λ (m : Side F C). UpdatesAt f s docs design m new steps.place steps.done) same steps.updates in
      let its = index_follows f s docs design (of_index mid at.before) (of_index new at.after) steps.done at.updates in
      subst (λ (r : Result ℕ UpdateFault). Follows f s docs design old new r) (sym steps.is)
      (follows_updated f s docs design old steps.between.groups steps.between.folder steps.place steps.opens new steps.done at its)

  -- or it could not be opened, or no memory was found for its signature
  by_fault : FailsToOpen f s docs design old new result → Follows f s docs design old new result
  by_fault fails = ⊎_elim
      (λ opens.
      let same : new ≡ between f s docs design old new.groups new.folder = λ i. side new.folder (fails.idle.servers i) (fails.idle.pool i) new.groups (fails.idle.cache i) (fails.idle.steps i) in
      subst (λ (n : Side F C). Follows f s docs design old n result) (sym same)
      (subst (λ (r : Result ℕ UpdateFault). Follows f s docs design old (between f s docs design old new.groups new.folder) r) (sym fails.is) (follows_refused f s docs design old new.groups new.folder fails.fault opens)))
      (λ nothing.
      let want : fails.fault ≡ fault_of.NoMemory = let is : unopened fails.fault ≡ Err fault_of.NoMemory = nothing.0 in cc in
      let same : new ≡ old = λ i. side (nothing.2 i) (fails.idle.servers i) (fails.idle.pool i) (nothing.1 i) (fails.idle.cache i) (fails.idle.steps i) in
      subst (λ (n : Side F C). Follows f s docs design old n result) (sym same)
      (subst (λ (r : Result ℕ UpdateFault). Follows f s docs design old old r) (sym (fails.is ∙ ap (λ (e : IndexFault). refused (by_index e)) want)) (follows_nothing f s docs design old)))
      fails.opens

pub follows : {F C : Type 0} (f : Folders F) (s : Servers C) (docs : Docs) (design : Design) (old new : Side F C) (result : Result ℕ UpdateFault) → Brings f s docs design old new result → Follows f s docs design old new result
follows f s docs design old new result brings = ⊎_elim (by_updates f s docs design old new result) (by_fault f s docs design old new result) brings.steps
