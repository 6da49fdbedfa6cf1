-- What an update comes to follows from what its two parts did: mapping the documents, and writing their rows.
use Rattle.std.specs.Prelude.{◌≡◌, ◌≢◌, ◌⊎◌, ◌≤◌, ◌++◌, ℕ, List, ◌∷◌, length, None, Option, Result, Ok, Err, OnOk}
use Rattle.std.proofs.Common.{refl, sym, ap, ◌∙◌, subst, inl, inr, arith}
use Rattle.std.proofs.lemmas.Bool.{cases_eq}
use Rattle.view_ports.specs.Disk.{Disk, IfTold, Moves, MovesNone, Tells}
use Rattle.view_ports.specs.Faults.{Rose}
use Rattle.view_ports.specs.File.{File}
use Rattle.view_ports.specs.Functions.{Functions}
use Rattle.view_ports.specs.declared.file_name.FileName.{FileName}
use Rattle.view_ports.specs.declared.file_name.Stem.{Stem}
use Rattle.view_ports.specs.declared.folder.Folder.{Ghosts as Folders}
use Rattle.view_ports.specs.declared.servers.Servers.{Ghosts as Servers}
use Rattle.view_ports.proofs.DiskRuns.{moves_none, moves_then, none_same, none_wider}
use Rattle.view_ports.proofs.Told.{told_after, told_all, told_map, told_now, told_pair, told_refl, told_then}
use Rattle.gate_file.specs.declared.fault.GateFault.TheVariants.{Damaged, DiskFault, Full}
use Rattle.gate_file.specs.GateFile.{name_of}
use Rattle.design_docs.specs.declared.design.Design.{Design}
use Rattle.design_docs.specs.History.{Write}
use Rattle.doc_file.specs.declared.docs.Docs.{Docs}
use Rattle.doc_file.specs.Docs.{seq_of as written, IsAt as AreAt, IsLoaded as AreLoaded}
use Rattle.child_pool.specs.declared.pool_fault.PoolFault.TheVariants.{ServerFault, UnknownLanguage}
use Rattle.child_pool.specs.PoolCalls.{StaysAsMade}
use Rattle.node_file.specs.Cache.{gets_of}
use Rattle.node_file.specs.Records.{node_at}
use Rattle.view_model.specs.Picture.{Picture}
use Rattle.row_exchange.specs.declared.doc_rows.DocRows.{DocRows}
use Rattle.index_trees.specs.Exchanges.{IsFaultyIn}
use Rattle.change_mapper.specs.declared.fault.MappingFault.{MappingFault}
use Rattle.change_mapper.specs.declared.fault.MappingFault.TheVariants as mapping
use Rattle.change_mapper.specs.Mapped.{MapsChanges, Outer}
use Rattle.change_mapper.specs.Written.{IsBodyDamaged}
use Rattle.tree_index.specs.declared.fault.IndexFault.{IndexFault}
use Rattle.tree_index.specs.declared.fault.IndexFault.TheVariants.{Store}
use Rattle.tree_index.specs.declared.index.Index.{Index}
use Rattle.tree_index.specs.Calls.{IsOpen}
use Rattle.tree_index.specs.Faults.{UnlessDisk}
use Rattle.tree_index.specs.Held.{or_empty, IsFileOf}
use Rattle.tree_index.specs.Index.{file_of, last_of, picture_of, seq_of, stem_of, IsSame}
use Rattle.tree_index.specs.Opens.{FindsDamage}
use Rattle.tree_updater.specs.declared.fault.UpdateFault.{UpdateFault}
use Rattle.tree_updater.specs.declared.fault.UpdateFault.TheVariants.{Docs as OfDocuments, Index as OfIndex, Pool as OfPool}
use Rattle.tree_updater.specs.Asking.{ThenReduces}
use Rattle.tree_updater.specs.Faults.{by_mapping}
use Rattle.tree_updater.specs.Filled.{AreNodesOf, WasDue}
use Rattle.tree_updater.specs.Follows.{AsksSince, FindsNone, Follows, IsBadNodeOf, IsMappedTo, IsOfDisk}
use Rattle.tree_updater.specs.Sides.{behind, outer_of, IsRolledBack, Side}
use Rattle.tree_updater.specs.Updates.{by_writing, IsReached, MapsThenWrites, ThenWrites, Updates}
use Rattle.tree_updater.specs.Writes.{made_of, IsBadNode, Writes}
use Rattle.tree_updater.proofs.Asked.{asked_since, asked_some, mapping_of_documents, mapping_of_file, mapping_of_no_index, mapping_of_pool, of_no_documents, of_reduce, of_store, later_then, on_err, path_before, reduced_blames, reduced_keeps, reduced_unknown, rose_since, same_fault, stay_then, then_reduced, writing_of_file, writing_rose, writing_still}
use Rattle.tree_updater.proofs.Mapped.{mapped_err, mapped_ok}
use Rattle.tree_updater.proofs.Rolled.{open_back, stem_back}
use Rattle.tree_updater.proofs.Updated.{failed, was_next, was_nodes, was_sound, well}
use Rattle.tree_updater.proofs.Written.{faulty_seen}

module _ {F C : Type 0} (f : Folders F) (s : Servers C) (docs : Docs) (design : Design) (old : Side F C) where
  -- ---- nothing was written since

  was_idle : seq_of old.index ≡ written docs → Follows f s docs design old old well
  was_idle newest = record {
    asks = λ history. told_all (f.disk old.folder) (λ d. AreAt docs d.now history → AsksSince f s docs design old old history well) (λ d at. inl (newest ∙ at.count, refl, refl));
    asked = inl (refl, refl);
    moves = told_refl (f.disk old.folder) (Moves (IsFileOf (stem_of old.index)) (λ image. Unit {0}) (λ files. Unit {0}))
        (λ d. moves_none (IsFileOf (stem_of old.index)) (λ image. Unit {0}) (λ files. Unit {0}) d (λ image left. tt) tt);
    is_open = λ held. told_now (f.disk old.folder) (λ d. IsOpen old.index d.now) (λ d. well ≢ Err (OfIndex (Store DiskFault)) → IsOpen old.index d.now) (λ d is other. is) held;
    newest = newest;
    file = tt;
    sound = λ functions history picture. told_all (f.disk old.folder) (λ d. IsReached f s docs design old old functions history picture d.now → FindsNone well) (λ d is name at. ((λ told. cc), (λ told. cc)));
    read = λ history. told_all (f.disk old.folder) (λ d. AreAt docs d.now history → (name : FileName) (at : ℕ) → well ≢ Err (OfDocuments (Damaged name at))) (λ d is name at told. cc);
    body = told_all (f.disk old.folder) (λ d. AreLoaded docs d.now → (name : FileName) (at : ℕ) → well ≡ Err (OfDocuments (Damaged name at)) → IsBodyDamaged docs d.now name at)
        (λ d loaded name at told. absurd (let clash : ⊥ = cc in clash));
    node = told_all (f.disk old.folder) (λ d. (name : FileName) (at : ℕ) → well ≡ Err (OfIndex (Store (Damaged name at))) → IsBadNodeOf design old.index d name at)
        (λ d name at told. absurd (let clash : ⊥ = cc in clash));
    full = λ name size told. absurd (let clash : ⊥ = cc in clash);
    filled = λ name size told. absurd (let clash : ⊥ = cc in clash);
    cause = tt;
    still = λ spared. refl;
    later = (omega arith, omega arith);
    keeps = record { languages = refl; width = refl };
    blames = λ told. absurd (let clash : ⊥ = cc in clash);
    unknown = λ told. absurd (let clash : ⊥ = cc in clash);
  }

  module _ (rolled : Index) (back : IsRolledBack old.index rolled) (between : Outer F C) (differs : seq_of old.index ≢ written docs) where
    -- ---- the documents couldn't be mapped

    module _ (fault : MappingFault) (maps : MapsChanges f s docs design (seq_of old.index) (outer_of old) between (Err fault)) where
      abbrev after : Side F C
      after = behind between rolled old

      abbrev refusal : Result (Unit {0}) UpdateFault
      refusal = failed (by_mapping fault)

      -- the documents are refused as they were in reading
      refused_as : (name : FileName) (at : ℕ) → refusal ≡ Err (OfDocuments (Damaged name at)) → mapped_err fault ≡ Err (mapping.Docs (Damaged name at))
      refused_as name at told = ap mapped_err (mapping_of_documents fault (Damaged name at) (same_fault (by_mapping fault) (OfDocuments (Damaged name at)) told))

      none_of_index : (met : IndexFault) → refusal ≡ Err (OfIndex met) → ⊥
      none_of_index met told = mapping_of_no_index fault met (same_fault (by_mapping fault) (OfIndex met) told)

      -- the index's files are as they were
      open_still : (a b : Disk FileName) → MovesNone a b → IsOpen old.index a.now → IsOpen rolled b.now
      open_still a b none is =
          open_back old.index rolled back b.now (subst (λ (files : FileName → File). IsOpen old.index files) (let all : a.now ≡ b.now = λ i name. sym (none_same a b none name) i in all) is)

      rose : IsOfDisk (by_mapping fault) → Rose (f.faults old.folder) (f.faults between.folder)
      rose (inl documents) = maps.reads.counted.failed (mapping_of_documents fault DiskFault documents)
      rose (inr index) = absurd (mapping_of_no_index fault (Store DiskFault) index)

      unmapped : Follows f s docs design old after refusal
      unmapped = record {
        asks = asked_since f s docs design old between after (mapped_err fault) refusal maps (refl, refl, refl) differs;
        asked = inr (asked_some f s docs design old between after (mapped_err fault) refusal maps (refl, refl, refl));
        moves = told_map (f.disk old.folder) (f.disk between.folder) MovesNone (Moves (IsFileOf (stem_of old.index)) (λ image. Unit {0}) (λ files. Unit {0}))
            (λ a b none. none_wider (IsFileOf (stem_of old.index)) (λ image. Unit {0}) (λ files. Unit {0}) a b (λ image left. tt) (λ same. tt) none) maps.reads.disk;
        is_open = λ held. told_after (f.disk old.folder) (f.disk between.folder) (λ d. IsOpen old.index d.now) (λ d. refusal ≢ Err (OfIndex (Store DiskFault)) → IsOpen rolled d.now) MovesNone
            (λ a b is none other. open_still a b none is) held maps.reads.disk;
        newest = tt;
        file = mapping_of_file fault maps.reads.faults;
        sound = λ functions history picture. told_now (f.disk old.folder) (λ d. AreAt docs d.now history → (name : FileName) (at : ℕ) → mapped_err fault ≢ Err (mapping.Docs (Damaged name at)))
            (λ d. IsReached f s docs design old after functions history picture d.now → FindsNone refusal)
            (λ d sound is name at. ((λ told. sound is.documents name at (refused_as name at told)), (λ told. none_of_index (Store (Damaged name at)) told))) (maps.reads.sound history);
        read = λ history. told_now (f.disk old.folder) (λ d. AreAt docs d.now history → (name : FileName) (at : ℕ) → mapped_err fault ≢ Err (mapping.Docs (Damaged name at)))
            (λ d. AreAt docs d.now history → (name : FileName) (at : ℕ) → refusal ≢ Err (OfDocuments (Damaged name at)))
            (λ d sound is name at told. sound is name at (refused_as name at told)) (maps.reads.sound history);
        body = told_now (f.disk old.folder) (λ d. AreLoaded docs d.now → (name : FileName) (at : ℕ) → mapped_err fault ≡ Err (mapping.Docs (Damaged name at)) → IsBodyDamaged docs d.now name at)
            (λ d. AreLoaded docs d.now → (name : FileName) (at : ℕ) → refusal ≡ Err (OfDocuments (Damaged name at)) → IsBodyDamaged docs d.now name at)
            (λ d found loaded name at told. found loaded name at (refused_as name at told)) maps.reads.damaged;
        node = told_all (f.disk between.folder) (λ d. (name : FileName) (at : ℕ) → refusal ≡ Err (OfIndex (Store (Damaged name at))) → IsBadNodeOf design rolled d name at)
            (λ d name at told. absurd (none_of_index (Store (Damaged name at)) told));
        full = λ name size told. absurd (none_of_index (Store (Full name size)) told);
        filled = λ name size told. absurd (none_of_index (Store (Full name size)) told);
        cause = rose;
        still = λ spared. maps.reads.counted.still (λ told. spared (inl (ap by_mapping (let same : fault ≡ mapping.Docs DiskFault = cc in same))));
        later = (maps.reads.counted.later, maps.later);
        keeps = maps.keeps;
        blames = λ told. maps.blames (ap mapped_err (mapping_of_pool fault ServerFault (same_fault (by_mapping fault) (OfPool ServerFault) told)));
        unknown = λ told. maps.unknown (ap mapped_err (mapping_of_pool fault UnknownLanguage (same_fault (by_mapping fault) (OfPool UnknownLanguage) told)));
      }

    -- ---- their rows were written

    module _ (rows : List DocRows) (maps : MapsChanges f s docs design (seq_of old.index) (outer_of old) between (Ok rows)) (new : Side F C) (done : Result (Unit {0}) IndexFault)
        (writes : Writes f s design rows (written docs) (behind between rolled old) new done) where
      abbrev mid : Side F C
      mid = behind between rolled old

      abbrev result : Result (Unit {0}) UpdateFault
      result = by_writing done

      -- reading the documents met no fault of the disk
      still_between : f.faults between.folder ≡ f.faults old.folder
      still_between = maps.reads.counted.still (λ told. let clash : ⊥ = cc in clash)

      -- the index's files change as they are written, and no others
      written_moves : Tells (f.disk old.folder) (f.disk new.folder) (Moves (IsFileOf (stem_of old.index)) (λ image. Unit {0}) (λ files. Unit {0}))
      written_moves =
          told_then (f.disk old.folder) (f.disk between.folder) (f.disk new.folder) MovesNone
          (Moves (IsFileOf (stem_of rolled)) (λ image. Unit {0}) (λ files. UnlessDisk done (IsOpen new.index files)))
          (Moves (IsFileOf (stem_of old.index)) (λ image. Unit {0}) (λ files. Unit {0}))
          (λ a b c none moved.
          moves_then (IsFileOf (stem_of old.index)) (λ image. Unit {0}) (λ image. Unit {0}) (λ image. Unit {0}) (λ files. Unit {0}) (λ files. UnlessDisk done (IsOpen new.index files)) (λ files. Unit {0}) a b c
          (λ image left. tt) (λ ended image left. tt) (λ first second. tt)
          (none_wider (IsFileOf (stem_of old.index)) (λ image. Unit {0}) (λ files. Unit {0}) a b (λ image left. tt) (λ same. tt) none)
          (subst (λ (st : Stem). Moves (IsFileOf st) (λ image. Unit {0}) (λ files. UnlessDisk done (IsOpen new.index files)) b c) (stem_back old.index rolled back) moved))
          maps.reads.disk writes.others

      written_open : IfTold (f.disk new.folder) (λ d. result ≢ Err (OfIndex (Store DiskFault)) → IsOpen new.index d.now)
      written_open =
          told_after (f.disk between.folder) (f.disk new.folder) (λ d. Unit {0}) (λ d. result ≢ Err (OfIndex (Store DiskFault)) → IsOpen new.index d.now)
          (Moves (IsFileOf (stem_of rolled)) (λ image. Unit {0}) (λ files. UnlessDisk done (IsOpen new.index files)))
          (λ a b known moved other. moved.ended (λ is. other (ap by_writing is))) (told_all (f.disk between.folder) (λ d. Unit {0}) (λ d. tt)) writes.others

      written_newest : (ended : Result (Unit {0}) IndexFault) → OnOk ended (picture_of new.index ≡ made_of rows (written docs) rolled) → OnOk (by_writing ended) (seq_of new.index ≡ written docs)
      written_newest (Ok value) is = ap (λ (p : Picture). p.seq) is
      written_newest (Err fault) is = tt

      -- a node that fits none of the trees of the last commit fits none of those that the index has
      bad_node : (d : Disk FileName) (name : FileName) (at : ℕ) → done ≡ Err (Store (Damaged name at)) → IsBadNode f s design rows (written docs) mid new d name at → IsBadNodeOf design new.index d name at
      bad_node d name at is bad = record { own = bad.own; bad = by_kind bad.bad }
        where
          by_kind : ((node_at (d.now name).seen at ≡ None) × ((more : List ℕ) × (gets_of new.cache ≡ at ∷ (more ++ gets_of mid.cache)))) ⊎ IsFaultyIn (node_at (d.now name).seen) design.views (last_of rolled) at
              → (node_at (d.now name).seen at ≡ None) ⊎ IsFaultyIn (node_at (d.now name).seen) design.views (last_of new.index) at
          by_kind (inl none) = inl none.0
          by_kind (inr faulty) = inr (faulty_seen (node_at (d.now name).seen) design.views (last_of rolled) (last_of new.index) at (on_err (IsSame rolled new.index) done (Store (Damaged name at)) is writes.kept).last faulty)

      -- the reduces were asked for behind that
      then_asked : ThenReduces s old.servers new.servers old.pool new.pool design between.servers between.pool (mapped_ok rows) result
      then_asked = then_reduced f s design rows (written docs) mid new done writes.asks old.servers old.pool

      reduced : StaysAsMade between.pool new.pool × (s.faults between.servers ≤ s.faults new.servers)
      reduced = reduced_keeps f s design rows (written docs) mid new done writes.asks

      -- it was due
      was_due : (functions : Option Functions) (history : List Write) (picture : Option Picture) → IfTold (f.disk old.folder) (λ d. IsReached f s docs design old new functions history picture d.now
          → WasDue (IsMappedTo f s docs design old new history picture) old.cache new.cache history (or_empty (length design.views) picture))
      was_due functions history picture =
          told_pair (f.disk old.folder) (λ d. IsReached f s docs design old new functions history picture d.now → IsMappedTo f s docs design old new history picture (made_of rows (written docs) rolled))
          (λ d. IsReached f s docs design old new functions history picture d.now → AreNodesOf old.cache new.cache (or_empty (length design.views) picture) (made_of rows (written docs) rolled))
          (λ d. IsReached f s docs design old new functions history picture d.now → WasDue (IsMappedTo f s docs design old new history picture) old.cache new.cache history (or_empty (length design.views) picture))
          (λ d mapped nodes is. record {
            next = made_of rows (written docs) rolled;
            since = λ same. differs (ap (λ (p : Picture). p.seq) is.at.last ∙ same ∙ sym is.documents.count);
            mapped = mapped is;
            nodes = nodes is;
          })
          (was_next f s docs design old rolled back between differs rows maps new done writes functions history picture) (was_nodes f s docs design old rolled back between differs rows maps new done writes functions history picture)

      were_written : Follows f s docs design old new result
      were_written = record {
        asks = asked_since f s docs design old between new (mapped_ok rows) result maps then_asked differs;
        asked = inr (asked_some f s docs design old between new (mapped_ok rows) result maps then_asked);
        moves = written_moves;
        is_open = λ held. written_open;
        newest = written_newest done writes.picture;
        file = writing_of_file (name_of (file_of new.index)) done writes.faults;
        sound = λ functions history picture. told_now (f.disk old.folder) (λ d. IsReached f s docs design old new functions history picture d.now → FindsDamage (λ name at. ⊥) done)
            (λ d. IsReached f s docs design old new functions history picture d.now → FindsNone result)
            (λ d sound is name at. ((λ told. of_no_documents done (Damaged name at) told), (λ told. sound is name at (of_store done (Damaged name at) told))))
            (was_sound f s docs design old rolled back between differs rows maps new done writes functions history picture);
        read = λ history. told_all (f.disk old.folder) (λ d. AreAt docs d.now history → (name : FileName) (at : ℕ) → result ≢ Err (OfDocuments (Damaged name at)))
            (λ d is name at told. of_no_documents done (Damaged name at) told);
        body = told_all (f.disk old.folder) (λ d. AreLoaded docs d.now → (name : FileName) (at : ℕ) → result ≡ Err (OfDocuments (Damaged name at)) → IsBodyDamaged docs d.now name at)
            (λ d loaded name at told. absurd (of_no_documents done (Damaged name at) told));
        node = told_now (f.disk new.folder) (λ d. FindsDamage (IsBadNode f s design rows (written docs) mid new d) done)
            (λ d. (name : FileName) (at : ℕ) → result ≡ Err (OfIndex (Store (Damaged name at))) → IsBadNodeOf design new.index d name at)
            (λ d found name at told. let is = of_store done (Damaged name at) told in bad_node d name at is (found name at is)) writes.damaged;
        full = λ name size told. writes.full name size (of_store done (Full name size) told);
        filled = λ name size told functions history picture. was_due functions history picture;
        cause = writing_rose (f.faults old.folder) (f.faults between.folder) (f.faults new.folder) still_between done writes.cause;
        still = writing_still (f.faults old.folder) (f.faults between.folder) (f.faults new.folder) still_between done writes.cause;
        later = (
          later_then (f.faults old.folder) (f.faults between.folder) (f.faults new.folder) maps.reads.counted.later writes.cause.later,
          later_then (s.faults old.servers) (s.faults between.servers) (s.faults new.servers) maps.later reduced.1,
        );
        keeps = stay_then old.pool between.pool new.pool maps.keeps reduced.0;
        blames = λ told. rose_since (s.faults old.servers) (s.faults between.servers) (s.faults new.servers) maps.later
            (reduced_blames f s design rows (written docs) mid new done writes.asks (of_reduce done ServerFault told));
        unknown = λ told. path_before old.pool between.pool design maps.keeps (reduced_unknown f s design rows (written docs) mid new done writes.asks (of_reduce done UnknownLanguage told));
      }

-- ---- an update

module _ {F C : Type 0} (f : Folders F) (s : Servers C) (docs : Docs) (design : Design) (old new : Side F C) (result : Result (Unit {0}) UpdateFault) where
  by_parts : seq_of old.index ≢ written docs → MapsThenWrites f s docs design old new result → Follows f s docs design old new result
  by_parts differs parts = by_mapped parts.mapped parts.maps parts.writes
    where
      by_mapped : (mapped : Result (List DocRows) MappingFault) → MapsChanges f s docs design (seq_of old.index) (outer_of old) parts.between mapped
          → ThenWrites f s docs design old new parts.between parts.rolled mapped result → Follows f s docs design old new result
      by_mapped (Err fault) maps ends =
          subst (Follows f s docs design old new) (sym ends.0)
          (subst (λ (left : Side F C). Follows f s docs design old left (failed (by_mapping fault))) (sym ends.1) (unmapped f s docs design old parts.rolled parts.back parts.between differs fault maps))
      by_mapped (Ok rows) maps ends =
          subst (Follows f s docs design old new) (sym ends.2) (were_written f s docs design old parts.rolled parts.back parts.between differs rows maps new ends.0 ends.1)

  -- it comes to this
  pub follows : Updates f s docs design old new result → Follows f s docs design old new result
  follows updates = elim (cases_eq (seq_of old.index) (written docs)) [
    | inl same ↦ let left = updates.idle same in
        subst (Follows f s docs design old new) (sym left.0) (subst (λ (there : Side F C). Follows f s docs design old there well) (sym left.1) (was_idle f s docs design old same))
    | inr differs ↦ by_parts differs (updates.due differs)
  ]
