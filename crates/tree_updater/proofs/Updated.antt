-- How an update ends.
use Rattle.std.specs.Prelude.{◌≡◌, ◌≢◌, ◌⊎◌, ◌≤◌, ℕ, List, bytes_eq, map, length, Option, Some, Result, Ok, Err, OnErr, OnOk}
use Rattle.std.specs.List.{IsDistinct}
use Rattle.std.proofs.Common.{refl, sym, ap, ◌∙◌, subst, inl, inr}
use Rattle.raw_collation.specs.Sorting.{sorted_rows}
use Rattle.view_ports.specs.Disk.{Disk, IfTold, IsImageOf, Moves, MovesNone, Tells}
use Rattle.view_ports.specs.File.{File}
use Rattle.view_ports.specs.Functions.{Functions, source_limit}
use Rattle.view_ports.specs.declared.file_name.FileName.{FileName}
use Rattle.view_ports.specs.declared.file_name.Stem.{Stem}
use Rattle.view_ports.specs.declared.folder.Folder.{Ghosts as Folders}
use Rattle.view_ports.specs.declared.servers.Servers.{Ghosts as Servers}
use Rattle.view_ports.proofs.DiskRuns.{moves_none, moves_then, none_same, none_wider}
use Rattle.view_ports.proofs.Told.{told_after, told_all, told_back, told_given, told_now, told_pair, told_still, told_then}
use Rattle.gate_file.specs.declared.fault.GateFault.TheVariants.{DiskFault}
use Rattle.design_docs.specs.declared.design.Design.{Design}
use Rattle.design_docs.specs.History.{Write}
use Rattle.doc_file.specs.declared.docs.Docs.{Docs}
use Rattle.doc_file.specs.Docs.{seq_of as written, IsAt as AreAt, IsLoaded as AreLoaded}
use Rattle.child_pool.specs.declared.pool_fault.PoolFault.TheVariants as pool_fault
use Rattle.reduce_tree.specs.Counts.{node_size}
use Rattle.view_model.specs.Picture.{Picture}
use Rattle.view_model.specs.Update.{IsUpdated}
use Rattle.row_exchange.specs.declared.doc_rows.DocRows.{DocRows}
use Rattle.change_mapper.specs.declared.fault.MappingFault.{MappingFault}
use Rattle.change_mapper.specs.Mapped.{BreaksOff, HasMappedAll, MapsChanges, Outer}
use Rattle.row_exchange.specs.Replaced.{ids_of}
use Rattle.index_trees.proofs.Holding.{trees_are_in_order}
use Rattle.index_trees.specs.Exchanges.{AreShort, PutsWithin}
use Rattle.node_file.specs.Cache.{puts_of}
use Rattle.node_file.specs.Records.{node_at}
use Rattle.gate_file.specs.Pair.{own_bytes}
use Rattle.tree_index.specs.declared.fault.IndexFault.{IndexFault}
use Rattle.tree_index.specs.declared.fault.IndexFault.TheVariants as index_fault
use Rattle.tree_index.specs.declared.index.Index.{Index}
use Rattle.tree_index.specs.Calls.{IsAt}
use Rattle.tree_index.specs.Held.{or_empty, IsFileOf, Stands}
use Rattle.tree_index.specs.Index.{file_of, last_of, picture_of, seq_of, stem_of}
use Rattle.tree_index.specs.Opens.{FindsDamage}
use Rattle.tree_index.proofs.Carried.{index_stands}
use Rattle.tree_updater.specs.declared.fault.UpdateFault.{UpdateFault}
use Rattle.tree_updater.specs.declared.fault.UpdateFault.TheVariants.{Pool as OfPool}
use Rattle.tree_updater.specs.Faults.{by_index, by_mapping}
use Rattle.tree_updater.specs.Filled.{AreNodesOf}
use Rattle.tree_updater.specs.Follows.{IsMappedTo}
use Rattle.tree_updater.specs.Made.{IsMade, IsMapped, IsRefused, IsUpdatedFreely}
use Rattle.tree_updater.specs.Paths.{IsPathOf, OnHonest}
use Rattle.tree_updater.specs.Sides.{behind, outer_of, side, IsRolledBack, Side}
use Rattle.tree_updater.proofs.Each.{told_each}
use Rattle.tree_updater.proofs.Rolled.{at_back, stem_back}
use Rattle.tree_updater.specs.Updates.{by_writing, EndsAt, IsNext, IsReached, IsRefusedRightly, MayBeLeft, StandsAround, Updates}
use Rattle.tree_updater.specs.Writes.{made_of, EndsAt as WritesEnd, IsOver, IsSpoiledBy, IsUsable, StandsAround as WritesAround, Writes}
use Rattle.tree_updater.proofs.Mapped.{complains_rightly, functions_then, given_all, is_freely, is_mapped, path_then, Given}
use Rattle.tree_updater.proofs.Nexts.{no_documents_since, nothing_updated}

abbrev pub well : Result (Unit {0}) UpdateFault
well = Ok tt

abbrev pub failed : UpdateFault → Result (Unit {0}) UpdateFault
failed fault = Err fault

-- ---- an index at a picture

module _ (functions : Option Functions) (design : Design) (index : Index) (files : FileName → File) (picture : Option Picture) (at : IsAt functions design.views index files picture) where
  pub shaped : length (picture_of index).rows ≡ length design.views
  shaped = sym at.trees.number ∙ at.number

  pub in_order : map sorted_rows (picture_of index).rows ≡ (picture_of index).rows
  in_order = trees_are_in_order functions design.views (node_at (own_bytes (file_of index) files)) (last_of index).views.items (last_of index).back (picture_of index).rows at.trees

  -- what a crash leaves of it now
  pub stands_now : (image : FileName → List ℕ) → IsImageOf files image → Stands functions design.views (stem_of index) image picture
  stands_now image left = (index_stands functions design.views index files picture at).images image (λ name own. left name)

  -- it is there still where no file changed
  pub at_still : (later : FileName → File) → ((name : FileName) → later name ≡ files name) → IsAt functions design.views index later picture
  at_still later same = subst (λ (fs : FileName → File). IsAt functions design.views index fs picture) (let all : files ≡ later = λ i name. sym (same name) i in all) at

module _ {F C : Type 0} (f : Folders F) (s : Servers C) (docs : Docs) (design : Design) (old : Side F C) where
  -- ---- nothing was written since

  module _ (newest : seq_of old.index ≡ written docs) where
    module _ (functions : Option Functions) (history : List Write) (picture : Option Picture) (d : Disk FileName) (is : IsReached f s docs design old old functions history picture d.now) where
      same_seq : seq_of old.index ≡ length history
      same_seq = newest ∙ is.documents.count

      idle_next : IsNext f s docs design old old history picture (or_empty (length design.views) picture)
      idle_next path of_path =
          subst (λ (p : Picture). IsMade s.functions s.honest design path history p p) (is.at).last (record {
            mapped = record {
              updated = nothing_updated (s.functions path) (s.honest path × (length design.views ≤ source_limit)) design.views history (picture_of old.index) (shaped functions design old.index d.now picture is.at) same_seq
                  (in_order functions design old.index d.now picture is.at);
              compile = λ honest some. absurd (some (no_documents_since (seq_of old.index) history same_seq));
            };
            reduces = λ honest spoiled. spoiled;
          })

      idle_freely : IsUpdatedFreely design.views history (or_empty (length design.views) picture) (picture_of old.index)
      idle_freely any =
          subst (λ (p : Picture). IsUpdated any ⊥ design.views history p (picture_of old.index)) (is.at).last
          (nothing_updated any ⊥ design.views history (picture_of old.index) (shaped functions design old.index d.now picture is.at) same_seq (in_order functions design old.index d.now picture is.at))

    pub stays : Updates f s docs design old old well
    stays = record {
      idle = λ same. (refl, refl);
      due = λ differs. absurd (differs newest);
      stands = λ functions history picture reached.
          told_still (f.disk old.folder) (λ d. IsReached f s docs design old old functions history picture d.now)
          (Moves (IsFileOf (stem_of old.index)) (StandsAround f s docs design old old history picture functions well) (EndsAt f s docs design old old history picture functions well))
          (λ d is. moves_none (IsFileOf (stem_of old.index)) (StandsAround f s docs design old old history picture functions well) (EndsAt f s docs design old old history picture functions well) d
          (λ image left. inl (stands_now functions design old.index d.now picture is.at image left)) (picture, is.at, idle_next functions history picture d is)) reached;
      freely = λ functions history picture. told_all (f.disk old.folder)
          (λ d. IsReached f s docs design old old functions history picture d.now → IsUpdatedFreely design.views history (or_empty (length design.views) picture) (picture_of old.index))
          (λ d is. idle_freely functions history picture d is);
      spoils = λ is. absurd (let clash : ⊥ = cc in clash);
    }

  -- ---- the documents couldn't be mapped

  module _ (rolled : Index) (back : IsRolledBack old.index rolled) (between : Outer F C) (differs : seq_of old.index ≢ written docs) (fault : MappingFault)
      (maps : MapsChanges f s docs design (seq_of old.index) (outer_of old) between (Err fault)) where
    abbrev after : Side F C
    after = behind between rolled old

    pub unmapped : Updates f s docs design old after (failed (by_mapping fault))
    unmapped = record {
      idle = λ same. absurd (differs same);
      due = λ since. record { rolled = rolled; back = back; between = between; mapped = Err fault; maps = maps; writes = (refl, refl) };
      stands = λ functions history picture reached.
          told_given (f.disk old.folder) (f.disk between.folder) (λ d. IsReached f s docs design old after functions history picture d.now) MovesNone
          (Moves (IsFileOf (stem_of old.index)) (StandsAround f s docs design old after history picture functions (failed (by_mapping fault))) (EndsAt f s docs design old after history picture functions (failed (by_mapping fault))))
          (λ a b is none. none_wider (IsFileOf (stem_of old.index)) (StandsAround f s docs design old after history picture functions (failed (by_mapping fault))) (EndsAt f s docs design old after history picture functions (failed (by_mapping fault))) a b
          (λ image left. inl (stands_now functions design old.index a.now picture is.at image left)) (λ same other. at_back old.index rolled back b.now functions design.views picture (at_still functions design old.index a.now picture is.at b.now same)) none) reached maps.reads.disk;
      freely = λ functions history picture. told_all (f.disk old.folder) (λ d. IsReached f s docs design old after functions history picture d.now → Unit {0}) (λ d is. tt);
      spoils = λ complains functions history picture. told_now (f.disk old.folder) (λ d. AreAt docs d.now history → HasMappedAll f s docs design (seq_of old.index) (outer_of old) between history (Err fault) ⊎ BreaksOff f s docs design (seq_of old.index) (outer_of old) between history (Err fault))
          (λ d. IsReached f s docs design old after functions history picture d.now → IsRefusedRightly f s docs design old after history picture)
          (λ d asks is path of_path honest.
          subst (λ (p : Picture). IsRefused s.functions s.honest design path history p) (is.at).last
          (inl (complains_rightly f s docs design (seq_of old.index) (outer_of old) between history fault (let same : by_mapping fault ≡ OfPool pool_fault.Compile = cc in same) (asks is.documents) path of_path honest))) (maps.asks history);
    }

  -- ---- their rows were written

  module _ (between : Outer F C) (rows : List DocRows) (maps : MapsChanges f s docs design (seq_of old.index) (outer_of old) between (Ok rows)) (new : Side F C)
      (done : Result (Unit {0}) IndexFault) (writes : Writes f s design rows (written docs) (behind between old.index old) new done) where
    abbrev mid : Side F C
    mid = behind between old.index old

    abbrev Reached : Option Functions → List Write → Option Picture → Disk FileName → Type 0
    Reached functions history picture d = IsReached f s docs design old new functions history picture d.now

    -- the path of the design goes on
    path_mid : (path : List ℕ) → IsPathOf s old.servers old.pool design path → IsPathOf s between.servers between.pool design path
    path_mid path is = path_then s old.servers between.servers old.pool between.pool design _ (maps.asked.given).lists (maps.asked.given).mapped path is

    -- what is known of a history, with what the mapping told of it
    pub record Known (functions : Option Functions) (history : List Write) (picture : Option Picture) (d : Disk FileName) : Type 0 where
      pub is : Reached functions history picture d
      pub given : Given f s design (outer_of old) between history is.documents.stored (picture_of old.index) (shaped functions design old.index d.now picture is.at) rows

    abbrev Told : List Write → Type 0
    Told history = HasMappedAll f s docs design (seq_of old.index) (outer_of old) between history (Ok rows) ⊎ BreaksOff f s docs design (seq_of old.index) (outer_of old) between history (Ok rows)

    known_at : (functions : Option Functions) (history : List Write) (picture : Option Picture) (d : Disk FileName) → Reached functions history picture d → (AreAt docs d.now history → Told history) → Known functions history picture d
    known_at functions history picture d is asks = record {
      is = is;
      given = given_all f s docs design (seq_of old.index) (outer_of old) between history (picture_of old.index) refl is.documents.stored (shaped functions design old.index d.now picture is.at) rows (asks is.documents);
    }

    module _ (functions : Option Functions) (history : List Write) (picture : Option Picture) where
      abbrev next : Picture
      next = made_of rows (written docs) old.index

      module _ (d : Disk FileName) (known : Known functions history picture d) where
        next_mapped : (path : List ℕ) → IsPathOf s old.servers old.pool design path → IsMapped s.functions s.honest design path history (or_empty (length design.views) picture) next
        next_mapped path of_path =
            subst (λ (p : Picture). IsMapped s.functions s.honest design path history p next) (known.is.at).last
            (subst (λ (n : ℕ). IsMapped s.functions s.honest design path history (picture_of old.index) (made_of rows n old.index)) (sym known.is.documents.count)
            (is_mapped f s design (outer_of old) between history known.is.documents.stored (picture_of old.index) (shaped functions design old.index d.now picture known.is.at) rows known.given path of_path))

        -- it is one that the update makes, where it isn't spoiled unless the last one is
        is_next : OnHonest s between.servers between.pool design (λ fs. IsSpoiledBy design fs next → IsSpoiledBy design fs (picture_of old.index)) → IsNext f s docs design old new history picture next
        is_next usable path of_path = record {
          mapped = next_mapped path of_path;
          reduces = λ honest spoiled. subst (λ (p : Picture). IsSpoiledBy design (s.functions path) p) (known.is.at).last (usable path (path_mid path of_path) honest spoiled);
        }

        next_freely : IsUpdatedFreely design.views history (or_empty (length design.views) picture) next
        next_freely any =
            subst (λ (p : Picture). IsUpdated any ⊥ design.views history p next) (known.is.at).last
            (subst (λ (n : ℕ). IsUpdated any ⊥ design.views history (picture_of old.index) (made_of rows n old.index)) (sym known.is.documents.count)
            (is_freely f s design (outer_of old) between history known.is.documents.stored (picture_of old.index) (shaped functions design old.index d.now picture known.is.at) rows known.given any))

      over_at : (a b : Disk FileName) → MovesNone a b → Known functions history picture a → (AreLoaded docs a.now → IsDistinct bytes_eq (ids_of rows)) → IsOver s design rows mid functions picture b
      over_at a b none known apart = record {
        by = functions_then s old.servers between.servers old.pool between.pool design _ (maps.asked.given).lists (maps.asked.given).mapped functions known.is.by;
        at = at_still functions design old.index a.now picture known.is.at b.now (none_same a b none);
        apart = apart known.is.documents.is_open.loaded;
        whole = maps.whole;
      }

      -- a picture that is left is one that the update makes
      left_by : (done : Result (Unit {0}) IndexFault) → OnErr done (done ≡ Err (index_fault.Store DiskFault)) → OnOk done (picture_of new.index ≡ next) → MayBeLeft f s docs design old new history picture (by_writing done) next
      left_by (Ok value) may is = sym is
      left_by (Err fault) may is = ap by_index (let same : fault ≡ index_fault.Store DiskFault = cc in same)

      ends_by : (done : Result (Unit {0}) IndexFault) (d : Disk FileName) → Known functions history picture d → OnOk done (IsUsable f s design rows (written docs) mid new) → (files : FileName → File)
          → WritesEnd f s design rows (written docs) mid new functions picture done files → EndsAt f s docs design old new history picture functions (by_writing done) files
      ends_by (Ok value) d known usable files ended = (Some next, ended, is_next d known usable)
      ends_by (Err fault) d known usable files ended = λ other. ended (λ is. other (ap by_index is))

      around : (d : Disk FileName) → Known functions history picture d → (image : FileName → List ℕ) → WritesAround f s design rows (written docs) mid new functions picture done image
          → StandsAround f s docs design old new history picture functions (by_writing done) image
      around d known image (inl stands) = inl stands
      around d known image (inr left) = inr (next, is_next d known left.1, left_by done left.0 writes.picture, left.2)

      abbrev AtFirst : Disk FileName → Type 0
      AtFirst d = Known functions history picture d × (AreLoaded docs d.now → IsDistinct bytes_eq (ids_of rows))

      at_first : IfTold (f.disk old.folder) (Reached functions history picture) → IfTold (f.disk old.folder) AtFirst
      at_first reached =
          told_pair (f.disk old.folder) (Known functions history picture) (λ d. AreLoaded docs d.now → IsDistinct bytes_eq (ids_of rows)) AtFirst (λ d known apart. (known, apart))
          (told_pair (f.disk old.folder) (Reached functions history picture) (λ d. AreAt docs d.now history → Told history) (Known functions history picture) (known_at functions history picture) reached (maps.asks history)) maps.apart

      pub written_stands : IfTold (f.disk old.folder) (Reached functions history picture)
          → Tells (f.disk old.folder) (f.disk new.folder) (Moves (IsFileOf (stem_of old.index)) (StandsAround f s docs design old new history picture functions (by_writing done)) (EndsAt f s docs design old new history picture functions (by_writing done)))
      written_stands reached =
          told_then (f.disk old.folder) (f.disk between.folder) (f.disk new.folder) (λ a b. AtFirst a × MovesNone a b)
          (Moves (IsFileOf (stem_of old.index)) (WritesAround f s design rows (written docs) mid new functions picture done) (WritesEnd f s design rows (written docs) mid new functions picture done))
          (Moves (IsFileOf (stem_of old.index)) (StandsAround f s docs design old new history picture functions (by_writing done)) (EndsAt f s docs design old new history picture functions (by_writing done)))
          (λ a b c first moved.
          moves_then (IsFileOf (stem_of old.index)) (λ image. Stands functions design.views (stem_of old.index) image picture) (WritesAround f s design rows (written docs) mid new functions picture done)
          (StandsAround f s docs design old new history picture functions (by_writing done)) (λ files. Unit {0}) (WritesEnd f s design rows (written docs) mid new functions picture done)
          (EndsAt f s docs design old new history picture functions (by_writing done)) a b c
          (λ image stands. inl stands) (λ ended. around a first.0.0) (λ ended. ends_by done a first.0.0 writes.usable c.now)
          (none_wider (IsFileOf (stem_of old.index)) (λ image. Stands functions design.views (stem_of old.index) image picture) (λ files. Unit {0}) a b
          (stands_now functions design old.index a.now picture first.0.0.is.at) (λ same. tt) first.1) moved)
          (told_given (f.disk old.folder) (f.disk between.folder) AtFirst MovesNone (λ a b. AtFirst a × MovesNone a b) (λ a b known none. (known, none)) (at_first reached) maps.reads.disk)
          (writes.stands functions picture (told_after (f.disk old.folder) (f.disk between.folder) AtFirst (IsOver s design rows mid functions picture) MovesNone (λ a b first none. over_at a b none first.0 first.1) (at_first reached) maps.reads.disk))

      freely_by : (done : Result (Unit {0}) IndexFault) → OnOk done (picture_of new.index ≡ next) → (d : Disk FileName) → Known functions history picture d
          → OnOk (by_writing done) (IsUpdatedFreely design.views history (or_empty (length design.views) picture) (picture_of new.index))
      freely_by (Ok value) is d known = subst (IsUpdatedFreely design.views history (or_empty (length design.views) picture)) (sym is) (next_freely d known)
      freely_by (Err fault) is d known = tt

      pub written_freely : IfTold (f.disk old.folder) (λ d. Reached functions history picture d → OnOk (by_writing done) (IsUpdatedFreely design.views history (or_empty (length design.views) picture) (picture_of new.index)))
      written_freely =
          told_now (f.disk old.folder) (λ d. AreAt docs d.now history → Told history) (λ d. Reached functions history picture d → OnOk (by_writing done) (IsUpdatedFreely design.views history (or_empty (length design.views) picture) (picture_of new.index)))
          (λ d asks is. freely_by done writes.picture d (known_at functions history picture d is asks)) (maps.asks history)

      -- ---- what the documents make, and what is found over it

      -- the next picture is one that they make, whether or not it is committed
      pub written_next : IfTold (f.disk old.folder) (λ d. Reached functions history picture d → IsMappedTo f s docs design old new history picture next)
      written_next =
          told_now (f.disk old.folder) (λ d. AreAt docs d.now history → Told history) (λ d. Reached functions history picture d → IsMappedTo f s docs design old new history picture next)
          (λ d asks is. next_mapped d (known_at functions history picture d is asks)) (maps.asks history)

      -- so many bytes at most has each row and entry of both pictures
      abbrev ShortBoth : Type 0
      ShortBoth = (longest : ℕ) × AreShort longest (picture_of old.index).rows × AreShort longest next.rows

      abbrev PutsShort : ShortBoth → Type 0
      PutsShort both = PutsWithin (node_size both.0) (puts_of old.cache) (puts_of new.cache)

      -- each node that was put is of rows and entries of the two
      pub written_nodes : IfTold (f.disk old.folder) (λ d. Reached functions history picture d → AreNodesOf old.cache new.cache (or_empty (length design.views) picture) next)
      written_nodes =
          told_pair (f.disk old.folder) (λ d. AtFirst d → (both : ShortBoth) → PutsShort both) (λ d. (AreAt docs d.now history → Told history) × (AreLoaded docs d.now → IsDistinct bytes_eq (ids_of rows)))
          (λ d. Reached functions history picture d → AreNodesOf old.cache new.cache (or_empty (length design.views) picture) next)
          (λ d nodes told here.
          let known = known_at functions history picture d here told.0 in
          subst (λ (p : Picture). AreNodesOf old.cache new.cache p next) (known.is.at).last (λ longest last later. nodes (known, told.1) (longest, last, later)))
          (told_back (f.disk old.folder) (f.disk between.folder) (λ d. AtFirst d → (both : ShortBoth) → PutsShort both) (λ d. (both : ShortBoth) → IsOver s design rows mid functions picture d → PutsShort both) MovesNone
          (λ a b none nodes first both. nodes both (over_at a b none first.0 first.1)) maps.reads.disk
          (told_each (f.disk between.folder) (λ (both : ShortBoth) d. IsOver s design rows mid functions picture d → PutsShort both) (λ both. writes.pieces functions picture both.0 (both.1, both.2))))
          (told_pair (f.disk old.folder) (λ d. AreAt docs d.now history → Told history) (λ d. AreLoaded docs d.now → IsDistinct bytes_eq (ids_of rows)) _ (λ d asks apart. (asks, apart)) (maps.asks history) maps.apart)

      -- no node is found damaged
      pub written_sound : IfTold (f.disk old.folder) (λ d. Reached functions history picture d → FindsDamage (λ name at. ⊥) done)
      written_sound =
          told_pair (f.disk old.folder) (λ d. AtFirst d → FindsDamage (λ name at. ⊥) done) (λ d. (AreAt docs d.now history → Told history) × (AreLoaded docs d.now → IsDistinct bytes_eq (ids_of rows)))
          (λ d. Reached functions history picture d → FindsDamage (λ name at. ⊥) done) (λ d sound told here. sound (known_at functions history picture d here told.0, told.1))
          (told_back (f.disk old.folder) (f.disk between.folder) (λ d. AtFirst d → FindsDamage (λ name at. ⊥) done) (λ d. IsOver s design rows mid functions picture d → FindsDamage (λ name at. ⊥) done) MovesNone
          (λ a b none sound first. sound (over_at a b none first.0 first.1)) maps.reads.disk (writes.sound functions picture))
          (told_pair (f.disk old.folder) (λ d. AreAt docs d.now history → Told history) (λ d. AreLoaded docs d.now → IsDistinct bytes_eq (ids_of rows)) _ (λ d asks apart. (asks, apart)) (maps.asks history) maps.apart)

      -- ---- a complaint

      abbrev Complaint : Type 0
      Complaint = OnHonest s between.servers between.pool design (λ fs. IsSpoiledBy design fs (picture_of old.index) ⊎ IsSpoiledBy design fs next)

      complaint_of : (fault : IndexFault) → by_index fault ≡ OfPool pool_fault.Compile → fault ≡ index_fault.Summer pool_fault.Compile
      complaint_of (index_fault.Store gate) is = cc
      complaint_of (index_fault.Summer pool_fault.Compile) is = refl
      complaint_of (index_fault.Summer pool_fault.NoMemory) is = cc
      complaint_of (index_fault.Summer pool_fault.ServerFault) is = cc
      complaint_of (index_fault.Summer (pool_fault.BadReply line)) is = cc
      complaint_of (index_fault.Summer pool_fault.UnknownLanguage) is = cc
      complaint_of index_fault.NoMemory is = cc

      complained : (done : Result (Unit {0}) IndexFault) → by_writing done ≡ Err (OfPool pool_fault.Compile) → done ≡ Err (index_fault.Summer pool_fault.Compile)
      complained (Ok value) is = absurd (let clash : ⊥ = cc in clash)
      complained (Err fault) is = ap Err (complaint_of fault (let same : by_index fault ≡ OfPool pool_fault.Compile = cc in same))

      -- an old index that is spoiled, or a new one
      refused_rightly : (d : Disk FileName) → Known functions history picture d → Complaint → IsRefusedRightly f s docs design old new history picture
      refused_rightly d known complaint path of_path honest = elim (complaint path (path_mid path of_path) honest) [
        | inl before ↦ inr (inl (subst (IsSpoiledBy design (s.functions path)) (known.is.at).last before))
        | inr then ↦ inr (inr (next, next_mapped d known path of_path, then))
      ]

      pub written_spoils : by_writing done ≡ Err (OfPool pool_fault.Compile) → IfTold (f.disk old.folder) (λ d. Reached functions history picture d → IsRefusedRightly f s docs design old new history picture)
      written_spoils is =
          told_pair (f.disk old.folder) (λ d. AtFirst d → Complaint) (λ d. (AreAt docs d.now history → Told history) × (AreLoaded docs d.now → IsDistinct bytes_eq (ids_of rows)))
          (λ d. Reached functions history picture d → IsRefusedRightly f s docs design old new history picture)
          (λ d complaint told here. let known = known_at functions history picture d here told.0 in refused_rightly d known (complaint (known, told.1)))
          (told_back (f.disk old.folder) (f.disk between.folder) (λ d. AtFirst d → Complaint) (λ d. IsOver s design rows mid functions picture d → Complaint) MovesNone
          (λ a b none complaint first. complaint (over_at a b none first.0 first.1)) maps.reads.disk (writes.complains (complained done is) functions picture))
          (told_pair (f.disk old.folder) (λ d. AreAt docs d.now history → Told history) (λ d. AreLoaded docs d.now → IsDistinct bytes_eq (ids_of rows)) _ (λ d asks apart. (asks, apart)) (maps.asks history) maps.apart)

-- ---- behind exchanges that were taken back

module _ {F C : Type 0} (f : Folders F) (s : Servers C) (docs : Docs) (design : Design) (old : Side F C) (rolled : Index) (back : IsRolledBack old.index rolled) (between : Outer F C) (differs : seq_of old.index ≢ written docs)
    (rows : List DocRows) (maps : MapsChanges f s docs design (seq_of old.index) (outer_of old) between (Ok rows)) (new : Side F C) (done : Result (Unit {0}) IndexFault)
    (writes : Writes f s design rows (written docs) (behind between rolled old) new done) where
  abbrev from : Side F C
  from = side old.folder old.servers old.pool rolled old.cache old.steps

  maps_from : MapsChanges f s docs design (seq_of rolled) (outer_of from) between (Ok rows)
  maps_from = subst (λ n. MapsChanges f s docs design n (outer_of old) between (Ok rows)) (sym (ap (λ (p : Picture). p.seq) back.same.picture)) maps

  reached_from : (functions : Option Functions) (history : List Write) (picture : Option Picture) (d : Disk FileName) → IsReached f s docs design old new functions history picture d.now
      → IsReached f s docs design from new functions history picture d.now
  reached_from functions history picture d is = record { by = is.by; documents = is.documents; at = at_back old.index rolled back d.now functions design.views picture is.at }

  pub was_written : Updates f s docs design old new (by_writing done)
  was_written = record {
    idle = λ same. absurd (differs same);
    due = λ since. record { rolled = rolled; back = back; between = between; mapped = Ok rows; maps = maps; writes = (done, writes, refl) };
    stands = λ functions history picture reached.
        subst (λ (st : Stem). Tells (f.disk old.folder) (f.disk new.folder) (Moves (IsFileOf st) (λ image. Stands functions design.views st image picture
        ⊎ ((next : Picture) × IsNext f s docs design old new history picture next × MayBeLeft f s docs design old new history picture (by_writing done) next × Stands functions design.views st image (Some next)))
        (EndsAt f s docs design old new history picture functions (by_writing done)))) (stem_back old.index rolled back)
        (written_stands f s docs design from between rows maps_from new done writes functions history picture
        (told_now (f.disk old.folder) (λ d. IsReached f s docs design old new functions history picture d.now) (λ d. IsReached f s docs design from new functions history picture d.now) (reached_from functions history picture) reached));
    freely = λ functions history picture.
        told_now (f.disk old.folder) (λ d. IsReached f s docs design from new functions history picture d.now → OnOk (by_writing done) (IsUpdatedFreely design.views history (or_empty (length design.views) picture) (picture_of new.index)))
        (λ d. IsReached f s docs design old new functions history picture d.now → OnOk (by_writing done) (IsUpdatedFreely design.views history (or_empty (length design.views) picture) (picture_of new.index)))
        (λ d told is. told (reached_from functions history picture d is)) (written_freely f s docs design from between rows maps_from new done writes functions history picture);
    spoils = λ is functions history picture.
        told_now (f.disk old.folder) (λ d. IsReached f s docs design from new functions history picture d.now → IsRefusedRightly f s docs design old new history picture)
        (λ d. IsReached f s docs design old new functions history picture d.now → IsRefusedRightly f s docs design old new history picture)
        (λ d told here. told (reached_from functions history picture d here)) (written_spoils f s docs design from between rows maps_from new done writes functions history picture is);
  }

  pub was_next : (functions : Option Functions) (history : List Write) (picture : Option Picture)
      → IfTold (f.disk old.folder) (λ d. IsReached f s docs design old new functions history picture d.now → IsMappedTo f s docs design old new history picture (made_of rows (written docs) rolled))
  was_next functions history picture =
      told_now (f.disk old.folder) (λ d. IsReached f s docs design from new functions history picture d.now → IsMappedTo f s docs design old new history picture (made_of rows (written docs) rolled))
      (λ d. IsReached f s docs design old new functions history picture d.now → IsMappedTo f s docs design old new history picture (made_of rows (written docs) rolled))
      (λ d told is. told (reached_from functions history picture d is)) (written_next f s docs design from between rows maps_from new done writes functions history picture)

  pub was_nodes : (functions : Option Functions) (history : List Write) (picture : Option Picture)
      → IfTold (f.disk old.folder) (λ d. IsReached f s docs design old new functions history picture d.now → AreNodesOf old.cache new.cache (or_empty (length design.views) picture) (made_of rows (written docs) rolled))
  was_nodes functions history picture =
      told_now (f.disk old.folder) (λ d. IsReached f s docs design from new functions history picture d.now → AreNodesOf old.cache new.cache (or_empty (length design.views) picture) (made_of rows (written docs) rolled))
      (λ d. IsReached f s docs design old new functions history picture d.now → AreNodesOf old.cache new.cache (or_empty (length design.views) picture) (made_of rows (written docs) rolled))
      (λ d told is. told (reached_from functions history picture d is)) (written_nodes f s docs design from between rows maps_from new done writes functions history picture)

  pub was_sound : (functions : Option Functions) (history : List Write) (picture : Option Picture)
      → IfTold (f.disk old.folder) (λ d. IsReached f s docs design old new functions history picture d.now → FindsDamage (λ name at. ⊥) done)
  was_sound functions history picture =
      told_now (f.disk old.folder) (λ d. IsReached f s docs design from new functions history picture d.now → FindsDamage (λ name at. ⊥) done)
      (λ d. IsReached f s docs design old new functions history picture d.now → FindsDamage (λ name at. ⊥) done)
      (λ d told is. told (reached_from functions history picture d is)) (written_sound f s docs design from between rows maps_from new done writes functions history picture)
