-- The index of a design is opened, and then brought up to date.
use Rattle.std.specs.Prelude.{◌≡◌, ◌≢◌, ◌⊎◌, ◌<◌, ℕ, List, length, Option, Some, Result, Ok, Err, IfOk, OnOk, All, slice_get, slice_index_or, slice_set, refl}
use Rattle.std.proofs.Common.{ap, sym, ◌∙◌, subst, inl, inr, ⊎_elim, arith}
use Rattle.std.proofs.lemmas.Bool.{cases_eq, cases_lt}
use Rattle.std.proofs.lemmas.List.{get_or-set_other, get_or-set_same, length-set}
use Rattle.std.proofs.lemmas.List.Elements.{All-same}
use Rattle.std.proofs.lemmas.Option.{get_or_from_slice_get, slice_get-get_or, slice_get_within}
use Rattle.view_ports.specs.Disk.{Disk, IfTold, Moves, OthersStay, Tells}
use Rattle.view_ports.specs.File.{File}
use Rattle.view_ports.specs.declared.file_name.FileName.{FileName}
use Rattle.view_ports.specs.declared.file_name.Stem.{Stem}
use Rattle.view_ports.specs.declared.file_name.Stem.TheVariants.{Docs as DocsStem, View}
use Rattle.view_ports.specs.declared.folder.Folder.{Ghosts as Folders}
use Rattle.view_ports.specs.declared.servers.Servers.{Ghosts as Servers}
use Rattle.view_ports.proofs.DiskRuns.{moves_none, moves_then, moves_wider}
use Rattle.view_ports.proofs.Told.{told_after, told_all, told_given, told_map, told_now, told_still, told_then}
use Rattle.gate_file.specs.declared.fault.GateFault.TheVariants.{DiskFault, Damaged}
use Rattle.gate_file.specs.GateFile.{name_of}
use Rattle.gate_file.proofs.Beside.{open_beside}
use Rattle.gate_file.specs.GateFile.{commits_of, root_of}
use Rattle.design_docs.specs.declared.design.Design.{Design}
use Rattle.design_docs.specs.declared.design.View.{View as DesignView}
use Rattle.design_docs.specs.History.{Write}
use Rattle.doc_file.specs.declared.docs.Docs.{Docs}
use Rattle.doc_file.specs.Docs.{entries_of, file_of as documents_file, seq_of as documents_seq, IsAt as AreDocumentsAt}
use Rattle.doc_file.specs.Held.{HoldsRoot, KeepsEach}
use Rattle.child_pool.specs.declared.pool_fault.PoolFault.TheVariants.{Compile}
use Rattle.view_model.specs.Picture.{Picture}
use Rattle.tree_index.specs.declared.fault.IndexFault.{IndexFault}
use Rattle.tree_index.specs.declared.fault.IndexFault.TheVariants as fault_of
use Rattle.tree_index.specs.declared.index.Index.{Index}
use Rattle.tree_index.specs.Calls.{IsAt}
use Rattle.tree_index.specs.Held.{IsFileOf, Stands}
use Rattle.tree_index.specs.Index.{picture_of, stem_of, views_of}
use Rattle.tree_index.specs.Opens.{IsOpenFault}
use Rattle.tree_updater.specs.declared.fault.UpdateFault.{UpdateFault}
use Rattle.tree_updater.specs.declared.fault.UpdateFault.TheVariants.{Index as OfIndex, NoMemory, Pool as OfPool}
use Rattle.tree_updater.specs.Faults.{by_index}
use Rattle.tree_updater.specs.Made.{IsUpdatedFreely}
use Rattle.tree_updater.specs.Paths.{AreFunctionsBy}
use Rattle.tree_updater.specs.Updates.{EndsAt as EndsIndex, IsReached as IsReachedIndex, MayBeLeft as MayBeLeftIndex}
use Rattle.tree_groups.specs.declared.groups.Groups.{Groups}
use Rattle.tree_groups.specs.Brings.{placed, Brings, EndsAt, IsLost, IsNext, IsRefusedRightly, MayBeLeft, MayLeave}
use Rattle.tree_groups.specs.Groups.{open_of, AreAt, IsGroup}
use Rattle.tree_groups.specs.Openings.{EndsOpen, IsFit, OpensGroup}
use Rattle.tree_groups.specs.Pictures.{IsAtOf, Kinds, Pictures, StandsOf}
use Rattle.tree_groups.specs.Reached.{picture_for, sig_of, views_in, IsReached, StandsAround}
use Rattle.tree_groups.specs.Sides.{of_index, side, Side}
use Rattle.tree_groups.specs.Updating.{UpdatesAt}
use Rattle.tree_groups.proofs.Closing.{other_at, set_at, set_held, set_there, unset, AreSetAt}
use Rattle.tree_groups.proofs.Opening.{at_holds}
use Rattle.tree_groups.proofs.Standing.{held_stands}
use Rattle.tree_groups.proofs.Staying.{updated_same, IsOfSame}
use Rattle.tree_groups.proofs.Telling.{told_before}

-- the documents stay where files of indexes change
pub documents_still : (docs : Docs) (files files' : FileName → File) (history : List Write) → ((n : FileName) → n.stem ≡ DocsStem → files' n ≡ files n) → AreDocumentsAt docs files history → AreDocumentsAt docs files' history
documents_still docs files files' history same at =
    let own : files' (name_of (documents_file docs)) ≡ files (name_of (documents_file docs)) = same (name_of (documents_file docs)) at.is_open.pair.own in
    record {
      is_open = record {
        pair = open_beside DocsStem files files' same (documents_file docs) at.is_open.pair;
        commits = at.is_open.commits;
        loaded = subst (λ (file : File). HoldsRoot (root_of (documents_file docs)) (commits_of (documents_file docs)) file.seen (documents_seq docs) (entries_of docs)) (sym own) at.is_open.loaded;
      };
      count = at.count;
      each = subst (λ (file : File). KeepsEach history file.seen (entries_of docs)) (sym own) at.each;
      stored = at.stored;
    }

-- files are of one signature
one_sig : (a b : List ℕ) (stem : Stem) → stem ≡ View a → stem ≡ View b → a ≡ b
one_sig a b stem one two = let same : View a ≡ View b = sym one ∙ two in cc

abbrev pub refused : UpdateFault → Result ℕ UpdateFault
refused fault = Err fault

pub unplaced : (place : ℕ) (result : Result (Unit {0}) UpdateFault) (fault : UpdateFault) → placed place result ≡ Err fault → result ≡ Err fault
unplaced place (Ok done) fault is = let no : ⊥ = cc in absurd no
unplaced place (Err e) fault is = let same : e ≡ fault = cc in ap (λ x. Err x) same

-- a complaint comes of no opening
no_complaint : (fault : IndexFault) → IsOpenFault fault → by_index fault ≡ OfPool Compile → ⊥
no_complaint fault (inl disk) is = let same : OfIndex (fault_of.Store DiskFault) ≡ OfPool Compile = sym (ap by_index disk) ∙ is in cc
no_complaint fault (inr (inl want)) is = let same : NoMemory ≡ OfPool Compile = sym (ap by_index want) ∙ is in cc
no_complaint fault (inr (inr damage)) is = let same : by_index (fault_of.Store (Damaged damage.0 damage.1)) ≡ OfPool Compile = sym (ap by_index damage.2) ∙ is in cc

module _ {F C : Type 0} (f : Folders F) (s : Servers C) (docs : Docs) (design : Design) (old : Side F C) where
  abbrev own : List ℕ
  own = sig_of design

  abbrev Reached : Kinds → List Write → Pictures → Disk FileName → Type 0
  Reached kinds history pictures d = IsReached s old.servers old.pool docs kinds old.groups design history pictures d.now

  -- the documents tell the newest write
  pub fit_of : (newest : ℕ) → newest ≡ documents_seq docs → (kinds : Kinds) (history : List Write) (pictures : Pictures) (d : Disk FileName) → Reached kinds history pictures d
      → AreAt kinds old.groups d.now pictures × IsFit (sig_of design) (views_in design) newest kinds pictures
  fit_of newest is kinds history pictures d reached =
      let count = reached.documents.count in
      (reached.indexes, record { within = omega (arith, reached.within, is, count); number = ap (λ (views : List DesignView). length views) reached.own })

  abbrev Around : (new : Side F C) → Kinds → List Write → Pictures → Result ℕ UpdateFault → (FileName → List ℕ) → Type 0
  Around new kinds history pictures result = StandsAround kinds design pictures (MayLeave f s docs design old new kinds history pictures result)

  abbrev Ends : (new : Side F C) → Kinds → List Write → Pictures → Result ℕ UpdateFault → (FileName → File) → Type 0
  Ends new kinds history pictures result = EndsAt f s docs design old new kinds history pictures result

  -- ---- no memory for the signature

  pub brings_nothing : (result : Result ℕ UpdateFault) → result ≡ Err NoMemory → Brings f s docs design old old result
  brings_nothing result failed = subst (λ r. Brings f s docs design old old r) (sym failed) (record {
    steps = inr (record { fault = fault_of.NoMemory; opens = inr (refl, refl, refl); idle = record { servers = refl; pool = refl; cache = refl; steps = refl }; is = refl });
    place = tt;
    stands = λ kinds history pictures reached. told_still (f.disk old.folder) (Reached kinds history pictures) (Moves (IsFileOf (View own)) (Around old kinds history pictures (Err NoMemory)) (Ends old kinds history pictures (Err NoMemory)))
        (λ d k. moves_none (IsFileOf (View own)) (Around old kinds history pictures (Err NoMemory)) (Ends old kinds history pictures (Err NoMemory)) d
        (λ image is. inl (held_stands kinds own d.now image (pictures own) (k.indexes.held own) (λ n of_pair. is n))) (λ kept. k.indexes)) reached;
    freely = λ kinds history pictures. told_all (f.disk old.folder) (λ d. Reached kinds history pictures d → Unit {0}) (λ d k. tt);
    spoils = λ is. let no : ⊥ = cc in absurd no;
  })

  module _ (newest : ℕ) (newest_is : newest ≡ documents_seq docs) (mid_groups : Groups) (mid : F) where
    abbrev between : Side F C
    between = side mid old.servers old.pool mid_groups old.cache old.steps

    -- it is opened over what the documents tell
    of_documents : (opened : Result ℕ IndexFault) → OpensGroup own (views_in design) newest f old.groups mid_groups old.folder mid opened → OpensGroup own (views_in design) (documents_seq docs) f old.groups mid_groups old.folder mid opened
    of_documents opened opens = subst (λ (n : ℕ). OpensGroup own (views_in design) n f old.groups mid_groups old.folder mid opened) newest_is opens

    -- ---- the index could not be opened

    module _ (fault : IndexFault) (opens : OpensGroup own (views_in design) newest f old.groups mid_groups old.folder mid (Err fault)) where
      ends_refused : (kinds : Kinds) (pictures : Pictures) (files : FileName → File) → IsOpenFault fault → EndsOpen own (views_in design) newest kinds mid_groups pictures (Err fault) files
          → (IsLost (by_index fault) → ⊥) → AreAt kinds mid_groups files pictures
      ends_refused kinds pictures files (inl disk) ended kept = absurd (kept (subst (λ (e : IndexFault). IsLost (by_index e)) (sym disk) tt))
      ends_refused kinds pictures files (inr (inl want)) ended kept = subst (λ (e : IndexFault). EndsOpen own (views_in design) newest kinds mid_groups pictures (Err e) files) want ended
      ends_refused kinds pictures files (inr (inr damage)) ended kept = absurd (kept (subst (λ (e : IndexFault). IsLost (by_index e)) (sym damage.2) tt))

      pub brings_refused : (result : Result ℕ UpdateFault) → result ≡ Err (by_index fault) → Brings f s docs design old between result
      brings_refused result failed = subst (λ r. Brings f s docs design old between r) (sym failed) (record {
        steps = inr (record { fault = fault; opens = inl (of_documents (Err fault) opens); idle = record { servers = refl; pool = refl; cache = refl; steps = refl }; is = refl });
        place = tt;
        stands = λ kinds history pictures reached.
            told_map (f.disk old.folder) (f.disk mid) (Moves (IsFileOf (View own)) (λ image. StandsOf kinds own image (pictures own)) (EndsOpen own (views_in design) newest kinds mid_groups pictures (Err fault)))
            (Moves (IsFileOf (View own)) (Around between kinds history pictures (refused (by_index fault))) (Ends between kinds history pictures (refused (by_index fault))))
            (λ a b moved. moves_wider (IsFileOf (View own)) (IsFileOf (View own)) (λ image. StandsOf kinds own image (pictures own)) (Around between kinds history pictures (refused (by_index fault)))
            (EndsOpen own (views_in design) newest kinds mid_groups pictures (Err fault)) (Ends between kinds history pictures (refused (by_index fault))) a b (λ n is. is) (λ image framed. inl framed.inside)
            (λ others ended. ends_refused kinds pictures b.now opens.faults ended) moved)
            (opens.stands kinds pictures (told_now (f.disk old.folder) (Reached kinds history pictures) (λ d. AreAt kinds old.groups d.now pictures × IsFit own (views_in design) newest kinds pictures) (fit_of newest newest_is kinds history pictures) reached));
        freely = λ kinds history pictures. told_all (f.disk old.folder) (λ d. Reached kinds history pictures d → Unit {0}) (λ d k. tt);
        spoils = λ is. absurd (no_complaint fault opens.faults (let same : by_index fault ≡ OfPool Compile = cc in same));
      })

    -- ---- it was opened, and an update was made

    module _ (place : ℕ) (opens : OpensGroup own (views_in design) newest f old.groups mid_groups old.folder mid (Ok place)) (new : Side F C) (result : Result (Unit {0}) UpdateFault) (at : UpdatesAt f s docs design between new place result) where
      pub within : place < length (open_of mid_groups)
      within = slice_get_within (open_of mid_groups) place at.before at.there.there

      pub here : (d : Index) → slice_index_or (open_of mid_groups) place d ≡ at.before
      here d = get_or_from_slice_get (open_of mid_groups) place at.before d at.there.there

      same : IsOfSame at.before at.after
      same = updated_same f s docs design (of_index between at.before) (of_index new at.after) result at.updates

      pub named : stem_of at.after ≡ View own
      named = same.stem ∙ at.there.named

      number : views_of at.after ≡ views_in design
      number = same.number ∙ at.there.number

      -- an index in another place is of other files
      other : (k : ℕ) (d : Index) → k < length (open_of mid_groups) → (k ≡ place → ⊥) → stem_of (slice_index_or (open_of mid_groups) k d) ≢ View own
      other k d below differs = λ is.
          let own_stem : stem_of (slice_index_or (open_of mid_groups) place d) ≡ View own = ap stem_of (here d) ∙ at.there.named in
          ⊎_elim (λ lower. mid_groups.apart k place d lower within (is ∙ sym own_stem)) (λ upper. mid_groups.apart place k d upper below (own_stem ∙ sym is)) (either k place differs)
        where
          either : (a b : ℕ) → (a ≡ b → ⊥) → (a < b) ⊎ (b < a)
          either a b differ = ⊎_elim (λ lower. inl lower) (λ upper. inr (⊎_elim (λ more. more) (λ less. absurd (differ (omega (arith, upper, less)))) (cases_lt b a))) (cases_lt a b)

      -- what is so of the new index in this place, and of each other one, is so of all
      pub placed_all : (P : Index → Type 0) → P at.after → ((k : ℕ) (d : Index) → k < length (open_of mid_groups) → stem_of (slice_index_or (open_of mid_groups) k d) ≢ View own → P (slice_index_or (open_of mid_groups) k d)) → All P (open_of new.groups)
      placed_all P now each = All-same P (open_of new.groups) (slice_set (open_of mid_groups) place at.after) at.placed
          (λ k d below.
          let xs = open_of mid_groups in
          let long = length-set xs place at.after in
          let inside : k < length xs = omega (arith, long, below) in
          ⊎_elim
          (λ is. subst P (sym (ap (λ m. slice_index_or (slice_set xs place at.after) m d) is ∙ get_or-set_same xs place at.after d within)) now)
          (λ differs. subst P (sym (get_or-set_other xs place k at.after d differs)) (each k d inside (other k d inside differs)))
          (cases_eq k place))

      pub group : IsGroup new.groups place own (views_in design) at.after
      group = record {
        there = subst (λ (l : List Index). slice_get l place ≡ Some at.after) (sym at.placed)
            (slice_get-get_or (slice_set (open_of mid_groups) place at.after) place at.after (let long = length-set (open_of mid_groups) place at.after in omega (arith, long, within))
            ∙ ap (λ i. Some i) (get_or-set_same (open_of mid_groups) place at.after at.after within));
        named = named;
        number = number;
      }

      placed_at : (kinds : Kinds) (files files' : FileName → File) (pictures after : Pictures) (picture : Option Picture) → AreSetAt own picture pictures after → OthersStay (IsFileOf (View own)) files files'
          → AreAt kinds mid_groups files pictures → IsAtOf kinds own at.after files' picture → AreAt kinds new.groups files' after
      placed_at kinds files files' pictures after picture set others was now = record {
        held = set_held kinds own files pictures after picture set files' others was.held (at_holds kinds own at.after files' picture named now);
        each = placed_all (λ i. (sig : List ℕ) → stem_of i ≡ View sig → IsAtOf kinds sig i files' (after sig))
            (λ sig is. let it : own ≡ sig = one_sig own sig (stem_of at.after) named is in subst (λ z. IsAtOf kinds z at.after files' (after z)) it (subst (λ p. IsAtOf kinds own at.after files' p) (sym set.0) now))
            (λ k d below differs. other_at kinds own files pictures after picture set files' others (slice_index_or (open_of mid_groups) k d) differs (was.each k d below));
      }

      -- the index is at its picture
      before_at : (kinds : Kinds) (files : FileName → File) (pictures : Pictures) → AreAt kinds mid_groups files pictures → IsAtOf kinds own at.before files (pictures own)
      before_at kinds files pictures was = subst (λ i. IsAtOf kinds own i files (pictures own)) (here at.before) (was.each place at.before within own (ap stem_of (here at.before) ∙ at.there.named))

      module _ (kinds : Kinds) (history : List Write) (pictures : Pictures) where
        -- ---- what is known once it is open

        pub record IsThere (d : Disk FileName) : Type 0 where
          pub documents : AreDocumentsAt docs d.now history
          pub indexes : AreAt kinds mid_groups d.now pictures
          pub of_views : (kinds own).views ≡ design.views
          pub by : AreFunctionsBy s old.servers old.pool design (kinds own).functions

        abbrev IsBegun : Disk FileName → Disk FileName → Type 0
        IsBegun a b = Reached kinds history pictures a × Moves (IsFileOf (View own)) (λ image. StandsOf kinds own image (pictures own)) (λ files. AreAt kinds mid_groups files pictures) a b

        begun : IfTold (f.disk old.folder) (Reached kinds history pictures) → Tells (f.disk old.folder) (f.disk mid) IsBegun
        begun reached =
            told_given (f.disk old.folder) (f.disk mid) (Reached kinds history pictures) (Moves (IsFileOf (View own)) (λ image. StandsOf kinds own image (pictures own)) (λ files. AreAt kinds mid_groups files pictures)) IsBegun
            (λ a b k moved. (k, moved)) reached
            (opens.stands kinds pictures (told_now (f.disk old.folder) (Reached kinds history pictures) (λ d. AreAt kinds old.groups d.now pictures × IsFit own (views_in design) newest kinds pictures) (fit_of newest newest_is kinds history pictures) reached))

        there_of : (a b : Disk FileName) → IsBegun a b → IsThere b
        there_of a b first = record {
          documents = documents_still docs a.now b.now history (λ n of_docs. first.1.others n (λ of_view. let no : ⊥ = cc in no)) first.0.documents;
          indexes = first.1.ended;
          of_views = first.0.own;
          by = first.0.by;
        }

        there : IfTold (f.disk old.folder) (Reached kinds history pictures) → IfTold (f.disk mid) IsThere
        there reached = told_after (f.disk old.folder) (f.disk mid) (Reached kinds history pictures) IsThere IsBegun (λ a b k first. there_of a b first) reached (begun reached)

        abbrev ReachedIndex : Disk FileName → Type 0
        ReachedIndex d = IsReachedIndex f s docs design (of_index between at.before) (of_index new at.after) (kinds own).functions history (pictures own) d.now

        reached_index : (d : Disk FileName) → IsThere d → ReachedIndex d
        reached_index d k = record {
          by = k.by;
          documents = k.documents;
          at = subst (λ (views : List DesignView). IsAt (kinds own).functions views at.before d.now (pictures own)) k.of_views (before_at kinds d.now pictures k.indexes);
        }

        -- ---- the update

        abbrev AroundOf : Stem → (FileName → List ℕ) → Type 0
        AroundOf st image = Stands (kinds own).functions design.views st image (pictures own)
            ⊎ ((next : Picture) × IsNext f s docs design old new kinds history pictures next × MayBeLeftIndex f s docs design (of_index between at.before) (of_index new at.after) history (pictures own) result next
            × Stands (kinds own).functions design.views st image (Some next))

        moving : IfTold (f.disk mid) IsThere
            → Tells (f.disk mid) (f.disk new.folder) (Moves (IsFileOf (View own)) (AroundOf (View own)) (EndsIndex f s docs design (of_index between at.before) (of_index new at.after) history (pictures own) (kinds own).functions result))
        moving known =
            subst (λ (st : Stem). Tells (f.disk mid) (f.disk new.folder) (Moves (IsFileOf st) (AroundOf st) (EndsIndex f s docs design (of_index between at.before) (of_index new at.after) history (pictures own) (kinds own).functions result))) at.there.named
            (at.updates.stands (kinds own).functions history (pictures own) (told_now (f.disk mid) IsThere ReachedIndex reached_index known))

        -- ---- both

        ends_at : (files files' : FileName → File) → AreAt kinds mid_groups files pictures → (kinds own).views ≡ design.views → OthersStay (IsFileOf (View own)) files files' → (r : Result (Unit {0}) UpdateFault)
            → EndsIndex f s docs design (of_index between at.before) (of_index new at.after) history (pictures own) (kinds own).functions r files' → Ends new kinds history pictures (placed place r) files'
        ends_at files files' was of_views others (Ok done) ended = record {
          index = at.after;
          group = group;
          next = ended.0;
          shows = ended.1.last;
          made = ended.2;
          after = set_at own ended.0 pictures;
          set = set_there own ended.0 pictures;
          at = placed_at kinds files files' pictures (set_at own ended.0 pictures) ended.0 (set_there own ended.0 pictures) others was (subst (λ (views : List DesignView). IsAt (kinds own).functions views at.after files' ended.0) (sym of_views) ended.1);
        }
        ends_at files files' was of_views others (Err fault) ended = λ kept.
            placed_at kinds files files' pictures pictures (pictures own) (unset own pictures) others was
            (subst (λ (views : List DesignView). IsAt (kinds own).functions views at.after files' (pictures own)) (sym of_views) (ended (λ disk. kept (subst IsLost (sym disk) tt))))

        left_placed : (r : Result (Unit {0}) UpdateFault) (next : Picture) → MayBeLeftIndex f s docs design (of_index between at.before) (of_index new at.after) history (pictures own) r next → MayBeLeft f s docs design old new kinds history pictures (placed place r) next
        left_placed (Ok done) next is = (at.after, group, is)
        left_placed (Err fault) next is = is

        around_placed : (kinds own).views ≡ design.views → (image : FileName → List ℕ) → AroundOf (View own) image → Around new kinds history pictures (placed place result) image
        around_placed of_views image (inl stands) = inl (subst (λ (views : List DesignView). Stands (kinds own).functions views (View own) image (pictures own)) (sym of_views) stands)
        around_placed of_views image (inr left) = inr (left.0, (left.1, left_placed result left.0 left.2), subst (λ (views : List DesignView). Stands (kinds own).functions views (View own) image (Some left.0)) (sym of_views) left.3)

        stands : IfTold (f.disk old.folder) (Reached kinds history pictures)
            → Tells (f.disk old.folder) (f.disk new.folder) (Moves (IsFileOf (View own)) (Around new kinds history pictures (placed place result)) (Ends new kinds history pictures (placed place result)))
        stands reached =
            told_then (f.disk old.folder) (f.disk mid) (f.disk new.folder) IsBegun (Moves (IsFileOf (View own)) (AroundOf (View own)) (EndsIndex f s docs design (of_index between at.before) (of_index new at.after) history (pictures own) (kinds own).functions result))
            (Moves (IsFileOf (View own)) (Around new kinds history pictures (placed place result)) (Ends new kinds history pictures (placed place result)))
            (λ a b c first second. moves_then (IsFileOf (View own)) (λ image. StandsOf kinds own image (pictures own)) (AroundOf (View own)) (Around new kinds history pictures (placed place result))
            (λ files. AreAt kinds mid_groups files pictures) (EndsIndex f s docs design (of_index between at.before) (of_index new at.after) history (pictures own) (kinds own).functions result) (Ends new kinds history pictures (placed place result)) a b c
            (λ image before. inl before) (λ was image around. around_placed first.0.own image around) (λ was done. ends_at b.now c.now was first.0.own second.others result done) first.1 second)
            (begun reached) (moving (there reached))

        -- what is known once it is open is known before
        pub known_before : (N : Type 0) → IfTold (f.disk mid) (λ d. ReachedIndex d → N) → IfTold (f.disk old.folder) (λ d. Reached kinds history pictures d → N)
        known_before N after = told_before (f.disk old.folder) (f.disk mid) (Reached kinds history pictures) IsBegun ReachedIndex N (λ a b first. reached_index b (there_of a b first)) after begun

        freely_placed : (r : Result (Unit {0}) UpdateFault) → OnOk r (IsUpdatedFreely design.views history (picture_for design pictures) (picture_of at.after))
            → IfOk (placed place r) (λ p. (index : Index) × IsGroup new.groups p own (views_in design) index × IsUpdatedFreely design.views history (picture_for design pictures) (picture_of index))
        freely_placed (Ok done) is = (at.after, group, is)
        freely_placed (Err fault) is = tt

      place_is : (r : Result (Unit {0}) UpdateFault) → IfOk (placed place r) (λ p. (index : Index) × IsGroup new.groups p own (views_in design) index)
      place_is (Ok done) = (at.after, group)
      place_is (Err fault) = tt

      pub brings_updated : (answer : Result ℕ UpdateFault) → answer ≡ placed place result → Brings f s docs design old new answer
      brings_updated answer is = subst (λ r. Brings f s docs design old new r) (sym is) (record {
        steps = inl (record {
          between = between;
          place = place;
          opens = of_documents (Ok place) opens;
          idle = record { servers = refl; pool = refl; cache = refl; steps = refl };
          done = result;
          updates = at;
          is = refl;
        });
        place = place_is result;
        stands = stands;
        freely = λ kinds history pictures. known_before kinds history pictures _ (told_now (f.disk mid) _ _ (λ d told reached. freely_placed kinds history pictures result (told reached)) (at.updates.freely (kinds own).functions history (pictures own)));
        spoils = λ complains kinds history pictures. known_before kinds history pictures (IsRefusedRightly f s docs design old new kinds history pictures)
            (at.updates.spoils (unplaced place result (OfPool Compile) complains) (kinds own).functions history (pictures own));
      })
