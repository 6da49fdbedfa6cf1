-- What mapping asks for and gives, page by page.
use Rattle.std.specs.Prelude.{◌≡◌, ◌≢◌, ◌⊎◌, ◌+◌, ◌++◌, ◌<◌, ◌≤◌, ◌&&◌, ◌||◌, ℕ, List, [], length, map, take, bytes_eq, true, false, Option, None, Result, Ok, Err, All}
use Rattle.std.specs.List.{list_all, IsDistinct}
use Rattle.std.proofs.Common.{refl, sym, ap, ◌∙◌, subst, inl, inr, arith, append_assoc, append-nil}
use Rattle.std.proofs.lemmas.List.{length-append, nil_from_length}
use Rattle.std.proofs.lemmas.List.Elements.{All-append, All-nil}
use Rattle.std.proofs.lemmas.List.Folds.{list_all-append}
use Rattle.json_terms.specs.Json.{Json}
use Rattle.view_ports.specs.Disk.{IfTold, MovesNone, Tells}
use Rattle.view_ports.specs.Faults.{RoseBy}
use Rattle.view_ports.specs.declared.folder.Folder.{Ghosts as Folders}
use Rattle.view_ports.specs.declared.servers.Servers.{Ghosts as Servers}
use Rattle.view_ports.proofs.DiskRuns.{none_refl}
use Rattle.view_ports.proofs.Told.{told_all, told_now, told_pair, told_refl}
use Rattle.gate_file.proofs.Looks.{told_none_then}
use Rattle.design_docs.specs.declared.design.Design.{Design}
use Rattle.design_docs.specs.History.{Write, changes_after}
use Rattle.doc_file.specs.declared.docs.Docs.{Docs}
use Rattle.doc_file.specs.declared.docs.changes.Change.{Change}
use Rattle.doc_file.specs.Changes.{last_number, numbered, IsChange}
use Rattle.doc_file.specs.Docs.{bytes_in, IsAt as AreAt, IsLoaded as AreLoaded}
use Rattle.doc_file.proofs.Pages.{go_in_pages}
use Rattle.child_pool.specs.declared.doc_rows.DocRowLists.{DocRowLists}
use Rattle.child_pool.specs.declared.pool.Pool.{Pool}
use Rattle.child_pool.specs.declared.pool_fault.PoolFault.{PoolFault}
use Rattle.child_pool.specs.declared.pool_fault.PoolFault.TheVariants as fault_of
use Rattle.child_pool.specs.Languages.{path_in}
use Rattle.child_pool.specs.Firsts.{has_some, FirstAreMapped}
use Rattle.child_pool.specs.PoolCalls.{path_for, Ends, MapsAll, StaysAsMade}
use Rattle.child_pool.proofs.Nexts.{first_whole, nothing_first}
use Rattle.view_model.specs.Since.{mapped_of}
use Rattle.row_exchange.specs.declared.doc_rows.DocRows.{DocRows}
use Rattle.row_exchange.specs.Changed.{changed_rows}
use Rattle.row_exchange.specs.Replaced.{ids_of, is_change}
use Rattle.change_mapper.specs.declared.fault.MappingFault.{MappingFault}
use Rattle.change_mapper.specs.declared.fault.MappingFault.TheVariants.{Docs as OfDocuments, NoMemory, Pool as OfPool}
use Rattle.change_mapper.specs.declared.mapping.Progress.{Progress}
use Rattle.change_mapper.specs.Faults.{by_pool}
use Rattle.change_mapper.specs.Mapped.{AsksSome, BreaksOff, HasMapped, HasMappedAll, IsBreak, MapsChanges, OnlyReads, Outer}
use Rattle.change_mapper.specs.Pages.{FollowsPage, HasComeTo, ReadsPage}
use Rattle.change_mapper.specs.Written.{documents_of, documents_since, AreLastWrites, AreRising, AreUndamaged, CoverAll, CoverUpTo, IsLastWrite}
use Rattle.change_mapper.proofs.ChangedSoFar.{taken_all}
use Rattle.change_mapper.proofs.LastWrites.{last-append, page_last, rising-append, rising_page, rows_distinct}
use Rattle.change_mapper.proofs.OnlyReading.{known_before, loaded_before, reads_then}
use Rattle.row_exchange.proofs.Updating.{changed_rows-append}
use Rattle.change_mapper.proofs.Pages.{documents-append, front_none, mapped-append, some-append}
use Rattle.change_mapper.proofs.ReadSoFar.{none_read, undamaged_all}

abbrev pub refusal : MappingFault → Result (List DocRows) MappingFault
refusal fault = Err fault

abbrev pub done : List DocRows → Result (List DocRows) MappingFault
done rows = Ok rows

-- which is met by no fault of the pool
done_met : (rows : List DocRows) (fault : PoolFault) → done rows ≡ Err (by_pool fault) → done rows ≡ Err NoMemory
done_met rows fault is = cc

-- a page of last writes with numbers after `seq`, the next ones over a history
pub record IsPage {F : Type 0} (f : Folders F) (docs : Docs) (folder : F) (seq limit : ℕ) (page : List (ℕ × Write)) : Type 0 where
  pub all : (history : List Write) → IfTold (f.disk folder) (λ d. AreAt docs d.now history → page ≡ take limit (changes_after seq history))
  pub rise : AreRising seq page
  pub each : IfTold (f.disk folder) (λ d. AreLoaded docs d.now → All (IsLastWrite docs (bytes_in docs d.now)) page)

pub page_read : {F : Type 0} (f : Folders F) (docs : Docs) (old new : F) (seq limit : ℕ) (changes : List Change) → ReadsPage f docs old new seq limit (Ok changes) → IsPage f docs old seq limit (map numbered changes)
page_read f docs old new seq limit changes read = record {
  all = read.all;
  rise = rising_page seq changes read.order;
  each = told_now (f.disk old) (λ d. AreLoaded docs d.now → All (IsChange docs (bytes_in docs d.now)) changes) (λ d. AreLoaded docs d.now → All (IsLastWrite docs (bytes_in docs d.now)) (map numbered changes))
      (λ d each loaded. page_last docs (bytes_in docs d.now) changes (each loaded)) read.each;
}

module _ {F C : Type 0} (f : Folders F) (s : Servers C) (docs : Docs) (design : Design) (seq : ℕ) (old new : Outer F C) where
  -- over a history these writes were written since, and behind them those after a number
  abbrev Goes : List (ℕ × Write) → ℕ → Type 0
  Goes changes after = (history : List Write) → IfTold (f.disk old.folder) (λ d. AreAt docs d.now history → changes_after seq history ≡ changes ++ changes_after after history)

  abbrev AsksOver : Result (List DocRows) MappingFault → Type 0
  AsksOver result = (history : List Write) → IfTold (f.disk old.folder) (λ d. AreAt docs d.now history
      → HasMappedAll f s docs design seq old new history result ⊎ BreaksOff f s docs design seq old new history result)

  -- what was asked, over each history, and whatever is told
  abbrev Asks : Result (List DocRows) MappingFault → Type 0
  Asks result = AsksOver result × AsksSome f s docs design seq old new result

  documents_then : (history : List Write) (changes : List (ℕ × Write)) (after : ℕ) → changes_after seq history ≡ changes ++ changes_after after history
      → documents_since seq history ≡ documents_of changes ++ documents_of (changes_after after history)
  documents_then history changes after is = ap documents_of is ∙ documents-append changes (changes_after after history)

  module _ (changes : List (ℕ × Write)) (after : ℕ) (goes : Goes changes after) where
    -- the documents of these were mapped, and then something else failed
    first_over : (fault : MappingFault) (lists : DocRowLists) → IsBreak (refusal fault) → FirstAreMapped s old.servers new.servers old.pool new.pool design (documents_of changes) lists → AsksOver (refusal fault)
    first_over fault lists cause mapped history =
        told_now (f.disk old.folder) (λ d. AreAt docs d.now history → changes_after seq history ≡ changes ++ changes_after after history)
        (λ d. AreAt docs d.now history → HasMappedAll f s docs design seq old new history (refusal fault) ⊎ BreaksOff f s docs design seq old new history (refusal fault))
        (λ d is here. inr (record {
          done = documents_of changes;
          left = documents_of (changes_after after history);
          all = documents_then history changes after (is here);
          lists = lists;
          mapped = mapped;
          cause = cause;
        })) (goes history)

    pub asks_first : AreLastWrites f docs old.folder seq changes → (fault : MappingFault) (lists : DocRowLists) → IsBreak (refusal fault)
        → FirstAreMapped s old.servers new.servers old.pool new.pool design (documents_of changes) lists → Asks (refusal fault)
    asks_first written fault lists cause mapped = (
      first_over fault lists cause mapped,
      record {
        changes = changes;
        written = written;
        mapped = inr (record {
          done = documents_of changes;
          left = [];
          all = sym (append-nil (documents_of changes));
          lists = lists;
          mapped = mapped;
          cause = cause;
        });
        all = tt;
        given = tt;
      },
    )

    -- one of them was refused
    refused_over : (fault : PoolFault) → documents_of changes ≢ [] → ((left : List (List (List ℕ × Json))) → MapsAll s old.servers new.servers old.pool design (documents_of changes ++ left) new.pool (Err fault)) → AsksOver (refusal (by_pool fault))
    refused_over fault some refuses history =
        told_now (f.disk old.folder) (λ d. AreAt docs d.now history → changes_after seq history ≡ changes ++ changes_after after history)
        (λ d. AreAt docs d.now history → HasMappedAll f s docs design seq old new history (refusal (by_pool fault)) ⊎ BreaksOff f s docs design seq old new history (refusal (by_pool fault)))
        (λ d is here. inl (record {
          asked = record {
            mapped = Err fault;
            met = refl;
            maps = subst (λ (ds : List (List (List ℕ × Json))). MapsAll s old.servers new.servers old.pool design ds new.pool (Err fault)) (sym (documents_then history changes after (is here)))
                (refuses (documents_of (changes_after after history)));
            idle = tt;
            some = λ none. some (front_none (documents_of changes) (documents_of (changes_after after history)) (sym (documents_then history changes after (is here)) ∙ none));
          };
          rows = tt;
          each = tt;
        })) (goes history)

    pub asks_refused : AreLastWrites f docs old.folder seq changes → (fault : PoolFault) → documents_of changes ≢ [] → ((left : List (List (List ℕ × Json))) → MapsAll s old.servers new.servers old.pool design (documents_of changes ++ left) new.pool (Err fault)) → Asks (refusal (by_pool fault))
    asks_refused written fault some refuses = (
      refused_over fault some refuses,
      record {
        changes = changes;
        written = written;
        mapped = inl (record {
          mapped = Err fault;
          met = refl;
          maps = subst (λ (ds : List (List (List ℕ × Json))). MapsAll s old.servers new.servers old.pool design ds new.pool (Err fault)) (append-nil (documents_of changes)) (refuses []);
          idle = tt;
          some = some;
        });
        all = tt;
        given = tt;
      },
    )

  module _ (progress : Progress) (changes : List (ℕ × Write)) (rows : List DocRows) (come : HasComeTo f s docs design seq old new progress changes rows) where
    abbrev lists : DocRowLists
    lists = (come.given).lists

    -- all documents were mapped
    abbrev maps_these : (documents : List (List (List ℕ × Json))) → documents ≡ documents_of changes → HasMapped s old.servers new.servers old.pool new.pool design documents (done rows)
    maps_these documents are = record {
      mapped = Ok lists;
      met = done_met rows;
      maps = subst (λ (ds : List (List (List ℕ × Json))). MapsAll s old.servers new.servers old.pool design ds new.pool (Ok lists)) (sym are)
          (first_whole s design old.servers new.servers old.pool new.pool (documents_of changes) lists (come.given).mapped);
      idle = λ none. let still = (come.given).mapped.idle (sym are ∙ none) in (still.0, still.1);
      some = tt;
    }

    abbrev NoneBehind : Type 0
    NoneBehind = (history : List Write) → IfTold (f.disk old.folder) (λ d. AreAt docs d.now history → changes_after progress.after history ≡ [])

    -- these are all that were written since
    all_over : NoneBehind → AsksOver (done rows)
    all_over last history =
        told_pair (f.disk old.folder) (λ d. AreAt docs d.now history → changes_after seq history ≡ changes ++ changes_after progress.after history)
        (λ d. AreAt docs d.now history → changes_after progress.after history ≡ [])
        (λ d. AreAt docs d.now history → HasMappedAll f s docs design seq old new history (done rows) ⊎ BreaksOff f s docs design seq old new history (done rows))
        (λ d goes none here.
        let whole : changes_after seq history ≡ changes = goes here ∙ ap (λ l. changes ++ l) (none here) ∙ append-nil changes in
        inl (record {
          asked = maps_these (documents_since seq history) (ap documents_of whole);
          rows = (come.given).rows_are ∙ ap (λ (cs : List (ℕ × Write)). changed_rows (length design.views) cs lists) (sym whole);
          each = subst (λ (cs : List (ℕ × Write)). length lists ≡ length (mapped_of cs)) (sym whole) (come.given).each;
        })) (come.goes history) (last history)

    asks_all : CoverAll docs seq changes → NoneBehind → Asks (done rows)
    asks_all covers last = (
      all_over last,
      record {
        changes = changes;
        written = come.written;
        mapped = inl (maps_these (documents_of changes) refl);
        all = covers;
        given = come.given;
      },
    )

    -- the last page is mapped
    pub ends_well : NoneBehind → CoverAll docs seq changes → OnlyReads f docs old.folder new.folder (done rows) → MapsChanges f s docs design seq old new (done rows)
    ends_well last covers reads =
        let asks = asks_all covers last in
        record {
          asks = asks.0;
          asked = asks.1;
          apart = told_now (f.disk old.folder) (λ d. AreLoaded docs d.now → All (IsLastWrite docs (bytes_in docs d.now)) changes) (λ d. AreLoaded docs d.now → IsDistinct bytes_eq (ids_of rows))
              (λ d each loaded. subst (λ (r : List DocRows). IsDistinct bytes_eq (ids_of r)) (sym (come.given).rows_are) (rows_distinct docs (bytes_in docs d.now) seq changes come.written.rise (each loaded) (length design.views) lists)) come.written.each;
          whole = come.whole;
          undamaged = told_now (f.disk old.folder) (λ d. AreLoaded docs d.now → All (IsLastWrite docs (bytes_in docs d.now)) changes) (λ d. AreLoaded docs d.now → AreUndamaged docs (bytes_in docs d.now) seq)
              (λ d each loaded. undamaged_all docs (bytes_in docs d.now) seq changes covers (each loaded)) come.written.each;
          reads = reads;
          later = (come.given).mapped.later;
          keeps = (come.given).mapped.keeps;
          blames = λ is. cc;
          unknown = λ is. cc;
        }

-- ---- before the first page

pub nothing_yet : {F C : Type 0} (f : Folders F) (s : Servers C) (docs : Docs) (design : Design) (seq : ℕ) (old : Outer F C) (progress : Progress) → progress.after ≡ seq → progress.begun ≡ false
    → HasComeTo f s docs design seq old old progress [] []
nothing_yet f s docs design seq old progress first idle = record {
  given = record { lists = []; mapped = nothing_first s design old.servers old.pool; each = refl; rows_are = refl };
  begun = idle;
  goes = λ history. told_all (f.disk old.folder) (λ d. AreAt docs d.now history → changes_after seq history ≡ changes_after progress.after history) (λ d here. ap (λ n. changes_after n history) (sym first));
  written = record {
    rise = tt;
    each = told_all (f.disk old.folder) (λ d. AreLoaded docs d.now → All (IsLastWrite docs (bytes_in docs d.now)) []) (λ d loaded. All-nil (IsLastWrite docs (bytes_in docs d.now)));
  };
  last = sym first;
  covers = none_read docs seq progress.after first;
  whole = refl;
  disk = told_refl (f.disk old.folder) MovesNone (λ a. none_refl a);
  still = refl;
}

-- ---- the end of the pool

-- a break is no fault of the pool
no_pool : (fault : MappingFault) (of_pool : PoolFault) → IsBreak (refusal fault) → refusal fault ≡ Err (OfPool of_pool) → ⊥
no_pool NoMemory of_pool broken is = cc
no_pool (OfDocuments fault) of_pool broken is = cc
no_pool (OfPool fault) of_pool broken is = broken

by_pool_of : (fault of_pool : PoolFault) → refusal (by_pool fault) ≡ Err (OfPool of_pool) → fault ≡ of_pool
by_pool_of fault_of.NoMemory of_pool is = cc
by_pool_of fault_of.ServerFault of_pool is = cc
by_pool_of (fault_of.BadReply line) of_pool is = cc
by_pool_of fault_of.Compile of_pool is = cc
by_pool_of fault_of.UnknownLanguage of_pool is = cc

module _ {C : Type 0} (s : Servers C) (design : Design) (servers servers' : C) (pool pool' : Pool) where
  -- how the pool ends where mapping is refused
  pub record EndsPool (fault : MappingFault) : Type 0 where
    pub keeps : StaysAsMade pool pool'
    pub later : s.faults servers ≤ s.faults servers'
    pub blames : refusal fault ≡ Err (OfPool fault_of.ServerFault) → RoseBy 2 (s.faults servers) (s.faults servers')
    pub unknown : refusal fault ≡ Err (OfPool fault_of.UnknownLanguage) → path_for pool design ≡ None

  -- something else failed
  pub pool_left : (fault : MappingFault) → IsBreak (refusal fault) → StaysAsMade pool pool' → s.faults servers ≤ s.faults servers' → EndsPool fault
  pool_left fault broken keeps later =
      record { keeps = keeps; later = later; blames = λ is. absurd (no_pool fault fault_of.ServerFault broken is); unknown = λ is. absurd (no_pool fault fault_of.UnknownLanguage broken is) }

  -- or the pool refused
  pub pool_refused : {T : Type 0} (fault : PoolFault) (result : Result T PoolFault) → result ≡ Err fault → Ends s servers servers' pool pool' design result → EndsPool (by_pool fault)
  pool_refused fault result failed ends = record {
    keeps = ends.keeps;
    later = ends.later;
    blames = λ is. ends.twice (failed ∙ ap Err (by_pool_of fault fault_of.ServerFault is));
    unknown = λ is. ends.unknown (failed ∙ ap Err (by_pool_of fault fault_of.UnknownLanguage is));
  }

pub as_made : (pool : Pool) → StaysAsMade pool pool
as_made pool = record { languages = refl; width = refl }

-- what rose later rose since an earlier count
rose_since : (before mid now : ℕ) → before ≤ mid → RoseBy 2 mid now → RoseBy 2 before now
rose_since before mid now early rose = omega (arith, early, rose)

-- a language that has no path now had none
path_before : (pool pool' : Pool) (design : Design) → StaysAsMade pool pool' → path_for pool' design ≡ None → path_for pool design ≡ None
path_before pool pool' design keeps is = ap (λ languages. path_in languages design.language) (sym keeps.languages) ∙ is

-- ---- one page more

module _ {F C : Type 0} (f : Folders F) (s : Servers C) (docs : Docs) (design : Design) (seq : ℕ) (old now : Outer F C) (progress : Progress) (changes : List (ℕ × Write)) (before : List DocRows)
    (come : HasComeTo f s docs design seq old now progress changes before) where
  -- mapping ends with this fault
  pub ends_early : (new : Outer F C) (rows : List DocRows) (fault : MappingFault) (result : Result (Option Progress) MappingFault) → result ≡ Err fault → Asks f s docs design seq old new (refusal fault)
      → OnlyReads f docs now.folder new.folder (refusal fault) → EndsPool s design now.servers new.servers now.pool new.pool fault → FollowsPage f s docs design seq old new progress.after rows result
  ends_early new rows fault result is asks reads ends = subst (FollowsPage f s docs design seq old new progress.after rows) (sym is) (record {
    asks = asks.0;
    asked = asks.1;
    apart = told_all (f.disk old.folder) (λ d. AreLoaded docs d.now → Unit {0}) (λ d loaded. tt);
    whole = tt;
    undamaged = told_all (f.disk old.folder) (λ d. AreLoaded docs d.now → Unit {0}) (λ d loaded. tt);
    reads = reads_then f docs old.folder now.folder come.disk new.folder (refusal fault) come.still reads;
    later = omega (arith, (come.given).mapped.later, ends.later);
    keeps = record { languages = ends.keeps.languages ∙ (come.given).mapped.keeps.languages; width = ends.keeps.width ∙ (come.given).mapped.keeps.width };
    blames = λ blamed. rose_since (s.faults old.servers) (s.faults now.servers) (s.faults new.servers) (come.given).mapped.later (ends.blames blamed);
    unknown = λ none. path_before old.pool now.pool design (come.given).mapped.keeps (ends.unknown none);
  })

  module _ (page : List (ℕ × Write)) (limit : ℕ) (read : IsPage f docs now.folder progress.after limit page) where
    abbrev last : ℕ
    last = last_number progress.after page

    page_is : (history : List Write) → IfTold (f.disk old.folder) (λ d. AreAt docs d.now history → page ≡ take limit (changes_after progress.after history))
    page_is = known_before f docs old.folder now.folder come.disk (λ history. page ≡ take limit (changes_after progress.after history)) read.all

    page_then : (history : List Write) → page ≡ take limit (changes_after progress.after history) → changes_after progress.after history ≡ page ++ changes_after last history
    page_then history is = go_in_pages history progress.after limit ∙ (λ i. sym is i ++ changes_after (last_number progress.after (sym is i)) history)

    both_then : (history : List Write) → changes_after seq history ≡ changes ++ changes_after progress.after history → page ≡ take limit (changes_after progress.after history)
        → changes_after seq history ≡ (changes ++ page) ++ changes_after last history
    both_then history so_far is = so_far ∙ ap (λ l. changes ++ l) (page_then history is) ∙ sym (append_assoc changes page (changes_after last history))

    pub goes_on : Goes f s docs design seq old now (changes ++ page) last
    goes_on history =
        told_pair (f.disk old.folder) (λ d. AreAt docs d.now history → changes_after seq history ≡ changes ++ changes_after progress.after history)
        (λ d. AreAt docs d.now history → page ≡ take limit (changes_after progress.after history))
        (λ d. AreAt docs d.now history → changes_after seq history ≡ (changes ++ page) ++ changes_after last history)
        (λ d so_far is here. both_then history (so_far here) (is here)) (come.goes history) (page_is history)

    -- all are last writes
    each_of_both : IfTold (f.disk old.folder) (λ d. AreLoaded docs d.now → All (IsLastWrite docs (bytes_in docs d.now)) (changes ++ page))
    each_of_both =
        told_pair (f.disk old.folder) (λ d. AreLoaded docs d.now → All (IsLastWrite docs (bytes_in docs d.now)) changes) (λ d. AreLoaded docs d.now → All (IsLastWrite docs (bytes_in docs d.now)) page)
        (λ d. AreLoaded docs d.now → All (IsLastWrite docs (bytes_in docs d.now)) (changes ++ page))
        (λ d first more loaded. All-append (IsLastWrite docs (bytes_in docs d.now)) changes page (first loaded) (more loaded)) come.written.each
        (loaded_before f docs old.folder now.folder come.disk (λ bytes. All (IsLastWrite docs bytes) page) read.each)

    pub written_on : AreLastWrites f docs old.folder seq (changes ++ page)
    written_on = record {
      rise = rising-append seq changes page come.written.rise (subst (λ (n : ℕ). AreRising n page) (sym come.last) read.rise);
      each = each_of_both;
    }

    -- a page that isn't full is the last one
    pub none_behind : length page < limit → (history : List Write) → IfTold (f.disk old.folder) (λ d. AreAt docs d.now history → changes_after last history ≡ [])
    none_behind few history =
        told_now (f.disk old.folder) (λ d. AreAt docs d.now history → page ≡ take limit (changes_after progress.after history)) (λ d. AreAt docs d.now history → changes_after last history ≡ [])
        (λ d is here.
        let all = taken_all limit page (changes_after progress.after history) few (is here) in
        let long = ap length (all ∙ page_then history (is here)) ∙ length-append page (changes_after last history) in
        nil_from_length (changes_after last history) (omega (arith, long, ap length all))) (page_is history)

    module _ (new : Outer F C) (others : DocRowLists) (mapped : FirstAreMapped s old.servers new.servers old.pool new.pool design (documents_of changes ++ documents_of page) ((come.given).lists ++ others)) where
      pub mapped_then : FirstAreMapped s old.servers new.servers old.pool new.pool design (documents_of (changes ++ page)) ((come.given).lists ++ others)
      mapped_then = subst (λ (ds : List (List (List ℕ × Json))). FirstAreMapped s old.servers new.servers old.pool new.pool design ds ((come.given).lists ++ others)) (sym (documents-append changes page)) mapped

      abbrev page_rows : List DocRows
      page_rows = changed_rows (length design.views) page others

      whole_on : list_all (is_change (length design.views)) page_rows ≡ true → list_all (is_change (length design.views)) (before ++ page_rows) ≡ true
      whole_on fit = list_all-append (is_change (length design.views)) before page_rows ∙ (λ i. come.whole i && fit i)

      pub come_on : (rows : List DocRows) → rows ≡ before ++ page_rows → list_all (is_change (length design.views)) page_rows ≡ true → (next : Progress) → next.after ≡ last → next.begun ≡ (progress.begun || has_some (documents_of page))
          → length others ≡ length (mapped_of page) → Tells (f.disk now.folder) (f.disk new.folder) MovesNone → f.faults new.folder ≡ f.faults now.folder → CoverUpTo docs seq last (changes ++ page)
          → HasComeTo f s docs design seq old new next (changes ++ page) rows
      come_on rows added fit next after begun each disk still covers = record {
        given = record {
          lists = (come.given).lists ++ others;
          mapped = mapped_then;
          each = length-append (come.given).lists others ∙ (λ i. (come.given).each i + each i) ∙ sym (length-append (mapped_of changes) (mapped_of page)) ∙ ap length (sym (mapped-append changes page));
          rows_are = added ∙ ap (λ (r : List DocRows). r ++ page_rows) (come.given).rows_are ∙ sym (changed_rows-append (length design.views) page others changes (come.given).lists (come.given).each);
        };
        begun = begun ∙ ap (λ b. b || has_some (documents_of page)) come.begun ∙ some-append (documents_of changes) (documents_of page) ∙ ap has_some (sym (documents-append changes page));
        goes = λ history. subst (λ (n : ℕ). IfTold (f.disk old.folder) (λ d. AreAt docs d.now history → changes_after seq history ≡ (changes ++ page) ++ changes_after n history)) (sym after) (goes_on history);
        written = written_on;
        last = last-append seq changes page ∙ ap (λ n. last_number n page) come.last ∙ sym after;
        covers = subst (λ (n : ℕ). CoverUpTo docs seq n (changes ++ page)) (sym after) covers;
        whole = ap (list_all (is_change (length design.views))) added ∙ whole_on fit;
        disk = told_none_then (f.disk old.folder) (f.disk now.folder) (f.disk new.folder) come.disk disk;
        still = still ∙ come.still;
      }
