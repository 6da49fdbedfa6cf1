-- What an update asked of the query servers, and which fault of its parts each of its faults is.
use Rattle.std.specs.Prelude.{◌≡◌, ◌≢◌, ◌⊎◌, ◌≤◌, ℕ, List, None, Result, Ok, Err, IfErr, OnErr}
use Rattle.std.proofs.Common.{refl, sym, ap, ◌∙◌, subst, inl, inr, arith}
use Rattle.json_terms.specs.Json.{Json}
use Rattle.view_ports.specs.Disk.{IfTold}
use Rattle.view_ports.specs.Faults.{CountsFor, Rose, RoseBy}
use Rattle.view_ports.specs.declared.folder.Folder.{Ghosts as Folders}
use Rattle.view_ports.specs.declared.servers.Servers.{Ghosts as Servers}
use Rattle.view_ports.specs.declared.file_name.FileName.{FileName}
use Rattle.view_ports.proofs.Told.{told_now}
use Rattle.gate_file.specs.declared.fault.GateFault.{GateFault}
use Rattle.gate_file.specs.declared.fault.GateFault.TheVariants.{Damaged, DiskFault, Full, NoMemory as GateNoMemory}
use Rattle.design_docs.specs.declared.design.Design.{Design}
use Rattle.design_docs.specs.History.{Write}
use Rattle.doc_file.specs.declared.docs.Docs.{Docs}
use Rattle.doc_file.specs.Docs.{seq_of as written, IsAt as AreAt}
use Rattle.child_pool.specs.declared.pool.Pool.{Pool}
use Rattle.child_pool.specs.declared.pool_fault.PoolFault.{PoolFault}
use Rattle.child_pool.specs.declared.pool_fault.PoolFault.TheVariants as pool_fault
use Rattle.child_pool.specs.Languages.{path_in}
use Rattle.child_pool.specs.PoolCalls.{path_for, StaysAsMade}
use Rattle.row_exchange.specs.declared.doc_rows.DocRows.{DocRows}
use Rattle.change_mapper.specs.declared.fault.MappingFault.{MappingFault}
use Rattle.change_mapper.specs.declared.fault.MappingFault.TheVariants as mapping
use Rattle.change_mapper.specs.Faults.{IsReadFault}
use Rattle.change_mapper.specs.Mapped.{BreaksOff, HasMappedAll, HasMappedSome, MapsChanges, Outer}
use Rattle.change_mapper.specs.Written.{documents_of, documents_since}
use Rattle.tree_index.specs.declared.fault.IndexFault.{IndexFault}
use Rattle.tree_index.specs.declared.fault.IndexFault.TheVariants as index_fault
use Rattle.tree_index.specs.Faults.{reduce_fault}
use Rattle.tree_index.specs.Index.{seq_of}
use Rattle.tree_updater.specs.declared.fault.UpdateFault.{UpdateFault}
use Rattle.tree_updater.specs.declared.fault.UpdateFault.TheVariants.{Docs as OfDocuments, Index as OfIndex, NoMemory, Pool as OfPool}
use Rattle.tree_updater.specs.Asking.{HasAskedFor, ThenReduces}
use Rattle.tree_updater.specs.Faults.{by_index, by_mapping, by_pool}
use Rattle.tree_updater.specs.Follows.{AsksSince, IsFileFault, IsOfDisk, IsSpared}
use Rattle.tree_updater.specs.Sides.{outer_of, Side}
use Rattle.tree_updater.specs.Updates.{by_writing}
use Rattle.tree_updater.specs.Writes.{AsksReduces, HasReduced as WritesReduce, IsMetBy as IsMetInWriting, IsWriteFault}
use Rattle.tree_updater.proofs.Updated.{failed}

pub same_fault : (one other : UpdateFault) → failed one ≡ failed other → one ≡ other
same_fault one other is = cc

-- ---- faults of the pool

pool_of_no_documents : (fault : PoolFault) (gate : GateFault) → by_pool fault ≡ OfDocuments gate → ⊥
pool_of_no_documents pool_fault.NoMemory gate is = cc
pool_of_no_documents pool_fault.ServerFault gate is = cc
pool_of_no_documents (pool_fault.BadReply line) gate is = cc
pool_of_no_documents pool_fault.Compile gate is = cc
pool_of_no_documents pool_fault.UnknownLanguage gate is = cc

pool_of_no_index : (fault : PoolFault) (met : IndexFault) → by_pool fault ≡ OfIndex met → ⊥
pool_of_no_index pool_fault.NoMemory met is = cc
pool_of_no_index pool_fault.ServerFault met is = cc
pool_of_no_index (pool_fault.BadReply line) met is = cc
pool_of_no_index pool_fault.Compile met is = cc
pool_of_no_index pool_fault.UnknownLanguage met is = cc

-- one that is told is the one that was met
pool_told : (fault met : PoolFault) → by_pool fault ≡ OfPool met → fault ≡ met
pool_told pool_fault.NoMemory met is = cc
pool_told pool_fault.ServerFault met is = cc
pool_told (pool_fault.BadReply line) met is = cc
pool_told pool_fault.Compile met is = cc
pool_told pool_fault.UnknownLanguage met is = cc

-- each is a fault of no file
pool_of_file : (fault : PoolFault) → IsFileFault (by_pool fault)
pool_of_file pool_fault.NoMemory = tt
pool_of_file pool_fault.ServerFault = tt
pool_of_file (pool_fault.BadReply line) = tt
pool_of_file pool_fault.Compile = tt
pool_of_file pool_fault.UnknownLanguage = tt

-- ---- faults of the mapping

pub mapping_of_documents : (fault : MappingFault) (gate : GateFault) → by_mapping fault ≡ OfDocuments gate → fault ≡ mapping.Docs gate
mapping_of_documents (mapping.Pool met) gate is = absurd (pool_of_no_documents met gate is)
mapping_of_documents (mapping.Docs met) gate is = cc
mapping_of_documents mapping.NoMemory gate is = cc

pub mapping_of_no_index : (fault : MappingFault) (met : IndexFault) → by_mapping fault ≡ OfIndex met → ⊥
mapping_of_no_index (mapping.Pool fault) met is = pool_of_no_index fault met is
mapping_of_no_index (mapping.Docs fault) met is = cc
mapping_of_no_index mapping.NoMemory met is = cc

pub mapping_of_pool : (fault : MappingFault) (met : PoolFault) → by_mapping fault ≡ OfPool met → fault ≡ mapping.Pool met
mapping_of_pool (mapping.Pool fault) met is = ap mapping.Pool (pool_told fault met is)
mapping_of_pool (mapping.Docs fault) met is = cc
mapping_of_pool mapping.NoMemory met is = cc

pub mapping_of_file : (fault : MappingFault) → IsReadFault fault → IsFileFault (by_mapping fault)
mapping_of_file (mapping.Pool fault) reads = pool_of_file fault
mapping_of_file (mapping.Docs DiskFault) reads = tt
mapping_of_file (mapping.Docs (Damaged name at)) reads = tt
mapping_of_file (mapping.Docs (Full name size)) reads = reads
mapping_of_file (mapping.Docs GateNoMemory) reads = reads
mapping_of_file mapping.NoMemory reads = tt

-- ---- faults of the writing

index_of_no_documents : (fault : IndexFault) (gate : GateFault) → by_index fault ≡ OfDocuments gate → ⊥
index_of_no_documents (index_fault.Store met) gate is = cc
index_of_no_documents (index_fault.Summer fault) gate is = pool_of_no_documents fault gate is
index_of_no_documents index_fault.NoMemory gate is = cc

index_stored : (fault : IndexFault) (gate : GateFault) → by_index fault ≡ OfIndex (index_fault.Store gate) → fault ≡ index_fault.Store gate
index_stored (index_fault.Store met) gate is = cc
index_stored (index_fault.Summer fault) gate is = absurd (pool_of_no_index fault (index_fault.Store gate) is)
index_stored index_fault.NoMemory gate is = cc

index_summed : (fault : IndexFault) (met : PoolFault) → by_index fault ≡ OfPool met → fault ≡ index_fault.Summer met
index_summed (index_fault.Store gate) met is = cc
index_summed (index_fault.Summer fault) met is = ap index_fault.Summer (pool_told fault met is)
index_summed index_fault.NoMemory met is = cc

pub of_no_documents : (done : Result (Unit {0}) IndexFault) (gate : GateFault) → by_writing done ≡ Err (OfDocuments gate) → ⊥
of_no_documents (Ok value) gate is = cc
of_no_documents (Err fault) gate is = index_of_no_documents fault gate (same_fault (by_index fault) (OfDocuments gate) is)

pub of_store : (done : Result (Unit {0}) IndexFault) (gate : GateFault) → by_writing done ≡ Err (OfIndex (index_fault.Store gate)) → done ≡ Err (index_fault.Store gate)
of_store (Ok value) gate is = absurd (let clash : ⊥ = cc in clash)
of_store (Err fault) gate is = ap Err (index_stored fault gate (same_fault (by_index fault) (OfIndex (index_fault.Store gate)) is))

pub of_reduce : (done : Result (Unit {0}) IndexFault) (met : PoolFault) → by_writing done ≡ Err (OfPool met) → done ≡ Err (index_fault.Summer met)
of_reduce (Ok value) met is = absurd (let clash : ⊥ = cc in clash)
of_reduce (Err fault) met is = ap Err (index_summed fault met (same_fault (by_index fault) (OfPool met) is))

pub writing_of_file : (own : FileName) (done : Result (Unit {0}) IndexFault) → IfErr done (IsWriteFault own) → IfErr (by_writing done) IsFileFault
writing_of_file own (Ok value) is = tt
writing_of_file own (Err (index_fault.Store DiskFault)) is = tt
writing_of_file own (Err (index_fault.Store (Full name size))) is = tt
writing_of_file own (Err (index_fault.Store (Damaged name at))) is = tt
writing_of_file own (Err (index_fault.Store GateNoMemory)) is = is
writing_of_file own (Err (index_fault.Summer fault)) is = pool_of_file fault
writing_of_file own (Err index_fault.NoMemory) is = tt

-- what is known after a refusal
pub on_err : (P : Type 0) (done : Result (Unit {0}) IndexFault) (fault : IndexFault) → done ≡ Err fault → OnErr done P → P
on_err P (Ok value) fault is known = absurd (let clash : ⊥ = cc in clash)
on_err P (Err met) fault is known = known

-- ---- where the disk failed

module _ (old mid now : ℕ) (before : mid ≡ old) where
  fault_rose : (fault : IndexFault) → (fault ≡ index_fault.Store DiskFault → Rose mid now) → IsOfDisk (by_index fault) → Rose old now
  fault_rose fault failed (inl documents) = absurd (index_of_no_documents fault DiskFault documents)
  fault_rose fault failed (inr store) = subst (λ (n : ℕ). Rose n now) before (failed (index_stored fault DiskFault store))

  -- the folder counted a fault
  pub writing_rose : (done : Result (Unit {0}) IndexFault) → CountsFor (index_fault.Store DiskFault) mid now done → IfErr (by_writing done) (λ fault. IsOfDisk fault → Rose old now)
  writing_rose (Ok value) counts = tt
  writing_rose (Err fault) counts = fault_rose fault counts.failed

  other_fault : (done : Result (Unit {0}) IndexFault) → IsSpared (by_writing done) → done ≢ Err (index_fault.Store DiskFault)
  other_fault (Ok value) spared is = cc
  other_fault (Err fault) spared is = spared (inr (ap by_index (let same : fault ≡ index_fault.Store DiskFault = cc in same)))

  -- and none for any other answer
  pub writing_still : (done : Result (Unit {0}) IndexFault) → CountsFor (index_fault.Store DiskFault) mid now done → IsSpared (by_writing done) → now ≡ old
  writing_still done counts spared = counts.still (other_fault done spared) ∙ before

-- ---- counts, and the languages of the pool

-- what rose later rose since an earlier count
pub rose_since : (before mid now : ℕ) → before ≤ mid → RoseBy 2 mid now → RoseBy 2 before now
rose_since before mid now early rose = omega (arith, early, rose)

pub later_then : (before mid now : ℕ) → before ≤ mid → mid ≤ now → before ≤ now
later_then before mid now early late = omega (arith, early, late)

pub stay_then : (a b c : Pool) → StaysAsMade a b → StaysAsMade b c → StaysAsMade a c
stay_then a b c first second = record { languages = second.languages ∙ first.languages; width = second.width ∙ first.width }

-- a language that has no path now had none
pub path_before : (pool pool' : Pool) (design : Design) → StaysAsMade pool pool' → path_for pool' design ≡ None → path_for pool design ≡ None
path_before pool pool' design keeps is = ap (λ (languages : List (List ℕ × List ℕ)). path_in languages design.language) (sym keeps.languages) ∙ is

-- ---- the reduces that were asked for

-- a fault of a reduce is the same for the update
reduce_told : (fault : PoolFault) → by_index (reduce_fault fault) ≡ by_pool fault
reduce_told pool_fault.ServerFault = refl
reduce_told (pool_fault.BadReply line) = refl
reduce_told pool_fault.Compile = refl
reduce_told pool_fault.UnknownLanguage = refl
reduce_told pool_fault.NoMemory = refl

reduce_met : (fault met : PoolFault) → reduce_fault fault ≡ index_fault.Summer met → fault ≡ met
reduce_met pool_fault.ServerFault met is = cc
reduce_met (pool_fault.BadReply line) met is = cc
reduce_met pool_fault.Compile met is = cc
reduce_met pool_fault.UnknownLanguage met is = cc
reduce_met pool_fault.NoMemory met is = cc

-- where all values were had, no fault of a reduce is told
none_told : (done : Result (Unit {0}) IndexFault) → ((fault : PoolFault) → done ≢ Err (index_fault.Summer fault)) → (fault : PoolFault) → by_writing done ≡ Err (by_pool fault) → by_writing done ≡ Err NoMemory
none_told (Ok value) none fault is = absurd (let clash : ⊥ = cc in clash)
none_told (Err (index_fault.Store gate)) none fault is = absurd (pool_of_no_index fault (index_fault.Store gate) (sym (same_fault (OfIndex (index_fault.Store gate)) (by_pool fault) is)))
none_told (Err (index_fault.Summer met)) none fault is = absurd (none met refl)
none_told (Err index_fault.NoMemory) none fault is = refl

module _ {F C : Type 0} (f : Folders F) (s : Servers C) (design : Design) (rows : List DocRows) (seq : ℕ) (old new : Side F C) (done : Result (Unit {0}) IndexFault) where
  abbrev ThenReduced : C → Pool → Type 0
  ThenReduced servers pool = ThenReduces s servers new.servers pool new.pool design old.servers old.pool (Ok rows) (by_writing done)

  -- what is said of reduces as rows are written is said of the update
  pub then_reduced : AsksReduces f s design rows seq old new done → (servers : C) (pool : Pool) → ThenReduced servers pool
  then_reduced asks servers pool = by_reduced asks.reduced asks.asked asks.met
    where
      by_reduced : (reduced : Result (Unit {0}) PoolFault) → WritesReduce f s design rows seq old new reduced → IsMetInWriting f s design rows seq old new reduced done → ThenReduced servers pool
      by_reduced (Ok value) asked met = (Ok value, asked, none_told done met)
      by_reduced (Err fault) asked met = (Err fault, asked, ap by_writing met ∙ ap failed (reduce_told fault))

  -- the pool's languages and width stay, and the count of faults never falls
  pub reduced_keeps : AsksReduces f s design rows seq old new done → StaysAsMade old.pool new.pool × (s.faults old.servers ≤ s.faults new.servers)
  reduced_keeps asks = by_reduced asks.reduced asks.asked
    where
      by_reduced : (reduced : Result (Unit {0}) PoolFault) → WritesReduce f s design rows seq old new reduced → StaysAsMade old.pool new.pool × (s.faults old.servers ≤ s.faults new.servers)
      by_reduced (Ok value) asked = (asked.keeps, asked.later)
      by_reduced (Err fault) asked = (asked.keeps, asked.later)

  -- servers are blamed only where two faults were counted, and a language is unknown only where it has no path
  pub reduced_blames : AsksReduces f s design rows seq old new done → done ≡ Err (index_fault.Summer pool_fault.ServerFault) → RoseBy 2 (s.faults old.servers) (s.faults new.servers)
  reduced_blames asks is = by_reduced asks.reduced asks.asked asks.met
    where
      by_reduced : (reduced : Result (Unit {0}) PoolFault) → WritesReduce f s design rows seq old new reduced → IsMetInWriting f s design rows seq old new reduced done → RoseBy 2 (s.faults old.servers) (s.faults new.servers)
      by_reduced (Ok value) asked met = absurd (met pool_fault.ServerFault is)
      by_reduced (Err fault) asked met = asked.twice (reduce_met fault pool_fault.ServerFault (let same : reduce_fault fault ≡ index_fault.Summer pool_fault.ServerFault = cc in same))

  pub reduced_unknown : AsksReduces f s design rows seq old new done → done ≡ Err (index_fault.Summer pool_fault.UnknownLanguage) → path_for old.pool design ≡ None
  reduced_unknown asks is = by_reduced asks.reduced asks.asked asks.met
    where
      by_reduced : (reduced : Result (Unit {0}) PoolFault) → WritesReduce f s design rows seq old new reduced → IsMetInWriting f s design rows seq old new reduced done → path_for old.pool design ≡ None
      by_reduced (Ok value) asked met = absurd (met pool_fault.UnknownLanguage is)
      by_reduced (Err fault) asked met = asked.unknown (reduce_met fault pool_fault.UnknownLanguage (let same : reduce_fault fault ≡ index_fault.Summer pool_fault.UnknownLanguage = cc in same))

-- ---- the documents that were asked for

module _ {F C : Type 0} (f : Folders F) (s : Servers C) (docs : Docs) (design : Design) (old : Side F C) (between : Outer F C) where
  -- what became of the documents that a history has since
  abbrev pub MappedSince : Result (List DocRows) MappingFault → List Write → Type 0
  MappedSince mapped history =
      HasMappedAll f s docs design (seq_of old.index) (outer_of old) between history mapped ⊎ BreaksOff f s docs design (seq_of old.index) (outer_of old) between history mapped

  -- they were mapped, all or the first ones
  some_since : (mapped : Result (List DocRows) MappingFault) (history : List Write) → MappedSince mapped history
      → HasMappedSome s old.servers between.servers old.pool between.pool design (documents_since (seq_of old.index) history) mapped
  some_since mapped history (inl all) = inl all.asked
  some_since mapped history (inr broken) = inr broken

  module _ (new : Side F C) (mapped : Result (List DocRows) MappingFault) (result : Result (Unit {0}) UpdateFault) (maps : MapsChanges f s docs design (seq_of old.index) (outer_of old) between mapped)
      (reduces : ThenReduces s old.servers new.servers old.pool new.pool design between.servers between.pool mapped result) where
    -- some documents were asked for, and then the reduces
    has_asked : (documents : List (List (List ℕ × Json))) → HasMappedSome s old.servers between.servers old.pool between.pool design documents mapped
        → HasAskedFor s old.servers new.servers old.pool new.pool design documents result
    has_asked documents some = record {
      between = between.servers;
      pool_between = between.pool;
      mapped = mapped;
      maps = some;
      keeps = maps.keeps;
      later = maps.later;
      twice = maps.blames;
      reduces = reduces;
    }

    pub asked_some : (documents : List (List (List ℕ × Json))) × HasAskedFor s old.servers new.servers old.pool new.pool design documents result
    asked_some = (documents_of maps.asked.changes, has_asked (documents_of maps.asked.changes) maps.asked.mapped)

    -- over documents at a history those that it has since
    pub asked_since : seq_of old.index ≢ written docs → (history : List Write) → IfTold (f.disk old.folder) (λ d. AreAt docs d.now history → AsksSince f s docs design old new history result)
    asked_since differs history =
        told_now (f.disk old.folder) (λ d. AreAt docs d.now history → MappedSince mapped history) (λ d. AreAt docs d.now history → AsksSince f s docs design old new history result)
        (λ d asks is. inr ((λ same. differs (same ∙ sym is.count)), has_asked (documents_since (seq_of old.index) history) (some_since mapped history (asks is)))) (maps.asks history)
