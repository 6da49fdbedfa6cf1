-- Calls that only read the folder, and their faults.
use Rattle.std.specs.Prelude.{◌≡◌, ◌≢◌, ℕ, List, Result, Ok, Err, IsErr, IsErrAnd}
use Rattle.std.proofs.Common.{refl, ap, sym, ◌∙◌, subst, inl, inr}
use Rattle.std.proofs.lemmas.Result.{err_from_is_err_and}
use Rattle.view_ports.specs.Disk.{IfTold, MovesNone, Tells}
use Rattle.view_ports.specs.declared.file_name.FileName.{FileName}
use Rattle.view_ports.specs.declared.folder.Folder.{Ghosts as Folders}
use Rattle.view_ports.specs.Faults.{CountsFor}
use Rattle.view_ports.specs.File.{File}
use Rattle.view_ports.proofs.DiskRuns.{none_same}
use Rattle.view_ports.proofs.Told.{told_all, told_back, told_now}
use Rattle.gate_file.proofs.Looks.{told_none_then}
use Rattle.gate_file.specs.declared.fault.GateFault.{GateFault}
use Rattle.gate_file.specs.declared.fault.GateFault.TheVariants.{DiskFault, Damaged}
use Rattle.gate_file.specs.GateFile.{name_of}
use Rattle.doc_file.specs.declared.docs.Docs.{Docs}
use Rattle.doc_file.specs.declared.fault.DocFault.{DocFault}
use Rattle.doc_file.specs.declared.fault.DocFault.TheVariants as doc
use Rattle.doc_file.specs.Changes.{IsSpoiledAfter}
use Rattle.doc_file.specs.Docs.{bytes_in, file_of, IsAt as AreAt, IsLoaded as AreLoaded}
use Rattle.design_docs.specs.History.{Write}
use Rattle.doc_file.specs.Reads.{FindsDamage, IsReadFault as IsOfRead}
use Rattle.child_pool.specs.declared.pool_fault.PoolFault.{PoolFault}
use Rattle.child_pool.specs.declared.pool_fault.PoolFault.TheVariants as pool
use Rattle.change_mapper.specs.declared.fault.MappingFault.{MappingFault}
use Rattle.change_mapper.specs.declared.fault.MappingFault.TheVariants.{Docs as OfDocuments, NoMemory, Pool as OfPool}
use Rattle.change_mapper.specs.Faults.{by_documents, by_pool, IsReadFault}
use Rattle.change_mapper.specs.Mapped.{IsBreak, OnlyReads}
use Rattle.change_mapper.specs.Written.{IsBodyDamaged}

-- a refusal by this fault
pub failed_as : {T E : Type 0} (result : Result T E) (fault : E) → IsErr result × IsErrAnd result (λ e. e ≡ fault) → result ≡ Err fault
failed_as result fault is = let err = err_from_is_err_and result is.1 in err.1 ∙ ap Err err.2

-- ---- faults of the documents

of_documents : (fault : DocFault) (gate : GateFault) → by_documents fault ≡ OfDocuments gate → fault ≡ doc.Gate gate
of_documents (doc.Gate fault) gate is = cc
of_documents other gate is = cc

-- a read meets a fault of the file, or want of memory
read_fault : (fault : DocFault) → IsOfRead fault → IsReadFault (by_documents fault)
read_fault fault (inl disk) = subst (λ (e : DocFault). IsReadFault (by_documents e)) (sym disk) tt
read_fault fault (inr (inl want)) = subst (λ (e : DocFault). IsReadFault (by_documents e)) (sym want) tt
read_fault fault (inr (inr damaged)) = subst (λ (e : DocFault). IsReadFault (by_documents e)) (sym damaged.2) tt

-- a fault that is none of the documents
of_no_read : (fault : MappingFault) → ((gate : GateFault) → fault ≡ OfDocuments gate → ⊥) → IsReadFault fault
of_no_read NoMemory never = tt
of_no_read (OfPool fault) never = tt
of_no_read (OfDocuments fault) never = absurd (never fault refl)

-- what is found damaged is the body of a last write, where the documents are loaded
abbrev pub FindsBodies : {T : Type 0} → Docs → Result T MappingFault → (FileName → File) → Type 0
FindsBodies docs result files = AreLoaded docs files → (name : FileName) (at : ℕ) → result ≡ Err (OfDocuments (Damaged name at)) → IsBodyDamaged docs files name at

abbrev documents_failed : (T : Type 0) → DocFault → Result T DocFault
documents_failed T fault = Err fault

abbrev pub failed : (T : Type 0) → MappingFault → Result T MappingFault
failed T fault = Err fault

pub documents_break : (T : Type 0) (fault : DocFault) → IsBreak (failed T (by_documents fault))
documents_break T (doc.Gate fault) = tt
documents_break T other = tt

-- what broke off one call breaks off another
pub break_of : (S T : Type 0) (fault : MappingFault) → IsBreak (failed S fault) → IsBreak (failed T fault)
break_of S T NoMemory is = tt
break_of S T (OfDocuments fault) is = tt
break_of S T (OfPool fault) is = absurd is

abbrev pub done_as : (T : Type 0) → T → Result T MappingFault
done_as T value = Ok value

module _ {F : Type 0} (f : Folders F) (docs : Docs) (old new : F) where
  -- the documents couldn't be read
  pub read_failed : {S T : Type 0} (seq : ℕ) (fault : DocFault) (result : Result T MappingFault) → result ≡ Err (by_documents fault) → Tells (f.disk old) (f.disk new) MovesNone
      → CountsFor (doc.Gate DiskFault) (f.faults old) (f.faults new) (documents_failed S fault)
      → ((history : List Write) → IfTold (f.disk old) (λ d. AreAt docs d.now history → (name : FileName) (at : ℕ) → documents_failed S fault ≡ Err (doc.Gate (Damaged name at)) → ⊥))
      → IsOfRead fault
      → IfTold (f.disk old) (λ d. AreLoaded docs d.now → FindsDamage (λ name at. (name ≡ name_of (file_of docs)) × IsSpoiledAfter docs (bytes_in docs d.now) seq at) (documents_failed S fault))
      → OnlyReads f docs old new result
  read_failed {S = S} {T = T} seq fault result is disk cause sound reads damaged = subst (OnlyReads f docs old new) (sym is) (record {
    disk = disk;
    faults = read_fault fault reads;
    counted = record {
      later = cause.later;
      failed = λ told. cause.failed (of_documents fault DiskFault told);
      still = λ differs. cause.still (λ told. differs (ap (λ (e : DocFault). failed T (by_documents e)) (let same : fault ≡ doc.Gate DiskFault = cc in same)));
    };
    sound = λ history. told_now (f.disk old) (λ d. AreAt docs d.now history → (name : FileName) (at : ℕ) → documents_failed S fault ≡ Err (doc.Gate (Damaged name at)) → ⊥)
        (λ d. AreAt docs d.now history → (name : FileName) (at : ℕ) → failed T (by_documents fault) ≢ Err (OfDocuments (Damaged name at)))
        (λ d never here name at told. never here name at (ap (documents_failed S) (of_documents fault (Damaged name at) (let same : by_documents fault ≡ OfDocuments (Damaged name at) = cc in same)))) (sound history);
    damaged = told_now (f.disk old) (λ d. AreLoaded docs d.now → FindsDamage (λ name at. (name ≡ name_of (file_of docs)) × IsSpoiledAfter docs (bytes_in docs d.now) seq at) (documents_failed S fault))
        (λ d. FindsBodies docs (failed T (by_documents fault)) d.now)
        (λ d spoiled loaded name at told.
        let found = spoiled loaded name at (ap (documents_failed S) (of_documents fault (Damaged name at) (let same : by_documents fault ≡ OfDocuments (Damaged name at) = cc in same))) in
        (found.0, seq, found.1)) damaged;
  })

  -- the same of another call's result
  pub same_failed : {S T : Type 0} (fault : MappingFault) (result : Result T MappingFault) → result ≡ Err fault → OnlyReads f docs old new (failed S fault) → OnlyReads f docs old new result
  same_failed {S = S} {T = T} fault result is reads = subst (OnlyReads f docs old new) (sym is) (record {
    disk = reads.disk;
    faults = reads.faults;
    counted = record {
      later = reads.counted.later;
      failed = reads.counted.failed;
      still = λ differs. reads.counted.still (λ told. differs (ap (failed T) (let same : fault ≡ OfDocuments DiskFault = cc in same)));
    };
    sound = λ history. told_now (f.disk old) (λ d. AreAt docs d.now history → (name : FileName) (at : ℕ) → failed S fault ≢ Err (OfDocuments (Damaged name at)))
        (λ d. AreAt docs d.now history → (name : FileName) (at : ℕ) → failed T fault ≢ Err (OfDocuments (Damaged name at)))
        (λ d never here name at told. never here name at (ap (failed S) (let same : fault ≡ OfDocuments (Damaged name at) = cc in same))) (reads.sound history);
    damaged = told_now (f.disk old) (λ d. FindsBodies docs (failed S fault) d.now) (λ d. FindsBodies docs (failed T fault) d.now)
        (λ d found loaded name at told. found loaded name at (ap (failed S) (let same : fault ≡ OfDocuments (Damaged name at) = cc in same))) reads.damaged;
  })

  -- they were read, and then something else failed
  pub read_then : {S T : Type 0} (value : S) (fault : MappingFault) (result : Result T MappingFault) → result ≡ Err fault → ((gate : GateFault) → fault ≡ OfDocuments gate → ⊥)
      → OnlyReads f docs old new (done_as S value) → OnlyReads f docs old new result
  read_then {S = S} {T = T} value fault result is never reads = subst (OnlyReads f docs old new) (sym is) (record {
    disk = reads.disk;
    faults = of_no_read fault never;
    counted = record { later = reads.counted.later; failed = λ told. absurd (never DiskFault told); still = λ differs. reads.counted.still (λ told. cc) };
    sound = λ history. told_all (f.disk old) (λ d. AreAt docs d.now history → (name : FileName) (at : ℕ) → failed T fault ≢ Err (OfDocuments (Damaged name at)))
        (λ d here name at told. never (Damaged name at) (let same : fault ≡ OfDocuments (Damaged name at) = cc in same));
    damaged = told_all (f.disk old) (λ d. FindsBodies docs (failed T fault) d.now)
        (λ d loaded name at told. absurd (never (Damaged name at) (let same : fault ≡ OfDocuments (Damaged name at) = cc in same)));
  })

  -- or nothing did
  pub read_well : {S T : Type 0} (value : S) (done : T) → OnlyReads f docs old new (done_as S value) → OnlyReads f docs old new (done_as T done)
  read_well {S = S} {T = T} value done reads = record {
    disk = reads.disk;
    faults = tt;
    counted = record { later = reads.counted.later; failed = tt; still = λ differs. reads.counted.still (λ told. cc) };
    sound = λ history. told_all (f.disk old) (λ d. AreAt docs d.now history → (name : FileName) (at : ℕ) → done_as T done ≢ Err (OfDocuments (Damaged name at))) (λ d here name at told. cc);
    damaged = told_all (f.disk old) (λ d. FindsBodies docs (done_as T done) d.now) (λ d loaded name at told. cc);
  }

-- ---- one call that only reads behind others

module _ {F : Type 0} (f : Folders F) (docs : Docs) (old mid : F) (disk : Tells (f.disk old) (f.disk mid) MovesNone) where
  -- what is known over a history now was known before
  pub known_before : (X : List Write → Type 0) → ((history : List Write) → IfTold (f.disk mid) (λ d. AreAt docs d.now history → X history))
      → (history : List Write) → IfTold (f.disk old) (λ d. AreAt docs d.now history → X history)
  known_before X told history =
      told_back (f.disk old) (f.disk mid) (λ d. AreAt docs d.now history → X history) (λ d. AreAt docs d.now history → X history) MovesNone
      (λ a b none known here.
      let files : b.now ≡ a.now = λ i name. none_same a b none name i in
      known (subst (λ (fs : FileName → File). AreAt docs fs history) (sym files) here)) disk (told history)

  -- and so was what is known of loaded documents
  pub loaded_before : (X : List ℕ → Type 0) → IfTold (f.disk mid) (λ d. AreLoaded docs d.now → X (bytes_in docs d.now)) → IfTold (f.disk old) (λ d. AreLoaded docs d.now → X (bytes_in docs d.now))
  loaded_before X told =
      told_back (f.disk old) (f.disk mid) (λ d. AreLoaded docs d.now → X (bytes_in docs d.now)) (λ d. AreLoaded docs d.now → X (bytes_in docs d.now)) MovesNone
      (λ a b none known.
      let files : b.now ≡ a.now = λ i name. none_same a b none name i in
      subst (λ (fs : FileName → File). AreLoaded docs fs → X (bytes_in docs fs)) files known) disk told

  -- what is found damaged now was so before
  bodies_before : {T : Type 0} (result : Result T MappingFault) → IfTold (f.disk mid) (λ d. FindsBodies docs result d.now) → IfTold (f.disk old) (λ d. FindsBodies docs result d.now)
  bodies_before result found =
      told_back (f.disk old) (f.disk mid) (λ d. FindsBodies docs result d.now) (λ d. FindsBodies docs result d.now) MovesNone
      (λ a b none known.
      let files : b.now ≡ a.now = λ i name. none_same a b none name i in
      subst (λ (fs : FileName → File). FindsBodies docs result fs) files known) disk found

  pub reads_then : {T : Type 0} (new : F) (result : Result T MappingFault) → f.faults mid ≡ f.faults old → OnlyReads f docs mid new result → OnlyReads f docs old new result
  reads_then new result same reads = record {
    disk = told_none_then (f.disk old) (f.disk mid) (f.disk new) disk reads.disk;
    faults = reads.faults;
    counted = subst (λ (n : ℕ). CountsFor (OfDocuments DiskFault) n (f.faults new) result) same reads.counted;
    sound = known_before (λ history. (name : FileName) (at : ℕ) → result ≢ Err (OfDocuments (Damaged name at))) reads.sound;
    damaged = bodies_before result reads.damaged;
  }

-- ---- faults of the pool

pub pool_of_no_documents : (fault : PoolFault) (gate : GateFault) → by_pool fault ≡ OfDocuments gate → ⊥
pool_of_no_documents pool.NoMemory gate is = cc
pool_of_no_documents pool.ServerFault gate is = cc
pool_of_no_documents (pool.BadReply line) gate is = cc
pool_of_no_documents pool.Compile gate is = cc
pool_of_no_documents pool.UnknownLanguage gate is = cc
