-- What a call keeps of the disk that writes nothing, and the causes of the faults of a call that only reads.
use Rattle.std.proofs.Common.{◌≡◌, ◌≤◌, ℕ, Result, Ok, Option, inl, refl, sym, subst, arith}
use Rattle.std.proofs.lemmas.Result.{IfErr-weaker}
use Rattle.view_ports.specs.Disk.{MovesNone, Tells}
use Rattle.view_ports.specs.Faults.{Rose}
use Rattle.view_ports.specs.declared.file_name.FileName.{FileName}
use Rattle.view_ports.specs.declared.folder.Folder.{Ghosts as Folders}
use Rattle.view_ports.proofs.DiskRuns.{none_refl}
use Rattle.view_ports.proofs.Told.{told_back, told_now, told_refl}
use Rattle.gate_file.specs.declared.fault.GateFault.TheVariants as gate
use Rattle.gate_file.proofs.Looks.{told_none_then}
use Rattle.doc_file.specs.declared.docs.Docs.{Docs}
use Rattle.doc_file.specs.declared.fault.DocFault.{DocFault}
use Rattle.doc_file.specs.declared.fault.DocFault.TheVariants as doc
use Rattle.doc_file.specs.Docs.{IsAt as AreAt, IsOpen, IsSame}
use Rattle.view_engine.specs.declared.engine.Engine.{Engine}
use Rattle.view_engine.specs.declared.halt.Halt.{Halt}
use Rattle.view_engine.specs.declared.halt.Halt.TheVariants.{Refused, Stopped}
use Rattle.view_engine.specs.declared.halt.StepFault.{StepFault}
use Rattle.view_engine.specs.declared.halt.StepFault.TheVariants.{DiskFault, Damaged, Full, NoMemory}
use Rattle.view_engine.specs.declared.refusal.Refusal.{Refusal}
use Rattle.view_engine.specs.declared.request.Request.{Request}
use Rattle.view_engine.specs.declared.request.Request.TheVariants.{Cleanup, Get, View}
use Rattle.view_engine.specs.Disks.{AreOpen, IfStopped, IsReadReason, IsReason, IsReasonOf, KeepsDisk, KeepsDocuments, Reads, ReadsDocuments}
use Rattle.view_engine.specs.Halts.{halted_as, FitsFor, IsDamage}
use Rattle.view_engine.proofs.Keeping.{moved_none, moved_still, open_none}
use Rattle.view_engine.proofs.OwnFiles.{own_none, own_still}
use Rattle.view_engine.proofs.SameDocs.{IsOpen-same}
use Rattle.view_engine.proofs.SameFiles.{damage_back}
use Rattle.view_engine.proofs.Still.{still_same}
use Rattle.view_engine.proofs.Unmoved.{IsAt-none}

module _ {F : Type 0} {f : Folders F} {docs : Docs} {request : Result Request Refusal} {GivenUp GoesOn : Type 0} where
  -- nothing was called
  pub documents_still : {folder : F} → AreOpen f docs folder → KeepsDocuments f docs docs folder folder request GivenUp GoesOn
  documents_still {folder} is_open = record {
    moved = λ world at. moved_still docs (f.disk folder) request world at;
    own = own_still (f.disk folder);
    read = λ never. told_refl (f.disk folder) MovesNone none_refl;
    unmoved = λ given. told_refl (f.disk folder) MovesNone none_refl;
    still = λ world at never. still_same docs (f.disk folder) request world at never;
    is_open = λ goes_on. is_open;
  }

  -- no file changed
  pub documents_read : {old new : F} → Tells (f.disk old) (f.disk new) MovesNone → AreOpen f docs old → KeepsDocuments f docs docs old new request GivenUp GoesOn
  documents_read {old} {new} none is_open = record {
    moved = λ world at. moved_none docs (f.disk old) (f.disk new) none request world at;
    own = own_none (f.disk old) (f.disk new) none;
    read = λ never. none;
    unmoved = λ given. none;
    still = λ world at never. none;
    is_open = λ goes_on. open_none docs (f.disk old) (f.disk new) none is_open;
  }

  -- what was to be written and wasn't
  pub documents_same : {docs' : Docs} {old new : F} → IsSame docs docs' × (new ≡ old) → AreOpen f docs old → KeepsDocuments f docs docs' old new request GivenUp GoesOn
  documents_same {docs'} {old} {new} same is_open =
      let there : KeepsDocuments f docs docs' old old request GivenUp GoesOn = record {
        moved = λ world at. moved_still docs (f.disk old) request world at;
        own = own_still (f.disk old);
        read = λ never. told_refl (f.disk old) MovesNone none_refl;
        unmoved = λ given. told_refl (f.disk old) MovesNone none_refl;
        still = λ world at never. still_same docs (f.disk old) request world at never;
        is_open = λ goes_on. told_now (f.disk old) (λ d. IsOpen docs d.now) (λ d. IsOpen docs' d.now) (λ d opened. IsOpen-same docs docs' d.now same.0 opened) is_open;
      } in
      subst (λ (folder : F). KeepsDocuments f docs docs' old folder request GivenUp GoesOn) (sym same.1) there

  -- less is asked of how it ended
  documents_ends : {docs' : Docs} {old new : F} {Given Goes : Type 0} → (GivenUp → Given) → (GoesOn → Goes) → KeepsDocuments f docs docs' old new request Given Goes
      → KeepsDocuments f docs docs' old new request GivenUp GoesOn
  documents_ends given goes keeps = record {
    moved = keeps.moved;
    own = keeps.own;
    read = keeps.read;
    unmoved = λ was. keeps.unmoved (given was);
    still = keeps.still;
    is_open = λ was. keeps.is_open (goes was);
  }

-- the same of an engine
pub disk_ends : {F : Type 0} {f : Folders F} {engine engine' : Engine} {old new : F} {request : Result Request Refusal} {GivenUp GoesOn Given Goes : Type 0} → (GivenUp → Given) → (GoesOn → Goes)
    → KeepsDisk f engine engine' old new request Given Goes → KeepsDisk f engine engine' old new request GivenUp GoesOn
disk_ends given goes keeps = record {
  documents = λ other. documents_ends given goes (keeps.documents other);
  indexes = keeps.indexes;
  is_open = λ was. keeps.is_open (goes was);
}

-- ---- causes

-- a request that reads documents writes none
pub reads_fit : (docs : Docs) (request : Result Request Refusal) → ReadsDocuments request → FitsFor docs request
reads_fit docs (Ok (Get id)) reads = tt
reads_fit docs (Ok (View name limits)) reads = tt
reads_fit docs (Ok Cleanup) reads = tt
reads_fit docs other reads = absurd reads

module _ {F : Type 0} (f : Folders F) (docs : Docs) where
  reason_of_read : (old new : F) (request : Result Request Refusal) (fault : StepFault) → ReadsDocuments request → IsReadReason f docs old new fault → IsReason f docs old new request fault
  reason_of_read old new request DiskFault reads is = (is, reads_fit docs request reads)
  reason_of_read old new request (Damaged name at) reads is = (reads, is)
  reason_of_read old new request (Full name length) reads is = absurd is
  reason_of_read old new request NoMemory reads is = tt

  -- a request that only reads
  pub read_halted : (old new : F) (request : Result Request Refusal) (halt : Halt) → ReadsDocuments request → IfStopped (IsReadReason f docs old new) halt → IfStopped (IsReason f docs old new request) halt
  read_halted old new request (Refused refusal) reads why = tt
  read_halted old new request (Stopped fault) reads why = reason_of_read old new request fault reads why

  -- after a call that changed no file
  reason_then : (a b c : F) (fault : StepFault) → Tells (f.disk a) (f.disk b) MovesNone → f.faults a ≤ f.faults b → IsReadReason f docs b c fault → IsReadReason f docs a c fault
  reason_then a b c DiskFault none later rose = omega arith
  reason_then a b c (Damaged name at) none later is = (
    told_back (f.disk a) (f.disk b) (λ d. IsDamage docs d.now name at) (λ d. IsDamage docs d.now name at) MovesNone (λ x y same damage. damage_back docs x y same name at damage) none is.0,
    λ world. told_back (f.disk a) (f.disk b) (λ d. AreAt docs d.now world.history → ⊥) (λ d. AreAt docs d.now world.history → ⊥) MovesNone
        (λ x y same never here. never (IsAt-none docs world.history x y here same)) none (is.1 world),
  )
  reason_then a b c (Full name length) none later is = is
  reason_then a b c NoMemory none later is = tt

  halted_then : (a b c : F) (halt : Halt) → Tells (f.disk a) (f.disk b) MovesNone → f.faults a ≤ f.faults b → IfStopped (IsReadReason f docs b c) halt → IfStopped (IsReadReason f docs a c) halt
  halted_then a b c (Refused refusal) none later is = tt
  halted_then a b c (Stopped fault) none later is = reason_then a b c fault none later is

  -- a fault of the documents, as a request meets it
  pub read_reason : (old new : F) (fault : DocFault) → (fault ≡ doc.Gate gate.DiskFault → Rose (f.faults old) (f.faults new))
      → ((name : FileName) (at : ℕ) → fault ≡ doc.Gate (gate.Damaged name at) → IsReadReason f docs old new (Damaged name at))
      → ((name : FileName) (length : Option ℕ) → fault ≡ doc.Gate (gate.Full name length) → ⊥) → IfStopped (IsReadReason f docs old new) (halted_as fault)
  read_reason old new doc.BadId rose damaged full = tt
  read_reason old new (doc.BadMember name) rose damaged full = tt
  read_reason old new doc.BadRev rose damaged full = tt
  read_reason old new doc.TooLarge rose damaged full = tt
  read_reason old new doc.TooDeep rose damaged full = tt
  read_reason old new (doc.BadDesign fault) rose damaged full = tt
  read_reason old new doc.Conflict rose damaged full = tt
  read_reason old new doc.Missing rose damaged full = tt
  read_reason old new doc.Deleted rose damaged full = tt
  read_reason old new (doc.Gate gate.DiskFault) rose damaged full = rose refl
  read_reason old new (doc.Gate (gate.Damaged name at)) rose damaged full = damaged name at refl
  read_reason old new (doc.Gate (gate.Full name length)) rose damaged full = absurd (full name length refl)
  read_reason old new (doc.Gate gate.NoMemory) rose damaged full = tt
  read_reason old new doc.NoMemory rose damaged full = tt

-- what is told of a fault of the documents is told of the engine's
pub documents_reason : {F : Type 0} (f : Folders F) (engine engine' : Engine) (old new : F) (request : Result Request Refusal) (halt : Halt) → IfStopped (IsReason f engine.docs old new request) halt
    → IfStopped (IsReasonOf f engine engine' old new request) halt
documents_reason f engine engine' old new request (Refused refusal) why = tt
documents_reason f engine engine' old new request (Stopped fault) why = inl why

-- two calls that only read, one after the other
pub reads_then : {F S T : Type 0} {f : Folders F} {docs : Docs} {a b c : F} {first : Result S Halt} {second : Result T Halt} → Reads f docs a b first → Reads f docs b c second → Reads f docs a c second
reads_then {f = f} {docs = docs} {a = a} {b = b} {c = c} {second = second} x y = record {
  disk = told_none_then (f.disk a) (f.disk b) (f.disk c) x.disk y.disk;
  why = IfErr-weaker second (IfStopped (IsReadReason f docs b c)) (IfStopped (IsReadReason f docs a c)) (λ halt is. halted_then f docs a b c halt x.disk x.later is) y.why;
  later = omega (arith, x.later, y.later);
}
