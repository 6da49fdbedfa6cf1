-- A request that only reads the documents.
use Rattle.std.specs.Result.{IsErrAnd}
use Rattle.std.proofs.Common.{◌≡◌, ◌≢◌, ◌≤◌, ◌⊎◌, ◌++◌, ℕ, List, true, false, Option, inl, inr, Result, Ok, Err, refl, sym, ap, ◌∙◌, subst}
use Rattle.std.proofs.lemmas.Result.{err_from_is_err_and}
use Rattle.view_ports.specs.Faults.{CountsFor}
use Rattle.view_ports.specs.Disk.{IfTold, MovesNone, Tells}
use Rattle.view_ports.specs.declared.file_name.FileName.{FileName}
use Rattle.gate_file.specs.GateFile.{name_of}
use Rattle.gate_file.specs.declared.fault.GateFault.TheVariants as gate
use Rattle.doc_file.specs.declared.fault.DocFault.{DocFault}
use Rattle.doc_file.specs.declared.fault.DocFault.TheVariants as doc
use Rattle.view_ports.specs.Lines.{ended}
use Rattle.view_ports.specs.declared.folder.Folder.{Ghosts as Folders}
use Rattle.view_ports.proofs.Told.{told_all, told_now, told_pair}
use Rattle.doc_file.specs.declared.docs.Docs.{Docs}
use Rattle.doc_file.specs.Docs.{bytes_in, file_of, is_deleted, last_of, IsAt as AreAt, IsSpoiled}
use Rattle.design_docs.specs.History.{Write}
use Rattle.view_engine.specs.declared.halt.Halt.{Halt}
use Rattle.view_engine.specs.declared.halt.Halt.TheVariants.{Refused, Stopped}
use Rattle.view_engine.specs.declared.halt.StepFault.{StepFault}
use Rattle.view_engine.specs.declared.halt.StepFault.TheVariants.{DiskFault, Damaged, Full, NoMemory}
use Rattle.view_engine.specs.declared.refusal.Refusal.{Refusal}
use Rattle.view_engine.specs.declared.refusal.Refusal.TheVariants.{ServerFault}
use Rattle.view_engine.specs.declared.request.Request.{Request}
use Rattle.view_engine.specs.Calls.{ActsHere, DoesHere, DoesHereBy, IsRefusedHere, IsReplyLine, IsUnlikeFault}
use Rattle.view_engine.specs.Disks.{AreOpen, IfStopped, IsReadReason, Reads, ReadsDocuments}
use Rattle.view_engine.specs.Halts.{halted_as, FitsFor, IsDamage}
use Rattle.view_engine.specs.InMemory.{IsAcceptedBy, IsRefusedBy, IsReplyBy, IsUntouchedBy, IsWrittenBy}
use Rattle.view_engine.specs.World.{World}
use Rattle.view_engine.proofs.Following.{follows_halt, same_docs}
use Rattle.view_engine.proofs.HaltedAs.{not_deleted, spoiled_damage}
use Rattle.view_engine.proofs.Keeping.{at_none}
use Rattle.view_engine.proofs.OnDisk.{documents_read, read_halted, read_reason}
use Rattle.view_engine.proofs.ServerFaults.{err_unblamed}

-- the definition is met in each world that the documents are at
abbrev pub IsMetIn : {F : Type 0} → Folders F → Docs → F → (World → Type 0) → Type 0
IsMetIn f docs old P = (world : World) → IfTold (f.disk old) (λ d. AreAt docs d.now world.history → P world)

halted_so : {F : Type 0} (f : Folders F) (docs : Docs) (old new : F) (request : Request) (out out' : List ℕ) (halt : Halt) → Tells (f.disk old) (f.disk new) MovesNone
    → ((refusal : Refusal) → halt ≡ Refused refusal → IsMetIn f docs old (λ world. IsRefusedHere world request refusal)) → DoesHereBy f docs docs old new request out out' (Err halt)
halted_so f docs old new request out out' (Refused refusal) none refused = λ world at. record {
  after = world;
  is_at = at_none docs (f.disk old) (f.disk new) none world.history at;
  allowed = told_pair (f.disk old) (λ d. AreAt docs d.now world.history) (λ d. AreAt docs d.now world.history → IsRefusedHere world request refusal)
      (λ d. (world ≡ world) × IsRefusedHere world request refusal) (λ d here is. (refl, is here)) at (refused refusal refl world);
}
halted_so f docs old new request out out' (Stopped NoMemory) none refused = λ world at. record {
  after = world;
  is_at = at_none docs (f.disk old) (f.disk new) none world.history at;
  allowed = told_all (f.disk old) (λ d. world ≡ world) (λ d. refl);
}
halted_so f docs old new request out out' (Stopped DiskFault) none refused = tt
halted_so f docs old new request out out' (Stopped (Damaged name at)) none refused = tt
halted_so f docs old new request out out' (Stopped (Full name length)) none refused = tt

module _ {F : Type 0} {f : Folders F} {docs : Docs} {old new : F} {request : Request} {out out' : List ℕ} (is_open : AreOpen f docs old) (none : Tells (f.disk old) (f.disk new) MovesNone) (later : f.faults old ≤ f.faults new) where
  pub read_done : FitsFor docs (Ok request) → (reply : List ℕ) → IsReplyLine reply → IsUnlikeFault (Ok request) reply → IsAcceptedBy docs request → IsReplyBy f docs old request reply → IsWrittenBy docs docs request → IsUntouchedBy docs docs old new (Ok request) → out' ≡ out ++ ended reply
      → IsMetIn f docs old (λ world. DoesHere world request reply world) → ActsHere f docs docs old new request out out' (Ok tt)
  read_done fits reply line unlike accepted prints wrote left appended does = record {
    does = record {
      reply = reply;
      line = line;
      appended = appended;
      unlike = unlike;
      does = λ world at. record {
        after = world;
        is_at = at_none docs (f.disk old) (f.disk new) none world.history at;
        allowed = told_pair (f.disk old) (λ d. AreAt docs d.now world.history) (λ d. AreAt docs d.now world.history → DoesHere world request reply world)
            (λ d. DoesHere world request reply world) (λ d here is. is here) at (does world);
      };
    };
    silent = tt;
    unblamed = λ never. cc;
    follows = record { accepted = accepted; reply = reply; is = prints; appended = appended; kept = λ none. left; wrote = wrote };
    fits = fits;
    disk = documents_read none is_open;
    why = tt;
    later = later;
  }

  pub read_stopped : {halt : Halt} → halt ≢ Refused ServerFault → ReadsDocuments (Ok request) → out' ≡ out → ((refusal : Refusal) → halt ≡ Refused refusal → IsRefusedBy docs request refusal) → ((fault : StepFault) → halt ≡ Stopped fault → fault ≢ NoMemory → IsAcceptedBy docs request)
      → ((refusal : Refusal) → halt ≡ Refused refusal → IsMetIn f docs old (λ world. IsRefusedHere world request refusal)) → IfStopped (IsReadReason f docs old new) halt → ActsHere f docs docs old new request out out' (Err halt)
  read_stopped {halt} other is_read silent refuses accepted refused why = record {
    does = halted_so f docs old new request out out' halt none refused;
    silent = silent;
    unblamed = err_unblamed halt other;
    follows = follows_halt f docs docs old new out out' request halt refuses accepted (inr (record { documents = same_docs docs; folder = λ none. absurd (none is_read) }));
    fits = tt;
    disk = documents_read none is_open;
    why = read_halted f docs old new (Ok request) halt is_read why;
    later = later;
  }

  pub read_spent : {result : Result (Unit {0}) Halt} → ReadsDocuments (Ok request) → out' ≡ out → IsErrAnd result (λ halt. halt ≡ Stopped NoMemory) → ActsHere f docs docs old new request out out' result
  read_spent {result} is_read silent is =
      let err = err_from_is_err_and result is in
      let spent : result ≡ Err (Stopped NoMemory) = err.1 ∙ ap Err err.2 in
      subst (λ (r : Result (Unit {0}) Halt). ActsHere f docs docs old new request out out' r) (sym spent)
      (read_stopped (λ is. cc) is_read silent (λ refusal is. absurd (let never : ⊥ = cc in never)) (λ fault is other. absurd (other (let same : fault ≡ NoMemory = cc in same))) (λ refusal is. absurd (let never : ⊥ = cc in never)) tt)

-- ---- faults of the documents' calls that only read

not_full : (fault : DocFault) → (fault ≡ doc.Gate gate.DiskFault) ⊎ (fault ≡ doc.NoMemory) ⊎ ((name : FileName) × (at : ℕ) × (fault ≡ doc.Gate (gate.Damaged name at)))
    → (n : FileName) (length : Option ℕ) → fault ≡ doc.Gate (gate.Full n length) → ⊥
not_full fault (inl so) n length is = let clash : doc.Gate gate.DiskFault ≡ doc.Gate (gate.Full n length) = sym so ∙ is in cc
not_full fault (inr (inl so)) n length is = let clash : doc.NoMemory ≡ doc.Gate (gate.Full n length) = sym so ∙ is in cc
not_full fault (inr (inr so)) n length is = let clash : doc.Gate (gate.Damaged so.0 so.1) ≡ doc.Gate (gate.Full n length) = sym so.2 ∙ is in cc

pub not_full_get : (fault : DocFault)
    → (fault ≡ doc.Missing) ⊎ (fault ≡ doc.Deleted) ⊎ (fault ≡ doc.Gate gate.DiskFault) ⊎ (fault ≡ doc.NoMemory) ⊎ ((name : FileName) × (at : ℕ) × (fault ≡ doc.Gate (gate.Damaged name at)))
    → (n : FileName) (length : Option ℕ) → fault ≡ doc.Gate (gate.Full n length) → ⊥
not_full_get fault (inl so) n length is = let clash : doc.Missing ≡ doc.Gate (gate.Full n length) = sym so ∙ is in cc
not_full_get fault (inr (inl so)) n length is = let clash : doc.Deleted ≡ doc.Gate (gate.Full n length) = sym so ∙ is in cc
not_full_get fault (inr (inr so)) n length is = not_full fault so n length is

abbrev failed : (T : Type 0) → DocFault → Result T DocFault
failed T fault = Err fault

-- damage is that of a live document, since a deletion is met as one
damage_live : (T : Type 0) (docs : Docs) (id : List ℕ) (fault : DocFault) (n : FileName) (at : ℕ) → (is_deleted (last_of docs id) ≡ true → failed T fault ≡ Err doc.Deleted)
    → fault ≡ doc.Gate (gate.Damaged n at) → is_deleted (last_of docs id) ≡ false
damage_live T docs id fault n at deleted is =
    not_deleted (is_deleted (last_of docs id)) (λ so. let clash : failed T (doc.Gate (gate.Damaged n at)) ≡ failed T doc.Deleted = ap (failed T) (sym is) ∙ deleted so in cc)

module _ {F : Type 0} (T : Type 0) (f : Folders F) (docs : Docs) (old new : F) where
  -- `get` failed
  pub why_of_get : (id : List ℕ) (fault : DocFault) → CountsFor (doc.Gate gate.DiskFault) (f.faults old) (f.faults new) (failed T fault)
      → (is_deleted (last_of docs id) ≡ true → failed T fault ≡ Err doc.Deleted)
      → IfTold (f.disk old) (λ d. (n : FileName) (at : ℕ) → failed T fault ≡ Err (doc.Gate (gate.Damaged n at)) → (n ≡ name_of (file_of docs)) × IsSpoiled id (bytes_in docs d.now) (last_of docs id) at)
      → ((history : List Write) → IfTold (f.disk old) (λ d. AreAt docs d.now history → (n : FileName) (at : ℕ) → failed T fault ≡ Err (doc.Gate (gate.Damaged n at)) → ⊥))
      → (fault ≡ doc.Missing) ⊎ (fault ≡ doc.Deleted) ⊎ (fault ≡ doc.Gate gate.DiskFault) ⊎ (fault ≡ doc.NoMemory) ⊎ ((name : FileName) × (at : ℕ) × (fault ≡ doc.Gate (gate.Damaged name at)))
      → IfStopped (IsReadReason f docs old new) (halted_as fault)
  why_of_get id fault cause deleted damaged sound faults =
      read_reason f docs old new fault cause.failed (λ n at is. (
        told_now (f.disk old) (λ d. (n : FileName) (at : ℕ) → failed T fault ≡ Err (doc.Gate (gate.Damaged n at)) → (n ≡ name_of (file_of docs)) × IsSpoiled id (bytes_in docs d.now) (last_of docs id) at)
            (λ d. IsDamage docs d.now n at) (λ d there. spoiled_damage docs d.now n id at (damage_live T docs id fault n at deleted is) (there n at (ap Err is))) damaged,
        λ world. told_now (f.disk old) (λ d. AreAt docs d.now world.history → (n : FileName) (at : ℕ) → failed T fault ≡ Err (doc.Gate (gate.Damaged n at)) → ⊥) (λ d. AreAt docs d.now world.history → ⊥)
            (λ d never here. never here n at (ap Err is)) (sound world.history),
      )) (not_full_get fault faults)

-- the same of a call that only reads
pub read_of_get : {F T S : Type 0} {f : Folders F} {docs : Docs} {old new : F} (id : List ℕ) (fault : DocFault) → Tells (f.disk old) (f.disk new) MovesNone
    → CountsFor (doc.Gate gate.DiskFault) (f.faults old) (f.faults new) (failed T fault)
    → (is_deleted (last_of docs id) ≡ true → failed T fault ≡ Err doc.Deleted)
    → IfTold (f.disk old) (λ d. (n : FileName) (at : ℕ) → failed T fault ≡ Err (doc.Gate (gate.Damaged n at)) → (n ≡ name_of (file_of docs)) × IsSpoiled id (bytes_in docs d.now) (last_of docs id) at)
    → ((history : List Write) → IfTold (f.disk old) (λ d. AreAt docs d.now history → (n : FileName) (at : ℕ) → failed T fault ≡ Err (doc.Gate (gate.Damaged n at)) → ⊥))
    → (fault ≡ doc.Missing) ⊎ (fault ≡ doc.Deleted) ⊎ (fault ≡ doc.Gate gate.DiskFault) ⊎ (fault ≡ doc.NoMemory) ⊎ ((name : FileName) × (at : ℕ) × (fault ≡ doc.Gate (gate.Damaged name at)))
    → Reads f {T = S} docs old new (Err (halted_as fault))
read_of_get {T = T} {f = f} {docs = docs} {old = old} {new = new} id fault none cause deleted damaged sound faults = record { disk = none; why = why_of_get T f docs old new id fault cause deleted damaged sound faults; later = cause.later }
