-- What a write promises that was stored, or refused before anything was called.
use Rattle.std.specs.Prelude.{IfErr}
use Rattle.std.specs.Result.{IsErrAnd}
use Rattle.std.proofs.lemmas.Result.{err_from_is_err_and}
use Rattle.std.proofs.Common.{◌≡◌, ◌⊎◌, ℕ, List, Result, Ok, Err, Option, inl, inr, refl, sym, subst, ⊎_elim, arith}
use Rattle.json_terms.specs.Json.{Json}
use Rattle.view_ports.specs.declared.folder.Folder.{Ghosts as Folders}
use Rattle.view_ports.proofs.Told.{told_all}
use Rattle.gate_file.specs.declared.fault.GateFault.{GateFault}
use Rattle.gate_file.specs.declared.fault.GateFault.TheVariants.{DiskFault}
use Rattle.gate_file.specs.Calls.{too_long, used_up}
use Rattle.doc_file.specs.declared.docs.Docs.{Docs}
use Rattle.doc_file.specs.declared.fault.DocFault.{DocFault}
use Rattle.doc_file.specs.declared.fault.DocFault.TheVariants.{Gate, NoMemory}
use Rattle.doc_file.specs.declared.rev.Rev.{Rev}
use Rattle.doc_file.specs.Calls.{IsUntouched, Stores, Writes}
use Rattle.doc_file.specs.Docs.{file_of}
use Rattle.doc_file.specs.Stored.{write_of}
use Rattle.doc_file.specs.Writes.{IsFileFault}
use Rattle.doc_file.proofs.Storing.{others_still, stays_at}

module _ {F : Type 0} (f : Folders F) (docs : Docs) (folder : F) (id : List ℕ) (content : Option Json) where
  -- nothing was called
  unstored : (fault : DocFault) → ((g : GateFault) → fault ≡ Gate g → ⊥) → Stores f docs docs folder folder id content (Err fault)
  unstored fault other = record {
    wrote = tt;
    is_open = told_all (f.disk folder) (λ d. Unit {0}) (λ d. tt);
    stands = λ history at. stays_at docs (f.disk folder) history (write_of history id content) (λ files. Unit {0}) (λ files. tt) at;
    others = others_still (f.disk folder);
    long = λ is. absurd (other (too_long (file_of docs)) (let same : fault ≡ Gate (too_long (file_of docs)) = cc in same));
    short = tt;
    spent = λ is. absurd (other (used_up (file_of docs)) (let same : fault ≡ Gate (used_up (file_of docs)) = cc in same));
    few = tt;
    failed = λ is. absurd (other DiskFault (let same : fault ≡ Gate DiskFault = cc in same));
    cause = record { later = omega arith; failed = λ is. absurd (other DiskFault is); still = λ spared. refl };
    reads = refl;
  }

-- a write that was refused, or for which memory ran out, before anything was called
pub unwritten : {F : Type 0} {f : Folders F} {docs : Docs} {folder : F} {id : List ℕ} {content : Option Json} {Accepted : Type 0} {IsRefused Is : DocFault → Type 0} {result : Result Rev DocFault}
    → ((g : GateFault) → IsRefused (Gate g) → ⊥) → IsErrAnd result Is → ((fault : DocFault) → Is fault → IsRefused fault ⊎ (fault ≡ NoMemory))
    → Writes f docs docs folder folder id content Accepted IsRefused result
unwritten {f = f} {docs = docs} {folder = folder} {id = id} {content = content} {Accepted = Accepted} {IsRefused = IsRefused} {result = result} not_of_file is_err refused =
    let err = err_from_is_err_and result is_err in
    let fault = err.0 in
    let why = refused fault err.2 in
    let no_gate : (g : GateFault) → fault ≡ Gate g → ⊥ = λ g is. ⊎_elim (λ so. not_of_file g (subst IsRefused is so)) (λ spent. let never : ⊥ = cc in never) why in
    subst (λ (r : Result Rev DocFault). Writes f docs docs folder folder id content Accepted IsRefused r) (sym err.1) (record {
      accepted = tt;
      refused = ⊎_elim (λ so. inl so) (λ spent. inr (inr spent)) why;
      kept = inr (record { file = refl; seq = refl; entries = refl }, refl);
      reached = λ of_file. absurd (no_gate_fault docs fault no_gate of_file);
      stored = unstored f docs folder id content fault no_gate;
    })
  where
    no_gate_fault : (docs : Docs) (fault : DocFault) → ((g : GateFault) → fault ≡ Gate g → ⊥) → IsFileFault (file_of docs) fault → ⊥
    no_gate_fault docs fault other (inl is) = other _ is
    no_gate_fault docs fault other (inr (inl is)) = other _ is
    no_gate_fault docs fault other (inr (inr is)) = other _ is

-- an accepted write, stored or not
module _ {F : Type 0} (f : Folders F) (docs docs' : Docs) (old new : F) (id : List ℕ) (content : Option Json) (Accepted : Type 0) (IsRefused : DocFault → Type 0) (accepted : Accepted) where
  stored_so : (result : Result Rev DocFault) → IfErr result (λ e. (e ≡ Gate DiskFault) ⊎ IsUntouched docs docs' old new) → IfErr result (λ e. IsFileFault (file_of docs) e ⊎ (e ≡ NoMemory))
      → Stores f docs docs' old new id content result → Writes f docs docs' old new id content Accepted IsRefused result
  stored_so (Ok rev) kept faults stored = record { accepted = accepted; refused = tt; kept = tt; reached = tt; stored = stored }
  stored_so (Err fault) kept faults stored = record {
    accepted = tt;
    refused = inr faults;
    kept = kept;
    reached = λ of_file. accepted;
    stored = stored;
  }

pub written : {F : Type 0} {f : Folders F} {docs docs' : Docs} {old new : F} {id : List ℕ} {content : Option Json} {Accepted : Type 0} {IsRefused : DocFault → Type 0} {result : Result Rev DocFault}
    → Accepted → IfErr result (λ e. (e ≡ Gate DiskFault) ⊎ IsUntouched docs docs' old new) → IfErr result (λ e. IsFileFault (file_of docs) e ⊎ (e ≡ NoMemory))
    → Stores f docs docs' old new id content result → Writes f docs docs' old new id content Accepted IsRefused result
written {f = f} {docs = docs} {docs' = docs'} {old = old} {new = new} {id = id} {content = content} {Accepted = Accepted} {IsRefused = IsRefused} {result = result} accepted =
    stored_so f docs docs' old new id content Accepted IsRefused accepted result
