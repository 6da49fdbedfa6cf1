-- A write, as the documents stored it or refused it, is what the request does.
use Rattle.std.specs.Prelude.{OnOk}
use Rattle.std.specs.Result.{IsErrAnd}
use Rattle.std.proofs.lemmas.Result.{err_from_is_err_and}
use Rattle.std.proofs.Common.{◌≡◌, ◌≢◌, ◌⊎◌, ◌++◌, ℕ, List, ◌∷◌, inl, inr, Result, Ok, Err, Option, Some, None, refl, sym, ap, ◌∙◌, subst, arith}
use Rattle.json_terms.specs.Json.{Json}
use Rattle.view_ports.specs.Disk.{IfTold}
use Rattle.view_ports.specs.File.{File}
use Rattle.view_ports.specs.Lines.{ended}
use Rattle.view_ports.specs.declared.file_name.FileName.{FileName}
use Rattle.view_ports.specs.declared.folder.Folder.{Ghosts as Folders}
use Rattle.view_ports.proofs.Told.{told_after, told_all, told_now}
use Rattle.gate_file.specs.declared.fault.GateFault.{GateFault}
use Rattle.gate_file.specs.declared.fault.GateFault.TheVariants as gate
use Rattle.gate_file.specs.GateFile.{length_of, name_of}
use Rattle.doc_file.specs.declared.docs.Docs.{Docs}
use Rattle.doc_file.specs.declared.fault.DocFault.{DocFault}
use Rattle.doc_file.specs.declared.fault.DocFault.TheVariants as doc
use Rattle.doc_file.specs.declared.rev.Rev.{Rev}
use Rattle.doc_file.specs.Calls.{Writes}
use Rattle.doc_file.specs.Docs.{file_of, IsAt as AreAt, IsSame}
use Rattle.design_docs.specs.History.{Write}
use Rattle.doc_file.specs.Stored.{write_of}
use Rattle.doc_file.specs.Writes.{IsFileFault}
use Rattle.view_engine.specs.declared.halt.Halt.{Halt}
use Rattle.view_engine.specs.declared.halt.Halt.TheVariants.{Refused, Stopped}
use Rattle.view_engine.specs.declared.halt.StepFault.{StepFault}
use Rattle.view_engine.specs.declared.halt.StepFault.TheVariants.{DiskFault, Damaged, Full, NoMemory}
use Rattle.view_engine.specs.declared.refusal.Refusal.{Refusal}
use Rattle.view_engine.specs.declared.request.Request.{Request}
use Rattle.view_engine.specs.Calls.{ActsHere, DoesHere, DoesHereBy, IsRefusedHere, IsReplyLine, IsUnlikeFault, LeavesWorld}
use Rattle.view_engine.specs.Disks.{AreOpen, IfStopped, IsReason, KeepsDocuments, OverWorld}
use Rattle.view_engine.specs.Halts.{halted_as, Fits, FitsFor, GoesOn, IsFull, IsFullFor, LeavesFiles, Writes as WritesOne}
use Rattle.view_engine.specs.InMemory.{IsAcceptedBy, IsRefusedBy, IsReplyBy, IsWritten, IsWrittenBy}
use Rattle.view_engine.specs.Steps.{IsWrite}
use Rattle.view_engine.specs.World.{written, World}
use Rattle.view_engine.proofs.Around.{moves_around}
use Rattle.view_engine.proofs.Following.{follows_halt, untouched}
use Rattle.view_engine.proofs.OnDisk.{documents_same, documents_still}
use Rattle.view_engine.proofs.SameDocs.{IsAt-same}
use Rattle.view_engine.proofs.ServerFaults.{err_unblamed, halted_unblamed}
use Rattle.view_engine.proofs.Still.{still_written}

-- memory ran out before anything was called
pub spent_here : {F : Type 0} {f : Folders F} {docs : Docs} {old : F} {request : Request} {out out' : List ℕ} {result : Result (Unit {0}) Halt}
    → AreOpen f docs old → out' ≡ out → IsErrAnd result (λ halt. halt ≡ Stopped NoMemory) → ActsHere f docs docs old old request out out' result
spent_here {f = f} {docs = docs} {old = old} {request = request} {out = out} {out' = out'} {result = result} is_open silent is =
    let err = err_from_is_err_and result is in
    let spent : result ≡ Err (Stopped NoMemory) = err.1 ∙ ap Err err.2 in
    subst (λ (r : Result (Unit {0}) Halt). ActsHere f docs docs old old request out out' r) (sym spent) (record {
      does = λ world at. record { after = world; is_at = at; allowed = told_all (f.disk old) (λ d. world ≡ world) (λ d. refl) };
      silent = silent;
      unblamed = λ never. cc;
      follows = untouched docs old (Ok request);
      fits = tt;
      disk = documents_still is_open;
      why = tt;
      later = omega arith;
    })

module _ {F : Type 0} (f : Folders F) (docs docs' : Docs) (old new : F) (request : Request) (out out' : List ℕ) where
  -- what a halt is answered by
  halted_here : (halt : Halt)
      → ((refusal : Refusal) → halt ≡ Refused refusal → OverWorld f docs old (λ world. LeavesWorld f docs' old new (λ after. (after ≡ world) × IsRefusedHere world request refusal)))
      → (halt ≡ Stopped NoMemory → OverWorld f docs old (λ world. LeavesWorld f docs' old new (λ after. after ≡ world)))
      → DoesHereBy f docs docs' old new request out out' (Err halt)
  halted_here (Refused refusal) refused spent = refused refusal refl
  halted_here (Stopped NoMemory) refused spent = spent refl
  halted_here (Stopped DiskFault) refused spent = tt
  halted_here (Stopped (Damaged name at)) refused spent = tt
  halted_here (Stopped (Full name length)) refused spent = tt

  full_of : (id : List ℕ) (content : Option Json) (fault : DocFault) (Accepted : Type 0) (IsRefused : DocFault → Type 0) (name : FileName) (length : Option ℕ) → fault ≡ doc.Gate (gate.Full name length)
      → IsFileFault (file_of docs) fault → Writes f docs docs' old new id content Accepted IsRefused (Err fault) → IsFull docs id content name length
  full_of id content fault Accepted IsRefused name None is (inl failed) stored = absurd (let never : ⊥ = cc in never)
  full_of id content fault Accepted IsRefused name (Some length) is (inl failed) stored = absurd (let never : ⊥ = cc in never)
  full_of id content fault Accepted IsRefused name None is (inr (inl full)) stored = absurd (let never : ⊥ = cc in never)
  full_of id content fault Accepted IsRefused name (Some length) is (inr (inl full)) stored =
      (let same : name ≡ name_of (file_of docs) = cc in same, let same : length ≡ length_of (file_of docs) = cc in same, stored.stored.long (ap Err full))
  full_of id content fault Accepted IsRefused name None is (inr (inr full)) stored = (let same : name ≡ name_of (file_of docs) = cc in same, (stored.stored.spent (ap Err full)).0, (stored.stored.spent (ap Err full)).1)
  full_of id content fault Accepted IsRefused name (Some length) is (inr (inr full)) stored = absurd (let never : ⊥ = cc in never)

  module _ (id : List ℕ) (content : Option Json) (Accepted : Type 0) (IsRefused : DocFault → Type 0) (reply : List ℕ)
      (does : (files : FileName → File) (world : World) → AreAt docs files world.history → Accepted → DoesHere world request reply (written world (write_of world.history id content)))
      (writes : (files : FileName → File) (world : World) → AreAt docs files world.history → Accepted → IsWrite world (Ok request) (write_of world.history id content)) (is_write : WritesOne (Ok request))
      (accepts : Accepted → IsAcceptedBy docs request) (prints : IsReplyBy f docs old request reply) (has : IsWritten docs docs' id content → IsWrittenBy docs docs' request) where
    abbrev Side : Result Rev DocFault → Type 0
    Side = Writes f docs docs' old new id content Accepted IsRefused

    disk_moved : {GivenUp GoesOn : Type 0} (result : Result Rev DocFault) → Accepted → (GivenUp → ⊥) → (GoesOn → AreOpen f docs' new) → Side result → KeepsDocuments f docs docs' old new (Ok request) GivenUp GoesOn
    disk_moved result accepted ungiven opens stored = record {
      moved = λ world at. moves_around world (Ok request) (write_of world.history id content) (λ files. OnOk result (AreAt docs' files (write_of world.history id content ∷ world.history))) (f.disk old) (f.disk new)
          (told_now (f.disk old) (λ d. AreAt docs d.now world.history) (λ d. IsWrite world (Ok request) (write_of world.history id content)) (λ d is. writes d.now world is accepted) at) (stored.stored.stands world.history at);
      own = stored.stored.others;
      read = λ never. absurd (never is_write);
      unmoved = λ given. absurd (ungiven given);
      still = λ world at never. still_written (f.disk old) (f.disk new) world (Ok request) (write_of world.history id content) _
          (told_now (f.disk old) (λ d. AreAt docs d.now world.history) (λ d. IsWrite world (Ok request) (write_of world.history id content)) (λ d is. writes d.now world is accepted) at)
          never (stored.stored.stands world.history at);
      is_open = opens;
    }

    -- an accepted write
    pub stored_done : (rev : Rev) → (Fits docs id content → FitsFor docs (Ok request)) → IsReplyLine reply → IsUnlikeFault (Ok request) reply → out' ≡ out ++ ended reply → Side (Ok rev) → ActsHere f docs docs' old new request out out' (Ok tt)
    stored_done rev fits line unlike appended stored = record {
      does = record {
        reply = reply;
        line = line;
        appended = appended;
        unlike = unlike;
        does = λ world at. record {
          after = written world (write_of world.history id content);
          is_at = told_after (f.disk old) (f.disk new) (λ d. AreAt docs d.now world.history) (λ d. AreAt docs' d.now (write_of world.history id content ∷ world.history)) _ (λ a b is moves. moves.ended) at (stored.stored.stands world.history at);
          allowed = told_now (f.disk old) (λ d. AreAt docs d.now world.history) (λ d. DoesHere world request reply (written world (write_of world.history id content)))
              (λ d is. does d.now world is stored.accepted) at;
        };
      };
      silent = tt;
      unblamed = λ never. cc;
      follows = record { accepted = accepts stored.accepted; reply = reply; is = prints; appended = appended; kept = λ none. absurd (none is_write); wrote = has (rev, stored.stored.wrote) };
      fits = fits (record { short = stored.stored.short; few = stored.stored.few });
      disk = disk_moved (Ok rev) stored.accepted (λ never. never) (λ goes. stored.stored.is_open) stored;
      why = tt;
      later = stored.stored.cause.later;
    }

    module _ (not_of_file : (fault : GateFault) → IsRefused (doc.Gate fault) → ⊥)
        (refuses : (fault : DocFault) → IsRefused fault ⊎ IsFileFault (file_of docs) fault ⊎ (fault ≡ doc.NoMemory) → (refusal : Refusal) → halted_as fault ≡ Refused refusal → IsRefusedBy docs request refusal)
        (refused : (files : FileName → File) (world : World) → AreAt docs files world.history → (refusal : Refusal) → IsRefusedBy docs request refusal → IsRefusedHere world request refusal)
        (full : (name : FileName) (length : Option ℕ) → IsFull docs id content name length → IsFullFor docs (Ok request) name length) (fits : Fits docs id content → FitsFor docs (Ok request)) where
      of_file : (fault : DocFault) (g : GateFault) → fault ≡ doc.Gate g → IsRefused fault ⊎ IsFileFault (file_of docs) fault ⊎ (fault ≡ doc.NoMemory) → IsFileFault (file_of docs) fault
      of_file fault g is (inl refused_so) = absurd (not_of_file g (subst IsRefused is refused_so))
      of_file fault g is (inr (inl so)) = so
      of_file fault g is (inr (inr spent)) = absurd (let never : ⊥ = cc in never)

      no_damage : (name : FileName) (at : ℕ) → IsFileFault (file_of docs) (doc.Gate (gate.Damaged name at)) → ⊥
      no_damage name at (inl is) = cc
      no_damage name at (inr (inl is)) = cc
      no_damage name at (inr (inr is)) = cc

      why_halted : (fault : DocFault) → Side (Err fault) → IfStopped (IsReason f docs old new (Ok request)) (halted_as fault)
      why_halted (doc.Gate gate.DiskFault) stored = let room = stored.stored.failed refl in (stored.stored.cause.failed refl, fits (record { short = room.0; few = room.1 }))
      why_halted (doc.Gate (gate.Damaged name at)) stored = absurd (no_damage name at (of_file (doc.Gate (gate.Damaged name at)) (gate.Damaged name at) refl stored.refused))
      why_halted (doc.Gate (gate.Full name length)) stored =
          let so = of_file (doc.Gate (gate.Full name length)) (gate.Full name length) refl stored.refused in (
            full name length (full_of id content (doc.Gate (gate.Full name length)) Accepted IsRefused name length refl so stored),
            λ world. told_all (f.disk old) (λ d. AreAt docs d.now world.history → (write : Write) × IsWrite world (Ok request) write)
                (λ d at. (write_of world.history id content, writes d.now world at (stored.reached so))),
          )
      why_halted (doc.Gate gate.NoMemory) stored = tt
      why_halted doc.NoMemory stored = tt
      why_halted doc.BadId stored = tt
      why_halted (doc.BadMember name) stored = tt
      why_halted doc.BadRev stored = tt
      why_halted doc.TooLarge stored = tt
      why_halted doc.TooDeep stored = tt
      why_halted (doc.BadDesign fault) stored = tt
      why_halted doc.Conflict stored = tt
      why_halted doc.Missing stored = tt
      why_halted doc.Deleted stored = tt

      -- a fault of a write that isn't want of memory comes only of one that is accepted
      met_accepted : (fault : DocFault) → Side (Err fault) → (step : StepFault) → halted_as fault ≡ Stopped step → step ≢ NoMemory → IsAcceptedBy docs request
      met_accepted (doc.Gate gate.NoMemory) stored step is other = absurd (other (let same : step ≡ NoMemory = cc in same))
      met_accepted (doc.Gate g) stored step is other = accepts (stored.reached (of_file (doc.Gate g) g refl stored.refused))
      met_accepted doc.NoMemory stored step is other = absurd (other (let same : step ≡ NoMemory = cc in same))
      met_accepted doc.BadId stored step is other = absurd (let never : ⊥ = cc in never)
      met_accepted (doc.BadMember name) stored step is other = absurd (let never : ⊥ = cc in never)
      met_accepted doc.BadRev stored step is other = absurd (let never : ⊥ = cc in never)
      met_accepted doc.TooLarge stored step is other = absurd (let never : ⊥ = cc in never)
      met_accepted doc.TooDeep stored step is other = absurd (let never : ⊥ = cc in never)
      met_accepted (doc.BadDesign fault) stored step is other = absurd (let never : ⊥ = cc in never)
      met_accepted doc.Conflict stored step is other = absurd (let never : ⊥ = cc in never)
      met_accepted doc.Missing stored step is other = absurd (let never : ⊥ = cc in never)
      met_accepted doc.Deleted stored step is other = absurd (let never : ⊥ = cc in never)

      no_going_on : (fault : DocFault) → fault ≡ doc.Gate gate.DiskFault → GoesOn (halted_as fault) → ⊥
      no_going_on fault is goes = subst (λ (e : DocFault). GoesOn (halted_as e)) is goes

      no_files_left : (fault : DocFault) → fault ≡ doc.Gate gate.DiskFault → LeavesFiles (halted_as fault) → ⊥
      no_files_left fault is leaves = subst (λ (e : DocFault). LeavesFiles (halted_as e)) is leaves

      goes_on : (halt going : Halt) → halt ≡ going → GoesOn going → GoesOn halt
      goes_on halt going is = subst GoesOn (sym is)

      abbrev stands_still_at : (same : IsSame docs docs' × (new ≡ old)) (world : World) → IfTold (f.disk old) (λ d. AreAt docs d.now world.history) → IfTold (f.disk new) (λ d. AreAt docs' d.now world.history)
      stands_still_at same world at = subst (λ (folder : F). IfTold (f.disk folder) (λ d. AreAt docs' d.now world.history)) (sym same.1)
          (told_now (f.disk old) (λ d. AreAt docs d.now world.history) (λ d. AreAt docs' d.now world.history) (λ d is. IsAt-same docs docs' d.now same.0 world.history is) at)

      -- a write that the documents refused, or that failed
      pub stored_halted : (fault : DocFault) → out' ≡ out → AreOpen f docs old → Side (Err fault) → ActsHere f docs docs' old new request out out' (Err (halted_as fault))
      stored_halted fault silent is_open stored = elim stored.kept [
        | inl so ↦ record {
          does = halted_here (halted_as fault) (λ refusal is. absurd (no_going_on fault so (goes_on (halted_as fault) (Refused refusal) is tt)))
              (λ is. absurd (no_going_on fault so (goes_on (halted_as fault) (Stopped NoMemory) is tt)));
          silent = silent;
          unblamed = err_unblamed (halted_as fault) (halted_unblamed fault);
          follows = follows_halt f docs docs' old new out out' request (halted_as fault) (refuses fault stored.refused) (met_accepted fault stored) (inl (ap halted_as so, is_write));
          fits = tt;
          disk = disk_moved (Err fault) (stored.reached (inl so)) (no_files_left fault so) (λ goes. absurd (no_going_on fault so goes)) stored;
          why = why_halted fault stored;
          later = stored.stored.cause.later;
        }
        | inr same ↦ record {
          does = halted_here (halted_as fault)
              (λ refusal is world at. record {
                after = world;
                is_at = stands_still_at same world at;
                allowed = told_now (f.disk old) (λ d. AreAt docs d.now world.history) (λ d. (world ≡ world) × IsRefusedHere world request refusal)
                    (λ d here. (refl, refused d.now world here refusal (refuses fault stored.refused refusal is))) at;
              })
              (λ is world at. record {
                after = world;
                is_at = stands_still_at same world at;
                allowed = told_all (f.disk old) (λ d. world ≡ world) (λ d. refl);
              });
          silent = silent;
          unblamed = err_unblamed (halted_as fault) (halted_unblamed fault);
          follows = follows_halt f docs docs' old new out out' request (halted_as fault) (refuses fault stored.refused) (met_accepted fault stored) (inr (record { documents = same.0; folder = λ other. same.1 }));
          fits = tt;
          disk = documents_same same is_open;
          why = why_halted fault stored;
          later = stored.stored.cause.later;
        }
      ]

-- ---- as the request functions cite them

module _ {F : Type 0} {f : Folders F} {docs docs' : Docs} {old new : F} {request : Request} {out out' : List ℕ} {id : List ℕ} {content : Option Json} {Accepted : Type 0} {IsRefused : DocFault → Type 0}
    (reply : List ℕ)
    (does : (files : FileName → File) (world : World) → AreAt docs files world.history → Accepted → DoesHere world request reply (written world (write_of world.history id content)))
    (writes : (files : FileName → File) (world : World) → AreAt docs files world.history → Accepted → IsWrite world (Ok request) (write_of world.history id content)) (is_write : WritesOne (Ok request))
    (accepts : Accepted → IsAcceptedBy docs request) (prints : IsReplyBy f docs old request reply) (has : IsWritten docs docs' id content → IsWrittenBy docs docs' request) where
  pub wrote_here : {rev : Rev} → (Fits docs id content → FitsFor docs (Ok request)) → IsReplyLine reply → IsUnlikeFault (Ok request) reply → out' ≡ out ++ ended reply → Writes f docs docs' old new id content Accepted IsRefused (Ok rev) → ActsHere f docs docs' old new request out out' (Ok tt)
  wrote_here {rev} = stored_done f docs docs' old new request out out' id content Accepted IsRefused reply does writes is_write accepts prints has rev

  pub unwritten_here : {fault : DocFault} → ((g : GateFault) → IsRefused (doc.Gate g) → ⊥)
      → ((e : DocFault) → IsRefused e ⊎ IsFileFault (file_of docs) e ⊎ (e ≡ doc.NoMemory) → (refusal : Refusal) → halted_as e ≡ Refused refusal → IsRefusedBy docs request refusal)
      → ((files : FileName → File) (world : World) → AreAt docs files world.history → (refusal : Refusal) → IsRefusedBy docs request refusal → IsRefusedHere world request refusal)
      → ((name : FileName) (length : Option ℕ) → IsFull docs id content name length → IsFullFor docs (Ok request) name length) → (Fits docs id content → FitsFor docs (Ok request))
      → out' ≡ out → AreOpen f docs old → Writes f docs docs' old new id content Accepted IsRefused (Err fault) → ActsHere f docs docs' old new request out out' (Err (halted_as fault))
  unwritten_here {fault} not_of_file refuses refused full fits = stored_halted f docs docs' old new request out out' id content Accepted IsRefused reply does writes is_write accepts prints has not_of_file refuses refused full fits fault
