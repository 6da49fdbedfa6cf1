-- What a write of the documents promises, whole: the next write of an id is stored, or refused, or a fault came.
use Rattle.std.specs.Prelude.{◌≡◌, ◌⊎◌, ◌+◌, ◌<◌, ◌≤◌, ◌^◌, ◌∷◌, ℕ, List, Result, Err, Option, None, IfErr, IfOk, OnOk}
use Rattle.json_terms.specs.Json.{Json}
use Rattle.view_ports.specs.Disk.{IfTold, Moves, Tells}
use Rattle.view_ports.specs.declared.folder.Folder.{Ghosts as Folders}
use Rattle.gate_file.specs.declared.fault.GateFault.TheVariants.{DiskFault}
use Rattle.gate_file.specs.Calls.{too_long, used_up}
use Rattle.gate_file.specs.GateFile.{commits_of, start_of}
use Rattle.design_docs.specs.Documents.{id_of}
use Rattle.doc_file.specs.declared.docs.Docs.{Docs}
use Rattle.doc_file.specs.declared.fault.DocFault.{DocFault}
use Rattle.doc_file.specs.declared.fault.DocFault.TheVariants.{Gate, NoMemory}
use Rattle.doc_file.specs.declared.incoming.Incoming.{Incoming}
use Rattle.doc_file.specs.declared.rev.Rev.{Rev}
use Rattle.doc_file.specs.Accepted.{state_in}
use Rattle.doc_file.specs.Docs.{entries_of, file_of, last_of, seq_of, IsAt, IsDocsFile, IsOpen, IsSame}
use Rattle.doc_file.specs.Held.{Stands}
use Rattle.design_docs.specs.History.{Write}
use Rattle.doc_file.specs.Reads.{IsCounted}
use Rattle.doc_file.specs.Stored.{next_rev, revised, size_of, with_last, write_of, last_of as kept_of}
use Rattle.doc_file.specs.Writes.{content_of, write_refusal, IsAcceptedDelete, IsAcceptedPut, IsFileFault, IsRefusedDelete, IsRefusedPut}

-- the length of the documents' file with the next write of an id
abbrev pub length_with : Docs → List ℕ → Option Json → ℕ
length_with docs id content = start_of (file_of docs) + size_of (start_of (file_of docs)) (seq_of docs) (entries_of docs) id content

-- why the last write of its id refuses a document that is put
abbrev pub refusal_of : Docs → Incoming → Option DocFault
refusal_of docs incoming = write_refusal (state_in (last_of docs incoming.id)) incoming.deletes incoming.given

-- the documents and the folder are as they were
abbrev pub IsUntouched : {F : Type 0} → Docs → Docs → F → F → Type 0
IsUntouched docs docs' old new = IsSame docs docs' × (new ≡ old)

-- the documents have one write more, the next of this id: its content under this revision
pub record HasWritten (docs docs' : Docs) (id : List ℕ) (content : Option Json) (rev : Rev) : Type 0 where
  pub next : rev ≡ next_rev (seq_of docs) (entries_of docs) id
  pub counted : seq_of docs' ≡ seq_of docs + 1
  pub entered : entries_of docs' ≡ with_last id (kept_of (start_of (file_of docs)) rev (revised content rev)) (entries_of docs)

module _ {F : Type 0} (f : Folders F) (docs docs' : Docs) (old new : F) where
  -- the next write of an id, stored or not
  pub record Stores (id : List ℕ) (content : Option Json) (result : Result Rev DocFault) : Type 0 where
    -- whatever the files hold, the object has the write under its revision
    pub wrote : IfOk result (HasWritten docs docs' id content)
    pub is_open : IfTold (f.disk new) (λ d. OnOk result (IsOpen docs' d.now))
    -- a crash leaves the history before the write or with it, and once the revision is answered the latter
    pub stands : (history : List Write) → IfTold (f.disk old) (λ d. IsAt docs d.now history) → Tells (f.disk old) (f.disk new)
        (Moves IsDocsFile (λ image. Stands image history ⊎ Stands image (write_of history id content ∷ history))
        (λ files. OnOk result (IsAt docs' files (write_of history id content ∷ history))))
    -- whatever the files hold, those of other names are as they were
    pub others : Tells (f.disk old) (f.disk new) (Moves IsDocsFile (λ image. Unit {0}) (λ files. Unit {0}))
    -- the file is full exactly where it would be too long, and else where it has all of its commits
    pub long : result ≡ Err (Gate (too_long (file_of docs))) → 2 ^ 40 < length_with docs id content
    pub short : OnOk result (length_with docs id content ≤ 2 ^ 40)
    pub spent : result ≡ Err (Gate (used_up (file_of docs))) → (2 ^ 50 ≤ commits_of (file_of docs)) × (length_with docs id content ≤ 2 ^ 40)
    pub few : OnOk result (commits_of (file_of docs) < 2 ^ 50)
    -- and a fault of the disk doesn't come in its place
    pub failed : result ≡ Err (Gate DiskFault) → (length_with docs id content ≤ 2 ^ 40) × (commits_of (file_of docs) < 2 ^ 50)
    pub cause : IsCounted f old new result
    pub reads : f.reads new ≡ f.reads old

  -- a put or a deletion, by the rules that accept and refuse it
  pub record Writes (id : List ℕ) (content : Option Json) (Accepted : Type 0) (IsRefused : DocFault → Type 0) (result : Result Rev DocFault) : Type 0 where
    pub accepted : OnOk result Accepted
    pub refused : IfErr result (λ e. IsRefused e ⊎ IsFileFault (file_of docs) e ⊎ (e ≡ NoMemory))
    -- all but a fault of the disk leaves all as it was, and a fault of the file comes only of an accepted write
    pub kept : IfErr result (λ e. (e ≡ Gate DiskFault) ⊎ IsUntouched docs docs' old new)
    pub reached : IfErr result (λ e. IsFileFault (file_of docs) e → Accepted)
    pub stored : Stores id content result

  abbrev pub Puts : Json → Result Rev DocFault → Type 0
  Puts document = Writes (id_of document) (content_of document)
      (IsAcceptedPut (state_in (last_of docs (id_of document))) document) (IsRefusedPut (state_in (last_of docs (id_of document))) document)

  abbrev pub Deletes : List ℕ → Option (List ℕ) → Result Rev DocFault → Type 0
  Deletes id given = Writes id None (IsAcceptedDelete (state_in (last_of docs id)) given) (IsRefusedDelete (state_in (last_of docs id)) given)
