-- Which puts and deletions are accepted, and what an accepted one writes.
use Rattle.std.specs.Prelude.{◌≡◌, ◌⊎◌, ℕ, List, Bool, true, false, Option, Some, None, if◌then◌else◌}
use Rattle.json_terms.specs.Json.{Json}
use Rattle.view_ports.specs.Stored.{IsRevision}
use Rattle.gate_file.specs.declared.gate.GateFile.{GateFile}
use Rattle.gate_file.specs.declared.fault.GateFault.TheVariants.{DiskFault}
use Rattle.gate_file.specs.Calls.{too_long, used_up}
use Rattle.doc_file.specs.declared.fault.DocFault.{DocFault}
use Rattle.doc_file.specs.declared.fault.DocFault.TheVariants.{BadRev, Conflict, Gate}
use Rattle.doc_file.specs.Accepted.{State, put_conflicts, delete_refusal}
use Rattle.doc_file.specs.Content.{content}
use Rattle.doc_file.specs.Incoming.{IsUnfit, IsWritable, deletes, given_revision}

-- why the state of its id refuses a write, which is a deletion or puts a document
abbrev pub write_refusal : State → Bool → Option (List ℕ) → Option DocFault
write_refusal state true given = delete_refusal state given
write_refusal state false given = if put_conflicts state given then Some Conflict else None

-- a put is refused where the document isn't fit, and else where the state of its id refuses it
abbrev pub IsRefusedPut : State → Json → DocFault → Type 0
IsRefusedPut state document fault = IsUnfit document fault ⊎ (IsWritable document × (write_refusal state (deletes document) (given_revision document) ≡ Some fault))

pub record IsAcceptedPut (state : State) (document : Json) : Type 0 where
  pub writable : IsWritable document
  pub accepted : write_refusal state (deletes document) (given_revision document) ≡ None

-- what is stored of a document that is put, but for its revision; of a deletion nothing
abbrev pub content_of : Json → Option Json
content_of document = if deletes document then None else Some (content document)

-- no revision is given, or a text of the form of one
abbrev pub IsGiven : Option (List ℕ) → Type 0
IsGiven None = Unit {0}
IsGiven (Some text) = IsRevision text

-- a deletion is refused where its revision has another form, and else where the state of its id refuses it
abbrev pub IsRefusedDelete : State → Option (List ℕ) → DocFault → Type 0
IsRefusedDelete state given fault = ((fault ≡ BadRev) × (IsGiven given → ⊥)) ⊎ (IsGiven given × (delete_refusal state given ≡ Some fault))

pub record IsAcceptedDelete (state : State) (given : Option (List ℕ)) : Type 0 where
  pub formed : IsGiven given
  pub accepted : delete_refusal state given ≡ None

-- the disk failed, or the file would be too long, or has all of its commits
abbrev pub IsFileFault : GateFile → DocFault → Type 0
IsFileFault file fault = (fault ≡ Gate DiskFault) ⊎ (fault ≡ Gate (too_long file)) ⊎ (fault ≡ Gate (used_up file))
